use Rattle.std.proofs.Common.{◌+◌, ◌%◌, not, rules, tests, sym, ◌∙◌, arith}
use Rattle.std.proofs.lemmas.Iterator.{YieldsList-from_range, YieldsList-from_map}
use Rattle.std.proofs.lemmas.Iterator.Search.{find_from_yields_List}
use Rattle.std.proofs.lemmas.Iterator.Adapters.{option_map_id}
use Rattle.std.proofs.lemmas.Bool.{leb-false}
use Rattle.machine.specs.Boards.{seen}
use Rattle.machine.proofs.Rounds.{first_free}
use Rattle.machine.proofs.board.Board.free_from.Goals as goal

pub returns : goal.returns
returns c =
    let b = c.args.self.now in
    let found = find_from_yields_List (λ h. not ((seen b).live h)) _ _ c.find.result c.find.ensures.ran (YieldsList-from_map _ (λ d. (c.args.start + d) % b.capacity) (YieldsList-from_range 0 b.capacity b.capacity c.map.ensures.source (omega arith)) c.map.ensures.closure (λ x r q k. search rules)) (λ x r q k. search (rules, tests)) in
    first_free (seen b) c.args.start c.find.result c.requires (leb-false _ _ (sym c.if-is_full.ensures)) (sym (option_map_id c.find.result) ∙ found)
