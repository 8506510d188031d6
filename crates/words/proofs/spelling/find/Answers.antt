use Rattle.std.proofs.Common.{◌≡◌, Bor, List, ℕ, rules, tests}
use Rattle.std.specs.Option.{option_map}
use Rattle.std.specs.Str.{bytes_eq}
use Rattle.std.proofs.lemmas.Iterator.{YieldsList-from_slice}
use Rattle.std.proofs.lemmas.Iterator.Search.{find_from_yields_List}
use Rattle.words.proofs.Lookups.{looked_up}
use Rattle.words.proofs.spelling.find.Goals as goal

pub returns : goal.returns
returns g c =
    let found = find_from_yields_List (λ row. bytes_eq row.0.now c.args.text.now) _ _ c.find.result c.find.ensures.ran (YieldsList-from_slice c.args.table.now cc) (λ x r q k. search (rules, tests)) in
    let mapped : c.map.result ≡ option_map (λ (x : Bor (Bor (List ℕ) × g.row.T.Denot)). x.now.1) c.find.result = search rules in
    looked_up c.args.text.now c.args.table.now c.find.result c.map.result found mapped
