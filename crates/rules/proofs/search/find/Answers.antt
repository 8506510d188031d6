use Rattle.std.proofs.Common.{rules, tests, ◌∙◌}
use Rattle.std.specs.Str.{bytes_eq}
use Rattle.std.proofs.lemmas.Iterator.{YieldsList-from_slice}
use Rattle.std.proofs.lemmas.Iterator.Search.{position_from_yields_List}
use Rattle.rules.specs.Names.{part}
use Rattle.rules.proofs.Seeks.{seek_position}
use Rattle.rules.proofs.search.find.Goals as goal

pub returns : goal.returns
returns g c =
    let text = λ (e : g.row.E.Denot). part c.args.src.now (g.E.Named.starts e) (g.E.Named.spans e) in
    position_from_yields_List (λ e. bytes_eq (text e) c.args.name.now) _ _ c.position.result c.position.ensures.ran (YieldsList-from_slice c.args.entries.now c.iter.ensures.rest) (λ x b q k. search (rules, tests))
    ∙ seek_position text c.args.name.now c.args.entries.now
