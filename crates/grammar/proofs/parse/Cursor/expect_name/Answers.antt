use Rattle.std.proofs.Common.{[], Some, sym, refl, ap, ◌∙◌}
use Rattle.syntax.specs.Machine.{a_name}
use Rattle.syntax.specs.Grammar.{identifier}
use Rattle.syntax.proofs.Ways.{word}
use Rattle.grammar.proofs.Exits.{here, here_then, later}
use Rattle.grammar.proofs.parse.Cursor.expect_name.Goals as goal

pub returns : goal.returns
returns c =
    let p = c.args.self.now in
    let h = here p (sym c.word.ensures ∙ c.in-Some-Name.is ∙ ap Some c.in-Some-Name.field-0-is) in
    (c.advance.ensures, later (word p.words.now a_name p.at _ [] h.0 h.1 refl) c.advance.ensures, (identifier c.in-Some-Name.text c.in-Some-Name.place, (_, _, here_then h c.advance.ensures, refl), (refl, refl)))
