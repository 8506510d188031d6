use Rattle.std.proofs.Common.{refl, arith}
use Rattle.syntax.specs.Machine as m
use Rattle.syntax.specs.Machine.{this}
use Rattle.syntax.proofs.Ways as w
use Rattle.grammar.proofs.Growth.{starts, reads, adds, ends}
use Rattle.grammar.proofs.Exits as x
use Rattle.grammar.proofs.Exits.{sized, is_word, finish, gains}
use Rattle.grammar.proofs.parse.Parser.name.Goals as goal

pub returns : goal.returns
returns c =
    let p = c.args.self.now.cursor in (
      let f = c.in_ok-found.ensures in
          let a = c.in_ok-add_node.ensures in
          (ends (adds p.at (reads (starts p c.args.self.now.tree.now (w.here p.words.now m.a_name p.at p.within)) c.in_ok-found.ensures.0 c.in_ok-found.ensures.1) c.in_ok-add_node.ensures.0 (omega arith) (omega arith)), omega (arith, f.0.at), (f.2.0, f.2.1, x.one_name_at c.in_ok-found.found _ a.1 a.2 a.3 f.2.2), record { parameters = a.5; operations = a.6 }),
      refl,
    )
