use Rattle.std.proofs.Common.{refl, arith}
use Rattle.syntax.proofs.Ways as w
use Rattle.grammar.specs.Reading as reading
use Rattle.grammar.proofs.Growth.{starts, goes, reads, misses, by}
use Rattle.grammar.proofs.Headers as h
use Rattle.grammar.proofs.Headers.{same_size}
use Rattle.grammar.proofs.parse.Parser.parameter.Goals as goal

pub returns-in_err-found : goal.returns-in_err-found
returns-in_err-found c =
    let p = c.args.self.now.cursor in
    (by (reading.ParameterRead p _ c.args.self.now.tree.now _) c.in_err-found.field-0.0 (misses c.in_err-found.field-0.0 (starts p c.args.self.now.tree.now (w.a_parameter p.words.now p.at p.within)) c.in_err-found.ensures) c.from_residual.result c.from_residual.ensures.1, refl)

pub returns : goal.returns
returns c =
    let p = c.args.self.now.cursor in (
      let a = c.in_ok-found.ensures in
          h.parameter_done c.expect.new.self c.args.self.now.tree.now c.add_parameter.new.self c.add_parameter.result a.2.0 (goes (reads (reads (starts p c.args.self.now.tree.now (w.a_parameter p.words.now p.at p.within)) c.in_ok-found.ensures.0 c.in_ok-found.ensures.1) c.in_ok-expect.ensures.0 c.in_ok-expect.ensures.1) c.in_ok-written.ensures.0.0) (omega arith) (omega (arith, a.0.at, c.in_ok-expect.ensures.0.at)) a.2.1 a.2.2 c.in_ok-expect.ensures.2 c.in_ok-written.ensures.0 c.add_parameter.ensures,
      c.in_ok-written.ensures.1,
    )
