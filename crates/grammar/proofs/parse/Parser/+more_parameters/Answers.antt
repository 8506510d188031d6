use Rattle.std.proofs.Common.{sym, refl, ◌∙◌}
use Rattle.grammar.specs.Reading as reading
use Rattle.grammar.proofs.Growth.{fails, by}
use Rattle.grammar.proofs.Headers as h
use Rattle.grammar.proofs.Headers.{same_size}
use Rattle.grammar.proofs.parse.Parser.+more_parameters.Goals as goal

pub returns-then-not-holds : goal.returns-then-not-holds
returns-then-not-holds t c =
    let p = c.args.self.now.cursor in
    (h.parameters_end_by p c.expect.new.self c.args.self.now.tree.now c.expect.result (sym c.if-not-holds.ensures) c.expect.ensures, refl)

pub returns-in_err-parameter : goal.returns-in_err-parameter
returns-in_err-parameter t c =
    let p = c.args.self.now.cursor in
    (by (reading.MoreParametersRead p _ c.args.self.now.tree.now _) c.in_err-parameter.field-0.0 (fails c.in_err-parameter.field-0.0 (h.parameters_path p c.advance.new.self c.args.self.now.tree.now (sym c.if-not-holds.ensures) c.advance.ensures) c.in_err-parameter.ensures.0) c.from_residual.result c.from_residual.ensures.1, c.in_err-parameter.ensures.1)

pub returns : goal.returns
returns t c =
    let p = c.args.self.now.cursor in
    (h.parameters_next_by p c.advance.new.self c.args.self.now.tree.now (sym c.if-not-holds.ensures) c.advance.ensures c.parameter.new.self.cursor c.more_parameters.new.self.cursor c.parameter.new.self.tree.now c.more_parameters.new.self.tree.now c.more_parameters.result c.in_ok-parameter.ensures.0 c.more_parameters.ensures.0, c.more_parameters.ensures.1 ∙ c.in_ok-parameter.ensures.1)
