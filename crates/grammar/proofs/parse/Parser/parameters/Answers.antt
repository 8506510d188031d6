use Rattle.std.proofs.Common.{sym, refl, ◌∙◌}
use Rattle.grammar.specs.Reading as reading
use Rattle.grammar.proofs.Growth.{fails, by}
use Rattle.grammar.proofs.Headers as h
use Rattle.grammar.proofs.Headers.{same_size}
use Rattle.grammar.proofs.parse.Parser.parameters.Goals as goal

pub returns-then-holds : goal.returns-then-holds
returns-then-holds c =
    let p = c.args.self.now.cursor in
    (h.parameters_none p c.advance.new.self c.args.self.now.tree.now (sym c.if-holds.ensures) c.advance.ensures, refl)

pub returns-in_err-parameter : goal.returns-in_err-parameter
returns-in_err-parameter c =
    let p = c.args.self.now.cursor in
    (by (reading.ParametersAreRead p _ c.args.self.now.tree.now _) c.in_err-parameter.field-0.0 (fails c.in_err-parameter.field-0.0 (h.some_path p c.args.self.now.tree.now (sym c.if-holds.ensures)) c.in_err-parameter.ensures.0) c.from_residual.result c.from_residual.ensures.1, c.in_err-parameter.ensures.1)

pub returns : goal.returns
returns c =
    let p = c.args.self.now.cursor in
    (h.some_by p c.args.self.now.tree.now (sym c.if-holds.ensures) c.parameter.new.self.cursor c.more_parameters.new.self.cursor c.parameter.new.self.tree.now c.more_parameters.new.self.tree.now c.more_parameters.result c.in_ok-parameter.ensures.0 c.more_parameters.ensures.0, c.more_parameters.ensures.1 ∙ c.in_ok-parameter.ensures.1)
