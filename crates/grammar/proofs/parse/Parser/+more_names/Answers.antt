use Rattle.std.proofs.Common.{sym, refl, ◌∙◌}
use Rattle.grammar.specs.Reading as reading
use Rattle.grammar.proofs.Growth.{fails, by}
use Rattle.grammar.proofs.Exits as x
use Rattle.grammar.proofs.Exits.{sized, is_word, finish, gains}
use Rattle.grammar.proofs.parse.Parser.+more_names.Goals as goal

pub returns-then-not-holds : goal.returns-then-not-holds
returns-then-not-holds t c =
    let p = c.args.self.now.cursor in
    (x.names_end_by p c.expect.new.self c.args.self.now.tree.now c.expect.result (sym c.if-not-holds.ensures) c.expect.ensures, refl)

pub returns-in_err-name : goal.returns-in_err-name
returns-in_err-name t c =
    let p = c.args.self.now.cursor in
    (by (reading.MoreNamesRead p _ c.args.self.now.tree.now _) c.in_err-name.field-0.0 (fails c.in_err-name.field-0.0 (x.names_path p c.advance.new.self c.args.self.now.tree.now (sym c.if-not-holds.ensures) c.advance.ensures) c.in_err-name.ensures.0) c.from_residual.result c.from_residual.ensures.1, c.in_err-name.ensures.1)

pub returns : goal.returns
returns t c =
    let p = c.args.self.now.cursor in
    (x.names_next_by p c.advance.new.self c.args.self.now.tree.now (sym c.if-not-holds.ensures) c.advance.ensures c.name.new.self.cursor c.more_names.new.self.cursor c.name.new.self.tree.now c.more_names.new.self.tree.now c.more_names.result c.in_ok-name.ensures.0 c.more_names.ensures.0, c.more_names.ensures.1 ∙ c.in_ok-name.ensures.1)
