use Rattle.std.proofs.Common.{Some, sym, ap, ◌∙◌}
use Rattle.grammar.proofs.Exits as x
use Rattle.grammar.proofs.parse.Parser.basic.Goals as goal

pub returns-in-Unit : goal.returns-in-Unit
returns-in-Unit c = x.unit_here c.args.self.now.cursor (ap Some (sym c.in-Unit.is) ∙ c.in_ok-kind.ensures)

pub returns-in-Bit : goal.returns-in-Bit
returns-in-Bit c = x.bit_here c.args.self.now.cursor (ap Some (sym c.in-Bit.is) ∙ c.in_ok-kind.ensures)

pub returns-in-Int : goal.returns-in-Int
returns-in-Int c = x.int_here c.args.self.now.cursor (ap Some (sym c.in-Int.is) ∙ c.in_ok-kind.ensures)

pub returns-in-Qbit : goal.returns-in-Qbit
returns-in-Qbit c = x.qbit_here c.args.self.now.cursor (ap Some (sym c.in-Qbit.is) ∙ c.in_ok-kind.ensures)
