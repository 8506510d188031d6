use Rattle.std.proofs.Common.{◌≡◌, sym, true, get_or, false, arith, length-set}
use Rattle.machine.proofs.Tally.{set_off}
use Rattle.machine.proofs.board.Board.measure.Goals as goal

pub overflow_sub-self : goal.overflow_sub-self
overflow_sub-self c = omega (arith, set_off c.args.self.now.live c.args.handle c.args.self.now.long (sym c.if-not-is_live.ensures))

pub invariant_of-self-clause-long : goal.invariant_of-self-clause-long
invariant_of-self-clause-long c = simp (length-set c.args.self.now.live c.from.result false) c.args.self.now.long

pub invariant_of-self-clause-tallied : goal.invariant_of-self-clause-tallied
invariant_of-self-clause-tallied c =
    let alive : get_or c.args.self.now.live c.from.result false ≡ true = cc in
    omega (arith, set_off c.args.self.now.live c.from.result c.args.self.now.long alive)
