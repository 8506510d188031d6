use Rattle.std.proofs.Common.{◌≡◌, true, false, get_or, arith, length-set, subst}
use Rattle.machine.specs.Boards.{seen}
use Rattle.machine.specs.Coins.{FreeFrom}
use Rattle.machine.proofs.Tally.{set_on}
use Rattle.machine.proofs.board.Board.prepare.Goals as goal

pub invariant_of-self-clause-long : goal.invariant_of-self-clause-long
invariant_of-self-clause-long c = simp (length-set c.args.self.now.live c.from.result true) c.args.self.now.long

pub invariant_of-self-clause-tallied : goal.invariant_of-self-clause-tallied
invariant_of-self-clause-tallied c =
    let p = (subst (FreeFrom (seen c.args.self.now) c.args.start) c.in_ok-handle.ensures.ok_part c.free_from.ensures).1 in
    let free : get_or c.args.self.now.live c.from.result false ≡ false = cc (p.free, c.from.ensures) in
    omega (arith, set_on c.args.self.now.live c.from.result c.args.self.now.long (omega (arith, p.place, c.from.ensures)) free)
