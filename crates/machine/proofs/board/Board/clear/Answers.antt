use Rattle.std.proofs.Common.{sym, refl}
use Rattle.machine.proofs.Tally.{all_off, tally_none}
use Rattle.machine.proofs.board.Board.clear.Goals as goal

pub invariant_of-self-clause-tallied : goal.invariant_of-self-clause-tallied
invariant_of-self-clause-tallied c = sym (tally_none _ 64 (all_off 64))

pub returns : goal.returns
returns c = record { capacity = refl; count = refl; latest = refl; live = all_off 64 }
