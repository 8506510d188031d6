use Rattle.std.proofs.Common.{sym, refl, arith}
use Rattle.machine.proofs.Tally.{all_off, tally_none}
use Rattle.machine.proofs.board.Board.new.Goals as goal

pub invariant_of-result-clause-tallied : goal.invariant_of-result-clause-tallied
invariant_of-result-clause-tallied c = sym (tally_none _ 64 (all_off 64))

pub returns : goal.returns
returns c = record { capacity = omega arith; live = all_off 64; count = refl; latest = refl }
