-- The nodes fall.
use Rattle.rules.proofs.checker.Walk.+written.Given as goal

abbrev pub decreases-written : goal.decreases-written
decreases-written l = l.at
