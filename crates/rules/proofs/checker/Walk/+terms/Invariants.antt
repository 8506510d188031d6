-- The nodes fall; a call at the same node goes to a function with a smaller number.
use Rattle.std.proofs.Common.{◌+◌, ◌*◌}
use Rattle.rules.proofs.checker.Walk.+terms.Given as goal

abbrev pub decreases-term : goal.decreases-term
decreases-term l = 4 * l.at + 2

abbrev pub decreases-parts : goal.decreases-parts
decreases-parts l = 4 * l.at

abbrev pub decreases-built : goal.decreases-built
decreases-built l = 4 * l.at + 1

abbrev pub decreases-bind_term : goal.decreases-bind_term
decreases-bind_term l = 4 * l.at + 1

abbrev pub decreases-right_side : goal.decreases-right_side
decreases-right_side l = 4 * l.right + 3

abbrev pub decreases-using_term : goal.decreases-using_term
decreases-using_term l = 4 * l.at + 1

abbrev pub decreases-if_term : goal.decreases-if_term
decreases-if_term l = 4 * l.at + 1
