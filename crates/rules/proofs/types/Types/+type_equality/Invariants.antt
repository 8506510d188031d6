-- The leaves left fall.
use Rattle.std.proofs.Common.{◌+◌, ◌*◌}
use Rattle.rules.proofs.types.Types.+type_equality.Given as goal

abbrev pub decreases-equal : goal.decreases-equal
decreases-equal l = 2 * l.left + 1

abbrev pub decreases-equal_parts : goal.decreases-equal_parts
decreases-equal_parts l = 2 * l.left
