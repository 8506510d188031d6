-- The leaves left fall.
use Rattle.std.proofs.Common.{◌+◌, ◌*◌}
use Rattle.bench_core.proofs.report.Report.+type_text.Given as goal

abbrev pub decreases-push_types : goal.decreases-push_types
decreases-push_types l = 2 * l.left

abbrev pub decreases-push_type : goal.decreases-push_type
decreases-push_type l = 2 * l.left + 1
