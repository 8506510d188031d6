-- The items left fall.
use Rattle.std.proofs.Common.{◌+◌, ◌-◌, ◌*◌, ◌≤◌}
use Rattle.bench_core.proofs.report.Report.+value_text.Given as goal

abbrev pub decreases-push_values : goal.decreases-push_values
decreases-push_values l = 2 * (15 - l.first) + 2

abbrev pub decreases-push_value : goal.decreases-push_value
decreases-push_value l = 2 * (15 - l.from) + 1

abbrev pub invariant-push_values-loop-before : goal.invariant-push_values-loop-before
invariant-push_values-loop-before l = l.first ≤ l.from
