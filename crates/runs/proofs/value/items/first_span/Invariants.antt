use Rattle.std.proofs.Common.{◌≡◌, ◌+◌, ◌*◌, ◌≤◌, drop}
use Rattle.runs.specs.Items.{passed}
use Rattle.runs.proofs.value.items.first_span.Given as goal

abbrev pub invariant-loop-count : goal.invariant-loop-count
invariant-loop-count l = (l.left ≤ 1 + 255 * l.count) × (l.count + passed l.left (drop l.count l.items) ≡ passed 1 l.items)
