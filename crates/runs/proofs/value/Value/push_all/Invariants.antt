use Rattle.std.proofs.Common.{◌≡◌, ◌++◌, take}
use Rattle.runs.specs.Items.{roomy}
use Rattle.runs.specs.Values.{held}
use Rattle.runs.proofs.value.Value.push_all.Given as goal

abbrev pub invariant-loop-item : goal.invariant-loop-item
invariant-loop-item l = held l.self ≡ roomy (held l.initial.self ++ take l.item-index l.items)
