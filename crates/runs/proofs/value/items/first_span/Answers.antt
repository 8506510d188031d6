use Rattle.std.proofs.Common.{◌≡◌, List, [], ◌∷◌, drop, refl, arith}
use Rattle.runs.specs.Items.{passed}
use Rattle.runs.specs.declared.value.Item.{Item}
use Rattle.runs.proofs.value.items.first_span.Goals as goal

passed_none : (xs : List Item) → passed 0 xs ≡ 0
passed_none [] = refl
passed_none (x ∷ xs) = refl

pub returns-then-left-eq0-clause-span : goal.returns-then-left-eq0-clause-span
returns-then-left-eq0-clause-span c = let z = passed_none (drop c.loop-count.count c.args.items.now) in grind arith
