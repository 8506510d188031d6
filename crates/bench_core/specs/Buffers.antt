-- What a call leaves in the caller's buffer.
use Rattle.std.specs.Prelude.{◌≡◌, ℕ, ◌<◌, ◌≤◌, List, ◌++◌, length, drop, Ok, Err, Result}
use Rattle.faults.specs.declared.fault.BenchFault.TheVariants.{Short}
use Rattle.faults.specs.declared.fault.Fault.{Fault}
use Rattle.faults.specs.declared.fault.Fault.TheVariants.{Bench}

-- the text stands at the front and the rest stays; where it does not fit, all stays
abbrev pub Copied : List ℕ → List ℕ → List ℕ → Result ℕ Fault → Type 0
Copied text before after (Ok n) = (n ≡ length text) × (n ≤ length before) × (after ≡ text ++ drop n before)
Copied text before after (Err e) = (e ≡ Bench Short) × (length before < length text) × (after ≡ before)

-- some text of the length answered stands at the front and the rest stays; a refusal leaves all
abbrev pub Fronted : List ℕ → List ℕ → Result ℕ Fault → Type 0
Fronted before after (Ok n) = (n ≤ length before) × (drop n after ≡ drop n before)
Fronted before after (Err e) = after ≡ before
