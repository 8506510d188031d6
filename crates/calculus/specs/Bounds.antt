-- Live handles and peak along a run, with the peak as the language words it.
use Rattle.std.specs.Prelude.{◌≡◌, List, false, ℕ, ◌≤◌, ℤ, pos, ◌+ℤ◌, length, ◌≤ℤ◌}
use Rattle.machine.specs.Model.{Model}
use Rattle.calculus.specs.Syntax.{Ty, Place, Op, Term}
use Rattle.calculus.specs.Rules.{nothing, nowhere, Has, Well}
use Rattle.calculus.specs.Steps.{Table, around, chooses}
use Rattle.calculus.specs.Laws.{Plain}
use Rattle.calculus.specs.Runs.{live_names, live_count, RunStep, Reached, Sound}
use Rattle.calculus.specs.Peak.{peak, Peaks}

-- from what is left to what a step leaves, each typed in exactly the live handles
pub record LiveAndPeak (chosen : Type 0) (live live' : ℕ) (p p' : ℤ) : Type 0 where
  -- live handles plus peak stay, but at a measurement and at an if
  pub stay : chosen → live ≤ live' → pos live +ℤ p ≡ pos live' +ℤ p'
  -- and never rise
  pub fall : (pos live' +ℤ p') ≤ℤ (pos live +ℤ p)

abbrev pub StepWithin : Type 0
StepWithin = (ops : List Op) (well : Well ops) (P : ℕ → ℤ) → Peaks ops well P → (lim : ℕ) (t t' : Term) (μ μ' : Table) (m m' : Model) (p : Place) (T : Ty) → Plain μ → Plain μ' →
    (d : Has ops lim (around μ) (live_names m) t T) → (s : RunStep ops t μ m p t' μ' m') → (d' : Has ops lim (around μ') (live_names m') t' T) →
    LiveAndPeak (chooses s.step.step ≡ false) (live_count m) (live_count m') (peak ops lim P d) (peak ops lim P d')

-- a run of a listing whose peak is within the capacity is sound, and live handles plus peak never pass the listing's peak
abbrev pub RunWithin : Type 0
RunWithin = (ops : List Op) (well : Well ops) (P : ℕ → ℤ) → Peaks ops well P → (start : Term) (T : Ty) (d₀ : Has ops (length ops) nowhere nothing start T) →
    (m₀ : Model) → ((h : ℕ) → m₀.live h ≡ false) → (peak ops (length ops) P d₀) ≤ℤ (pos m₀.capacity) →
    (k : ℕ) (t : Term) (μ : Table) (m : Model) → Reached ops start m₀ k t μ m →
    (s : Sound ops start T m₀ k t μ m) × ((pos (live_count m) +ℤ peak ops (length ops) P s.safe.typed) ≤ℤ peak ops (length ops) P d₀)
