-- The laws about histories, whatever the layers below the bench find of a listing.
use Rattle.std.specs.Prelude.{◌≡◌, ℕ, ◌≤◌, List, Some, None, Ok, Result}
use Rattle.machine.specs.Model.{Model, Clears}
use Rattle.need.specs.declared.Need.{Need}
use Rattle.faults.specs.declared.fault.Fault.{Fault}
use Rattle.calculus.specs.Syntax.{Value, type_of, done}
use Rattle.calculus.specs.Rules.{Same, held}
use Rattle.calculus.specs.Runs.{live_names}
use Rattle.histories.specs.Views.{Listing, RunView, View, Ended, Moment}
use Rattle.histories.specs.Calls.{Advanced, Call, load, advance, Does}
use Rattle.histories.specs.Histories.{RunSound, History, Sound, Promise, Opening}

-- any finding: the histories of every other are among its histories
abbrev pub Any : List ℕ → ℕ → Result Listing Fault → Type 0
Any bytes capacity r = Unit {0}

-- every history is sound
abbrev pub HistoriesSound : Type 0
HistoriesSound = (opening n k : ℕ) (v : View) → History Any opening n k v → Sound opening n k v

-- a call that does what it is to do keeps its promise
abbrev pub CallsKeep : Type 0
CallsKeep = (call : Call) (v : View) (xs : List Moment) (v' : View) → Does Any call v xs v' → Promise Any call v v'

-- and so does an open
abbrev pub OpenKeeps : Type 0
OpenKeeps = (m : Model) (v : View) → Clears m v.model → v.run ≡ None → Opening Any m v

-- open, load, and advance by no fewer steps than the need's: the run has ended
abbrev pub RunsEnd : Type 0
RunsEnd = (m : Model) (v₀ v₁ v₂ : View) (bytes : List ℕ) (need : Need) (count : ℕ) (r : Result Advanced Fault) →
    Opening Any m v₀ → Promise Any (load bytes (Ok need)) v₀ v₁ → Promise Any (advance count r) v₁ v₂ → need.steps ≤ count →
    (g : RunView) × (v₂.run ≡ Some g) × Ended g

-- the value of a run that has ended has the listing's type, and its handles are exactly the live ones
abbrev pub ValuesTyped : Type 0
ValuesTyped = (k : ℕ) (m : Model) (g : RunView) → RunSound k m g → (v : Value) → g.left ≡ done v → (type_of v ≡ g.listing.type) × Same (held v) (live_names m)
