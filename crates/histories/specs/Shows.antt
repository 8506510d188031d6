-- What a bench shows, where its run is stored as an R.
use Rattle.std.specs.Prelude.{◌≡◌, ℕ, ◌<◌, ◌≤◌, Bool, List, length, Some, None, Ok, Err, Option, Result}
use Rattle.machine.specs.Model.{Model}
use Rattle.machine.specs.declared.order.Refusal.{Refusal}
use Rattle.faults.specs.declared.fault.Fault.{Fault}
use Rattle.faults.specs.declared.fault.Fault.TheVariants as fault
use Rattle.histories.specs.Views.{Listing, RunView, RunReached, View, State, state, Ended, finished, Moment, Next, Chain}
use Rattle.histories.specs.Calls.{Advanced, OrderRefused, Untyped, Call}
use Rattle.histories.specs.Histories.{Sound, History, Promise, Opening}

-- the machine's refusal as the bench's
abbrev pub raised : Result Advanced Refusal → Result Advanced Fault
raised (Ok a) = Ok a
raised (Err e) = Err (fault.Machine e)

-- exactly n steps
abbrev pub Took : ℕ → State → State → Type 0
Took n s t = (xs : List Moment) × (length xs ≡ n) × Chain s xs t

-- steps of a stored run, up to a count: all of them, or as far as it goes
pub data Went (count : ℕ) (s t : State) (r : Result Advanced Refusal) : Type 0 where
  took : (xs : List Moment) → Chain s xs t → length xs ≤ count → (length xs < count → Ended t.run) → r ≡ Ok (record { steps = length xs; ended = finished t.run.left }) → Went count s t r
  refused_at : (xs : List Moment) (u : State) (e : Refusal) → Chain s xs u → length xs < count → OrderRefused u → r ≡ Err e → Went count s t r
  untyped_at : (xs : List Moment) (u : State) (b : Bool) → Chain s xs u → length xs < count → Untyped u → r ≡ Ok (record { steps = length xs; ended = b }) → Went count s t r

-- the steps before it stopped
abbrev pub steps_in : {count : ℕ} {s t : State} {r : Result Advanced Refusal} → Went count s t r → List Moment
steps_in (took xs c most short q) = xs
steps_in (refused_at xs u e c few d q) = xs
steps_in (untyped_at xs u b c few d q) = xs

module _ {R : Type 0} (look : R → RunView) where
  -- what is seen of a stored run is a function of it
  abbrev pub looks : Option R → Option RunView
  looks None = None
  looks (Some r) = Some (look r)

  abbrev pub view : Model → Option R → View
  view m r = record { model = m; run = looks r }

module _ {R : Type 0} (Looks : R → RunView → Type 0) where
  -- or is related to it
  abbrev pub Seen : Option R → Option RunView → Type 0
  Seen None None = Unit {0}
  Seen None (Some g) = ⊥
  Seen (Some r) None = ⊥
  Seen (Some r) (Some g) = Looks r g

  pub record Shows (m : Model) (r : Option R) (v : View) : Type 0 where
    pub model : v.model ≡ m
    pub run : Seen r v.run

  -- one step, and n steps, of a run that has come to what is seen of it by its steps
  abbrev pub RunSteps : Model → R → Model → R → Type 0
  RunSteps m r m' r' = (g : RunView) → Looks r g → RunReached m g → (x : Moment) × Next (state m g) x × Looks r' x.state.run × (x.state.model ≡ m')

  abbrev pub RunTook : ℕ → Model → R → Model → R → Type 0
  RunTook n m r m' r' = (g : RunView) → Looks r g → RunReached m g → (g' : RunView) × Looks r' g' × Took n (state m g) (state m' g')

  -- up to a count
  abbrev pub RunGoes : ℕ → Model → R → Model → R → Result Advanced Refusal → Type 0
  RunGoes count m r m' r' a = (g : RunView) → Looks r g → RunReached m g → (g' : RunView) × Looks r' g' × Went count (state m g) (state m' g') a

  -- the promise of a call that finds m and r, and leaves m' and r'
  pub record Promised (Verdict : List ℕ → ℕ → Result Listing Fault → Type 0) (call : Call) (m : Model) (r : Option R) (m' : Model) (r' : Option R) : Type 0 where
    pub keeps : (opening n k : ℕ) (v : View) → Shows m r v → History Verdict opening n k v → (v' : View) × Shows m' r' v' × Promise Verdict call v v'

  -- of open, over a machine that meant m
  pub record Opened (Verdict : List ℕ → ℕ → Result Listing Fault → Type 0) (m m' : Model) (r' : Option R) : Type 0 where
    pub view : View
    pub shows : Shows m' r' view
    pub opening : Opening Verdict m view

  -- of code over a bench: every history that leads to what is shown goes on to what is shown after it
  pub record Leads (Verdict : List ℕ → ℕ → Result Listing Fault → Type 0) (m : Model) (r : Option R) (m' : Model) (r' : Option R) : Type 0 where
    pub goes_on : (opening n k : ℕ) (v : View) → Shows m r v → History Verdict opening n k v →
        (n' k' : ℕ) × (v' : View) × Shows m' r' v' × History Verdict opening n' k' v' × Sound opening n' k' v'
