-- Histories: a bench is opened, and then loads, advances and clears follow one another, accepted or refused. What holds after each, and inside each advance.
use Rattle.std.specs.Prelude.{◌≡◌, ℕ, ◌+◌, ◌%◌, ◌^◌, ◌<◌, ◌≤◌, Bool, false, List, [], ◌∷◌, length, Some, None, Ok, Err, Option, Result, ◌≢◌}
use Rattle.machine.specs.Model.{Model, Clears}
use Rattle.machine.specs.declared.order.Refusal.{Refusal}
use Rattle.faults.specs.declared.fault.BenchFault.TheVariants as bench
use Rattle.faults.specs.declared.fault.Fault.{Fault}
use Rattle.faults.specs.declared.fault.Fault.TheVariants as fault
use Rattle.calculus.specs.Syntax.{Name, handle, Place, Term}
use Rattle.calculus.specs.Rules.{once, Has}
use Rattle.calculus.specs.Steps.{Table, around, Event, WholeStep}
use Rattle.calculus.specs.Laws.{Plain, GoesOn}
use Rattle.calculus.specs.Peak.{outer}
use Rattle.calculus.specs.Runs.{live_names, live_count, AcceptsAll}
use Rattle.histories.specs.Views.{Listing, Admitted, RunView, View, state, during, Ended, finished, Moment, Chain, sent}
use Rattle.histories.specs.Calls.{Advanced, Call, load, advance, clear, Does}

-- the steps that the run's advances have answered in all, after this call
abbrev pub answered : Call → ℕ → ℕ
answered (load bytes (Ok need)) k = 0
answered (load bytes (Err e)) k = k
answered (advance count (Ok a)) k = k + a.steps
answered (advance count (Err e)) k = k
answered clear k = 0

-- how often a handle stands among names
abbrev pub times : ℕ → List Name → ℕ
times h [] = 0
times h (n ∷ ns) = once n (handle h) + times h ns

-- what holds of a run whose advances have answered k steps, and of the machine under it
pub record RunSound (k : ℕ) (m : Model) (g : RunView) : Type 0 where
  -- the rules give the listing its type, and its need is within the limits
  pub admitted : Admitted m.capacity g.listing
  -- what is left has that type; its linear names are exactly the live handles, each spent exactly once
  pub typed : Has g.listing.ops (length g.listing.ops) (around g.table) (live_names m) g.left g.listing.type
  -- among the names from outside that it comes to, a live handle stands once, and no other stands there
  pub named : (h : ℕ) → times h (outer g.left) ≡ live_names m (handle h)
  -- no entry of the table holds a handle
  pub plain : Plain g.table
  -- whatever the machine answers, all is finished or there is a next step, and the machine accepts each order of it
  pub goes_on : (hs : ℕ → ℕ) (b : Bool) → GoesOn g.listing.ops g.left g.table hs b
  pub accepts : (p : Place) (ev : Event) (t' : Term) (μ' : Table) → WholeStep g.listing.ops g.left g.table p ev t' μ' → AcceptsAll m ev
  -- the steps taken are those that its advances have answered
  pub taken : g.taken ≡ k
  -- neither the steps taken nor the live handles pass the need; with all its steps taken the run has ended
  pub steps : g.taken ≤ g.listing.need.steps
  pub peak : live_count m ≤ g.listing.need.peak
  pub last : g.taken ≡ g.listing.need.steps → Ended g

-- without a run no handle is live
abbrev pub RunOrIdle : ℕ → Model → Option RunView → Type 0
RunOrIdle k m None = (h : ℕ) → m.live h ≡ false
RunOrIdle k m (Some g) = RunSound k m g

-- what holds after n orders, sent since the machine had counted `opening`
pub record Sound (opening n k : ℕ) (v : View) : Type 0 where
  pub counted : v.model.count ≡ (opening + n) % 2 ^ 32
  pub run : RunOrIdle k v.model v.run

-- the same after each step inside a call
abbrev pub Inside : ℕ → ℕ → ℕ → List Moment → Type 0
Inside opening n k [] = Unit {0}
Inside opening n k (x ∷ xs) = Sound opening (n + length x.event) (k + 1) (during x.state) × Inside opening (n + length x.event) (k + 1) xs

-- an advance of a run that has not ended: it takes the next step, answers the steps that it took, and stops short of the count only by ending
pub record Goes (count : ℕ) (v : View) (g : RunView) (xs : List Moment) (v' : View) (r : Result Advanced Fault) : Type 0 where
  pub run : RunView
  pub shown : v'.run ≡ Some run
  pub chain : Chain (state v.model g) xs (state v'.model run)
  pub some : 1 ≤ count → 1 ≤ length xs
  pub most : length xs ≤ count
  pub short : length xs < count → Ended run
  pub taken : run.taken ≡ g.taken + length xs
  pub listing : run.listing ≡ g.listing
  pub answer : r ≡ Ok (record { steps = length xs; ended = finished run.left })

-- what an advance does in a history: three cases, and the machine refuses no order
pub record AdvanceAnswers (count : ℕ) (v : View) (xs : List Moment) (v' : View) (r : Result Advanced Fault) : Type 0 where
  pub unloaded : v.run ≡ None → (r ≡ Err (fault.Bench bench.Unloaded)) × (v' ≡ v)
  pub ended : (g : RunView) → v.run ≡ Some g → Ended g → (r ≡ Err (fault.Bench bench.Ended)) × (v' ≡ v)
  pub goes : (g : RunView) → v.run ≡ Some g → (Ended g → ⊥) → Goes count v g xs v' r
  pub unrefused : (e : Refusal) → r ≢ Err (fault.Machine e)

abbrev pub Answers : Call → View → List Moment → View → Type 0
Answers (load bytes r) v xs v' = Unit {0}
Answers (advance count r) v xs v' = AdvanceAnswers count v xs v' r
Answers clear v xs v' = Unit {0}

module _ (Verdict : List ℕ → ℕ → Result Listing Fault → Type 0) where
  -- a bench opened over a machine that had counted `opening` orders, and then any calls; all their steps sent n orders, and the run's advances answered k steps
  pub data History (opening : ℕ) : ℕ → ℕ → View → Type 0 where
    opened : (n k : ℕ) (m : Model) (v : View) → m.count ≡ opening → Clears m v.model → v.run ≡ None → n ≡ 0 → k ≡ 0 → History opening n k v
    then : (n n' k k' : ℕ) (v v' : View) (call : Call) (xs : List Moment) → History opening n k v → Does Verdict call v xs v' → n' ≡ n + sent xs → k' ≡ answered call k →
        History opening n' k' v'

  pub record Kept (opening n k : ℕ) (call : Call) (v : View) (xs : List Moment) (v' : View) : Type 0 where
    pub history : History opening (n + sent xs) (answered call k) v'
    pub sound : Sound opening (n + sent xs) (answered call k) v'
    pub inside : Inside opening n k xs
    pub answers : Answers call v xs v'

  -- what a call promises: it does what it is to do, and every history goes on with it
  pub record Promise (call : Call) (v v' : View) : Type 0 where
    pub moments : List Moment
    pub does : Does Verdict call v moments v'
    pub kept : (opening n k : ℕ) → History opening n k v → Kept opening n k call v moments v'

  -- what open promises over a machine that meant m
  pub record Opening (m : Model) (v : View) : Type 0 where
    pub machine : Clears m v.model
    pub run : v.run ≡ None
    pub history : History m.count 0 0 v
    pub sound : Sound m.count 0 0 v

  -- for code over a bench: every history that leads to v goes on to v'
  abbrev pub Onward : View → View → Type 0
  Onward v v' = (opening n k : ℕ) → History opening n k v → (n' k' : ℕ) × History opening n' k' v' × Sound opening n' k' v'
