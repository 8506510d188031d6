-- What each call does to the view, by which steps, and what it answers. All of it holds of a bench in any state.
use Rattle.std.specs.Prelude.{◌≡◌, ℕ, ◌<◌, ◌≤◌, Bool, List, [], length, Some, None, Ok, Err, Result}
use Rattle.machine.specs.Model.{Clears}
use Rattle.machine.specs.declared.order.Refusal.{Refusal}
use Rattle.need.specs.declared.Need.{Need}
use Rattle.faults.specs.declared.fault.BenchFault.TheVariants.{Loaded, TooLong, Unloaded, Ended}
use Rattle.faults.specs.declared.fault.Fault.{Fault}
use Rattle.faults.specs.declared.fault.Fault.TheVariants as fault
use Rattle.calculus.specs.Syntax.{Place, Term}
use Rattle.calculus.specs.Rules.{Has}
use Rattle.calculus.specs.Steps.{Table, around, Event, WholeStep}
use Rattle.calculus.specs.Runs.{live_names, AcceptsAll}
use Rattle.histories.specs.Views.{Listing, Admitted, RunView, begin, View, State, during, finished, Moment, Chain}
use Rattle.histories.specs.Views as views

-- what an advance answers: the steps done, and whether the run ended
pub record Advanced : Type 0 where
  pub steps : ℕ
  pub ended : Bool

-- the most bytes of a listing
abbrev pub longest : ℕ
longest = 2048

-- Verdict bytes capacity r: what the layers below the bench find of a listing's bytes, for a machine of this capacity.
-- Ok l: the words, the grammar, the rules and the need give the listing l; Err e: the first layer that refuses gives the fault e.
module _ (Verdict : List ℕ → ℕ → Result Listing Fault → Type 0) where
  pub data Loads (bytes : List ℕ) (v v' : View) (r : Result Need Fault) : Type 0 where
    not_empty : (g : RunView) → v.run ≡ Some g → r ≡ Err (fault.Bench Loaded) → v' ≡ v → Loads bytes v v' r
    too_long : v.run ≡ None → longest < length bytes → r ≡ Err (fault.Bench TooLong) → v' ≡ v → Loads bytes v v' r
    no_memory : v.run ≡ None → length bytes ≤ longest → r ≡ Err fault.Memory → v' ≡ v → Loads bytes v v' r
    refused : (e : Fault) → v.run ≡ None → length bytes ≤ longest → Verdict bytes v.model.capacity (Err e) → r ≡ Err e → v' ≡ v → Loads bytes v v' r
    accepted : (l : Listing) → v.run ≡ None → length bytes ≤ longest → Verdict bytes v.model.capacity (Ok l) → Admitted v.model.capacity l →
        r ≡ Ok l.need → v' ≡ record { model = v.model; run = Some (begin l) } → Loads bytes v v' r

-- the machine refuses an order of the next step
pub record OrderRefused (s : State) : Type 0 where
  pub place : Place
  pub event : Event
  pub left : Term
  pub table : Table
  pub step : WholeStep s.run.listing.ops s.run.left s.run.table place event left table
  pub refuses : AcceptsAll s.model event → ⊥

-- what is left has not the listing's type in the live handles
abbrev pub Untyped : State → Type 0
Untyped s =
    Has s.run.listing.ops (length s.run.listing.ops) (around s.run.table) (live_names s.model) s.run.left s.run.listing.type → ⊥

pub data Advances (count : ℕ) (v : View) (xs : List Moment) (v' : View) (r : Result Advanced Fault) : Type 0 where
  unloaded : v.run ≡ None → r ≡ Err (fault.Bench Unloaded) → xs ≡ [] → v' ≡ v → Advances count v xs v' r
  ended : (g : RunView) → v.run ≡ Some g → views.Ended g → r ≡ Err (fault.Bench Ended) → xs ≡ [] → v' ≡ v → Advances count v xs v' r
  went : (s t : State) → v ≡ during s → (views.Ended s.run → ⊥) → Chain s xs t → v' ≡ during t → length xs ≤ count → (length xs < count → views.Ended t.run) →
      r ≡ Ok (record { steps = length xs; ended = finished t.run.left }) → Advances count v xs v' r
  -- no history comes to the last two
  order_refused : (s t : State) (e : Refusal) → v ≡ during s → Chain s xs t → length xs < count → OrderRefused t → r ≡ Err (fault.Machine e) → Advances count v xs v' r
  stuck : (s t : State) (b : Bool) → v ≡ during s → Chain s xs t → length xs < count → Untyped t → r ≡ Ok (record { steps = length xs; ended = b }) → Advances count v xs v' r

pub record Empties (v v' : View) : Type 0 where
  pub machine : Clears v.model v'.model
  pub run : v'.run ≡ None

-- a call, with what it was given and what it answered
pub data Call : Type 0 where
  load : List ℕ → Result Need Fault → Call
  advance : ℕ → Result Advanced Fault → Call
  clear : Call

abbrev pub Does : (Verdict : List ℕ → ℕ → Result Listing Fault → Type 0) → Call → View → List Moment → View → Type 0
Does Verdict (load bytes r) v xs v' = Loads Verdict bytes v v' r × (xs ≡ [])
Does Verdict (advance count r) v xs v' = Advances count v xs v' r
Does Verdict clear v xs v' = Empties v v' × (xs ≡ [])
