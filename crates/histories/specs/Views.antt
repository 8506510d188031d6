-- What a bench shows: the meaning of its machine, and its run if one is loaded. The steps of a run, one after the other.
use Rattle.std.specs.Prelude.{◌≡◌, ℕ, ◌+◌, ◌≤◌, min, Bool, true, false, List, [], ◌∷◌, length, ℤ, pos, Some, Option}
use Rattle.machine.specs.Model.{Model}
use Rattle.need.specs.declared.Need.{Need}
use Rattle.calculus.specs.Syntax.{Ty, Value, Place, Op, Term, give, done, name, build, bind, mut, set, using_in, if_else}
use Rattle.calculus.specs.Rules.{nothing, nowhere, Has, Well}
use Rattle.calculus.specs.Steps.{Table, empty, Event}
use Rattle.calculus.specs.Runs.{RunStep, Reached, steps_of}
use Rattle.calculus.specs.Peak.{Peaks}
use Rattle.calculus.specs.Peak as worded

-- a listing: its operations, its run term, its type, its need
pub record Listing : Type 0 where
  pub ops : List Op
  pub start : Term
  pub type : Ty
  pub need : Need

-- the rules give the listing its type; its need is the steps and the peak of its run term, and both are within the limits
pub record Admitted (capacity : ℕ) (l : Listing) : Type 0 where
  pub well : Well l.ops
  pub typed : Has l.ops (length l.ops) nowhere nothing l.start l.type
  pub steps : l.need.steps ≡ steps_of l.ops l.start
  pub peak : (P : ℕ → ℤ) → Peaks l.ops well P → worded.peak l.ops (length l.ops) P typed ≡ pos l.need.peak
  pub few : l.need.steps ≤ 1000000
  pub fits : l.need.peak ≤ capacity

-- a run: its listing, what is left of it (a term and the table), the steps taken
pub record RunView : Type 0 where
  pub listing : Listing
  pub left : Term
  pub table : Table
  pub taken : ℕ

-- the run of a listing begins
abbrev pub begin : Listing → RunView
begin l = record { listing = l; left = l.start; table = empty; taken = 0 }

-- the run has come to this by its steps, from its start, on a machine that then had no live handle and room for the peak
pub record RunReached (m : Model) (g : RunView) : Type 0 where
  pub first : Model
  pub idle : (h : ℕ) → first.live h ≡ false
  pub admitted : Admitted first.capacity g.listing
  pub reached : Reached g.listing.ops g.listing.start first g.taken g.left g.table m

pub record View : Type 0 where
  pub model : Model
  pub run : Option RunView

-- while a run is loaded
pub record State : Type 0 where
  pub model : Model
  pub run : RunView

abbrev pub state : Model → RunView → State
state m g = record { model = m; run = g }

abbrev pub during : State → View
during s = record { model = s.model; run = Some s.run }

-- the whole is finished
abbrev pub Ended : RunView → Type 0
Ended g = (v : Value) × (g.left ≡ done v)

abbrev pub finished : Term → Bool
finished (give p v) = false
finished (done v) = true
finished (name p n) = false
finished (build p f ts) = false
finished (bind p xs e t) = false
finished (mut p xs e t) = false
finished (set p ns e t) = false
finished (using_in p xs t) = false
finished (if_else p c t u) = false

-- one step of a run: where it was, what it sent, and the state after it
pub record Moment : Type 0 where
  pub place : Place
  pub event : Event
  pub state : State

-- the number of steps is stored in 32 bits and stays at the greatest; no history comes so far
abbrev pub one_more : ℕ → ℕ
one_more k = min (k + 1) 4294967295

-- x is a step from s: what is left steps, and the machine does what the event says
pub record Next (s : State) (x : Moment) : Type 0 where
  pub step : RunStep s.run.listing.ops s.run.left s.run.table s.model x.place x.state.run.left x.state.run.table x.state.model
  pub event : step.event ≡ x.event
  pub taken : x.state.run.taken ≡ one_more s.run.taken
  pub listing : x.state.run.listing ≡ s.run.listing

-- by these steps, one after the other, a run goes from s to t
abbrev pub Chain : State → List Moment → State → Type 0
Chain s [] t = s ≡ t
Chain s (x ∷ xs) t = Next s x × Chain x.state xs t

-- how many orders they sent
abbrev pub sent : List Moment → ℕ
sent [] = 0
sent (x ∷ xs) = length x.event + sent xs
