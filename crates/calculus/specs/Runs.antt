-- Whole runs: what is left and the machine's meaning, step by step.
use Rattle.std.specs.Prelude.{◌≡◌, List, [], ◌∷◌, map, Bool, true, false, cond, ℕ, suc, ◌+◌, ◌%◌, ◌^◌, ◌≤◌, ◌<◌, length}
use Rattle.machine.specs.Orders.{width, handle_list}
use Rattle.machine.specs.Model.{Model, ordered, Does, Makes, every, distinct, tally}
use Rattle.machine.specs.declared.order.Order.{Order}
use Rattle.machine.specs.declared.order.Order.TheVariants.{Prepared, Applied, Measured}
use Rattle.calculus.specs.Syntax.{Ty, var, entry, handle, Value, Place, Op, Term, done}
use Rattle.calculus.specs.Rules.{Uses, nothing, nowhere, Has, Well}
use Rattle.calculus.specs.Steps.{Table, empty, around, Event, WholeStep}
use Rattle.calculus.specs.Need.{steps, body_costs}
use Rattle.calculus.specs.Room.{top, bodies}
use Rattle.calculus.specs.Laws.{Plain, GoesOn}

-- the live handles, as linear names
abbrev pub live_names : Model → Uses
live_names m (var x) = 0
live_names m (entry e) = 0
live_names m (handle h) = cond (m.live h) 1 0

-- how many handles are live
abbrev pub live_count : Model → ℕ
live_count m = tally m.live 64

-- the machine's questions of an order are answered by yes
abbrev pub Accepts : Model → Order → Type 0
Accepts m (Prepared h) = live_count m < m.capacity
Accepts m (Applied g hs) = (length (handle_list hs) ≡ width g) × (every m.live (handle_list hs) ≡ true) × (distinct (handle_list hs) ≡ true)
Accepts m (Measured h b) = m.live h ≡ true

-- one order after the other, whatever the machine means in between
abbrev pub AcceptsAll : Model → Event → Type 0
AcceptsAll m [] = Unit {0}
AcceptsAll m (o ∷ os) = Accepts m o × ((k : Model) → Does m (ordered o) k → AcceptsAll k os)

-- a run's step: what is left steps, and the machine does what the event says
pub record RunStep (ops : List Op) (t : Term) (μ : Table) (m : Model) (p : Place) (t' : Term) (μ' : Table) (m' : Model) : Type 0 where
  pub event : Event
  pub step : WholeStep ops t μ p event t' μ'
  pub does : Makes m (map ordered event) m'

-- each order is counted
abbrev pub OrdersCounted : Type 0
OrdersCounted = (ev : Event) (m m' : Model) → Makes m (map ordered ev) m' → m'.count ≡ (m.count + length ev) % 2 ^ 32

-- the run of start on a machine that meant m₀ has come to this by k steps
pub data Reached (ops : List Op) (start : Term) (m₀ : Model) : ℕ → Term → Table → Model → Type 0 where
  at_start : Reached ops start m₀ 0 start empty m₀
  onward : {k : ℕ} {t t' : Term} {μ μ' : Table} {m m' : Model} {p : Place} → Reached ops start m₀ k t μ m → RunStep ops t μ m p t' μ' m' →
      Reached ops start m₀ (suc k) t' μ' m'

-- the steps of a term, and the most handles that are live while it runs from b live ones
abbrev pub steps_of : List Op → Term → ℕ
steps_of ops t = steps (body_costs ops) t

abbrev pub most_live : List Op → ℕ → Term → ℕ
most_live ops b t = top (bodies ops) b t

-- what is left has its type in exactly the live handles, the table holds none of them, and there is room for the most that are live from here on
pub record Safe (ops : List Op) (T : Ty) (t : Term) (μ : Table) (m : Model) : Type 0 where
  pub typed : Has ops (length ops) (around μ) (live_names m) t T
  pub plain : Plain μ
  pub room : most_live ops (live_count m) t ≤ m.capacity

-- so it goes on, and the machine accepts every order of a step
pub record NeverStuck (ops : List Op) (t : Term) (μ : Table) (m : Model) : Type 0 where
  -- whatever the machine answers, what is left is finished or has a step
  pub goes_on : (hs : ℕ → ℕ) (b : Bool) → GoesOn ops t μ hs b
  pub accepted : (p : Place) (ev : Event) (t' : Term) (μ' : Table) → WholeStep ops t μ p ev t' μ' → AcceptsAll m ev

abbrev pub Safety : Type 0
Safety = (ops : List Op) → Well ops → (T : Ty) (t : Term) (μ : Table) (m : Model) → Safe ops T t μ m → NeverStuck ops t μ m

-- and a step leaves it so, with fewer steps left and no more room needed
pub record KeptSafe (ops : List Op) (T : Ty) (t t' : Term) (μ' : Table) (m m' : Model) : Type 0 where
  pub safe : Safe ops T t' μ' m'
  pub capacity : m'.capacity ≡ m.capacity
  pub fewer : steps_of ops t' < steps_of ops t
  pub no_more : most_live ops (live_count m') t' ≤ most_live ops (live_count m) t

abbrev pub SafetyKept : Type 0
SafetyKept = (ops : List Op) → Well ops → (T : Ty) (t t' : Term) (μ μ' : Table) (m m' : Model) (p : Place) → Safe ops T t μ m → RunStep ops t μ m p t' μ' m' → KeptSafe ops T t t' μ' m m'

-- what holds all along a run
pub record Sound (ops : List Op) (start : Term) (T : Ty) (m₀ : Model) (k : ℕ) (t : Term) (μ : Table) (m : Model) : Type 0 where
  pub safe : Safe ops T t μ m
  pub never_stuck : NeverStuck ops t μ m
  -- the steps taken and those left never pass the need, and all of it is taken only by a run that has ended
  pub in_steps : k + steps_of ops t ≤ steps_of ops start
  pub last : k ≡ steps_of ops start → (v : Value) × (t ≡ done v)
  -- nor do the live handles, with those that may still come
  pub in_room : most_live ops (live_count m) t ≤ most_live ops 0 start
  pub live_few : live_count m ≤ most_live ops 0 start
  pub capacity : m.capacity ≡ m₀.capacity

-- a listing with a type, on a machine with no live handle and with room for the most that it needs
abbrev pub Soundness : Type 0
Soundness = (ops : List Op) (start : Term) (T : Ty) → Well ops → Has ops (length ops) nowhere nothing start T →
    (m₀ : Model) → ((h : ℕ) → m₀.live h ≡ false) → most_live ops 0 start ≤ m₀.capacity →
    (k : ℕ) (t : Term) (μ : Table) (m : Model) → Reached ops start m₀ k t μ m → Sound ops start T m₀ k t μ m
