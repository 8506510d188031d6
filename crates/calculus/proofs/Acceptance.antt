-- The machine accepts every order of a step.
use mathlib.Core.Path.{◌≡◌, refl}
use mathlib.Core.List.{List, [], ◌∷◌}
use mathlib.Core.Bool.{Bool, true, false, cond}
use Prim.Native.Nat.{ℕ, ◌+◌, ◌≤◌}
use native.Mathlib.Omega.{arith}
use lib.ListN.{length}
use borrow.Author.Tests.{ne_eqb}
use Rattle.machine.specs.Orders.{handle_list}
use Rattle.machine.specs.Model.{Model, distinct, every}
use Rattle.machine.specs.declared.order.Handles.{Handles}
use Rattle.machine.specs.declared.order.Handles.TheVariants.{One, Two}
use Rattle.calculus.specs.Runs.{live_names, live_count, AcceptsAll}
use Rattle.calculus.specs.Room.{moved}
use Rattle.calculus.specs.Syntax.{Name, handle, Values, Form, Place, Term, Terms, Op}
use Rattle.calculus.specs.Rules.{once}
use Rattle.calculus.specs.Laws.{Shape, silent, measuring, applying, preparing, Sends}
use Rattle.calculus.specs.Steps.{Table, Event, prepares, handle_names, named, InWidth, Acts, acts_tuple, acts_meas, acts_gate, acts_call, Step, step_give, step_name, step_parts, step_build}
use Rattle.calculus.specs.Steps.{step_bind_in, step_bind, step_mut_in, step_mut, step_set_in, step_set, step_using, step_if_in, step_if, StepPart, step_first, step_later}
use Rattle.calculus.proofs.Room.{prepares_move}
use Rattle.calculus.proofs.Names.{never, is_refl}
use Rattle.calculus.proofs.Orders.{prepare_count}

act_shape : {ops : List Op} {f : Form} {vs : Values} {ev : Event} {t : Term} → Acts ops f vs ev t → Shape ev
act_shape acts_tuple = silent
act_shape acts_meas = measuring
act_shape (acts_gate hs q) = applying
act_shape (acts_call op h) = silent

mutual
  pub shape : {ops : List Op} {t t' : Term} {μ μ' : Table} {p : Place} {es : List ℕ} {ev : Event} → Step ops t μ p es ev t' μ' → Shape ev
  shape step_give = silent
  shape step_name = silent
  shape (step_parts s) = shape_part s
  shape (step_build vs d a) = act_shape a
  shape (step_bind_in s) = shape s
  shape (step_bind vs k) = silent
  shape (step_mut_in s) = shape s
  shape (step_mut vs k l) = silent
  shape (step_set_in s) = shape s
  shape (step_set vs k es q) = silent
  shape (step_using hs l) = preparing hs
  shape (step_if_in s) = shape s
  shape step_if = silent

  pub shape_part : {ops : List Op} {ts ts' : Terms} {μ μ' : Table} {p : Place} {es : List ℕ} {ev : Event} → StepPart ops ts μ p es ev ts' μ' → Shape ev
  shape_part (step_first s) = shape s
  shape_part (step_later s) = shape_part s

-- what an order names is live
is_live : (m : Model) (h : ℕ) → 1 ≤ live_names m (handle h) → m.live h ≡ true
is_live m h l = go (m.live h) l
  where
    go : (b : Bool) → 1 ≤ cond b 1 0 → b ≡ true
    go true l = refl
    go false l = never (omega (arith, l))

at_most_one : (m : Model) (h : ℕ) → live_names m (handle h) ≤ 1
at_most_one m h = go (m.live h)
  where
    go : (b : Bool) → cond b 1 0 ≤ 1
    go true = omega arith
    go false = omega arith

here : (h : ℕ) → once (handle h) (handle h) ≡ 1
here h = rw (is_refl (handle h))

gate_accepted : (m : Model) (hs : Handles) → ((n : Name) → handle_names (handle_list hs) n ≤ live_names m n) →
    (every m.live (handle_list hs) ≡ true) × (distinct (handle_list hs) ≡ true)
gate_accepted m (One a) l = (rw (is_live m a (omega (arith, l (handle a), here a))), refl)
gate_accepted m (Two a b) l = (
  rw (is_live m a (omega (arith, l (handle a), here a)), is_live m b (omega (arith, l (handle b), here b))),
  rw (ne_eqb a b (λ e. never (omega (arith, l (handle a), here a, at_most_one m a, twice e)))),
)
  where
    twice : a ≡ b → once (handle b) (handle a) ≡ 1
    twice e = rw (← e) (here a)

prepares_accepted : (hs : List ℕ) (m : Model) → length hs + live_count m ≤ m.capacity → AcceptsAll m (prepares hs)
prepares_accepted [] m l = tt
prepares_accepted (h ∷ hs) m l = (omega (arith, l), λ k d. prepares_accepted hs k (omega (arith, l, prepare_count m k h d.1, d.0.capacity)))

-- every order of a step is accepted where its handles are live and there is room
pub accepts : {ev : Event} → Shape ev → (m : Model) → ((n : Name) → named ev n ≤ live_names m n) → InWidth ev → moved ev (live_count m) ≤ m.capacity → AcceptsAll m ev
accepts silent m l w r = tt
accepts (measuring {h} {b}) m l w r = (is_live m h (omega (arith, l (handle h), here h)), λ k d. tt)
accepts (applying {hs = hs}) m l w r = let q = gate_accepted m hs (λ n. omega (arith, l n)) in ((w.0, q.0, q.1), λ k d. tt)
accepts (preparing hs) m l w r = prepares_accepted hs m (omega (arith, r, prepares_move hs (live_count m)))

pub sends : Sends
sends ops t t' μ μ' p es ev s = shape s
