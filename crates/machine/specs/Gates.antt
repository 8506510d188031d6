-- What the answer of a gate order says of a machine's meaning before (m) and after (n) the order.
use Rattle.std.specs.Prelude.{◌≡◌, ℕ, Bool, cond, List, length, Some, None, Ok, Err, Option, Result, ◌==◌}
use Rattle.machine.specs.Orders.{width, handle_list}
use Rattle.machine.specs.Model.{Model, every, distinct, ordered, Does}
use Rattle.machine.specs.declared.order.Gate.{Gate}
use Rattle.machine.specs.declared.order.Handles.{Handles}
use Rattle.machine.specs.declared.order.Order.TheVariants.{Applied}
use Rattle.machine.specs.declared.order.Refusal.{Refusal}
use Rattle.machine.specs.declared.order.Refusal.TheVariants.{Width, Dead, Same}

-- the first question with the reply no: as many handles as the width? all live? pairwise different?
abbrev pub gate_question : Gate → List ℕ → (ℕ → Bool) → Option Refusal
gate_question g hs live =
    cond (length hs == width g) (cond (every live hs) (cond (distinct hs) None (Some Same)) (Some Dead)) (Some Width)

-- the accepted order names the handles that were given
pub record GateDone (g : Gate) (hs : List ℕ) (m n : Model) : Type 0 where
  pub accepted : gate_question g hs m.live ≡ None
  pub handles : Handles
  pub given : handle_list handles ≡ hs
  pub does : Does m (ordered (Applied g handles)) n

-- accepted where every reply is yes, otherwise refused by the first question with the reply no
abbrev pub GateAnswer : Gate → List ℕ → Model → Model → Result (Unit {0}) Refusal → Type 0
GateAnswer g hs m n (Ok u) = GateDone g hs m n
GateAnswer g hs m n (Err e) = gate_question g hs m.live ≡ Some e

-- the handles of an order that is accepted, or its refusal
abbrev pub Admits : Gate → List ℕ → (ℕ → Bool) → Result Handles Refusal → Type 0
Admits g hs live (Ok k) = (handle_list k ≡ hs) × (gate_question g hs live ≡ None)
Admits g hs live (Err e) = gate_question g hs live ≡ Some e
