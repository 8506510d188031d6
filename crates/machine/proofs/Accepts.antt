-- Which orders a machine accepts, as a caller uses it.
use Rattle.std.proofs.Common.{◌≡◌, ℕ, ◌<◌, Bool, true, List, None, Ok, Err, Result, sym, refl, ◌∙◌, subst, arith}
use Rattle.std.proofs.lemmas.Bool.{both_ways}
use Rattle.machine.specs.Orders.{handle_list}
use Rattle.machine.specs.Model.{Model, tally, ordered, Does}
use Rattle.machine.specs.Promises.{PrepareAnswer, MeasureAnswer}
use Rattle.machine.specs.Gates.{gate_question, GateAnswer, GateDone}
use Rattle.machine.specs.declared.order.Gate.{Gate}
use Rattle.machine.specs.declared.order.Handles.{Handles}
use Rattle.machine.specs.declared.order.Handles.TheVariants.{One, Two}
use Rattle.machine.specs.declared.order.Order.TheVariants.{Prepared, Applied, Measured}
use Rattle.machine.specs.declared.order.Refusal.{Refusal}

-- with room, a prepare is accepted
pub prepare_accepted : (m n : Model) (r : Result ℕ Refusal) → PrepareAnswer m n r → tally m.live 64 < m.capacity → (h : ℕ) × (r ≡ Ok h) × Does m (ordered (Prepared h)) n
prepare_accepted m n (Ok h) p room = (h, refl, p)
prepare_accepted m n (Err e) p room = absurd (omega arith)

-- of a live handle, a measurement is accepted
pub measure_accepted : (h : ℕ) (m n : Model) (r : Result Bool Refusal) → MeasureAnswer h m n r → m.live h ≡ true → (b : Bool) × (r ≡ Ok b) × Does m (ordered (Measured h b)) n
measure_accepted h m n (Ok b) p alive = (b, refl, p)
measure_accepted h m n (Err e) p alive = absurd (both_ways (m.live h) p.dead alive)

-- two handles of a gate are told apart by their list
pub same_handles : (a b : Handles) → handle_list a ≡ handle_list b → a ≡ b
same_handles (One a) (One b) e = cc
same_handles (One a) (Two b c) e = cc
same_handles (Two a b) (One c) e = cc
same_handles (Two a b) (Two c d) e = cc

-- the accepted order, by the handles that the caller gave
pub gate_does : (g : Gate) (hs : List ℕ) (m n : Model) (k : Handles) → GateDone g hs m n → handle_list k ≡ hs → Does m (ordered (Applied g k)) n
gate_does g hs m n k d e = subst (λ x. Does m (ordered (Applied g x)) n) (same_handles d.handles k (d.given ∙ sym e)) d.does

-- where no question has the reply no, a gate is accepted
pub gate_accepted : (g : Gate) (hs : List ℕ) (m n : Model) (r : Result (Unit {0}) Refusal) → GateAnswer g hs m n r → gate_question g hs m.live ≡ None → (r ≡ Ok tt) × GateDone g hs m n
gate_accepted g hs m n (Ok tt) p q = (refl, p)
gate_accepted g hs m n (Err e) p q = let z : ◌≡◌ {A = ℕ} 0 1 = cc in absurd (omega arith)
