-- A machine's refusal of an order, as the arm that no history comes to.
use Rattle.std.proofs.Common.{◌≡◌, ℕ, Bool, [], ◌∷◌, ◌++◌, map, length, Some, None, subst, arith}
use Rattle.std.proofs.lemmas.Bool.{both_ways, eq-eqb}
use Rattle.machine.specs.Orders.{width, handle_list}
use Rattle.machine.specs.Model.{Model, ordered, Makes}
use Rattle.machine.specs.Gates.{gate_question}
use Rattle.machine.specs.Promises.{NoRoom, NotLive}
use Rattle.machine.specs.declared.order.Gate.{Gate}
use Rattle.machine.specs.declared.order.Handles.{Handles}
use Rattle.machine.specs.declared.order.Order.{Order}
use Rattle.machine.specs.declared.order.Order.TheVariants.{Prepared, Applied, Measured}
use Rattle.machine.specs.declared.order.Refusal.{Refusal}
use Rattle.calculus.specs.Steps.{Event}
use Rattle.calculus.specs.Runs.{Accepts, AcceptsAll}

pub no_prepare : (m : Model) (h : ℕ) (e : Refusal) → NoRoom m e → Accepts m (Prepared h) → ⊥
no_prepare m h e r a = omega (arith, r.full, a)

pub no_measure : (m : Model) (h : ℕ) (b : Bool) (e : Refusal) → NotLive m h e → Accepts m (Measured h b) → ⊥
no_measure m h b e r a = both_ways (m.live h) r.dead a

pub no_gate : (m : Model) (g : Gate) (hs : Handles) (e : Refusal) → gate_question g (handle_list hs) m.live ≡ Some e → Accepts m (Applied g hs) → ⊥
no_gate m g hs e q a =
    let none : gate_question g (handle_list hs) m.live ≡ None = rw (eq-eqb (length (handle_list hs)) (width g) a.0, a.1, a.2) in
    let z : ◌≡◌ {A = ℕ} 0 1 = cc in
    omega arith

-- of the first order, or of a later one after those before it were done
pub refuses_first : (m : Model) (o : Order) (os : Event) → (Accepts m o → ⊥) → AcceptsAll m (o ∷ os) → ⊥
refuses_first m o os r a = r a.0

pub refuses_later : (before after : Event) (m k : Model) → Makes m (map ordered before) k → (AcceptsAll k after → ⊥) → AcceptsAll m (before ++ after) → ⊥
refuses_later [] after m k e r a = r (subst (λ (x : Model). AcceptsAll x after) e a)
refuses_later (o ∷ os) after m k (n, d, p) r a = refuses_later os after n k p r (a.1 n d)
