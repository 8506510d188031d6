-- What the answers of prepare and measure say of a machine's meaning before (m) and after (n) the order.
use Rattle.std.specs.Prelude.{◌≡◌, ℕ, ◌≤◌, Bool, false, Ok, Err, Result}
use Rattle.machine.specs.Model.{Model, tally, ordered, Does}
use Rattle.machine.specs.declared.order.Order.TheVariants.{Prepared, Measured}
use Rattle.machine.specs.declared.order.Refusal.{Refusal}
use Rattle.machine.specs.declared.order.Refusal.TheVariants.{Full, Dead}

-- P holds if the order was refused
abbrev pub IfRefused : {A E : Type 0} → Result A E → Type 0 → Type 0
IfRefused (Ok a) P = Unit {0}
IfRefused (Err e) P = P

-- P holds of the answer if the order was accepted
abbrev pub IfAccepted : {A : Type 0} → Result A Refusal → (A → Type 0) → Type 0
IfAccepted (Ok a) P = P a
IfAccepted (Err e) P = Unit {0}

-- as many handles are live as the capacity, or more
pub record NoRoom (m : Model) (e : Refusal) : Type 0 where
  pub refusal : e ≡ Full
  pub full : m.capacity ≤ tally m.live 64

-- the handle is not live
pub record NotLive (m : Model) (h : ℕ) (e : Refusal) : Type 0 where
  pub refusal : e ≡ Dead
  pub dead : m.live h ≡ false

-- accepted where fewer handles are live than the capacity, refused otherwise
abbrev pub PrepareAnswer : Model → Model → Result ℕ Refusal → Type 0
PrepareAnswer m n (Ok h) = Does m (ordered (Prepared h)) n
PrepareAnswer m n (Err e) = NoRoom m e

-- accepted where the handle is live, refused otherwise
abbrev pub MeasureAnswer : ℕ → Model → Model → Result Bool Refusal → Type 0
MeasureAnswer h m n (Ok b) = Does m (ordered (Measured h b)) n
MeasureAnswer h m n (Err e) = NotLive m h e
