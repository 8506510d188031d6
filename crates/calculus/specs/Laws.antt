-- The laws of the calculus.
use Rattle.std.specs.Prelude.{◌≡◌, List, [], ◌∷◌, Bool, true, false, ℕ, suc, ◌+◌, ◌≤◌, ◌<◌}
use Rattle.machine.specs.Model.{absent}
use Rattle.machine.specs.declared.order.Gate.{Gate}
use Rattle.machine.specs.declared.order.Handles.{Handles}
use Rattle.machine.specs.declared.order.Order.TheVariants.{Applied, Measured}
use Rattle.calculus.specs.Syntax.{Ty, Name, Value, Values, type_of, Duplicable, Place, Op, Term, done}
use Rattle.calculus.specs.Rules.{Uses, Has, Well}
use Rattle.calculus.specs.Steps.{Each, Clear, Table, written, around, Event, prepares, gained, lost, named, InWidth, Step, chooses, WholeStep, Agrees}
use Rattle.calculus.specs.Need.{steps, Counts, body_costs}

-- no entry holds a handle
abbrev pub Plain : Table → Type 0
Plain μ = (e : ℕ) → Duplicable (type_of (μ e))

-- the orders name live handles, a gate as many as its width, and the live handles change as the orders say
pub record Change (Δ Δ' : Uses) (ev : Event) : Type 0 where
  pub change : (n : Name) → Δ' n + lost ev n ≡ Δ n + gained ev n
  pub live : (n : Name) → named ev n ≤ Δ n
  pub in_width : InWidth ev

-- what a step leaves: of the same type, in the linear names so changed; the entries that are not new keep their types, and none holds a handle
pub record Preserved (ops : List Op) (lim : ℕ) (Δ : Uses) (ev : Event) (es : List ℕ) (t' : Term) (μ μ' : Table) (T : Ty) : Type 0 where
  pub uses : Uses
  pub typed : Has ops lim (around μ') uses t' T
  pub changed : Change Δ uses ev
  pub entries : (e : ℕ) → absent e es ≡ true → type_of (μ' e) ≡ type_of (μ e)
  pub plain : Plain μ'

-- a step keeps the type, and the linear names of what is left change as the live handles do
abbrev pub Preservation : Type 0
Preservation = (ops : List Op) (lim : ℕ) → Well ops → (t t' : Term) (μ μ' : Table) (p : Place) (ev : Event) (Δ : Uses) (T : Ty) →
    Plain μ → Has ops lim (around μ) Δ t T → (s : WholeStep ops t μ p ev t' μ') → Preserved ops lim Δ ev s.new t' μ μ' T

-- finished, or a step where the machine gives these handles and this bit
pub data GoesOn (ops : List Op) (t : Term) (μ : Table) (hs : ℕ → ℕ) (b : Bool) : Type 0 where
  finished : (v : Value) → t ≡ done v → GoesOn ops t μ hs b
  moves : {p : Place} {ev : Event} {t' : Term} {μ' : Table} → WholeStep ops t μ p ev t' μ' → Agrees ev hs b → GoesOn ops t μ hs b

-- whatever the machine answers, what is left is finished or has a step
abbrev pub Progress : Type 0
Progress = (ops : List Op) (lim : ℕ) (t : Term) (μ : Table) (Δ : Uses) (T : Ty) → Has ops lim (around μ) Δ t T → (hs : ℕ → ℕ) (b : Bool) → GoesOn ops t μ hs b

-- a step takes exactly one of the steps that are left; an if's, which leaves out a branch, at least one
abbrev pub StepsFall : Type 0
StepsFall = (ops : List Op) (c : ℕ → ℕ) → Counts ops c → (t t' : Term) (μ μ' : Table) (p : Place) (es : List ℕ) (ev : Event) → (s : Step ops t μ p es ev t' μ') →
    (chooses s ≡ false → steps c t ≡ suc (steps c t')) × (steps c t' < steps c t)

-- no steps are left exactly when all is finished
abbrev pub Ends : Type 0
Ends = (c : ℕ → ℕ) (t : Term) → (steps c t ≡ 0 → (v : Value) × (t ≡ done v)) × ((v : Value) → t ≡ done v → steps c t ≡ 0)

-- where each operation calls only those above it, the steps of the bodies can be counted one after the other
abbrev pub Counted : Type 0
Counted = (ops : List Op) → Well ops → Counts ops (body_costs ops)

-- where a step is, what it sends, and what it leaves
pub data Outcome : Type 0 where
  outcome : Place → Event → Term → Table → Outcome

-- the machine's answers and the new entries settle the step
abbrev pub Determined : Type 0
Determined = (ops : List Op) (t : Term) (μ : Table) (es : List ℕ) (p p₂ : Place) (ev ev₂ : Event) (t' t₂ : Term) (μ' μ₂ : Table) →
    Step ops t μ p es ev t' μ' → Step ops t μ p₂ es ev₂ t₂ μ₂ → (hs : ℕ → ℕ) (b : Bool) → Agrees ev hs b → Agrees ev₂ hs b → outcome p ev t' μ' ≡ outcome p₂ ev₂ t₂ μ₂

-- a step sends no order, one measurement, one gate, or a prepare for each name of a using
pub data Shape : Event → Type 0 where
  silent : Shape []
  measuring : {h : ℕ} {b : Bool} → Shape (Measured h b ∷ [])
  applying : {g : Gate} {hs : Handles} → Shape (Applied g hs ∷ [])
  preparing : (hs : List ℕ) → Shape (prepares hs)

abbrev pub Sends : Type 0
Sends = (ops : List Op) (t t' : Term) (μ μ' : Table) (p : Place) (es : List ℕ) (ev : Event) → Step ops t μ p es ev t' μ' → Shape ev

-- writing entries that a term does not name keeps its type
abbrev pub UnnamedEntries : Type 0
UnnamedEntries = (ops : List Op) (lim : ℕ) (Δ : Uses) (t : Term) (T : Ty) (μ : Table) (es : List ℕ) (vs : Values) → Each (Clear es) t → Has ops lim (around μ) Δ t T →
    Has ops lim (around (written es vs μ)) Δ t T
