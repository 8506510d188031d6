-- Which terms have which type, in a scope (what each name is bound to) and with the linear names given (how many of each; none or one, wherever a derivation begins with none or one).
use Rattle.std.specs.Prelude.{◌≡◌, List, [], ◌∷◌, cond, ℕ, zero, suc, ◌+◌, ◌<◌, ◌≤◌, length}
use Rattle.std.proofs.Math.Option.{Option, none, some}
use Rattle.machine.specs.Orders.{width}
use Rattle.calculus.specs.Syntax.{Ty, bit, qbit, tuple, Tys, no_types, ◌∷ᵗ◌, leaves, linear, Duplicable, Name, var, handle, is}
use Rattle.calculus.specs.Syntax.{Value, the_unit, bit_of, int_of, handle_of, tuple_of, Values, no_values, ◌∷ᵛ◌, type_of}
use Rattle.calculus.specs.Syntax.{Pattern, one, several, names, Form, tupling, meas, gate, call, Place, Op}
use Rattle.calculus.specs.Syntax.{Term, give, done, name, build, bind, mut, set, using_in, if_else, Terms, no_terms, ◌∷ˢ◌}

-- how many of each linear name
abbrev pub Uses : Type 0
Uses = Name → ℕ

abbrev pub nothing : Uses
nothing n = 0

abbrev pub once : Name → Uses
once m n = cond (is m n) 1 0

abbrev pub Same : Uses → Uses → Type 0
Same Δ Δ' = (n : Name) → Δ n ≡ Δ' n

-- Δ is divided: each of its names goes to exactly one of the two
abbrev pub Divides : Uses → Uses → Uses → Type 0
Divides Δ Δ₁ Δ₂ = (n : Name) → Δ n ≡ Δ₁ n + Δ₂ n

-- a name of a linear type is spent by its use, another is not
abbrev pub spent : Ty → Name → Uses
spent T m n = cond (linear T) (once m n) 0

-- the handles that a value holds
abbrev mutual
  pub held : Value → Uses
  held the_unit n = 0
  held (bit_of b) n = 0
  held (int_of k) n = 0
  held (handle_of h) n = once (handle h) n
  held (tuple_of vs) n = held_all vs n

  pub held_all : Values → Uses
  held_all no_values n = 0
  held_all (v ∷ᵛ vs) n = held v n + held_all vs n

-- what a name is bound to: a type, and whether the name may be set
pub data Binding : Type 0 where
  fixed : Ty → Binding
  settable : Ty → Binding

abbrev pub type : Binding → Ty
type (fixed T) = T
type (settable T) = T

abbrev pub Scope : Type 0
Scope = Name → Option Binding

abbrev pub nowhere : Scope
nowhere n = none

abbrev pub extend : Scope → ℕ → Binding → Scope
extend Γ x b n = cond (is (var x) n) (some b) (Γ n)

-- the name is in no part of the context
abbrev pub New : Scope → Uses → ℕ → Type 0
New Γ Δ x = (Γ (var x) ≡ none) × (Δ (var x) ≡ 0)

-- no linear name of the text; live handles are open to every right side
abbrev pub NoVar : Uses → Type 0
NoVar Δ = (x : ℕ) → Δ (var x) ≡ 0

-- one name takes the whole type, several take the parts of a tuple
abbrev pub Spread : {N : Type 0} → Pattern N → Ty → Tys → Type 0
Spread (one x) T Ts = Ts ≡ T ∷ᵗ no_types
Spread (several xs) T Ts = T ≡ tuple Ts

abbrev pub qbits : ℕ → Tys
qbits zero = no_types
qbits (suc n) = qbit ∷ᵗ qbits n

-- a lone type is itself, several are a tuple
abbrev pub together : Tys → Ty
together no_types = tuple no_types
together (T ∷ᵗ no_types) = T
together (T ∷ᵗ (U ∷ᵗ Ts)) = tuple (T ∷ᵗ (U ∷ᵗ Ts))

abbrev pub nth {ℓ} : {A : Type ℓ} → List A → ℕ → Option A
nth [] n = none
nth (a ∷ rest) zero = some a
nth (a ∷ rest) (suc n) = nth rest n

-- a type has at most so many leaves
abbrev pub most_leaves : ℕ
most_leaves = 8

-- the type that a form has at parts of these types; only operations below lim may be called
abbrev pub Fits : List Op → ℕ → Form → Tys → Ty → Type 0
Fits ops lim tupling Ts T = (T ≡ tuple Ts) × (leaves T ≤ most_leaves)
Fits ops lim meas Ts T = (Ts ≡ qbit ∷ᵗ no_types) × (T ≡ bit)
Fits ops lim (gate g) Ts T = (Ts ≡ qbits (width g)) × (T ≡ together Ts)
Fits ops lim (call f) Ts T = (op : Op) × (f < lim) × (nth ops f ≡ some op) × (Ts ≡ op.types) × (T ≡ op.result)

-- names that may be set, with their types
pub data MaySet (Γ : Scope) : List Name → Tys → Type 0 where
  may_none : MaySet Γ [] no_types
  may_more : {n : Name} {ns : List Name} {T : Ty} {Ts : Tys} → Γ n ≡ some (settable T) → MaySet Γ ns Ts → MaySet Γ (n ∷ ns) (T ∷ᵗ Ts)

module _ (ops : List Op) (lim : ℕ) where
  mutual
    pub data Has : Scope → Uses → Term → Ty → Type 0 where
      -- a constant or a pending value uses no name but the handles that it holds, and so does a finished one
      has_give : {Γ : Scope} {Δ : Uses} {p : Place} {v : Value} {T : Ty} → T ≡ type_of v → Same Δ (held v) → Has Γ Δ (give p v) T
      has_done : {Γ : Scope} {Δ : Uses} {v : Value} {T : Ty} → T ≡ type_of v → Same Δ (held v) → Has Γ Δ (done v) T
      -- a name has its type, and its context has no other linear name
      has_name : {Γ : Scope} {Δ : Uses} {p : Place} {n : Name} {T : Ty} → (b : Binding) → Γ n ≡ some b → T ≡ type b → Same Δ (spent T n) → Has Γ Δ (name p n) T
      -- tuple, meas, gate and call, of their parts
      has_build : {Γ : Scope} {Δ : Uses} {p : Place} {f : Form} {ts : Terms} {T : Ty} → (Ts : Tys) → Parts Γ Δ ts Ts → Fits ops lim f Ts T → Has Γ Δ (build p f ts) T
      -- let: its names have the right side's type, or its parts, in the second term only
      has_bind : {Γ : Scope} {Δ : Uses} {p : Place} {xs : Pattern ℕ} {e t : Term} {U : Ty} → (Δ₁ Δ₂ : Uses) (T : Ty) (Ts : Tys) → Divides Δ Δ₁ Δ₂ →
          Has Γ Δ₁ e T → Spread xs T Ts → Under fixed Γ Δ₂ (names xs) Ts t U → Has Γ Δ (bind p xs e t) U
      -- mut: let with a duplicable right side that uses no linear name of the text; its names may be set
      has_mut : {Γ : Scope} {Δ : Uses} {p : Place} {xs : Pattern ℕ} {e t : Term} {U : Ty} → (Δ₁ Δ₂ : Uses) (T : Ty) (Ts : Tys) → Divides Δ Δ₁ Δ₂ →
          Has Γ Δ₁ e T → NoVar Δ₁ → Duplicable T → Spread xs T Ts → Under settable Γ Δ₂ (names xs) Ts t U → Has Γ Δ (mut p xs e t) U
      -- set: names that may be set, and a right side of exactly their types that uses no linear name of the text
      has_set : {Γ : Scope} {Δ : Uses} {p : Place} {ns : Pattern Name} {e t : Term} {U : Ty} → (Δ₁ Δ₂ : Uses) (T : Ty) (Ts : Tys) → Divides Δ Δ₁ Δ₂ →
          Has Γ Δ₁ e T → NoVar Δ₁ → Spread ns T Ts → MaySet Γ (names ns) Ts → Has Γ Δ₂ t U → Has Γ Δ (set p ns e t) U
      -- using: its names are qbits of its term
      has_using : {Γ : Scope} {Δ : Uses} {p : Place} {xs : Pattern ℕ} {t : Term} {U : Ty} →
          Under fixed Γ Δ (names xs) (qbits (length (names xs))) t U → Has Γ Δ (using_in p xs t) U
      -- if: a bit, and two branches of one type with the same linear names
      has_if : {Γ : Scope} {Δ : Uses} {p : Place} {c t u : Term} {U : Ty} → (Δ₁ Δ₂ : Uses) → Divides Δ Δ₁ Δ₂ →
          Has Γ Δ₁ c bit → Has Γ Δ₂ t U → Has Γ Δ₂ u U → Has Γ Δ (if_else p c t u) U

    -- the parts, from left to right
    pub data Parts : Scope → Uses → Terms → Tys → Type 0 where
      parts_none : {Γ : Scope} {Δ : Uses} → Same Δ nothing → Parts Γ Δ no_terms no_types
      parts_more : {Γ : Scope} {Δ : Uses} {t : Term} {ts : Terms} {T : Ty} {Ts : Tys} → (Δ₁ Δ₂ : Uses) → Divides Δ Δ₁ Δ₂ →
          Has Γ Δ₁ t T → Parts Γ Δ₂ ts Ts → Parts Γ Δ (t ∷ˢ ts) (T ∷ᵗ Ts)

    -- t has the type U once the names, new ones, are bound to the types, all fixed or all settable
    pub data Under : (Ty → Binding) → Scope → Uses → List ℕ → Tys → Term → Ty → Type 0 where
      under_none : {as_bound : Ty → Binding} {Γ : Scope} {Δ : Uses} {t : Term} {U : Ty} → Has Γ Δ t U → Under as_bound Γ Δ [] no_types t U
      under_more : {as_bound : Ty → Binding} {Γ : Scope} {Δ : Uses} {x : ℕ} {xs : List ℕ} {T : Ty} {Ts : Tys} {t : Term} {U : Ty} → (Δ' : Uses) → New Γ Δ x →
          Divides Δ' Δ (spent T (var x)) → Under as_bound (extend Γ x (as_bound T)) Δ' xs Ts t U → Under as_bound Γ Δ (x ∷ xs) (T ∷ᵗ Ts) t U

-- each operation has its parameters alone as context, and calls only those above it
abbrev pub Well : List Op → Type 0
Well ops = (f : ℕ) (op : Op) → nth ops f ≡ some op → Under ops f fixed nowhere nothing op.params op.types op.body op.result
