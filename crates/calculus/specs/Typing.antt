-- The laws of the typing rules.
use Rattle.std.specs.Prelude.{◌≡◌, List, [], ◌∷◌, map, true, false, ℕ, ◌≤◌, length}
use Rattle.std.proofs.Math.Option.{none, some}
use Rattle.calculus.specs.Syntax.{Ty, Tys, leaves, linear, some_linear, Duplicable, Name, var, entry, handle, is, Value, Values, type_of, types_of, flat, names, Op}
use Rattle.calculus.specs.Syntax.{Term, give, done, name, build, bind, mut, set, using_in, if_else, Terms, no_terms, ◌∷ˢ◌}
use Rattle.calculus.specs.Rules.{Uses, Divides, held, held_all, Binding, fixed, settable, Scope, MaySet, Has, Under}
use Rattle.calculus.specs.Steps.{by_entry, puts, given, Each}

-- a term has at most one type
abbrev pub OneType : Type 0
OneType = (ops : List Op) (lim : ℕ) (Γ : Scope) (Δ Δ' : Uses) (t : Term) (T U : Ty) → Has ops lim Γ Δ t T → Has ops lim Γ Δ' t U → T ≡ U

-- a value has the leaves of its type, and one of a duplicable type holds no handle
abbrev pub LeavesCounted : Type 0
LeavesCounted = (v : Value) → length (flat v) ≡ leaves (type_of v)

abbrev pub NoHandle : Type 0
NoHandle = (v : Value) → Duplicable (type_of v) → (n : Name) → held v n ≡ 0

-- values put for names of their types keep the type, and the term then has what the values hold
abbrev pub Substitution : Type 0
Substitution = (ops : List Op) (lim : ℕ) (Γ : Scope) (Δ Δ' : Uses) (xs : List ℕ) (t : Term) (U : Ty) (vs : Values) →
    Under ops lim fixed Γ Δ xs (types_of vs) t U → Divides Δ' Δ (held_all vs) → Has ops lim Γ Δ' (puts xs (given vs) t) U

-- and so do entries put for names that may be set
abbrev pub Renaming : Type 0
Renaming = (ops : List Op) (lim : ℕ) (Γ : Scope) (Δ : Uses) (xs : List ℕ) (Ts : Tys) (t : Term) (U : Ty) (es : List ℕ) → some_linear Ts ≡ false →
    Under ops lim settable Γ Δ xs Ts t U → MaySet Γ (map entry es) Ts → Has ops lim Γ Δ (puts xs (map by_entry es) t) U

-- Q holds of the names of each pattern that the term binds
abbrev mutual
  pub Binds : (List ℕ → Type 0) → Term → Type 0
  Binds Q (give p v) = Unit {0}
  Binds Q (done v) = Unit {0}
  Binds Q (name p n) = Unit {0}
  Binds Q (build p f ts) = BindsPart Q ts
  Binds Q (bind p xs e t) = Q (names xs) × Binds Q e × Binds Q t
  Binds Q (mut p xs e t) = Q (names xs) × Binds Q e × Binds Q t
  Binds Q (set p ns e t) = Binds Q e × Binds Q t
  Binds Q (using_in p xs t) = Q (names xs) × Binds Q t
  Binds Q (if_else p c t u) = Binds Q c × Binds Q t × Binds Q u

  pub BindsPart : (List ℕ → Type 0) → Terms → Type 0
  BindsPart Q no_terms = Unit {0}
  BindsPart Q (t ∷ˢ ts) = Binds Q t × BindsPart Q ts

-- none of the names is in the scope
abbrev pub Outside : Scope → List ℕ → Type 0
Outside Γ [] = Unit {0}
Outside Γ (x ∷ xs) = (Γ (var x) ≡ none) × Outside Γ xs

-- more names in scope, none of which the term binds, and more operations to call keep the type
abbrev pub Weakening : Type 0
Weakening = (ops : List Op) (lim lim' : ℕ) → lim ≤ lim' → (Γ Γ' : Scope) (Δ : Uses) (t : Term) (T : Ty) → ((n : Name) (b : Binding) → Γ n ≡ some b → Γ' n ≡ some b) →
    Binds (Outside Γ') t → Has ops lim Γ Δ t T → Has ops lim' Γ' Δ t T

-- a linear name of the scope, or a live handle
pub data LinearIn (Γ : Scope) (n : Name) : Type 0 where
  linear_name : (T : Ty) → Γ n ≡ some (fixed T) → linear T ≡ true → LinearIn Γ n
  live_handle : (h : ℕ) → n ≡ handle h → Γ n ≡ none → LinearIn Γ n

-- a linear name that is not given does not occur
abbrev pub Absent : Type 0
Absent = (ops : List Op) (lim : ℕ) (Γ : Scope) (Δ : Uses) (t : Term) (T : Ty) (n : Name) → Has ops lim Γ Δ t T → LinearIn Γ n → Δ n ≡ 0 → Each (λ m. is n m ≡ false) t
