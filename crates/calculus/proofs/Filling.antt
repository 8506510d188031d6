-- Values, or entries of the table, put for a list of names.
use mathlib.Core.Path.{◌≡◌, refl, subst, fun_ext}
use mathlib.Core.List.{List, [], ◌∷◌, map}
use mathlib.Core.Bool.{false}
use Prim.Native.Nat.{ℕ, ◌+◌}
use native.Mathlib.Omega.{arith}
use Rattle.calculus.specs.Syntax.{Ty, Tys, no_types, ◌∷ᵗ◌, linear, some_linear, Name, var, entry, Values, no_values, ◌∷ᵛ◌, types_of, Term, Op}
use Rattle.calculus.specs.Rules.{Uses, nothing, Same, Divides, spent, held, held_all, Binding, fixed, settable, type, Scope, extend, NoVar, MaySet, may_none, may_more, Has, Under}
use Rattle.calculus.specs.Rules.{under_none, under_more}
use Rattle.calculus.specs.Steps.{Stand, by_entry, puts, given}
use Rattle.calculus.proofs.Names.{neither, swapped, swap_divides, swap_absent, swap_here}
use Rattle.calculus.proofs.Substitution.{StandsFor, value_stands, entry_stands, without_extended, extend_stands, weigh, stands_clean, sub}

-- equal linear names
pub by_uses : {ops : List Op} {lim : ℕ} {Γ : Scope} {Δ Δ' : Uses} {t : Term} {T : Ty} → Same Δ Δ' → Has ops lim Γ Δ t T → Has ops lim Γ Δ' t T
by_uses {ops} {lim} {Γ} {t = t} {T = T} s h = subst (λ (D : Uses). Has ops lim Γ D t T) (fun_ext s) h

-- the stands, which hold w together, can stand for names bound to the types
pub data Fills (Γ : Scope) (as_bound : Ty → Binding) : List Stand → Uses → Tys → Type 0 where
  fills_none : {w : Uses} → Same w nothing → Fills Γ as_bound [] w no_types
  fills_more : {s : Stand} {ss : List Stand} {w : Uses} {T : Ty} {Ts : Tys} → (w₁ w₂ : Uses) → Divides w w₁ w₂ → T ≡ type (as_bound T) →
      StandsFor Γ s w₁ (as_bound T) → Fills Γ as_bound ss w₂ Ts → Fills Γ as_bound (s ∷ ss) w (T ∷ᵗ Ts)

fills_extend : {Γ : Scope} {as_bound : Ty → Binding} {ss : List Stand} {w : Uses} {Ts : Tys} (y : ℕ) (b : Binding) → Fills Γ as_bound ss w Ts → Fills (extend Γ y b) as_bound ss w Ts
fills_extend y b (fills_none s) = fills_none s
fills_extend y b (fills_more w₁ w₂ d q k f) = fills_more w₁ w₂ d q (extend_stands y b k) (fills_extend y b f)

fills_clean : {Γ : Scope} {as_bound : Ty → Binding} {ss : List Stand} {w : Uses} {Ts : Tys} → Fills Γ as_bound ss w Ts → NoVar w
fills_clean (fills_none s) x = s (var x)
fills_clean (fills_more w₁ w₂ d q k f) x = omega (arith, d (var x), stands_clean k x, fills_clean f x)

-- stands of the right types, put for the names
pub fill_all : {ops : List Op} {lim : ℕ} {as_bound : Ty → Binding} {Γ : Scope} {Δ : Uses} {xs : List ℕ} {Ts : Tys} {t : Term} {U : Ty} → Under ops lim as_bound Γ Δ xs Ts t U →
    (ss : List Stand) (w : Uses) → Fills Γ as_bound ss w Ts → (Δ* : Uses) → Divides Δ* Δ w → Has ops lim Γ Δ* (puts xs ss t) U
fill_all (under_none h) ss w (fills_none s) Δ* d = by_uses (λ n. omega (arith, d n, s n)) h
fill_all {ops} {lim} {as_bound} {Γ} (under_more {Δ = Δ} {x = x} {T = T} Δ' new d u) ss w (fills_more {s = s} {ss = rest} w₁ w₂ dw q k f) Δ* d* =
    let Δ'' : Uses = λ n. Δ' n + w₂ n in
    let exact : (n : Name) → swapped x w₁ Δ'' n ≡ Δ* n = λ n.
    omega (
      arith,
      swap_divides x w₁ Δ'' Δ' w₂ (λ m. refl) n,
      swap_divides x w₁ Δ' Δ (spent T (var x)) d n,
      swap_absent x w₁ Δ new.1 n,
      swap_absent x w₁ w₂ (fills_clean f x) n,
      swap_here x w₁ (spent T (var x)) T (λ m. refl) n,
      weigh k T q n,
      d* n,
      dw n,
    ) in
    by_uses exact (sub ops lim x s w₁ (as_bound T) (stands_clean k) (fill_all u rest w₂ (fills_extend x (as_bound T) f) Δ'' (λ n. refl)) Γ (without_extended Γ x (as_bound T)) k)

-- values fill names of their types
pub fills_values : {Γ : Scope} (vs : Values) → Fills Γ fixed (given vs) (held_all vs) (types_of vs)
fills_values no_values = fills_none (λ n. refl)
fills_values (v ∷ᵛ vs) = fills_more (held v) (held_all vs) (λ n. refl) refl value_stands (fills_values vs)

pub fill_values : {ops : List Op} {lim : ℕ} {Γ : Scope} {Δ : Uses} {xs : List ℕ} {Ts : Tys} {t : Term} {U : Ty} → Under ops lim fixed Γ Δ xs Ts t U →
    (vs : Values) → types_of vs ≡ Ts → (Δ* : Uses) → Divides Δ* Δ (held_all vs) → Has ops lim Γ Δ* (puts xs (given vs) t) U
fill_values {Γ = Γ} u vs q Δ* d = fill_all u (given vs) (held_all vs) (subst (λ (Ts : Tys). Fills Γ fixed (given vs) (held_all vs) Ts) q (fills_values vs)) Δ* d

-- entries fill names that may be set
pub fills_entries : {Γ : Scope} (es : List ℕ) (Ts : Tys) → some_linear Ts ≡ false → MaySet Γ (map entry es) Ts → Fills Γ settable (map by_entry es) nothing Ts
fills_entries [] Ts d may_none = fills_none (λ n. refl)
fills_entries (e ∷ es) Ts d (may_more {T = T} {Ts = Us} h m) =
    let both = neither (linear T) (some_linear Us) d in
    fills_more nothing nothing (λ n. refl) refl (entry_stands both.0 h) (fills_entries es Us both.1 m)
