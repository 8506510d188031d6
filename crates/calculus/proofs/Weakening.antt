-- More names in scope; linear names that are not given.
use mathlib.Core.Path.{◌≡◌, refl, sym, ◌∙◌, ap}
use mathlib.Core.List.{List}
use mathlib.Core.Bool.{Bool, true, false, cond}
use mathlib.Core.Option.{Option, none, some}
use Prim.Native.Nat.{ℕ, ◌≤◌}
use native.Mathlib.Omega.{arith}
use lib.Dec.{eqb}
use Rattle.calculus.specs.Typing.{Binds, BindsPart, Outside, Weakening, LinearIn, linear_name, live_handle, Absent}
use Rattle.calculus.specs.Syntax.{Ty, Tys, linear, Name, var, handle, is, Value, the_unit, bit_of, int_of, handle_of, tuple_of, Values, no_values, ◌∷ᵛ◌, Term, Terms, Op}
use Rattle.calculus.specs.Rules.{Uses, once, Same, spent, held, held_all, Binding, fixed, settable, type, Scope, extend, MaySet, may_none, may_more, Has, has_give, has_done, has_name}
use Rattle.calculus.specs.Rules.{has_build, has_bind, has_mut, has_set, has_using, has_if, Parts, parts_none, parts_more, Under, under_none, under_more}
use Rattle.calculus.specs.Steps.{EachHeld, EachHeldAll, EachName, Each, EachPart}
use Rattle.calculus.proofs.Names.{never, is_eq, is_refl, spent_other}
use Rattle.calculus.proofs.Growth.{fits_up}

-- Γ' binds all that Γ binds; a name that is new to Γ, and not in G, is new to Γ'
record Widens (G Γ Γ' : Scope) : Type 0 where
  keeps : (n : Name) (b : Binding) → Γ n ≡ some b → Γ' n ≡ some b
  news : (y : ℕ) → G (var y) ≡ none → Γ (var y) ≡ none → Γ' (var y) ≡ none

widens_extend : {G Γ Γ' : Scope} → Widens G Γ Γ' → (y : ℕ) (b : Binding) → Widens G (extend Γ y b) (extend Γ' y b)
widens_extend {G} {Γ} {Γ'} g y b = record { keeps = λ n c h. go (is (var y) n) n c h; news = λ z f h. new (eqb y z) z f h }
  where
    go : (a : Bool) (n : Name) (c : Binding) → cond a (some b) (Γ n) ≡ some c → cond a (some b) (Γ' n) ≡ some c
    go true n c h = h
    go false n c h = g.keeps n c h

    new : (a : Bool) (z : ℕ) → G (var z) ≡ none → cond a (some b) (Γ (var z)) ≡ none → cond a (some b) (Γ' (var z)) ≡ none
    new true z f h = h
    new false z f h = g.news z f h

may_widen : {G Γ Γ' : Scope} {ns : List Name} {Ts : Tys} → Widens G Γ Γ' → MaySet Γ ns Ts → MaySet Γ' ns Ts
may_widen g may_none = may_none
may_widen g (may_more {n = n} {T = T} h m) = may_more (g.keeps n (settable T) h) (may_widen g m)

module _ (ops : List Op) (lim lim' : ℕ) (le : lim ≤ lim') (G : Scope) where
  mutual
    weaken : {Γ : Scope} {Δ : Uses} {t : Term} {T : Ty} → Has ops lim Γ Δ t T → Binds (Outside G) t → (Γ' : Scope) → Widens G Γ Γ' → Has ops lim' Γ' Δ t T
    weaken (has_give q s) c Γ' g = has_give q s
    weaken (has_done q s) c Γ' g = has_done q s
    weaken (has_name {n = n} b h q s) c Γ' g = has_name b (g.keeps n b h) q s
    weaken (has_build {f = f} {T = T} Ts ps fit) c Γ' g = has_build Ts (weaken_parts ps c Γ' g) (fits_up ops lim lim' le f Ts T fit)
    weaken (has_bind Δ₁ Δ₂ T Ts d h sp u) c Γ' g = has_bind Δ₁ Δ₂ T Ts d (weaken h c.1 Γ' g) sp (weaken_under u c.0 c.2 Γ' g)
    weaken (has_mut Δ₁ Δ₂ T Ts d h nv dup sp u) c Γ' g = has_mut Δ₁ Δ₂ T Ts d (weaken h c.1 Γ' g) nv dup sp (weaken_under u c.0 c.2 Γ' g)
    weaken (has_set Δ₁ Δ₂ T Ts d h nv sp m u) c Γ' g = has_set Δ₁ Δ₂ T Ts d (weaken h c.0 Γ' g) nv sp (may_widen g m) (weaken u c.1 Γ' g)
    weaken (has_using u) c Γ' g = has_using (weaken_under u c.0 c.1 Γ' g)
    weaken (has_if Δ₁ Δ₂ d h u u') c Γ' g = has_if Δ₁ Δ₂ d (weaken h c.0 Γ' g) (weaken u c.1 Γ' g) (weaken u' c.2 Γ' g)

    weaken_parts : {Γ : Scope} {Δ : Uses} {ts : Terms} {Ts : Tys} → Parts ops lim Γ Δ ts Ts → BindsPart (Outside G) ts → (Γ' : Scope) → Widens G Γ Γ' → Parts ops lim' Γ' Δ ts Ts
    weaken_parts (parts_none s) c Γ' g = parts_none s
    weaken_parts (parts_more Δ₁ Δ₂ d h ps) c Γ' g = parts_more Δ₁ Δ₂ d (weaken h c.0 Γ' g) (weaken_parts ps c.1 Γ' g)

    weaken_under : {as_bound : Ty → Binding} {Γ : Scope} {Δ : Uses} {xs : List ℕ} {Ts : Tys} {t : Term} {T : Ty} → Under ops lim as_bound Γ Δ xs Ts t T → Outside G xs → Binds (Outside G) t →
        (Γ' : Scope) → Widens G Γ Γ' → Under ops lim' as_bound Γ' Δ xs Ts t T
    weaken_under (under_none h) out c Γ' g = under_none (weaken h c Γ' g)
    weaken_under (under_more {as_bound = as_bound} {x = y} {T = T} Δ' new d u) out c Γ' g =
        under_more Δ' (g.news y out.0 new.0, new.1) d (weaken_under u out.1 c (extend Γ' y (as_bound T)) (widens_extend g y (as_bound T)))

pub weakening : Weakening
weakening ops lim lim' le Γ Γ' Δ t T keeps c h = weaken ops lim lim' le Γ' h c Γ' (record { keeps = keeps; news = λ y f g. f })

-- a name is spent once where it stands, so a linear name that is not given stands nowhere
pub is_apart : (m n : Name) → is m n ≡ false → is n m ≡ false
is_apart m n h = go (is n m) refl
  where
    go : (b : Bool) → is n m ≡ b → b ≡ false
    go true k = let q : is m n ≡ true = rw (is_eq n m k) (is_refl m) in never cc
    go false k = refl

not_once : (m n : Name) → once m n ≡ 0 → is m n ≡ false
not_once m n h = go (is m n) h
  where
    go : (b : Bool) → cond {A = ℕ} b 1 0 ≡ 0 → b ≡ false
    go true h = never (omega arith)
    go false h = refl

mutual
  absent_held : (v : Value) (n : Name) → held v n ≡ 0 → EachHeld (λ m. is n m ≡ false) v
  absent_held the_unit n h = tt
  absent_held (bit_of b) n h = tt
  absent_held (int_of k) n h = tt
  absent_held (handle_of k) n h = is_apart (handle k) n (not_once (handle k) n h)
  absent_held (tuple_of vs) n h = absent_held_all vs n h

  absent_held_all : (vs : Values) (n : Name) → held_all vs n ≡ 0 → EachHeldAll (λ m. is n m ≡ false) vs
  absent_held_all no_values n h = tt
  absent_held_all (v ∷ᵛ vs) n h = (absent_held v n (omega (arith, h)), absent_held_all vs n (omega (arith, h)))

apart_set : (Γ : Scope) (n m : Name) (T : Ty) → Γ m ≡ some (settable T) → LinearIn Γ n → is n m ≡ false
apart_set Γ n m T h l = go (is n m) refl l
  where
    clash : n ≡ m → LinearIn Γ n → false ≡ true
    clash e (linear_name U g q) = let both = ap Γ e in never cc
    clash e (live_handle k q g) = let both = ap Γ e in never cc

    go : (b : Bool) → is n m ≡ b → LinearIn Γ n → b ≡ false
    go true k l = let c = clash (is_eq n m k) l in never cc
    go false k l = refl

may_apart : (Γ : Scope) (n : Name) {ns : List Name} {Ts : Tys} → MaySet Γ ns Ts → LinearIn Γ n → EachName (λ m. is n m ≡ false) ns
may_apart Γ n may_none l = tt
may_apart Γ n (may_more {n = m} {T = T} h s) l = (apart_set Γ n m T h l, may_apart Γ n s l)

absent_name : (Γ : Scope) (Δ : Uses) (n m : Name) (b : Binding) (T : Ty) → Γ m ≡ some b → T ≡ type b → Same Δ (spent T m) → LinearIn Γ n → Δ n ≡ 0 → is n m ≡ false
absent_name Γ Δ n m b T h q s l z = go (is n m) refl l
  where
    at_n : n ≡ m → linear T ≡ true → Δ n ≡ 1
    at_n e k = s n ∙ rw (k, ← e, is_refl n)

    clash : n ≡ m → LinearIn Γ n → ◌≡◌ {A = ℕ} 0 1
    clash e (linear_name U g k) =
        let both : Γ n ≡ Γ m = ap Γ e in
        let bound : b ≡ fixed U = same both h g in
        sym z ∙ at_n e (ap linear (q ∙ ap type bound) ∙ k)
      where
        same : {o p : Option Binding} {c d : Binding} → o ≡ p → p ≡ some c → o ≡ some d → c ≡ d
        same x y w = cc
    clash e (live_handle k q g) = let both = ap Γ e in never cc

    go : (c : Bool) → is n m ≡ c → LinearIn Γ n → c ≡ false
    go true k l = never (clash (is_eq n m k) l)
    go false k l = refl

bound_apart : (Γ : Scope) (x : ℕ) (n : Name) → Γ (var x) ≡ none → LinearIn Γ n → is (var x) n ≡ false
bound_apart Γ x n h l = go (is (var x) n) refl l
  where
    go : (c : Bool) → is (var x) n ≡ c → LinearIn Γ n → c ≡ false
    go true k (linear_name U g q) = let both = ap Γ (is_eq (var x) n k) in never cc
    go true k (live_handle i q g) = let both = is_eq (var x) n k in never cc
    go false k l = refl

extend_linear : (Γ : Scope) (x : ℕ) (b : Binding) (n : Name) → is (var x) n ≡ false → LinearIn Γ n → LinearIn (extend Γ x b) n
extend_linear Γ x b n h (linear_name U g q) = linear_name U (rw h g) q
extend_linear Γ x b n h (live_handle i q g) = live_handle i q (rw h g)

module _ (ops : List Op) (lim : ℕ) (n : Name) where
  mutual
    gone : {Γ : Scope} {Δ : Uses} {t : Term} {T : Ty} → Has ops lim Γ Δ t T → LinearIn Γ n → Δ n ≡ 0 → Each (λ m. is n m ≡ false) t
    gone (has_give {v = v} q s) l z = absent_held v n (sym (s n) ∙ z)
    gone (has_done {v = v} q s) l z = absent_held v n (sym (s n) ∙ z)
    gone (has_name {Γ = Γ} {Δ = Δ} {n = m} {T = T} b h q s) l z = absent_name Γ Δ n m b T h q s l z
    gone (has_build Ts ps fit) l z = gone_parts ps l z
    gone (has_bind Δ₁ Δ₂ T Ts d h sp u) l z = (gone h l (omega (arith, d n, z)), gone_under u l (omega (arith, d n, z)))
    gone (has_mut Δ₁ Δ₂ T Ts d h nv dup sp u) l z = (gone h l (omega (arith, d n, z)), gone_under u l (omega (arith, d n, z)))
    gone (has_set {Γ = Γ} Δ₁ Δ₂ T Ts d h nv sp m u) l z = (may_apart Γ n m l, gone h l (omega (arith, d n, z)), gone u l (omega (arith, d n, z)))
    gone (has_using u) l z = gone_under u l z
    gone (has_if Δ₁ Δ₂ d h u u') l z = (gone h l (omega (arith, d n, z)), gone u l (omega (arith, d n, z)), gone u' l (omega (arith, d n, z)))

    gone_parts : {Γ : Scope} {Δ : Uses} {ts : Terms} {Ts : Tys} → Parts ops lim Γ Δ ts Ts → LinearIn Γ n → Δ n ≡ 0 → EachPart (λ m. is n m ≡ false) ts
    gone_parts (parts_none s) l z = tt
    gone_parts (parts_more Δ₁ Δ₂ d h ps) l z = (gone h l (omega (arith, d n, z)), gone_parts ps l (omega (arith, d n, z)))

    gone_under : {as_bound : Ty → Binding} {Γ : Scope} {Δ : Uses} {xs : List ℕ} {Ts : Tys} {t : Term} {T : Ty} → Under ops lim as_bound Γ Δ xs Ts t T → LinearIn Γ n → Δ n ≡ 0 →
        Each (λ m. is n m ≡ false) t
    gone_under (under_none h) l z = gone h l z
    gone_under (under_more {as_bound = as_bound} {Γ = Γ} {x = x} {T = T} Δ' new d u) l z =
        let a = bound_apart Γ x n new.0 l in
        gone_under u (extend_linear Γ x (as_bound T) n a l) (omega (arith, d n, z, spent_other T (var x) n a))

pub absent_linear : Absent
absent_linear ops lim Γ Δ t T n h l z = gone ops lim n h l z
