-- The qbit leaves of the names that a term spends.
use mathlib.Core.Path.{◌≡◌, refl, sym, ◌∙◌, ap}
use mathlib.Core.List.{List, [], ◌∷◌}
use mathlib.Core.Bool.{Bool, true, false, cond}
use mathlib.Core.Option.{Option, none, some}
use mathlib.Core.Logic.{◌⊎◌, inl, inr}
use Prim.Native.Nat.{ℕ, zero, suc, ◌+◌, ◌*◌, ◌≤◌}
use native.Mathlib.Omega.{arith}
use Rattle.calculus.specs.Peak.{without, without_all, outer, bound_leaves, name_leaves, spent_leaves, Regular}
use Rattle.calculus.specs.Syntax.{Ty, Tys, qbit_leaves, linear, Duplicable, Name, var, entry, handle, is, Term, Op}
use Rattle.calculus.specs.Rules.{Uses, once, Divides, spent, Binding, settable, type, Scope, extend, Under}
use Rattle.calculus.proofs.Names.{never, is_eq, is_refl, is_flip}
use Rattle.calculus.proofs.Linear.{count, bound_linear, is_linear, plain_leaves, regular_extend, BoundWell, uses_counted_under}

-- a name that is bound adds its leaves as often as it is used
extend_name : (Γ : Scope) (x : ℕ) (b : Binding) (n : Name) → is (var x) n ≡ false → name_leaves (extend Γ x b) n ≡ name_leaves Γ n
extend_name Γ x b (var y) h = rw h
extend_name Γ x b (entry e) h = refl
extend_name Γ x b (handle k) h = refl

spent_extend : (Γ : Scope) (x : ℕ) (b : Binding) (ns : List Name) →
    spent_leaves (extend Γ x b) ns ≡ spent_leaves Γ (without x ns) + count (var x) ns * qbit_leaves (type b)
spent_extend Γ x b [] = omega arith
spent_extend Γ x b (n ∷ ns) = go (is (var x) n) refl (spent_extend Γ x b ns)
  where
    here : is (var x) n ≡ true → (name_leaves (extend Γ x b) n ≡ qbit_leaves (type b)) × (once n (var x) ≡ 1)
    here q = rw (← is_eq (var x) n q, is_refl (var x)) (refl, refl)

    there : is (var x) n ≡ false → once n (var x) ≡ 0
    there q = rw (is_flip x n q)

    add : (i w v c q : ℕ) → w ≡ v + c * q → q + w ≡ v + (1 + c) * q
    add i w v c q h = omega (arith, h)

    skip : (i w v c q : ℕ) → w ≡ v + c * q → i + w ≡ (i + v) + (0 + c) * q
    skip i w v c q h = omega (arith, h)

    go : (c : Bool) → is (var x) n ≡ c → spent_leaves (extend Γ x b) ns ≡ spent_leaves Γ (without x ns) + count (var x) ns * qbit_leaves (type b) →
        name_leaves (extend Γ x b) n + spent_leaves (extend Γ x b) ns ≡
        spent_leaves Γ (cond c (without x ns) (n ∷ without x ns)) + (once n (var x) + count (var x) ns) * qbit_leaves (type b)
    go true q r = let h = here q in rw (h.0, h.1) (add 0 _ _ _ _ r)
    go false q r = rw (extend_name Γ x b n q, there q) (skip _ _ _ _ _ r)

-- a bound name is spent exactly once where it is linear, and has no leaves elsewhere
pub spent_bound : {ops : List Op} {lim : ℕ} {k : Ty → Binding} {Γ : Scope} {xs : List ℕ} {A : Ty} {As : Tys} {t : Term} {U : Ty} → Regular Γ → (x : ℕ) → A ≡ type (k A) →
    ((V : Ty) → k A ≡ settable V → Duplicable V) → BoundWell k As → (Δ Δ' : Uses) → Δ (var x) ≡ 0 → Divides Δ' Δ (spent A (var x)) → Under ops lim k (extend Γ x (k A)) Δ' xs As t U →
    spent_leaves (extend Γ x (k A)) (without_all xs (outer t)) ≡ spent_leaves Γ (without x (without_all xs (outer t))) + qbit_leaves A
spent_bound {ops} {lim} {k} {Γ} {xs} {A} {t = t} r x q dup w Δ Δ' z d u =
    spent_extend Γ x (k A) ns ∙ go (linear A) refl (uses_counted_under ops lim (regular_extend x (k A) dup r) w u (var x)) (d (var x))
  where
    ns : List Name
    ns = without_all xs (outer t)

    own : is_linear (extend Γ x (k A)) (var x) ≡ cond (linear A) 1 0
    own = rw (is_refl (var x)) (ap (λ (B : Ty). cond {A = ℕ} (linear B) 1 0) (sym q))

    leaves_of : qbit_leaves (type (k A)) ≡ qbit_leaves A
    leaves_of = ap qbit_leaves (sym q)

    once_here : once (var x) (var x) ≡ 1
    once_here = rw (is_refl (var x))

    go : (l : Bool) → linear A ≡ l → Δ' (var x) ≡ is_linear (extend Γ x (k A)) (var x) * count (var x) ns → Δ' (var x) ≡ Δ (var x) + cond (linear A) (once (var x) (var x)) 0 →
        spent_leaves Γ (without x ns) + count (var x) ns * qbit_leaves (type (k A)) ≡ spent_leaves Γ (without x ns) + qbit_leaves A
    go true h c e = let f = rw (own, h) at c in let g = rw (z, h, once_here) at e in rw leaves_of (single (count (var x) ns) (qbit_leaves A) _ (solve f g))
      where
        solve : {a b : ℕ} → a ≡ 1 * b → a ≡ 0 + 1 → b ≡ 1
        solve p s = omega (arith, p, s)

        single : (c q v : ℕ) → c ≡ 1 → v + c * q ≡ v + q
        single c q v p = rw p (omega arith)
    go false h c e = let n = plain_leaves A h in rw (leaves_of, n) (omega arith)

-- lists with the same linear names have the same leaves
plain_name : (Γ : Scope) (n : Name) → is_linear Γ n ≡ 0 → name_leaves Γ n ≡ 0
plain_name Γ (var x) h = go (Γ (var x)) h
  where
    go : (o : Option Binding) → bound_linear o ≡ 0 → bound_leaves o ≡ 0
    go none h = refl
    go (some b) h = plain_leaves (type b) (off (linear (type b)) h)
      where
        off : (l : Bool) → cond {A = ℕ} l 1 0 ≡ 0 → l ≡ false
        off true h = never (omega arith)
        off false h = refl
plain_name Γ (entry e) h = go (Γ (entry e)) h
  where
    go : (o : Option Binding) → bound_linear o ≡ 0 → bound_leaves o ≡ 0
    go none h = refl
    go (some b) h = plain_leaves (type b) (off (linear (type b)) h)
      where
        off : (l : Bool) → cond {A = ℕ} l 1 0 ≡ 0 → l ≡ false
        off true h = never (omega arith)
        off false h = refl
plain_name Γ (handle k) h = never (omega arith)

linear_or_not : (Γ : Scope) (n : Name) → (is_linear Γ n ≡ 0) ⊎ (is_linear Γ n ≡ 1)
linear_or_not Γ (var x) = go (Γ (var x))
  where
    go : (o : Option Binding) → (bound_linear o ≡ 0) ⊎ (bound_linear o ≡ 1)
    go none = inl refl
    go (some b) = test (linear (type b))
      where
        test : (l : Bool) → (cond {A = ℕ} l 1 0 ≡ 0) ⊎ (cond {A = ℕ} l 1 0 ≡ 1)
        test true = inr refl
        test false = inl refl
linear_or_not Γ (entry e) = go (Γ (entry e))
  where
    go : (o : Option Binding) → (bound_linear o ≡ 0) ⊎ (bound_linear o ≡ 1)
    go none = inl refl
    go (some b) = test (linear (type b))
      where
        test : (l : Bool) → (cond {A = ℕ} l 1 0 ≡ 0) ⊎ (cond {A = ℕ} l 1 0 ≡ 1)
        test true = inr refl
        test false = inl refl
linear_or_not Γ (handle k) = inr refl

abbrev drop_one : Name → List Name → List Name
drop_one n [] = []
drop_one n (m ∷ ms) = cond (is m n) ms (m ∷ drop_one n ms)

dropped : (Γ : Scope) (n : Name) (ms : List Name) → 1 ≤ count n ms →
    (spent_leaves Γ ms ≡ name_leaves Γ n + spent_leaves Γ (drop_one n ms)) × ((k : Name) → count k ms ≡ once n k + count k (drop_one n ms))
dropped Γ n [] l = never (omega (arith, l))
dropped Γ n (m ∷ ms) l = go (is m n) refl l (λ i. dropped Γ n ms i)
  where
    go : (c : Bool) → is m n ≡ c → 1 ≤ cond c 1 0 + count n ms →
        (1 ≤ count n ms → (spent_leaves Γ ms ≡ name_leaves Γ n + spent_leaves Γ (drop_one n ms)) × ((k : Name) → count k ms ≡ once n k + count k (drop_one n ms))) →
        (name_leaves Γ m + spent_leaves Γ ms ≡ name_leaves Γ n + spent_leaves Γ (cond c ms (m ∷ drop_one n ms))) ×
        ((k : Name) → once m k + count k ms ≡ once n k + count k (cond c ms (m ∷ drop_one n ms)))
    go true q l f = let e = is_eq m n q in (rw e, λ k. rw e)
    go false q l f = let r = f (omega (arith, l)) in (omega (arith, r.0), λ k. omega (arith, r.1 k))

plain_once : (Γ : Scope) (n k : Name) → is_linear Γ n ≡ 0 → is_linear Γ k * once n k ≡ 0
plain_once Γ n k h = go (is n k) refl
  where
    go : (c : Bool) → is n k ≡ c → is_linear Γ k * cond c 1 0 ≡ 0
    go true q = rw (← is_eq n k q, h) (omega arith)
    go false q = omega arith

pub no_leaves : (Γ : Scope) (ms : List Name) → ((k : Name) → is_linear Γ k * count k ms ≡ 0) → spent_leaves Γ ms ≡ 0
no_leaves Γ [] h = refl
no_leaves Γ (m ∷ ms) h =
    let p = plain_name Γ m (none_of (is_linear Γ m) (count m ms) (rw (is_refl m) at (h m))) in
    let q = no_leaves Γ ms (λ k. less (is_linear Γ k) (once m k) (count k ms) (h k)) in
    omega (arith, p, q)
  where
    none_of : (l c : ℕ) → l * (1 + c) ≡ 0 → l ≡ 0
    none_of zero c h = refl
    none_of (suc l) c h = never (omega (arith, h))

    less : (l o c : ℕ) → l * (o + c) ≡ 0 → l * c ≡ 0
    less l o c h = omega (arith, h)

pub equal_leaves : (Γ : Scope) (ns ms : List Name) → ((k : Name) → is_linear Γ k * count k ns ≡ is_linear Γ k * count k ms) → spent_leaves Γ ns ≡ spent_leaves Γ ms
equal_leaves Γ [] ms h = sym (no_leaves Γ ms (λ k. omega (arith, h k)))
equal_leaves Γ (n ∷ ns) ms h = go (linear_or_not Γ n) (λ l g. equal_leaves Γ ns l g)
  where
    skip : (l o c d : ℕ) → l * o ≡ 0 → l * (o + c) ≡ l * d → l * c ≡ l * d
    skip l o c d p q = omega (arith, p, q)

    cancel : (l o c d e : ℕ) → d ≡ o + e → l * (o + c) ≡ l * d → l * c ≡ l * e
    cancel l o c d e p q = omega (arith, rw p at q)

    there : (l c d : ℕ) → l ≡ 1 → l * (1 + c) ≡ l * d → 1 ≤ d
    there l c d p q = let w = rw p at q in omega (arith, w)

    go : (is_linear Γ n ≡ 0) ⊎ (is_linear Γ n ≡ 1) →
        ((l : List Name) → ((k : Name) → is_linear Γ k * count k ns ≡ is_linear Γ k * count k l) → spent_leaves Γ ns ≡ spent_leaves Γ l) →
        name_leaves Γ n + spent_leaves Γ ns ≡ spent_leaves Γ ms
    go (inl z) f = let p = plain_name Γ n z in
        omega (arith, p, f ms (λ k. skip (is_linear Γ k) (once n k) (count k ns) (count k ms) (plain_once Γ n k z) (h k)))
    go (inr z) f =
        let at_n : is_linear Γ n * (1 + count n ns) ≡ is_linear Γ n * count n ms = rw (is_refl n) at (h n) in
        let r = dropped Γ n ms (there (is_linear Γ n) (count n ns) (count n ms) z at_n) in
        omega (arith, r.0, f (drop_one n ms) (λ k. cancel (is_linear Γ k) (once n k) (count k ns) (count k ms) (count k (drop_one n ms)) (r.1 k) (h k)))
