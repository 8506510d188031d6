-- The linear names of a term, counted.
use mathlib.Core.Path.{◌≡◌, refl, sym, ◌∙◌, ap}
use mathlib.Core.List.{List, [], ◌∷◌, ◌++◌}
use mathlib.Core.Bool.{Bool, true, false, cond}
use mathlib.Core.Option.{Option, none, some}
use Prim.Native.Nat.{ℕ, ◌+◌, ◌*◌}
use native.Mathlib.Omega.{arith}
use lib.ListN.{length}
use Rattle.calculus.specs.Peak.{handles_all, without, without_all, outer, outer_all, spent_leaves, Regular, handles}
use Rattle.calculus.specs.Syntax.{Ty, unit, bit, int, qbit, tuple, Tys, no_types, ◌∷ᵗ◌, qbit_leaves, qbit_leaves_all, linear, some_linear, Duplicable, Name, var, entry, handle, is, Value}
use Rattle.calculus.specs.Syntax.{the_unit, bit_of, int_of, handle_of, tuple_of, Values, no_values, ◌∷ᵛ◌, type_of, types_of, names, Term, Terms, Op}
use Rattle.calculus.specs.Rules.{Uses, once, spent, held, held_all, Binding, fixed, settable, type, Scope, extend, qbits, Has, has_give, has_done, has_name, has_build, has_bind, has_mut}
use Rattle.calculus.specs.Rules.{has_set, has_using, has_if, Parts, parts_none, parts_more, Under, under_none, under_more}
use Rattle.calculus.proofs.Names.{never, is_eq, held_var, neither, spent_other}
use Rattle.calculus.proofs.Tables.{plain_spread}

-- how often a name is in a list
abbrev pub count : Name → List Name → ℕ
count n [] = 0
count n (m ∷ ms) = once m n + count n ms

-- 1 for a linear name, 0 for another
abbrev pub bound_linear : Option Binding → ℕ
bound_linear none = 0
bound_linear (some b) = cond (linear (type b)) 1 0

abbrev pub is_linear : Scope → Name → ℕ
is_linear Γ (var x) = bound_linear (Γ (var x))
is_linear Γ (entry e) = bound_linear (Γ (entry e))
is_linear Γ (handle h) = 1

pub count_append : (n : Name) (ms bs : List Name) → count n (ms ++ bs) ≡ count n ms + count n bs
count_append n [] bs = omega arith
count_append n (a ∷ ms) bs = omega (arith, count_append n ms bs)

pub spent_append : (Γ : Scope) (ms bs : List Name) → spent_leaves Γ (ms ++ bs) ≡ spent_leaves Γ ms + spent_leaves Γ bs
spent_append Γ [] bs = omega arith
spent_append Γ (a ∷ ms) bs = omega (arith, spent_append Γ ms bs)

mutual
  count_handles : (v : Value) (n : Name) → count n (handles v) ≡ held v n
  count_handles the_unit n = refl
  count_handles (bit_of b) n = refl
  count_handles (int_of k) n = refl
  count_handles (handle_of h) n = omega arith
  count_handles (tuple_of vs) n = count_handles_all vs n

  count_handles_all : (vs : Values) (n : Name) → count n (handles_all vs) ≡ held_all vs n
  count_handles_all no_values n = refl
  count_handles_all (v ∷ᵛ vs) n = omega (arith, count_append n (handles v) (handles_all vs), count_handles v n, count_handles_all vs n)

mutual
  held_entry : (v : Value) (e : ℕ) → held v (entry e) ≡ 0
  held_entry the_unit e = refl
  held_entry (bit_of b) e = refl
  held_entry (int_of k) e = refl
  held_entry (handle_of h) e = refl
  held_entry (tuple_of vs) e = held_all_entry vs e

  held_all_entry : (vs : Values) (e : ℕ) → held_all vs (entry e) ≡ 0
  held_all_entry no_values e = refl
  held_all_entry (v ∷ᵛ vs) e = omega (arith, held_entry v e, held_all_entry vs e)

-- a duplicable type has no qbit leaf
mutual
  pub plain_leaves : (A : Ty) → linear A ≡ false → qbit_leaves A ≡ 0
  plain_leaves unit d = refl
  plain_leaves bit d = refl
  plain_leaves int d = refl
  plain_leaves qbit d = never cc
  plain_leaves (tuple As) d = plain_leaves_all As d

  pub plain_leaves_all : (As : Tys) → some_linear As ≡ false → qbit_leaves_all As ≡ 0
  plain_leaves_all no_types d = refl
  plain_leaves_all (A ∷ᵗ As) d = let both = neither (linear A) (some_linear As) d in omega (arith, plain_leaves A both.0, plain_leaves_all As both.1)

mutual
  -- the qbit leaves of a value are its handles
  pub value_leaves : (Γ : Scope) (v : Value) → spent_leaves Γ (handles v) ≡ qbit_leaves (type_of v)
  value_leaves Γ the_unit = refl
  value_leaves Γ (bit_of b) = refl
  value_leaves Γ (int_of k) = refl
  value_leaves Γ (handle_of h) = refl
  value_leaves Γ (tuple_of vs) = value_leaves_all Γ vs

  pub value_leaves_all : (Γ : Scope) (vs : Values) → spent_leaves Γ (handles_all vs) ≡ qbit_leaves_all (types_of vs)
  value_leaves_all Γ no_values = refl
  value_leaves_all Γ (v ∷ᵛ vs) = omega (arith, spent_append Γ (handles v) (handles_all vs), value_leaves Γ v, value_leaves_all Γ vs)

-- binders
pub count_without : (x : ℕ) (n : Name) → is (var x) n ≡ false → (ns : List Name) → count n (without x ns) ≡ count n ns
count_without x n h [] = refl
count_without x n h (m ∷ ns) = go (is (var x) m) refl (count_without x n h ns)
  where
    go : (b : Bool) → is (var x) m ≡ b → count n (without x ns) ≡ count n ns → count n (cond b (without x ns) (m ∷ without x ns)) ≡ once m n + count n ns
    go true q r = let z : is m n ≡ false = rw (← is_eq (var x) m q) h in rw z (omega (arith, r))
    go false q r = omega (arith, r)

pub regular_extend : {Γ : Scope} (x : ℕ) (b : Binding) → ((U : Ty) → b ≡ settable U → Duplicable U) → Regular Γ → Regular (extend Γ x b)
regular_extend {Γ} x b k r = record { no_handles = r.no_handles; plain_sets = λ n U h. go (is (var x) n) n U h }
  where
    inj : (U : Ty) → some b ≡ some (settable U) → b ≡ settable U
    inj U h = cc

    go : (c : Bool) (n : Name) (U : Ty) → cond c (some b) (Γ n) ≡ some (settable U) → Duplicable U
    go true n U h = k U (inj U h)
    go false n U h = r.plain_sets n U h

-- the names are bound to the types, and those that may be set are duplicable
abbrev pub BoundWell : (Ty → Binding) → Tys → Type 0
BoundWell k no_types = Unit {0}
BoundWell k (A ∷ᵗ As) = (A ≡ type (k A)) × ((U : Ty) → k A ≡ settable U → Duplicable U) × BoundWell k As

pub fixed_well : (As : Tys) → BoundWell fixed As
fixed_well no_types = tt
fixed_well (A ∷ᵗ As) = (refl, λ U h. never cc, fixed_well As)

pub settable_well : (As : Tys) → some_linear As ≡ false → BoundWell settable As
settable_well no_types d = tt
settable_well (A ∷ᵗ As) d = let both = neither (linear A) (some_linear As) d in (refl, λ U h. rw (← inj U h) both.0, settable_well As both.1)
  where
    inj : (U : Ty) → settable A ≡ settable U → A ≡ U
    inj U h = cc

extend_linear : (Γ : Scope) (x : ℕ) (b : Binding) (n : Name) → is (var x) n ≡ false → is_linear (extend Γ x b) n ≡ is_linear Γ n
extend_linear Γ x b (var y) h = rw h
extend_linear Γ x b (entry e) h = refl
extend_linear Γ x b (handle k) h = refl

name_linear : (Γ : Scope) (n : Name) (b : Binding) → Regular Γ → Γ n ≡ some b → is_linear Γ n ≡ cond (linear (type b)) 1 0
name_linear Γ (var x) b r h = rw h
name_linear Γ (entry e) b r h = rw h
name_linear Γ (handle k) b r h = let z = r.no_handles k in never cc

name_uses : (Γ : Scope) (n m : Name) (b : Binding) (A : Ty) → Regular Γ → Γ m ≡ some b → A ≡ type b → spent A m n ≡ is_linear Γ n * (once m n + 0)
name_uses Γ n m b A r h q = go (is m n) refl
  where
    at_m : is m n ≡ true → is_linear Γ n ≡ cond (linear A) 1 0
    at_m k = ap (is_linear Γ) (sym (is_eq m n k)) ∙ name_linear Γ m b r h ∙ ap (λ (B : Ty). cond (linear B) 1 0) (sym q)

    go : (c : Bool) → is m n ≡ c → cond (linear A) (cond c 1 0) 0 ≡ is_linear Γ n * (cond c 1 0 + 0)
    go true k = rw (at_m k) (by_test (linear A))
      where
        by_test : (l : Bool) → cond {A = ℕ} l 1 0 ≡ cond l 1 0 * (1 + 0)
        by_test true = refl
        by_test false = refl
    go false k = by_test (linear A)
      where
        by_test : (l : Bool) → cond {A = ℕ} l 0 0 ≡ is_linear Γ n * (0 + 0)
        by_test true = omega arith
        by_test false = omega arith

value_uses : (Γ : Scope) (v : Value) (n : Name) → held v n ≡ is_linear Γ n * count n (handles v)
value_uses Γ v (var x) = rw (count_handles v (var x), held_var v x) (omega arith)
value_uses Γ v (entry e) = rw (count_handles v (entry e), held_entry v e) (omega arith)
value_uses Γ v (handle h) = omega (arith, count_handles v (handle h))

-- two lists together
sum_uses : (l a b c d e : ℕ) → a ≡ b + c → b ≡ l * d → c ≡ l * e → a ≡ l * (d + e)
sum_uses l a b c d e p q r = omega (arith, p, q, r)

module _ (ops : List Op) (lim : ℕ) where
  mutual
    -- the linear names of a term are those that it comes to, each as often as it does
    pub uses_counted : {Γ : Scope} {Δ : Uses} {t : Term} {A : Ty} → Regular Γ → Has ops lim Γ Δ t A → (n : Name) → Δ n ≡ is_linear Γ n * count n (outer t)
    uses_counted {Γ} r (has_give {v = v} q s) n = s n ∙ value_uses Γ v n
    uses_counted {Γ} r (has_done {v = v} q s) n = s n ∙ value_uses Γ v n
    uses_counted {Γ} r (has_name {n = m} {T = A} b h q s) n = s n ∙ name_uses Γ n m b A r h q
    uses_counted r (has_build Ts ps fit) n = uses_counted_all r ps n
    uses_counted {Γ} r (has_bind {xs = xs} {e = e} {t = t} Δ₁ Δ₂ A As d h sp u) n =
        rw (count_append n (outer e) (without_all (names xs) (outer t)))
        (sum_uses (is_linear Γ n) _ _ _ _ _ (d n) (uses_counted r h n) (uses_counted_under r (fixed_well As) u n))
    uses_counted {Γ} r (has_mut {xs = xs} {e = e} {t = t} Δ₁ Δ₂ A As d h nv dup sp u) n =
        rw (count_append n (outer e) (without_all (names xs) (outer t)))
        (sum_uses (is_linear Γ n) _ _ _ _ _ (d n) (uses_counted r h n) (uses_counted_under r (settable_well As (plain_spread xs A As sp dup)) u n))
    uses_counted {Γ} r (has_set {e = e} {t = t} Δ₁ Δ₂ A As d h nv sp m u) n =
        rw (count_append n (outer e) (outer t)) (sum_uses (is_linear Γ n) _ _ _ _ _ (d n) (uses_counted r h n) (uses_counted r u n))
    uses_counted r (has_using {xs = xs} u) n = uses_counted_under r (fixed_well (qbits (length (names xs)))) u n
    uses_counted {Γ} r (has_if {c = c} {t = t} Δ₁ Δ₂ d h u w) n =
        rw (count_append n (outer c) (outer t)) (sum_uses (is_linear Γ n) _ _ _ _ _ (d n) (uses_counted r h n) (uses_counted r u n))

    pub uses_counted_all : {Γ : Scope} {Δ : Uses} {ts : Terms} {As : Tys} → Regular Γ → Parts ops lim Γ Δ ts As → (n : Name) → Δ n ≡ is_linear Γ n * count n (outer_all ts)
    uses_counted_all r (parts_none s) n = omega (arith, s n)
    uses_counted_all {Γ} r (parts_more {t = t} {ts = ts} Δ₁ Δ₂ d h ps) n =
        rw (count_append n (outer t) (outer_all ts)) (sum_uses (is_linear Γ n) _ _ _ _ _ (d n) (uses_counted r h n) (uses_counted_all r ps n))

    pub uses_counted_under : {k : Ty → Binding} {Γ : Scope} {Δ : Uses} {xs : List ℕ} {As : Tys} {t : Term} {A : Ty} → Regular Γ → BoundWell k As → Under ops lim k Γ Δ xs As t A →
        (n : Name) → Δ n ≡ is_linear Γ n * count n (without_all xs (outer t))
    uses_counted_under r w (under_none h) n = uses_counted r h n
    uses_counted_under {k} {Γ} {Δ} {t = t} r w (under_more {x = x} {xs = xs} {T = B} Δ' new d u) n =
        go (is (var x) n) refl (uses_counted_under (regular_extend x (k B) w.1 r) w.2 u n)
      where
        at_x : is (var x) n ≡ true → (Δ n ≡ 0) × (is_linear Γ n ≡ 0)
        at_x q = let e = is_eq (var x) n q in (ap Δ (sym e) ∙ new.1, ap (is_linear Γ) (sym e) ∙ ap bound_linear new.0)

        go : (c : Bool) → is (var x) n ≡ c → Δ' n ≡ is_linear (extend Γ x (k B)) n * count n (without_all xs (outer t)) →
            Δ n ≡ is_linear Γ n * count n (without x (without_all xs (outer t)))
        go true q ih = let z = at_x q in rw (z.0, z.1) (omega arith)
        go false q ih =
            rw (count_without x n q (without_all xs (outer t)))
            (sym (more (d n) (spent_other B (var x) n q)) ∙ ih ∙ ap (λ (i : ℕ). i * count n (without_all xs (outer t))) (extend_linear Γ x (k B) n q))
          where
            more : {a b c : ℕ} → a ≡ b + c → c ≡ 0 → a ≡ b
            more p z = omega (arith, p, z)
