-- A value, or an entry of the table, put for a name.
use mathlib.Core.Path.{◌≡◌, refl, sym, ◌∙◌, ap}
use mathlib.Core.List.{List, [], ◌∷◌, map}
use mathlib.Core.Bool.{Bool, true, false, cond}
use mathlib.Core.Option.{none, some}
use Prim.Native.Nat.{ℕ}
use lib.Dec.{eqb}
use borrow.Author.Tests.{eqb-true}
use Rattle.calculus.specs.Syntax.{Ty, Tys, linear, Duplicable, Name, var, entry, is, Value, type_of, Pattern, one, several, names, Place, Term, name, Terms, Op}
use Rattle.calculus.specs.Rules.{Uses, nothing, Same, spent, held, Binding, fixed, settable, type, Scope, nowhere, extend, NoVar, Spread, MaySet, may_none, may_more, Has, has_give}
use Rattle.calculus.specs.Rules.{has_done, has_name, has_build, has_bind, has_mut, has_set, has_using, has_if, Parts, parts_none, parts_more, Under, under_none, under_more}
use Rattle.calculus.specs.Steps.{Stand, by_value, by_entry, stand_at, target, targets, put, put_all}
use Rattle.calculus.proofs.Names.{never, is_eq, is_refl, eqb_sym, is_flip, held_var, held_dup, spent_other, swapped, swap_divides, swap_clean, swap_other, swap_absent, swap_here}

-- s holds w and can stand for a name of this binding
pub data StandsFor (Γ : Scope) : Stand → Uses → Binding → Type 0 where
  value_stands : {v : Value} → StandsFor Γ (by_value v) (held v) (fixed (type_of v))
  entry_stands : {e : ℕ} {T : Ty} → Duplicable T → Γ (entry e) ≡ some (settable T) → StandsFor Γ (by_entry e) nothing (settable T)

-- Γ binds x, and Γ' is Γ without it
pub record Without (x : ℕ) (b : Binding) (Γ Γ' : Scope) : Type 0 where
  pub here : Γ (var x) ≡ some b
  pub others : (n : Name) (c : Binding) → is (var x) n ≡ false → Γ n ≡ some c → Γ' n ≡ some c
  pub news : (y : ℕ) → Γ (var y) ≡ none → Γ' (var y) ≡ none

pub without_extended : (Γ : Scope) (x : ℕ) (b : Binding) → Without x b (extend Γ x b) Γ
without_extended Γ x b = record {
  here = rw (is_refl (var x));
  others = λ n c h g. rw h at g;
  news = λ y g. go (eqb x y) y g;
}
  where
    go : (c : Bool) (y : ℕ) → cond c (some b) (Γ (var y)) ≡ none → Γ (var y) ≡ none
    go true y g = never cc
    go false y g = g

extend_without : {x : ℕ} {b : Binding} {Γ Γ' : Scope} → Without x b Γ Γ' → (y : ℕ) (c : Binding) → eqb x y ≡ false → Without x b (extend Γ y c) (extend Γ' y c)
extend_without {x} {b} {Γ} {Γ'} f y c ne = record {
  here = rw (eqb_sym x y ne) f.here;
  others = λ n d h g. go (is (var y) n) n d h g;
  news = λ z g. new (eqb y z) z g;
}
  where
    go : (a : Bool) (n : Name) (d : Binding) → is (var x) n ≡ false → cond a (some c) (Γ n) ≡ some d → cond a (some c) (Γ' n) ≡ some d
    go true n d h g = g
    go false n d h g = f.others n d h g

    new : (a : Bool) (z : ℕ) → cond a (some c) (Γ (var z)) ≡ none → cond a (some c) (Γ' (var z)) ≡ none
    new true z g = g
    new false z g = f.news z g

pub extend_stands : {Γ : Scope} {s : Stand} {w : Uses} {b : Binding} (y : ℕ) (c : Binding) → StandsFor Γ s w b → StandsFor (extend Γ y c) s w b
extend_stands y c value_stands = value_stands
extend_stands y c (entry_stands d h) = entry_stands d h

apart : {x : ℕ} {b : Binding} {Γ Γ' : Scope} → Without x b Γ Γ' → (y : ℕ) → Γ (var y) ≡ none → eqb x y ≡ false
apart {x} {b} {Γ} f y g = go (eqb x y) refl
  where
    go : (c : Bool) → eqb x y ≡ c → c ≡ false
    go true h = let s : x ≡ y = eqb-true x y h in let k : some b ≡ none = sym f.here ∙ (rw s g) in never cc
    go false h = refl

-- a duplicable stand holds nothing
pub weigh : {Γ : Scope} {s : Stand} {w : Uses} {b : Binding} → StandsFor Γ s w b → (T : Ty) → T ≡ type b → (n : Name) → cond (linear T) (w n) 0 ≡ w n
weigh (value_stands {v}) T q n = go (linear T) refl
  where
    go : (b : Bool) → linear T ≡ b → cond b (held v n) 0 ≡ held v n
    go true h = refl
    go false h = sym (held_dup v n (rw (← q) h))
weigh (entry_stands d h) T q n = rw (q, d)

pub stands_clean : {Γ : Scope} {s : Stand} {w : Uses} {b : Binding} → StandsFor Γ s w b → NoVar w
stands_clean (value_stands {v}) x = held_var v x
stands_clean (entry_stands d h) x = refl

-- the name itself
fill : (ops : List Op) (lim x : ℕ) (p : Place) {Γ : Scope} {s : Stand} {w : Uses} {b : Binding} → StandsFor Γ s w b → (Δ : Uses) (T : Ty) → T ≡ type b → Same Δ (spent T (var x)) →
    Has ops lim Γ (swapped x w Δ) (stand_at p s) T
fill ops lim x p (value_stands {v}) Δ T q s = has_give q (λ n. swap_here x (held v) Δ T s n ∙ weigh {Γ = nowhere} (value_stands {v = v}) T q n)
fill ops lim x p (entry_stands {e} {T = U} d h) Δ T q s = has_name (settable U) h q (λ n. swap_here x nothing Δ T s n ∙ rw (q, d))

-- a name that is set
aim : {x : ℕ} {b : Binding} {Γ Γ' : Scope} {s : Stand} {w : Uses} → StandsFor Γ' s w b → Without x b Γ Γ' → (n : Name) (T : Ty) → Γ n ≡ some (settable T) →
    Γ' (target x s n) ≡ some (settable T)
aim {x} {Γ = Γ} {Γ' = Γ'} (value_stands {v}) f n T g = go (is (var x) n) refl
  where
    go : (c : Bool) → is (var x) n ≡ c → Γ' n ≡ some (settable T)
    go true h = let s = is_eq (var x) n h in let here = f.here in never cc
    go false h = f.others n (settable T) h g
aim {x} {Γ = Γ} {Γ' = Γ'} (entry_stands {e} {T = U} d k) f n T g = go (is (var x) n) refl
  where
    go : (c : Bool) → is (var x) n ≡ c → Γ' (cond c (entry e) n) ≡ some (settable T)
    go true h = let s = is_eq (var x) n h in let here = f.here in cc
    go false h = f.others n (settable T) h g

module _ {x : ℕ} {b : Binding} {Γ Γ' : Scope} {s : Stand} {w : Uses} (k : StandsFor Γ' s w b) (f : Without x b Γ Γ') where
  aim_list : (ns : List Name) {Ts : Tys} → MaySet Γ ns Ts → MaySet Γ' (map (target x s) ns) Ts
  aim_list [] may_none = may_none
  aim_list (n ∷ ns) (may_more {T = T} g m) = may_more (aim k f n T g) (aim_list ns m)

  aim_all : (ns : Pattern Name) {Ts : Tys} → MaySet Γ (names ns) Ts → MaySet Γ' (names (targets x s ns)) Ts
  aim_all (one n) m = aim_list (n ∷ []) m
  aim_all (several ns) m = aim_list ns m

spread_targets : (x : ℕ) (s : Stand) (ns : Pattern Name) (T : Ty) (Ts : Tys) → Spread ns T Ts → Spread (targets x s ns) T Ts
spread_targets x s (one n) T Ts h = h
spread_targets x s (several ns) T Ts h = h

module _ (ops : List Op) (lim x : ℕ) (s : Stand) (w : Uses) (b : Binding) (clean : NoVar w) where
  mutual
    -- substitution keeps the type
    pub sub : {Γ : Scope} {Δ : Uses} {t : Term} {T : Ty} → Has ops lim Γ Δ t T → (Γ' : Scope) → Without x b Γ Γ' → StandsFor Γ' s w b → Has ops lim Γ' (swapped x w Δ) (put x s t) T
    sub (has_give {Δ = Δ} {v = v} q z) Γ' f k = has_give q (λ n. swap_absent x w Δ (z (var x) ∙ held_var v x) n ∙ z n)
    sub (has_done {Δ = Δ} {v = v} q z) Γ' f k = has_done q (λ n. swap_absent x w Δ (z (var x) ∙ held_var v x) n ∙ z n)
    sub (has_name {Γ = Γ} {Δ = Δ} {p = p} {n = n} {T = T} c g q z) Γ' f k = go (is (var x) n) refl
      where
        go : (a : Bool) → is (var x) n ≡ a → Has ops lim Γ' (swapped x w Δ) (cond a (stand_at p s) (name p n)) T
        go true h =
            let here = f.here in
            let same : n ≡ var x = sym (is_eq (var x) n h) in
            let bound : c ≡ b = cc in
            fill ops lim x p k Δ T (q ∙ ap type bound) (λ m. z m ∙ ap (λ (y : Name). spent T y m) same)
        go false h = has_name c (f.others n c h g) q (λ m. swap_absent x w Δ (z (var x) ∙ spent_other T n (var x) (is_flip x n h)) m ∙ z m)
    sub (has_build Ts ps fit) Γ' f k = has_build Ts (sub_parts ps Γ' f k) fit
    sub (has_bind {Δ = Δ} Δ₁ Δ₂ T Ts d h sp u) Γ' f k =
        has_bind (swapped x w Δ₁) (swapped x w Δ₂) T Ts (swap_divides x w Δ Δ₁ Δ₂ d) (sub h Γ' f k) sp (sub_under u Γ' f k)
    sub (has_mut {Δ = Δ} Δ₁ Δ₂ T Ts d h nv dup sp u) Γ' f k =
        has_mut (swapped x w Δ₁) (swapped x w Δ₂) T Ts (swap_divides x w Δ Δ₁ Δ₂ d) (sub h Γ' f k) (λ z. swap_clean x w clean Δ₁ z (nv z)) dup sp (sub_under u Γ' f k)
    sub (has_set {Δ = Δ} {ns = ns} Δ₁ Δ₂ T Ts d h nv sp m u) Γ' f k =
        has_set (swapped x w Δ₁) (swapped x w Δ₂) T Ts (swap_divides x w Δ Δ₁ Δ₂ d) (sub h Γ' f k) (λ z. swap_clean x w clean Δ₁ z (nv z))
        (spread_targets x s ns T Ts sp) (aim_all k f ns m) (sub u Γ' f k)
    sub (has_using u) Γ' f k = has_using (sub_under u Γ' f k)
    sub (has_if {Δ = Δ} Δ₁ Δ₂ d h u u') Γ' f k =
        has_if (swapped x w Δ₁) (swapped x w Δ₂) (swap_divides x w Δ Δ₁ Δ₂ d) (sub h Γ' f k) (sub u Γ' f k) (sub u' Γ' f k)

    pub sub_parts : {Γ : Scope} {Δ : Uses} {ts : Terms} {Ts : Tys} → Parts ops lim Γ Δ ts Ts → (Γ' : Scope) → Without x b Γ Γ' → StandsFor Γ' s w b →
        Parts ops lim Γ' (swapped x w Δ) (put_all x s ts) Ts
    sub_parts (parts_none {Δ = Δ} z) Γ' f k = parts_none (λ n. swap_absent x w Δ (z (var x)) n ∙ z n)
    sub_parts (parts_more {Δ = Δ} Δ₁ Δ₂ d h ps) Γ' f k =
        parts_more (swapped x w Δ₁) (swapped x w Δ₂) (swap_divides x w Δ Δ₁ Δ₂ d) (sub h Γ' f k) (sub_parts ps Γ' f k)

    pub sub_under : {as_bound : Ty → Binding} {Γ : Scope} {Δ : Uses} {xs : List ℕ} {Ts : Tys} {t : Term} {T : Ty} → Under ops lim as_bound Γ Δ xs Ts t T →
        (Γ' : Scope) → Without x b Γ Γ' → StandsFor Γ' s w b → Under ops lim as_bound Γ' (swapped x w Δ) xs Ts (put x s t) T
    sub_under (under_none h) Γ' f k = under_none (sub h Γ' f k)
    sub_under (under_more {as_bound = as_bound} {Δ = Δ} {x = y} {T = T} Δ' new d u) Γ' f k =
        let ne = apart f y new.0 in
        under_more (swapped x w Δ') (f.news y new.0, swap_clean x w clean Δ y new.1) (swap_other x w Δ Δ' T y ne d)
        (sub_under u (extend Γ' y (as_bound T)) (extend_without f y (as_bound T) ne) (extend_stands y (as_bound T) k))
