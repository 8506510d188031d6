-- Names, and the linear names once one of them is filled.
use mathlib.Core.Path.{◌≡◌, refl, sym, ap}
use mathlib.Core.Bool.{Bool, true, false, cond}
use Prim.Native.Nat.{ℕ, ◌+◌, ◌*◌}
use native.Mathlib.Omega.{arith}
use lib.Dec.{eqb}
use borrow.Author.Tests.{eqb-true, eqb-false, eq-eqb, ne_eqb}
use Rattle.calculus.specs.Syntax.{Ty, linear, some_linear, Duplicable, Name, var, entry, handle, is, Value, the_unit, bit_of, int_of, handle_of, tuple_of, Values, no_values, ◌∷ᵛ◌, type_of}
use Rattle.calculus.specs.Syntax.{types_of}
use Rattle.calculus.specs.Rules.{Uses, Same, Divides, spent, held, held_all, NoVar}

pub never {ℓ} : {A : Type ℓ} → ◌≡◌ {A = ℕ} 0 1 → A
never z = absurd (omega arith)

pub is_eq : (m n : Name) → is m n ≡ true → m ≡ n
is_eq (var x) (var y) h = ap var (eqb-true x y h)
is_eq (var x) (entry y) h = cc
is_eq (var x) (handle y) h = cc
is_eq (entry x) (var y) h = cc
is_eq (entry x) (entry y) h = ap entry (eqb-true x y h)
is_eq (entry x) (handle y) h = cc
is_eq (handle x) (var y) h = cc
is_eq (handle x) (entry y) h = cc
is_eq (handle x) (handle y) h = ap handle (eqb-true x y h)

pub is_refl : (n : Name) → is n n ≡ true
is_refl (var x) = eq-eqb x x refl
is_refl (entry x) = eq-eqb x x refl
is_refl (handle x) = eq-eqb x x refl

pub eqb_sym : (a b : ℕ) → eqb a b ≡ false → eqb b a ≡ false
eqb_sym a b h = ne_eqb b a (λ e. eqb-false a b h (sym e))

pub is_flip : (x : ℕ) (n : Name) → is (var x) n ≡ false → is n (var x) ≡ false
is_flip x (var y) h = eqb_sym x y h
is_flip x (entry y) h = refl
is_flip x (handle y) h = refl

-- a value holds handles alone, and none if its type is duplicable
mutual
  pub held_var : (v : Value) (x : ℕ) → held v (var x) ≡ 0
  held_var the_unit x = refl
  held_var (bit_of b) x = refl
  held_var (int_of k) x = refl
  held_var (handle_of h) x = refl
  held_var (tuple_of vs) x = held_all_var vs x

  pub held_all_var : (vs : Values) (x : ℕ) → held_all vs (var x) ≡ 0
  held_all_var no_values x = refl
  held_all_var (v ∷ᵛ vs) x = omega (arith, held_var v x, held_all_var vs x)

pub neither : (a b : Bool) → cond a true b ≡ false → (a ≡ false) × (b ≡ false)
neither true b e = (never cc, never cc)
neither false b e = (refl, e)

mutual
  pub held_dup : (v : Value) (n : Name) → Duplicable (type_of v) → held v n ≡ 0
  held_dup the_unit n d = refl
  held_dup (bit_of b) n d = refl
  held_dup (int_of k) n d = refl
  held_dup (handle_of h) n d = never cc
  held_dup (tuple_of vs) n d = held_all_dup vs n d

  pub held_all_dup : (vs : Values) (n : Name) → some_linear (types_of vs) ≡ false → held_all vs n ≡ 0
  held_all_dup no_values n d = refl
  held_all_dup (v ∷ᵛ vs) n d =
      let both = neither (linear (type_of v)) (some_linear (types_of vs)) d in
      omega (arith, held_dup v n both.0, held_all_dup vs n both.1)

-- a name spends itself alone
pub spent_other : (T : Ty) (m n : Name) → is m n ≡ false → spent T m n ≡ 0
spent_other T m n h = rw h (go (linear T))
  where
    go : (b : Bool) → cond {A = ℕ} b 0 0 ≡ 0
    go true = refl
    go false = refl

-- the linear names once something that holds w stands for x
abbrev pub swapped : ℕ → Uses → Uses → Uses
swapped x w Δ n = cond (is (var x) n) 0 (Δ n) + Δ (var x) * w n

module _ (x : ℕ) (w : Uses) where
  pub swap_divides : (Δ Δ₁ Δ₂ : Uses) → Divides Δ Δ₁ Δ₂ → Divides (swapped x w Δ) (swapped x w Δ₁) (swapped x w Δ₂)
  swap_divides Δ Δ₁ Δ₂ d n = rw (d (var x), d n) (go (is (var x) n))
    where
      go : (b : Bool) → cond b 0 (Δ₁ n + Δ₂ n) + (Δ₁ (var x) + Δ₂ (var x)) * w n ≡ (cond b 0 (Δ₁ n) + Δ₁ (var x) * w n) + (cond b 0 (Δ₂ n) + Δ₂ (var x) * w n)
      go true = omega arith
      go false = omega arith

  pub swap_clean : NoVar w → (Δ : Uses) (y : ℕ) → Δ (var y) ≡ 0 → swapped x w Δ (var y) ≡ 0
  swap_clean c Δ y z = rw (c y, z) (go (eqb x y))
    where
      go : (b : Bool) → cond b 0 0 + Δ (var x) * 0 ≡ 0
      go true = omega arith
      go false = omega arith

  pub swap_other : (Δ Δ' : Uses) (T : Ty) (y : ℕ) → eqb x y ≡ false → Divides Δ' Δ (spent T (var y)) → Divides (swapped x w Δ') (swapped x w Δ) (spent T (var y))
  swap_other Δ Δ' T y ne d n = rw (d (var x), d n, spent_other T (var y) (var x) (eqb_sym x y ne)) (go (is (var x) n) refl)
    where
      go : (b : Bool) → is (var x) n ≡ b → cond b 0 (Δ n + spent T (var y) n) + (Δ (var x) + 0) * w n ≡ (cond b 0 (Δ n) + Δ (var x) * w n) + spent T (var y) n
      go true h = let z : spent T (var y) n ≡ 0 = rw (← is_eq (var x) n h) (spent_other T (var y) (var x) (eqb_sym x y ne)) in rw z (omega arith)
      go false h = omega arith

  -- where x is not spent, nothing changes
  pub swap_absent : (Δ : Uses) → Δ (var x) ≡ 0 → Same (swapped x w Δ) Δ
  swap_absent Δ z n = rw z (go (is (var x) n) refl)
    where
      go : (b : Bool) → is (var x) n ≡ b → cond b 0 (Δ n) + 0 * w n ≡ Δ n
      go true h = rw (← is_eq (var x) n h, z) (omega arith)
      go false h = omega arith

  -- where x alone is spent, what stands for it is
  pub swap_here : (Δ : Uses) (T : Ty) → Same Δ (spent T (var x)) → (n : Name) → swapped x w Δ n ≡ cond (linear T) (w n) 0
  swap_here Δ T s n = rw (s (var x), s n, is_refl (var x)) (go (linear T) (is (var x) n))
    where
      go : (l b : Bool) → cond b 0 (cond l (cond b 1 0) 0) + cond l 1 0 * w n ≡ cond l (w n) 0
      go true true = omega arith
      go true false = omega arith
      go false true = omega arith
      go false false = omega arith
