-- Differences of natural numbers, as whole numbers.
use lib.Dec.{T}
use mathlib.Core.Path.{◌≡◌, refl, sym, subst}
use mathlib.Core.Bool.{Bool, true, false, cond, not}
use Prim.Native.Nat.{ℕ, zero, suc, ◌+◌, max}
use native.Mathlib.Omega.{arith}
use lib.Dec.{leb, leb→le, nleb→lt}
use lib.IntN.{ℤ, pos, negsuc, ◌+ℤ◌, ◌-ℤ◌}
use borrow.Author.Differences.{up, down, sum_is_lem, same_in}
use Rattle.calculus.specs.Peak.{maxℤ}

-- z is a less c
abbrev pub IsDiff : ℤ → ℕ → ℕ → Type 0
IsDiff z a c = up z + c ≡ down z + a

pub max_is : (a b : ℤ) → up (maxℤ a b) + (down a + down b) ≡ down (maxℤ a b) + max (up a + down b) (up b + down a)
max_is (pos a) (pos b) = go (leb a b) refl
  where
    go : (c : Bool) → leb a b ≡ c → up (cond c (pos b) (pos a)) + (0 + 0) ≡ down (cond c (pos b) (pos a)) + max (a + 0) (b + 0)
    go true q = omega (arith, leb→le a b (subst T (sym q) tt))
    go false q = omega (arith, nleb→lt a b (subst (λ (c : Bool). T (not c)) (sym q) tt))
max_is (pos a) (negsuc b) = omega arith
max_is (negsuc a) (pos b) = omega arith
max_is (negsuc a) (negsuc b) = go (leb b a) refl
  where
    go : (c : Bool) → leb b a ≡ c → up (cond c (negsuc b) (negsuc a)) + (suc a + suc b) ≡ down (cond c (negsuc b) (negsuc a)) + max (0 + suc b) (0 + suc a)
    go true q = omega (arith, leb→le b a (subst T (sym q) tt))
    go false q = omega (arith, nleb→lt b a (subst (λ (c : Bool). T (not c)) (sym q) tt))

pub diff_pos : (n : ℕ) → IsDiff (pos n) n 0
diff_pos n = omega arith

pub diff_sum : (x y : ℤ) (a b c d : ℕ) → IsDiff x a c → IsDiff y b d → IsDiff (x +ℤ y) (a + b) (c + d)
diff_sum x y a b c d p q = omega (arith, p, q, sum_is_lem x y)

pub diff_net : (q w : ℕ) → IsDiff (pos q -ℤ pos w) q w
diff_net q zero = omega (arith, sum_is_lem (pos q) (pos 0))
diff_net q (suc w) = omega (arith, sum_is_lem (pos q) (negsuc w))

pub diff_max : (x y : ℤ) (a b c : ℕ) → IsDiff x a c → IsDiff y b c → IsDiff (maxℤ x y) (max a b) c
diff_max x y a b c p q = omega (arith, p, q, max_is x y)

pub diff_shift : (x : ℤ) (a c a' c' : ℕ) → a + c' ≡ a' + c → IsDiff x a c → IsDiff x a' c'
diff_shift x a c a' c' e p = omega (arith, e, p)

pub diff_same : (x y : ℤ) (a c : ℕ) → IsDiff x a c → IsDiff y a c → x ≡ y
diff_same x y a c p q = same_in x y (omega (arith, p, q))

-- as an equation
pub diff_is : (x : ℤ) (a c : ℕ) → IsDiff x a c → pos a ≡ pos c +ℤ x
diff_is x a c p = same_in (pos a) (pos c +ℤ x) (omega (arith, p, sum_is_lem (pos c) x))
