-- Where fewer handles are live than the capacity, the search in the cyclic order finds one that is not live.
use Rattle.std.proofs.Common.{◌≡◌, ℕ, zero, suc, ◌+◌, ◌-◌, ◌%◌, ◌<◌, ◌≤◌, Bool, true, false, not, cond, map, Some, None, Option, MatchOption, refl, sym, ap, ◌∙◌, subst, ⊎_elim, mod-eq_of_lt, below_none, below_more, arith}
use Rattle.std.specs.List.{find, range_with_len}
use native.Mathlib.Nat.{add-mod_right}
use Rattle.std.proofs.lemmas.Bool.{cases_lt}
use Rattle.machine.specs.Coins.{FirstFree, FreeFrom}
use Rattle.machine.specs.Model.{Model, tally}
use Rattle.machine.proofs.Tally.{tally_all, tally_mono}

-- the cyclic order from any start meets every number below the capacity
pub meets_all : (f : ℕ → Bool) (capacity start : ℕ) → start < capacity → ((k : ℕ) → k < capacity → f ((start + k) % capacity) ≡ true) → (j : ℕ) → j < capacity → f j ≡ true
meets_all f capacity start low all j h =
    ⊎_elim
    (λ (l : j < start).
    let k = j + capacity - start in
    let e : start + k ≡ j + capacity = omega arith in
    let p : (start + k) % capacity ≡ j = ap (λ x. x % capacity) e ∙ add-mod_right j capacity ∙ mod-eq_of_lt h in
    subst (λ x. f x ≡ true) p (all k (omega arith)))
    (λ (l : start ≤ j).
    let k = j - start in
    let e : start + k ≡ j = omega arith in
    let p : (start + k) % capacity ≡ j = ap (λ x. x % capacity) e ∙ mod-eq_of_lt h in
    subst (λ x. f x ≡ true) p (all k (omega arith)))
    (cases_lt j start)

pub not_all_live : (f : ℕ → Bool) (capacity start : ℕ) → capacity ≤ 64 → start < capacity → tally f 64 < capacity → ((k : ℕ) → k < capacity → f ((start + k) % capacity) ≡ true) → ⊥
not_all_live f capacity start most low room all =
    let e = tally_all f capacity (meets_all f capacity start low all) in
    let l = tally_mono f capacity 64 most in
    omega arith

-- from the distance i on, before which all are live
searched : (f : ℕ → Bool) (capacity start i n : ℕ) → i + n ≡ capacity → ((k : ℕ) → k < i → f ((start + k) % capacity) ≡ true) → MatchOption (find (λ h. not (f h)) (map (λ d. (start + d) % capacity) (range_with_len i n))) ((k : ℕ) → k < capacity → f ((start + k) % capacity) ≡ true) (FirstFree capacity f start)
searched f capacity start i zero e passed = λ k l. passed k (omega arith)
searched f capacity start i (suc n) e passed =
    elim (f ((start + i) % capacity)) as (λ b. f ((start + i) % capacity) ≡ b → MatchOption (cond (not b) (Some ((start + i) % capacity)) (find (λ h. not (f h)) (map (λ d. (start + d) % capacity) (range_with_len (i + 1) n)))) ((k : ℕ) → k < capacity → f ((start + k) % capacity) ≡ true) (FirstFree capacity f start)) [
      | true ↦ λ t. searched f capacity start (i + 1) n (omega arith) (below_more (λ k. f ((start + k) % capacity) ≡ true) i passed t)
      | false ↦ λ t. record { distance = i; once = omega arith; place = refl; free = t; passed = passed }
    ] refl

pub first_free : (m : Model) (start : ℕ) (r : Option ℕ) → start < m.capacity → tally m.live 64 < m.capacity → r ≡ find (λ h. not (m.live h)) (map (λ d. (start + d) % m.capacity) (range_with_len 0 m.capacity)) → FreeFrom m start r
first_free m start r low room e =
    settled r (subst (λ o. MatchOption o ((k : ℕ) → k < m.capacity → m.live ((start + k) % m.capacity) ≡ true) (FirstFree m.capacity m.live start)) (sym e) (searched m.live m.capacity start 0 m.capacity (omega arith) (below_none (λ k. m.live ((start + k) % m.capacity) ≡ true))))
  where
    settled : (o : Option ℕ) → MatchOption o ((k : ℕ) → k < m.capacity → m.live ((start + k) % m.capacity) ≡ true) (FirstFree m.capacity m.live start) → FreeFrom m start o
    settled None all = absurd (not_all_live m.live m.capacity start m.most low room all)
    settled (Some h) p = (room, p)
