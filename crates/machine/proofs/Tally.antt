-- The laws of `tally` and `with`.
use Rattle.std.proofs.Common.{◌≡◌, ℕ, zero, suc, ◌+◌, ◌<◌, ◌≤◌, Bool, true, false, cond, eqb, List, length, get_or, set, replicate, sym, refl, ap, ◌∙◌, ⊎_elim, arith, eq-eqb, ne_eqb, eqb-true}
use borrow.Author.Tests.{eqb-false, both_ways}
use Rattle.std.proofs.str.Laws.{order}
use Rattle.std.proofs.lemmas.List.{get_or-set_same, get_or-set_other, get_or_past}
use Rattle.machine.specs.Model.{tally, with}

pub tally_all : (f : ℕ → Bool) (n : ℕ) → ((k : ℕ) → k < n → f k ≡ true) → tally f n ≡ n
unfolding tally
tally_all f zero h = refl
tally_all f (suc n) h = simp (h n (omega arith), tally_all f n (λ k l. h k (omega arith))) (omega arith)

pub tally_none : (f : ℕ → Bool) (n : ℕ) → ((k : ℕ) → f k ≡ false) → tally f n ≡ 0
unfolding tally
tally_none f zero h = refl
tally_none f (suc n) h = simp (h n, tally_none f n h) (omega arith)

pub tally_same : (f g : ℕ → Bool) (n : ℕ) → ((k : ℕ) → k < n → g k ≡ f k) → tally g n ≡ tally f n
unfolding tally
tally_same f g zero h = refl
tally_same f g (suc n) h = simp (h n (omega arith), tally_same f g n (λ k l. h k (omega arith)))

pub with_here : (f : ℕ → Bool) (h : ℕ) (b : Bool) → with f h b h ≡ b
with_here f h b = simp (eq-eqb h h refl)

pub with_there : (f : ℕ → Bool) (h k : ℕ) (b : Bool) → (k ≡ h → ⊥) → with f h b k ≡ f k
with_there f h k b ne = simp (ne_eqb k h ne)

-- one more, or one less
pub tally_more : (f g : ℕ → Bool) (n h : ℕ) → h < n → f h ≡ false → ((k : ℕ) → g k ≡ with f h true k) → tally g n ≡ tally f n + 1
unfolding tally
tally_more f g zero h l e same = absurd (omega arith)
tally_more f g (suc n) h l e same =
    elim (eqb n h) as (λ b. eqb n h ≡ b → tally g (suc n) ≡ tally f (suc n) + 1) [
      | true ↦ λ t.
          let at : n ≡ h = eqb-true n h t in
          let gn : g n ≡ true = same n ∙ simp t in
          let fn : f n ≡ false = ap f at ∙ e in
          let rest : tally g n ≡ tally f n = tally_same f g n (λ k below. same k ∙ with_there f h k true (λ x. omega arith)) in
          simp (gn, fn, rest) (omega arith)
      | false ↦ λ t.
          let apart : n ≡ h → ⊥ = eqb-false n h t in
          let gn : g n ≡ f n = same n ∙ simp t in
          let below : h < n = ⊎_elim (λ x. x) (λ x. absurd (apart (omega arith))) (order h n) in
          let rest : tally g n ≡ tally f n + 1 = tally_more f g n h below e same in
          simp (gn, rest) (omega arith)
    ] refl

-- a write to a list of flags, as a function
pub set_with : (l : List Bool) (h : ℕ) (b : Bool) → h < length l → (k : ℕ) → get_or (set l h b) k false ≡ with (λ j. get_or l j false) h b k
set_with l h b small k =
    elim (eqb k h) as (λ t. eqb k h ≡ t → get_or (set l h b) k false ≡ cond t b (get_or l k false)) [
      | true ↦ λ t. ap (λ j. get_or (set l h b) j false) (eqb-true k h t) ∙ get_or-set_same l h b false small
      | false ↦ λ t. get_or-set_other l h k b false (eqb-false k h t)
    ] refl

pub free_under : (f : ℕ → Bool) (n : ℕ) → tally f n < n → ((k : ℕ) → k < n → f k ≡ true) → ⊥
free_under f n l all = let e = tally_all f n all in omega arith

pub tally_le : (f : ℕ → Bool) (n : ℕ) → tally f n ≤ n
unfolding tally
tally_le f zero = omega arith
tally_le f (suc n) =
    let rest = tally_le f n in
    elim (f n) as (λ b. cond b 1 0 + tally f n ≤ suc n) [ true ↦ omega arith | false ↦ omega arith ]

pub tally_less : (f g : ℕ → Bool) (n h : ℕ) → h < n → f h ≡ true → ((k : ℕ) → g k ≡ with f h false k) → tally g n + 1 ≡ tally f n
tally_less f g n h l e same =
    sym (tally_more g f n h l (same h ∙ with_here f h false) (λ k.
    elim (eqb k h) as (λ t. eqb k h ≡ t → f k ≡ cond t true (g k)) [
      | true ↦ λ t. ap f (eqb-true k h t) ∙ e
      | false ↦ λ t. sym (same k ∙ with_there f h k false (eqb-false k h t))
    ] refl))

pub live_below : (l : List Bool) (h : ℕ) → get_or l h false ≡ true → h < length l
live_below l h e = ⊎_elim (λ x. x) (λ x. absurd (both_ways (get_or l h false) (get_or_past l h false x) e)) (order h (length l))

-- a flag set or cleared
pub set_on : (l : List Bool) (h : ℕ) → length l ≡ 64 → h < 64 → get_or l h false ≡ false → tally (λ k. get_or (set l h true) k false) 64 ≡ tally (λ k. get_or l k false) 64 + 1
set_on l h long small free = tally_more (λ k. get_or l k false) (λ k. get_or (set l h true) k false) 64 h small free (set_with l h true (omega arith))

pub set_off : (l : List Bool) (h : ℕ) → length l ≡ 64 → get_or l h false ≡ true → tally (λ k. get_or (set l h false) k false) 64 + 1 ≡ tally (λ k. get_or l k false) 64
set_off l h long alive =
    let few = live_below l h alive in
    tally_less (λ k. get_or l k false) (λ k. get_or (set l h false) k false) 64 h (omega arith) alive (set_with l h false few)

pub all_off : (n : ℕ) (k : ℕ) → get_or (replicate n false) k false ≡ false
all_off zero k = refl
all_off (suc n) zero = refl
all_off (suc n) (suc k) = all_off n k

-- with more numbers the tally does not fall
pub tally_mono : (f : ℕ → Bool) (m n : ℕ) → m ≤ n → tally f m ≤ tally f n
unfolding tally
tally_mono f m zero l = let e : m ≡ 0 = omega arith in omega (arith, ap (tally f) e)
tally_mono f m (suc n) l =
    ⊎_elim (λ (b : m < suc n). let rest = tally_mono f m n (omega arith) in omega arith)
    (λ (b : suc n ≤ m). let e : m ≡ suc n = omega arith in omega (arith, ap (tally f) e))
    (order m (suc n))
