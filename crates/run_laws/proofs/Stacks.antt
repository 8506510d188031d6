-- A stack is kept as a list with the latest last, and read with the latest first.
use Rattle.std.proofs.Common.{◌≡◌, ℕ, ◌+◌, List, [], ◌∷◌, ◌++◌, reverse, length, take, drop, sym, refl, ap, ◌∙◌, arith}
use Rattle.std.proofs.lemmas.List.{reverse-append, reverse-reverse, length-reverse, length-drop, take-append-drop}

pub reverse_last : {A : Type 0} (xs : List A) (x : A) → reverse (xs ++ (x ∷ [])) ≡ x ∷ reverse xs
reverse_last xs x = reverse-append xs (x ∷ [])

take_first : {A : Type 0} (xs ys : List A) → take (length xs) (xs ++ ys) ≡ xs
take_first [] ys = none ys
  where
    none : {A : Type 0} (ys : List A) → take 0 ys ≡ []
    none [] = refl
    none (y ∷ ys) = refl
take_first (x ∷ xs) ys = ap (◌∷◌ x) (take_first xs ys)

drop_first : {A : Type 0} (xs ys : List A) → drop (length xs) (xs ++ ys) ≡ ys
drop_first [] ys = none ys
  where
    none : {A : Type 0} (ys : List A) → drop 0 ys ≡ ys
    none [] = refl
    none (y ∷ ys) = refl
drop_first (x ∷ xs) ys = drop_first xs ys

module _ {A : Type 0} (xs : List A) (b n : ℕ) (e : b + n ≡ length xs) where
  split : reverse xs ≡ reverse (drop b xs) ++ reverse (take b xs)
  split = ap reverse (sym (take-append-drop b xs)) ∙ reverse-append (take b xs) (drop b xs)

  latest : length (reverse (drop b xs)) ≡ n
  latest = length-reverse (drop b xs) ∙ length-drop b xs ∙ omega (arith, e)

  -- without the latest n, the first b stay
  pub latest_dropped : drop n (reverse xs) ≡ reverse (take b xs)
  latest_dropped = ap (λ (m : ℕ). drop m (reverse xs)) (sym latest) ∙ ap (drop (length (reverse (drop b xs)))) split ∙ drop_first (reverse (drop b xs)) (reverse (take b xs))

  -- the latest n, in the order in which they came, are those from b on
  pub latest_taken : reverse (take n (reverse xs)) ≡ drop b xs
  latest_taken = ap reverse (ap (λ (m : ℕ). take m (reverse xs)) (sym latest) ∙ ap (take (length (reverse (drop b xs)))) split ∙ take_first (reverse (drop b xs)) (reverse (take b xs)))
      ∙ reverse-reverse (drop b xs)
