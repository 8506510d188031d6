-- The search as a position, one turn of it, and a part that is cut at the listing's end.
use Rattle.std.proofs.Common.{◌≡◌, ℕ, ◌+◌, ◌-◌, ◌<◌, ◌≤◌, min, true, false, cond, List, [], ◌∷◌, map, length, get_or, take, drop, Some, refl, sym, ap, ◌∙◌, ⊎_elim, arith, length-drop}
use Rattle.std.specs.List.{position, position_from}
use Rattle.std.specs.Str.{bytes_eq}
use Rattle.std.proofs.lemmas.Bool.{cases_lt}
use Rattle.std.proofs.lemmas.Iterator.Adapters.{position_from-zero}
use Rattle.std.proofs.lemmas.List.{at_drop_more, drop_all, take_all}
use Rattle.rules.specs.Names.{part, seek}

seek_from : {X : Type 0} (text : X → List ℕ) (name : List ℕ) (i : ℕ) (xs : List X) → seek i name (map text xs) ≡ position_from (λ x. bytes_eq (text x) name) i xs
seek_from text name i [] = refl
seek_from text name i (x ∷ xs) = ap (cond (bytes_eq (text x) name) (Some i)) (seek_from text name (i + 1) xs)

pub seek_position : {X : Type 0} (text : X → List ℕ) (name : List ℕ) (xs : List X) → position (λ x. bytes_eq (text x) name) xs ≡ seek 0 name (map text xs)
seek_position text name xs = position_from-zero (λ x. bytes_eq (text x) name) xs ∙ sym (seek_from text name 0 xs)

module _ {X : Type 0} (nm : X → List ℕ) (name : List ℕ) (xs : List X) (i : ℕ) (x : X) (lt : i < length xs) (is : x ≡ get_or xs i x) where
  here : seek i name (map nm (drop i xs)) ≡ cond (bytes_eq (nm x) name) (Some i) (seek (i + 1) name (map nm (drop (i + 1) xs)))
  here =
      at_drop_more (λ l. seek i name (map nm l)) xs i x lt
      ∙ ap (λ y. cond (bytes_eq (nm y) name) (Some i) (seek (i + 1) name (map nm (drop (i + 1) xs)))) (sym is)

  pub seek_yes : bytes_eq (nm x) name ≡ true → seek i name (map nm (drop i xs)) ≡ Some i
  seek_yes e = here ∙ simp e

  pub seek_no : bytes_eq (nm x) name ≡ false → seek i name (map nm (drop i xs)) ≡ seek (i + 1) name (map nm (drop (i + 1) xs))
  seek_no e = here ∙ simp e

take_none : (n : ℕ) → take {A = ℕ} n [] ≡ []
take_none n = take_all n [] (omega arith)

pub clamped : (s : List ℕ) (p n f m : ℕ) → f ≡ min p (length s) → m ≡ min n (length s - f) → take ((f + m) - f) (drop f s) ≡ part s p n
clamped s p n f m ef em =
    let k : (f + m) - f ≡ m = omega arith in
    ap (λ j. take j (drop f s)) k ∙
    ⊎_elim
    (λ (lt : p < length s).
    let fp : f ≡ p = omega arith in
    ap (λ j. take m (drop j s)) fp ∙
    ⊎_elim
    (λ (few : n < length s - p). let mn : m ≡ n = omega arith in ap (λ j. take j (drop p s)) mn)
    (λ (all : length s - p ≤ n). let l = length-drop p s in take_all m (drop p s) (omega arith) ∙ sym (take_all n (drop p s) (omega arith)))
    (cases_lt n (length s - p)))
    (λ (ge : length s ≤ p).
    ap (take m) (drop_all f s (omega arith)) ∙ take_none m ∙ sym (ap (take n) (drop_all p s ge) ∙ take_none n))
    (cases_lt p (length s))
