-- Each word is spelled as its sort says.
use Rattle.std.proofs.Common.{◌≡◌, ℕ, ◌+◌, Bool, true, false, cond, ◌&&◌, ◌||◌, leb, List, [], ◌∷◌, length, Some, None, Option, sym, refl, subst, inl, inr}
use Rattle.std.specs.Str.Parse.{digits_value}
use Rattle.std.specs.Int.{is_in_range}
use Rattle.std.specs.List.{AllByRecursion}
use Rattle.machine.specs.declared.order.Gate.{Gate}
use Rattle.words.specs.declared.token.Kind.{Kind}
use Rattle.std.proofs.lemmas.Option.{none-some, same_Some}
use Rattle.words.specs.Bytes.{inner, letter}
use Rattle.words.specs.Spellings.{kinds, gates, lookup}
use Rattle.words.specs.Words.{Sort, name, number, gate, fixed, found, good_number, good_name, longest, sort_of, Item, Whole, Worded, BlankEnd}
use Rattle.words.specs.Laws.{Spells, WordsAreSpelled}
use Rattle.words.proofs.Weaving.{accepted}

-- the answers of the two tables and of the two tests
by_cases : (w : List ℕ) → (good_name w ≡ true → AllByRecursion (λ b. inner b ≡ true) w)
    → (k : Option Kind) (g : Option Gate) (m n : Bool) → lookup w kinds ≡ k → lookup w gates ≡ g → good_number w ≡ m → good_name w ≡ n
    → (s : Sort) → found fixed k (found gate g (cond m (Some (number (digits_value 10 w))) (cond n (Some name) None))) ≡ Some s → Spells s w
by_cases w runs (Some k) g m n ek eg em en s e = subst (λ t. Spells t w) (same_Some _ _ e) ek
by_cases w runs None (Some g) m n ek eg em en s e = subst (λ t. Spells t w) (same_Some _ _ e) eg
by_cases w runs None None true n ek eg em en s e = subst (λ t. Spells t w) (same_Some _ _ e) (em, refl)
by_cases w runs None None false true ek eg em en s e = subst (λ t. Spells t w) (same_Some _ _ e) (en, runs en, ek, eg)
by_cases w runs None None false false ek eg em en s e = absurd (none-some s e)

spells : (w : List ℕ) → (good_name w ≡ true → AllByRecursion (λ b. inner b ≡ true) w) → (s : Sort) → sort_of w ≡ Some s → Spells s w
unfolding sort_of
spells w runs s e = by_cases w runs (lookup w kinds) (lookup w gates) (good_number w) (good_name w) refl refl refl refl s e

letter_inner : (b : ℕ) → letter b ≡ true → inner b ≡ true
letter_inner b l = some_of (is_in_range 48 57 b) (is_in_range 65 90 b) (is_in_range 97 122 b) l
  where
    some_of : (d u w : Bool) → (u || w) ≡ true → ((d || u) || w) ≡ true
    some_of true u w e = refl
    some_of false u w e = e

and_first : (x y : Bool) → (x && y) ≡ true → x ≡ true
and_first true y e = refl
and_first false y e = e

-- a name is a run
name_run : (w rest : List ℕ) → Whole w rest → good_name w ≡ true → AllByRecursion (λ b. inner b ≡ true) w
name_run w rest (inl h) e = h.1
name_run w rest (inr h) e =
    let n : good_name (h.0 ∷ []) ≡ true = subst (λ v. good_name v ≡ true) h.1 e in
    subst (AllByRecursion (λ b. inner b ≡ true)) (sym h.1) (letter_inner h.0 (and_first (letter h.0) (leb 1 longest) n), tt)

all_spelled : (End : ℕ → List ℕ → Type 0) (at : ℕ) (s : List ℕ) (xs : List Item) → Worded at s xs End → AllByRecursion (λ x. Spells x.sort x.bytes) xs
all_spelled End at s [] w = tt
all_spelled End at s (x ∷ xs) w = (spells x.bytes (name_run x.bytes w.1 w.2.3) x.sort w.3, all_spelled End (x.place + length x.bytes) w.1 xs w.4)

pub words_are_spelled_lem : WordsAreSpelled
words_are_spelled_lem s xs e = all_spelled BlankEnd 0 s xs (accepted s xs e)
