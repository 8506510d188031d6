-- Finding names by their bytes.
use Rattle.std.specs.Prelude.{ℕ, suc, Bool, false, cond, ◌||◌, List, [], ◌∷◌}
use Rattle.std.proofs.Math.Option.{Option, none, some}
use Rattle.std.specs.Str.{bytes_eq}

-- the first where there is one, otherwise the second
abbrev pub first_of : {A : Type 0} → Option A → Option A → Option A
first_of none o = o
first_of (some a) o = some a

-- the entry of a name in a list that has the innermost name first; of two, the outer one
abbrev pub find : {A : Type 0} → (A → List ℕ) → List ℕ → List A → Option A
find name_of b [] = none
find name_of b (a ∷ rest) = first_of (find name_of b rest) (cond (bytes_eq (name_of a) b) (some a) none)

abbrev pub among : List ℕ → List (List ℕ) → Bool
among b [] = false
among b (c ∷ rest) = bytes_eq c b || among b rest

abbrev pub one_more : Option ℕ → Option ℕ
one_more none = none
one_more (some k) = some (suc k)

-- how many names stand before the first that is b
abbrev pub position : List ℕ → List (List ℕ) → Option ℕ
position b [] = none
position b (c ∷ rest) = cond (bytes_eq c b) (some 0) (one_more (position b rest))
