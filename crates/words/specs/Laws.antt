-- Laws of the words of a listing.
use Rattle.std.specs.Prelude.{◌≡◌, ℕ, ◌+◌, ◌<◌, ◌≤◌, true, ◌↔◌, List, [], ◌∷◌, length, take, drop, Some, None}
use Rattle.std.specs.List.{AllByRecursion}
use Rattle.std.specs.Str.Parse.{digits_value}
use Rattle.words.specs.Bytes.{inner}
use Rattle.words.specs.Spellings.{kinds, gates, lookup}
use Rattle.words.specs.Words.{Sort, name, number, gate, fixed, good_name, good_number, Item, items, bad_at, words_of, Worded, BlankEnd, BadEnd}

-- the accepted listings are good words in order and blanks at the end, with any blanks or none before each word, and their words are these
abbrev pub AcceptedExactly : Type 0
AcceptedExactly = (s : List ℕ) (xs : List Item) → (words_of s ≡ items xs) ↔ Worded 0 s xs BlankEnd

-- the others are refused, at the place of the first bad word
abbrev pub RefusedExactly : Type 0
RefusedExactly = (s : List ℕ) (p : ℕ) → (words_of s ≡ bad_at p) ↔ ((xs : List Item) × Worded 0 s xs (BadEnd p))

-- each word begins at `at` or after it, and the next one at its end or after it
abbrev pub Rising : ℕ → List Item → Type 0
Rising at [] = Unit {0}
Rising at (x ∷ xs) = (at ≤ x.place) × (0 < length x.bytes) × Rising (x.place + length x.bytes) xs

abbrev pub PlacesRise : Type 0
PlacesRise = (s : List ℕ) (xs : List Item) → words_of s ≡ items xs → Rising 0 xs

-- a word is the part of the listing at its place
abbrev pub Part : List ℕ → Item → Type 0
Part s x = (x.place + length x.bytes ≤ length s) × (x.bytes ≡ take (length x.bytes) (drop x.place s))

abbrev pub WordsAreParts : Type 0
WordsAreParts = (s : List ℕ) (xs : List Item) → words_of s ≡ items xs → AllByRecursion (Part s) xs

abbrev pub NoMoreWordsThanBytes : Type 0
NoMoreWordsThanBytes = (s : List ℕ) (xs : List Item) → words_of s ≡ items xs → length xs ≤ length s

-- a bad word begins within the listing
abbrev pub BadWordsAreWithin : Type 0
BadWordsAreWithin = (s : List ℕ) (p : ℕ) → words_of s ≡ bad_at p → p < length s

-- a name begins with a letter, has letters and digits only, is short and is not reserved; the others are spelled as they should be
abbrev pub Spells : Sort → List ℕ → Type 0
Spells name w = (good_name w ≡ true) × AllByRecursion (λ b. inner b ≡ true) w × (lookup w kinds ≡ None) × (lookup w gates ≡ None)
Spells (number n) w = (good_number w ≡ true) × (n ≡ digits_value 10 w)
Spells (gate g) w = lookup w gates ≡ Some g
Spells (fixed k) w = lookup w kinds ≡ Some k

abbrev pub WordsAreSpelled : Type 0
WordsAreSpelled = (s : List ℕ) (xs : List Item) → words_of s ≡ items xs → AllByRecursion (λ x. Spells x.sort x.bytes) xs
