-- The words of a listing.
use Rattle.std.specs.Prelude.{◌≡◌, ℕ, zero, suc, ◌+◌, ◌<◌, Bool, true, false, cond, not, ◌&&◌, ◌⊎◌, List, [], ◌∷◌, ◌++◌, map, length, take, drop, Some, None, Ok, Err, Option, Result, ◌==◌, nat_le}
use Rattle.std.specs.List.{prefix_len, AllByRecursion}
use Rattle.std.specs.Str.{all_ascii_digits}
use Rattle.std.specs.Str.Parse.{digits_value}
use Rattle.machine.specs.declared.order.Gate.{Gate as GateName}
use Rattle.words.specs.Bytes.{blank, inner, letter}
use Rattle.words.specs.Spellings.{kinds, gates, lookup}
use Rattle.words.specs.declared.token.Kind.{Kind}
use Rattle.words.specs.declared.token.Word.{Word}
use Rattle.words.specs.declared.token.Word.TheVariants.{Name, Number, Gate, Fixed}
use Rattle.words.specs.declared.token.WordFault.{WordFault}
use Rattle.words.specs.declared.token.WordFault.TheVariants.{Bad, Memory}

-- what a word is
pub data Sort : Type 0 where
  name : Sort
  number : ℕ → Sort
  gate : GateName → Sort
  fixed : Kind → Sort

-- how many bytes a name has at most
abbrev pub longest : ℕ
longest = 16

-- the largest number that a listing may hold
abbrev pub largest : ℕ
largest = 65535

-- some byte, and no zero at its front but in 0 itself
abbrev pub no_leading_zero : List ℕ → Bool
no_leading_zero [] = false
no_leading_zero (b ∷ []) = true
no_leading_zero (b ∷ c ∷ w) = not (b == 48)

-- digits only, no leading zero, and not too large
abbrev pub good_number : List ℕ → Bool
good_number w = no_leading_zero w && (all_ascii_digits w && nat_le (digits_value 10 w) largest)

-- a letter first, and not too long; w is a run of letters and digits, or one other byte
abbrev pub good_name : List ℕ → Bool
good_name [] = false
good_name (b ∷ w) = letter b && nat_le (length (b ∷ w)) longest

-- what a table has found, or else the other
abbrev pub found : {T : Type 0} → (T → Sort) → Option T → Option Sort → Option Sort
found f (Some x) other = Some (f x)
found f None other = other

-- what the word of the bytes w is, if it is a good one: a mark or a reserved word, a gate, a number, or else a name
unfoldable pub sort_of : List ℕ → Option Sort
sort_of w =
    found fixed (lookup w kinds)
    (found gate (lookup w gates)
    (cond (good_number w) (Some (number (digits_value 10 w)))
    (cond (good_name w) (Some name) None)))

-- a word: what it is, its bytes and its place
pub record Item : Type 0 where
  pub sort : Sort
  pub bytes : List ℕ
  pub place : ℕ

abbrev pub item : Sort → List ℕ → ℕ → Item
item s w p = record { sort = s; bytes = w; place = p }

-- a word of the code
abbrev pub seen : Word → Item
seen (Name text place) = item name text.now place
seen (Number text place value) = item (number value) text.now place
seen (Gate text place g) = item (gate g) text.now place
seen (Fixed text place k) = item (fixed k) text.now place

-- the words, or the place of the first bad one
pub data Lexed : Type 0 where
  items : List Item → Lexed
  bad_at : ℕ → Lexed

-- one word more in front
abbrev pub before : Item → Lexed → Lexed
before x (items xs) = items (x ∷ xs)
before x (bad_at p) = bad_at p

-- the word of the bytes w at the place p, and what comes after it
abbrev pub begin : Option Sort → List ℕ → ℕ → Lexed → Lexed
begin None w p rest = bad_at p
begin (Some s) w p rest = before (item s w p) rest

-- how many bytes more than b the word has that b begins: a run of letters and digits is one word, any other byte is a word of its own
abbrev pub extent : ℕ → List ℕ → ℕ
extent b bs = cond (inner b) (prefix_len inner bs) 0

-- how many bytes the word has that comes first
abbrev pub span : List ℕ → ℕ
span [] = 0
span (b ∷ bs) = suc (extent b bs)

-- the words of the bytes from the place `at` on; k bytes are passed first, those of a word that was given already
abbrev pub lex : ℕ → ℕ → List ℕ → Lexed
lex at k [] = items []
lex at (suc k) (b ∷ bs) = lex (at + 1) k bs
lex at zero (b ∷ bs) =
    cond (blank b) (lex (at + 1) 0 bs)
    (begin (sort_of (b ∷ take (extent b bs) bs)) (b ∷ take (extent b bs) bs) at (lex (at + 1) (extent b bs) bs))

-- the words of a listing
abbrev pub words_of : List ℕ → Lexed
words_of s = lex 0 0 s

-- what is left to read of a listing from a place on
abbrev pub rest : List ℕ → ℕ → List ℕ
rest s at = drop at s

-- the words of a listing from a place on, at which no word is cut
abbrev pub words_from : List ℕ → ℕ → Lexed
words_from s at = lex at 0 (rest s at)

-- the number of the question that a bad word is refused with
abbrev pub bad_word : ℕ
bad_word = 3

-- the number and the place of a refusal; want of memory has neither
abbrev pub refusal : WordFault → Option (ℕ × ℕ)
refusal (Bad place) = Some (bad_word, place)
refusal Memory = None

-- the refusal that the definition calls for
abbrev pub refused : Lexed → Option (ℕ × ℕ)
refused (items xs) = None
refused (bad_at p) = Some (bad_word, p)

-- what the bytes w at the place p are: a word, or none
abbrev pub Means : List ℕ → ℕ → Option Word → Type 0
Means w p None = sort_of w ≡ None
Means w p (Some x) = (sort_of w ≡ Some (seen x).sort) × (seen x ≡ item (seen x).sort w p)

abbrev pub Blanks : List ℕ → Type 0
Blanks bs = AllByRecursion (λ b. blank b ≡ true) bs

-- w is a longest run of letters and digits, or one byte that is none and no blank
abbrev pub Whole : List ℕ → List ℕ → Type 0
Whole w rest =
    ((0 < length w) × AllByRecursion (λ b. inner b ≡ true) w × (prefix_len inner rest ≡ 0))
    ⊎ ((b : ℕ) × (w ≡ b ∷ []) × (inner b ≡ false) × (blank b ≡ false))

-- the bytes s, of which the first stands at the place `at`, are a gap of blanks (perhaps none), the word w at the place p, and a rest
abbrev pub Stands : ℕ → List ℕ → List ℕ → List ℕ → ℕ → List ℕ → Type 0
Stands at s gap w p rest = Blanks gap × (s ≡ gap ++ (w ++ rest)) × (p ≡ at + length gap) × Whole w rest

-- they are the good words xs, each after such a gap, and then what `End` says
abbrev pub Worded : ℕ → List ℕ → List Item → (ℕ → List ℕ → Type 0) → Type 0
Worded at s [] End = End at s
Worded at s (x ∷ xs) End =
    (gap : List ℕ) × (rest : List ℕ) × Stands at s gap x.bytes x.place rest × (sort_of x.bytes ≡ Some x.sort)
    × Worded (x.place + length x.bytes) rest xs End

-- blanks only
abbrev pub BlankEnd : ℕ → List ℕ → Type 0
BlankEnd at s = Blanks s

-- a bad word at the place p comes next
abbrev pub BadEnd : ℕ → ℕ → List ℕ → Type 0
BadEnd p at s = (gap : List ℕ) × (rest : List ℕ) × (w : List ℕ) × Stands at s gap w p rest × (sort_of w ≡ None)

-- one good word more comes next
abbrev pub GoodEnd : ℕ → List ℕ → Type 0
GoodEnd at s = (x : Item) × (gap : List ℕ) × (rest : List ℕ) × Stands at s gap x.bytes x.place rest × (sort_of x.bytes ≡ Some x.sort)

-- from the place `at` of the listing s the word w comes next, it stands at p and ends at `at'`, and it is what o says
abbrev pub ComesNext : List ℕ → ℕ → ℕ → List ℕ → ℕ → Option Sort → Type 0
ComesNext s at at' w p o = (gap : List ℕ) × Stands at (drop at s) gap w p (drop at' s) × (sort_of w ≡ o) × (at' ≡ p + length w)

-- what one call of a reader gives, that goes from the place `at` to `at'`: nothing, at the end; the word that comes next; or the place of that word, which is bad
abbrev pub Next : List ℕ → ℕ → ℕ → Result (Option Word) WordFault → Type 0
Next s at at' (Ok None) = (words_from s at ≡ items []) × (at' ≡ length s)
Next s at at' (Ok (Some w)) =
    (words_from s at ≡ before (seen w) (words_from s at')) × (at < at') × ComesNext s at at' (seen w).bytes (seen w).place (Some (seen w).sort)
Next s at at' (Err (Bad p)) = (words_from s at ≡ bad_at p) × ((w : List ℕ) × ComesNext s at at' w p None)
Next s at at' (Err Memory) = ⊥

-- the list `new` is the list `old` with words at its end of which P holds
abbrev pub Appended : List Word → List Word → (List Word → Type 0) → Type 0
Appended old new P = (ws : List Word) × (new ≡ old ++ ws) × P ws

-- what the answer to a listing says, ws being the words that were given: all words; those before the first bad one; or, where memory is wanting, those before some good one
abbrev pub Lexes : List ℕ → List Word → Result (Unit {0}) WordFault → Type 0
Lexes s ws (Ok _) = words_of s ≡ items (map seen ws)
Lexes s ws (Err (Bad p)) = (words_of s ≡ bad_at p) × (refused (words_of s) ≡ refusal (Bad p)) × Worded 0 s (map seen ws) (BadEnd p)
Lexes s ws (Err Memory) = Worded 0 s (map seen ws) GoodEnd
