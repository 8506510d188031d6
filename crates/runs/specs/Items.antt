-- The items of a value: a leaf, or a tuple followed by its parts.
use Rattle.std.specs.Prelude.{ℕ, zero, suc, ◌+◌, ◌<◌, Bool, List, [], ◌∷◌, take, Some, None, Option}
use Rattle.programs.specs.declared.program.Leaf.TheVariants as leaf
use Rattle.runs.specs.declared.value.Item.{Item}
use Rattle.runs.specs.declared.value.Item.TheVariants.{Leaf, Tuple}

abbrev pub unit_item : Item
unit_item = Leaf leaf.Unit

-- a tuple is found only where there is an item
abbrev pub Inner : ℕ → ℕ → Item → Type 0
Inner at count (Leaf l) = Unit {0}
Inner at count (Tuple n) = at < count

-- what of the items has room: 8 leaves and 7 tuples
abbrev pub roomy : List Item → List Item
roomy xs = take 15 xs

-- how many items so many values take at the front
abbrev pub passed : ℕ → List Item → ℕ
passed left [] = 0
passed zero (x ∷ xs) = 0
passed (suc left) (Leaf l ∷ xs) = 1 + passed left xs
passed (suc left) (Tuple n ∷ xs) = 1 + passed (left + n) xs

-- the handle that an item is
abbrev pub handle_in : Item → Option ℕ
handle_in (Leaf leaf.Unit) = None
handle_in (Leaf (leaf.Bit b)) = None
handle_in (Leaf (leaf.Int n)) = None
handle_in (Leaf (leaf.Handle h)) = Some h
handle_in (Tuple n) = None

-- the bit that an item is
abbrev pub bit_in : Item → Option Bool
bit_in (Leaf leaf.Unit) = None
bit_in (Leaf (leaf.Bit b)) = Some b
bit_in (Leaf (leaf.Int n)) = None
bit_in (Leaf (leaf.Handle h)) = None
bit_in (Tuple n) = None
