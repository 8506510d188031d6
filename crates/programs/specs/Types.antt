-- The types of the nodes: basic ones, and tuples by the range of their parts.
use Rattle.std.specs.Prelude.{ℕ, Bool, true, false, Some, None, Option, nat_lt}
use Rattle.grammar.specs.declared.tree.Basic.{Basic}
use Rattle.grammar.specs.declared.tree.Basic.TheVariants.{Unit, Bit, Int, Qbit}
use Rattle.grammar.specs.declared.tree.Range.{Range}
use Rattle.programs.specs.declared.types.Shape.{Shape}
use Rattle.programs.specs.declared.types.Shape.TheVariants as shape
use Rattle.programs.specs.declared.types.Typed.{Typed}

abbrev pub qbits_of : Basic → ℕ
qbits_of Unit = 0
qbits_of Bit = 0
qbits_of Int = 0
qbits_of Qbit = 1

-- a basic type has one leaf
abbrev pub one_leaf : Basic → Typed
one_leaf b = record { shape = shape.Basic b; leaves = 1; qbits = qbits_of b }

-- a type with a leaf that is qbit
abbrev pub linear : Typed → Bool
linear t = nat_lt 0 t.qbits

abbrev pub same_basic : Basic → Basic → Bool
same_basic Unit Unit = true
same_basic Unit Bit = false
same_basic Unit Int = false
same_basic Unit Qbit = false
same_basic Bit Unit = false
same_basic Bit Bit = true
same_basic Bit Int = false
same_basic Bit Qbit = false
same_basic Int Unit = false
same_basic Int Bit = false
same_basic Int Int = true
same_basic Int Qbit = false
same_basic Qbit Unit = false
same_basic Qbit Bit = false
same_basic Qbit Int = false
same_basic Qbit Qbit = true

-- that basic type, and no tuple
abbrev pub is_basic : Basic → Shape → Bool
is_basic b (shape.Basic c) = same_basic b c
is_basic b (shape.Tuple r) = false

abbrev pub parts_in : Shape → Option Range
parts_in (shape.Basic b) = None
parts_in (shape.Tuple r) = Some r
