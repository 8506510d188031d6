-- How many items a value is, where each tuple has two parts or more.
use Rattle.std.specs.Prelude.{ℕ, suc, ◌+◌, ◌≤◌, length}
use Rattle.calculus.specs.Syntax.{Value, the_unit, bit_of, int_of, handle_of, tuple_of, Values, no_values, ◌∷ᵛ◌}
use Rattle.run_laws.specs.Reads.{items}

-- a leaf is one item, a tuple one more than its parts
abbrev mutual
  pub size : Value → ℕ
  size the_unit = 1
  size (bit_of b) = 1
  size (int_of n) = 1
  size (handle_of h) = 1
  size (tuple_of vs) = suc (size_all vs)

  pub size_all : Values → ℕ
  size_all no_values = 0
  size_all (v ∷ᵛ vs) = size v + size_all vs

-- each tuple has two parts or more
abbrev mutual
  pub Paired : Value → Type 0
  Paired the_unit = Unit {0}
  Paired (bit_of b) = Unit {0}
  Paired (int_of n) = Unit {0}
  Paired (handle_of h) = Unit {0}
  Paired (tuple_of vs) = (2 ≤ length (items vs)) × PairedAll vs

  pub PairedAll : Values → Type 0
  PairedAll no_values = Unit {0}
  PairedAll (v ∷ᵛ vs) = Paired v × PairedAll vs

-- a value has at most so many items
abbrev pub most_items : ℕ
most_items = 15
