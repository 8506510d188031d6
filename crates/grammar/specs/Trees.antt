-- The nodes of a syntax tree.
use Rattle.std.specs.Prelude.{ℕ, ◌<◌}
use Rattle.grammar.specs.declared.tree.Construct.{Construct}
use Rattle.grammar.specs.declared.tree.Construct.TheVariants.{Missing, BasicType, TupleType, Named, Constant, Use, Built, Bind, Using, If}

-- the parts that a construct names by their nodes stand before it
abbrev pub Falls : ℕ → Construct → Type 0
Falls at Missing = Unit {0}
Falls at (BasicType b) = Unit {0}
Falls at (TupleType r) = Unit {0}
Falls at (Named n) = Unit {0}
Falls at (Constant c) = Unit {0}
Falls at (Use n) = Unit {0}
Falls at (Built f r) = Unit {0}
Falls at (Bind b r right body) = (right < at) × (body < at)
Falls at (Using r body) = body < at
Falls at (If condition first other) = (condition < at) × (first < at) × (other < at)
