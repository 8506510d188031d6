-- The name of a node of the syntax tree.
use Rattle.grammar.specs.declared.tree.Construct.{Construct}
use Rattle.grammar.specs.declared.tree.Construct.TheVariants.{Missing, BasicType, TupleType, Named, Constant, Use, Built, Bind, Using, If}
use Rattle.grammar.specs.declared.tree.Name.{Name}

abbrev pub nameless : Name
nameless = record { place = 0; span = 0 }

abbrev pub named : Construct → Name
named Missing = nameless
named (BasicType b) = nameless
named (TupleType r) = nameless
named (Named n) = n
named (Constant c) = nameless
named (Use n) = nameless
named (Built f r) = nameless
named (Bind b r right body) = nameless
named (Using r body) = nameless
named (If condition first other) = nameless
