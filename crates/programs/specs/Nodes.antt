-- The nodes of a program.
use Rattle.std.specs.Prelude.{ℕ, ◌<◌}
use Rattle.programs.specs.declared.program.Node.{Node}
use Rattle.programs.specs.declared.program.Node.TheVariants.{Place, Target, Constant, Use, Built, Bind, Using, If}

-- the terms that a node names by their nodes stand before it
abbrev pub Falls : ℕ → Node → Type 0
Falls at (Place b) = Unit {0}
Falls at (Target x) = Unit {0}
Falls at (Constant l) = Unit {0}
Falls at (Use x) = Unit {0}
Falls at (Built a r) = Unit {0}
Falls at (Bind b r right body) = (right < at) × (body < at)
Falls at (Using r body) = body < at
Falls at (If test first other) = (test < at) × (first < at) × (other < at)
