use Rattle.std.proofs.Common.{◌≡◌, ◌+◌, ℕ, Result}
use Rattle.grammar.specs.declared.tree.Tree.{Tree}
use Rattle.grammar.specs.declared.parse.Stop.{Stop}
use Rattle.grammar.specs.Reading.{ParametersNamed}
use Rattle.grammar.proofs.Headers.{with_nodes}
use Rattle.grammar.proofs.tree.Tree.name_parameters.Given as goal

-- what comes of the parameters from `at` on comes of those from `first` on
abbrev pub invariant-loop-parameter : goal.invariant-loop-parameter
invariant-loop-parameter l = (at : ℕ) → at ≡ l.first + l.parameter-index → (v : Tree) (r : Result (Unit {0}) Stop) → ParametersNamed at (with_nodes l.fn.self l.self.1.0) v r → ParametersNamed l.first l.fn.self v r
