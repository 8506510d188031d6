use Rattle.calculus.proofs.Determinism.{determined}
use Rattle.calculus.proofs.determinism_stands.Goals as goal

pub returns : goal.returns
returns c = determined
