use Rattle.calculus.proofs.Examples.{worked}
use Rattle.calculus.proofs.examples_stand.Goals as goal

pub returns : goal.returns
returns c = worked
