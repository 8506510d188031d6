use Rattle.calculus.proofs.Falling.{steps_fall, ends}
use Rattle.calculus.proofs.Counting.{counted}
use Rattle.calculus.proofs.steps_stand.Goals as goal

pub returns : goal.returns
returns c = record { fall = steps_fall; end = ends; counted = counted }
