use Rattle.calculus.proofs.Bounds.{step_within, run_within}
use Rattle.calculus.proofs.bounds_stand.Goals as goal

pub returns : goal.returns
returns c = record { step = step_within; run = run_within }
