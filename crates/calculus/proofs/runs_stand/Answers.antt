use Rattle.calculus.proofs.Orders.{orders_counted}
use Rattle.calculus.proofs.Soundness.{safety, safety_kept, soundness}
use Rattle.calculus.proofs.runs_stand.Goals as goal

pub returns : goal.returns
returns c = record { safe = safety; kept = safety_kept; sound = soundness; counted = orders_counted }
