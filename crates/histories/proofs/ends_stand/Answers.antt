use Rattle.histories.specs.Laws.{Any}
use Rattle.histories.proofs.Callers.{runs_end, values_typed}
use Rattle.histories.proofs.ends_stand.Goals as goal

pub returns : goal.returns
returns c = record { end = runs_end Any; typed = values_typed }
