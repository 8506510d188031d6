use Rattle.histories.specs.Laws.{Any}
use Rattle.histories.proofs.Histories.{promise, opening}
use Rattle.histories.proofs.promises_stand.Goals as goal

pub returns : goal.returns
returns c = record { opening = opening Any; calls = promise Any }
