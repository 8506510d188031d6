use Rattle.histories.specs.Laws.{Any}
use Rattle.histories.proofs.Histories.{history_sound}
use Rattle.histories.proofs.histories_stand.Goals as goal

pub returns : goal.returns
returns c = history_sound Any
