use Rattle.calculus.proofs.Progress.{progress}
use Rattle.calculus.proofs.Acceptance.{sends}
use Rattle.calculus.proofs.progress_stands.Goals as goal

pub returns : goal.returns
returns c = record { goes = progress; sends = sends }
