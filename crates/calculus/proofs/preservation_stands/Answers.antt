use Rattle.calculus.proofs.Preservation.{preservation}
use Rattle.calculus.proofs.Tables.{unnamed_entries}
use Rattle.calculus.proofs.preservation_stands.Goals as goal

pub returns : goal.returns
returns c = record { kept = preservation; entries = unnamed_entries }
