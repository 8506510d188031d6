use Rattle.run_laws.proofs.Sample.{sample}
use Rattle.run_laws.proofs.sample_stands.Goals as goal

pub returns : goal.returns
returns c = sample
