use Rattle.words.proofs.Weaving.{refused_exactly_lem}
use Rattle.words.proofs.laws.refused_exactly.Goals as goal

pub returns : goal.returns
returns c = refused_exactly_lem
