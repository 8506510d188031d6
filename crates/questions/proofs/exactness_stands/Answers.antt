use Rattle.questions.proofs.Whole.{listing_exact}
use Rattle.questions.proofs.exactness_stands.Goals as goal

pub returns : goal.returns
returns c = listing_exact
