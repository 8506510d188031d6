use Rattle.questions.proofs.Whole.{listing_complete}
use Rattle.questions.proofs.completeness_stands.Goals as goal

pub returns : goal.returns
returns c = listing_complete
