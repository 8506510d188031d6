use Rattle.questions.proofs.Whole.{listing_sound}
use Rattle.questions.proofs.soundness_stands.Goals as goal

pub returns : goal.returns
returns c = listing_sound
