use Rattle.questions.proofs.Listings.{verdicts, worked}
use Rattle.questions.proofs.listings_stand.Goals as goal

pub returns : goal.returns
returns c = record { verdicts = verdicts; worked = worked }
