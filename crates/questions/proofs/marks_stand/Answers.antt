use Rattle.questions.proofs.Marks.{marks_only}
use Rattle.questions.proofs.marks_stand.Goals as goal

pub returns : goal.returns
returns c = marks_only
