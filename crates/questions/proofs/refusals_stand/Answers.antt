use Rattle.questions.proofs.Whole.{refused_untyped}
use Rattle.questions.proofs.Naming.{refused_unnamed}
use Rattle.questions.proofs.refusals_stand.Goals as goal

pub returns : goal.returns
returns c = record { naming = refused_unnamed; typing = refused_untyped }
