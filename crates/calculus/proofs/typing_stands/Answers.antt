use Rattle.calculus.proofs.Typing.{one_type, leaves_counted, no_handle, substitution, renaming}
use Rattle.calculus.proofs.Weakening.{weakening, absent_linear}
use Rattle.calculus.proofs.typing_stands.Goals as goal

pub returns : goal.returns
returns c =
    record { once = one_type; leaves = leaves_counted; plain = no_handle; values = substitution; entries = renaming; wider = weakening; absent = absent_linear }
