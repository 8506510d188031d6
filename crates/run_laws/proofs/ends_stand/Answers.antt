use Rattle.run_laws.proofs.Rooms.{entered}
use Rattle.run_laws.proofs.Ends.{entered_term, waiting_parts, end_left, left_end}
use Rattle.run_laws.proofs.ends_stand.Goals as goal

pub returns : goal.returns
returns c = record {
  entered = λ P T μ fs vals L i rd. (entered_term rd, entered rd);
  waiting = λ P T μ f fs vals L v rd. waiting_parts rd;
  ended = λ P T μ vals L v rd. end_left rd;
  unended = λ P T μ fs vals f L v rd e. left_end v rd e;
}
