use Rattle.run_laws.proofs.Rooms.{frame_fits, frame_back, value_fits}
use Rattle.run_laws.proofs.room_stands.Goals as goal

pub returns : goal.returns
returns c = record {
  frame = λ P T μ fs vals L i rd. frame_fits rd;
  back = λ P T μ f fs vals L v rd. frame_back rd;
  value = λ P T μ fs vals L k j g r v o q rd. value_fits o q rd;
}
