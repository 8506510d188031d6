use Rattle.run_laws.proofs.Parts.{down_part, down_bind, down_if, on_part, none_ready, last_ready}
use Rattle.run_laws.proofs.parts_stand.Goals as goal

pub returns : goal.returns
returns c = record {
  part = λ P T μ fs vals L i f r q l rd. down_part q l rd;
  bind = λ P T μ fs vals L i j e b w r q rd. down_bind q rd;
  test = λ P T μ fs vals L i j c y n q rd. down_if q rd;
  next = λ P T μ fs vals L k j f r v q l rd. on_part q l rd;
  none = λ P T μ fs vals L i f r q l rd. none_ready q l rd;
  last = λ P T μ fs vals L k j f r v q l rd. last_ready q l rd;
}
