use Rattle.run_laws.proofs.Arms.{pattern_fits, bind_goes, if_fits, if_goes}
use Rattle.run_laws.proofs.bindings_stand.Goals as goal

pub returns : goal.returns
returns c = record {
  fits = λ ops P T μ fs vals L k j e b lim w r v q ty rd. pattern_fits q ty rd;
  bind = λ ops P T T' μ fs vals L k j e b lim w r v vs q long ty tk eT rd. bind_goes vs q long ty tk eT rd;
  test = λ ops P T μ fs vals L k j c y n lim v q ty rd. if_fits q ty rd;
  branch = λ ops P T μ fs vals L k j c y n b q rd. if_goes q rd;
}
