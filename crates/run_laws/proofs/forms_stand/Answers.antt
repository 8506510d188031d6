use Rattle.run_laws.proofs.Parts.{tuple_fits, tuple_goes, meas_fits, meas_goes, gate_fits, gate_goes, call_goes}
use Rattle.run_laws.proofs.Sizes.{tuple_small}
use Rattle.run_laws.proofs.forms_stand.Goals as goal

pub returns : goal.returns
returns c = record {
  tuple_fits = λ ops P T μ fs all L k n lim ty rd. tuple_fits ty rd;
  tuple_small = λ ops P T μ fs all L k lim r pt q ty rd ps. tuple_small pt q ty rd ps;
  tuple = λ ops P T μ fs all vals' L k n e rd. tuple_goes e rd;
  meas_fits = λ ops P T μ fs all L k n lim ty rd. meas_fits ty rd;
  meas = λ ops P T μ fs all vals' L k n h b e q rd. meas_goes b e q rd;
  gate_fits = λ ops P T μ fs all L k n lim g ty rd. gate_fits ty rd;
  gate = λ ops P T μ fs all vals' L k n g hs e q rd. gate_goes hs e q rd;
  call = λ ops P T T' μ fs all vals' L k n f r rs q long en e eT rd. call_goes rs q long en e eT rd;
}
