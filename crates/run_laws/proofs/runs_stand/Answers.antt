use Rattle.run_laws.proofs.Whole.{stands_start, sound_along, typed_along, accepted, using_room, meas_live, gate_live, stands_on}
use Rattle.run_laws.proofs.Steps.{leads_on}
use Rattle.run_laws.proofs.runs_stand.Goals as goal

pub returns : goal.returns
returns c = record {
  start = λ ops start A P root T m₀ c. stands_start T m₀ c;
  along = λ ops start A m₀ P root k m T fs vals f c pr st. (sound_along c pr st, typed_along c pr st);
  accepted = λ ops start A m₀ P k L μ m p ev T fs vals f so w. accepted so w;
  room = λ ops start A m₀ P k L μ m m' T fs vals i b r hs so long q lt rd ms. using_room hs m' so long q lt rd ms;
  measured = λ ops start A m₀ P k' L μ m T fs all k n h so q rd. meas_live so q rd;
  applied = λ ops start A m₀ P k' L μ m T fs all k n g hs so q rd. gate_live so hs q rd;
  onward = λ ops start m₀ m m' P k T T' fs fs' vals vals' f f' p ev st w d. stands_on st w d;
  leads = λ ops start A m₀ m m' P root k T T' fs fs' vals vals' f f' c pr long st g. leads_on c pr long st g;
}
