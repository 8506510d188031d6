use Rattle.run_laws.proofs.Clear.{table_held}
use Rattle.run_laws.proofs.Once.{reads_once}
use Rattle.run_laws.proofs.Whole.{typed_along}
use Rattle.run_laws.proofs.readings_stand.Goals as goal

pub returns : goal.returns
returns c = record {
  once = λ ops lim P T fs vals f L L' μ μ' ty ty' rd rd'. reads_once μ μ' ty ty' rd rd';
  left = λ ops start A m₀ m₀' m m' P root k k' T fs vals f c pr pr' st st'. reads_once st.table st'.table (typed_along c pr st) (typed_along c pr' st') st.reads st'.reads;
  table = λ P T μ fs vals f L rd. table_held rd;
}
