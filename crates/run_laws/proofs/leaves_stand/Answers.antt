use Rattle.run_laws.proofs.Arms.{constant_goes, name_goes, using_goes}
use Rattle.run_laws.proofs.leaves_stand.Goals as goal

pub returns : goal.returns
returns c = record {
  constant = λ ops P T μ fs vals L i l q r. constant_goes q r;
  name = λ ops P T μ fs vals L i x lim q ty r. name_goes q ty r;
  prepare = λ ops P T T' μ fs vals L i b r hs q long lh e rd. using_goes hs q long lh e rd;
}
