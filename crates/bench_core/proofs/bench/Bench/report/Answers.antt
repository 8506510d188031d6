use Rattle.bench_core.proofs.Fronts.{fronted}
use Rattle.bench_core.proofs.bench.Bench.report.Goals as goal

pub returns : goal.returns
returns g c = fronted c.bytes.result.now c.args.buffer.now c.copy_to_front.new.buffer c.copy_to_front.result c.copy_to_front.ensures
