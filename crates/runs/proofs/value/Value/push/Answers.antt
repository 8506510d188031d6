use Rattle.std.proofs.Common.{arith}
use Rattle.lists.proofs.Bounded.{push_none}
use Rattle.runs.proofs.value.Value.push.Goals as goal

pub returns-else-self-lt-ITEMS : goal.returns-else-self-lt-ITEMS
returns-else-self-lt-ITEMS c = push_none 15 c.args.self.now.items c.args.self.now.count c.args.item c.args.self.now.long (omega arith)
