use Rattle.std.proofs.Common.{arith}
use Rattle.lists.proofs.Bounded.{push_one, push_none}
use Rattle.texts.proofs.text.Text.push.Goals as goal

pub returns-then-self-lt-ROOM : goal.returns-then-self-lt-ROOM
returns-then-self-lt-ROOM c = push_one 256 c.args.self.now.bytes c.args.self.now.count c.args.byte c.args.self.now.long (omega arith)

pub returns-else-self-lt-ROOM : goal.returns-else-self-lt-ROOM
returns-else-self-lt-ROOM c = push_none 256 c.args.self.now.bytes c.args.self.now.count c.args.byte c.args.self.now.long (omega arith)
