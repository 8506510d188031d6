use Rattle.lists.proofs.Bounded.{push_empty, push_item}
use Rattle.texts.specs.Texts.{written}
use Rattle.texts.proofs.text.Text.push_all.Goals as goal

pub loop-byte-init : goal.loop-byte-init
loop-byte-init c = push_empty 256 c.args.self.now.bytes c.args.self.now.count c.args.self.now.within

pub loop-byte-preserved : goal.loop-byte-preserved
loop-byte-preserved c =
    push_item 256 (written c.args.self.now) (written c.loop-byte.self) (written c.push.new.self) c.args.text.now c.loop-byte.byte-index 0 c.loop-byte-test.true c.loop-byte.invariant c.push.ensures
