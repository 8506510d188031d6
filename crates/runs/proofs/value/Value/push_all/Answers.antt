use Rattle.lists.proofs.Bounded.{push_empty, push_item}
use Rattle.runs.specs.Items.{unit_item}
use Rattle.runs.specs.Values.{held}
use Rattle.runs.proofs.value.Value.push_all.Goals as goal

pub loop-item-init : goal.loop-item-init
loop-item-init c = push_empty 15 c.args.self.now.items c.args.self.now.count c.args.self.now.few

pub loop-item-preserved : goal.loop-item-preserved
loop-item-preserved c =
    push_item 15 (held c.args.self.now) (held c.loop-item.self) (held c.push.new.self) c.args.items.now c.loop-item.item-index unit_item c.loop-item-test.true c.loop-item.invariant c.push.ensures
