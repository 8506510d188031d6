-- The items that a value holds.
use Rattle.std.specs.Prelude.{List, take}
use Rattle.runs.specs.declared.value.Item.{Item}
use Rattle.runs.specs.declared.value.Value.{Value}

abbrev pub held : Value → List Item
held v = take v.count v.items
