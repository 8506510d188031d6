-- The meaning that a board stands for.
use Rattle.std.specs.Prelude.{false, slice_index_or}
use Rattle.std.proofs.Common.{arith}
use Rattle.std.proofs.lemmas.List.{get_or_past}
use Rattle.machine.specs.Model.{Model}
use Rattle.machine.specs.declared.board.Board.{Board}

abbrev pub seen : Board → Model
seen b = record { capacity = b.capacity; live = λ k. slice_index_or b.live k false; count = b.count; latest = b.latest; least = b.least; most = b.most; few = λ k h. get_or_past b.live k false (omega (arith, b.long)); small = b.small }
