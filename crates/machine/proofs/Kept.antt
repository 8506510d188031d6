-- A refusal keeps the whole script machine where it keeps its board.
use Rattle.std.proofs.Common.{◌≡◌, ◌≤◌, length, Ok, Err, Result}
use Rattle.std.proofs.Math.Bridge.{le_prop}
use Rattle.machine.specs.Promises.{IfRefused}
use Rattle.machine.specs.declared.board.Board.{Board}
use Rattle.machine.specs.declared.order.Refusal.{Refusal}
use Rattle.machine.specs.declared.script.Script.{Script}

pub script_kept : {A : Type 0} (s : Script) (b : Board) (w : s.next ≤ length s.bits.now) (r : Result A Refusal) → IfRefused r (b ≡ s.board) → IfRefused r (◌≡◌ {A = Script} (record { bits = s.bits; next = s.next; board = b; within = w }) s)
script_kept s b w (Ok a) e = tt
script_kept s b w (Err f) e = λ i. record { bits = s.bits; next = s.next; board = e i; within = le_prop w s.within i }
