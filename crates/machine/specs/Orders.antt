-- Gates, orders and refusals: widths, the handles of a gate as a list, the numbers of the refusals.
use Rattle.std.specs.Prelude.{ℕ, List, [], ◌∷◌}
use Rattle.machine.specs.declared.order.Gate.{Gate}
use Rattle.machine.specs.declared.order.Gate.TheVariants.{X, Y, Z, H, S, Cnot, Cz, Swap}
use Rattle.machine.specs.declared.order.Handles.{Handles}
use Rattle.machine.specs.declared.order.Handles.TheVariants.{One, Two}
use Rattle.machine.specs.declared.order.Refusal.{Refusal}
use Rattle.machine.specs.declared.order.Refusal.TheVariants.{Full, Width, Dead, Same}

-- on how many qubits a gate is
abbrev pub width : Gate → ℕ
width X = 1
width Y = 1
width Z = 1
width H = 1
width S = 1
width Cnot = 2
width Cz = 2
width Swap = 2

abbrev pub handle_list : Handles → List ℕ
handle_list (One a) = a ∷ []
handle_list (Two a b) = a ∷ b ∷ []

-- the number of each refusal
abbrev pub number : Refusal → ℕ
number Full = 91
number Width = 92
number Dead = 93
number Same = 94
