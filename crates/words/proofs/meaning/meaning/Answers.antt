use Rattle.std.proofs.Common.{refl}
use Rattle.words.proofs.Sorts.{of_kind, of_gate, of_number, of_name, of_none}
use Rattle.words.proofs.meaning.meaning.Goals as goal

pub returns-in-Some : goal.returns-in-Some
returns-in-Some c = (of_kind c.args.text.now c.in-Some.kind c.in-Some.ensures, refl)

pub returns-in-Some-gate : goal.returns-in-Some-gate
returns-in-Some-gate c = (of_gate c.args.text.now c.in_default.ensures c.in-Some-gate.gate c.in-Some-gate.ensures, refl)

pub returns-in-Some-number : goal.returns-in-Some-number
returns-in-Some-number c = (of_number c.args.text.now c.in_default.ensures c.in_default-gate.ensures c.in-Some-number.value c.in-Some-number.ensures, refl)

pub returns-then-is_name : goal.returns-then-is_name
returns-then-is_name c = (of_name c.args.text.now c.in_default.ensures c.in_default-gate.ensures c.in_default-number.ensures c.if-is_name.ensures, refl)

pub returns : goal.returns
returns c = of_none c.args.text.now c.in_default.ensures c.in_default-gate.ensures c.in_default-number.ensures c.if-is_name.ensures
