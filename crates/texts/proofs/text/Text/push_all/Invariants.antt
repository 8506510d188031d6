use Rattle.std.proofs.Common.{◌≡◌, ◌++◌, take}
use Rattle.texts.specs.Texts.{written, fitted}
use Rattle.texts.proofs.text.Text.push_all.Given as goal

abbrev pub invariant-loop-byte : goal.invariant-loop-byte
invariant-loop-byte l = written l.self ≡ fitted (written l.initial.self ++ take l.byte-index l.text)
