-- What a text holds.
use Rattle.std.specs.Prelude.{ℕ, List, take}
use Rattle.texts.specs.declared.text.Text.{Text}

-- the bytes of the text
abbrev pub written : Text → List ℕ
written t = take t.count t.bytes

-- what of it has room
abbrev pub fitted : List ℕ → List ℕ
fitted bs = take 256 bs
