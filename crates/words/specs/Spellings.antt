-- How the marks, the reserved words and the gates are spelled.
use Rattle.std.specs.Prelude.{ℕ, cond, List, [], ◌∷◌, Some, None, codes, Option}
use Rattle.std.specs.Str.{bytes_eq}
use Rattle.machine.specs.declared.order.Gate.{Gate}
use Rattle.machine.specs.declared.order.Gate.TheVariants as gate
use Rattle.words.specs.declared.token.Kind.{Kind}
use Rattle.words.specs.declared.token.Kind.TheVariants as kind

unfoldable pub kinds : List (List ℕ × Kind)
kinds =
    (codes "(", kind.Open)
    ∷ (codes ")", kind.Close)
    ∷ (codes "{", kind.LeftBrace)
    ∷ (codes "}", kind.RightBrace)
    ∷ (codes ",", kind.Comma)
    ∷ (codes "=", kind.Equals)
    ∷ (codes ":", kind.Colon)
    ∷ (codes "op", kind.Op)
    ∷ (codes "run", kind.Run)
    ∷ (codes "let", kind.Let)
    ∷ (codes "mut", kind.Mut)
    ∷ (codes "set", kind.Set)
    ∷ (codes "using", kind.Using)
    ∷ (codes "in", kind.In)
    ∷ (codes "if", kind.If)
    ∷ (codes "then", kind.Then)
    ∷ (codes "else", kind.Else)
    ∷ (codes "meas", kind.Meas)
    ∷ (codes "unit", kind.Unit)
    ∷ (codes "bit", kind.Bit)
    ∷ (codes "int", kind.Int)
    ∷ (codes "qbit", kind.Qbit)
    ∷ (codes "zero", kind.Zero)
    ∷ (codes "one", kind.One)
    ∷ []

unfoldable pub gates : List (List ℕ × Gate)
gates =
    (codes "X", gate.X)
    ∷ (codes "Y", gate.Y)
    ∷ (codes "Z", gate.Z)
    ∷ (codes "H", gate.H)
    ∷ (codes "S", gate.S)
    ∷ (codes "CNOT", gate.Cnot)
    ∷ (codes "CZ", gate.Cz)
    ∷ (codes "SWAP", gate.Swap)
    ∷ []

-- what a table says of the bytes w
abbrev pub lookup : {T : Type 0} → List ℕ → List (List ℕ × T) → Option T
lookup w [] = None
lookup w (row ∷ rows) = cond (bytes_eq row.0 w) (Some row.1) (lookup w rows)
