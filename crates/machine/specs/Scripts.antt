-- The bits of the script machine.
use Rattle.std.specs.Prelude.{ℕ, ◌+◌, min, Bool, not, List, length, ◌==◌, slice_index}

-- the bit at a place: the byte 0 is zero, any other byte one, and past the end all are zero
abbrev pub bit_at : List ℕ → ℕ → Bool
bit_at bits place = not (slice_index bits place == 0)

-- the place after one more bit: it moves by one until it is at the end
abbrev pub next_place : List ℕ → ℕ → ℕ
next_place bits place = min (place + 1) (length bits)
