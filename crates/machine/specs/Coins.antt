-- The numbers and the handles of the coin machine.
use Rattle.std.specs.Prelude.{◌≡◌, ℕ, ◌+◌, ◌*◌, ◌%◌, ◌<◌, ◌≤◌, Bool, true, false, Some, None, Option, nat_le}
use Rattle.machine.specs.Model.{Model, tally}

-- the number that follows s
abbrev pub next_number : ℕ → ℕ
next_number s = (25173 * s + 13849) % 65536

-- the bit of a number: one from 32768 on
abbrev pub bit_of : ℕ → Bool
bit_of s = nat_le 32768 s

-- the handle after the last one given, 0 after the greatest, and 0 where none was given
abbrev pub handle_after : ℕ → Option ℕ → ℕ
handle_after capacity None = 0
handle_after capacity (Some last) = (last + 1) % capacity

-- h is the first handle that is not live, of start, start + 1 .., where 0 follows capacity - 1
pub record FirstFree (capacity : ℕ) (live : ℕ → Bool) (start h : ℕ) : Type 0 where
  pub distance : ℕ
  pub once : distance < capacity
  pub place : h ≡ (start + distance) % capacity
  pub free : live h ≡ false
  pub passed : (k : ℕ) → k < distance → live ((start + k) % capacity) ≡ true

-- what a search from start finds: nothing where as many handles are live as the capacity, or more, and otherwise the first that is not live
abbrev pub FreeFrom : Model → ℕ → Option ℕ → Type 0
FreeFrom m start None = m.capacity ≤ tally m.live 64
FreeFrom m start (Some h) = (tally m.live 64 < m.capacity) × FirstFree m.capacity m.live start h

-- h is the handle that prepare gives: the first that is not live in the cyclic order after the last one given
abbrev pub NextHandle : Model → Option ℕ → ℕ → Type 0
NextHandle m last h = FirstFree m.capacity m.live (handle_after m.capacity last) h

-- there is at most one such handle
abbrev pub OneNextHandle : Type 0
OneNextHandle = (m : Model) (last : Option ℕ) (h k : ℕ) → NextHandle m last h → NextHandle m last k → h ≡ k
