-- What a machine means, and what its orders do to that meaning.
use Rattle.std.specs.Prelude.{◌≡◌, ℕ, zero, suc, ◌+◌, ◌%◌, ◌^◌, ◌<◌, ◌≤◌, min, max, Bool, true, false, cond, not, ◌&&◌, List, [], ◌∷◌, length, Some, None, Option, ◌==◌}
use Rattle.std.specs.List.{list_all}
use Rattle.machine.specs.Orders.{width, handle_list}
use Rattle.machine.specs.declared.order.Gate.{Gate}
use Rattle.machine.specs.declared.order.Order.{Order}
use Rattle.machine.specs.declared.order.Order.TheVariants.{Prepared, Applied, Measured}

-- the capacity, the live handles, the accepted orders counted modulo 2 ^ 32, the latest order
pub record Model : Type 0 where
  pub capacity : ℕ
  pub live : ℕ → Bool
  pub count : ℕ
  pub latest : Option Order
  pub least : 1 ≤ capacity
  pub most : capacity ≤ 64
  pub few : (k : ℕ) → 64 ≤ k → live k ≡ false
  pub small : count < 2 ^ 32

-- how many numbers below n pass
unfoldable pub tally : (ℕ → Bool) → ℕ → ℕ
tally f zero = 0
tally f (suc n) = cond (f n) 1 0 + tally f n

-- f, but b at h
abbrev pub with : (ℕ → Bool) → ℕ → Bool → ℕ → Bool
with f h b k = cond (k == h) b (f k)

-- all of them pass
abbrev pub every : (ℕ → Bool) → List ℕ → Bool
every f hs = list_all f hs

abbrev pub absent : ℕ → List ℕ → Bool
absent x [] = true
absent x (y ∷ ys) = not (x == y) && absent x ys

-- no two of them are the same
abbrev pub distinct : List ℕ → Bool
distinct [] = true
distinct (x ∷ xs) = absent x xs && distinct xs

-- the capacity that is taken where one is asked for: 1 for 0, and 64 for any above 64
abbrev pub capacity_taken : ℕ → ℕ
capacity_taken asked = min (max asked 1) 64

-- a machine before its first order: no handle is live, nothing is counted, there is no latest order
pub record Started (asked : ℕ) (m : Model) : Type 0 where
  pub capacity : m.capacity ≡ capacity_taken asked
  pub live : (k : ℕ) → m.live k ≡ false
  pub count : m.count ≡ 0
  pub latest : m.latest ≡ None

-- an accepted order is counted and becomes the latest; the capacity stays
pub record Accepted (m n : Model) (o : Order) : Type 0 where
  pub capacity : n.capacity ≡ m.capacity
  pub count : n.count ≡ (m.count + 1) % 2 ^ 32
  pub latest : n.latest ≡ Some o

-- an act: an accepted order with its answer, or a clear
pub data Act : Type 0 where
  ordered : Order → Act
  cleared : Act

-- a handle that was not live becomes live, where fewer are live than the capacity
pub record Prepares (m n : Model) (h : ℕ) : Type 0 where
  pub room : tally m.live 64 < m.capacity
  pub low : h < 64
  pub free : m.live h ≡ false
  pub live : (k : ℕ) → n.live k ≡ with m.live h true k

-- as many handles as the gate is on, all live, no two the same; the live handles stay
pub record Applies (m n : Model) (g : Gate) (hs : List ℕ) : Type 0 where
  pub fits : length hs ≡ width g
  pub alive : every m.live hs ≡ true
  pub apart : distinct hs ≡ true
  pub live : (k : ℕ) → n.live k ≡ m.live k

-- the handle was live and is live no more
pub record Measures (m n : Model) (h : ℕ) : Type 0 where
  pub alive : m.live h ≡ true
  pub live : (k : ℕ) → n.live k ≡ with m.live h false k

abbrev pub Orders : Model → Order → Model → Type 0
Orders m (Prepared h) n = Prepares m n h
Orders m (Applied g hs) n = Applies m n g (handle_list hs)
Orders m (Measured h b) n = Measures m n h

-- no handle is live; all else stays
pub record Clears (m n : Model) : Type 0 where
  pub capacity : n.capacity ≡ m.capacity
  pub count : n.count ≡ m.count
  pub latest : n.latest ≡ m.latest
  pub live : (k : ℕ) → n.live k ≡ false

abbrev pub Does : Model → Act → Model → Type 0
Does m (ordered o) n = Accepted m n o × Orders m o n
Does m cleared n = Clears m n

-- the acts, one after the other, make n of m
abbrev pub Makes : Model → List Act → Model → Type 0
Makes m [] n = m ≡ n
Makes m (a ∷ acts) n = (k : Model) × Does m a k × Makes k acts n
