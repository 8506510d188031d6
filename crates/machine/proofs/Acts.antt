-- What acts do to a machine's meaning, one after the other.
use Rattle.std.proofs.Common.{◌≡◌, ℕ, ◌+◌, ◌<◌, ◌≤◌, Bool, true, List, [], ◌∷◌, ◌++◌, sym, refl, ap, ◌∙◌, subst, ⊎_elim}
use Rattle.std.proofs.lemmas.Bool.{cases_lt, both_ways}
use Rattle.machine.specs.Model.{Model, tally, Act, ordered, cleared, Does, Makes}
use Rattle.machine.specs.declared.order.Gate.{Gate}
use Rattle.machine.specs.declared.order.Handles.{Handles}
use Rattle.machine.specs.declared.order.Order.TheVariants.{Prepared, Applied, Measured}
use Rattle.machine.proofs.Tally.{tally_more, tally_less, tally_same, tally_none}

-- the capacity never changes
pub does_capacity : (m n : Model) (a : Act) → Does m a n → n.capacity ≡ m.capacity
does_capacity m n (ordered o) d = d.0.capacity
does_capacity m n cleared d = d.capacity

pub makes_capacity : (m n : Model) (acts : List Act) → Makes m acts n → n.capacity ≡ m.capacity
makes_capacity m n [] e = ap (λ (k : Model). k.capacity) (sym e)
makes_capacity m n (a ∷ acts) p = makes_capacity p.0 n acts p.2 ∙ does_capacity m p.0 a p.1

pub makes_none : (m : Model) → Makes m [] m
makes_none m = refl

pub makes_one : (m n : Model) (a : Act) → Does m a n → Makes m (a ∷ []) n
makes_one m n a d = (n, d, refl)

pub makes_append : (m k n : Model) (first then : List Act) → Makes m first k → Makes k then n → Makes m (first ++ then) n
makes_append m k n [] then e q = subst (λ x. Makes x then n) (sym e) q
makes_append m k n (a ∷ first) then p q = (p.0, p.1, makes_append p.0 k n first then p.2 q)

pub makes_push : (m k n : Model) (acts : List Act) (a : Act) → Makes m acts k → Does k a n → Makes m (acts ++ a ∷ []) n
makes_push m k n acts a p d = makes_append m k n acts (a ∷ []) p (makes_one k n a d)

-- how many handles are live after an act
pub prepared_tally : (m n : Model) (h : ℕ) → Does m (ordered (Prepared h)) n → tally n.live 64 ≡ tally m.live 64 + 1
prepared_tally m n h d = tally_more m.live n.live 64 h d.1.low d.1.free d.1.live

pub live_low : (m : Model) (h : ℕ) → m.live h ≡ true → h < 64
live_low m h e = ⊎_elim (λ (l : h < 64). l) (λ (l : 64 ≤ h). absurd (both_ways (m.live h) (m.few h l) e)) (cases_lt h 64)

pub measured_tally : (m n : Model) (h : ℕ) (b : Bool) → Does m (ordered (Measured h b)) n → tally n.live 64 + 1 ≡ tally m.live 64
measured_tally m n h b d = tally_less m.live n.live 64 h (live_low m h d.1.alive) d.1.alive d.1.live

pub applied_tally : (m n : Model) (g : Gate) (hs : Handles) → Does m (ordered (Applied g hs)) n → tally n.live 64 ≡ tally m.live 64
applied_tally m n g hs d = tally_same m.live n.live 64 (λ k l. d.1.live k)

pub cleared_tally : (m n : Model) → Does m cleared n → tally n.live 64 ≡ 0
cleared_tally m n d = tally_none n.live 64 d.live
