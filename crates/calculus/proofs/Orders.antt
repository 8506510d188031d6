-- What orders do to the live handles, and to the count.
use lib.Dec.{T}
use mathlib.Core.Path.{◌≡◌, refl, sym, ◌∙◌, ap, subst, fun_ext}
use mathlib.Core.List.{[], ◌∷◌, map}
use mathlib.Core.Bool.{Bool, true, false, cond, not}
use Prim.Native.Nat.{ℕ, zero, suc, ◌+◌, ◌-◌, ◌<◌, ◌≤◌}
use native.Mathlib.Omega.{arith}
use lib.Dec.{eqb, ltb, ltb→lt, nltb→le}
use borrow.Author.Tests.{eqb-true, eqb-false, ne_eqb}
use Rattle.machine.specs.Model.{Model, ordered, Makes, Prepares, Measures, tally, with}
use Rattle.machine.specs.declared.order.Order.TheVariants.{Prepared, Applied, Measured}
use Rattle.calculus.specs.Runs.{live_names, live_count, OrdersCounted}
use Rattle.calculus.specs.Room.{moved}
use Rattle.calculus.specs.Syntax.{Name, var, entry, handle}
use Rattle.calculus.specs.Rules.{once}
use Rattle.calculus.specs.Steps.{Event, gained, lost}
use Rattle.calculus.proofs.Names.{never}

-- how many numbers pass
pub tally_same : (f g : ℕ → Bool) → ((k : ℕ) → f k ≡ g k) → (n : ℕ) → tally f n ≡ tally g n
tally_same f g h n = ap (λ (p : ℕ → Bool). tally p n) (fun_ext h)

pub tally_none : (f : ℕ → Bool) → ((k : ℕ) → f k ≡ false) → (n : ℕ) → tally f n ≡ 0
unfolding tally
tally_none f h zero = refl
tally_none f h (suc n) = rw (h n) (omega (arith, tally_none f h n))

tally_past : (f : ℕ → Bool) (h : ℕ) (b : Bool) (n : ℕ) → n ≤ h → tally (with f h b) n ≡ tally f n
unfolding tally
tally_past f h b zero l = refl
tally_past f h b (suc n) l = rw (ne_eqb n h (λ e. omega (arith, l, e)), tally_past f h b n (omega arith))

lower : (n h : ℕ) → h < suc n → ¬ (n ≡ h) → h < n
lower n h l ne = omega (arith, l, ne)

pub tally_add : (f : ℕ → Bool) (h n : ℕ) → f h ≡ false → h < n → tally (with f h true) n ≡ suc (tally f n)
unfolding tally
tally_add f h zero z l = never (omega arith)
tally_add f h (suc n) z l = go (eqb n h) refl (λ lt. tally_add f h n z lt)
  where
    go : (b : Bool) → eqb n h ≡ b → (h < n → tally (with f h true) n ≡ suc (tally f n)) → cond (cond b true (f n)) 1 0 + tally (with f h true) n ≡ suc (cond (f n) 1 0 + tally f n)
    go true e r = let s : n ≡ h = eqb-true n h e in rw (ap f s ∙ z, tally_past f h true n (omega (arith, s))) (omega arith)
    go false e r = omega (arith, r (lower n h l (eqb-false n h e)))

pub tally_drop : (f : ℕ → Bool) (h n : ℕ) → f h ≡ true → h < n → suc (tally (with f h false) n) ≡ tally f n
unfolding tally
tally_drop f h zero z l = never (omega arith)
tally_drop f h (suc n) z l = go (eqb n h) refl (λ lt. tally_drop f h n z lt)
  where
    go : (b : Bool) → eqb n h ≡ b → (h < n → suc (tally (with f h false) n) ≡ tally f n) → suc (cond (cond b false (f n)) 1 0 + tally (with f h false) n) ≡ cond (f n) 1 0 + tally f n
    go true e r = let s : n ≡ h = eqb-true n h e in rw (ap f s ∙ z, tally_past f h false n (omega (arith, s))) (omega arith)
    go false e r = omega (arith, r (lower n h l (eqb-false n h e)))

-- a live handle is below 64
pub live_low : (m : Model) (h : ℕ) → m.live h ≡ true → h < 64
live_low m h q = by_cases (ltb h 64) refl
  where
    by_cases : (b : Bool) → ltb h 64 ≡ b → h < 64
    by_cases true e = ltb→lt h 64 (subst T (sym e) tt)
    by_cases false e = let dead = m.few h (nltb→le h 64 (subst (λ (c : Bool). T (not c)) (sym e) tt)) in never cc

-- one order: the live handles, and how many they are
names_added : (m n : Model) (h : ℕ) → m.live h ≡ false → ((k : ℕ) → n.live k ≡ with m.live h true k) → (x : Name) → live_names n x ≡ live_names m x + once (handle h) x
names_added m n h z l (var x) = refl
names_added m n h z l (entry e) = refl
names_added m n h z l (handle k) = rw (l k) (go (eqb k h) (eqb h k) refl refl)
  where
    go : (a b : Bool) → eqb k h ≡ a → eqb h k ≡ b → cond (cond a true (m.live k)) 1 0 ≡ cond (m.live k) 1 0 + cond b 1 0
    go true true p q = rw (ap m.live (eqb-true k h p) ∙ z)
    go true false p q = never (absurd (eqb-false h k q (sym (eqb-true k h p))))
    go false true p q = never (absurd (eqb-false k h p (sym (eqb-true h k q))))
    go false false p q = omega arith

names_dropped : (m n : Model) (h : ℕ) → m.live h ≡ true → ((k : ℕ) → n.live k ≡ with m.live h false k) → (x : Name) → live_names n x + once (handle h) x ≡ live_names m x
names_dropped m n h z l (var x) = refl
names_dropped m n h z l (entry e) = refl
names_dropped m n h z l (handle k) = rw (l k) (go (eqb k h) (eqb h k) refl refl)
  where
    go : (a b : Bool) → eqb k h ≡ a → eqb h k ≡ b → cond (cond a false (m.live k)) 1 0 + cond b 1 0 ≡ cond (m.live k) 1 0
    go true true p q = rw (ap m.live (eqb-true k h p) ∙ z)
    go true false p q = never (absurd (eqb-false h k q (sym (eqb-true k h p))))
    go false true p q = never (absurd (eqb-false k h p (sym (eqb-true h k q))))
    go false false p q = omega arith

names_kept : (m n : Model) → ((k : ℕ) → n.live k ≡ m.live k) → (x : Name) → live_names n x ≡ live_names m x
names_kept m n l (var x) = refl
names_kept m n l (entry e) = refl
names_kept m n l (handle k) = rw (l k)

-- a list of orders
pub made_names : (ev : Event) (m n : Model) → Makes m (map ordered ev) n → (x : Name) → live_names n x + lost ev x ≡ live_names m x + gained ev x
made_names [] m n q x = omega (arith, ap (λ (k : Model). live_names k x) q)
made_names (Prepared h ∷ os) m n (k, d, r) x = omega (arith, names_added m k h d.1.free d.1.live x, made_names os k n r x)
made_names (Applied g hs ∷ os) m n (k, d, r) x = omega (arith, names_kept m k d.1.live x, made_names os k n r x)
made_names (Measured h b ∷ os) m n (k, d, r) x = omega (arith, names_dropped m k h d.1.alive d.1.live x, made_names os k n r x)

pub prepare_count : (m k : Model) (h : ℕ) → Prepares m k h → live_count k ≡ suc (live_count m)
prepare_count m k h p = tally_same k.live (with m.live h true) p.live 64 ∙ tally_add m.live h 64 p.free p.low

measure_count : (m k : Model) (h : ℕ) → Measures m k h → suc (live_count k) ≡ live_count m
measure_count m k h p = ap suc (tally_same k.live (with m.live h false) p.live 64) ∙ tally_drop m.live h 64 p.alive (live_low m h p.alive)

pub made_count : (ev : Event) (m n : Model) → Makes m (map ordered ev) n → live_count n ≡ moved ev (live_count m)
made_count [] m n q = ap live_count (sym q)
made_count (Prepared h ∷ os) m n (k, d, r) = made_count os k n r ∙ ap (moved os) (prepare_count m k h d.1)
made_count (Applied g hs ∷ os) m n (k, d, r) = made_count os k n r ∙ ap (moved os) (tally_same k.live m.live d.1.live 64)
made_count (Measured h b ∷ os) m n (k, d, r) = made_count os k n r ∙ ap (moved os) (less (live_count k) (live_count m) (measure_count m k h d.1))
  where
    less : (i j : ℕ) → suc i ≡ j → i ≡ j - 1
    less i j e = omega (arith, e)

pub made_capacity : (ev : Event) (m n : Model) → Makes m (map ordered ev) n → n.capacity ≡ m.capacity
made_capacity [] m n q = ap (λ (k : Model). k.capacity) (sym q)
made_capacity (o ∷ os) m n (k, d, r) = made_capacity os k n r ∙ d.0.capacity

pub orders_counted : OrdersCounted
orders_counted [] m n q = ap (λ (k : Model). k.count) (sym q) ∙ omega (arith, m.small)
orders_counted (o ∷ os) m n (k, d, r) = orders_counted os k n r ∙ omega (arith, d.0.count)
