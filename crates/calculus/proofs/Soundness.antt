-- Whole runs.
use mathlib.Core.Path.{◌≡◌, refl, sym, ◌∙◌, ap}
use mathlib.Core.List.{List}
use mathlib.Core.Bool.{false}
use Prim.Native.Nat.{ℕ, suc, ◌+◌, ◌≤◌}
use native.Mathlib.Omega.{arith}
use lib.ListN.{length}
use Rattle.machine.specs.Model.{Model}
use Rattle.calculus.specs.Runs.{live_names, live_count, Reached, at_start, onward, steps_of, most_live, Safe, Safety, SafetyKept, Sound, Soundness}
use Rattle.calculus.specs.Need.{body_costs}
use Rattle.calculus.specs.Room.{bodies}
use Rattle.calculus.specs.Syntax.{Ty, Name, var, entry, handle, Term, Op}
use Rattle.calculus.specs.Rules.{nothing, Same, nowhere, Has, Well}
use Rattle.calculus.specs.Steps.{Table, empty}
use Rattle.calculus.proofs.Falling.{steps_fall, ends}
use Rattle.calculus.proofs.Names.{never}
use Rattle.calculus.proofs.Counting.{counted}
use Rattle.calculus.proofs.Live.{le_top}
use Rattle.calculus.proofs.Room.{stays_in_room}
use Rattle.calculus.proofs.Filling.{by_uses}
use Rattle.calculus.proofs.Progress.{progress}
use Rattle.calculus.proofs.Growth.{widen}
use Rattle.calculus.proofs.Acceptance.{shape, accepts}
use Rattle.calculus.proofs.Orders.{tally_none, made_names, made_count, made_capacity}
use Rattle.calculus.proofs.Preservation.{preservation}
use Rattle.calculus.proofs.Bodies.{bodies_found}

pub safety : Safety
safety ops well T t μ m s = record {
  goes_on = progress ops (length ops) t μ (live_names m) T s.typed;
  accepted = λ p ev t' μ' w.
      let k = preservation ops (length ops) well t t' μ μ' p ev (live_names m) T s.plain s.typed w in
      let q = stays_in_room ops (bodies ops) (bodies_found ops well) t t' μ μ' p w.new ev w.step (live_count m) in
      accepts (shape w.step) m k.changed.live k.changed.in_width (omega (arith, s.room, q.after));
}

pub safety_kept : SafetyKept
safety_kept ops well T t t' μ μ' m m' p a s =
    let w = s.step in
    let ev = s.event in
    let k = preservation ops (length ops) well t t' μ μ' p ev (live_names m) T a.plain a.typed w in
    let exact : Same k.uses (live_names m') = λ n. omega (arith, k.changed.change n, made_names ev m m' s.does n) in
    let q = stays_in_room ops (bodies ops) (bodies_found ops well) t t' μ μ' p w.new ev w.step (live_count m) in
    let less : most_live ops (live_count m') t' ≤ most_live ops (live_count m) t = omega (arith, q.falls, ap (λ (b : ℕ). most_live ops b t') (made_count ev m m' s.does)) in
    let cap = made_capacity ev m m' s.does in
    record {
      safe = record { typed = by_uses exact k.typed; plain = k.plain; room = omega (arith, less, a.room, cap) };
      capacity = cap;
      fewer = (steps_fall ops (body_costs ops) (counted ops well) t t' μ μ' p w.new ev w.step).1;
      no_more = less;
    }

module _ (ops : List Op) (start : Term) (T : Ty) (well : Well ops) (typed : Has ops (length ops) nowhere nothing start T) (m₀ : Model)
    (no_live : (h : ℕ) → m₀.live h ≡ false) (enough : most_live ops 0 start ≤ m₀.capacity) where
  whole : (k : ℕ) (t : Term) (μ : Table) (m : Model) → Safe ops T t μ m → k + steps_of ops t ≤ steps_of ops start → most_live ops (live_count m) t ≤ most_live ops 0 start →
      m.capacity ≡ m₀.capacity → Sound ops start T m₀ k t μ m
  whole k t μ m s b r cap = record {
    safe = s;
    never_stuck = safety ops well T t μ m s;
    in_steps = b;
    last = λ q. (ends (body_costs ops) t).0 (omega (arith, b, q));
    in_room = r;
    live_few = omega (arith, r, le_top (bodies ops) t (live_count m));
    capacity = cap;
  }

  no_names : (x : Name) → live_names m₀ x ≡ 0
  no_names (var x) = refl
  no_names (entry e) = refl
  no_names (handle h) = rw (no_live h)

  all_along : {k : ℕ} {t : Term} {μ : Table} {m : Model} → Reached ops start m₀ k t μ m → Sound ops start T m₀ k t μ m
  all_along at_start =
      let none_live = ap (λ (b : ℕ). most_live ops b start) (tally_none m₀.live no_live 64) in
      whole 0 start empty m₀
      (record {
        typed = by_uses (λ n. sym (no_names n)) (widen (omega arith) (record { keeps = λ n b q h. never cc; news = λ y h. refl }) typed);
        plain = λ e. refl;
        room = omega (arith, none_live, enough);
      })
      (omega arith) (omega (arith, none_live)) refl
  all_along (onward {k} {t} {t'} {μ} {μ'} {m} {m'} {p} r s) =
      let a = all_along r in
      let q = safety_kept ops well T t t' μ μ' m m' p a.safe s in
      whole (suc k) t' μ' m' q.safe (omega (arith, a.in_steps, q.fewer)) (omega (arith, a.in_room, q.no_more)) (q.capacity ∙ a.capacity)

pub soundness : Soundness
soundness ops start T well typed m₀ no_live enough k t μ m r = all_along ops start T well typed m₀ no_live enough r
