-- Live handles and peak along a run.
use mathlib.Core.Path.{sym, ◌∙◌, ap}
use Prim.Native.Nat.{ℕ, ◌≤◌}
use native.Mathlib.Omega.{arith}
use lib.Dec.{leb→le, le→leb}
use lib.ListN.{length}
use lib.IntN.{pos}
use lib.Signed.{◌≤ℤ◌, le_z_yes}
use Rattle.calculus.specs.Runs.{live_count, most_live}
use Rattle.calculus.specs.Room.{idle, bodies}
use Rattle.calculus.specs.Bounds.{StepWithin, RunWithin}
use Rattle.calculus.proofs.Room.{stays_in_room}
use Rattle.calculus.proofs.Soundness.{soundness}
use Rattle.calculus.proofs.Need.{peak_of_listing, peak_of_left}
use Rattle.calculus.proofs.Orders.{made_count}
use Rattle.calculus.proofs.Bodies.{bodies_found}

pos_le : (a b : ℕ) → a ≤ b → pos a ≤ℤ pos b
pos_le a b l = le_z_yes (le→leb a b l)

le_pos : (a b : ℕ) → pos a ≤ℤ pos b → a ≤ b
le_pos a b l = leb→le a b l.le

pub step_within : StepWithin
step_within ops well P peaks lim t t' μ μ' m m' p A pl pl' d s d' =
    let w = s.step in
    let ev = s.event in
    let room = stays_in_room ops (bodies ops) (bodies_found ops well) t t' μ μ' p w.new ev w.step (live_count m) in
    let moves = made_count ev m m' s.does in
    let before = peak_of_left ops well P peaks lim t μ A m pl d in
    let after = peak_of_left ops well P peaks lim t' μ' A m' pl' d' in
    let same = ap (λ (b : ℕ). most_live ops b t') moves in
    record {
      stay = λ c l. before ∙ ap pos (room.stays c (omega (arith, l, moves)) ∙ sym same) ∙ sym after;
      fall = rw (before, after) (pos_le (most_live ops (live_count m') t') (most_live ops (live_count m) t) (omega (arith, same, room.falls)));
    }

pub run_within : RunWithin
run_within ops well P peaks start A d₀ m₀ idle enough k t μ m r =
    let q = peak_of_listing ops well P peaks (length ops) start A d₀ in
    let s = soundness ops start A well d₀ m₀ idle (le_pos (most_live ops 0 start) m₀.capacity (rw q at enough)) k t μ m r in
    (s, rw (q, peak_of_left ops well P peaks (length ops) t μ A m s.safe.plain s.safe.typed) (pos_le (most_live ops (live_count m) t) (most_live ops 0 start) s.in_room))
