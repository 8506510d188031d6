-- What every step of a run keeps.
use Rattle.std.proofs.Common.{◌≡◌, ℕ, suc, ◌+◌, ◌%◌, ◌^◌, ◌≤◌, true, false, length, pos, sym, refl, ap, ◌∙◌, subst, arith}
use Rattle.std.proofs.lemmas.Bool.{both_ways}
use Rattle.machine.specs.Model.{Model}
use Rattle.calculus.specs.Syntax.{Value, Term, give, done, name, build, bind, mut, set, using_in, if_else}
use Rattle.calculus.specs.Steps.{Table, Event}
use Rattle.calculus.specs.Rules.{nothing, nowhere, Has, Well}
use Rattle.calculus.specs.Peak.{body_peaks}
use Rattle.calculus.specs.Runs.{Reached, at_start, onward, steps_of, most_live}
use Rattle.calculus.specs.Runs as runs
use Rattle.calculus.proofs.Soundness.{soundness}
use Rattle.calculus.proofs.Orders.{orders_counted}
use Rattle.calculus.proofs.Need.{peaks_found, peak_of_listing}
use Rattle.histories.specs.Views.{Listing, Admitted, RunView, begin, RunReached, State, Ended, finished, Moment, Next}
use Rattle.histories.specs.Calls.{OrderRefused, Untyped}
use Rattle.histories.specs.Histories.{RunSound}
use Rattle.histories.proofs.Names.{given_times}

-- the peak is the most handles that are live while the listing runs
pub peak_most : (capacity : ℕ) (l : Listing) → Admitted capacity l → l.need.peak ≡ most_live l.ops 0 l.start
peak_most capacity l a =
    let worded = a.peak (body_peaks l.ops) (peaks_found l.ops a.well) in
    let found = peak_of_listing l.ops a.well (body_peaks l.ops) (peaks_found l.ops a.well) (length l.ops) l.start l.type a.typed in
    same_pos l.need.peak (most_live l.ops 0 l.start) (sym worded ∙ found)
  where
    same_pos : (i j : ℕ) → pos i ≡ pos j → i ≡ j
    same_pos i j e = cc

pub admitted : (capacity : ℕ) (l : Listing) → Well l.ops → Has l.ops (length l.ops) nowhere nothing l.start l.type → l.need.steps ≡ steps_of l.ops l.start →
    l.need.peak ≡ most_live l.ops 0 l.start → l.need.steps ≤ 1000000 → l.need.peak ≤ capacity → Admitted capacity l
admitted capacity l well typed steps most few fits = record {
  well = well;
  typed = typed;
  steps = steps;
  peak = λ P peaks. peak_of_listing l.ops well P peaks (length l.ops) l.start l.type typed ∙ ap pos (sym most);
  few = few;
  fits = fits;
}

-- what the calculus says of it
abbrev pub RunsSoundly : Listing → Model → ℕ → Term → Table → Model → Type 0
RunsSoundly l first k t μ m = runs.Sound l.ops l.start l.type first k t μ m

pub sound_at : (l : Listing) (first : Model) → ((h : ℕ) → first.live h ≡ false) → Admitted first.capacity l → (k : ℕ) (t : Term) (μ : Table) (m : Model) →
    Reached l.ops l.start first k t μ m → RunsSoundly l first k t μ m
sound_at l first idle a k t μ m r = soundness l.ops l.start l.type a.well a.typed first idle (omega (arith, peak_most first.capacity l a, a.fits)) k t μ m r

pub held_sound : (m : Model) (g : RunView) → (h : RunReached m g) → RunsSoundly g.listing h.first g.taken g.left g.table m
held_sound m g h = sound_at g.listing h.first h.idle h.admitted g.taken g.left g.table m h.reached

-- each order of a step is counted
pub next_counts : (s : State) (x : Moment) → Next s x → x.state.model.count ≡ (s.model.count + length x.event) % 2 ^ 32
next_counts s x w = subst (λ (ev : Event). x.state.model.count ≡ (s.model.count + length ev) % 2 ^ 32) w.event (orders_counted w.step.event s.model x.state.model w.step.does)

-- a step keeps it, and takes one step
pub next_keeps : (s : State) (x : Moment) → Next s x → RunReached s.model s.run → RunReached x.state.model x.state.run × (x.state.run.taken ≡ s.run.taken + 1)
next_keeps s x w h =
    let l = s.run.listing in
    let g = x.state.run in
    let r : Reached l.ops l.start h.first (suc s.run.taken) g.left g.table x.state.model = onward h.reached w.step in
    let bound = (sound_at l h.first h.idle h.admitted (suc s.run.taken) g.left g.table x.state.model r).in_steps in
    let exact : g.taken ≡ suc s.run.taken = omega (arith, bound, w.taken, h.admitted.steps, h.admitted.few) in
    let at_taken : Reached l.ops l.start h.first g.taken g.left g.table x.state.model =
    subst (λ (k : ℕ). Reached l.ops l.start h.first k g.left g.table x.state.model) (sym exact) r in (
      record {
        first = h.first;
        idle = h.idle;
        admitted = subst (λ (y : Listing). Admitted h.first.capacity y) (sym w.listing) h.admitted;
        reached = subst (λ (y : Listing). Reached y.ops y.start h.first g.taken g.left g.table x.state.model) (sym w.listing) at_taken;
      },
      omega (arith, exact),
    )

-- the run of a listing at its start
pub held_start : (m : Model) (l : Listing) → ((h : ℕ) → m.live h ≡ false) → Admitted m.capacity l → RunReached m (begin l)
held_start m l idle a = record { first = m; idle = idle; admitted = a; reached = at_start }

-- no step of it is refused, and there is one until it has ended
pub never_refused : (s : State) → RunReached s.model s.run → OrderRefused s → ⊥
never_refused s h d = d.refuses ((held_sound s.model s.run h).never_stuck.accepted d.place d.event d.left d.table d.step)

pub never_stuck : (s : State) → RunReached s.model s.run → Untyped s → ⊥
never_stuck s h u = u (held_sound s.model s.run h).safe.typed

pub run_sound : (k : ℕ) (m : Model) (g : RunView) → g.taken ≡ k → RunReached m g → RunSound k m g
run_sound k m g e h =
    let s = held_sound m g h in
    let a = h.admitted in
    record {
      admitted = subst (λ (c : ℕ). Admitted c g.listing) (sym s.capacity) a;
      typed = s.safe.typed;
      named = λ i. sym (given_times g.listing.ops (length g.listing.ops) i (λ j. refl) s.safe.typed);
      plain = s.safe.plain;
      goes_on = s.never_stuck.goes_on;
      accepts = s.never_stuck.accepted;
      taken = e;
      steps = omega (arith, s.in_steps, a.steps);
      peak = omega (arith, s.live_few, peak_most h.first.capacity g.listing a);
      last = λ q. s.last (q ∙ a.steps);
    }

pub yes_ended : (g : RunView) → finished g.left ≡ true → Ended g
yes_ended g e = go g.left e
  where
    no : {P : Type 0} → false ≡ true → P
    no q = absurd (both_ways false refl q)

    go : (t : Term) → finished t ≡ true → (v : Value) × (t ≡ done v)
    go (give p v) q = no q
    go (done v) q = (v, refl)
    go (name p n) q = no q
    go (build p f ts) q = no q
    go (bind p xs a t) q = no q
    go (mut p xs a t) q = no q
    go (set p ns a t) q = no q
    go (using_in p xs t) q = no q
    go (if_else p c t u) q = no q

pub not_ended : (g : RunView) → finished g.left ≡ false → Ended g → ⊥
not_ended g e (v, q) = both_ways (finished g.left) e (ap finished q)
