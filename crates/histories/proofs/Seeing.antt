-- Each exit of a call keeps the call's promise. What is seen of a stored run is related to it.
use Rattle.std.proofs.Common.{◌≡◌, ℕ, ◌<◌, ◌≤◌, true, false, List, [], length, is_some, Some, None, Ok, Err, Option, Result, sym, refl, ap, subst}
use Rattle.std.proofs.lemmas.Bool.{both_ways}
use Rattle.machine.specs.Model.{Model, Clears}
use Rattle.machine.specs.declared.order.Refusal.{Refusal}
use Rattle.need.specs.declared.Need.{Need}
use Rattle.faults.specs.declared.fault.BenchFault.TheVariants as bench
use Rattle.faults.specs.declared.fault.Fault.{Fault}
use Rattle.faults.specs.declared.fault.Fault.TheVariants as fault
use Rattle.histories.specs.Views.{Listing, Admitted, RunView, begin, RunReached, View, state, during, Ended, finished}
use Rattle.histories.specs.Calls.{Advanced, longest, not_empty, too_long, no_memory, refused, accepted, unloaded, ended, Call, load, advance, clear, Does}
use Rattle.histories.specs.Histories.{History}
use Rattle.histories.specs.Shows.{raised, steps_in, Seen, Shows, RunGoes, Promised, Opened}
use Rattle.histories.proofs.Keeping.{yes_ended, not_ended}
use Rattle.histories.proofs.Histories.{Settled, history_law, promise, opening}
use Rattle.histories.proofs.Exits.{went_advances}

module _ (Verdict : List ℕ → ℕ → Result Listing Fault → Type 0) {R : Type 0} (Looks : R → RunView → Type 0) where
  seen_none : (r : Option R) (o : Option RunView) → false ≡ is_some r → Seen Looks r o → o ≡ None
  seen_none None None e s = refl
  seen_none None (Some g) e s = absurd s
  seen_none (Some x) o e s = absurd (both_ways false refl e)

  seen_some : (run : R) (o : Option RunView) → Seen Looks (Some run) o → (g : RunView) × (o ≡ Some g) × Looks run g
  seen_some run None s = absurd s
  seen_some run (Some g) s = (g, refl, s)

  none_shown : (m : Model) (r : Option R) (v : View) → false ≡ is_some r → Shows Looks m r v → v.run ≡ None
  none_shown m r v e s = seen_none r v.run e s.run

  some_shown : (m : Model) (r : Option R) (run : R) (v : View) → r ≡ Some run → Shows Looks m r v → (g : RunView) × (v.run ≡ Some g) × Looks run g
  some_shown m r run v e s = seen_some run v.run (subst (λ (x : Option R). Seen Looks x v.run) e s.run)

  -- a call that leaves all as it was
  unchanged : (call : Call) (m : Model) (r : Option R) → ((v : View) → Shows Looks m r v → Does Verdict call v [] v) → Promised Looks Verdict call m r m r
  unchanged call m r d = record { keeps = λ opening n k v s h. (v, s, promise Verdict call v [] v (d v s)) }

  pub open_seen : (m m' : Model) → Clears m m' → Opened Looks Verdict m m' None
  open_seen m m' c = let v : View = record { model = m'; run = None } in record { view = v; shows = record { model = refl; run = tt }; opening = opening Verdict m v c refl }

  pub clear_seen : (m m' : Model) (r : Option R) → Clears m m' → Promised Looks Verdict clear m r m' None
  clear_seen m m' r c =
      let v' : View = record { model = m'; run = None } in
      record {
        keeps = λ opening n k v s h.
            (v', record { model = refl; run = tt }, promise Verdict clear v [] v' (record { machine = subst (λ (x : Model). Clears x m') (sym s.model) c; run = refl }, refl));
      }

  pub not_empty_seen : (bytes : List ℕ) (m : Model) (r : Option R) → true ≡ is_some r → Promised Looks Verdict (load bytes (Err (fault.Bench bench.Loaded))) m r m r
  not_empty_seen bytes m None e = absurd (both_ways false refl (sym e))
  not_empty_seen bytes m (Some x) e = unchanged (load bytes (Err (fault.Bench bench.Loaded))) m (Some x) (λ v s.
      let g = seen_some x v.run s.run in
      (not_empty g.0 g.1 refl refl, refl))

  pub too_long_seen : (bytes : List ℕ) (m : Model) (r : Option R) → false ≡ is_some r → longest < length bytes → Promised Looks Verdict (load bytes (Err (fault.Bench bench.TooLong))) m r m r
  too_long_seen bytes m r e long = unchanged (load bytes (Err (fault.Bench bench.TooLong))) m r (λ v s. (too_long (none_shown m r v e s) long refl refl, refl))

  pub no_memory_seen : (bytes : List ℕ) (m : Model) (r : Option R) (res : Result Need Fault) → false ≡ is_some r → length bytes ≤ longest → res ≡ Err fault.Memory →
      Promised Looks Verdict (load bytes res) m r m r
  no_memory_seen bytes m r res e short q = unchanged (load bytes res) m r (λ v s. (no_memory (none_shown m r v e s) short q refl, refl))

  pub refused_seen : (bytes : List ℕ) (m : Model) (r : Option R) (e : Fault) (res : Result Need Fault) → false ≡ is_some r → length bytes ≤ longest → Verdict bytes m.capacity (Err e) → res ≡ Err e →
      Promised Looks Verdict (load bytes res) m r m r
  refused_seen bytes m r e res none short found q = unchanged (load bytes res) m r (λ v s.
      (refused e (none_shown m r v none s) short (subst (λ (x : Model). Verdict bytes x.capacity (Err e)) (sym s.model) found) q refl, refl))

  pub accepted_seen : (bytes : List ℕ) (m : Model) (r : Option R) (run : R) (l : Listing) (res : Result Need Fault) → false ≡ is_some r → length bytes ≤ longest →
      Verdict bytes m.capacity (Ok l) → Admitted m.capacity l → Looks run (begin l) → res ≡ Ok l.need → Promised Looks Verdict (load bytes res) m r m (Some run)
  accepted_seen bytes m r run l res none short found a start q = record {
    keeps = λ opening n k v s h.
        let v' : View = record { model = v.model; run = Some (begin l) } in
        let found_there = subst (λ (x : Model). Verdict bytes x.capacity (Ok l)) (sym s.model) found in
        let admitted_there = subst (λ (x : Model). Admitted x.capacity l) (sym s.model) a in
        (v', record { model = s.model; run = start }, promise Verdict (load bytes res) v [] v' (accepted l (none_shown m r v none s) short found_there admitted_there q refl, refl));
  }

  pub unloaded_seen : (count : ℕ) (m : Model) (r : Option R) → r ≡ None → Promised Looks Verdict (advance count (Err (fault.Bench bench.Unloaded))) m r m r
  unloaded_seen count m r e = unchanged (advance count (Err (fault.Bench bench.Unloaded))) m r (λ v s. unloaded (none_shown m r v (ap is_some (sym e)) s) refl refl refl)

  -- in a history the stored run has come to what is seen of it by its steps
  pub run_reached : (opening n k : ℕ) (m : Model) (r : Option R) (run : R) (v : View) → r ≡ Some run → Shows Looks m r v → History Verdict opening n k v →
      (g : RunView) × (v.run ≡ Some g) × Looks run g × RunReached m g
  run_reached opening n k m r run v e s h =
      let g = some_shown m r run v e s in
      let at_m : Settled k m v.run = subst (λ (x : Model). Settled k x v.run) s.model (history_law Verdict opening n k v h).settled in
      let settled : Settled k m (Some g.0) = subst (λ (x : Option RunView). Settled k m x) g.1 at_m in
      (g.0, g.1, g.2, settled.0)

  pub ended_seen : (count : ℕ) (m : Model) (r : Option R) (run : R) → r ≡ Some run → ((g : RunView) → Looks run g → RunReached m g → finished g.left ≡ true) →
      Promised Looks Verdict (advance count (Err (fault.Bench bench.Ended))) m r m (Some run)
  ended_seen count m r run e over = record {
    keeps = λ opening n k v s h.
        let g = run_reached opening n k m r run v e s h in
        let done : Ended g.0 = yes_ended g.0 (over g.0 g.2 g.3) in (
          v,
          record { model = s.model; run = subst (λ (x : Option R). Seen Looks x v.run) e s.run },
          promise Verdict (advance count (Err (fault.Bench bench.Ended))) v [] v (ended g.0 g.1 done refl refl refl),
        );
  }

  -- a run that has not ended, after its steps
  pub went_seen : (count : ℕ) (m m' : Model) (r : Option R) (run run' : R) (a : Result Advanced Refusal) (res : Result Advanced Fault) → r ≡ Some run →
      ((g : RunView) → Looks run g → RunReached m g → finished g.left ≡ false) → RunGoes Looks count m run m' run' a → res ≡ raised a →
      Promised Looks Verdict (advance count res) m r m' (Some run')
  went_seen count m m' r run run' a res e more goes q = record {
    keeps = λ opening n k v s h.
        let g = run_reached opening n k m r run v e s h in
        let after = goes g.0 g.2 g.3 in
        let v' : View = during (state m' after.0) in
        let from : v ≡ during (state m g.0) = λ i. record { model = s.model i; run = g.1 i } in (
          v',
          record { model = refl; run = after.1 },
          promise Verdict (advance count res) v (steps_in after.2) v'
              (went_advances count v v' (state m g.0) (state m' after.0) a res from refl (not_ended g.0 (more g.0 g.2 g.3)) after.2 q),
        );
  }
