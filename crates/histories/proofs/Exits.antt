-- Each exit of a call keeps the call's promise. What is seen of a stored run is a function of it.
use Rattle.std.proofs.Common.{◌≡◌, ℕ, ◌<◌, ◌≤◌, true, false, List, [], length, is_some, Some, None, Ok, Err, Option, Result, sym, refl, ap, ◌∙◌}
use Rattle.std.proofs.lemmas.Bool.{both_ways}
use Rattle.machine.specs.Model.{Model, Clears}
use Rattle.machine.specs.declared.order.Refusal.{Refusal}
use Rattle.need.specs.declared.Need.{Need}
use Rattle.faults.specs.declared.fault.BenchFault.TheVariants as bench
use Rattle.faults.specs.declared.fault.Fault.{Fault}
use Rattle.faults.specs.declared.fault.Fault.TheVariants as fault
use Rattle.histories.specs.Views.{Listing, Admitted, RunView, begin, View, State, state, during, Ended, finished}
use Rattle.histories.specs.Calls.{Advanced, longest, not_empty, too_long, no_memory, refused, accepted, Advances, unloaded, ended, went, order_refused, stuck, load, advance, clear}
use Rattle.histories.specs.Histories.{Promise, Opening}
use Rattle.histories.specs.Shows.{raised, Went, took, refused_at, untyped_at, steps_in, looks, view}
use Rattle.histories.proofs.Keeping.{yes_ended, not_ended}
use Rattle.histories.proofs.Histories.{promise, opening}

-- what the steps of a run that had not ended are to the call
pub went_advances : (count : ℕ) (v v' : View) (s t : State) (a : Result Advanced Refusal) (r : Result Advanced Fault) → v ≡ during s → v' ≡ during t → (Ended s.run → ⊥) →
    (w : Went count s t a) → r ≡ raised a → Advances count v (steps_in w) v' r
went_advances count v v' s t a r from to more (took xs c most short q) e = went s t from more c to most short (e ∙ ap raised q)
went_advances count v v' s t a r from to more (refused_at xs u f c few d q) e = order_refused s u f from c few d (e ∙ ap raised q)
went_advances count v v' s t a r from to more (untyped_at xs u b c few d q) e = stuck s u b from c few d (e ∙ ap raised q)

module _ (Verdict : List ℕ → ℕ → Result Listing Fault → Type 0) {R : Type 0} (look : R → RunView) where
  none_there : (r : Option R) → false ≡ is_some r → looks look r ≡ None
  none_there None e = refl
  none_there (Some x) e = absurd (both_ways false refl e)

  pub open_exit : (m m' : Model) → Clears m m' → Opening Verdict m (view look m' None)
  open_exit m m' c = opening Verdict m (view look m' None) c refl

  pub clear_exit : (m m' : Model) (r : Option R) → Clears m m' → Promise Verdict clear (view look m r) (view look m' None)
  clear_exit m m' r c = promise Verdict clear (view look m r) [] (view look m' None) (record { machine = c; run = refl }, refl)

  pub not_empty_exit : (bytes : List ℕ) (m : Model) (r : Option R) → true ≡ is_some r → Promise Verdict (load bytes (Err (fault.Bench bench.Loaded))) (view look m r) (view look m r)
  not_empty_exit bytes m None e = absurd (both_ways false refl (sym e))
  not_empty_exit bytes m (Some x) e =
      promise Verdict (load bytes (Err (fault.Bench bench.Loaded))) (view look m (Some x)) [] (view look m (Some x)) (not_empty (look x) refl refl refl, refl)

  pub too_long_exit : (bytes : List ℕ) (m : Model) (r : Option R) → false ≡ is_some r → longest < length bytes →
      Promise Verdict (load bytes (Err (fault.Bench bench.TooLong))) (view look m r) (view look m r)
  too_long_exit bytes m r e long =
      promise Verdict (load bytes (Err (fault.Bench bench.TooLong))) (view look m r) [] (view look m r) (too_long (none_there r e) long refl refl, refl)

  pub no_memory_exit : (bytes : List ℕ) (m : Model) (r : Option R) (res : Result Need Fault) → false ≡ is_some r → length bytes ≤ longest → res ≡ Err fault.Memory →
      Promise Verdict (load bytes res) (view look m r) (view look m r)
  no_memory_exit bytes m r res e short q = promise Verdict (load bytes res) (view look m r) [] (view look m r) (no_memory (none_there r e) short q refl, refl)

  pub refused_exit : (bytes : List ℕ) (m : Model) (r : Option R) (e : Fault) (res : Result Need Fault) → false ≡ is_some r → length bytes ≤ longest → Verdict bytes m.capacity (Err e) → res ≡ Err e →
      Promise Verdict (load bytes res) (view look m r) (view look m r)
  refused_exit bytes m r e res none short found q = promise Verdict (load bytes res) (view look m r) [] (view look m r) (refused e (none_there r none) short found q refl, refl)

  pub accepted_exit : (bytes : List ℕ) (m : Model) (r : Option R) (run : R) (l : Listing) (res : Result Need Fault) → false ≡ is_some r → length bytes ≤ longest →
      Verdict bytes m.capacity (Ok l) → Admitted m.capacity l → look run ≡ begin l → res ≡ Ok l.need → Promise Verdict (load bytes res) (view look m r) (view look m (Some run))
  accepted_exit bytes m r run l res none short found a start q =
      promise Verdict (load bytes res) (view look m r) [] (view look m (Some run))
      (accepted l (none_there r none) short found a q (ap (λ (g : RunView). record { model = m; run = Some g }) start), refl)

  pub unloaded_exit : (count : ℕ) (m : Model) (r : Option R) → r ≡ None → Promise Verdict (advance count (Err (fault.Bench bench.Unloaded))) (view look m r) (view look m r)
  unloaded_exit count m r e =
      promise Verdict (advance count (Err (fault.Bench bench.Unloaded))) (view look m r) [] (view look m r) (unloaded (ap (looks look) e) refl refl refl)

  pub ended_exit : (count : ℕ) (m : Model) (r : Option R) (run : R) → r ≡ Some run → finished (look run).left ≡ true →
      Promise Verdict (advance count (Err (fault.Bench bench.Ended))) (view look m r) (view look m (Some run))
  ended_exit count m r run e f =
      promise Verdict (advance count (Err (fault.Bench bench.Ended))) (view look m r) [] (view look m (Some run))
      (ended (look run) (ap (looks look) e) (yes_ended (look run) f) refl refl (ap (view look m) (sym e)))

  -- a run that has not ended, after its steps
  pub went_exit : (count : ℕ) (m m' : Model) (r : Option R) (run run' : R) (a : Result Advanced Refusal) (res : Result Advanced Fault) → r ≡ Some run → finished (look run).left ≡ false →
      Went count (state m (look run)) (state m' (look run')) a → res ≡ raised a → Promise Verdict (advance count res) (view look m r) (view look m' (Some run'))
  went_exit count m m' r run run' a res e f w q =
      promise Verdict (advance count res) (view look m r) (steps_in w) (view look m' (Some run'))
      (went_advances count (view look m r) (view look m' (Some run')) (state m (look run)) (state m' (look run')) a res (ap (view look m) e) refl (not_ended (look run) f) w q)
