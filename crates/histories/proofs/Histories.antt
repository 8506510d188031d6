-- Every history is sound, and every call goes on with it.
use Rattle.std.proofs.Common.{◌≡◌, ℕ, suc, ◌+◌, ◌%◌, ◌^◌, ◌<◌, ◌≤◌, false, List, [], ◌∷◌, length, Some, None, Ok, Err, Option, Result, sym, refl, ap, ◌∙◌, subst, arith}
use Rattle.machine.specs.Model.{Model, Clears}
use Rattle.need.specs.declared.Need.{Need}
use Rattle.faults.specs.declared.fault.Fault.{Fault}
use Rattle.histories.specs.Views.{Listing, RunView, begin, RunReached, View, State, state, during, Ended, finished, Moment, Chain, sent}
use Rattle.histories.specs.Calls.{Advanced, OrderRefused, Untyped, Loads, not_empty, too_long, no_memory, refused, accepted, Advances, unloaded, ended, went, order_refused, stuck, Empties, Call, load, advance, clear, Does}
use Rattle.histories.specs.Histories.{answered, RunOrIdle, Sound, Inside, Goes, AdvanceAnswers, Answers, History, opened, then, Promise, Opening}
use Rattle.histories.proofs.Keeping.{next_counts, next_keeps, held_start, never_refused, never_stuck, run_sound}

abbrev pub Settled : ℕ → Model → Option RunView → Type 0
Settled k m None = (h : ℕ) → m.live h ≡ false
Settled k m (Some g) = RunReached m g × (g.taken ≡ k)

-- the law over histories
pub record Law (opening n k : ℕ) (v : View) : Type 0 where
  pub counted : v.model.count ≡ (opening + n) % 2 ^ 32
  pub settled : Settled k v.model v.run

run_or_idle : (k : ℕ) (m : Model) (r : Option RunView) → Settled k m r → RunOrIdle k m r
run_or_idle k m None h = h
run_or_idle k m (Some g) h = run_sound k m g h.1 h.0

pub law_sound : (opening n k : ℕ) (v : View) → Law opening n k v → Sound opening n k v
law_sound opening n k v l = record { counted = l.counted; run = run_or_idle k v.model v.run l.settled }

-- the law at equal views and numbers
law_at : (opening n n' k k' : ℕ) (v v' : View) → v' ≡ v → n' ≡ n → k' ≡ k → Law opening n k v → Law opening n' k' v'
law_at opening n n' k k' v v' e f q l =
    subst (λ (x : View). Law opening n' k' x) (sym e) (subst (λ (i : ℕ). Law opening i k' v) (sym f) (subst (λ (j : ℕ). Law opening n j v) (sym q) l))

-- a chain of steps keeps the law, after each step too
pub chain_law : (opening n k : ℕ) (s t : State) (xs : List Moment) → Chain s xs t → Law opening n k (during s) →
    Inside opening n k xs × Law opening (n + sent xs) (k + length xs) (during t)
chain_law opening n k s t [] e l =
    (tt, subst (λ (x : State). Law opening (n + 0) (k + 0) (during x)) e (law_at opening n (n + 0) k (k + 0) (during s) (during s) refl (omega arith) (omega arith) l))
chain_law opening n k s t (x ∷ xs) c l =
    let kept = next_keeps s x c.0 l.settled.0 in
    let one : Law opening (n + length x.event) (k + 1) (during x.state) = record {
      counted = omega (arith, l.counted, next_counts s x c.0);
      settled = (kept.0, omega (arith, kept.1, l.settled.1));
    } in
    let rest = chain_law opening (n + length x.event) (k + 1) x.state t xs c.1 one in (
      (law_sound opening (n + length x.event) (k + 1) (during x.state) one, rest.0),
      law_at opening (n + length x.event + sent xs) (n + (length x.event + sent xs)) (k + 1 + length xs) (k + suc (length xs)) (during t) (during t) refl (omega arith) (omega arith) rest.1,
    )

-- a call without steps
still : (opening n k k' : ℕ) (v' : View) (xs : List Moment) → xs ≡ [] → Law opening n k' v' → Inside opening n k xs × Law opening (n + sent xs) k' v'
still opening n k k' v' xs e l =
    let z : sent xs ≡ 0 = ap sent e in
    (subst (λ (ys : List Moment). Inside opening n k ys) (sym e) tt, law_at opening n (n + sent xs) k' k' v' v' refl (omega (arith, z)) refl l)

-- an answer that is a fault counts no steps, and one of an accepted load begins to count
load_refused : (bytes : List ℕ) (r : Result Need Fault) (e : Fault) (k : ℕ) → r ≡ Err e → answered (load bytes r) k ≡ k
load_refused bytes r e k q = ap (λ (x : Result Need Fault). answered (load bytes x) k) q

advance_refused : (count : ℕ) (r : Result Advanced Fault) (e : Fault) (k : ℕ) → r ≡ Err e → answered (advance count r) k ≡ k
advance_refused count r e k q = ap (λ (x : Result Advanced Fault). answered (advance count x) k) q

-- the two arms that no history comes to
no_refusal : (opening n k : ℕ) (s t : State) (xs : List Moment) → Chain s xs t → Law opening n k (during s) → OrderRefused t → ⊥
no_refusal opening n k s t xs c l d = never_refused t (chain_law opening n k s t xs c l).1.settled.0 d

no_stop : (opening n k : ℕ) (s t : State) (xs : List Moment) → Chain s xs t → Law opening n k (during s) → Untyped t → ⊥
no_stop opening n k s t xs c l u = never_stuck t (chain_law opening n k s t xs c l).1.settled.0 u

advance_law : (opening n k count : ℕ) (r : Result Advanced Fault) (v v' : View) (xs : List Moment) → Advances count v xs v' r → Law opening n k v →
    Inside opening n k xs × Law opening (n + sent xs) (answered (advance count r) k) v'
advance_law opening n k count r v v' xs (unloaded a q e f) l =
    still opening n k (answered (advance count r) k) v' xs e (law_at opening n n k (answered (advance count r) k) v v' f refl (advance_refused count r _ k q) l)
advance_law opening n k count r v v' xs (ended g a b q e f) l =
    still opening n k (answered (advance count r) k) v' xs e (law_at opening n n k (answered (advance count r) k) v v' f refl (advance_refused count r _ k q) l)
advance_law opening n k count r v v' xs (went s t a more c b most short q) l =
    let all = chain_law opening n k s t xs c (law_at opening n n k k v (during s) (sym a) refl refl l) in
    (all.0, law_at opening (n + sent xs) (n + sent xs) (k + length xs) (answered (advance count r) k) (during t) v' b refl (ap (λ (x : Result Advanced Fault). answered (advance count x) k) q) all.1)
advance_law opening n k count r v v' xs (order_refused s t e a c few d q) l = absurd (no_refusal opening n k s t xs c (law_at opening n n k k v (during s) (sym a) refl refl l) d)
advance_law opening n k count r v v' xs (stuck s t b a c few u q) l = absurd (no_stop opening n k s t xs c (law_at opening n n k k v (during s) (sym a) refl refl l) u)

pub chain_listing : (s t : State) (xs : List Moment) → Chain s xs t → t.run.listing ≡ s.run.listing
chain_listing s t [] e = sym (ap (λ (x : State). x.run.listing) e)
chain_listing s t (x ∷ xs) c = chain_listing x.state t xs c.1 ∙ c.0.listing

some_step : (count : ℕ) (s t : State) (xs : List Moment) → Chain s xs t → (Ended s.run → ⊥) → (length xs < count → Ended t.run) → 1 ≤ count → 1 ≤ length xs
some_step count s t [] e more short h = absurd (more (subst (λ (x : State). Ended x.run) (sym e) (short (omega (arith, h)))))
some_step count s t (x ∷ xs) c more short h = omega arith

went_goes : (opening n k count : ℕ) (r : Result Advanced Fault) (v v' : View) (xs : List Moment) (s t : State) → v ≡ during s → (Ended s.run → ⊥) → Chain s xs t → v' ≡ during t →
    length xs ≤ count → (length xs < count → Ended t.run) → r ≡ Ok (record { steps = length xs; ended = finished t.run.left }) → Law opening n k v →
    (g : RunView) → v.run ≡ Some g → Goes count v g xs v' r
went_goes opening n k count r v v' xs s t a more c b most short q l g there =
    let at_s : Law opening n k (during s) = law_at opening n n k k v (during s) (sym a) refl refl l in
    let all = chain_law opening n k s t xs c at_s in
    let run_s : v.run ≡ Some s.run = ap (λ (x : View). x.run) a in
    let same : g ≡ s.run = cc in
    let from : state v.model g ≡ s = λ i. state (a i).model (same i) in
    let to : state v'.model t.run ≡ t = λ i. state (b i).model t.run in
    record {
      run = t.run;
      shown = ap (λ (x : View). x.run) b;
      chain = subst (λ (x : State). Chain x xs (state v'.model t.run)) (sym from) (subst (λ (y : State). Chain s xs y) (sym to) c);
      some = some_step count s t xs c more short;
      most = most;
      short = short;
      taken = omega (arith, all.1.settled.1, at_s.settled.1, ap (λ (x : RunView). x.taken) same);
      listing = chain_listing s t xs c ∙ ap (λ (x : RunView). x.listing) (sym same);
      answer = q;
    }

advance_answers : (opening n k count : ℕ) (r : Result Advanced Fault) (v v' : View) (xs : List Moment) → Advances count v xs v' r → Law opening n k v → AdvanceAnswers count v xs v' r
advance_answers opening n k count r v v' xs (unloaded a q e f) l = record {
  unloaded = λ none. (q, f);
  ended = λ g there over. let z : ◌≡◌ {A = ℕ} 0 1 = cc in absurd (omega arith);
  goes = λ g there more. let z : ◌≡◌ {A = ℕ} 0 1 = cc in absurd (omega arith);
  unrefused = λ x y. let z : ◌≡◌ {A = ℕ} 0 1 = cc in omega arith;
}
advance_answers opening n k count r v v' xs (ended g a b q e f) l = record {
  unloaded = λ none. let z : ◌≡◌ {A = ℕ} 0 1 = cc in absurd (omega arith);
  ended = λ g₂ there over. (q, f);
  goes = λ g₂ there more. let same : g ≡ g₂ = cc in absurd (more (subst Ended same b));
  unrefused = λ x y. let z : ◌≡◌ {A = ℕ} 0 1 = cc in omega arith;
}
advance_answers opening n k count r v v' xs (went s t a more c b most short q) l =
    let run_s : v.run ≡ Some s.run = ap (λ (x : View). x.run) a in
    record {
      unloaded = λ none. let z : ◌≡◌ {A = ℕ} 0 1 = cc in absurd (omega arith);
      ended = λ g there over. let same : g ≡ s.run = cc in absurd (more (subst Ended same over));
      goes = λ g there more₂. went_goes opening n k count r v v' xs s t a more c b most short q l g there;
      unrefused = λ x y. let z : ◌≡◌ {A = ℕ} 0 1 = cc in omega arith;
    }
advance_answers opening n k count r v v' xs (order_refused s t e a c few d q) l = absurd (no_refusal opening n k s t xs c (law_at opening n n k k v (during s) (sym a) refl refl l) d)
advance_answers opening n k count r v v' xs (stuck s t b a c few u q) l = absurd (no_stop opening n k s t xs c (law_at opening n n k k v (during s) (sym a) refl refl l) u)

clear_law : (opening n k : ℕ) (v v' : View) → Empties v v' → Law opening n k v → Law opening n 0 v'
clear_law opening n k v v' e l = record {
  counted = e.machine.count ∙ l.counted;
  settled = subst (λ (x : Option RunView). Settled 0 v'.model x) (sym e.run) e.machine.live;
}

opened_law : (opening n k : ℕ) (m : Model) (v : View) → m.count ≡ opening → Clears m v.model → v.run ≡ None → n ≡ 0 → Law opening n k v
opened_law opening n k m v c cl none z = record {
  counted = omega (arith, c, z, cl.count, m.small);
  settled = subst (λ (x : Option RunView). Settled k v.model x) (sym none) cl.live;
}

module _ (Verdict : List ℕ → ℕ → Result Listing Fault → Type 0) where
  load_law : (opening n k : ℕ) (bytes : List ℕ) (r : Result Need Fault) (v v' : View) → Loads Verdict bytes v v' r → Law opening n k v → Law opening n (answered (load bytes r) k) v'
  load_law opening n k bytes r v v' (not_empty g a q e) l = law_at opening n n k (answered (load bytes r) k) v v' e refl (load_refused bytes r _ k q) l
  load_law opening n k bytes r v v' (too_long a b q e) l = law_at opening n n k (answered (load bytes r) k) v v' e refl (load_refused bytes r _ k q) l
  load_law opening n k bytes r v v' (no_memory a b q e) l = law_at opening n n k (answered (load bytes r) k) v v' e refl (load_refused bytes r _ k q) l
  load_law opening n k bytes r v v' (refused f a b d q e) l = law_at opening n n k (answered (load bytes r) k) v v' e refl (load_refused bytes r f k q) l
  load_law opening n k bytes r v v' (accepted g none b d a q e) l =
      let idle : Settled k v.model None = subst (λ (x : Option RunView). Settled k v.model x) none l.settled in
      let begun : View = record { model = v.model; run = Some (begin g) } in
      let start : Law opening n 0 begun = record { counted = l.counted; settled = (held_start v.model g idle a, refl) } in
      law_at opening n n 0 (answered (load bytes r) k) begun v' e refl (ap (λ (x : Result Need Fault). answered (load bytes x) k) q) start

  call_law : (opening n k : ℕ) (call : Call) (v : View) (xs : List Moment) (v' : View) → Does Verdict call v xs v' → Law opening n k v →
      Inside opening n k xs × Law opening (n + sent xs) (answered call k) v'
  call_law opening n k (load bytes r) v xs v' d l =
      still opening n k (answered (load bytes r) k) v' xs d.1 (load_law opening n k bytes r v v' d.0 l)
  call_law opening n k (advance count r) v xs v' d l = advance_law opening n k count r v v' xs d l
  call_law opening n k clear v xs v' d l =
      still opening n k 0 v' xs d.1 (clear_law opening n k v v' d.0 l)

  call_answers : (opening n k : ℕ) (call : Call) (v : View) (xs : List Moment) (v' : View) → Does Verdict call v xs v' → Law opening n k v → Answers call v xs v'
  call_answers opening n k (load bytes r) v xs v' d l = tt
  call_answers opening n k (advance count r) v xs v' d l = advance_answers opening n k count r v v' xs d l
  call_answers opening n k clear v xs v' d l = tt

  pub history_law : (opening n k : ℕ) (v : View) → History Verdict opening n k v → Law opening n k v
  history_law opening n k v (opened _ _ m _ c cl none z y) = opened_law opening n k m v c cl none z
  history_law opening n k v (then n₀ _ k₀ _ v₀ _ call xs h d e f) =
      law_at opening (n₀ + sent xs) n (answered call k₀) k v v refl e f (call_law opening n₀ k₀ call v₀ xs v d (history_law opening n₀ k₀ v₀ h)).1

  pub history_sound : (opening n k : ℕ) (v : View) → History Verdict opening n k v → Sound opening n k v
  history_sound opening n k v h = law_sound opening n k v (history_law opening n k v h)

  -- the two lemmas that the contracts of the calls rest on
  pub promise : (call : Call) (v : View) (xs : List Moment) (v' : View) → Does Verdict call v xs v' → Promise Verdict call v v'
  promise call v xs v' d = record {
    moments = xs;
    does = d;
    kept = λ opening n k h.
        let l = history_law opening n k v h in
        let after = call_law opening n k call v xs v' d l in
        record {
          history = then n (n + sent xs) k (answered call k) v v' call xs h d refl refl;
          sound = law_sound opening (n + sent xs) (answered call k) v' after.1;
          inside = after.0;
          answers = call_answers opening n k call v xs v' d l;
        };
  }

  pub opening : (m : Model) (v : View) → Clears m v.model → v.run ≡ None → Opening Verdict m v
  opening m v cl none = record {
    machine = cl;
    run = none;
    history = opened 0 0 m v refl cl none refl refl;
    sound = law_sound m.count 0 0 v (opened_law m.count 0 0 m v refl cl none refl);
  }
