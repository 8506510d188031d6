-- What a caller knows of calls that follow one another.
use Rattle.std.proofs.Common.{◌≡◌, ℕ, ◌+◌, ◌≤◌, Bool, true, false, List, length, Some, None, Ok, Option, Result, sym, refl, ap, ◌∙◌, subst, ⊎_elim, arith}
use Rattle.std.proofs.lemmas.Bool.{cases_lt}
use Rattle.machine.specs.Model.{Model}
use Rattle.need.specs.declared.Need.{Need}
use Rattle.faults.specs.declared.fault.Fault.{Fault}
use Rattle.calculus.specs.Syntax.{Ty, Value, type_of, Op, Term, done}
use Rattle.calculus.specs.Rules.{Uses, Same, held, Scope, Has, has_done}
use Rattle.calculus.specs.Steps.{around}
use Rattle.calculus.specs.Runs.{live_names}
use Rattle.histories.specs.Laws.{ValuesTyped}
use Rattle.histories.specs.Views.{Listing, RunView, begin, View, Ended, finished, Moment}
use Rattle.histories.specs.Calls.{Advanced, Loads, not_empty, too_long, no_memory, refused, accepted, Call, load, advance}
use Rattle.histories.specs.Histories.{RunSound, RunOrIdle, AdvanceAnswers, Promise, Opening}
use Rattle.histories.specs.Shows.{Seen, Promised, Opened, Leads}
use Rattle.histories.proofs.Keeping.{yes_ended, not_ended}

-- after an advance by no fewer steps than the need leaves, the run has ended
pub ends_by : (count k : ℕ) (v v' : View) (g : RunView) (xs : List Moment) (r : Result Advanced Fault) → v.run ≡ Some g → AdvanceAnswers count v xs v' r →
    RunOrIdle k v'.model v'.run → g.listing.need.steps ≤ g.taken + count → (b : Bool) → finished g.left ≡ b → (h : RunView) × (v'.run ≡ Some h) × Ended h
ends_by count k v v' g xs r there a sound enough true e =
    let over = yes_ended g e in
    (g, ap (λ (x : View). x.run) (a.ended g there over).1 ∙ there, over)
ends_by count k v v' g xs r there a sound enough false e =
    let goes = a.goes g there (not_ended g e) in
    let h = goes.run in
    let holds : RunSound k v'.model h = subst (λ (x : Option RunView). RunOrIdle k v'.model x) goes.shown sound in
    let same : h.listing.need.steps ≡ g.listing.need.steps = ap (λ (x : Listing). x.need.steps) goes.listing in
    (h, goes.shown, ⊎_elim goes.short (λ (all : count ≤ length xs). holds.last (omega (arith, holds.steps, same, goes.taken, all, enough))) (cases_lt (length xs) count))

value_typed : (ops : List Op) (lim : ℕ) (Γ : Scope) (Δ : Uses) (v : Value) (T : Ty) → Has ops lim Γ Δ (done v) T → (type_of v ≡ T) × Same (held v) Δ
value_typed ops lim Γ Δ v T (has_done q s) = (sym q, λ n. sym (s n))

pub values_typed : ValuesTyped
values_typed k m g f v e =
    value_typed g.listing.ops (length g.listing.ops) (around g.table) (live_names m) v g.listing.type
    (subst (λ (t : Term). Has g.listing.ops (length g.listing.ops) (around g.table) (live_names m) t g.listing.type) e f.typed)

stored : {R : Type 0} (Looks : R → RunView → Type 0) (r : Option R) (g : RunView) → Seen Looks r (Some g) → Ended g →
    (run : R) × (r ≡ Some run) × ((h : RunView) × Looks run h × Ended h)
stored Looks None g s e = absurd s
stored Looks (Some run) g s e = (run, refl, (g, s, e))

module _ (Verdict : List ℕ → ℕ → Result Listing Fault → Type 0) where
  -- an accepted load begins a run, and answers its need
  pub begun : (bytes : List ℕ) (need : Need) (v v' : View) → Loads Verdict bytes v v' (Ok need) → (l : Listing) × (v'.run ≡ Some (begin l)) × (l.need ≡ need)
  begun bytes need v v' (not_empty g a q e) = let z : ◌≡◌ {A = ℕ} 0 1 = cc in absurd (omega arith)
  begun bytes need v v' (too_long a b q e) = let z : ◌≡◌ {A = ℕ} 0 1 = cc in absurd (omega arith)
  begun bytes need v v' (no_memory a b q e) = let z : ◌≡◌ {A = ℕ} 0 1 = cc in absurd (omega arith)
  begun bytes need v v' (refused f a b d q e) = let z : ◌≡◌ {A = ℕ} 0 1 = cc in absurd (omega arith)
  begun bytes need v v' (accepted l none b d a q e) = (l, ap (λ (x : View). x.run) e, cc)

  -- open, load, and advance by no fewer steps than the need's
  pub runs_end : (m : Model) (v₀ v₁ v₂ : View) (bytes : List ℕ) (need : Need) (count : ℕ) (r : Result Advanced Fault) →
      Opening Verdict m v₀ → Promise Verdict (load bytes (Ok need)) v₀ v₁ → Promise Verdict (advance count r) v₁ v₂ → need.steps ≤ count →
      (g : RunView) × (v₂.run ≡ Some g) × Ended g
  runs_end m v₀ v₁ v₂ bytes need count r start p q enough =
      let first = p.kept m.count 0 0 start.history in
      let second = q.kept m.count _ _ first.history in
      let l = begun bytes need v₀ v₁ p.does.0 in
      let steps : l.0.need.steps ≡ need.steps = ap (λ (x : Need). x.steps) l.2 in
      ends_by count _ v₁ v₂ (begin l.0) q.moments r l.1 second.answers second.sound.run (omega (arith, steps, enough)) (finished l.0.start) refl

  -- the same where what is seen of a stored run is related to it
  pub stored_ends : {R : Type 0} (Looks : R → RunView → Type 0) (m m₁ m₂ m₃ : Model) (r₁ r₂ r₃ : Option R) (bytes : List ℕ) (need : Need) (count : ℕ) (a : Result Advanced Fault) →
      Opened Looks Verdict m m₁ r₁ → Promised Looks Verdict (load bytes (Ok need)) m₁ r₁ m₂ r₂ → Promised Looks Verdict (advance count a) m₂ r₂ m₃ r₃ → need.steps ≤ count →
      (run : R) × (r₃ ≡ Some run) × ((g : RunView) × Looks run g × Ended g)
  stored_ends Looks m m₁ m₂ m₃ r₁ r₂ r₃ bytes need count a start p q enough =
      let first = p.keeps m.count 0 0 start.view start.shows start.opening.history in
      let kept = first.2.kept m.count 0 0 start.opening.history in
      let second = q.keeps m.count _ _ first.0 first.1 kept.history in
      let over = runs_end m start.view first.0 second.0 bytes need count a start.opening first.2 second.2 enough in
      let seen : Seen Looks r₃ (Some over.0) = subst (λ (o : Option RunView). Seen Looks r₃ o) over.1 second.1.run in
      stored Looks r₃ over.0 seen over.2

  -- a call leads on, and so do two calls one after the other
  pub leads : {R : Type 0} (Looks : R → RunView → Type 0) (call : Call) (m m' : Model) (r r' : Option R) → Promised Looks Verdict call m r m' r' → Leads Looks Verdict m r m' r'
  leads Looks call m m' r r' p = record {
    goes_on = λ opening n k v s h.
        let q = p.keeps opening n k v s h in
        let kept = q.2.kept opening n k h in
        (_, _, q.0, q.1, kept.history, kept.sound);
  }

  pub leads_on : {R : Type 0} (Looks : R → RunView → Type 0) (m m₁ m₂ : Model) (r r₁ r₂ : Option R) → Leads Looks Verdict m r m₁ r₁ → Leads Looks Verdict m₁ r₁ m₂ r₂ → Leads Looks Verdict m r m₂ r₂
  leads_on Looks m m₁ m₂ r r₁ r₂ p q = record {
    goes_on = λ opening n k v s h.
        let a = p.goes_on opening n k v s h in
        q.goes_on opening a.0 a.1 a.2 a.3 a.4;
  }
