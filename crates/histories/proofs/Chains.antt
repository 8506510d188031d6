-- Steps one after the other, as a loop takes them.
use Rattle.std.proofs.Common.{◌≡◌, ℕ, ◌+◌, ◌<◌, ◌≤◌, List, [], ◌∷◌, ◌++◌, Ok, Result, sym, refl, ap, ◌∙◌, subst, arith, length-append}
use Rattle.machine.specs.Model.{Model}
use Rattle.machine.specs.declared.order.Refusal.{Refusal}
use Rattle.histories.specs.Views.{RunView, RunReached, State, state, Ended, finished, Moment, Next, Chain}
use Rattle.histories.specs.Calls.{Advanced}
use Rattle.histories.specs.Shows.{Took, Went, took, RunSteps, RunTook, RunGoes}
use Rattle.histories.proofs.Keeping.{next_keeps}

pub chain_push : (s t : State) (xs : List Moment) (x : Moment) → Chain s xs t → Next t x → Chain s (xs ++ x ∷ []) x.state
chain_push s t [] x e w = (subst (λ (y : State). Next y x) (sym e) w, refl)
chain_push s t (y ∷ xs) x c w = (c.0, chain_push y.state t xs x c.1 w)

-- steps lead on from where a run has come to
pub chain_reached : (s t : State) (xs : List Moment) → Chain s xs t → RunReached s.model s.run → RunReached t.model t.run
chain_reached s t [] e h = subst (λ (x : State). RunReached x.model x.run) e h
chain_reached s t (x ∷ xs) c h = chain_reached x.state t xs c.1 (next_keeps s x c.0 h).0

pub took_none : (s : State) → Took 0 s s
took_none s = ([], refl, refl)

pub took_more : (n : ℕ) (s t : State) (x : Moment) → Took n s t → Next t x → Took (n + 1) s x.state
took_more n s t x (xs, l, c) w = (xs ++ x ∷ [], length-append xs (x ∷ []) ∙ ap (λ (i : ℕ). i + 1) l, chain_push s t xs x c w)

pub took_went : (n count : ℕ) (s t : State) (a : Result Advanced Refusal) → Took n s t → n ≤ count → (n < count → Ended t.run) →
    a ≡ Ok (record { steps = n; ended = finished t.run.left }) → Went count s t a
took_went n count s t a (xs, l, c) most short q =
    took xs c (omega (arith, l, most)) (λ few. short (omega (arith, l, few))) (q ∙ ap (λ (i : ℕ). Ok (record { steps = i; ended = finished t.run.left })) (sym l))

-- of a stored run
module _ {R : Type 0} (Looks : R → RunView → Type 0) where
  pub run_took_none : (m : Model) (r : R) → RunTook Looks 0 m r m r
  run_took_none m r = λ g see h. (g, see, took_none (state m g))

  pub run_took_more : (n : ℕ) (m m₁ m₂ : Model) (r r₁ r₂ : R) → RunTook Looks n m r m₁ r₁ → RunSteps Looks m₁ r₁ m₂ r₂ → RunTook Looks (n + 1) m r m₂ r₂
  run_took_more n m m₁ m₂ r r₁ r₂ p w = λ g see h.
      let a = p g see h in
      let there = chain_reached (state m g) (state m₁ a.0) a.2.0 a.2.2 h in
      let b = w a.0 a.1 there in
      let x = b.0 in
      (x.state.run, b.2, subst (λ (k : Model). Took (n + 1) (state m g) (state k x.state.run)) b.3 (took_more n (state m g) (state m₁ a.0) x a.2 b.1))

  pub run_took_goes : (n count : ℕ) (m m' : Model) (r r' : R) (a : Result Advanced Refusal) → RunTook Looks n m r m' r' → n ≤ count →
      ((g : RunView) → Looks r' g → RunReached m' g → n < count → Ended g) →
      ((g : RunView) → Looks r' g → RunReached m' g → a ≡ Ok (record { steps = n; ended = finished g.left })) → RunGoes Looks count m r m' r' a
  run_took_goes n count m m' r r' a p most short q = λ g see h.
      let b = p g see h in
      let there = chain_reached (state m g) (state m' b.0) b.2.0 b.2.2 h in
      (b.0, b.1, took_went n count (state m g) (state m' b.0) a b.2 most (short b.0 b.1 there) (q b.0 b.1 there))
