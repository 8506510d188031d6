-- Each step takes one of the steps of what is left.
use mathlib.Core.Path.{◌≡◌, refl, sym, ◌∙◌}
use mathlib.Core.List.{List, [], ◌∷◌, map}
use mathlib.Core.Bool.{Bool, true, false, cond}
use Prim.Native.Nat.{ℕ, suc, ◌<◌, ◌≤◌, max}
use native.Mathlib.Omega.{arith}
use Rattle.calculus.specs.Need.{body_steps, steps, steps_all, Counts}
use Rattle.calculus.specs.Syntax.{var, is, Values, names, Form, Place, Term, give, done, name, build, bind, mut, set, using_in, if_else, Terms, no_terms, ◌∷ˢ◌, Op}
use Rattle.calculus.specs.Laws.{StepsFall, Ends}
use Rattle.calculus.specs.Steps.{Stand, by_value, by_entry, stand_at, put, put_all, puts, given, Table, Event, handle_values, AllDone, none_left, one_done, Acts, acts_tuple, acts_meas}
use Rattle.calculus.specs.Steps.{acts_gate, acts_call, Step, step_give, step_name, step_parts, step_build, step_bind_in, step_bind, step_mut_in, step_mut, step_set_in, step_set, step_using}
use Rattle.calculus.specs.Steps.{step_if_in, step_if, StepPart, step_first, step_later, chooses, chooses_part}
use Rattle.calculus.proofs.Names.{never}

module _ (c : ℕ → ℕ) (x : ℕ) (s : Stand) where
  stand_steps : (p : Place) (r : Stand) → steps c (stand_at p r) ≡ 1
  stand_steps p (by_value v) = refl
  stand_steps p (by_entry e) = refl

  mutual
    -- what stands for a name has the name's step
    pub put_steps : (t : Term) → steps c (put x s t) ≡ steps c t
    put_steps (give p v) = refl
    put_steps (done v) = refl
    put_steps (name p n) = go (is (var x) n)
      where
        go : (b : Bool) → steps c (cond b (stand_at p s) (name p n)) ≡ 1
        go true = stand_steps p s
        go false = refl
    put_steps (build p f ts) = rw (put_all_steps ts)
    put_steps (bind p ys e t) = rw (put_steps e, put_steps t)
    put_steps (mut p ys e t) = rw (put_steps e, put_steps t)
    put_steps (set p ns e t) = rw (put_steps e, put_steps t)
    put_steps (using_in p ys t) = rw (put_steps t)
    put_steps (if_else p a t u) = rw (put_steps a, put_steps t, put_steps u)

    pub put_all_steps : (ts : Terms) → steps_all c (put_all x s ts) ≡ steps_all c ts
    put_all_steps no_terms = refl
    put_all_steps (t ∷ˢ ts) = rw (put_steps t, put_all_steps ts)

pub puts_steps : (c : ℕ → ℕ) (xs : List ℕ) (ss : List Stand) (t : Term) → steps c (puts xs ss t) ≡ steps c t
puts_steps c [] ss t = refl
puts_steps c (x ∷ xs) [] t = refl
puts_steps c (x ∷ xs) (s ∷ ss) t = put_steps c x s (puts xs ss t) ∙ puts_steps c xs ss t

pick_steps : (c : ℕ → ℕ) (b : Bool) (t u : Term) → steps c (cond b t u) ≤ max (steps c t) (steps c u)
pick_steps c true t u = omega arith
pick_steps c false t u = omega arith

done_steps : (c : ℕ → ℕ) {ts : Terms} {vs : Values} → AllDone ts vs → steps_all c ts ≡ 0
done_steps c none_left = refl
done_steps c (one_done a) = omega (arith, done_steps c a)

act_steps : (ops : List Op) (c : ℕ → ℕ) → Counts ops c → {f : Form} {vs : Values} {ev : Event} {t : Term} → Acts ops f vs ev t → steps c t ≡ body_steps c f
act_steps ops c k acts_tuple = refl
act_steps ops c k acts_meas = refl
act_steps ops c k (acts_gate hs q) = refl
act_steps ops c k (acts_call {f = f} {vs = vs} op at_f) = puts_steps c op.params (given vs) op.body ∙ sym (k f op at_f)

abbrev pub FallsBy : Bool → ℕ → ℕ → Type 0
FallsBy b n m = (b ≡ false → n ≡ suc m) × (m < n)

exactly : {b : Bool} {n m : ℕ} → n ≡ suc m → FallsBy b n m
exactly q = (λ z. q, omega (arith, q))

module _ (ops : List Op) (c : ℕ → ℕ) (k : Counts ops c) where
  mutual
    pub fall : {t t' : Term} {μ μ' : Table} {p : Place} {es : List ℕ} {ev : Event} → (s : Step ops t μ p es ev t' μ') → FallsBy (chooses s) (steps c t) (steps c t')
    fall step_give = exactly refl
    fall step_name = exactly refl
    fall (step_parts s) = let r = fall_parts s in (λ q. omega (arith, r.0 q), omega (arith, r.1))
    fall (step_build vs d act) = exactly (omega (arith, act_steps ops c k act, done_steps c d))
    fall (step_bind_in s) = let r = fall s in (λ q. omega (arith, r.0 q), omega (arith, r.1))
    fall (step_bind {xs = xs} {t = t} vs w) = exactly (omega (arith, puts_steps c (names xs) (given vs) t))
    fall (step_mut_in s) = let r = fall s in (λ q. omega (arith, r.0 q), omega (arith, r.1))
    fall (step_mut {xs = xs} {t = t} {es = es} vs w l) = exactly (omega (arith, puts_steps c (names xs) (map by_entry es) t))
    fall (step_set_in s) = let r = fall s in (λ q. omega (arith, r.0 q), omega (arith, r.1))
    fall (step_set vs w es q) = exactly (omega arith)
    fall (step_using {xs = xs} {t = t} hs l) = exactly (omega (arith, puts_steps c (names xs) (given (handle_values hs)) t))
    fall (step_if_in s) = let r = fall s in (λ q. omega (arith, r.0 q), omega (arith, r.1))
    fall (step_if {b = b} {t = t} {u = u}) = (λ q. never cc, omega (arith, pick_steps c b t u))

    pub fall_parts : {ts ts' : Terms} {μ μ' : Table} {p : Place} {es : List ℕ} {ev : Event} → (s : StepPart ops ts μ p es ev ts' μ') → FallsBy (chooses_part s) (steps_all c ts) (steps_all c ts')
    fall_parts (step_first s) = let r = fall s in (λ q. omega (arith, r.0 q), omega (arith, r.1))
    fall_parts (step_later s) = let r = fall_parts s in (λ q. omega (arith, r.0 q), omega (arith, r.1))

pub steps_fall : StepsFall
steps_fall ops c k t t' μ μ' p es ev s = fall ops c k s

pub ends : Ends
ends c (give p v) = (λ z. never (omega arith), λ w q. never cc)
ends c (done v) = (λ z. (v, refl), λ w q. refl)
ends c (name p n) = (λ z. never (omega arith), λ w q. never cc)
ends c (build p f ts) = (λ z. never (omega arith), λ w q. never cc)
ends c (bind p xs e t) = (λ z. never (omega arith), λ w q. never cc)
ends c (mut p xs e t) = (λ z. never (omega arith), λ w q. never cc)
ends c (set p ns e t) = (λ z. never (omega arith), λ w q. never cc)
ends c (using_in p xs t) = (λ z. never (omega arith), λ w q. never cc)
ends c (if_else p a t u) = (λ z. never (omega arith), λ w q. never cc)
