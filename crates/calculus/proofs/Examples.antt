-- Listings worked through.
use mathlib.Core.Path.{◌≡◌, refl, sym, ◌∙◌, ap, subst}
use mathlib.Core.List.{[], ◌∷◌}
use mathlib.Core.Bool.{true, false}
use mathlib.Core.Option.{Option, none, some}
use Prim.Native.Nat.{ℕ, zero, suc, ◌+◌}
use native.Mathlib.Omega.{arith}
use Rattle.machine.specs.declared.order.Gate.TheVariants.{X}
use Rattle.machine.specs.declared.order.Handles.TheVariants.{One}
use Rattle.machine.specs.declared.order.Order.TheVariants.{Prepared, Applied, Measured}
use Rattle.calculus.specs.Examples.{measured, twice_one, kept, outside, doubled, unspent, one_branch, own_call, flip, flipped, corrected, present, swapped_pair, Typed, Untyped, stays, then}
use Rattle.calculus.specs.Examples.{ComesTo, Worked}
use Rattle.calculus.specs.Syntax.{Ty, bit, qbit, no_types, ◌∷ᵗ◌, Name, var, entry, handle, Value, bit_of, tuple_of, no_values, ◌∷ᵛ◌, one, meas, Place, Term, done, name, build, using_in}
use Rattle.calculus.specs.Syntax.{no_terms, ◌∷ˢ◌, Op}
use Rattle.calculus.specs.Rules.{Uses, nothing, Divides, spent, Binding, fixed, settable, type, Scope, nowhere, extend, Has, has_give, has_name, has_build, has_bind, has_mut, has_using}
use Rattle.calculus.specs.Rules.{has_if, parts_none, parts_more, Under, under_none, under_more, Well}
use Rattle.calculus.specs.Steps.{Clear, Table, empty, Event, AllDone, none_left, one_done, acts_tuple, acts_meas, acts_gate, Step, step_give, step_name, step_parts, step_build}
use Rattle.calculus.specs.Steps.{step_bind_in, step_bind, step_mut_in, step_mut, step_set_in, step_set, step_using, step_if_in, step_if, step_first, step_later, WholeStep}
use Rattle.calculus.proofs.Names.{never, is_refl}
use Rattle.calculus.proofs.Progress.{from, from_distinct, bound, clear}
use Rattle.calculus.proofs.Growth.{each}

-- a linear name of type qbit
abbrev qubit : Scope → ℕ → Scope
qubit Γ x = extend Γ x (fixed qbit)

abbrev own : ℕ → Uses
own x = spent qbit (var x)

nothing_more : (Δ : Uses) → Divides Δ Δ nothing
nothing_more Δ n = omega arith

nothing_else : (Δ : Uses) → Divides Δ nothing Δ
nothing_else Δ n = omega arith

spends_it : {Δ : Uses} {Γ : Scope} {p : Place} {A : Ty} (x : ℕ) → Γ (var x) ≡ some (fixed qbit) → Has [] 0 Γ Δ (name p (var x)) A → Δ (var x) ≡ 1
spends_it x g (has_name b h q s) = s (var x) ∙ rw (q ∙ ap type (same h g)) (rw (is_refl (var x)))
  where
    same : {o : Option Binding} {c d : Binding} → o ≡ some c → o ≡ some d → c ≡ d
    same p q = cc

here : (x : ℕ) → own x (var x) ≡ 1
here x = rw (is_refl (var x))

-- those without a type
unspent_not : Untyped unspent
unspent_not A (has_using (under_more Δ' new d (under_none (has_give q s)))) = never (sym (s (var 0)) ∙ d (var 0) ∙ refl)

doubled_not : Untyped doubled
doubled_not A (has_using (under_more Δ' new d (under_none (has_build Ts (parts_more Δ₁ Δ₂ e h (parts_more Δ₃ Δ₄ e₂ h₂ ps)) fit)))) =
    let one_spent : Δ' (var 0) ≡ 1 = d (var 0) in
    absurd (omega (arith, one_spent, e (var 0), e₂ (var 0), spends_it 0 refl h, spends_it 0 refl h₂))

meas_spends : {Δ : Uses} {Γ : Scope} {p q : Place} {A : Ty} (x : ℕ) → Γ (var x) ≡ some (fixed qbit) → Has [] 0 Γ Δ (build p meas (name q (var x) ∷ˢ no_terms)) A → Δ (var x) ≡ 1
meas_spends x g (has_build Ts (parts_more Δ₁ Δ₂ e h (parts_none z)) fit) = omega (arith, e (var x), spends_it x g h, z (var x))

outside_not : Untyped outside
outside_not A (has_using (under_more Δ' new d (under_none (has_mut Δ₁ Δ₂ B Bs e h nv dup sp u)))) = never (sym (nv 0) ∙ meas_spends 0 refl h)

one_branch_not : Untyped one_branch
one_branch_not A (has_using (under_more Δ' new d (under_none (has_if Δ₁ Δ₂ e c h (has_give q s))))) = never (sym (s (var 0)) ∙ meas_spends 0 refl h)

own_call_not : ¬ (Well (own_call ∷ []))
own_call_not well = go (well 0 own_call refl)
  where
    go : {Γ : Scope} {Δ : Uses} → Under (own_call ∷ []) 0 fixed Γ Δ (0 ∷ []) (bit ∷ᵗ no_types) own_call.body bit → ⊥
    go (under_more Δ' new d (under_none (has_build Ts ps fit))) = absurd (omega (arith, fit.1))

-- those with one
the_name : {Γ : Scope} {p : Place} (x : ℕ) → Γ (var x) ≡ some (fixed qbit) → Has [] 0 Γ (own x) (name p (var x)) qbit
the_name x g = has_name (fixed qbit) g refl (λ n. refl)

measuring : {Γ : Scope} {Δ : Uses} {p : Place} {t : Term} → Has [] 0 Γ Δ t qbit → Has [] 0 Γ Δ (build p meas (t ∷ˢ no_terms)) bit
measuring {Δ = Δ} h = has_build (qbit ∷ᵗ no_types) (parts_more Δ nothing (nothing_more Δ) h (parts_none (λ n. refl))) (refl, refl)

with_one : {Γ : Scope} {p : Place} {t : Term} {A : Ty} (x : ℕ) → Γ (var x) ≡ none → Has [] 0 (qubit Γ x) (own x) t A → Has [] 0 Γ nothing (using_in p (one x) t) A
with_one x g h = has_using (under_more (own x) (g, refl) (nothing_else (own x)) (under_none h))

measured_typed : Typed measured bit
measured_typed =
    with_one 0 refl (measuring (has_build (qbit ∷ᵗ no_types) (parts_more (own 0) nothing (nothing_more (own 0)) (the_name 0 refl) (parts_none (λ n. refl))) (refl, refl)))

meas_one : {Γ : Scope} {p q r : Place} (x : ℕ) → Γ (var x) ≡ none → Has [] 0 Γ nothing (using_in p (one x) (build q meas (name r (var x) ∷ˢ no_terms))) bit
meas_one x g = with_one x g (measuring (the_name x (rw (is_refl (var x)))))

twice_typed : Typed twice_one bit
twice_typed =
    has_bind nothing nothing bit (bit ∷ᵗ no_types) (λ n. refl) (meas_one 1 refl) refl (under_more nothing (refl, refl) (λ n. refl) (under_none (meas_one 2 refl)))

kept_typed : Typed kept bit
kept_typed =
    has_mut nothing nothing bit (bit ∷ᵗ no_types) (λ n. refl) (meas_one 1 refl) (λ x. refl) refl refl
    (under_more nothing (refl, refl) (λ n. refl) (under_none (has_name (settable bit) refl refl (λ n. refl))))

flip_well : Well (flip ∷ [])
flip_well zero op h =
    subst (λ (o : Op). Under (flip ∷ []) 0 fixed nowhere nothing o.params o.types o.body o.result) (same h)
    (under_more (own 0) (refl, refl) (nothing_else (own 0)) (under_none
    (has_build (qbit ∷ᵗ no_types) (parts_more (own 0) nothing (nothing_more (own 0)) (has_name (fixed qbit) refl refl (λ n. refl)) (parts_none (λ n. refl))) (refl, refl))))
  where
    same : some flip ≡ some op → flip ≡ op
    same h = cc
flip_well (suc f) op h = never cc

flipped_typed : Has (flip ∷ []) 1 nowhere nothing flipped bit
flipped_typed =
    has_using (under_more (own 1) (refl, refl) (nothing_else (own 1)) (under_none
    (has_build (qbit ∷ᵗ no_types) (parts_more (own 1) nothing (nothing_more (own 1))
    (has_build (qbit ∷ᵗ no_types) (parts_more (own 1) nothing (nothing_more (own 1)) (has_name (fixed qbit) refl refl (λ n. refl)) (parts_none (λ n. refl)))
    (flip, omega arith, refl, refl, refl))
    (parts_none (λ n. refl))) (refl, refl))))

corrected_typed : Typed corrected bit
corrected_typed =
    has_using (under_more (own 0) (refl, refl) (nothing_else (own 0)) (under_more (λ n. own 0 n + own 1 n) (refl, refl) (λ n. refl) (under_none
    (has_bind (own 0) (own 1) bit (bit ∷ᵗ no_types) (λ n. refl) (measuring (the_name 0 refl)) refl (under_more (own 1) (refl, refl) (nothing_more (own 1)) (under_none
    (has_if nothing (own 1) (nothing_else (own 1)) (has_name (fixed bit) refl refl (λ n. refl))
    (measuring (has_build (qbit ∷ᵗ no_types) (parts_more (own 1) nothing (nothing_more (own 1)) (the_name 1 refl) (parts_none (λ n. refl))) (refl, refl)))
    (measuring (the_name 1 refl)))))))))

-- steps
clear_nothing : (n : Name) → Clear [] n
clear_nothing (var x) = tt
clear_nothing (entry e) = refl
clear_nothing (handle h) = tt

plain : {t t' : Term} {μ μ' : Table} {p : Place} {ev : Event} → Step [] t μ p [] ev t' μ' → WholeStep [] t μ p ev t' μ'
plain {t} s = record { new = []; step = s; fresh = record { apart = refl; unnamed = each clear_nothing t } }

fresh : {t t' : Term} {μ μ' : Table} {p : Place} {ev : Event} (n : ℕ) → Step [] t μ p (from (bound t) n) ev t' μ' → WholeStep [] t μ p ev t' μ'
fresh {t} n s = record { new = from (bound t) n; step = s; fresh = record { apart = from_distinct (bound t) n; unnamed = clear (bound t) n t (omega arith) } }

single : {v : Value} → AllDone (done v ∷ˢ no_terms) (v ∷ᵛ no_values)
single = one_done none_left

corrected_comes : ComesTo corrected (4 ∷ 33 ∷ 28 ∷ 20 ∷ 42 ∷ 39 ∷ 56 ∷ 54 ∷ 49 ∷ [])
    (Prepared 5 ∷ Prepared 3 ∷ Measured 5 true ∷ Applied X (One 3) ∷ Measured 3 false ∷ []) (done (bit_of false))
corrected_comes = (
  empty,
  then (plain (step_using (5 ∷ 3 ∷ []) refl))
      (then (plain (step_bind_in (step_parts (step_first step_give))))
      (then (plain (step_bind_in (step_build _ single (acts_meas {b = true}))))
      (then (plain (step_bind _ refl))
      (then (plain (step_if_in step_give))
      (then (plain step_if)
      (then (plain (step_parts (step_first (step_parts (step_first step_give)))))
      (then (plain (step_parts (step_first (step_build _ single (acts_gate (One 3) refl)))))
      (then (plain (step_build _ single (acts_meas {b = false}))) stays)))))))),
)

present_comes : ComesTo present (12 ∷ 4 ∷ 21 ∷ 32 ∷ 24 ∷ 39 ∷ 42 ∷ 20 ∷ []) [] (done (tuple_of (bit_of false ∷ᵛ bit_of true ∷ᵛ bit_of true ∷ᵛ no_values)))
present_comes = (
  _,
  then (plain (step_mut_in step_give))
      (then (fresh 1 (step_mut _ refl refl))
      (then (plain (step_parts (step_first step_name)))
      (then (plain (step_parts (step_later (step_first (step_set_in step_give)))))
      (then (plain (step_parts (step_later (step_first (step_set _ refl (0 ∷ []) refl)))))
      (then (plain (step_parts (step_later (step_first step_name))))
      (then (plain (step_parts (step_later (step_later (step_first step_name)))))
      (then (plain (step_build _ (one_done (one_done single)) acts_tuple)) stays))))))),
)

swapped_comes : ComesTo swapped_pair (18 ∷ 24 ∷ 17 ∷ 4 ∷ 46 ∷ 49 ∷ 45 ∷ 32 ∷ 56 ∷ 59 ∷ 55 ∷ []) [] (done (tuple_of (bit_of true ∷ᵛ bit_of false ∷ᵛ no_values)))
swapped_comes = (
  _,
  then (plain (step_mut_in (step_parts (step_first step_give))))
      (then (plain (step_mut_in (step_parts (step_later (step_first step_give)))))
      (then (plain (step_mut_in (step_build _ (one_done single) acts_tuple)))
      (then (fresh 2 (step_mut _ refl refl))
      (then (plain (step_set_in (step_parts (step_first step_name))))
      (then (plain (step_set_in (step_parts (step_later (step_first step_name)))))
      (then (plain (step_set_in (step_build _ (one_done single) acts_tuple)))
      (then (plain (step_set _ refl (0 ∷ 1 ∷ []) refl))
      (then (plain (step_parts (step_first step_name)))
      (then (plain (step_parts (step_later (step_first step_name))))
      (then (plain (step_build _ (one_done single) acts_tuple)) stays)))))))))),
)

pub worked : Worked
worked = record {
  measured_typed = measured_typed;
  measured_needs = (refl, refl, refl);
  twice_typed = twice_typed;
  twice_needs = (refl, refl, refl);
  kept_typed = kept_typed;
  kept_needs = (refl, refl, refl);
  outside_not = outside_not;
  doubled_not = doubled_not;
  unspent_not = unspent_not;
  one_branch_not = one_branch_not;
  own_call_not = own_call_not;
  flip_well = flip_well;
  flipped_typed = flipped_typed;
  flipped_needs = (refl, refl, refl);
  corrected_typed = corrected_typed;
  corrected_needs = (refl, refl, refl);
  corrected_comes = corrected_comes;
  present_comes = present_comes;
  swapped_comes = swapped_comes;
}
