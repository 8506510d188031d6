-- Listings worked through: their verdicts by computing, the rest by the laws.
use Rattle.std.proofs.Common.{◌≡◌, ℕ, ◌≤◌, true, false, [], refl, arith}
use Rattle.machine.specs.declared.order.Gate.TheVariants.{Cnot}
use Rattle.syntax.specs.Trees.{Program}
use Rattle.calculus.specs.Syntax.{Ty, bit, var, bit_of, one, give, name, build, mut, using_in, if_else, meas, gate, no_terms, ◌∷ˢ◌}
use Rattle.questions.specs.Questions.{Question, number, is_above, is_unspent, is_inside, branches_agree, all_spent, typed, refused}
use Rattle.questions.specs.Walk.{verdict}
use Rattle.questions.specs.Resolves.{Bound, NamedWell, alike_one, res_constant, res_name, res_meas, res_gate, res_mut, res_using, res_if, res_none, res_more, res_body, res_bound, operations_none}
use Rattle.questions.specs.Listings.{q_at, m_at, outside, twice, unspent, one_branch, HasType, Untyped, Verdicts, Worked}
use Rattle.questions.proofs.Whole.{listing_sound, refused_untyped}
use Rattle.questions.proofs.Naming.{refused_unnamed}

pub verdicts : Verdicts
verdicts =
    record {
      measured_typed = refl;
      twice_bound_typed = refl;
      inside_typed = refl;
      outside_refused = refl;
      twice_refused = refl;
      unspent_refused = refl;
      one_branch_refused = refl;
      self_call_refused = refl;
      eight_typed = (_, refl);
      nine_refused = refl;
      named_twice_refused = refl;
      not_yet_bound_typed = refl;
      set_fixed_refused = refl;
      both_unspent_refused = refl;
      inner_unspent_refused = refl;
      unspent_parameter_refused = refl;
    }

accepted : (p : Program) (T : Ty) → verdict p ≡ typed T [] → HasType p T
accepted p T h = let k = listing_sound p T h in (k.0, λ ops t r. (k.2 ops t r).0)

untyped : (p : Program) (q : Question) (at : ℕ) → verdict p ≡ refused q at → 9 ≤ number q → NamedWell p → Untyped p
untyped p q at h big n = (n, λ ops t r T d. refused_untyped p ops t r q at h big T d)

abbrev q_bound : Bound
q_bound = record { bytes = (q_at 0).bytes; number = 0 }

abbrev m_bound : Bound
m_bound = record { bytes = (m_at 0).bytes; number = 1 }

outside_named : NamedWell outside
outside_named = (
  [],
  using_in 4 (one 0) (mut 15 (one 1) (build 23 meas (name 28 (var 0) ∷ˢ no_terms)) (name 34 (var 1))),
  record {
    operations = operations_none;
    main = res_using alike_one (res_bound refl refl (res_body (res_mut alike_one (res_meas (res_name q_bound refl)) (res_bound refl refl (res_body (res_name m_bound refl))))));
  },
)

twice_named : NamedWell twice
twice_named = (
  [],
  using_in 4 (one 0) (build 15 (gate Cnot) (name 20 (var 0) ∷ˢ (name 23 (var 0) ∷ˢ no_terms))),
  record { operations = operations_none; main = res_using alike_one (res_bound refl refl (res_body (res_gate (res_more (res_name q_bound refl) (res_more (res_name q_bound refl) res_none))))) },
)

unspent_named : NamedWell unspent
unspent_named = ([], using_in 4 (one 0) (give 15 (bit_of false)), record { operations = operations_none; main = res_using alike_one (res_bound refl refl (res_body res_constant)) })

one_branch_named : NamedWell one_branch
one_branch_named = (
  [],
  using_in 4 (one 0) (if_else 15 (give 18 (bit_of true)) (build 27 meas (name 32 (var 0) ∷ˢ no_terms)) (give 40 (bit_of false))),
  record { operations = operations_none; main = res_using alike_one (res_bound refl refl (res_body (res_if res_constant (res_meas (res_name q_bound refl)) res_constant))) },
)

pub worked : Worked
worked =
    record {
      measured_has = accepted _ bit refl;
      twice_bound_has = accepted _ bit refl;
      inside_has = accepted _ bit refl;
      outside_untyped = untyped _ is_inside 28 refl (omega arith) outside_named;
      twice_untyped = untyped _ is_unspent 23 refl (omega arith) twice_named;
      unspent_untyped = untyped _ all_spent 10 refl (omega arith) unspent_named;
      one_branch_untyped = untyped _ branches_agree 15 refl (omega arith) one_branch_named;
      self_call_unnamed = λ n. refused_unnamed _ is_above 20 refl (omega arith) (omega arith) n;
    }
