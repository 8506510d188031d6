-- Listings worked through, as syntax trees, with their verdicts.
use Rattle.std.specs.Prelude.{◌≡◌, ℕ, zero, suc, List, [], ◌∷◌, codes}
use Rattle.machine.specs.declared.order.Gate.TheVariants.{H, Cnot}
use Rattle.syntax.specs.Trees.{Identifier, one, several, unit, zero_bit, one_bit, by_let, by_mut, by_set, basic, bit_type, qbit_type}
use Rattle.syntax.specs.Trees.{Tree, constant, named, call, meas, apply, tuple, bind, prepare, choose, Trees, no_trees, ◌∷ᵗ◌ as ◌∷ᵉ◌, Program}
use Rattle.calculus.specs.Syntax.{Ty, bit, Op, Term}
use Rattle.questions.specs.Questions.{few_leaves, is_new, is_above, is_unspent, is_inside, is_settable, branches_agree, all_spent, refused, typed}
use Rattle.questions.specs.Walk.{verdict}
use Rattle.questions.specs.Resolves.{Resolution, NamedWell}
use Rattle.questions.specs.Laws.{Typing}

abbrev pub q_at : ℕ → Identifier
q_at p = record { bytes = codes "q"; place = p }

abbrev pub m_at : ℕ → Identifier
m_at p = record { bytes = codes "m"; place = p }

abbrev pub r_at : ℕ → Identifier
r_at p = record { bytes = codes "r"; place = p }

abbrev pub runs : Tree → Program
runs t = record { operations = []; run_place = 0; main = t }

-- run using q in meas(H(q))
abbrev pub measured : Program
measured = runs (prepare 4 (one (q_at 10)) (meas 15 (apply 20 H (named (q_at 22) ∷ᵉ no_trees))))

-- run let r = using q in meas(q) in using q in meas(q)
abbrev pub twice_bound : Program
twice_bound = runs (bind 4 by_let (one (r_at 8)) (prepare 12 (one (q_at 18)) (meas 23 (named (q_at 28)))) (prepare 34 (one (q_at 40)) (meas 45 (named (q_at 50)))))

-- run mut m = using q in meas(q) in m
abbrev pub inside : Program
inside = runs (bind 4 by_mut (one (m_at 8)) (prepare 12 (one (q_at 18)) (meas 23 (named (q_at 28)))) (named (m_at 34)))

-- run using q in mut m = meas(q) in m
abbrev pub outside : Program
outside = runs (prepare 4 (one (q_at 10)) (bind 15 by_mut (one (m_at 19)) (meas 23 (named (q_at 28))) (named (m_at 34))))

-- run using q in CNOT(q, q)
abbrev pub twice : Program
twice = runs (prepare 4 (one (q_at 10)) (apply 15 Cnot (named (q_at 20) ∷ᵉ named (q_at 23) ∷ᵉ no_trees)))

-- run using q in zero
abbrev pub unspent : Program
unspent = runs (prepare 4 (one (q_at 10)) (constant 15 zero_bit))

-- run using q in if one then meas(q) else zero
abbrev pub one_branch : Program
one_branch = runs (prepare 4 (one (q_at 10)) (choose 15 (constant 18 one_bit) (meas 27 (named (q_at 32))) (constant 40 zero_bit)))

-- op f(a: bit): bit { f(a) } run f(one)
abbrev pub self_call : Program
self_call =
    record {
      operations =
          record {
            place = 0;
            name = record { bytes = codes "f"; place = 3 };
            parameters = record { name = record { bytes = codes "a"; place = 5 }; written = basic 8 bit_type } ∷ [];
            result = basic 14 bit_type;
            body = call (record { bytes = codes "f"; place = 20 }) (named (record { bytes = codes "a"; place = 22 }) ∷ᵉ no_trees);
          }
          ∷ [];
      run_place = 27;
      main = call (record { bytes = codes "f"; place = 31 }) (constant 33 one_bit ∷ᵉ no_trees);
    }

abbrev pub written_at : List ℕ → ℕ → Identifier
written_at b p = record { bytes = b; place = p }

-- run (zero, zero, ..), with so many zeros
abbrev pub zeros : ℕ → Trees
zeros zero = no_trees
zeros (suc n) = constant 5 zero_bit ∷ᵉ zeros n

-- run let (a, a) = nope in a
abbrev pub named_twice : Program
named_twice = runs (bind 4 by_let (several (written_at (codes "a") 9 ∷ written_at (codes "a") 12 ∷ [])) (named (written_at (codes "nope") 17)) (named (written_at (codes "a") 25)))

-- run let x = let x = zero in x in x
abbrev pub not_yet_bound : Program
not_yet_bound =
    runs (bind 4 by_let (one (written_at (codes "x") 8)) (bind 12 by_let (one (written_at (codes "x") 16)) (constant 20 zero_bit) (named (written_at (codes "x") 28))) (named (written_at (codes "x") 33)))

-- run let a = zero in set a = one in a
abbrev pub set_fixed : Program
set_fixed =
    runs (bind 4 by_let (one (written_at (codes "a") 8)) (constant 12 zero_bit) (bind 20 by_set (one (written_at (codes "a") 24)) (constant 28 one_bit) (named (written_at (codes "a") 35))))

-- run using (a, b) in zero
abbrev pub both_unspent : Program
both_unspent = runs (prepare 4 (several (written_at (codes "a") 11 ∷ written_at (codes "b") 14 ∷ [])) (constant 20 zero_bit))

-- run using q in using r in zero
abbrev pub inner_unspent : Program
inner_unspent = runs (prepare 4 (one (q_at 10)) (prepare 15 (one (r_at 21)) (constant 26 zero_bit)))

-- op f(a: qbit): bit { () } run zero
abbrev pub unspent_parameter : Program
unspent_parameter =
    record {
      operations =
          record {
            place = 0;
            name = written_at (codes "f") 3;
            parameters = record { name = written_at (codes "a") 5; written = basic 8 qbit_type } ∷ [];
            result = basic 15 bit_type;
            body = constant 21 unit;
          }
          ∷ [];
      run_place = 26;
      main = constant 30 zero_bit;
    }

pub record Verdicts : Type 0 where
  pub measured_typed : verdict measured ≡ typed bit []
  pub twice_bound_typed : verdict twice_bound ≡ typed bit []
  pub inside_typed : verdict inside ≡ typed bit []
  pub outside_refused : verdict outside ≡ refused is_inside 28
  pub twice_refused : verdict twice ≡ refused is_unspent 23
  pub unspent_refused : verdict unspent ≡ refused all_spent 10
  pub one_branch_refused : verdict one_branch ≡ refused branches_agree 15
  pub self_call_refused : verdict self_call ≡ refused is_above 20
  pub eight_typed : (T : Ty) × (verdict (runs (tuple 4 (zeros 8))) ≡ typed T [])
  pub nine_refused : verdict (runs (tuple 4 (zeros 9))) ≡ refused few_leaves 4
  pub named_twice_refused : verdict named_twice ≡ refused is_new 12
  pub not_yet_bound_typed : verdict not_yet_bound ≡ typed bit []
  pub set_fixed_refused : verdict set_fixed ≡ refused is_settable 24
  pub both_unspent_refused : verdict both_unspent ≡ refused all_spent 11
  pub inner_unspent_refused : verdict inner_unspent ≡ refused all_spent 21
  pub unspent_parameter_refused : verdict unspent_parameter ≡ refused all_spent 5

-- the listing has the type T, whatever numbers its names get
abbrev pub HasType : Program → Ty → Type 0
HasType p T = NamedWell p × ((ops : List Op) (t : Term) → Resolution p ops t → Typing ops t T)

-- the listing keeps the rules of naming and has no type
abbrev pub Untyped : Program → Type 0
Untyped p = NamedWell p × ((ops : List Op) (t : Term) → Resolution p ops t → (T : Ty) → Typing ops t T → ⊥)

pub record Worked : Type 0 where
  pub measured_has : HasType measured bit
  pub twice_bound_has : HasType twice_bound bit
  pub inside_has : HasType inside bit
  pub outside_untyped : Untyped outside
  pub twice_untyped : Untyped twice
  pub unspent_untyped : Untyped unspent
  pub one_branch_untyped : Untyped one_branch
  pub self_call_unnamed : NamedWell self_call → ⊥
