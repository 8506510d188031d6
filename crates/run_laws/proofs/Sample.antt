-- The sample meets what is asked of a program.
use Rattle.std.proofs.Common.{◌≡◌, ℕ, zero, suc, ◌<◌, ◌≤◌, Bool, true, false, eqb, [], ◌∷◌, get_or, sym, refl, ap, subst, subst₂, arith}
use Rattle.grammar.specs.declared.tree.Range.{Range}
use Rattle.programs.specs.declared.program.Act.{Act}
use Rattle.programs.specs.declared.program.Node.TheVariants.{Place as NoTerm, Built}
use Rattle.calculus.specs.Syntax.{bit, qbit, no_types, ◌∷ᵗ◌, var, Op}
use Rattle.calculus.specs.Rules.{nothing, nowhere, once, fixed, settable, may_none, may_more, Has, has_give, has_name, has_build, has_bind, has_mut, has_set, has_using, parts_none, parts_more, Under, under_none, under_more, Well}
use Rattle.calculus.proofs.Names.{never}
use Rattle.run_laws.specs.Programs.{IsNoTerm, Code, Own, Means, shape_constant, shape_use, shape_built, shape_bind, shape_using, listed_none, listed_more, Called, Resolved, Ordered, PairedTuples}
use Rattle.run_laws.specs.Sample.{from_to, sample_node, sample_op, sample_run, Sample}

past : (i : ℕ) → 16 ≤ i → IsNoTerm (sample_node i)
past zero l = absurd (omega (arith, l))
past (suc zero) l = absurd (omega (arith, l))
past (suc (suc zero)) l = absurd (omega (arith, l))
past (suc (suc (suc zero))) l = absurd (omega (arith, l))
past (suc (suc (suc (suc zero)))) l = absurd (omega (arith, l))
past (suc (suc (suc (suc (suc zero))))) l = absurd (omega (arith, l))
past (suc (suc (suc (suc (suc (suc zero)))))) l = absurd (omega (arith, l))
past (suc (suc (suc (suc (suc (suc (suc zero))))))) l = absurd (omega (arith, l))
past (suc (suc (suc (suc (suc (suc (suc (suc zero)))))))) l = absurd (omega (arith, l))
past (suc (suc (suc (suc (suc (suc (suc (suc (suc zero))))))))) l = absurd (omega (arith, l))
past (suc (suc (suc (suc (suc (suc (suc (suc (suc (suc zero)))))))))) l = absurd (omega (arith, l))
past (suc (suc (suc (suc (suc (suc (suc (suc (suc (suc (suc zero))))))))))) l = absurd (omega (arith, l))
past (suc (suc (suc (suc (suc (suc (suc (suc (suc (suc (suc (suc zero)))))))))))) l = absurd (omega (arith, l))
past (suc (suc (suc (suc (suc (suc (suc (suc (suc (suc (suc (suc (suc zero))))))))))))) l = absurd (omega (arith, l))
past (suc (suc (suc (suc (suc (suc (suc (suc (suc (suc (suc (suc (suc (suc zero)))))))))))))) l = absurd (omega (arith, l))
past (suc (suc (suc (suc (suc (suc (suc (suc (suc (suc (suc (suc (suc (suc (suc zero))))))))))))))) l = absurd (omega (arith, l))
past (suc (suc (suc (suc (suc (suc (suc (suc (suc (suc (suc (suc (suc (suc (suc (suc i)))))))))))))))) l = (false, refl)

abbrev P : Code
P = record {
  node = sample_node;
  part = λ i. get_or (0 ∷ 3 ∷ []) i 0;
  place = λ i. i;
  root = λ f. get_or (record { body = 1; names = from_to 2 3 } ∷ []) f (record { body = 0; names = from_to 0 0 });
  mut_name = eqb 10;
  size = 16;
  parts = 2;
  past = past;
}

own_one : (m : Bool) (x : ℕ) → P.node x ≡ NoTerm m → P.mut_name x ≡ m → Own P m (from_to x (suc x))
own_one m x n e y a b = let q : x ≡ y = omega (arith, a, b) in ((m, subst (λ (z : ℕ). P.node z ≡ NoTerm m) q n), subst (λ (z : ℕ). P.mut_name z ≡ m) q e)

body_means : Means P 1 sample_op.body
body_means = shape_built (listed_more {a = 0} {z = 1} (omega arith) (omega arith) shape_use (listed_none refl))

run_means : Means P 15 sample_run
run_means = shape_using (omega arith) (omega arith) (omega arith) (own_one false 14 refl refl)
    (shape_bind (omega arith) (omega arith) (omega arith) (omega arith) (own_one false 12 refl refl) (shape_built (listed_more {a = 1} {z = 2} (omega arith) (omega arith) shape_use (listed_none refl)))
    (shape_bind (omega arith) (omega arith) (omega arith) (omega arith) (own_one true 10 refl refl) shape_constant
    (shape_bind (omega arith) (omega arith) (omega arith) (omega arith) refl shape_use shape_use)))

call_found : Called (sample_op ∷ []) P 4 0 (from_to 1 2)
call_found = record {
  op = sample_op;
  found = refl;
  params = refl;
  body = body_means;
  own = own_one false 2 refl refl;
  under = omega arith;
  ordered = omega arith;
  before = omega arith;
  fits = refl;
}

resolved : Resolved (sample_op ∷ []) P
resolved zero f r e = never cc
resolved (suc zero) f r e = never cc
resolved (suc (suc zero)) f r e = never cc
resolved (suc (suc (suc zero))) f r e = never cc
resolved (suc (suc (suc (suc zero)))) f r e =
    let p : 0 ≡ f = cc in
    let q : from_to 1 2 ≡ r = cc in
    subst₂ (λ (n : ℕ) (s : Range). Called (sample_op ∷ []) P 4 n s) p q call_found
resolved (suc (suc (suc (suc (suc zero))))) f r e = never cc
resolved (suc (suc (suc (suc (suc (suc zero)))))) f r e = never cc
resolved (suc (suc (suc (suc (suc (suc (suc zero))))))) f r e = never cc
resolved (suc (suc (suc (suc (suc (suc (suc (suc zero)))))))) f r e = never cc
resolved (suc (suc (suc (suc (suc (suc (suc (suc (suc zero))))))))) f r e = never cc
resolved (suc (suc (suc (suc (suc (suc (suc (suc (suc (suc zero)))))))))) f r e = never cc
resolved (suc (suc (suc (suc (suc (suc (suc (suc (suc (suc (suc zero))))))))))) f r e = never cc
resolved (suc (suc (suc (suc (suc (suc (suc (suc (suc (suc (suc (suc zero)))))))))))) f r e = never cc
resolved (suc (suc (suc (suc (suc (suc (suc (suc (suc (suc (suc (suc (suc zero))))))))))))) f r e = never cc
resolved (suc (suc (suc (suc (suc (suc (suc (suc (suc (suc (suc (suc (suc (suc zero)))))))))))))) f r e = never cc
resolved (suc (suc (suc (suc (suc (suc (suc (suc (suc (suc (suc (suc (suc (suc (suc zero))))))))))))))) f r e = never cc
resolved (suc (suc (suc (suc (suc (suc (suc (suc (suc (suc (suc (suc (suc (suc (suc (suc i)))))))))))))))) f r e = never cc

-- the nodes that are built of parts
data Spot (i a z : ℕ) : Type 0 where
  spot_1 : i ≡ 1 → a ≡ 0 → z ≡ 1 → Spot i a z
  spot_4 : i ≡ 4 → a ≡ 1 → z ≡ 2 → Spot i a z

spot : (i : ℕ) (r : Range) (f : Act) → P.node i ≡ Built f r → Spot i r.first r.end
spot zero r f e = never cc
spot (suc zero) r f e = let q : from_to 0 1 ≡ r = cc in spot_1 refl (ap (λ (s : Range). s.first) (sym q)) (ap (λ (s : Range). s.end) (sym q))
spot (suc (suc zero)) r f e = never cc
spot (suc (suc (suc zero))) r f e = never cc
spot (suc (suc (suc (suc zero)))) r f e = let q : from_to 1 2 ≡ r = cc in spot_4 refl (ap (λ (s : Range). s.first) (sym q)) (ap (λ (s : Range). s.end) (sym q))
spot (suc (suc (suc (suc (suc zero))))) r f e = never cc
spot (suc (suc (suc (suc (suc (suc zero)))))) r f e = never cc
spot (suc (suc (suc (suc (suc (suc (suc zero))))))) r f e = never cc
spot (suc (suc (suc (suc (suc (suc (suc (suc zero)))))))) r f e = never cc
spot (suc (suc (suc (suc (suc (suc (suc (suc (suc zero))))))))) r f e = never cc
spot (suc (suc (suc (suc (suc (suc (suc (suc (suc (suc zero)))))))))) r f e = never cc
spot (suc (suc (suc (suc (suc (suc (suc (suc (suc (suc (suc zero))))))))))) r f e = never cc
spot (suc (suc (suc (suc (suc (suc (suc (suc (suc (suc (suc (suc zero)))))))))))) r f e = never cc
spot (suc (suc (suc (suc (suc (suc (suc (suc (suc (suc (suc (suc (suc zero))))))))))))) r f e = never cc
spot (suc (suc (suc (suc (suc (suc (suc (suc (suc (suc (suc (suc (suc (suc zero)))))))))))))) r f e = never cc
spot (suc (suc (suc (suc (suc (suc (suc (suc (suc (suc (suc (suc (suc (suc (suc zero))))))))))))))) r f e = never cc
spot (suc (suc (suc (suc (suc (suc (suc (suc (suc (suc (suc (suc (suc (suc (suc (suc i)))))))))))))))) r f e = never cc

ordered : Ordered P
ordered = record {
  inside = λ k r f e. inside (spot k r f e);
  after = λ i k r q f g lt e e'. after lt (spot i r f e) (spot k q g e');
  few = omega arith;
}
  where
    inside : {k a z : ℕ} → Spot k a z → z ≤ 2
    inside (spot_1 p q r) = omega (arith, r)
    inside (spot_4 p q r) = omega (arith, r)

    after : {i a z k b y : ℕ} → i < k → Spot i a z → Spot k b y → z ≤ b
    after lt (spot_1 p q r) (spot_1 s t u) = omega (arith, lt, p, q, r, s, t, u)
    after lt (spot_1 p q r) (spot_4 s t u) = omega (arith, lt, p, q, r, s, t, u)
    after lt (spot_4 p q r) (spot_1 s t u) = omega (arith, lt, p, q, r, s, t, u)
    after lt (spot_4 p q r) (spot_4 s t u) = omega (arith, lt, p, q, r, s, t, u)

pairs : PairedTuples P
pairs zero r e = never cc
pairs (suc zero) r e = never cc
pairs (suc (suc zero)) r e = never cc
pairs (suc (suc (suc zero))) r e = never cc
pairs (suc (suc (suc (suc zero)))) r e = never cc
pairs (suc (suc (suc (suc (suc zero))))) r e = never cc
pairs (suc (suc (suc (suc (suc (suc zero)))))) r e = never cc
pairs (suc (suc (suc (suc (suc (suc (suc zero))))))) r e = never cc
pairs (suc (suc (suc (suc (suc (suc (suc (suc zero)))))))) r e = never cc
pairs (suc (suc (suc (suc (suc (suc (suc (suc (suc zero))))))))) r e = never cc
pairs (suc (suc (suc (suc (suc (suc (suc (suc (suc (suc zero)))))))))) r e = never cc
pairs (suc (suc (suc (suc (suc (suc (suc (suc (suc (suc (suc zero))))))))))) r e = never cc
pairs (suc (suc (suc (suc (suc (suc (suc (suc (suc (suc (suc (suc zero)))))))))))) r e = never cc
pairs (suc (suc (suc (suc (suc (suc (suc (suc (suc (suc (suc (suc (suc zero))))))))))))) r e = never cc
pairs (suc (suc (suc (suc (suc (suc (suc (suc (suc (suc (suc (suc (suc (suc zero)))))))))))))) r e = never cc
pairs (suc (suc (suc (suc (suc (suc (suc (suc (suc (suc (suc (suc (suc (suc (suc zero))))))))))))))) r e = never cc
pairs (suc (suc (suc (suc (suc (suc (suc (suc (suc (suc (suc (suc (suc (suc (suc (suc i)))))))))))))))) r e = never cc

op_typed : Under (sample_op ∷ []) 0 fixed nowhere nothing sample_op.params sample_op.types sample_op.body sample_op.result
op_typed = under_more (once (var 2)) (refl, refl) (λ n. omega arith)
    (under_none (has_build (qbit ∷ᵗ no_types) (parts_more (once (var 2)) nothing (λ n. omega arith) (has_name (fixed qbit) refl refl (λ n. refl)) (parts_none (λ n. refl))) (refl, refl)))

well : Well (sample_op ∷ [])
well zero op e = found cc
  where
    found : sample_op ≡ op → Under (sample_op ∷ []) 0 fixed nowhere nothing op.params op.types op.body op.result
    found q = subst (λ (o : Op). Under (sample_op ∷ []) 0 fixed nowhere nothing o.params o.types o.body o.result) q op_typed
well (suc f) op e = never cc

run_typed : Has (sample_op ∷ []) 1 nowhere nothing sample_run bit
run_typed = has_using (under_more (once (var 14)) (refl, refl) (λ n. omega arith) (under_none
    (has_bind (once (var 14)) nothing bit (bit ∷ᵗ no_types) (λ n. omega arith)
    (has_build (qbit ∷ᵗ no_types) (parts_more (once (var 14)) nothing (λ n. omega arith) (has_name (fixed qbit) refl refl (λ n. refl)) (parts_none (λ n. refl))) (sample_op, omega arith, refl, refl, refl))
    refl (under_more nothing (refl, refl) (λ n. refl) (under_none
    (has_mut nothing nothing bit (bit ∷ᵗ no_types) (λ n. refl) (has_give refl (λ n. refl)) (λ x. refl) refl refl (under_more nothing (refl, refl) (λ n. refl) (under_none
    (has_set nothing nothing bit (bit ∷ᵗ no_types) (λ n. refl) (has_name (fixed bit) refl refl (λ n. refl)) (λ x. refl) refl (may_more refl may_none)
    (has_name (settable bit) refl refl (λ n. refl)))))))))))

pub sample : Sample
sample = (past, record { well = well; typed = run_typed; resolved = resolved; ordered = ordered; pairs = pairs; means = run_means })
