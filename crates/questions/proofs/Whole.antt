-- The walk accepts each whole listing that has a typing.
use Rattle.std.proofs.Common.{◌≡◌, ℕ, zero, suc, ◌+◌, Bool, true, false, cond, List, [], ◌∷◌, length, sym, refl, ap, ◌∙◌, subst, arith, le-leb}
use mathlib.Core.Option.{Option, none, some}
use Rattle.syntax.specs.Trees.{Written, basic, tuple_type, Writtens, no_types as no_writtens, ◌∷ʷ◌, Parameter, Operation, Program}
use Rattle.calculus.specs.Syntax.{Ty, Tys, no_types, ◌∷ᵗ◌, Op, Term}
use Rattle.calculus.specs.Rules.{fixed, nothing, nowhere, nth, Has, Under}
use Rattle.calculus.proofs.Names.{never}
use Rattle.questions.specs.Types.{as_type, as_types, few, too_wide, too_wide_all}
use Rattle.questions.specs.Questions.{number, few_leaves, is_new, types_fit, all_spent, Known, Verdict, typed, unless}
use Rattle.questions.specs.Walk.{Signature, op_names, taken, bring, without, ask, first_taken, names_of, parameter_names, parameter_types, signature, signatures, parameters, operation, operations, verdict}
use Rattle.questions.specs.Resolves.{Resolves, ResolvesOperation, ResolvesOperations, operations_none, operations_more, Resolution}
use Rattle.questions.specs.Limits.{Within, WithinUnder, WrittenFew, WrittenFewAll, ParametersFew, OperationsFew}
use Rattle.questions.specs.Laws.{Typing, FewLeaves, Sound, Complete, Exact, RefusedUntyped}
use Rattle.questions.proofs.Chains.{untaken, Outcome, accepts, overflows, and_then, pass_next, pass_asks, weaken, same_limit, same_walk, unless_go, not_false, first_go, same_of}
use Rattle.questions.proofs.Programs.{as_many, listing_typed, listing_few}
use Rattle.questions.proofs.Exists.{listing_named}
use Rattle.questions.proofs.Complete.{Signed, complete, complete_under, new_names}

pub signed_of : {names : List (List ℕ)} {above : ℕ} {os : List Operation} {ops : List Op} → ResolvesOperations names above os ops → Signed (signatures os) ops
signed_of operations_none f op h = never cc
signed_of (operations_more {o = o} {op = op₀} ro r) zero op h =
    let e : op₀ ≡ op = cc in
    (signature o, refl, ap (λ (c : Op). c.types) (sym e) ∙ ro.types, ap (λ (c : Op). c.result) (sym e) ∙ ro.result)
signed_of (operations_more ro r) (suc f) op h = signed_of r f op h

mutual
  few_wide : (w : Written) → WrittenFew w → too_wide w ≡ none
  few_wide (basic p b) h = refl
  few_wide (tuple_type p ws) h = let k = le-leb _ 8 h.1 in first_go (few_wide_all ws h.0) (is_few (few (as_types ws)) k)
    where
      is_few : (b : Bool) → b ≡ true → cond b none (some p) ≡ none
      is_few b q = rw q

  few_wide_all : (ws : Writtens) → WrittenFewAll ws → too_wide_all ws ≡ none
  few_wide_all no_writtens h = refl
  few_wide_all (w ∷ʷ ws) h = first_go (few_wide w h.0) (few_wide_all ws h.1)

-- the question of a written type
wide_outcome : (v : Written) {Y : Type 0} {o : Verdict Y} {y : Y} {G : List Known → Type 0} {W : Type 0} → (W → WrittenFew v) → Outcome o y G W → Outcome (unless few_leaves (too_wide v) o) y G W
wide_outcome v {Y} {o} {y} {G} {W} f h = go (too_wide v) refl
  where
    go : (e : Option ℕ) → too_wide v ≡ e → Outcome (unless few_leaves e o) y G W
    go none q = h
    go (some at) q = overflows at refl (λ w. let k = few_wide v (f w) in never cc)

parameters_outcome : (names : List (List ℕ)) (s : List Known) (ps : List Parameter) → first_taken names (names_of s) (parameter_names ps) ≡ none →
    Outcome (parameters names s ps) (parameter_types ps) (λ (l : List Known). l ≡ bring false (parameter_names ps) (parameter_types ps) s) (ParametersFew ps)
parameters_outcome names s [] h = accepts s refl refl
parameters_outcome names s (p ∷ ps) h =
    let k : Known = record { name = p.name; type = as_type p.written; settable = false; spent = false } in
    let u = untaken (taken p.name.bytes names (names_of s)) p.name.place _ h in
    pass_asks is_new p.name.place (not_false _ u.0) (wide_outcome p.written (λ w. w.0) (and_then _ (parameters_outcome names (k ∷ s) ps u.1) (λ w. w.1) (λ s' G. accepts s' refl G)))

abbrev NothingLeft : List Known → Type 0
NothingLeft s = s ≡ []

abbrev results : List Op → Tys
results [] = no_types
results (op ∷ ops) = op.result ∷ᵗ results ops

module _ (sigs : List Signature) (ops : List Op) (signed : Signed sigs ops) where
  abbrev Body : ℕ → Op → Type 0
  Body lim op = Under ops lim fixed nowhere nothing op.params op.types op.body op.result

  operation_outcome : (above : ℕ) (o : Operation) (op : Op) → ResolvesOperation (op_names sigs) above o op → (d : Body above op) →
      Outcome (operation sigs above o) op.result NothingLeft ((ParametersFew o.parameters × WrittenFew o.result) × WithinUnder d)
  operation_outcome above o op r d =
      pass_asks is_new o.name.place (not_false _ r.new) (and_then _ (parameters_outcome (op_names sigs) [] o.parameters (new_names r.body)) (λ w. w.0.0) (λ s G.
      wide_outcome o.result (λ w. w.0.1) (and_then _ (same_walk (walked s G)
      (complete_under sigs ops above signed false [] [] [] [] r.body refl tt nothing op.types op.result nowhere refl d [] [] refl refl (λ n. omega arith))) (λ w. w.1) (λ s₂ H.
      pass_next _ (unless_go all_spent H.1 refl) (pass_asks types_fit o.place (same_of r.result) (accepts (without (length (parameter_names o.parameters)) s₂) refl H.2))))))
    where
      walked : (s : List Known) → s ≡ bring false (parameter_names o.parameters) (parameter_types o.parameters) [] →
          ask sigs above [] (bring false (parameter_names o.parameters) op.types []) o.body ≡ ask sigs above [] s o.body
      walked s G = ap (λ (l : List Known). ask sigs above [] l o.body) (ap (λ (Ts : Tys). bring false (parameter_names o.parameters) Ts []) r.types ∙ sym G)

  operation_at : (above k : ℕ) → above ≡ k → (o : Operation) (op : Op) → ResolvesOperation (op_names sigs) above o op → (d : Body k op) →
      Outcome (operation sigs above o) op.result NothingLeft ((ParametersFew o.parameters × WrittenFew o.result) × WithinUnder d)
  operation_at above k e o op r =
      subst (λ (j : ℕ). (d : Body j op) → Outcome (operation sigs above o) op.result NothingLeft ((ParametersFew o.parameters × WrittenFew o.result) × WithinUnder d)) e (operation_outcome above o op r)

  operations_outcome : {above : ℕ} {os : List Operation} {rest : List Op} → ResolvesOperations (op_names sigs) above os rest → (lim : ℕ → ℕ) → ((f : ℕ) → lim f ≡ f + above) →
      (d : (f : ℕ) (op : Op) → nth rest f ≡ some op → Body (lim f) op) →
      Outcome (operations sigs above os) (results rest) NothingLeft (OperationsFew os × ((f : ℕ) (op : Op) (h : nth rest f ≡ some op) → WithinUnder (d f op h)))
  operations_outcome operations_none lim l d = accepts [] refl refl
  operations_outcome (operations_more {above = above} {o = o} {op = op} ro r) lim l d =
      let here : above ≡ lim 0 = omega (arith, l 0) in
      and_then _ (operation_at above (lim 0) here o op ro (d 0 op refl)) (λ w. (w.0.0, w.1 0 op refl)) (λ s G.
      and_then _ (operations_outcome r (λ f. lim (suc f)) (λ f. omega (arith, l (suc f))) (λ f c h. d (suc f) c h)) (λ w. (w.0.1, λ f c h. w.1 (suc f) c h)) (λ s' H. accepts s' refl H))

-- a listing with a typing is accepted, or has too many leaves somewhere
pub listing_outcome : (p : Program) (T : Ty) (ops : List Op) (t : Term) → Resolution p ops t → (d : Typing ops t T) → Outcome (verdict p) T NothingLeft (OperationsFew p.operations × FewLeaves d)
listing_outcome p T ops t r d =
    let sigs = signatures p.operations in
    let signed = signed_of r.operations in
    and_then _ (operations_outcome sigs ops signed r.operations (λ f. f) (λ f. omega arith) d.well) (λ w. (w.0, λ f op h. w.1.bodies f op h)) (λ s G.
    same_limit (λ w. w.1.main) (main (length p.operations) (length ops) (as_many r.operations) r.main d.has) (λ s' H. H))
  where
    main : (k l : ℕ) → k ≡ l → Resolves (op_names (signatures p.operations)) k [] p.main t → (h : Has ops l nowhere nothing t T) →
        Outcome (ask (signatures p.operations) k [] [] p.main) T NothingLeft (Within h)
    main k l e rm =
        subst (λ (j : ℕ). (h : Has ops j nowhere nothing t T) → Outcome (ask (signatures p.operations) k [] [] p.main) T NothingLeft (Within h)) e
        (λ h. weaken (complete (signatures p.operations) ops k (signed_of r.operations) [] [] [] [] rm refl tt nothing T nowhere refl h [] [] refl refl (λ n. omega arith)) (λ s H. H.1))

pub listing_complete : Complete
listing_complete p T ops t r few d w = go (listing_outcome p T ops t r d)
  where
    go : Outcome (verdict p) T NothingLeft (OperationsFew p.operations × FewLeaves d) → verdict p ≡ typed T []
    go (accepts s e g) = e ∙ ap (typed T) g
    go (overflows at e n) = absurd (n (few, w))

pub listing_sound : Sound
listing_sound p T h = (listing_named p T [] h, listing_few p T h, λ ops t r. listing_typed p T h ops t r)

pub listing_exact : Exact
listing_exact p l ops t r T = ((λ h. (listing_typed p T h ops t r).0), (λ d. listing_complete p T ops t r l.written d (l.tuples ops t T r d)))

pub refused_untyped : RefusedUntyped
refused_untyped p ops t r q at h big T d = go (listing_outcome p T ops t r d)
  where
    go : Outcome (verdict p) T NothingLeft (OperationsFew p.operations × FewLeaves d) → ⊥
    go (accepts s e g) = never cc
    go (overflows at' e n) = let k : few_leaves ≡ q = cc in let j : number q ≡ 5 = ap number (sym k) in omega (arith, big, j)
