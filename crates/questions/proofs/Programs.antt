-- What the walk accepts of a whole listing has a typing.
use Rattle.std.proofs.Common.{◌≡◌, ℕ, zero, suc, ◌+◌, Bool, true, false, cond, not, List, [], ◌∷◌, length, take, sym, refl, ap, ◌∙◌, subst, arith, leb-true}
use mathlib.Core.Path.{fun_ext}
use mathlib.Core.Option.{none, some}
use Rattle.syntax.specs.Trees.{Written, basic, tuple_type, Writtens, no_types as no_writtens, ◌∷ʷ◌, Parameter, Operation, Program}
use Rattle.calculus.specs.Syntax.{Ty, Tys, Name, Op, Term}
use Rattle.calculus.specs.Rules.{Uses, nothing, fixed, nowhere, nth, Has, Under}
use Rattle.calculus.proofs.Names.{never}
use Rattle.questions.specs.Names.{among}
use Rattle.questions.specs.Types.{same, as_type, as_types, few, too_wide, too_wide_all}
use Rattle.questions.specs.Questions.{few_leaves, is_new, types_fit, all_spent, Known, typed}
use Rattle.questions.specs.Walk.{Signature, op_names, taken, one_each, bring, first_open, close, names_of, ask, parameter_names, parameter_types, signature, signatures, parameters, operation}
use Rattle.questions.specs.Walk.{operations, verdict}
use Rattle.questions.specs.Resolves.{ResolvesOperation, ResolvesOperations, operations_none, operations_more, Resolution}
use Rattle.questions.specs.Limits.{Within, WithinUnder, WrittenFew, WrittenFewAll, ParametersFew, OperationsFew}
use Rattle.questions.specs.Laws.{Typing, FewLeaves}
use Rattle.questions.proofs.Chains.{next_typed, asks_typed, unless_typed, typed_inj, no_first, same_eq}
use Rattle.questions.proofs.Sound.{Signs, sound, sound_under}

pub signs_of : {names : List (List ℕ)} {above : ℕ} {os : List Operation} {ops : List Op} → ResolvesOperations names above os ops → Signs (signatures os) ops
signs_of operations_none f g h = never cc
signs_of (operations_more {o = o} {op = op} ro r) zero g h =
    let e : signature o ≡ g = cc in
    (op, refl, ap (λ (c : Signature). c.types) (sym e) ∙ sym ro.types, ap (λ (c : Signature). c.result) (sym e) ∙ sym ro.result)
signs_of (operations_more ro r) (suc f) g h = signs_of r f g h

pub each_parameter : (ps : List Parameter) → one_each (parameter_names ps) (parameter_types ps) ≡ true
each_parameter [] = refl
each_parameter (p ∷ ps) = each_parameter ps

pub parameters_bring : (names : List (List ℕ)) (s : List Known) (ps : List Parameter) (Ts : Tys) (s' : List Known) → parameters names s ps ≡ typed Ts s' →
    bring false (parameter_names ps) (parameter_types ps) s ≡ s'
parameters_bring names s [] Ts s' h = (typed_inj h).1
parameters_bring names s (p ∷ ps) Ts s' h =
    let k : Known = record { name = p.name; type = as_type p.written; settable = false; spent = false } in
    let h₁ = asks_typed is_new p.name.place (not (taken p.name.bytes names (names_of s))) _ Ts s' h in
    let h₂ = unless_typed few_leaves (too_wide p.written) _ Ts s' h₁.1 in
    let h₃ = next_typed (parameters names (k ∷ s) ps) _ Ts s' h₂.1 in
    let j = typed_inj h₃.3 in
    parameters_bring names (k ∷ s) ps h₃.0 h₃.1 h₃.2 ∙ j.1

-- an operation with its parameters alone as context
abbrev pub TypedOperation : List Op → ℕ → Op → Type 0
TypedOperation ops above op = (d : Under ops above fixed nowhere nothing op.params op.types op.body op.result) × WithinUnder d

module _ (sigs : List Signature) (ops : List Op) (signs : Signs sigs ops) where
  operation_sound : (above : ℕ) (o : Operation) (op : Op) → ResolvesOperation (op_names sigs) above o op → (T : Ty) (s' : List Known) → operation sigs above o ≡ typed T s' → TypedOperation ops above op
  operation_sound above o op r T s' h =
      let h₁ = asks_typed is_new o.name.place (not (among o.name.bytes (take above (op_names sigs)))) _ T s' h in
      let h₂ = next_typed (parameters (op_names sigs) [] o.parameters) _ T s' h₁.1 in
      let h₃ = unless_typed few_leaves (too_wide o.result) _ T s' h₂.3 in
      let h₄ = next_typed (ask sigs above [] h₂.1 o.body) _ T s' h₃.1 in
      let h₅ = next_typed (close (length (parameter_names o.parameters)) h₄.0 h₄.1) _ T s' h₄.3 in
      let h₆ = unless_typed all_spent (first_open (length (parameter_names o.parameters)) h₄.1) _ h₅.0 h₅.1 h₅.2 in
      let h₇ = asks_typed types_fit o.place (same h₅.0 (as_type o.result)) _ T s' h₅.3 in
      let b = parameters_bring (op_names sigs) [] o.parameters h₂.0 h₂.1 h₂.2 in
      let body : ask sigs above [] (bring false (parameter_names o.parameters) (parameter_types o.parameters) []) o.body ≡ typed h₄.0 h₄.1 =
      ap (λ (l : List Known). ask sigs above [] l o.body) b ∙ h₄.2 in
      let w = sound_under sigs ops above signs false [] [] [] [] r.body refl tt [] [] refl refl (parameter_types o.parameters) (each_parameter o.parameters) h₄.0 h₄.1 body h₆.0 in
      let result : h₄.0 ≡ op.result = (typed_inj h₆.1).0 ∙ same_eq _ _ h₇.0 ∙ sym r.result in
      settle w.2 h₄.0 (parameter_types o.parameters) (λ n. omega (arith, w.4 n)) result (sym r.types) w.3
    where
      settle : (Δ : Uses) (U : Ty) (Ts : Tys) → ((n : Name) → Δ n ≡ 0) → U ≡ op.result → Ts ≡ op.types →
          ((d : Under ops above fixed nowhere Δ op.params Ts op.body U) × WithinUnder d) → TypedOperation ops above op
      settle Δ U Ts p q r w =
          subst (λ (V : Ty). (d : Under ops above fixed nowhere nothing op.params op.types op.body V) × WithinUnder d) q
          (subst (λ (Vs : Tys). (d : Under ops above fixed nowhere nothing op.params Vs op.body U) × WithinUnder d) r
          (subst (λ (D : Uses). (d : Under ops above fixed nowhere D op.params Ts op.body U) × WithinUnder d) (fun_ext p) w))

  pub operations_sound : {above : ℕ} {os : List Operation} {rest : List Op} → ResolvesOperations (op_names sigs) above os rest → (Ts : Tys) (s' : List Known) →
      operations sigs above os ≡ typed Ts s' → (f : ℕ) (op : Op) → nth rest f ≡ some op → TypedOperation ops (f + above) op
  operations_sound operations_none Ts s' h f op g = never cc
  operations_sound (operations_more {above = above} {o = o} {op = op₀} {os = os} ro r) Ts s' h zero op g =
      let h₁ = next_typed (operation sigs above o) _ Ts s' h in
      let e : op₀ ≡ op = cc in
      let z : above ≡ 0 + above = omega arith in
      subst (λ (k : ℕ). TypedOperation ops k op) z (subst (λ (c : Op). TypedOperation ops above c) e (operation_sound above o op₀ ro h₁.0 h₁.1 h₁.2))
  operations_sound (operations_more {above = above} {o = o} {op = op₀} {os = os} ro r) Ts s' h (suc f) op g =
      let h₁ = next_typed (operation sigs above o) _ Ts s' h in
      let h₂ = next_typed (operations sigs (suc above) os) _ Ts s' h₁.3 in
      let e : f + suc above ≡ suc f + above = omega arith in
      subst (λ (k : ℕ). TypedOperation ops k op) e (operations_sound r h₂.0 h₂.1 h₂.2 f op g)

pub as_many : {names : List (List ℕ)} {above : ℕ} {os : List Operation} {ops : List Op} → ResolvesOperations names above os ops → length os ≡ length ops
as_many operations_none = refl
as_many (operations_more ro r) = ap suc (as_many r)

pub listing_typed : (p : Program) (T : Ty) → verdict p ≡ typed T [] → (ops : List Op) (t : Term) → Resolution p ops t → (d : Typing ops t T) × FewLeaves d
listing_typed p T h ops t r =
    let sigs = signatures p.operations in
    let signs = signs_of r.operations in
    let h₁ = next_typed (operations sigs 0 p.operations) _ T [] h in
    let w = sound sigs ops (length p.operations) signs [] [] [] [] r.main refl tt [] [] refl refl T [] h₁.3 in
    let d = settled (length p.operations) (length ops) w.2 (as_many r.operations) (λ n. omega (arith, w.4 n)) w.3 in
    let b : (f : ℕ) (op : Op) → nth ops f ≡ some op → TypedOperation ops f op =
    λ f op g. at_f f op (operations_sound sigs ops signs r.operations h₁.0 h₁.1 h₁.2 f op g) in
    (record { well = λ f op g. (b f op g).0; has = d.0 }, record { bodies = λ f op g. (b f op g).1; main = d.1 })
  where
    at_f : (f : ℕ) (op : Op) → TypedOperation ops (f + 0) op → TypedOperation ops f op
    at_f f op w = let e : f + 0 ≡ f = omega arith in subst (λ (k : ℕ). TypedOperation ops k op) e w

    settled : (k l : ℕ) (Δ : Uses) → k ≡ l → ((n : Name) → Δ n ≡ 0) → ((d : Has ops k nowhere Δ t T) × Within d) → (d : Has ops l nowhere nothing t T) × Within d
    settled k l Δ p q w = subst (λ (j : ℕ). (d : Has ops j nowhere nothing t T) × Within d) p (subst (λ (D : Uses). (d : Has ops k nowhere D t T) × Within d) (fun_ext q) w)

-- the written types have few leaves
mutual
  wide_few : (w : Written) → too_wide w ≡ none → WrittenFew w
  wide_few (basic p b) h = tt
  wide_few (tuple_type p ws) h =
      let k = no_first (too_wide_all ws) (cond (few (as_types ws)) none (some p)) h in
      (wide_few_all ws k.0, leb-true _ 8 (is_few (few (as_types ws)) k.1))
    where
      is_few : (b : Bool) → cond b none (some p) ≡ none → b ≡ true
      is_few true q = refl
      is_few false q = never cc

  wide_few_all : (ws : Writtens) → too_wide_all ws ≡ none → WrittenFewAll ws
  wide_few_all no_writtens h = tt
  wide_few_all (w ∷ʷ ws) h = let k = no_first (too_wide w) (too_wide_all ws) h in (wide_few w k.0, wide_few_all ws k.1)

parameters_few : (names : List (List ℕ)) (s : List Known) (ps : List Parameter) (Ts : Tys) (s' : List Known) → parameters names s ps ≡ typed Ts s' → ParametersFew ps
parameters_few names s [] Ts s' h = tt
parameters_few names s (p ∷ ps) Ts s' h =
    let k : Known = record { name = p.name; type = as_type p.written; settable = false; spent = false } in
    let h₁ = asks_typed is_new p.name.place (not (taken p.name.bytes names (names_of s))) _ Ts s' h in
    let h₂ = unless_typed few_leaves (too_wide p.written) _ Ts s' h₁.1 in
    let h₃ = next_typed (parameters names (k ∷ s) ps) _ Ts s' h₂.1 in
    (wide_few p.written h₂.0, parameters_few names (k ∷ s) ps h₃.0 h₃.1 h₃.2)

operations_few : (sigs : List Signature) (above : ℕ) (os : List Operation) (Ts : Tys) (s' : List Known) → operations sigs above os ≡ typed Ts s' → OperationsFew os
operations_few sigs above [] Ts s' h = tt
operations_few sigs above (o ∷ os) Ts s' h =
    let h₁ = next_typed (operation sigs above o) _ Ts s' h in
    let T = h₁.0 in
    let s = h₁.1 in
    let h₂ = asks_typed is_new o.name.place (not (among o.name.bytes (take above (op_names sigs)))) _ T s h₁.2 in
    let h₃ = next_typed (parameters (op_names sigs) [] o.parameters) _ T s h₂.1 in
    let h₄ = unless_typed few_leaves (too_wide o.result) _ T s h₃.3 in
    let h₅ = next_typed (operations sigs (suc above) os) _ Ts s' h₁.3 in
    ((parameters_few (op_names sigs) [] o.parameters h₃.0 h₃.1 h₃.2, wide_few o.result h₄.0), operations_few sigs (suc above) os h₅.0 h₅.1 h₅.2)

pub listing_few : (p : Program) (T : Ty) → verdict p ≡ typed T [] → OperationsFew p.operations
listing_few p T h =
    let h₁ = next_typed (operations (signatures p.operations) 0 p.operations) _ T [] h in
    operations_few (signatures p.operations) 0 p.operations h₁.0 h₁.1 h₁.2
