-- A listing that keeps the rules of naming is not refused for its names.
use Rattle.std.proofs.Common.{◌≡◌, ℕ, zero, suc, ◌≤◌, Bool, true, false, cond, not, ltb, List, [], ◌∷◌, ◌++◌, map, length, sym, refl, ap, ◌∙◌, subst, arith, lt-ltb}
use mathlib.Core.Option.{Option, none, some}
use Rattle.std.specs.Str.{bytes_eq}
use Rattle.syntax.specs.Trees.{Identifier, Tree, Trees, Parameter, Operation}
use Rattle.calculus.specs.Syntax.{Ty, bit, Tys, no_types, ◌∷ᵗ◌, linear, Name, Op, Term, Terms}
use Rattle.calculus.specs.Rules.{qbits, nth}
use Rattle.calculus.proofs.Names.{never}
use Rattle.questions.specs.Names.{find, among, position, one_more}
use Rattle.questions.specs.Types.{same, as_type, too_wide}
use Rattle.questions.specs.Questions.{Question, number, few_leaves, is_new, is_known, is_above, is_unspent, is_inside, types_fit, is_settable, branches_agree, all_spent}
use Rattle.questions.specs.Questions.{Known, Verdict, refused, typed, next, asks, given, unless}
use Rattle.questions.specs.Walk.{Signature, op_names, bytes_of, identifiers, taken, first_taken, mark, one_each, spread, bring, first_open, without, close, targets, agree, names_of, ask, ask_all}
use Rattle.questions.specs.Walk.{parameter_names, parameter_types, signatures, parameters, operation, operations}
use Rattle.questions.specs.Resolves.{Bound, bound_name, Sets, sets_none, sets_more, Resolves, res_constant, res_name, res_call, res_meas, res_gate, res_tuple, res_let, res_mut, res_set, res_using, res_if}
use Rattle.questions.specs.Resolves.{ResolvesAll, res_none, res_more, ResolvesUnder, res_body, res_bound, ResolvesOperation, ResolvesOperations, operations_none, operations_more}
use Rattle.questions.specs.Laws.{RefusedUnnamed}
use Rattle.questions.proofs.Chains.{untaken, not_false}
use Rattle.questions.proofs.Ties.{is_some, among_find}
use Rattle.questions.proofs.Sound.{each_qbit}
use Rattle.questions.proofs.Programs.{each_parameter, parameters_bring}
use Rattle.questions.proofs.Complete.{new_names}
use Rattle.questions.proofs.Exists.{names_with, is_there, spread_each, stands}

-- a question of naming
abbrev AboutNames : Question → Type 0
AboutNames q = (6 ≤ number q) × (number q ≤ 8)

-- not refused for a name
pub record Passes {X : Type 0} (o : Verdict X) : Type 0 where
  pub unrefused : (q : Question) (at : ℕ) → o ≡ refused q at → AboutNames q → ⊥

pass_typed : {X : Type 0} (x : X) (s : List Known) → Passes (typed x s)
pass_typed x s = record { unrefused = λ q at h a. never cc }

about : {q r : Question} → q ≡ r → AboutNames q → AboutNames r
about {q} {r} e w = let k : number q ≡ number r = ap number e in (omega (arith, w.0, k), omega (arith, w.1, k))

same_refusal : {X : Type 0} {q r : Question} {p at : ℕ} → ◌≡◌ {A = Verdict X} (refused q p) (refused r at) → r ≡ q
same_refusal e = cc

pass_refused : {X : Type 0} (q : Question) (p : ℕ) → (AboutNames q → ⊥) → Passes {X = X} (refused q p)
pass_refused q p f = record { unrefused = λ r at h a. f (about (same_refusal h) a) }

pass_next : {X Y : Type 0} (o : Verdict X) (k : X → List Known → Verdict Y) → Passes o → ((x : X) (s : List Known) → o ≡ typed x s → Passes (k x s)) → Passes (next o k)
pass_next (refused q p) k f c = pass_refused q p (λ a. f.unrefused q p refl a)
pass_next (typed x s) k f c = c x s refl

-- a question of naming with the answer yes
pass_name : {Y : Type 0} (q : Question) (p : ℕ) (b : Bool) (o : Verdict Y) → b ≡ true → Passes o → Passes (asks q p b o)
pass_name q p true o e f = f
pass_name q p false o e f = never cc

pass_found : {X Y : Type 0} (q : Question) (p : ℕ) (o : Option X) (k : X → Verdict Y) (x : X) → o ≡ some x → ((x : X) → o ≡ some x → Passes (k x)) → Passes (given q p o k)
pass_found q p none k x e f = never cc
pass_found q p (some y) k x e f = f y refl

pass_new : {Y : Type 0} (q : Question) (e : Option ℕ) (o : Verdict Y) → e ≡ none → Passes o → Passes (unless q e o)
pass_new q none o e f = f
pass_new q (some p) o e f = never cc

-- another question
pass_asks : {Y : Type 0} (q : Question) (p : ℕ) (b : Bool) (o : Verdict Y) → (AboutNames q → ⊥) → Passes o → Passes (asks q p b o)
pass_asks q p true o n f = f
pass_asks q p false o n f = pass_refused q p n

pass_given : {X Y : Type 0} (q : Question) (p : ℕ) (o : Option X) (k : X → Verdict Y) → (AboutNames q → ⊥) → ((x : X) → o ≡ some x → Passes (k x)) → Passes (given q p o k)
pass_given q p none k n f = pass_refused q p n
pass_given q p (some x) k n f = f x refl

pass_unless : {Y : Type 0} (q : Question) (e : Option ℕ) (o : Verdict Y) → (AboutNames q → ⊥) → Passes o → Passes (unless q e o)
pass_unless q none o n f = f
pass_unless q (some p) o n f = pass_refused q p n

five : AboutNames few_leaves → ⊥
five w = omega (arith, w.0)

nine : AboutNames is_unspent → ⊥
nine w = omega (arith, w.1)

ten : AboutNames is_inside → ⊥
ten w = omega (arith, w.1)

eleven : AboutNames types_fit → ⊥
eleven w = omega (arith, w.1)

twelve : AboutNames is_settable → ⊥
twelve w = omega (arith, w.1)

thirteen : AboutNames branches_agree → ⊥
thirteen w = omega (arith, w.1)

fourteen : AboutNames all_spent → ⊥
fourteen w = omega (arith, w.1)

-- a name of the environment is found by the walk
known_name : (b : List ℕ) (l : List Known) (e : Bound) (env : List Bound) → map bound_name env ≡ names_of l → find bound_name b env ≡ some e → (k : Known) × (find bytes_of b l ≡ some k)
known_name b l e env ee h =
    let p : is_some (find bound_name b env) ≡ true = rw h in
    is_there (find bytes_of b l) (sym (among_find bytes_of b l) ∙ ap (among b) (sym ee) ∙ among_find bound_name b env ∙ p)

one_less : (o : Option ℕ) (f : ℕ) → one_more o ≡ some (suc f) → o ≡ some f
one_less none f h = never cc
one_less (some k) f h = cc

no_less : (o : Option ℕ) → one_more o ≡ some 0 → ⊥
no_less none h = never cc
no_less (some k) h = let e : suc k ≡ 0 = cc in omega arith

at_position : (b : List ℕ) (sigs : List Signature) (f : ℕ) → position b (op_names sigs) ≡ some f → (g : Signature) × (nth sigs f ≡ some g)
at_position b [] f h = never cc
at_position b (g ∷ sigs) zero h = (g, refl)
at_position b (g ∷ sigs) (suc f) h = at_position b sigs f (go (bytes_eq g.name b) h)
  where
    go : (e : Bool) → cond e (some 0) (one_more (position b (op_names sigs))) ≡ some (suc f) → position b (op_names sigs) ≡ some f
    go true k = let z : 0 ≡ suc f = cc in never (omega (arith, z))
    go false k = one_less (position b (op_names sigs)) f k

used_passes : (out s : List Known) (i : Identifier) (k : Known) →
    Passes (cond (linear k.type) (asks is_unspent i.place (not k.spent) (asks is_inside i.place (not (among i.bytes (names_of out))) (typed k.type (mark i.bytes s)))) (typed k.type s))
used_passes out s i k = go (linear k.type)
  where
    go : (l : Bool) →
        Passes (cond l (asks is_unspent i.place (not k.spent) (asks is_inside i.place (not (among i.bytes (names_of out))) (typed k.type (mark i.bytes s)))) (typed k.type s))
    go true =
        pass_asks is_unspent i.place (not k.spent) (asks is_inside i.place (not (among i.bytes (names_of out))) (typed k.type (mark i.bytes s))) nine
        (pass_asks is_inside i.place (not (among i.bytes (names_of out))) (typed k.type (mark i.bytes s)) ten (pass_typed k.type (mark i.bytes s)))
    go false = pass_typed k.type s

targets_pass : (l : List Known) {env : List Bound} → map bound_name env ≡ names_of l → {earlier : List (List ℕ)} {is : List Identifier} {ns : List Name} → Sets env earlier is ns →
    Passes (targets l earlier is)
targets_pass l ee sets_none = pass_typed no_types l
targets_pass l {env} ee (sets_more {earlier = earlier} {i = i} {is = is} b un f r) =
    let k = known_name i.bytes l b env ee f in
    pass_name is_new i.place _ _ (not_false _ un) (pass_found is_known i.place _ _ k.0 k.1 (λ c q.
    pass_asks is_settable i.place _ _ twelve (pass_next (targets l (i.bytes ∷ earlier) is) _ (targets_pass l ee r) (λ Ts l' h. pass_typed (c.type ∷ᵗ Ts) l'))))

module _ (sigs : List Signature) (above : ℕ) where
  close_passes : (n : ℕ) (U : Ty) (s : List Known) → Passes (close n U s)
  close_passes n U s = pass_unless all_spent (first_open n s) _ fourteen (pass_typed U (without n s))

  names_new : {env : List Bound} {is : List Identifier} {xs : List ℕ} {t : Tree} {u : Term} (l : List Known) → map bound_name env ≡ names_of l → ResolvesUnder (op_names sigs) above env is xs t u →
      first_taken (op_names sigs) (names_of l) is ≡ none
  names_new {is = is} l ee r = ap (λ (ns : List (List ℕ)). first_taken (op_names sigs) ns is) (sym ee) ∙ new_names r

  mutual
    pub passes : {env : List Bound} {t : Tree} {u : Term} → Resolves (op_names sigs) above env t u → (out s : List Known) → map bound_name env ≡ names_of (s ++ out) → Passes (ask sigs above out s t)
    passes res_constant out s ee = pass_typed _ s
    passes {env} (res_name {i = i} b f) out s ee =
        let k = known_name i.bytes (s ++ out) b env ee f in
        pass_found is_known i.place _ _ k.0 k.1 (λ c q. used_passes out s i c)
    passes (res_call {i = i} {ts = ts} f ps lt r) out s ee =
        pass_found is_known i.place _ _ f ps (λ f' q.
        let g = at_position i.bytes sigs f' q in
        let e : f' ≡ f = cc in
        pass_found is_known i.place _ _ g.0 g.1 (λ c q'.
        pass_name is_above i.place _ _ (ap (λ (k : ℕ). ltb k above) e ∙ lt-ltb f above lt) (pass_next (ask_all sigs above out s ts) _ (passes_all r out s ee) (λ Ts s' h.
        pass_asks types_fit i.place _ _ eleven (pass_typed c.result s')))))
    passes (res_meas {p = p} {t = t} r) out s ee =
        pass_next (ask sigs above out s t) _ (passes r out s ee) (λ T s' h. pass_asks types_fit p _ _ eleven (pass_typed bit s'))
    passes (res_gate {p = p} {g = g} {ts = ts} r) out s ee =
        pass_next (ask_all sigs above out s ts) _ (passes_all r out s ee) (λ Ts s' h. pass_asks types_fit p _ _ eleven (pass_typed _ s'))
    passes (res_tuple {p = p} {ts = ts} r) out s ee =
        pass_next (ask_all sigs above out s ts) _ (passes_all r out s ee) (λ Ts s' h. pass_asks few_leaves p _ _ five (pass_typed _ s'))
    passes (res_let {p = p} {is = is} {e = e₀} {t = t} al r u) out s ee =
        pass_new is_new _ _ (names_new (s ++ out) ee u) (pass_next (ask sigs above out s e₀) _ (passes r out s ee) (λ T s' h.
        let kept = names_with out s s' (stands sigs above e₀ out s T s' h).1 in
        pass_given types_fit p (spread is T) _ eleven (λ Ts q.
        pass_next (ask sigs above out (bring false (identifiers is) Ts s') t) _ (passes_under u out s' false Ts (spread_each is T Ts q) (ee ∙ sym kept)) (λ U s₂ h₂.
        close_passes (length (identifiers is)) U s₂))))
    passes (res_mut {p = p} {is = is} {e = e₀} {t = t} al r u) out s ee =
        pass_new is_new _ _ (names_new (s ++ out) ee u) (pass_next (ask sigs above (s ++ out) [] e₀) _ (passes r (s ++ out) [] ee) (λ T s' h.
        pass_asks types_fit p _ _ eleven (pass_given types_fit p (spread is T) _ eleven (λ Ts q.
        pass_next (ask sigs above out (bring true (identifiers is) Ts s) t) _ (passes_under u out s true Ts (spread_each is T Ts q) ee) (λ U s₂ h₂.
        close_passes (length (identifiers is)) U s₂)))))
    passes (res_set {p = p} {is = is} {e = e₀} {t = t} al st r u) out s ee =
        pass_next (targets (s ++ out) [] (identifiers is)) _ (targets_pass (s ++ out) ee st) (λ Us l h.
        pass_next (ask sigs above (s ++ out) [] e₀) _ (passes r (s ++ out) [] ee) (λ T s' h'.
        pass_given types_fit p (spread is T) _ eleven (λ Ts q. pass_asks types_fit p _ _ eleven (passes u out s ee))))
    passes (res_using {is = is} {t = t} al u) out s ee =
        pass_new is_new _ _ (names_new (s ++ out) ee u)
        (pass_next (ask sigs above out (bring false (identifiers is) (qbits (length (identifiers is))) s) t) _ (passes_under u out s false (qbits (length (identifiers is))) (each_qbit (identifiers is)) ee)
        (λ U s₂ h₂. close_passes (length (identifiers is)) U s₂))
    passes (res_if {p = p} {c = c} {t = t} {u = u} r r₁ r₂) out s ee =
        pass_next (ask sigs above out s c) _ (passes r out s ee) (λ T s' h.
        let ee' = ee ∙ sym (names_with out s s' (stands sigs above c out s T s' h).1) in
        pass_asks types_fit p _ _ eleven (pass_next (ask sigs above out s' t) _ (passes r₁ out s' ee') (λ U s₁ h₁.
        pass_next (ask sigs above out s' u) _ (passes r₂ out s' ee') (λ V s₂ h₂.
        pass_asks types_fit p (same U V) _ eleven (pass_asks branches_agree p (agree s₁ s₂) _ thirteen (pass_typed U s₁))))))

    pub passes_all : {env : List Bound} {ts : Trees} {us : Terms} → ResolvesAll (op_names sigs) above env ts us → (out s : List Known) → map bound_name env ≡ names_of (s ++ out) →
        Passes (ask_all sigs above out s ts)
    passes_all res_none out s ee = pass_typed no_types s
    passes_all (res_more {t = t} {ts = ts} r rs) out s ee =
        pass_next (ask sigs above out s t) _ (passes r out s ee) (λ T s' h.
        let ee' = ee ∙ sym (names_with out s s' (stands sigs above t out s T s' h).1) in
        pass_next (ask_all sigs above out s' ts) _ (passes_all rs out s' ee') (λ Ts s₂ h₂. pass_typed (T ∷ᵗ Ts) s₂))

    pub passes_under : {env : List Bound} {is : List Identifier} {xs : List ℕ} {t : Tree} {u : Term} → ResolvesUnder (op_names sigs) above env is xs t u → (out s : List Known) (b : Bool) (Ts : Tys) →
        one_each is Ts ≡ true → map bound_name env ≡ names_of (s ++ out) → Passes (ask sigs above out (bring b is Ts s) t)
    passes_under (res_body r) out s b Ts q ee = passes r out s ee
    passes_under (res_bound {i = i} tk nx r) out s b no_types q ee = never cc
    passes_under (res_bound {i = i} tk nx r) out s b (T ∷ᵗ Ts) q ee =
        passes_under r out (record { name = i; type = T; settable = b; spent = false } ∷ s) b Ts q (ap (λ (l : List (List ℕ)). i.bytes ∷ l) ee)

parameters_pass : (names : List (List ℕ)) (s : List Known) (ps : List Parameter) → first_taken names (names_of s) (parameter_names ps) ≡ none → Passes (parameters names s ps)
parameters_pass names s [] h = pass_typed no_types s
parameters_pass names s (p ∷ ps) h =
    let k : Known = record { name = p.name; type = as_type p.written; settable = false; spent = false } in
    let u = untaken (taken p.name.bytes names (names_of s)) p.name.place _ h in
    pass_name is_new p.name.place _ _ (not_false _ u.0) (pass_unless few_leaves (too_wide p.written) _ five
    (pass_next (parameters names (k ∷ s) ps) _ (parameters_pass names (k ∷ s) ps u.1) (λ Ts s' h'. pass_typed (as_type p.written ∷ᵗ Ts) s')))

operation_passes : (sigs : List Signature) (above : ℕ) (o : Operation) (op : Op) → ResolvesOperation (op_names sigs) above o op → Passes (operation sigs above o)
operation_passes sigs above o op r =
    pass_name is_new o.name.place _ _ (not_false _ r.new) (pass_next (parameters (op_names sigs) [] o.parameters) _ (parameters_pass (op_names sigs) [] o.parameters (new_names r.body)) (λ Ts s h.
    pass_unless few_leaves (too_wide o.result) _ five (pass_next (ask sigs above [] s o.body) _ (body s (parameters_bring (op_names sigs) [] o.parameters Ts s h)) (λ T s₂ h₂.
    pass_next (close (length (parameter_names o.parameters)) T s₂) _ (close_passes sigs above (length (parameter_names o.parameters)) T s₂) (λ U s₃ h₃.
    pass_asks types_fit o.place _ _ eleven (pass_typed U s₃))))))
  where
    body : (s : List Known) → bring false (parameter_names o.parameters) (parameter_types o.parameters) [] ≡ s → Passes (ask sigs above [] s o.body)
    body s e = subst (λ (l : List Known). Passes (ask sigs above [] l o.body)) e (passes_under sigs above r.body [] [] false (parameter_types o.parameters) (each_parameter o.parameters) refl)

operations_pass : (sigs : List Signature) {above : ℕ} {os : List Operation} {ops : List Op} → ResolvesOperations (op_names sigs) above os ops → Passes (operations sigs above os)
operations_pass sigs operations_none = pass_typed no_types []
operations_pass sigs (operations_more {above = above} {o = o} {op = op} {os = os} ro r) =
    pass_next (operation sigs above o) _ (operation_passes sigs above o op ro) (λ T s h. pass_next (operations sigs (suc above) os) _ (operations_pass sigs r) (λ Ts s' h'. pass_typed (T ∷ᵗ Ts) s'))

pub refused_unnamed : RefusedUnnamed
refused_unnamed p q at h l u (ops, t, r) =
    let sigs = signatures p.operations in
    (pass_next (operations sigs 0 p.operations) _ (operations_pass sigs r.operations) (λ Ts s h'. passes sigs (length p.operations) r.main [] [] refl)).unrefused q at h (l, u)
