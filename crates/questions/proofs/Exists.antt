-- What the walk accepts keeps the rules of naming: it stands for some terms.
use Rattle.std.proofs.Common.{◌≡◌, ℕ, suc, ◌+◌, ◌<◌, Bool, true, false, cond, not, eqb, ltb, List, [], ◌∷◌, ◌++◌, map, length, take, sym, refl, ap, ◌∙◌, subst, arith, ltb-true, ne_eqb}
use mathlib.Core.Option.{Option, none, some}
use Rattle.std.specs.Str.{bytes_eq}
use Rattle.machine.specs.Orders.{width}
use Rattle.syntax.specs.Trees.{Identifier, by_let, by_mut, by_set, Pattern as TreePattern, one as one_name, several as several_names}
use Rattle.syntax.specs.Trees.{Tree, constant, named, call as call_tree, meas as meas_tree, apply, tuple as tuple_tree, bind as bind_tree, prepare, choose, Trees, no_trees, ◌∷ᵗ◌ as ◌∷ᵉ◌}
use Rattle.syntax.specs.Trees.{Parameter, Operation, Program}
use Rattle.calculus.specs.Syntax.{Ty, bit, qbit, Tys, no_types, ◌∷ᵗ◌, linear, Name, var, Pattern, one, several, names, tupling, meas, gate, call, Op, Term, name, give, build, bind, mut, set, using_in}
use Rattle.calculus.specs.Syntax.{if_else, Terms, no_terms, ◌∷ˢ◌}
use Rattle.calculus.specs.Rules.{qbits, nth}
use Rattle.calculus.proofs.Names.{never}
use Rattle.questions.specs.Names.{find, among, position}
use Rattle.questions.specs.Types.{same, same_all, as_type, few, too_wide}
use Rattle.questions.specs.Questions.{few_leaves, is_new, is_known, is_above, is_unspent, is_inside, types_fit, is_settable, branches_agree, all_spent, Known, typed, asks}
use Rattle.questions.specs.Walk.{Signature, op_names, bytes_of, identifiers, taken, first_taken, spend, mark, one_each, spread, bring, outer, without, first_open, targets, agree, names_of, ask}
use Rattle.questions.specs.Walk.{ask_all, parameter_names, parameter_types, signatures, parameters, operation, operations, verdict}
use Rattle.questions.specs.Resolves.{Bound, bound_name, numbered, value, Alike, alike_one, alike_several, Sets, sets_none, sets_more, Resolves, res_constant, res_name, res_call, res_meas, res_gate, res_tuple}
use Rattle.questions.specs.Resolves.{res_let, res_mut, res_set, res_using, res_if, ResolvesAll, res_none, res_more, ResolvesUnder, res_body, res_bound, ResolvesOperation, ResolvesOperations}
use Rattle.questions.specs.Resolves.{operations_none, operations_more, NamedWell}
use Rattle.questions.proofs.Chains.{untaken, next_typed, given_typed, asks_typed, unless_typed, typed_inj, not_true}
use Rattle.questions.proofs.Ties.{is_some, among_find}
use Rattle.questions.proofs.Sound.{parts_fit, each_qbit, under_length}
use Rattle.questions.proofs.Programs.{each_parameter, parameters_bring}

-- a number that no name in scope has
abbrev total : List Bound → ℕ
total [] = 0
total (b ∷ env) = b.number + total env

above_all : (env : List Bound) (x : ℕ) → total env < x → numbered x env ≡ false
above_all [] x l = refl
above_all (b ∷ env) x l =
    let ne : eqb b.number x ≡ false = ne_eqb b.number x (λ e. omega (arith, l, e)) in
    rw ne (above_all env x (omega arith))

names_append : (s out : List Known) → names_of (s ++ out) ≡ names_of s ++ names_of out
names_append [] out = refl
names_append (k ∷ s) out = ap (λ (l : List (List ℕ)). bytes_of k ∷ l) (names_append s out)

pub names_with : (out s s' : List Known) → names_of s' ≡ names_of s → names_of (s' ++ out) ≡ names_of (s ++ out)
names_with out s s' e = names_append s' out ∙ ap (λ (l : List (List ℕ)). l ++ names_of out) e ∙ sym (names_append s out)

names_marked : (b : List ℕ) (s : List Known) → names_of (mark b s) ≡ names_of s
names_marked b [] = refl
names_marked b (k ∷ s) = go (among b (map bytes_of s)) (bytes_eq (bytes_of k) b) (names_marked b s)
  where
    go : (e f : Bool) → names_of (mark b s) ≡ names_of s → names_of (cond e (k ∷ mark b s) (cond f (spend k ∷ s) (k ∷ s))) ≡ bytes_of k ∷ names_of s
    go true f ih = ap (λ (l : List (List ℕ)). bytes_of k ∷ l) ih
    go false true ih = refl
    go false false ih = refl

names_outer : (l : List Known) (b : List ℕ) (ns : List (List ℕ)) → names_of l ≡ b ∷ ns → names_of (outer l) ≡ ns
names_outer [] b ns h = never cc
names_outer (k ∷ l) b ns h = cc

-- a name that the walk finds is in the environment
pub is_there : {A : Type 0} (o : Option A) → is_some o ≡ true → (a : A) × (o ≡ some a)
is_there none h = never cc
is_there (some a) h = (a, refl)

numbered_name : (b : List ℕ) (l : List Known) (k : Known) (env : List Bound) → map bound_name env ≡ names_of l → find bytes_of b l ≡ some k → (e : Bound) × (find bound_name b env ≡ some e)
numbered_name b l k env ee h =
    let p : is_some (find bytes_of b l) ≡ true = rw h in
    is_there (find bound_name b env) (sym (among_find bound_name b env) ∙ ap (among b) ee ∙ among_find bytes_of b l ∙ p)

-- the pattern of a term from its list of names
pattern_of : {N : Type 0} (is : TreePattern) (xs : List N) → length (identifiers is) ≡ length xs → (ps : Pattern N) × Alike is ps × (xs ≡ names ps)
pattern_of (one_name i) [] h = never (omega arith)
pattern_of (one_name i) (x ∷ []) h = (one x, alike_one, refl)
pattern_of (one_name i) (x ∷ (y ∷ xs)) h = never (omega arith)
pattern_of (several_names is) xs h = (several xs, alike_several, refl)

pub spread_each : (is : TreePattern) (T : Ty) (Ts : Tys) → spread is T ≡ some Ts → one_each (identifiers is) Ts ≡ true
spread_each (one_name i) T Ts h = let e : Ts ≡ T ∷ᵗ no_types = cc in rw e
spread_each (several_names is) T Ts h = (parts_fit is T Ts h).1

sets_length : {env : List Bound} {earlier : List (List ℕ)} {is : List Identifier} {ns : List Name} → Sets env earlier is ns → length is ≡ length ns
sets_length sets_none = refl
sets_length (sets_more b un f r) = ap suc (sets_length r)

sets_exist : (l : List Known) (env : List Bound) → map bound_name env ≡ names_of l → (earlier : List (List ℕ)) (is : List Identifier) (Us : Tys) (l' : List Known) →
    targets l earlier is ≡ typed Us l' → (ns : List Name) × Sets env earlier is ns
sets_exist l env ee earlier [] Us l' h = ([], sets_none)
sets_exist l env ee earlier (i ∷ is) Us l' h =
    let h₁ = asks_typed is_new i.place (not (among i.bytes earlier)) _ Us l' h in
    let h₂ = given_typed is_known i.place (find bytes_of i.bytes l) _ Us l' h₁.1 in
    let h₃ = asks_typed is_settable i.place h₂.0.settable _ Us l' h₂.2 in
    let h₄ = next_typed (targets l (i.bytes ∷ earlier) is) _ Us l' h₃.1 in
    let e = numbered_name i.bytes l h₂.0 env ee h₂.1 in
    let r = sets_exist l env ee (i.bytes ∷ earlier) is h₄.0 h₄.1 h₄.2 in
    (var e.0.number ∷ r.0, sets_more e.0 (not_true _ h₁.0) e.1 r.1)

-- the use of a name changes marks alone
used : (out s : List Known) (i : Identifier) (k : Known) (T : Ty) (s' : List Known) →
    cond (linear k.type) (asks is_unspent i.place (not k.spent) (asks is_inside i.place (not (among i.bytes (names_of out))) (typed k.type (mark i.bytes s)))) (typed k.type s) ≡ typed T s' →
    names_of s' ≡ names_of s
used out s i k T s' h = go (linear k.type) h
  where
    go : (l : Bool) →
        cond l (asks is_unspent i.place (not k.spent) (asks is_inside i.place (not (among i.bytes (names_of out))) (typed k.type (mark i.bytes s)))) (typed k.type s) ≡ typed T s' →
        names_of s' ≡ names_of s
    go true h =
        let h₁ = asks_typed is_unspent i.place (not k.spent) _ T s' h in
        let h₂ = asks_typed is_inside i.place (not (among i.bytes (names_of out))) _ T s' h₁.1 in
        ap names_of (sym (typed_inj h₂.1).1) ∙ names_marked i.bytes s
    go false h = ap names_of (sym (typed_inj h).1)

module _ (sigs : List Signature) (above : ℕ) where
  abbrev pub Stands : List Known → List Known → List Known → Tree → Type 0
  Stands out s s' t = ((env : List Bound) → map bound_name env ≡ names_of (s ++ out) → (u : Term) × Resolves (op_names sigs) above env t u) × (names_of s' ≡ names_of s)

  abbrev pub StandsAll : List Known → List Known → List Known → Trees → Type 0
  StandsAll out s s' ts = ((env : List Bound) → map bound_name env ≡ names_of (s ++ out) → (us : Terms) × ResolvesAll (op_names sigs) above env ts us) × (names_of s' ≡ names_of s)

  abbrev pub StandsUnder : List Known → List Known → List Known → List Identifier → Tree → Type 0
  StandsUnder out s s' is t =
      ((env : List Bound) → map bound_name env ≡ names_of (s ++ out) → (xs : List ℕ) × (u : Term) × ResolvesUnder (op_names sigs) above env is xs t u) × (names_of s' ≡ names_of s)

  pub stands_under : (t : Tree) (out : List Known) → ((s : List Known) (T : Ty) (s' : List Known) → ask sigs above out s t ≡ typed T s' → Stands out s s' t) →
      (b : Bool) (is : List Identifier) (Ts : Tys) (s : List Known) → one_each is Ts ≡ true → first_taken (op_names sigs) (names_of (s ++ out)) is ≡ none →
      (U : Ty) (s₂ : List Known) → ask sigs above out (bring b is Ts s) t ≡ typed U s₂ → StandsUnder out s (without (length is) s₂) is t
  stands_under t out ih b [] no_types s q f U s₂ h = let w = ih s U s₂ h in ((λ env ee. let r = w.0 env ee in ([], r.0, res_body r.1)), w.1)
  stands_under t out ih b [] (T ∷ᵗ Ts) s q f U s₂ h = never cc
  stands_under t out ih b (i ∷ is) no_types s q f U s₂ h = never cc
  stands_under t out ih b (i ∷ is) (T ∷ᵗ Ts) s q f U s₂ h =
      let k : Known = record { name = i; type = T; settable = b; spent = false } in
      let v = untaken (taken i.bytes (op_names sigs) (names_of (s ++ out))) i.place _ f in
      let w = stands_under t out ih b is Ts (k ∷ s) q v.1 U s₂ h in (
        (λ env ee.
            let x = suc (total env) in
            let r = w.0 (record { bytes = i.bytes; number = x } ∷ env) (ap (λ (l : List (List ℕ)). i.bytes ∷ l) ee) in
            (x ∷ r.0, r.1, res_bound (ap (taken i.bytes (op_names sigs)) ee ∙ v.0) (above_all env x (omega arith)) r.2)),
        names_outer (without (length is) s₂) i.bytes (names_of s) w.1,
      )

  mutual
    pub stands : (t : Tree) (out s : List Known) (T : Ty) (s' : List Known) → ask sigs above out s t ≡ typed T s' → Stands out s s' t
    stands (constant p c) out s T s' h = let j = typed_inj h in ((λ env ee. (give p (value c), res_constant)), ap names_of (sym j.1))
    stands (named i) out s T s' h =
        let g = given_typed is_known i.place (find bytes_of i.bytes (s ++ out)) _ T s' h in
        ((λ env ee. let e = numbered_name i.bytes (s ++ out) g.0 env ee g.1 in (name i.place (var e.0.number), res_name e.0 e.1)), used out s i g.0 T s' g.2)
    stands (call_tree i ts) out s T s' h =
        let h₁ = given_typed is_known i.place (position i.bytes (op_names sigs)) _ T s' h in
        let h₂ = given_typed is_known i.place (nth sigs h₁.0) _ T s' h₁.2 in
        let h₃ = asks_typed is_above i.place (ltb h₁.0 above) _ T s' h₂.2 in
        let h₄ = next_typed (ask_all sigs above out s ts) _ T s' h₃.1 in
        let h₅ = asks_typed types_fit i.place (same_all h₄.0 h₂.0.types) _ T s' h₄.3 in
        let j = typed_inj h₅.1 in
        let w = stands_all ts out s h₄.0 h₄.1 h₄.2 in (
          (λ env ee. let r = w.0 env ee in (build i.place (call h₁.0) r.0, res_call h₁.0 h₁.1 (ltb-true h₁.0 above h₃.0) r.1)),
          ap names_of (sym j.1) ∙ w.1,
        )
    stands (meas_tree p t) out s T s' h =
        let h₁ = next_typed (ask sigs above out s t) _ T s' h in
        let h₂ = asks_typed types_fit p (same h₁.0 qbit) _ T s' h₁.3 in
        let j = typed_inj h₂.1 in
        let w = stands t out s h₁.0 h₁.1 h₁.2 in
        ((λ env ee. let r = w.0 env ee in (build p meas (r.0 ∷ˢ no_terms), res_meas r.1)), ap names_of (sym j.1) ∙ w.1)
    stands (apply p g ts) out s T s' h =
        let h₁ = next_typed (ask_all sigs above out s ts) _ T s' h in
        let h₂ = asks_typed types_fit p (same_all h₁.0 (qbits (width g))) _ T s' h₁.3 in
        let j = typed_inj h₂.1 in
        let w = stands_all ts out s h₁.0 h₁.1 h₁.2 in
        ((λ env ee. let r = w.0 env ee in (build p (gate g) r.0, res_gate r.1)), ap names_of (sym j.1) ∙ w.1)
    stands (tuple_tree p ts) out s T s' h =
        let h₁ = next_typed (ask_all sigs above out s ts) _ T s' h in
        let h₂ = asks_typed few_leaves p (few h₁.0) _ T s' h₁.3 in
        let j = typed_inj h₂.1 in
        let w = stands_all ts out s h₁.0 h₁.1 h₁.2 in
        ((λ env ee. let r = w.0 env ee in (build p tupling r.0, res_tuple r.1)), ap names_of (sym j.1) ∙ w.1)
    stands (bind_tree p by_let is e₀ t) out s T s' h =
        let h₁ = unless_typed is_new (first_taken (op_names sigs) (names_of (s ++ out)) (identifiers is)) _ T s' h in
        let h₂ = next_typed (ask sigs above out s e₀) _ T s' h₁.1 in
        let h₃ = given_typed types_fit p (spread is h₂.0) _ T s' h₂.3 in
        let h₄ = next_typed (ask sigs above out (bring false (identifiers is) h₃.0 h₂.1) t) _ T s' h₃.2 in
        let h₅ = unless_typed all_spent (first_open (length (identifiers is)) h₄.1) _ T s' h₄.3 in
        let j = typed_inj h₅.1 in
        let w = stands e₀ out s h₂.0 h₂.1 h₂.2 in
        let same_all_names = names_with out s h₂.1 w.1 in
        let new = ap (λ (l : List (List ℕ)). first_taken (op_names sigs) l (identifiers is)) same_all_names ∙ h₁.0 in
        let v = stands_under t out (λ s₀ T₀ s₁ k. stands t out s₀ T₀ s₁ k) false (identifiers is) h₃.0 h₂.1 (spread_each is h₂.0 h₃.0 h₃.1) new h₄.0 h₄.1 h₄.2 in (
          (λ env ee.
              let r = w.0 env ee in
              let q = v.0 env (ee ∙ sym same_all_names) in
              let x = pattern_of is q.0 (under_length q.2) in
              (bind p x.0 r.0 q.1, res_let x.1 r.1 (subst (λ (l : List ℕ). ResolvesUnder (op_names sigs) above env (identifiers is) l t q.1) x.2 q.2))),
          ap names_of (sym j.1) ∙ v.1 ∙ w.1,
        )
    stands (bind_tree p by_mut is e₀ t) out s T s' h =
        let h₁ = unless_typed is_new (first_taken (op_names sigs) (names_of (s ++ out)) (identifiers is)) _ T s' h in
        let h₂ = next_typed (ask sigs above (s ++ out) [] e₀) _ T s' h₁.1 in
        let h₃ = asks_typed types_fit p (not (linear h₂.0)) _ T s' h₂.3 in
        let h₄ = given_typed types_fit p (spread is h₂.0) _ T s' h₃.1 in
        let h₅ = next_typed (ask sigs above out (bring true (identifiers is) h₄.0 s) t) _ T s' h₄.2 in
        let h₆ = unless_typed all_spent (first_open (length (identifiers is)) h₅.1) _ T s' h₅.3 in
        let j = typed_inj h₆.1 in
        let w = stands e₀ (s ++ out) [] h₂.0 h₂.1 h₂.2 in
        let v = stands_under t out (λ s₀ T₀ s₁ k. stands t out s₀ T₀ s₁ k) true (identifiers is) h₄.0 s (spread_each is h₂.0 h₄.0 h₄.1) h₁.0 h₅.0 h₅.1 h₅.2 in (
          (λ env ee.
              let r = w.0 env ee in
              let q = v.0 env ee in
              let x = pattern_of is q.0 (under_length q.2) in
              (mut p x.0 r.0 q.1, res_mut x.1 r.1 (subst (λ (l : List ℕ). ResolvesUnder (op_names sigs) above env (identifiers is) l t q.1) x.2 q.2))),
          ap names_of (sym j.1) ∙ v.1,
        )
    stands (bind_tree p by_set is e₀ t) out s T s' h =
        let h₁ = next_typed (targets (s ++ out) [] (identifiers is)) _ T s' h in
        let h₂ = next_typed (ask sigs above (s ++ out) [] e₀) _ T s' h₁.3 in
        let h₃ = given_typed types_fit p (spread is h₂.0) _ T s' h₂.3 in
        let h₄ = asks_typed types_fit p (same_all h₃.0 h₁.0) _ T s' h₃.2 in
        let w = stands e₀ (s ++ out) [] h₂.0 h₂.1 h₂.2 in
        let v = stands t out s T s' h₄.1 in (
          (λ env ee.
              let r = w.0 env ee in
              let q = v.0 env ee in
              let ns = sets_exist (s ++ out) env ee [] (identifiers is) h₁.0 h₁.1 h₁.2 in
              let x = pattern_of is ns.0 (sets_length ns.1) in
              (set p x.0 r.0 q.0, res_set x.1 (subst (λ (l : List Name). Sets env [] (identifiers is) l) x.2 ns.1) r.1 q.1)),
          v.1,
        )
    stands (prepare p is t) out s T s' h =
        let h₁ = unless_typed is_new (first_taken (op_names sigs) (names_of (s ++ out)) (identifiers is)) _ T s' h in
        let h₂ = next_typed (ask sigs above out (bring false (identifiers is) (qbits (length (identifiers is))) s) t) _ T s' h₁.1 in
        let h₃ = unless_typed all_spent (first_open (length (identifiers is)) h₂.1) _ T s' h₂.3 in
        let j = typed_inj h₃.1 in
        let v = stands_under t out (λ s₀ T₀ s₁ k. stands t out s₀ T₀ s₁ k) false (identifiers is) (qbits (length (identifiers is))) s (each_qbit (identifiers is)) h₁.0 h₂.0 h₂.1 h₂.2 in (
          (λ env ee.
              let q = v.0 env ee in
              let x = pattern_of is q.0 (under_length q.2) in
              (using_in p x.0 q.1, res_using x.1 (subst (λ (l : List ℕ). ResolvesUnder (op_names sigs) above env (identifiers is) l t q.1) x.2 q.2))),
          ap names_of (sym j.1) ∙ v.1,
        )
    stands (choose p c t u) out s T s' h =
        let h₁ = next_typed (ask sigs above out s c) _ T s' h in
        let h₂ = asks_typed types_fit p (same h₁.0 bit) _ T s' h₁.3 in
        let h₃ = next_typed (ask sigs above out h₁.1 t) _ T s' h₂.1 in
        let h₄ = next_typed (ask sigs above out h₁.1 u) _ T s' h₃.3 in
        let h₅ = asks_typed types_fit p (same h₃.0 h₄.0) _ T s' h₄.3 in
        let h₆ = asks_typed branches_agree p (agree h₃.1 h₄.1) _ T s' h₅.1 in
        let j = typed_inj h₆.1 in
        let w = stands c out s h₁.0 h₁.1 h₁.2 in
        let same_all_names = names_with out s h₁.1 w.1 in
        let v = stands t out h₁.1 h₃.0 h₃.1 h₃.2 in
        let v' = stands u out h₁.1 h₄.0 h₄.1 h₄.2 in (
          (λ env ee.
              let r = w.0 env ee in
              let q = v.0 env (ee ∙ sym same_all_names) in
              let q' = v'.0 env (ee ∙ sym same_all_names) in
              (if_else p r.0 q.0 q'.0, res_if r.1 q.1 q'.1)),
          ap names_of (sym j.1) ∙ v.1 ∙ w.1,
        )

    pub stands_all : (ts : Trees) (out s : List Known) (Ts : Tys) (s' : List Known) → ask_all sigs above out s ts ≡ typed Ts s' → StandsAll out s s' ts
    stands_all no_trees out s Ts s' h = let j = typed_inj h in ((λ env ee. (no_terms, res_none)), ap names_of (sym j.1))
    stands_all (t ∷ᵉ ts) out s Ts s' h =
        let h₁ = next_typed (ask sigs above out s t) _ Ts s' h in
        let h₂ = next_typed (ask_all sigs above out h₁.1 ts) _ Ts s' h₁.3 in
        let j = typed_inj h₂.3 in
        let w = stands t out s h₁.0 h₁.1 h₁.2 in
        let v = stands_all ts out h₁.1 h₂.0 h₂.1 h₂.2 in (
          (λ env ee. let r = w.0 env ee in let q = v.0 env (ee ∙ sym (names_with out s h₁.1 w.1)) in (r.0 ∷ˢ q.0, res_more r.1 q.1)),
          ap names_of (sym j.1) ∙ v.1 ∙ w.1,
        )

parameters_new : (names : List (List ℕ)) (s : List Known) (ps : List Parameter) (Ts : Tys) (s' : List Known) → parameters names s ps ≡ typed Ts s' →
    first_taken names (names_of s) (parameter_names ps) ≡ none
parameters_new names s [] Ts s' h = refl
parameters_new names s (p ∷ ps) Ts s' h =
    let k : Known = record { name = p.name; type = as_type p.written; settable = false; spent = false } in
    let h₁ = asks_typed is_new p.name.place (not (taken p.name.bytes names (names_of s))) _ Ts s' h in
    let h₂ = unless_typed few_leaves (too_wide p.written) _ Ts s' h₁.1 in
    let h₃ = next_typed (parameters names (k ∷ s) ps) _ Ts s' h₂.1 in
    rw (not_true _ h₁.0) (parameters_new names (k ∷ s) ps h₃.0 h₃.1 h₃.2)

operation_stands : (sigs : List Signature) (above : ℕ) (o : Operation) (T : Ty) (s' : List Known) → operation sigs above o ≡ typed T s' → (op : Op) × ResolvesOperation (op_names sigs) above o op
operation_stands sigs above o T s' h =
    let h₁ = asks_typed is_new o.name.place (not (among o.name.bytes (take above (op_names sigs)))) _ T s' h in
    let h₂ = next_typed (parameters (op_names sigs) [] o.parameters) _ T s' h₁.1 in
    let h₃ = unless_typed few_leaves (too_wide o.result) _ T s' h₂.3 in
    let h₄ = next_typed (ask sigs above [] h₂.1 o.body) _ T s' h₃.1 in
    let b = parameters_bring (op_names sigs) [] o.parameters h₂.0 h₂.1 h₂.2 in
    let body : ask sigs above [] (bring false (parameter_names o.parameters) (parameter_types o.parameters) []) o.body ≡ typed h₄.0 h₄.1 =
    ap (λ (l : List Known). ask sigs above [] l o.body) b ∙ h₄.2 in
    let new = parameters_new (op_names sigs) [] o.parameters h₂.0 h₂.1 h₂.2 in
    let v = stands_under sigs above o.body [] (λ s₀ T₀ s₁ k. stands sigs above o.body [] s₀ T₀ s₁ k) false (parameter_names o.parameters) (parameter_types o.parameters) []
    (each_parameter o.parameters) new h₄.0 h₄.1 body in
    let r = v.0 [] refl in
    let op : Op = record { params = r.0; types = parameter_types o.parameters; result = as_type o.result; body = r.1 } in
    (op, record { new = not_true _ h₁.0; types = refl; result = refl; body = r.2 })

operations_stand : (sigs : List Signature) (above : ℕ) (os : List Operation) (Ts : Tys) (s' : List Known) → operations sigs above os ≡ typed Ts s' →
    (ops : List Op) × ResolvesOperations (op_names sigs) above os ops
operations_stand sigs above [] Ts s' h = ([], operations_none)
operations_stand sigs above (o ∷ os) Ts s' h =
    let h₁ = next_typed (operation sigs above o) _ Ts s' h in
    let h₂ = next_typed (operations sigs (suc above) os) _ Ts s' h₁.3 in
    let w = operation_stands sigs above o h₁.0 h₁.1 h₁.2 in
    let v = operations_stand sigs (suc above) os h₂.0 h₂.1 h₂.2 in
    (w.0 ∷ v.0, operations_more w.1 v.1)

-- an accepted listing keeps the rules of naming
pub listing_named : (p : Program) (T : Ty) (s : List Known) → verdict p ≡ typed T s → NamedWell p
listing_named p T s h =
    let sigs = signatures p.operations in
    let h₁ = next_typed (operations sigs 0 p.operations) _ T s h in
    let w = operations_stand sigs 0 p.operations h₁.0 h₁.1 h₁.2 in
    let v = stands sigs (length p.operations) p.main [] [] T s h₁.3 in
    let r = v.0 [] refl in
    (w.0, r.0, record { operations = w.1; main = r.1 })
