-- A term changes the names in scope in their spent marks alone.
use Rattle.std.proofs.Common.{◌≡◌, ℕ, Bool, true, false, cond, not, ltb, List, [], ◌∷◌, ◌++◌, map, length, sym, refl, ap, ◌∙◌}
use Rattle.std.specs.Str.{bytes_eq}
use Rattle.machine.specs.Orders.{width}
use Rattle.syntax.specs.Trees.{Identifier, by_let, by_mut, by_set}
use Rattle.syntax.specs.Trees.{Tree, constant, named, call as call_tree, meas as meas_tree, apply, tuple as tuple_tree, bind as bind_tree, prepare, choose, Trees, no_trees, ◌∷ᵗ◌ as ◌∷ᵉ◌}
use Rattle.calculus.specs.Syntax.{Ty, bit, qbit, Tys, no_types, ◌∷ᵗ◌, linear}
use Rattle.calculus.specs.Rules.{qbits, nth}
use Rattle.calculus.proofs.Names.{never}
use Rattle.questions.specs.Names.{find, among, position}
use Rattle.questions.specs.Types.{same, same_all, few}
use Rattle.questions.specs.Questions.{few_leaves, is_new, is_known, is_above, is_unspent, is_inside, types_fit, branches_agree, all_spent, Known, typed, asks}
use Rattle.questions.specs.Walk.{Signature, op_names, bytes_of, identifiers, first_taken, spend, mark, one_each, spread, bring, outer, without, first_open, targets, agree, names_of, ask, ask_all}
use Rattle.questions.specs.Laws.{MarksOnly}
use Rattle.questions.proofs.Chains.{next_typed, given_typed, asks_typed, unless_typed, typed_inj}
use Rattle.questions.proofs.Sound.{each_qbit}
use Rattle.questions.proofs.Exists.{spread_each}

abbrev pub Kept : List Known → List Known → Type 0
Kept s s' = map spend s' ≡ map spend s

marked_kept : (b : List ℕ) (s : List Known) → Kept s (mark b s)
marked_kept b [] = refl
marked_kept b (k ∷ s) = go (among b (map bytes_of s)) (bytes_eq (bytes_of k) b) (marked_kept b s)
  where
    go : (e f : Bool) → Kept s (mark b s) → map spend (cond e (k ∷ mark b s) (cond f (spend k ∷ s) (k ∷ s))) ≡ spend k ∷ map spend s
    go true f ih = ap (λ (l : List Known). spend k ∷ l) ih
    go false true ih = refl
    go false false ih = refl

outer_kept : (l : List Known) (k : Known) (s : List Known) → map spend l ≡ k ∷ s → map spend (outer l) ≡ s
outer_kept [] k s h = never cc
outer_kept (c ∷ l) k s h = cc

without_kept : (b : Bool) (is : List Identifier) (Ts : Tys) (s s₂ : List Known) → one_each is Ts ≡ true → Kept (bring b is Ts s) s₂ → Kept s (without (length is) s₂)
without_kept b [] Ts s s₂ q h = h
without_kept b (i ∷ is) no_types s s₂ q h = never cc
without_kept b (i ∷ is) (T ∷ᵗ Ts) s s₂ q h =
    let k : Known = record { name = i; type = T; settable = b; spent = false } in
    outer_kept (without (length is) s₂) (spend k) (map spend s) (without_kept b is Ts (k ∷ s) s₂ q h)

used_kept : (out s : List Known) (i : Identifier) (k : Known) (T : Ty) (s' : List Known) →
    cond (linear k.type) (asks is_unspent i.place (not k.spent) (asks is_inside i.place (not (among i.bytes (names_of out))) (typed k.type (mark i.bytes s)))) (typed k.type s) ≡ typed T s' →
    Kept s s'
used_kept out s i k T s' h = go (linear k.type) h
  where
    go : (l : Bool) →
        cond l (asks is_unspent i.place (not k.spent) (asks is_inside i.place (not (among i.bytes (names_of out))) (typed k.type (mark i.bytes s)))) (typed k.type s) ≡ typed T s' →
        Kept s s'
    go true h =
        let h₁ = asks_typed is_unspent i.place (not k.spent) _ T s' h in
        let h₂ = asks_typed is_inside i.place (not (among i.bytes (names_of out))) _ T s' h₁.1 in
        ap (map spend) (sym (typed_inj h₂.1).1) ∙ marked_kept i.bytes s
    go false h = ap (map spend) (sym (typed_inj h).1)

module _ (sigs : List Signature) (above : ℕ) where
  mutual
    pub keeps : (t : Tree) (out s : List Known) (T : Ty) (s' : List Known) → ask sigs above out s t ≡ typed T s' → Kept s s'
    keeps (constant p c) out s T s' h = ap (map spend) (sym (typed_inj h).1)
    keeps (named i) out s T s' h = let g = given_typed is_known i.place (find bytes_of i.bytes (s ++ out)) _ T s' h in used_kept out s i g.0 T s' g.2
    keeps (call_tree i ts) out s T s' h =
        let h₁ = given_typed is_known i.place (position i.bytes (op_names sigs)) _ T s' h in
        let h₂ = given_typed is_known i.place (nth sigs h₁.0) _ T s' h₁.2 in
        let h₃ = asks_typed is_above i.place (ltb h₁.0 above) _ T s' h₂.2 in
        let h₄ = next_typed (ask_all sigs above out s ts) _ T s' h₃.1 in
        let h₅ = asks_typed types_fit i.place (same_all h₄.0 h₂.0.types) _ T s' h₄.3 in
        ap (map spend) (sym (typed_inj h₅.1).1) ∙ keeps_all ts out s h₄.0 h₄.1 h₄.2
    keeps (meas_tree p t) out s T s' h =
        let h₁ = next_typed (ask sigs above out s t) _ T s' h in
        let h₂ = asks_typed types_fit p (same h₁.0 qbit) _ T s' h₁.3 in
        ap (map spend) (sym (typed_inj h₂.1).1) ∙ keeps t out s h₁.0 h₁.1 h₁.2
    keeps (apply p g ts) out s T s' h =
        let h₁ = next_typed (ask_all sigs above out s ts) _ T s' h in
        let h₂ = asks_typed types_fit p (same_all h₁.0 (qbits (width g))) _ T s' h₁.3 in
        ap (map spend) (sym (typed_inj h₂.1).1) ∙ keeps_all ts out s h₁.0 h₁.1 h₁.2
    keeps (tuple_tree p ts) out s T s' h =
        let h₁ = next_typed (ask_all sigs above out s ts) _ T s' h in
        let h₂ = asks_typed few_leaves p (few h₁.0) _ T s' h₁.3 in
        ap (map spend) (sym (typed_inj h₂.1).1) ∙ keeps_all ts out s h₁.0 h₁.1 h₁.2
    keeps (bind_tree p by_let is e₀ t) out s T s' h =
        let h₁ = unless_typed is_new (first_taken (op_names sigs) (names_of (s ++ out)) (identifiers is)) _ T s' h in
        let h₂ = next_typed (ask sigs above out s e₀) _ T s' h₁.1 in
        let h₃ = given_typed types_fit p (spread is h₂.0) _ T s' h₂.3 in
        let h₄ = next_typed (ask sigs above out (bring false (identifiers is) h₃.0 h₂.1) t) _ T s' h₃.2 in
        let h₅ = unless_typed all_spent (first_open (length (identifiers is)) h₄.1) _ T s' h₄.3 in
        let w = keeps t out (bring false (identifiers is) h₃.0 h₂.1) h₄.0 h₄.1 h₄.2 in
        ap (map spend) (sym (typed_inj h₅.1).1) ∙ without_kept false (identifiers is) h₃.0 h₂.1 h₄.1 (spread_each is h₂.0 h₃.0 h₃.1) w ∙ keeps e₀ out s h₂.0 h₂.1 h₂.2
    keeps (bind_tree p by_mut is e₀ t) out s T s' h =
        let h₁ = unless_typed is_new (first_taken (op_names sigs) (names_of (s ++ out)) (identifiers is)) _ T s' h in
        let h₂ = next_typed (ask sigs above (s ++ out) [] e₀) _ T s' h₁.1 in
        let h₃ = asks_typed types_fit p (not (linear h₂.0)) _ T s' h₂.3 in
        let h₄ = given_typed types_fit p (spread is h₂.0) _ T s' h₃.1 in
        let h₅ = next_typed (ask sigs above out (bring true (identifiers is) h₄.0 s) t) _ T s' h₄.2 in
        let h₆ = unless_typed all_spent (first_open (length (identifiers is)) h₅.1) _ T s' h₅.3 in
        let w = keeps t out (bring true (identifiers is) h₄.0 s) h₅.0 h₅.1 h₅.2 in
        ap (map spend) (sym (typed_inj h₆.1).1) ∙ without_kept true (identifiers is) h₄.0 s h₅.1 (spread_each is h₂.0 h₄.0 h₄.1) w
    keeps (bind_tree p by_set is e₀ t) out s T s' h =
        let h₁ = next_typed (targets (s ++ out) [] (identifiers is)) _ T s' h in
        let h₂ = next_typed (ask sigs above (s ++ out) [] e₀) _ T s' h₁.3 in
        let h₃ = given_typed types_fit p (spread is h₂.0) _ T s' h₂.3 in
        let h₄ = asks_typed types_fit p (same_all h₃.0 h₁.0) _ T s' h₃.2 in
        keeps t out s T s' h₄.1
    keeps (prepare p is t) out s T s' h =
        let h₁ = unless_typed is_new (first_taken (op_names sigs) (names_of (s ++ out)) (identifiers is)) _ T s' h in
        let h₂ = next_typed (ask sigs above out (bring false (identifiers is) (qbits (length (identifiers is))) s) t) _ T s' h₁.1 in
        let h₃ = unless_typed all_spent (first_open (length (identifiers is)) h₂.1) _ T s' h₂.3 in
        let w = keeps t out (bring false (identifiers is) (qbits (length (identifiers is))) s) h₂.0 h₂.1 h₂.2 in
        ap (map spend) (sym (typed_inj h₃.1).1) ∙ without_kept false (identifiers is) (qbits (length (identifiers is))) s h₂.1 (each_qbit (identifiers is)) w
    keeps (choose p c t u) out s T s' h =
        let h₁ = next_typed (ask sigs above out s c) _ T s' h in
        let h₂ = asks_typed types_fit p (same h₁.0 bit) _ T s' h₁.3 in
        let h₃ = next_typed (ask sigs above out h₁.1 t) _ T s' h₂.1 in
        let h₄ = next_typed (ask sigs above out h₁.1 u) _ T s' h₃.3 in
        let h₅ = asks_typed types_fit p (same h₃.0 h₄.0) _ T s' h₄.3 in
        let h₆ = asks_typed branches_agree p (agree h₃.1 h₄.1) _ T s' h₅.1 in
        ap (map spend) (sym (typed_inj h₆.1).1) ∙ keeps t out h₁.1 h₃.0 h₃.1 h₃.2 ∙ keeps c out s h₁.0 h₁.1 h₁.2

    pub keeps_all : (ts : Trees) (out s : List Known) (Ts : Tys) (s' : List Known) → ask_all sigs above out s ts ≡ typed Ts s' → Kept s s'
    keeps_all no_trees out s Ts s' h = ap (map spend) (sym (typed_inj h).1)
    keeps_all (t ∷ᵉ ts) out s Ts s' h =
        let h₁ = next_typed (ask sigs above out s t) _ Ts s' h in
        let h₂ = next_typed (ask_all sigs above out h₁.1 ts) _ Ts s' h₁.3 in
        ap (map spend) (sym (typed_inj h₂.3).1) ∙ keeps_all ts out h₁.1 h₂.0 h₂.1 h₂.2 ∙ keeps t out s h₁.0 h₁.1 h₁.2

pub marks_only : MarksOnly
marks_only ops above out s t T s' h = keeps ops above t out s T s' h
