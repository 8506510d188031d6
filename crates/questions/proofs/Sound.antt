-- What the walk accepts has a typing.
use Rattle.std.proofs.Common.{◌≡◌, ℕ, suc, ◌+◌, ◌≤◌, Bool, true, false, cond, not, ◌&&◌, ltb, List, [], ◌∷◌, ◌++◌, map, length, sym, refl, ap, ◌∙◌, subst, arith, leb-true}
use mathlib.Core.Path.{fun_ext}
use mathlib.Core.Option.{none, some}
use Rattle.machine.specs.Orders.{width}
use Rattle.syntax.specs.Trees.{Identifier, Constant, unit as unit_constant, zero_bit, one_bit, number as number_constant, Pattern as TreePattern, Tree, Trees}
use Rattle.calculus.specs.Syntax.{Ty, unit, bit, int, qbit, tuple, Tys, no_types, ◌∷ᵗ◌, leaves, linear, Name, var, type_of, Pattern, names, Op, Term, Terms}
use Rattle.calculus.specs.Rules.{Uses, nothing, once, Same, Divides, held, settable, type, Scope, Spread, qbits, nth, MaySet, may_none, may_more, Has, has_give}
use Rattle.calculus.specs.Rules.{has_name, has_build, has_bind, has_mut, has_set, has_using, has_if, Parts, parts_none, parts_more, Under, under_none, under_more}
use Rattle.calculus.proofs.Names.{never}
use Rattle.questions.specs.Names.{find, among, position}
use Rattle.questions.specs.Types.{same, same_all, few}
use Rattle.questions.specs.Questions.{few_leaves, is_new, is_known, is_above, is_unspent, is_inside, types_fit, is_settable, branches_agree, all_spent, Known, typed, asks}
use Rattle.questions.specs.Walk.{Signature, op_names, bytes_of, identifiers, constant_type, mark, one_each, parts_for, spread, bring, outer, without, open_first, first_open, targets, agree, names_of, ask}
use Rattle.questions.specs.Walk.{ask_all, first_taken}
use Rattle.questions.specs.Resolves.{Bound, bound_name, numbered, value, Alike, alike_one, alike_several, Sets, sets_none, sets_more, Resolves, res_constant, res_name, res_call, res_meas, res_gate, res_tuple}
use Rattle.questions.specs.Resolves.{res_let, res_mut, res_set, res_using, res_if, ResolvesAll, res_none, res_more, ResolvesUnder, res_body, res_bound}
use Rattle.questions.specs.Limits.{Within, WithinParts, WithinUnder}
use Rattle.questions.proofs.Chains.{next_typed, given_typed, asks_typed, unless_typed, typed_inj, not_true, no_first, same_eq, same_all_eq}
use Rattle.questions.proofs.Ties.{Tie, as_bound, known, bound, head, tail, marked, scope, avail, Apart, join, joined, found, marks, inside, apart_later, apart_inner, number_new, closed}
use Rattle.questions.proofs.Ties.{agree_avail, found_inside}

pub constant_typed : (c : Constant) → constant_type c ≡ type_of (value c)
constant_typed unit_constant = refl
constant_typed zero_bit = refl
constant_typed one_bit = refl
constant_typed (number_constant k) = refl

pub constant_held : (c : Constant) (n : Name) → 0 ≡ held (value c) n
constant_held unit_constant n = refl
constant_held zero_bit n = refl
constant_held one_bit n = refl
constant_held (number_constant k) n = refl

pub type_bound : (b : Bool) (T : Ty) → type (as_bound b T) ≡ T
type_bound true T = refl
type_bound false T = refl

pub parts_fit : (is : List Identifier) (T : Ty) (Ts : Tys) → parts_for is T ≡ some Ts → (T ≡ tuple Ts) × (one_each is Ts ≡ true)
parts_fit is unit Ts h = never cc
parts_fit is bit Ts h = never cc
parts_fit is int Ts h = never cc
parts_fit is qbit Ts h = never cc
parts_fit is (tuple Us) Ts h = go (one_each is Us) refl h
  where
    go : (b : Bool) → one_each is Us ≡ b → cond b (some Us) none ≡ some Ts → (tuple Us ≡ tuple Ts) × (one_each is Ts ≡ true)
    go true q k = let e : Us ≡ Ts = cc in (ap tuple e, rw (← e) q)
    go false q k = never cc

pub spread_fits : {N : Type 0} {is : TreePattern} {xs : Pattern N} → Alike is xs → (T : Ty) (Ts : Tys) → spread is T ≡ some Ts → Spread xs T Ts × (one_each (identifiers is) Ts ≡ true)
spread_fits alike_one T Ts h = let e : Ts ≡ T ∷ᵗ no_types = cc in (e, rw e)
spread_fits (alike_several {is = is}) T Ts h = parts_fit is T Ts h

pub each_qbit : (is : List Identifier) → one_each is (qbits (length is)) ≡ true
each_qbit [] = refl
each_qbit (i ∷ is) = each_qbit is

pub under_length : {ops : List (List ℕ)} {above : ℕ} {env : List Bound} {is : List Identifier} {xs : List ℕ} {t : Tree} {u : Term} → ResolvesUnder ops above env is xs t u → length is ≡ length xs
under_length (res_body r) = refl
under_length (res_bound k n r) = ap suc (under_length r)

-- the names of a set pattern may be set
pub set_names : (z : List Tie) (m : List Bool) {env : List Bound} {earlier : List (List ℕ)} {is : List Identifier} {ns : List Name} → Sets env earlier is ns → env ≡ map bound z → Apart z → (l : List Known) → l ≡ marked z m →
    (Us : Tys) (l' : List Known) → targets l earlier is ≡ typed Us l' → MaySet (scope z) ns Us
set_names z m {ns = ns} sets_none ee a l e Us l' h = let k = typed_inj h in subst (λ (V : Tys). MaySet (scope z) [] V) k.0 may_none
set_names z m (sets_more {earlier = earlier} {i = i} {is = is} {ns = ns} b un f r) ee a l e Us l' h =
    let h₁ = asks_typed is_new i.place (not (among i.bytes earlier)) _ Us l' h in
    let h₂ = given_typed is_known i.place (find bytes_of i.bytes l) _ Us l' h₁.1 in
    let h₃ = asks_typed is_settable i.place h₂.0.settable _ Us l' h₂.2 in
    let h₄ = next_typed (targets l (i.bytes ∷ earlier) is) _ Us l' h₃.1 in
    let k = typed_inj h₄.3 in
    let w = found i.bytes z m b a (ap (find bound_name i.bytes) (sym ee) ∙ f) in
    let at_l : find bytes_of i.bytes l ≡ some w.0 = ap (find bytes_of i.bytes) e ∙ w.1 in
    let same : w.0 ≡ h₂.0 = cc h₂.1 in
    let may : w.0.settable ≡ true = ap (λ (c : Known). c.settable) same ∙ h₃.0 in
    let ty : w.0.type ≡ h₂.0.type = ap (λ (c : Known). c.type) same in
    let g : scope z (var b.number) ≡ some (settable h₂.0.type) = w.2 ∙ rw (may, ty) in
    subst (λ (V : Tys). MaySet (scope z) (var b.number ∷ ns) V) k.0 (may_more g (set_names z m r ee a l e h₄.0 h₄.1 h₄.2))

-- the first name is not linear, or it is spent
pub opened : (t : Tie) (z : List Tie) (m : List Bool) (s : List Known) → s ≡ marked (t ∷ z) m → open_first s ≡ none → linear t.type && not (head m) ≡ false
opened t z m s e h = go (linear t.type && not (head m)) (ap open_first (sym e) ∙ h)
  where
    go : (b : Bool) → cond b (some t.name.place) none ≡ none → b ≡ false
    go true k = never cc
    go false k = refl

agree_left : (z : List Tie) (m₁ m₂ : List Bool) (s₁ s₂ : List Known) → s₁ ≡ marked z m₁ → s₂ ≡ marked z m₂ → agree s₁ s₂ ≡ true → (n : Name) → avail z m₁ n ≡ avail z m₂ n
agree_left z m₁ m₂ s₁ s₂ e₁ e₂ h = agree_avail z m₁ m₂ (rw (← e₁, ← e₂) h)

-- the operations have the types of their signatures
abbrev pub Signs : List Signature → List Op → Type 0
Signs sigs ops = (f : ℕ) (g : Signature) → nth sigs f ≡ some g → (op : Op) × (nth ops f ≡ some op) × (g.types ≡ op.types) × (g.result ≡ op.result)

module _ (sigs : List Signature) (ops : List Op) (above : ℕ) where
  abbrev pub Typing : Scope → Uses → Term → Ty → Type 0
  Typing Γ Δ t T = (d : Has ops above Γ Δ t T) × Within d

  abbrev pub Finds : List Tie → List Tie → List Bool → Term → Ty → List Known → Type 0
  Finds z y m t T s = (m' : List Bool) × (s ≡ marked z m') × (Δ : Uses) × Typing (scope (z ++ y)) Δ t T × Divides (avail z m) Δ (avail z m')

  abbrev pub FindsAll : List Tie → List Tie → List Bool → Terms → Tys → List Known → Type 0
  FindsAll z y m ts Ts s =
      (m' : List Bool) × (s ≡ marked z m') × (Δ : Uses) × ((d : Parts ops above (scope (z ++ y)) Δ ts Ts) × WithinParts d) × Divides (avail z m) Δ (avail z m')

  abbrev pub FindsUnder : Bool → List Tie → List Tie → List Bool → List ℕ → Tys → Term → Ty → List Known → Type 0
  FindsUnder b z y m xs Ts t U s =
      (m' : List Bool) × (s ≡ marked z m') × (Δ : Uses) × ((d : Under ops above (as_bound b) (scope (z ++ y)) Δ xs Ts t U) × WithinUnder d) × Divides (avail z m) Δ (avail z m')

  retype : {Γ : Scope} {Δ : Uses} {t : Term} {T U : Ty} → T ≡ U → Typing Γ Δ t T → Typing Γ Δ t U
  retype {Γ} {Δ} {t} p h = subst (λ (V : Ty). Typing Γ Δ t V) p h

  reuse : {Γ : Scope} {Δ Δ' : Uses} {t : Term} {T : Ty} → Same Δ Δ' → Typing Γ Δ t T → Typing Γ Δ' t T
  reuse {Γ} {t = t} {T = T} s h = subst (λ (D : Uses). Typing Γ D t T) (fun_ext s) h

  as_found : (z y : List Tie) (m : List Bool) {t : Term} {T U : Ty} {s : List Known} → T ≡ U → Finds z y m t T s → Finds z y m t U s
  as_found z y m {t} {s = s} p f = subst (λ (V : Ty). Finds z y m t V s) p f

  name_found : (z y : List Tie) (m n : List Bool) (b : Bound) (i : Identifier) (k : Known) (T : Ty) (s' out s : List Known) → Apart (z ++ y) → out ≡ marked y n → s ≡ marked z m →
      find bound_name i.bytes (map bound (z ++ y)) ≡ some b → find bytes_of i.bytes (s ++ out) ≡ some k →
      cond (linear k.type) (asks is_unspent i.place (not k.spent) (asks is_inside i.place (not (among i.bytes (names_of out))) (typed k.type (mark i.bytes s)))) (typed k.type s) ≡ typed T s' →
      Finds z y m (Rattle.calculus.specs.Syntax.name i.place (var b.number)) T s'
  name_found z y m n b i k T s' out s a o e f g h = go (linear k.type) refl h
    where
      whole : s ++ out ≡ marked (z ++ y) (join z m n)
      whole = rw (e, o) (joined z y m n)

      binds : scope (z ++ y) (var b.number) ≡ some (as_bound k.settable k.type)
      binds =
          let w = found i.bytes (z ++ y) (join z m n) b a f in
          let q : find bytes_of i.bytes (s ++ out) ≡ some w.0 = ap (find bytes_of i.bytes) whole ∙ w.1 in
          let same : w.0 ≡ k = cc in w.2 ∙ rw same

      go : (l : Bool) → linear k.type ≡ l →
          cond l (asks is_unspent i.place (not k.spent) (asks is_inside i.place (not (among i.bytes (names_of out))) (typed k.type (mark i.bytes s)))) (typed k.type s) ≡ typed T s' →
          Finds z y m (Rattle.calculus.specs.Syntax.name i.place (var b.number)) T s'
      go true q h =
          let h₁ = asks_typed is_unspent i.place (not k.spent) _ T s' h in
          let h₂ = asks_typed is_inside i.place (not (among i.bytes (names_of out))) _ T s' h₁.1 in
          let j = typed_inj h₂.1 in
          let out_not : among i.bytes (names_of out) ≡ false = not_true _ h₂.0 in
          let ins = inside i.bytes z y n b (apart_later z y a) f (ap (λ (l : List Known). among i.bytes (names_of l)) (sym o) ∙ out_not) in
          let in_s : find bytes_of i.bytes s ≡ some k = found_inside bytes_of i.bytes s out k g out_not in
          let mk = marks i.bytes z m b k (apart_inner z y a) ins (ap (find bytes_of i.bytes) (sym e) ∙ in_s) q (not_true _ h₁.0) in
          let TIs : T ≡ k.type = sym j.0 in (
            mk.0,
            sym j.1 ∙ ap (mark i.bytes) e ∙ mk.1,
            once (var b.number),
            (has_name (as_bound k.settable k.type) binds (TIs ∙ sym (type_bound k.settable k.type)) (λ n. rw (TIs, q)), tt),
            mk.2,
          )
      go false q h =
          let j = typed_inj h in
          let TIs : T ≡ k.type = sym j.0 in (
            m,
            sym j.1 ∙ e,
            nothing,
            (has_name (as_bound k.settable k.type) binds (TIs ∙ sym (type_bound k.settable k.type)) (λ n. rw (TIs, q)), tt),
            λ n. omega arith,
          )

  no_uses : (z : List Tie) (m : List Bool) (Δ : Uses) → Divides (avail [] []) Δ (avail [] m) → (n : Name) → Δ n ≡ 0
  no_uses z m Δ d n = omega (arith, d n)

  module _ (signs : Signs sigs ops) where
    mutual
      pub sound : (z y : List Tie) (m n : List Bool) {env : List Bound} {t : Tree} {u : Term} → Resolves (op_names sigs) above env t u → env ≡ map bound (z ++ y) → Apart (z ++ y) → (out s : List Known) →
          out ≡ marked y n → s ≡ marked z m → (T : Ty) (s' : List Known) → ask sigs above out s t ≡ typed T s' → Finds z y m u T s'
      sound z y m n (res_constant {c = c}) ee a out s o e T s' h =
          let k = typed_inj h in
          (m, sym k.1 ∙ e, nothing, (has_give (sym k.0 ∙ constant_typed c) (λ n. constant_held c n), tt), λ n. omega arith)
      sound z y m n (res_name {i = i} b f) ee a out s o e T s' h =
          let g = given_typed is_known i.place (find bytes_of i.bytes (s ++ out)) _ T s' h in
          name_found z y m n b i g.0 T s' out s a o e (ap (find bound_name i.bytes) (sym ee) ∙ f) g.1 g.2
      sound z y m n (res_call {i = i} {ts = ts} f ps lt r) ee a out s o e T s' h =
          let h₁ = given_typed is_known i.place (position i.bytes (op_names sigs)) _ T s' h in
          let h₂ = given_typed is_known i.place (nth sigs h₁.0) _ T s' h₁.2 in
          let h₃ = asks_typed is_above i.place (ltb h₁.0 above) _ T s' h₂.2 in
          let h₄ = next_typed (ask_all sigs above out s ts) _ T s' h₃.1 in
          let h₅ = asks_typed types_fit i.place (same_all h₄.0 h₂.0.types) _ T s' h₄.3 in
          let j = typed_inj h₅.1 in
          let f_is : f ≡ h₁.0 = cc h₁.1 in
          let op = signs f h₂.0 (ap (nth sigs) f_is ∙ h₂.1) in
          let w = sound_all z y m n r ee a out s o e h₄.0 h₄.1 h₄.2 in (
            w.0,
            sym j.1 ∙ w.1,
            w.2,
            (has_build h₄.0 w.3.0 (op.0, lt, op.1, same_all_eq _ _ h₅.0 ∙ op.2, sym j.0 ∙ op.3), (w.3.1, tt)),
            w.4,
          )
      sound z y m n (res_meas {p = p} {t = t} r) ee a out s o e T s' h =
          let h₁ = next_typed (ask sigs above out s t) _ T s' h in
          let h₂ = asks_typed types_fit p (same h₁.0 qbit) _ T s' h₁.3 in
          let j = typed_inj h₂.1 in
          let w = sound z y m n r ee a out s o e h₁.0 h₁.1 h₁.2 in (
            w.0,
            sym j.1 ∙ w.1,
            w.2,
            (
              has_build (h₁.0 ∷ᵗ no_types) (parts_more w.2 nothing (λ n. omega arith) w.3.0 (parts_none (λ n. refl)))
                  (ap (λ (V : Ty). V ∷ᵗ no_types) (same_eq _ _ h₂.0), sym j.0),
              ((w.3.1, tt), tt),
            ),
            w.4,
          )
      sound z y m n (res_gate {p = p} {g = g} {ts = ts} r) ee a out s o e T s' h =
          let h₁ = next_typed (ask_all sigs above out s ts) _ T s' h in
          let h₂ = asks_typed types_fit p (same_all h₁.0 (qbits (width g))) _ T s' h₁.3 in
          let j = typed_inj h₂.1 in
          let w = sound_all z y m n r ee a out s o e h₁.0 h₁.1 h₁.2 in
          (w.0, sym j.1 ∙ w.1, w.2, (has_build h₁.0 w.3.0 (same_all_eq _ _ h₂.0, sym j.0), (w.3.1, tt)), w.4)
      sound z y m n (res_tuple {p = p} {ts = ts} r) ee a out s o e T s' h =
          let h₁ = next_typed (ask_all sigs above out s ts) _ T s' h in
          let h₂ = asks_typed few_leaves p (few h₁.0) _ T s' h₁.3 in
          let j = typed_inj h₂.1 in
          let w = sound_all z y m n r ee a out s o e h₁.0 h₁.1 h₁.2 in
          (w.0, sym j.1 ∙ w.1, w.2, (has_build h₁.0 w.3.0 (sym j.0, subst (λ (V : Ty). leaves V ≤ 8) j.0 (leb-true _ 8 h₂.0)), (w.3.1, leb-true _ 8 h₂.0)), w.4)
      sound z y m n (res_let {p = p} {is = is} {xs = xs} {e = e₀} {t = t} al r u) ee a out s o e T s' h =
          let h₁ = unless_typed is_new (first_taken (op_names sigs) (names_of (s ++ out)) (identifiers is)) _ T s' h in
          let h₂ = next_typed (ask sigs above out s e₀) _ T s' h₁.1 in
          let h₃ = given_typed types_fit p (spread is h₂.0) _ T s' h₂.3 in
          let h₄ = next_typed (ask sigs above out (bring false (identifiers is) h₃.0 h₂.1) t) _ T s' h₃.2 in
          let h₅ = unless_typed all_spent (first_open (length (identifiers is)) h₄.1) _ T s' h₄.3 in
          let j = typed_inj h₅.1 in
          let w = sound z y m n r ee a out s o e h₂.0 h₂.1 h₂.2 in
          let sp = spread_fits al h₂.0 h₃.0 h₃.1 in
          let v = sound_under false z y w.0 n u ee a out h₂.1 o w.1 h₃.0 sp.1 h₄.0 h₄.1 h₄.2 h₅.0 in
          let whole : Uses = λ n. w.2 n + v.2 n in
          as_found z y m j.0 (
            v.0,
            sym j.1 ∙ v.1,
            whole,
            (has_bind w.2 v.2 h₂.0 h₃.0 (λ n. refl) w.3.0 sp.0 v.3.0, (w.3.1, v.3.1)),
            λ n. omega (arith, w.4 n, v.4 n),
          )
      sound z y m n (res_mut {p = p} {is = is} {xs = xs} {e = e₀} {t = t} al r u) ee a out s o e T s' h =
          let h₁ = unless_typed is_new (first_taken (op_names sigs) (names_of (s ++ out)) (identifiers is)) _ T s' h in
          let h₂ = next_typed (ask sigs above (s ++ out) [] e₀) _ T s' h₁.1 in
          let h₃ = asks_typed types_fit p (not (linear h₂.0)) _ T s' h₂.3 in
          let h₄ = given_typed types_fit p (spread is h₂.0) _ T s' h₃.1 in
          let h₅ = next_typed (ask sigs above out (bring true (identifiers is) h₄.0 s) t) _ T s' h₄.2 in
          let h₆ = unless_typed all_spent (first_open (length (identifiers is)) h₅.1) _ T s' h₅.3 in
          let j = typed_inj h₆.1 in
          let all : s ++ out ≡ marked (z ++ y) (join z m n) = rw (e, o) (joined z y m n) in
          let w = sound [] (z ++ y) [] (join z m n) r ee a (s ++ out) [] all refl h₂.0 h₂.1 h₂.2 in
          let nil = no_uses z w.0 w.2 w.4 in
          let sp = spread_fits al h₂.0 h₄.0 h₄.1 in
          let v = sound_under true z y m n u ee a out s o e h₄.0 sp.1 h₅.0 h₅.1 h₅.2 h₆.0 in
          as_found z y m j.0 (
            v.0,
            sym j.1 ∙ v.1,
            v.2,
            (has_mut w.2 v.2 h₂.0 h₄.0 (λ n. omega (arith, nil n)) w.3.0 (λ x. nil (var x)) (not_true _ h₃.0) sp.0 v.3.0, (w.3.1, v.3.1)),
            v.4,
          )
      sound z y m n (res_set {p = p} {is = is} {ns = ns} {e = e₀} {t = t} al st r u) ee a out s o e T s' h =
          let h₁ = next_typed (targets (s ++ out) [] (identifiers is)) _ T s' h in
          let h₂ = next_typed (ask sigs above (s ++ out) [] e₀) _ T s' h₁.3 in
          let h₃ = given_typed types_fit p (spread is h₂.0) _ T s' h₂.3 in
          let h₄ = asks_typed types_fit p (same_all h₃.0 h₁.0) _ T s' h₃.2 in
          let all : s ++ out ≡ marked (z ++ y) (join z m n) = rw (e, o) (joined z y m n) in
          let may = set_names (z ++ y) (join z m n) st ee a (s ++ out) all h₁.0 h₁.1 h₁.2 in
          let w = sound [] (z ++ y) [] (join z m n) r ee a (s ++ out) [] all refl h₂.0 h₂.1 h₂.2 in
          let nil = no_uses z w.0 w.2 w.4 in
          let sp = spread_fits al h₂.0 h₃.0 h₃.1 in
          let v = sound z y m n u ee a out s o e T s' h₄.1 in
          let may' = subst (λ (V : Tys). MaySet (scope (z ++ y)) (names ns) V) (sym (same_all_eq _ _ h₄.0)) may in
          (v.0, v.1, v.2, (has_set w.2 v.2 h₂.0 h₃.0 (λ n. omega (arith, nil n)) w.3.0 (λ x. nil (var x)) sp.0 may' v.3.0, (w.3.1, v.3.1)), v.4)
      sound z y m n (res_using {p = p} {is = is} {xs = xs} {t = t} {t' = t'} al u) ee a out s o e T s' h =
          let h₁ = unless_typed is_new (first_taken (op_names sigs) (names_of (s ++ out)) (identifiers is)) _ T s' h in
          let h₂ = next_typed (ask sigs above out (bring false (identifiers is) (qbits (length (identifiers is))) s) t) _ T s' h₁.1 in
          let h₃ = unless_typed all_spent (first_open (length (identifiers is)) h₂.1) _ T s' h₂.3 in
          let j = typed_inj h₃.1 in
          let v = sound_under false z y m n u ee a out s o e (qbits (length (identifiers is))) (each_qbit (identifiers is)) h₂.0 h₂.1 h₂.2 h₃.0 in
          let v' = subst (λ (k : ℕ). FindsUnder false z y m (names xs) (qbits k) t' h₂.0 (without (length (identifiers is)) h₂.1)) (under_length u) v in
          as_found z y m j.0 (v'.0, sym j.1 ∙ v'.1, v'.2, (has_using v'.3.0, v'.3.1), v'.4)
      sound z y m n (res_if {p = p} {c = c} {t = t} {u = u} r r₁ r₂) ee a out s o e T s' h =
          let h₁ = next_typed (ask sigs above out s c) _ T s' h in
          let h₂ = asks_typed types_fit p (same h₁.0 bit) _ T s' h₁.3 in
          let h₃ = next_typed (ask sigs above out h₁.1 t) _ T s' h₂.1 in
          let h₄ = next_typed (ask sigs above out h₁.1 u) _ T s' h₃.3 in
          let h₅ = asks_typed types_fit p (same h₃.0 h₄.0) _ T s' h₄.3 in
          let h₆ = asks_typed branches_agree p (agree h₃.1 h₄.1) _ T s' h₅.1 in
          let j = typed_inj h₆.1 in
          let w = sound z y m n r ee a out s o e h₁.0 h₁.1 h₁.2 in
          let v = sound z y w.0 n r₁ ee a out h₁.1 o w.1 h₃.0 h₃.1 h₃.2 in
          let v' = sound z y w.0 n r₂ ee a out h₁.1 o w.1 h₄.0 h₄.1 h₄.2 in
          let left = agree_left z v.0 v'.0 h₃.1 h₄.1 v.1 v'.1 h₆.0 in
          let same_uses : Same v'.2 v.2 = λ n. omega (arith, v.4 n, v'.4 n, left n) in
          let c_typed = retype (same_eq _ _ h₂.0) w.3 in
          let u_typed = retype (sym (same_eq _ _ h₅.0)) (reuse same_uses v'.3) in
          let whole : Uses = λ n. w.2 n + v.2 n in
          as_found z y m j.0 (
            v.0,
            sym j.1 ∙ v.1,
            whole,
            (has_if w.2 v.2 (λ n. refl) c_typed.0 v.3.0 u_typed.0, (c_typed.1, (v.3.1, u_typed.1))),
            λ n. omega (arith, w.4 n, v.4 n),
          )

      pub sound_all : (z y : List Tie) (m n : List Bool) {env : List Bound} {ts : Trees} {us : Terms} → ResolvesAll (op_names sigs) above env ts us → env ≡ map bound (z ++ y) → Apart (z ++ y) → (out s : List Known) →
          out ≡ marked y n → s ≡ marked z m → (Ts : Tys) (s' : List Known) → ask_all sigs above out s ts ≡ typed Ts s' → FindsAll z y m us Ts s'
      sound_all z y m n {us = us} res_none ee a out s o e Ts s' h =
          let j = typed_inj h in
          subst (λ (V : Tys). FindsAll z y m us V s') j.0 (m, sym j.1 ∙ e, nothing, (parts_none (λ n. refl), tt), λ n. omega arith)
      sound_all z y m n {us = us} (res_more {t = t} {ts = ts} r rs) ee a out s o e Ts s' h =
          let h₁ = next_typed (ask sigs above out s t) _ Ts s' h in
          let h₂ = next_typed (ask_all sigs above out h₁.1 ts) _ Ts s' h₁.3 in
          let j = typed_inj h₂.3 in
          let w = sound z y m n r ee a out s o e h₁.0 h₁.1 h₁.2 in
          let v = sound_all z y w.0 n rs ee a out h₁.1 o w.1 h₂.0 h₂.1 h₂.2 in
          let whole : Uses = λ n. w.2 n + v.2 n in
          subst (λ (V : Tys). FindsAll z y m us V s') j.0 (
            v.0,
            sym j.1 ∙ v.1,
            whole,
            (parts_more w.2 v.2 (λ n. refl) w.3.0 v.3.0, (w.3.1, v.3.1)),
            λ n. omega (arith, w.4 n, v.4 n),
          )

      pub sound_under : (b : Bool) (z y : List Tie) (m n : List Bool) {env : List Bound} {is : List Identifier} {xs : List ℕ} {t : Tree} {u : Term} →
          ResolvesUnder (op_names sigs) above env is xs t u → env ≡ map bound (z ++ y) → Apart (z ++ y) → (out s : List Known) → out ≡ marked y n → s ≡ marked z m →
          (Ts : Tys) → one_each is Ts ≡ true → (U : Ty) (s₂ : List Known) → ask sigs above out (bring b is Ts s) t ≡ typed U s₂ → first_open (length is) s₂ ≡ none →
          FindsUnder b z y m xs Ts u U (without (length is) s₂)
      sound_under b z y m n (res_body r) ee a out s o e no_types q U s₂ h f =
          let w = sound z y m n r ee a out s o e U s₂ h in
          (w.0, w.1, w.2, (under_none w.3.0, w.3.1), w.4)
      sound_under b z y m n (res_body r) ee a out s o e (T ∷ᵗ Ts) q U s₂ h f = never cc
      sound_under b z y m n (res_bound tk nx r) ee a out s o e no_types q U s₂ h f = never cc
      sound_under b z y m n (res_bound {i = i} {is = is} {x = x} tk nx r) ee a out s o e (T ∷ᵗ Ts) q U s₂ h f =
          let t : Tie = record { name = i; type = T; settable = b; number = x } in
          let new = number_new (z ++ y) x (ap (numbered x) (sym ee) ∙ nx) in
          let f' = no_first (open_first (without (length is) s₂)) (first_open (length is) s₂) f in
          let w = sound_under b (t ∷ z) y (false ∷ m) n r (ap (λ (l : List Bound). bound t ∷ l) ee) (new, a) out (known t false ∷ s) o (ap (λ (l : List Known). known t false ∷ l) e) Ts q U s₂ h f'.1 in
          let shut = opened t z w.0 (without (length is) s₂) w.1 f'.0 in
          let c = closed t z y m w.0 w.2 new shut w.4 in
          (tail w.0, ap outer w.1, c.0, (under_more w.2 (new, c.1) c.2 w.3.0, w.3.1), c.3)
