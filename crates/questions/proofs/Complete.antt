-- What has a typing, the walk accepts.
use Rattle.std.proofs.Common.{◌≡◌, ℕ, suc, ◌+◌, ◌≤◌, Bool, true, false, cond, not, List, [], ◌∷◌, ◌++◌, map, length, sym, refl, ap, ◌∙◌, subst, arith, lt-ltb, leb-false}
use mathlib.Core.Option.{none, some}
use Rattle.syntax.specs.Trees.{Identifier, Pattern as TreePattern, Tree, Trees}
use Rattle.calculus.specs.Syntax.{Ty, bit, qbit, tuple, Tys, leaves_all, linear, Name, var, entry, handle, Pattern, names, Op, Term, Terms}
use Rattle.calculus.specs.Rules.{Uses, Same, Divides, spent, Binding, settable, type, Scope, extend, NoVar, Spread, qbits, nth, MaySet, may_none, may_more, Has, has_give}
use Rattle.calculus.specs.Rules.{has_name, has_build, has_bind, has_mut, has_set, has_using, has_if, Parts, parts_none, parts_more, Under, under_none, under_more}
use Rattle.calculus.proofs.Names.{never, is_refl}
use Rattle.questions.specs.Names.{find, among}
use Rattle.questions.specs.Types.{few}
use Rattle.questions.specs.Questions.{few_leaves, is_new, is_known, is_above, is_unspent, is_inside, types_fit, is_settable, branches_agree, all_spent, Known, typed, asks}
use Rattle.questions.specs.Walk.{Signature, op_names, bytes_of, identifiers, mark, one_each, spread, bring, outer, without, open_first, first_open, targets, agree, names_of, ask}
use Rattle.questions.specs.Walk.{ask_all, first_taken, use_name, close}
use Rattle.questions.specs.Resolves.{Bound, bound_name, numbered, Alike, alike_one, alike_several, Sets, sets_none, sets_more, Resolves, res_constant, res_name, res_call, res_meas, res_gate, res_tuple}
use Rattle.questions.specs.Resolves.{res_let, res_mut, res_set, res_using, res_if, ResolvesAll, res_none, res_more, ResolvesUnder, res_body, res_bound}
use Rattle.questions.specs.Limits.{Within, WithinParts, WithinUnder}
use Rattle.questions.proofs.Chains.{Outcome, accepts, overflows, and_then, pass_next, pass_given, pass_asks, pass_unless, weaken, same_limit, same_walk, next_go, given_go, asks_go, unless_go, not_false, first_go, same_refl, same_all_refl, same_of, same_all_of}
use Rattle.questions.proofs.Ties.{Tie, as_bound, known, bound, tail, marked, scope, avail, Apart, join, joined, unfound, found, is_some, among_find, marks, apart_inner, number_new}
use Rattle.questions.proofs.Ties.{found_inside, same_names, avail_text, brought, none_open, left_over, absent, hand_inside, hand_unspent, avail_agree}
use Rattle.questions.proofs.Sound.{constant_typed, constant_held, type_bound, under_length}

-- the names of a pattern are new
pub new_names : {ops : List (List ℕ)} {above : ℕ} {env : List Bound} {is : List Identifier} {xs : List ℕ} {t : Tree} {u : Term} → ResolvesUnder ops above env is xs t u →
    first_taken ops (map bound_name env) is ≡ none
new_names (res_body r) = refl
new_names (res_bound tk nx r) = rw tk (new_names r)

pub new_here : (ops : List (List ℕ)) {above : ℕ} (z : List Tie) (m : List Bool) {env : List Bound} {is : List Identifier} {xs : List ℕ} {t : Tree} {u : Term} →
    ResolvesUnder ops above env is xs t u → env ≡ map bound z → (l : List Known) → l ≡ marked z m → first_taken ops (names_of l) is ≡ none
new_here ops z m {is = is} r ee l e =
    let same : names_of l ≡ map bound_name _ = ap names_of e ∙ sym (ap (map bound_name) ee ∙ same_names z m) in
    ap (λ (ns : List (List ℕ)). first_taken ops ns is) same ∙ new_names r

-- one type for each name
pub under_each : {names : List (List ℕ)} {above : ℕ} {env : List Bound} {is : List Identifier} {xs : List ℕ} {t : Tree} {u : Term} → ResolvesUnder names above env is xs t u →
    {ops : List Op} {as_b : Ty → Binding} {Γ : Scope} {Δ : Uses} {Ts : Tys} {U : Ty} → Under ops above as_b Γ Δ xs Ts u U → one_each is Ts ≡ true
under_each (res_body r) (under_none h) = refl
under_each (res_bound tk nx r) (under_more Δ' nw d u) = under_each r u

pub set_each : {env : List Bound} {earlier : List (List ℕ)} {is : List Identifier} {ns : List Name} → Sets env earlier is ns → {Γ : Scope} {Ts : Tys} → MaySet Γ ns Ts → one_each is Ts ≡ true
set_each sets_none may_none = refl
set_each (sets_more b un f r) (may_more g ms) = set_each r ms

pub spread_go : {N : Type 0} {is : TreePattern} {xs : Pattern N} → Alike is xs → (T : Ty) (Ts : Tys) → Spread xs T Ts → one_each (identifiers is) Ts ≡ true → spread is T ≡ some Ts
spread_go alike_one T Ts e q = ap some (sym e)
spread_go (alike_several {is = is}) T Ts e q = rw (e, q)

settable_is : (b : Bool) (T U : Ty) → as_bound b T ≡ settable U → (b ≡ true) × (T ≡ U)
settable_is true T U h = (refl, cc)
settable_is false T U h = never cc

-- the names of a set pattern
pub set_targets : (z : List Tie) (m : List Bool) {env : List Bound} {earlier : List (List ℕ)} {is : List Identifier} {ns : List Name} → Sets env earlier is ns → env ≡ map bound z → Apart z →
    {Us : Tys} → MaySet (scope z) ns Us → targets (marked z m) earlier is ≡ typed Us (marked z m)
set_targets z m sets_none ee a may_none = refl
set_targets z m (sets_more {earlier = earlier} {i = i} {is = is} b un f r) ee a (may_more {T = T} g ms) =
    let w = found i.bytes z m b a (ap (find bound_name i.bytes) (sym ee) ∙ f) in
    let s : as_bound w.0.settable w.0.type ≡ settable T = cc w.2 in
    let k = settable_is w.0.settable w.0.type T s in
    asks_go is_new i.place (not_false _ un) (given_go is_known i.place _ w.1 (asks_go is_settable i.place k.0 (next_go _ (set_targets z m r ee a ms) (rw k.1))))

pub none_of : (z : List Tie) (m : List Bool) (Δ Δ₁ Δ₂ : Uses) → Divides Δ Δ₁ Δ₂ → ((n : Name) → Δ n ≤ avail z m n) → NoVar Δ₁ → (n : Name) → Δ₁ n ≡ 0
none_of z m Δ Δ₁ Δ₂ d le nv (var x) = nv x
none_of z m Δ Δ₁ Δ₂ d le nv (entry k) = omega (arith, d (entry k), le (entry k), (avail_text z m k).0)
none_of z m Δ Δ₁ Δ₂ d le nv (handle k) = omega (arith, d (handle k), le (handle k), (avail_text z m k).1)

abbrev pub Signed : List Signature → List Op → Type 0
Signed sigs ops = (f : ℕ) (op : Op) → nth ops f ≡ some op → (g : Signature) × (nth sigs f ≡ some g) × (op.types ≡ g.types) × (op.result ≡ g.result)

module _ (sigs : List Signature) (ops : List Op) (above : ℕ) where
  abbrev pub Accepts : List Tie → List Tie → List Bool → List Bool → Uses → Tree → Ty → Type 0
  Accepts z y m n Δ t T = (m' : List Bool) × (ask sigs above (marked y n) (marked z m) t ≡ typed T (marked z m')) × Divides (avail z m) Δ (avail z m')

  name_accepted : (z y : List Tie) (m n : List Bool) (b : Bound) (i : Identifier) (Δ : Uses) (T : Ty) (c : Binding) → Apart (z ++ y) → find bound_name i.bytes (map bound (z ++ y)) ≡ some b →
      scope (z ++ y) (var b.number) ≡ some c → T ≡ type c → Same Δ (spent T (var b.number)) → ((n : Name) → Δ n ≤ avail z m n) → Accepts z y m n Δ (Rattle.syntax.specs.Trees.named i) T
  name_accepted z y m n b i Δ T c a f g q sm le = go (linear T) refl
    where
      w : (k : Known) × (find bytes_of i.bytes (marked (z ++ y) (join z m n)) ≡ some k) × (scope (z ++ y) (var b.number) ≡ some (as_bound k.settable k.type))
      w = found i.bytes (z ++ y) (join z m n) b a f

      at_all : find bytes_of i.bytes (marked z m ++ marked y n) ≡ some w.0
      at_all = ap (find bytes_of i.bytes) (joined z y m n) ∙ w.1

      TIs : w.0.type ≡ T
      TIs = let s : as_bound w.0.settable w.0.type ≡ c = cc w.2 in sym (type_bound w.0.settable w.0.type) ∙ ap type s ∙ sym q

      go : (l : Bool) → linear T ≡ l → Accepts z y m n Δ (Rattle.syntax.specs.Trees.named i) T
      go true l =
          let one' : spent T (var b.number) (var b.number) ≡ 1 = rw (l, is_refl (var b.number)) in
          let hand : 1 ≤ avail z m (var b.number) = omega (arith, le (var b.number), sm (var b.number)) in
          let ins = hand_inside i.bytes z y m n b a f hand in
          let out_not : among i.bytes (names_of (marked y n)) ≡ false = among_find bytes_of i.bytes (marked y n) ∙ ap is_some (unfound i.bytes y n ins.0) in
          let in_s = found_inside bytes_of i.bytes (marked z m) (marked y n) w.0 at_all out_not in
          let uns = hand_unspent i.bytes z y m b w.0 a ins.1 in_s hand in
          let lin : linear w.0.type ≡ true = ap linear TIs ∙ l in
          let mk = marks i.bytes z m b w.0 (apart_inner z y a) ins.1 in_s lin uns in
          (mk.0, given_go is_known i.place _ at_all (spends w.0 mk.0 lin (not_false _ uns) (not_false _ out_not) TIs mk.1), λ n. mk.2 n ∙ ap (λ (k : ℕ). k + avail z mk.0 n) (sym (sm n ∙ rw l)))
        where
          spends : (k : Known) (m' : List Bool) → linear k.type ≡ true → not k.spent ≡ true → not (among i.bytes (names_of (marked y n))) ≡ true → k.type ≡ T → mark i.bytes (marked z m) ≡ marked z m' →
              cond (linear k.type) (asks is_unspent i.place (not k.spent) (asks is_inside i.place (not (among i.bytes (names_of (marked y n)))) (typed k.type (mark i.bytes (marked z m)))))
              (typed k.type (marked z m)) ≡ typed T (marked z m')
          spends k m' l u o q r = rw (l, u, o, q, r)
      go false l =
          let lin : linear w.0.type ≡ false = ap linear TIs ∙ l in
          let none_used : (n : Name) → Δ n ≡ 0 = λ n. sm n ∙ rw l in
          (m, given_go is_known i.place _ at_all (rw (lin, TIs)), λ n. omega (arith, none_used n))

  -- the marks that are left: what was used is spent
  abbrev pub Left : List Tie → List Bool → Uses → List Known → Type 0
  Left z m Δ s = (m' : List Bool) × (s ≡ marked z m') × Divides (avail z m) Δ (avail z m')

  -- the same once the innermost k names, none of them open, have left the scope
  abbrev pub LeftUnder : ℕ → List Tie → List Bool → Uses → List Known → Type 0
  LeftUnder k z m Δ s = (m' : List Bool) × (first_open k s ≡ none) × (without k s ≡ marked z m') × Divides (avail z m) Δ (avail z m')

  -- one more name leaves the scope
  leaves_one : (t : Tie) (z y : List Tie) (m : List Bool) (Δ Δ' : Uses) (k : ℕ) (s : List Known) → scope (z ++ y) (var t.number) ≡ none → Divides Δ' Δ (spent t.type (var t.number)) →
      Δ (var t.number) ≡ 0 → (m' : List Bool) → first_open k s ≡ none → without k s ≡ marked (t ∷ z) m' → Divides (avail (t ∷ z) (false ∷ m)) Δ' (avail (t ∷ z) m') → LeftUnder (suc k) z m Δ s
  leaves_one t z y m Δ Δ' k s new dv nw m' f e d =
      let x = t.number in
      let shut = none_open t z m' (omega (arith, d (var x), brought t z m (var x), dv (var x), nw, absent z y m x new)) in
      let left = left_over t z m' shut in
      (tail m', first_go (ap open_first e ∙ rw shut) f, ap outer e, λ n. omega (arith, d n, brought t z m n, dv n, left n))

  whole : (z y : List Tie) (m n : List Bool) (out s : List Known) → out ≡ marked y n → s ≡ marked z m → s ++ out ≡ marked (z ++ y) (join z m n)
  whole z y m n out s o e = rw (e, o) (joined z y m n)

  tuple_end : (p : ℕ) (Ts : Tys) (T : Ty) (s : List Known) {G : List Known → Type 0} {W : Type 0} → T ≡ tuple Ts → (W → leaves_all Ts ≤ 8) → G s →
      Outcome (asks few_leaves p (few Ts) (typed (tuple Ts) s)) T G W
  tuple_end p Ts T s {G} {W} e f g = go (few Ts) refl
    where
      go : (b : Bool) → few Ts ≡ b → Outcome (asks few_leaves p b (typed (tuple Ts) s)) T G W
      go true q = accepts s (ap (λ (V : Ty). typed V s) (sym e)) g
      go false q = overflows p refl (λ w. omega (arith, f w, leb-false (leaves_all Ts) 8 q))

  closes : {W : Type 0} (k : ℕ) (U : Ty) (s : List Known) (z : List Tie) (m : List Bool) (Δ : Uses) → (m' : List Bool) → first_open k s ≡ none → without k s ≡ marked z m' → Divides (avail z m) Δ (avail z m') →
      Outcome (close k U s) U (Left z m Δ) W
  closes k U s z m Δ m' f e d = accepts (without k s) (unless_go all_spent f refl) (m', e, d)

  module _ (signed : Signed sigs ops) where
    mutual
      pub complete : (z y : List Tie) (m n : List Bool) {env : List Bound} {t : Tree} {u : Term} → Resolves (op_names sigs) above env t u → env ≡ map bound (z ++ y) → Apart (z ++ y) →
          (Δ : Uses) (T : Ty) (Γ : Scope) → Γ ≡ scope (z ++ y) → (d : Has ops above Γ Δ u T) → (out s : List Known) → out ≡ marked y n → s ≡ marked z m → ((n : Name) → Δ n ≤ avail z m n) →
          Outcome (ask sigs above out s t) T (Left z m Δ) (Within d)
      complete z y m n (res_constant {c = c}) ee a Δ T Γ ge (has_give q k) out s o e le =
          accepts s (ap (λ (V : Ty). typed V s) (constant_typed c ∙ sym q)) (m, e, λ n. omega (arith, k n, constant_held c n))
      complete z y m n (res_name {i = i} b f) ee a Δ T Γ ge (has_name c g q k) out s o e le =
          let w = name_accepted z y m n b i Δ T c a (ap (find bound_name i.bytes) (sym ee) ∙ f) (ap (λ (G : Scope). G (var b.number)) (sym ge) ∙ g) q k le in
          accepts (marked z w.0) ((λ j. use_name (o j) (e j) i) ∙ w.1) (w.0, refl, w.2)
      complete z y m n (res_call {i = i} f ps lt r) ee a Δ T Γ ge (has_build Ts pts fits) out s o e le =
          let g = signed f fits.0 fits.2 in
          pass_given is_known i.place _ ps (pass_given is_known i.place _ g.1 (pass_asks is_above i.place (lt-ltb f above lt)
          (and_then _ (complete_all z y m n r ee a Δ Ts Γ ge pts out s o e le) (λ w. w.0) (λ s' G. pass_asks types_fit i.place (same_all_of (fits.3 ∙ g.2))
          (accepts s' (ap (λ (V : Ty). typed V s') (sym (fits.4 ∙ g.3))) G)))))
      complete z y m n (res_meas {p = p} r) ee a Δ T Γ ge (has_build Ts (parts_more {T = T₁} Δ₁ Δ₂ dv h (parts_none z₂)) fits) out s o e le =
          let T₁-is : T₁ ≡ qbit = cc fits.0 in
          and_then _ (complete z y m n r ee a Δ₁ T₁ Γ ge h out s o e (λ n. omega (arith, le n, dv n))) (λ w. w.0.0) (λ s' G. pass_asks types_fit p (same_of T₁-is)
          (accepts s' (ap (λ (V : Ty). typed V s') (sym fits.1)) (G.0, G.1, λ n. omega (arith, G.2 n, dv n, z₂ n))))
      complete z y m n (res_gate {p = p} r) ee a Δ T Γ ge (has_build Ts pts fits) out s o e le =
          and_then _ (complete_all z y m n r ee a Δ Ts Γ ge pts out s o e le) (λ w. w.0) (λ s' G. pass_asks types_fit p (same_all_of fits.0)
          (accepts s' (ap (λ (V : Ty). typed V s') (sym fits.1)) G))
      complete z y m n (res_tuple {p = p} r) ee a Δ T Γ ge (has_build Ts pts fits) out s o e le =
          and_then _ (complete_all z y m n r ee a Δ Ts Γ ge pts out s o e le) (λ w. w.0) (λ s' G. tuple_end p Ts T s' fits.0 (λ w. w.1) G)
      complete z y m n (res_let {p = p} {is = is} al r u) ee a Δ U Γ ge (has_bind Δ₁ Δ₂ T Ts dv h sp ud) out s o e le =
          pass_unless is_new (new_here (op_names sigs) (z ++ y) (join z m n) u ee (s ++ out) (whole z y m n out s o e))
          (and_then _ (complete z y m n r ee a Δ₁ T Γ ge h out s o e (λ n. omega (arith, le n, dv n))) (λ w. w.0) (λ s' G.
          pass_given types_fit p _ (spread_go al T Ts sp (under_each u ud))
          (and_then _ (complete_under false z y G.0 n u ee a Δ₂ Ts U Γ ge ud out s' o G.1 (λ n. omega (arith, le n, dv n, G.2 n))) (λ w. w.1) (λ s₂ H.
          closes (length (identifiers is)) U s₂ z m Δ H.0 H.1 H.2 (λ n. omega (arith, G.2 n, H.3 n, dv n))))))
      complete z y m n (res_mut {p = p} {is = is} al r u) ee a Δ U Γ ge (has_mut Δ₁ Δ₂ T Ts dv h nv dup sp ud) out s o e le =
          let nil = none_of z m Δ Δ₁ Δ₂ dv le nv in
          let all = whole z y m n out s o e in
          pass_unless is_new (new_here (op_names sigs) (z ++ y) (join z m n) u ee (s ++ out) all)
          (and_then _ (complete [] (z ++ y) [] (join z m n) r ee a Δ₁ T Γ ge h (s ++ out) [] all refl (λ n. omega (arith, nil n))) (λ w. w.0) (λ s' G.
          pass_asks types_fit p (not_false _ dup) (pass_given types_fit p _ (spread_go al T Ts sp (under_each u ud))
          (and_then _ (complete_under true z y m n u ee a Δ₂ Ts U Γ ge ud out s o e (λ n. omega (arith, le n, dv n))) (λ w. w.1) (λ s₂ H.
          closes (length (identifiers is)) U s₂ z m Δ H.0 H.1 H.2 (λ n. omega (arith, H.3 n, dv n, nil n)))))))
      complete z y m n (res_set {p = p} {is = is} {ns = ns} al st r u) ee a Δ U Γ ge (has_set Δ₁ Δ₂ T Ts dv h nv sp ms ud) out s o e le =
          let nil = none_of z m Δ Δ₁ Δ₂ dv le nv in
          let all = whole z y m n out s o e in
          let ms' = subst (λ (G : Scope). MaySet G (names ns) Ts) ge ms in
          pass_next _ (ap (λ (l : List Known). targets l [] (identifiers is)) all ∙ set_targets (z ++ y) (join z m n) st ee a ms')
          (and_then _ (complete [] (z ++ y) [] (join z m n) r ee a Δ₁ T Γ ge h (s ++ out) [] all refl (λ n. omega (arith, nil n))) (λ w. w.0) (λ s' G.
          pass_given types_fit p _ (spread_go al T Ts sp (set_each st ms)) (pass_asks types_fit p (same_all_refl Ts)
          (same_limit (λ w. w.1) (complete z y m n u ee a Δ₂ U Γ ge ud out s o e (λ n. omega (arith, le n, dv n))) (λ s₂ H. (H.0, H.1, λ n. omega (arith, H.2 n, dv n, nil n)))))))
      complete z y m n (res_using {is = is} {xs = xs} {t = t} al u) ee a Δ U Γ ge (has_using ud) out s o e le =
          let ks : qbits (length (names xs)) ≡ qbits (length (identifiers is)) = ap qbits (sym (under_length u)) in
          pass_unless is_new (new_here (op_names sigs) (z ++ y) (join z m n) u ee (s ++ out) (whole z y m n out s o e))
          (and_then _ (same_walk (ap (λ (Vs : Tys). ask sigs above out (bring false (identifiers is) Vs s) t) ks) (complete_under false z y m n u ee a Δ (qbits (length (names xs))) U Γ ge ud out s o e le)) (λ w. w) (λ s₂ H.
          closes (length (identifiers is)) U s₂ z m Δ H.0 H.1 H.2 H.3))
      complete z y m n (res_if {p = p} r r₁ r₂) ee a Δ U Γ ge (has_if Δ₁ Δ₂ dv h h₁ h₂) out s o e le =
          and_then _ (complete z y m n r ee a Δ₁ bit Γ ge h out s o e (λ n. omega (arith, le n, dv n))) (λ w. w.0) (λ s' G.
          pass_asks types_fit p refl (and_then _ (complete z y G.0 n r₁ ee a Δ₂ U Γ ge h₁ out s' o G.1 (λ n. omega (arith, le n, dv n, G.2 n))) (λ w. w.1.0) (λ s₁ G₁.
          and_then _ (complete z y G.0 n r₂ ee a Δ₂ U Γ ge h₂ out s' o G.1 (λ n. omega (arith, le n, dv n, G.2 n))) (λ w. w.1.1) (λ s₂ G₂.
          pass_asks types_fit p (same_refl U) (pass_asks branches_agree p ((λ j. agree (G₁.1 j) (G₂.1 j)) ∙ avail_agree z y G₁.0 G₂.0 a (λ n. omega (arith, G₁.2 n, G₂.2 n)))
          (accepts s₁ refl (G₁.0, G₁.1, λ n. omega (arith, G.2 n, G₁.2 n, dv n))))))))

      pub complete_all : (z y : List Tie) (m n : List Bool) {env : List Bound} {ts : Trees} {us : Terms} → ResolvesAll (op_names sigs) above env ts us → env ≡ map bound (z ++ y) → Apart (z ++ y) →
          (Δ : Uses) (Ts : Tys) (Γ : Scope) → Γ ≡ scope (z ++ y) → (d : Parts ops above Γ Δ us Ts) → (out s : List Known) → out ≡ marked y n → s ≡ marked z m → ((n : Name) → Δ n ≤ avail z m n) →
          Outcome (ask_all sigs above out s ts) Ts (Left z m Δ) (WithinParts d)
      complete_all z y m n res_none ee a Δ Ts Γ ge (parts_none k) out s o e le = accepts s refl (m, e, λ n. omega (arith, k n))
      complete_all z y m n (res_more r rs) ee a Δ Ts Γ ge (parts_more {T = T} {Ts = Us} Δ₁ Δ₂ dv h ps) out s o e le =
          and_then _ (complete z y m n r ee a Δ₁ T Γ ge h out s o e (λ n. omega (arith, le n, dv n))) (λ w. w.0) (λ s' G.
          and_then _ (complete_all z y G.0 n rs ee a Δ₂ Us Γ ge ps out s' o G.1 (λ n. omega (arith, le n, dv n, G.2 n))) (λ w. w.1) (λ s₂ H.
          accepts s₂ refl (H.0, H.1, λ n. omega (arith, G.2 n, H.2 n, dv n))))

      pub complete_under : (b : Bool) (z y : List Tie) (m n : List Bool) {env : List Bound} {is : List Identifier} {xs : List ℕ} {t : Tree} {u : Term} →
          ResolvesUnder (op_names sigs) above env is xs t u → env ≡ map bound (z ++ y) → Apart (z ++ y) → (Δ : Uses) (Ts : Tys) (U : Ty) (Γ : Scope) → Γ ≡ scope (z ++ y) →
          (d : Under ops above (as_bound b) Γ Δ xs Ts u U) → (out s : List Known) → out ≡ marked y n → s ≡ marked z m → ((n : Name) → Δ n ≤ avail z m n) →
          Outcome (ask sigs above out (bring b is Ts s) t) U (LeftUnder (length is) z m Δ) (WithinUnder d)
      complete_under b z y m n (res_body r) ee a Δ Ts U Γ ge (under_none h) out s o e le =
          weaken (complete z y m n r ee a Δ U Γ ge h out s o e le) (λ s' G. (G.0, refl, G.1, G.2))
      complete_under b z y m n (res_bound {i = i} {is = is} {x = x} tk nx r) ee a Δ Ts U Γ ge (under_more {T = T} {Ts = Us} Δ' nw dv ud) out s o e le =
          let t : Tie = record { name = i; type = T; settable = b; number = x } in
          let new = number_new (z ++ y) x (ap (numbered x) (sym ee) ∙ nx) in
          weaken (complete_under b (t ∷ z) y (false ∷ m) n r (ap (λ (l : List Bound). bound t ∷ l) ee) (new, a) Δ' Us U (extend Γ x (as_bound b T)) (ap (λ (G : Scope). extend G x (as_bound b T)) ge) ud
          out (known t false ∷ s) o (ap (λ (l : List Known). known t false ∷ l) e) (λ n. omega (arith, brought t z m n, dv n, le n)))
          (λ s' H. leaves_one t z y m Δ Δ' (length is) s' new dv nw.1 H.0 H.1 H.2 H.3)
