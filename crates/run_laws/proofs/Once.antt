-- At most one term is read off a state.
use Rattle.std.proofs.Common.{◌≡◌, ℕ, zero, suc, ◌+◌, ◌-◌, ◌<◌, ◌≤◌, Bool, true, false, ltb, List, [], ◌∷◌, ◌++◌, map, length, sym, refl, ap, ◌∙◌, subst, arith, ltb-false, ltb-true, ne_eqb}
use mathlib.Core.Option.{Option, none, some}
use Rattle.grammar.specs.declared.tree.Range.{Range}
use Rattle.grammar.specs.declared.tree.Binder.{Binder}
use Rattle.grammar.specs.declared.tree.Binder.TheVariants.{Let, Mut, Set}
use Rattle.programs.specs.declared.program.Node.{Node}
use Rattle.calculus.specs.Syntax.{Ty, Tys, Name, var, Value, names, Form, Place, Op, Term, name, build, bind, mut, set, using_in, if_else, Terms, ◌∷ˢ◌}
use Rattle.calculus.specs.Rules.{Uses, Binding, settable, Scope, extend, nth, MaySet, may_more, Has, has_name, has_build, has_bind, has_mut, has_set, has_using, has_if, Parts, parts_more, Under, under_none, under_more}
use Rattle.calculus.specs.Steps.{Table, around}
use Rattle.calculus.proofs.Names.{never}
use Rattle.run_laws.specs.Programs.{Code, form, range, within, entries, pattern, bind_term, Own, Named, Shape, shape_constant, shape_use, shape_built, shape_bind, shape_using, shape_if, Listed, listed_none, listed_more}
use Rattle.run_laws.specs.Reads.{Standing, valued, mutable, Env, as_term, as_name, close, close_all, closed_bind, front, Frame, Waits, waits_part, waits_bind, waits_if, Suits, Within}
use Rattle.run_laws.specs.Reads.{Around, whole, inside, Tied, Focused, Reads, reads_node, reads_value, Typed}
use Rattle.run_laws.proofs.Closing.{names_pattern, close_bind, own_entries}
use Rattle.run_laws.proofs.Frames.{within_low, within_at, front_typed, middle}

-- a node is one term
mutual
  pub shape_once : {P : Code} {i : ℕ} {nd : Node} {t t' : Term} → Shape P i nd t → Shape P i nd t' → t ≡ t'
  shape_once shape_constant shape_constant = refl
  shape_once shape_use shape_use = refl
  shape_once {P} (shape_built {i} {f} l) (shape_built l') = ap (build (P.place i) (form f)) (listed_once l l')
  shape_once {P} (shape_bind {i} {w = w} {r = r} le lb lr lk nm me mb) (shape_bind le' lb' lr' lk' nm' me' mb') = λ j. bind_term w (P.place i) (entries P r) (shape_once me me' j) (shape_once mb mb' j)
  shape_once {P} (shape_using {i} {r = r} lb lr lk own mb) (shape_using lb' lr' lk' own' mb') = ap (using_in (P.place i) (pattern (within r))) (shape_once mb mb')
  shape_once {P} (shape_if {i} lc ly ln mc my mn) (shape_if lc' ly' ln' mc' my' mn') = λ j. if_else (P.place i) (shape_once mc mc' j) (shape_once my my' j) (shape_once mn mn' j)

  pub listed_once : {P : Code} {i a z : ℕ} {ts ts' : Terms} → Listed P i a z ts → Listed P i a z ts' → ts ≡ ts'
  listed_once (listed_none e) (listed_none e') = refl
  listed_once (listed_none e) (listed_more l ld md rest) = absurd (omega (arith, e, l))
  listed_once (listed_more l ld md rest) (listed_none e) = absurd (omega (arith, e, l))
  listed_once (listed_more l ld md rest) (listed_more l' ld' md' rest') = λ j. shape_once md md' j ∷ˢ listed_once rest rest' j

-- no name of the text above n is in scope
abbrev Outside : ℕ → Scope → Type 0
Outside n Γ = (x : ℕ) → n < x → Γ (var x) ≡ none

around_outside : (n : ℕ) (μ : Table) → Outside n (around μ)
around_outside n μ x l = refl

extend_outside : (n : ℕ) (Γ : Scope) (x : ℕ) (b : Binding) → x ≤ n → Outside n Γ → Outside n (extend Γ x b)
extend_outside n Γ x b h o y l = rw (ne_eqb x y (λ e. omega (arith, e, h, l))) (o y l)

-- what is under the binders of names up to n
record Inner (ops : List Op) (lim n : ℕ) (t : Term) : Type 0 where
  scope : Scope
  uses : Uses
  ty : Ty
  outside : Outside n scope
  has : Has ops lim scope uses t ty

under_inner : {ops : List Op} {lim : ℕ} {as_bound : Ty → Binding} {t : Term} {U : Ty} (n c x : ℕ) {Γ : Scope} {Δ : Uses} {Ts : Tys} → x + c ≤ suc n → Outside n Γ →
    Under ops lim as_bound Γ Δ (range x c) Ts t U → Inner ops lim n t
under_inner n zero x {Γ} le o (under_none h) = record { scope = Γ; uses = _; ty = _; outside = o; has = h }
under_inner {as_bound = as_bound} n (suc c) x {Γ} le o (under_more {T = T} Δ' new d u) =
    under_inner n c (suc x) {Γ = extend Γ x (as_bound T)} (omega (arith, le)) (extend_outside n Γ x (as_bound T) (omega (arith, le)) o) u

record InnerParts (ops : List Op) (lim n : ℕ) (ts : Terms) : Type 0 where
  scope : Scope
  uses : Uses
  tys : Tys
  outside : Outside n scope
  has : Parts ops lim scope uses ts tys

module _ {ops : List Op} {lim n : ℕ} where
  row_inner : (P : Code) (m : Bool) (r : Range) {as_bound : Ty → Binding} {Γ : Scope} {Δ : Uses} {Ts : Tys} {t : Term} {U : Ty} → r.first ≤ r.end → r.end ≤ n → Own P m r → Outside n Γ →
      Under ops lim as_bound Γ Δ (names (pattern (entries P r))) Ts t U → Inner ops lim n t
  row_inner P m r {as_bound} {Γ} {Δ} {Ts} {t} {U} lr ln own o u =
      under_inner n (r.end - r.first) r.first (omega (arith, lr, ln)) o
      (subst (λ (xs : List ℕ). Under ops lim as_bound Γ Δ xs Ts t U) (names_pattern (entries P r) ∙ own_entries P r.first (r.end - r.first) (λ y l h. (own y l (omega (arith, h, lr))).0)) u)

  let_inner : (P : Code) (r : Range) {p : Place} {e u : Term} → r.first ≤ r.end → r.end ≤ n → Own P false r → Inner ops lim n (bind p (pattern (entries P r)) e u) → Inner ops lim n e × Inner ops lim n u
  let_inner P r {p} {e} {u} lr ln own i = go i.has
    where
      go : {Δ : Uses} {U : Ty} → Has ops lim i.scope Δ (bind p (pattern (entries P r)) e u) U → Inner ops lim n e × Inner ops lim n u
      go (has_bind Δ₁ Δ₂ T Ts d h sp un) = (record { scope = i.scope; uses = Δ₁; ty = T; outside = i.outside; has = h }, row_inner P false r lr ln own i.outside un)

  mut_inner : (P : Code) (r : Range) {p : Place} {e u : Term} → r.first ≤ r.end → r.end ≤ n → Own P true r → Inner ops lim n (mut p (pattern (entries P r)) e u) → Inner ops lim n e × Inner ops lim n u
  mut_inner P r {p} {e} {u} lr ln own i = go i.has
    where
      go : {Δ : Uses} {U : Ty} → Has ops lim i.scope Δ (mut p (pattern (entries P r)) e u) U → Inner ops lim n e × Inner ops lim n u
      go (has_mut Δ₁ Δ₂ T Ts d h nv dup sp un) = (record { scope = i.scope; uses = Δ₁; ty = T; outside = i.outside; has = h }, row_inner P true r lr ln own i.outside un)

  set_inner : (ns : List Name) {p : Place} {e u : Term} → (i : Inner ops lim n (set p (pattern ns) e u)) → Inner ops lim n e × Inner ops lim n u × (Ts : Tys) × MaySet i.scope ns Ts
  set_inner ns {p} {e} {u} i = go i.has
    where
      go : {Δ : Uses} {U : Ty} → Has ops lim i.scope Δ (set p (pattern ns) e u) U → Inner ops lim n e × Inner ops lim n u × (Ts : Tys) × MaySet i.scope ns Ts
      go (has_set Δ₁ Δ₂ T Ts d h nv sp m hu) = (
        record { scope = i.scope; uses = Δ₁; ty = T; outside = i.outside; has = h },
        record { scope = i.scope; uses = Δ₂; ty = _; outside = i.outside; has = hu },
        Ts,
        subst (λ (ms : List Name). MaySet i.scope ms Ts) (names_pattern ns) m,
      )

  using_inner : (P : Code) (r : Range) {p : Place} {u : Term} → r.first ≤ r.end → r.end ≤ n → Inner ops lim n (using_in p (pattern (within r)) u) → Inner ops lim n u
  using_inner P r {p} {u} lr ln i = go i.has
    where
      go : {Δ : Uses} {U : Ty} → Has ops lim i.scope Δ (using_in p (pattern (within r)) u) U → Inner ops lim n u
      go {Δ} {U} (has_using un) = under_inner n (r.end - r.first) r.first (omega (arith, lr, ln)) i.outside (named (names_pattern (within r)) un)
        where
          named : {as_bound : Ty → Binding} {xs ys : List ℕ} {Ts : Tys} → xs ≡ ys → Under ops lim as_bound i.scope Δ xs Ts u U → Under ops lim as_bound i.scope Δ ys Ts u U
          named {as_bound} {Ts = Ts} q h = subst (λ (zs : List ℕ). Under ops lim as_bound i.scope Δ zs Ts u U) q h

  if_inner : {p : Place} {c t u : Term} → Inner ops lim n (if_else p c t u) → Inner ops lim n c × Inner ops lim n t × Inner ops lim n u
  if_inner {p} {c} {t} {u} i = go i.has
    where
      go : {Δ : Uses} {U : Ty} → Has ops lim i.scope Δ (if_else p c t u) U → Inner ops lim n c × Inner ops lim n t × Inner ops lim n u
      go (has_if Δ₁ Δ₂ d h k l) = (
        record { scope = i.scope; uses = Δ₁; ty = _; outside = i.outside; has = h },
        record { scope = i.scope; uses = Δ₂; ty = _; outside = i.outside; has = k },
        record { scope = i.scope; uses = Δ₂; ty = _; outside = i.outside; has = l },
      )

  built_inner : {p : Place} {f : Form} {ts : Terms} → Inner ops lim n (build p f ts) → InnerParts ops lim n ts
  built_inner {p} {f} {ts} i = go i.has
    where
      go : {Δ : Uses} {U : Ty} → Has ops lim i.scope Δ (build p f ts) U → InnerParts ops lim n ts
      go (has_build Ts ps fit) = record { scope = i.scope; uses = _; tys = Ts; outside = i.outside; has = ps }

  more_inner : {t : Term} {ts : Terms} → InnerParts ops lim n (t ∷ˢ ts) → Inner ops lim n t × InnerParts ops lim n ts
  more_inner {t} {ts} i = go i.has
    where
      go : {Δ : Uses} {Ts : Tys} → Parts ops lim i.scope Δ (t ∷ˢ ts) Ts → Inner ops lim n t × InnerParts ops lim n ts
      go (parts_more {T = T} {Ts = Ts} Δ₁ Δ₂ d h ps) =
          (record { scope = i.scope; uses = Δ₁; ty = T; outside = i.outside; has = h }, record { scope = i.scope; uses = Δ₂; tys = Ts; outside = i.outside; has = ps })

  front_inner : (vs : List Value) {ts : Terms} → InnerParts ops lim n (front vs ts) → InnerParts ops lim n ts
  front_inner vs {ts} i = let r = front_typed vs i.has in record { scope = i.scope; uses = r.0; tys = r.1; outside = i.outside; has = r.2 }

  unscoped : {p : Place} {x : ℕ} → (i : Inner ops lim n (name p (var x))) → n < x → ⊥
  unscoped {p} {x} i l = go i.has
    where
      go : {Δ : Uses} {U : Ty} → Has ops lim i.scope Δ (name p (var x)) U → ⊥
      go (has_name b h q s) = let z = i.outside x l in never cc

-- two environments, of which nothing stands for names up to n, and which agree where both have something
module _ (ops : List Op) (lim : ℕ) (P : Code) (n : ℕ) (σ σ' : Env) (low : (x : ℕ) → x ≤ n → (σ x ≡ none) × (σ' x ≡ none))
    (agree : (x : ℕ) (s s' : Standing) → σ x ≡ some s → σ' x ≡ some s' → s ≡ s') where
  beyond : (x : ℕ) (s : Standing) → σ x ≡ some s → n < x
  beyond x s e = go (ltb n x) refl
    where
      go : (b : Bool) → ltb n x ≡ b → n < x
      go true q = ltb-true n x q
      go false q = let z = (low x (ltb-false n x q)).0 in never cc

  beyond' : (x : ℕ) (s : Standing) → σ' x ≡ some s → n < x
  beyond' x s e = go (ltb n x) refl
    where
      go : (b : Bool) → ltb n x ≡ b → n < x
      go true q = ltb-true n x q
      go false q = let z = (low x (ltb-false n x q)).1 in never cc

  same_use : (p : Place) (x : ℕ) (o o' : Option Standing) → σ x ≡ o → σ' x ≡ o' → Inner ops lim n (as_term p x o) → Inner ops lim n (as_term p x o') → as_term p x o ≡ as_term p x o'
  same_use p x none none e e' i i' = refl
  same_use p x none (some s) e e' i i' = absurd (unscoped i (beyond' x s e'))
  same_use p x (some s) none e e' i i' = absurd (unscoped i' (beyond x s e))
  same_use p x (some s) (some s') e e' i i' = ap (λ (z : Standing). as_term p x (some z)) (agree x s s' e e')

  same_target : (x : ℕ) (Γ Γ' : Scope) {T T' : Ty} (o o' : Option Standing) → σ x ≡ o → σ' x ≡ o' → Outside n Γ → Outside n Γ' → Γ (as_name x o) ≡ some (settable T) → Γ' (as_name x o') ≡ some (settable T') →
      as_name x o ≡ as_name x o'
  same_target x Γ Γ' none none e e' u u' h h' = refl
  same_target x Γ Γ' none (some (valued v)) e e' u u' h h' = refl
  same_target x Γ Γ' none (some mutable) e e' u u' h h' = let z = u x (beyond' x mutable e') in never cc
  same_target x Γ Γ' (some (valued v)) none e e' u u' h h' = refl
  same_target x Γ Γ' (some (valued v)) (some (valued w)) e e' u u' h h' = refl
  same_target x Γ Γ' (some (valued v)) (some mutable) e e' u u' h h' = let z = agree x (valued v) mutable e e' in never cc
  same_target x Γ Γ' (some mutable) none e e' u u' h h' = let z = u' x (beyond x mutable e) in never cc
  same_target x Γ Γ' (some mutable) (some (valued w)) e e' u u' h h' = let z = agree x mutable (valued w) e e' in never cc
  same_target x Γ Γ' (some mutable) (some mutable) e e' u u' h h' = refl

  same_targets : (xs : List ℕ) (Γ Γ' : Scope) {Ts Ts' : Tys} → Outside n Γ → Outside n Γ' → MaySet Γ (map (λ x. as_name x (σ x)) xs) Ts → MaySet Γ' (map (λ x. as_name x (σ' x)) xs) Ts' →
      map (λ x. as_name x (σ x)) xs ≡ map (λ x. as_name x (σ' x)) xs
  same_targets [] Γ Γ' u u' m m' = refl
  same_targets (x ∷ xs) Γ Γ' u u' (may_more h m) (may_more h' m') = λ j. same_target x Γ Γ' (σ x) (σ' x) refl refl u u' h h' j ∷ same_targets xs Γ Γ' u u' m m' j

  -- the same once both have a type
  abbrev Same : Term → Term → Type 0
  Same t t' = Inner ops lim n t → Inner ops lim n t' → t ≡ t'

  same_bind : (w : Binder) (p : Place) (r : Range) (e e' u : Term) → r.first ≤ r.end → r.end ≤ n → Named P w r → Same e e' → Same (close σ u) (close σ' u) →
      Same (closed_bind σ w p (entries P r) e (close σ u)) (closed_bind σ' w p (entries P r) e' (close σ' u))
  same_bind Let p r e e' u lr ln own se su i i' =
      let a = let_inner P r lr ln own i in
      let a' = let_inner P r lr ln own i' in
      λ j. bind p (pattern (entries P r)) (se a.0 a'.0 j) (su a.1 a'.1 j)
  same_bind Mut p r e e' u lr ln own se su i i' =
      let a = mut_inner P r lr ln own i in
      let a' = mut_inner P r lr ln own i' in
      λ j. mut p (pattern (entries P r)) (se a.0 a'.0 j) (su a.1 a'.1 j)
  same_bind Set p r e e' u lr ln apart se su i i' =
      let a = set_inner (map (λ x. as_name x (σ x)) (entries P r)) i in
      let a' = set_inner (map (λ x. as_name x (σ' x)) (entries P r)) i' in
      let q = same_targets (entries P r) i.scope i'.scope i.outside i'.outside a.3 a'.3 in
      λ j. set p (pattern (q j)) (se a.0 a'.0 j) (su a.1 a'.1 j)

  mutual
    same_shape : {i : ℕ} {nd : Node} {t : Term} → i ≤ n → Shape P i nd t → Same (close σ t) (close σ' t)
    same_shape le shape_constant a a' = refl
    same_shape le (shape_use {i} {x}) a a' = same_use (P.place i) x (σ x) (σ' x) refl refl a a'
    same_shape le (shape_built {i} {f} l) a a' = ap (build (P.place i) (form f)) (same_listed le l (built_inner a) (built_inner a'))
    same_shape le (shape_bind {i} {w = w} {r = r} {t = t} {u = u} lt lb lr lk nm me mb) a a' =
        close_bind σ w (P.place i) (entries P r) t u
        ∙ same_bind w (P.place i) r (close σ t) (close σ' t) u lr (omega (arith, lk, le)) nm (same_shape (omega (arith, lt, lr, lk, le)) me) (same_shape (omega (arith, lb, lr, lk, le)) mb)
        (subst (Inner ops lim n) (close_bind σ w (P.place i) (entries P r) t u) a) (subst (Inner ops lim n) (close_bind σ' w (P.place i) (entries P r) t u) a')
        ∙ sym (close_bind σ' w (P.place i) (entries P r) t u)
    same_shape le (shape_using {i} {r = r} lb lr lk own mb) a a' =
        ap (using_in (P.place i) (pattern (within r)))
        (same_shape (omega (arith, lb, lr, lk, le)) mb (using_inner P r lr (omega (arith, lk, le)) a) (using_inner P r lr (omega (arith, lk, le)) a'))
    same_shape le (shape_if {i} lc ly ln mc my mn) a a' =
        let b = if_inner a in
        let b' = if_inner a' in
        λ j. if_else (P.place i) (same_shape (omega (arith, lc, le)) mc b.0 b'.0 j) (same_shape (omega (arith, ly, le)) my b.1 b'.1 j) (same_shape (omega (arith, ln, le)) mn b.2 b'.2 j)

    same_listed : {i a z : ℕ} {ts : Terms} → i ≤ n → Listed P i a z ts → InnerParts ops lim n (close_all σ ts) → InnerParts ops lim n (close_all σ' ts) → close_all σ ts ≡ close_all σ' ts
    same_listed le (listed_none e) a a' = refl
    same_listed le (listed_more l ld md rest) a a' =
        let b = more_inner a in
        let b' = more_inner a' in
        λ j. same_shape (omega (arith, ld, le)) md b.0 b'.0 j ∷ˢ same_listed le rest b.1 b'.1 j

  same_waits : {j : ℕ} {nd : Node} {vs : List Value} {t u u' : Term} → Waits P σ n j nd vs t u → Waits P σ' n j nd vs t u' → Same u u'
  same_waits (waits_part {f = f} {vs = vs} {t = t} e l ls) (waits_part e' l' ls') i i' =
      let q = listed_once ls ls' in
      let b = (more_inner (front_inner vs (built_inner i))).1 in
      let b' = subst (λ (zs : Terms). InnerParts ops lim n (close_all σ' zs)) (sym q) (more_inner (front_inner vs (built_inner i'))).1 in
      ap (λ (zs : Terms). build (P.place n) (form f) (front vs (t ∷ˢ zs))) (same_listed (omega arith) ls b b' ∙ ap (close_all σ') q)
  same_waits (waits_bind {w = w} {r = r} {t = t} {u = u} lb lr lk nm mb) (waits_bind {u = u'} lb' lr' lk' nm' mb') i i' =
      let q : u ≡ u' = shape_once mb mb' in
      same_bind w (P.place n) r t t u lr lk nm (λ a a'. refl) (same_shape (omega (arith, lb, lr, lk)) mb) i
      (subst (λ (z : Term). Inner ops lim n (closed_bind σ' w (P.place n) (entries P r) t (close σ' z))) (sym q) i')
      ∙ ap (λ (z : Term). closed_bind σ' w (P.place n) (entries P r) t (close σ' z)) q
  same_waits (waits_if {t = t} {u = u} {w = w} ly ln my mn) (waits_if {u = u'} {w = w'} ly' ln' my' mn') i i' =
      let q : u ≡ u' = shape_once my my' in
      let s : w ≡ w' = shape_once mn mn' in
      let b = if_inner i in
      let b' = if_inner i' in
      let x : close σ u ≡ close σ' u' = same_shape (omega (arith, ly)) my b.1 (subst (λ (z : Term). Inner ops lim n (close σ' z)) (sym q) b'.1) ∙ ap (close σ') q in
      let y : close σ w ≡ close σ' w' = same_shape (omega (arith, ln)) mn b.2 (subst (λ (z : Term). Inner ops lim n (close σ' z)) (sym s) b'.2) ∙ ap (close σ') s in
      λ j. if_else (P.place n) t (x j) (y j)

waits_length : {P : Code} {σ σ' : Env} {k j : ℕ} {nd : Node} {vs vs' : List Value} {t t' u u' : Term} → Waits P σ k j nd vs t u → Waits P σ' k j nd vs' t' u' → length vs ≡ length vs'
waits_length (waits_part e l ls) (waits_part e' l' ls') = omega (arith, e, e')
waits_length (waits_bind lb lr lk nm mb) (waits_bind lb' lr' lk' nm' mb') = refl
waits_length (waits_if ly ln my mn) (waits_if ly' ln' my' mn') = refl

append_once : (vs vs' below below' : List Value) → length vs ≡ length vs' → vs ++ below ≡ vs' ++ below' → (vs ≡ vs') × (below ≡ below')
append_once [] [] below below' l e = (refl, e)
append_once [] (w ∷ vs') below below' l e = never (omega (arith, l))
append_once (v ∷ vs) [] below below' l e = never (omega (arith, l))
append_once (v ∷ vs) (w ∷ vs') below below' l e =
    let r = append_once vs vs' below below' (omega (arith, l)) (tails e) in
    (λ j. heads e j ∷ r.0 j, r.1)
  where
    heads : v ∷ (vs ++ below) ≡ w ∷ (vs' ++ below') → v ≡ w
    heads e = cc

    tails : v ∷ (vs ++ below) ≡ w ∷ (vs' ++ below') → vs ++ below ≡ vs' ++ below'
    tails e = cc

-- what stands for a name in two readings of a state
module _ {P : Code} {T : List Value} {μ μ' : Table} {G G' : Env} (ti : Tied G T μ) (ti' : Tied G' T μ') where
  agreed : {n : ℕ} (σ σ' : Env) → Within P G n σ → Within P G' n σ' → (x : ℕ) (s s' : Standing) → σ x ≡ some s → σ' x ≡ some s' → s ≡ s'
  agreed σ σ' w w' x s s' e e' = go s s' (within_at σ w e).1 (within_at σ' w' e').1 (within_at σ w e).2 (within_at σ' w' e').2
    where
      go : (s s' : Standing) → Suits P x s → Suits P x s' → G x ≡ some s → G' x ≡ some s' → s ≡ s'
      go (valued v) (valued v') u u' g g' = ap valued (same (ti.values x v g) (ti'.values x v' g'))
        where
          same : nth T x ≡ some v → nth T x ≡ some v' → v ≡ v'
          same a b = cc
      go (valued v) mutable u u' g g' = never cc
      go mutable (valued v) u u' g g' = never cc
      go mutable mutable u u' g g' = refl

  lower : {n : ℕ} (σ σ' : Env) → Within P G n σ → Within P G' n σ' → (x : ℕ) → x ≤ n → (σ x ≡ none) × (σ' x ≡ none)
  lower σ σ' w w' x l = (within_low σ x l w, within_low σ' x l w')

inner : {ops : List Op} {lim : ℕ} (n : ℕ) (μ : Table) {t : Term} → Typed ops lim (around μ) t → Inner ops lim n t
inner n μ h = record { scope = around μ; uses = h.uses; ty = h.ty; outside = around_outside n μ; has = h.has }

module _ {ops : List Op} {lim : ℕ} {P : Code} {T : List Value} {μ μ' : Table} {G G' : Env} (ti : Tied G T μ) (ti' : Tied G' T μ') where
  same_around : {n : ℕ} {fs : List Frame} {all : List Value} {t L L' : Term} → Typed ops lim (around μ) L → Typed ops lim (around μ') L' → Around P G n fs all t L → Around P G' n fs all t L' → L ≡ L'
  same_around ty ty' whole whole = refl
  same_around {t = t} {L' = L'} ty ty' (inside {f = f} {fs = fs} {u = u} vs below σ lt w e d a) (inside {u = u'} vs' below' σ' lt' w' e' d' a') =
      let q = append_once vs vs' below below' (waits_length d d') (sym e ∙ e') in
      let d'' = subst (λ (zs : List Value). Waits P σ' f.node f.part (P.node f.node) zs t u') (sym q.0) d' in
      let a'' = subst (λ (zs : List Value). Around P G' f.node fs zs u' L') (sym q.1) a' in
      let s : u ≡ u' = same_waits ops lim P f.node σ σ' (lower ti ti' σ σ' w w') (agreed ti ti' σ σ' w w') d d'' (inner f.node μ (middle a ty)) (inner f.node μ' (middle a'' ty')) in
      same_around ty ty' a (subst (λ (z : Term). Around P G' f.node fs below z L') (sym s) a'')

-- what is left is one term
pub reads_once : {ops : List Op} {lim : ℕ} {P : Code} {T : List Value} {fs : List Frame} {vals : List Value} {f : Focused} {L L' : Term} (μ μ' : Table) → Typed ops lim (around μ) L → Typed ops lim (around μ') L' →
    Reads P T μ fs vals f L → Reads P T μ' fs vals f L' → L ≡ L'
reads_once {ops} {lim} {P} {T} {fs} {vals} {L' = L'} μ μ' ty ty' (reads_node {i} G σ t ti w m a) (reads_node G' σ' t' ti' w' m' a') =
    let q : t ≡ t' = shape_once m m' in
    let a'' = subst (λ (z : Term). Around P G' i fs vals (close σ' z) L') (sym q) a' in
    let s = same_shape ops lim P i σ σ' (lower ti ti' σ σ' w w') (agreed ti ti' σ σ' w w') (omega arith) m (inner i μ (middle a ty)) (inner i μ' (middle a'' ty')) in
    same_around ti ti' ty ty' a (subst (λ (z : Term). Around P G' i fs vals z L') (sym s) a'')
reads_once μ μ' ty ty' (reads_value G ti a) (reads_value G' ti' a') = same_around ti ti' ty ty' a a'
