-- A scope that grows at the names of a term keeps its type.
use mathlib.Core.Path.{◌≡◌}
use mathlib.Core.List.{List, [], ◌∷◌}
use mathlib.Core.Bool.{Bool, true, false, cond}
use mathlib.Core.Option.{none, some}
use Prim.Native.Nat.{ℕ, ◌≤◌}
use native.Mathlib.Omega.{arith}
use lib.Dec.{eqb}
use Rattle.calculus.specs.Syntax.{Ty, Tys, Name, var, handle, is, Value, the_unit, bit_of, int_of, handle_of, tuple_of, Values, no_values, ◌∷ᵛ◌, names, Form, tupling, meas, gate, call, Term}
use Rattle.calculus.specs.Syntax.{give, done, name, build, bind, mut, set, using_in, if_else, Terms, no_terms, ◌∷ˢ◌, Op}
use Rattle.calculus.specs.Rules.{Uses, Binding, settable, Scope, extend, Fits, MaySet, may_none, may_more, Has, has_give, has_done, has_name, has_build, has_bind, has_mut, has_set}
use Rattle.calculus.specs.Rules.{has_using, has_if, Parts, parts_none, parts_more, Under, under_none, under_more}
use Rattle.calculus.specs.Steps.{EachHeld, EachHeldAll, EachName, Each, EachPart}

-- what Γ binds, Γ' binds alike, at the names with Q; and no name of the text is bound anew
pub record Grown (Q : Name → Type 0) (Γ Γ' : Scope) : Type 0 where
  pub keeps : (n : Name) (b : Binding) → Q n → Γ n ≡ some b → Γ' n ≡ some b
  pub news : (y : ℕ) → Γ (var y) ≡ none → Γ' (var y) ≡ none

abbrev pub Any : Name → Type 0
Any n = Unit {0}

pub grown_same : {Q : Name → Type 0} (Γ : Scope) → Grown Q Γ Γ
grown_same Γ = record { keeps = λ n b q h. h; news = λ y h. h }

pub grown_extend : {Q : Name → Type 0} {Γ Γ' : Scope} → Grown Q Γ Γ' → (y : ℕ) (b : Binding) → Grown Q (extend Γ y b) (extend Γ' y b)
grown_extend {Q} {Γ} {Γ'} g y b = record { keeps = λ n c q h. go (is (var y) n) n c q h; news = λ z h. new (eqb y z) z h }
  where
    go : (a : Bool) (n : Name) (c : Binding) → Q n → cond a (some b) (Γ n) ≡ some c → cond a (some b) (Γ' n) ≡ some c
    go true n c q h = h
    go false n c q h = g.keeps n c q h

    new : (a : Bool) (z : ℕ) → cond a (some b) (Γ (var z)) ≡ none → cond a (some b) (Γ' (var z)) ≡ none
    new true z h = h
    new false z h = g.news z h

pub fits_up : (ops : List Op) (lim lim' : ℕ) → lim ≤ lim' → (f : Form) (Ts : Tys) (T : Ty) → Fits ops lim f Ts T → Fits ops lim' f Ts T
fits_up ops lim lim' le tupling Ts T h = h
fits_up ops lim lim' le meas Ts T h = h
fits_up ops lim lim' le (gate g) Ts T h = h
fits_up ops lim lim' le (call f) Ts T h = (h.0, omega (arith, h.1), h.2, h.3, h.4)

pub may_grow : {Q : Name → Type 0} {Γ Γ' : Scope} {ns : List Name} {Ts : Tys} → Grown Q Γ Γ' → EachName Q ns → MaySet Γ ns Ts → MaySet Γ' ns Ts
may_grow g c may_none = may_none
may_grow g c (may_more {n = n} {T = T} h m) = may_more (g.keeps n (settable T) c.0 h) (may_grow g c.1 m)

module _ (ops : List Op) (lim lim' : ℕ) (le : lim ≤ lim') (Q : Name → Type 0) where
  mutual
    -- a scope that grows at the term's names, and a higher limit, keep the type
    pub grow : {Γ : Scope} {Δ : Uses} {t : Term} {T : Ty} → Has ops lim Γ Δ t T → Each Q t → (Γ' : Scope) → Grown Q Γ Γ' → Has ops lim' Γ' Δ t T
    grow (has_give q s) c Γ' g = has_give q s
    grow (has_done q s) c Γ' g = has_done q s
    grow (has_name {n = n} b h q s) c Γ' g = has_name b (g.keeps n b c h) q s
    grow (has_build {f = f} {T = T} Ts ps fit) c Γ' g = has_build Ts (grow_parts ps c Γ' g) (fits_up ops lim lim' le f Ts T fit)
    grow (has_bind Δ₁ Δ₂ T Ts d h sp u) c Γ' g = has_bind Δ₁ Δ₂ T Ts d (grow h c.0 Γ' g) sp (grow_under u c.1 Γ' g)
    grow (has_mut Δ₁ Δ₂ T Ts d h nv dup sp u) c Γ' g = has_mut Δ₁ Δ₂ T Ts d (grow h c.0 Γ' g) nv dup sp (grow_under u c.1 Γ' g)
    grow (has_set Δ₁ Δ₂ T Ts d h nv sp m u) c Γ' g = has_set Δ₁ Δ₂ T Ts d (grow h c.1 Γ' g) nv sp (may_grow g c.0 m) (grow u c.2 Γ' g)
    grow (has_using u) c Γ' g = has_using (grow_under u c Γ' g)
    grow (has_if Δ₁ Δ₂ d h u u') c Γ' g = has_if Δ₁ Δ₂ d (grow h c.0 Γ' g) (grow u c.1 Γ' g) (grow u' c.2 Γ' g)

    pub grow_parts : {Γ : Scope} {Δ : Uses} {ts : Terms} {Ts : Tys} → Parts ops lim Γ Δ ts Ts → EachPart Q ts → (Γ' : Scope) → Grown Q Γ Γ' → Parts ops lim' Γ' Δ ts Ts
    grow_parts (parts_none s) c Γ' g = parts_none s
    grow_parts (parts_more Δ₁ Δ₂ d h ps) c Γ' g = parts_more Δ₁ Δ₂ d (grow h c.0 Γ' g) (grow_parts ps c.1 Γ' g)

    pub grow_under : {as_bound : Ty → Binding} {Γ : Scope} {Δ : Uses} {xs : List ℕ} {Ts : Tys} {t : Term} {T : Ty} → Under ops lim as_bound Γ Δ xs Ts t T → Each Q t →
        (Γ' : Scope) → Grown Q Γ Γ' → Under ops lim' as_bound Γ' Δ xs Ts t T
    grow_under (under_none h) c Γ' g = under_none (grow h c Γ' g)
    grow_under (under_more {as_bound = as_bound} {x = y} {T = T} Δ' new d u) c Γ' g =
        under_more Δ' (g.news y new.0, new.1) d (grow_under u c (extend Γ' y (as_bound T)) (grown_extend g y (as_bound T)))

mutual
  -- what holds of every name holds of each name of a term
  pub each_held : {Q : Name → Type 0} → ((n : Name) → Q n) → (v : Value) → EachHeld Q v
  each_held q the_unit = tt
  each_held q (bit_of b) = tt
  each_held q (int_of k) = tt
  each_held q (handle_of h) = q (handle h)
  each_held q (tuple_of vs) = each_held_all q vs

  pub each_held_all : {Q : Name → Type 0} → ((n : Name) → Q n) → (vs : Values) → EachHeldAll Q vs
  each_held_all q no_values = tt
  each_held_all q (v ∷ᵛ vs) = (each_held q v, each_held_all q vs)

pub each_name : {Q : Name → Type 0} → ((n : Name) → Q n) → (ns : List Name) → EachName Q ns
each_name q [] = tt
each_name q (n ∷ ns) = (q n, each_name q ns)

mutual
  pub each : {Q : Name → Type 0} → ((n : Name) → Q n) → (t : Term) → Each Q t
  each q (give p v) = each_held q v
  each q (done v) = each_held q v
  each q (name p n) = q n
  each q (build p f ts) = each_part q ts
  each q (bind p xs e t) = (each q e, each q t)
  each q (mut p xs e t) = (each q e, each q t)
  each q (set p ns e t) = (each_name q (names ns), each q e, each q t)
  each q (using_in p xs t) = each q t
  each q (if_else p c t u) = (each q c, each q t, each q u)

  pub each_part : {Q : Name → Type 0} → ((n : Name) → Q n) → (ts : Terms) → EachPart Q ts
  each_part q no_terms = tt
  each_part q (t ∷ˢ ts) = (each q t, each_part q ts)

-- weakening by any names
pub widen : {ops : List Op} {lim lim' : ℕ} {Γ Γ' : Scope} {Δ : Uses} {t : Term} {T : Ty} → lim ≤ lim' → Grown Any Γ Γ' → Has ops lim Γ Δ t T → Has ops lim' Γ' Δ t T
widen {ops} {lim} {lim'} {Γ' = Γ'} {t = t} le g h = grow ops lim lim' le Any h (each (λ n. tt) t) Γ' g

pub widen_under : {ops : List Op} {lim lim' : ℕ} {as_bound : Ty → Binding} {Γ Γ' : Scope} {Δ : Uses} {xs : List ℕ} {Ts : Tys} {t : Term} {T : Ty} → lim ≤ lim' → Grown Any Γ Γ' →
    Under ops lim as_bound Γ Δ xs Ts t T → Under ops lim' as_bound Γ' Δ xs Ts t T
widen_under {ops} {lim} {lim'} {Γ' = Γ'} {t = t} le g h = grow_under ops lim lim' le Any h (each (λ n. tt) t) Γ' g

-- what holds of each name of a term holds of each in a weaker form
mutual
  pub map_held : {Q R : Name → Type 0} → ((n : Name) → Q n → R n) → (v : Value) → EachHeld Q v → EachHeld R v
  map_held f the_unit h = tt
  map_held f (bit_of b) h = tt
  map_held f (int_of k) h = tt
  map_held f (handle_of k) h = f (handle k) h
  map_held f (tuple_of vs) h = map_held_all f vs h

  pub map_held_all : {Q R : Name → Type 0} → ((n : Name) → Q n → R n) → (vs : Values) → EachHeldAll Q vs → EachHeldAll R vs
  map_held_all f no_values h = tt
  map_held_all f (v ∷ᵛ vs) h = (map_held f v h.0, map_held_all f vs h.1)

pub map_names : {Q R : Name → Type 0} → ((n : Name) → Q n → R n) → (ns : List Name) → EachName Q ns → EachName R ns
map_names f [] h = tt
map_names f (n ∷ ns) h = (f n h.0, map_names f ns h.1)

mutual
  pub map_each : {Q R : Name → Type 0} → ((n : Name) → Q n → R n) → (t : Term) → Each Q t → Each R t
  map_each f (give p v) h = map_held f v h
  map_each f (done v) h = map_held f v h
  map_each f (name p n) h = f n h
  map_each f (build p g ts) h = map_parts f ts h
  map_each f (bind p xs e t) h = (map_each f e h.0, map_each f t h.1)
  map_each f (mut p xs e t) h = (map_each f e h.0, map_each f t h.1)
  map_each f (set p ns e t) h = (map_names f (names ns) h.0, map_each f e h.1, map_each f t h.2)
  map_each f (using_in p xs t) h = map_each f t h
  map_each f (if_else p c t u) h = (map_each f c h.0, map_each f t h.1, map_each f u h.2)

  pub map_parts : {Q R : Name → Type 0} → ((n : Name) → Q n → R n) → (ts : Terms) → EachPart Q ts → EachPart R ts
  map_parts f no_terms h = tt
  map_parts f (t ∷ˢ ts) h = (map_each f t h.0, map_parts f ts h.1)
