-- What the type of what is left says of the values that a step meets.
use Rattle.std.proofs.Common.{◌≡◌, ℕ, suc, ◌≤◌, Bool, List, [], ◌∷◌, map, length, sym, refl, ap, ◌∙◌, subst, subst₂, arith}
use mathlib.Core.Option.{Option, none, some}
use Rattle.machine.specs.Orders.{width, handle_list}
use Rattle.machine.specs.declared.order.Gate.{Gate}
use Rattle.machine.specs.declared.order.Gate.TheVariants.{X, Y, Z, H, S, Cnot, Cz, Swap}
use Rattle.machine.specs.declared.order.Handles.{Handles}
use Rattle.machine.specs.declared.order.Handles.TheVariants.{One, Two}
use Rattle.grammar.specs.declared.tree.Binder.{Binder}
use Rattle.grammar.specs.declared.tree.Binder.TheVariants.{Let, Mut, Set}
use Rattle.calculus.specs.Syntax.{Ty, bit, qbit, Tys, no_types, ◌∷ᵗ◌, leaves, Name, var, entry, Value, the_unit, bit_of, int_of, handle_of, tuple_of, Values, no_values, ◌∷ᵛ◌, type_of, types_of, flat}
use Rattle.calculus.specs.Syntax.{Pattern, one, several, Form, tupling, meas, gate, Place, Op, Term, done, name, build, bind, mut, set, if_else, no_terms}
use Rattle.calculus.specs.Rules.{Uses, Binding, settable, Scope, Spread, qbits, most_leaves, Fits, MaySet, may_none, may_more, Has, has_done, has_name, has_build, has_bind, has_mut, has_set, has_if, Under, under_none, under_more}
use Rattle.calculus.specs.Steps.{Table, around, Taken, handle_values, none_left}
use Rattle.calculus.proofs.Names.{never}
use Rattle.calculus.proofs.Tables.{how_many}
use Rattle.calculus.proofs.Preservation.{all_done, taken}
use Rattle.calculus.proofs.Typing.{leaves_counted}
use Rattle.run_laws.specs.Programs.{pattern}
use Rattle.run_laws.specs.Reads.{Standing, valued, mutable, Env, as_name, closed_bind, front, collect, items, Typed}
use Rattle.run_laws.proofs.Closing.{names_pattern}
use Rattle.run_laws.proofs.Frames.{front_done}
use Rattle.run_laws.proofs.Tables.{AllMutable}

a_handle : (v : Value) → qbit ≡ type_of v → (k : ℕ) × (v ≡ handle_of k)
a_handle the_unit q = never cc
a_handle (bit_of b) q = never cc
a_handle (int_of i) q = never cc
a_handle (handle_of k) q = (k, refl)
a_handle (tuple_of vs) q = never cc

a_bit : (v : Value) → bit ≡ type_of v → (b : Bool) × (v ≡ bit_of b)
a_bit the_unit q = never cc
a_bit (bit_of b) q = (b, refl)
a_bit (int_of i) q = never cc
a_bit (handle_of k) q = never cc
a_bit (tuple_of vs) q = never cc

one_handle : (vs : Values) → types_of vs ≡ qbit ∷ᵗ no_types → (k : ℕ) × (vs ≡ handle_of k ∷ᵛ no_values)
one_handle no_values q = never cc
one_handle (v ∷ᵛ (w ∷ᵛ vs)) q = never cc
one_handle (v ∷ᵛ no_values) q = let r = a_handle v (first q) in (r.0, ap (λ (w : Value). w ∷ᵛ no_values) r.1)
  where
    first : type_of v ∷ᵗ no_types ≡ qbit ∷ᵗ no_types → qbit ≡ type_of v
    first q = cc

two_handles : (vs : Values) → types_of vs ≡ qbit ∷ᵗ qbit ∷ᵗ no_types → (j k : ℕ) × (vs ≡ handle_of j ∷ᵛ handle_of k ∷ᵛ no_values)
two_handles no_values q = never cc
two_handles (v ∷ᵛ vs) q =
    let r = a_handle v (first q) in
    let s = one_handle vs (rest q) in
    (r.0, s.0, subst₂ (λ (w : Value) (ws : Values). v ∷ᵛ vs ≡ w ∷ᵛ ws) r.1 s.1 refl)
  where
    first : type_of v ∷ᵗ types_of vs ≡ qbit ∷ᵗ qbit ∷ᵗ no_types → qbit ≡ type_of v
    first q = cc

    rest : type_of v ∷ᵗ types_of vs ≡ qbit ∷ᵗ qbit ∷ᵗ no_types → types_of vs ≡ qbit ∷ᵗ no_types
    rest q = cc

-- the handles of a gate, as many as its width
abbrev pub Handled : Gate → Values → Type 0
Handled g vs = (hs : Handles) × (vs ≡ handle_values (handle_list hs)) × (length (handle_list hs) ≡ width g)

by_one : (g : Gate) (vs : Values) → width g ≡ 1 → types_of vs ≡ qbits 1 → Handled g vs
by_one g vs e q = let r = one_handle vs q in (One r.0, r.1, sym e)

by_two : (g : Gate) (vs : Values) → width g ≡ 2 → types_of vs ≡ qbits 2 → Handled g vs
by_two g vs e q = let r = two_handles vs q in (Two r.0 r.1, r.2, sym e)

gate_handles : (g : Gate) (vs : Values) → types_of vs ≡ qbits (width g) → Handled g vs
gate_handles X vs q = by_one X vs refl q
gate_handles Y vs q = by_one Y vs refl q
gate_handles Z vs q = by_one Z vs refl q
gate_handles H vs q = by_one H vs refl q
gate_handles S vs q = by_one S vs refl q
gate_handles Cnot vs q = by_two Cnot vs refl q
gate_handles Cz vs q = by_two Cz vs refl q
gate_handles Swap vs q = by_two Swap vs refl q

taking : {N : Type 0} (xs : Pattern N) (v : Value) (T : Ty) (Ts : Tys) → Spread xs T Ts → T ≡ type_of v → (vs : Values) × Taken xs v vs
taking (one x) v T Ts sp q = (v ∷ᵛ no_values, refl)
taking (several xs) the_unit T Ts sp q = never cc
taking (several xs) (bit_of b) T Ts sp q = never cc
taking (several xs) (int_of i) T Ts sp q = never cc
taking (several xs) (handle_of k) T Ts sp q = never cc
taking (several xs) (tuple_of vs) T Ts sp q = (vs, refl)

value_type : {ops : List Op} {lim : ℕ} {Γ : Scope} {Δ : Uses} {v : Value} {T : Ty} → Has ops lim Γ Δ (done v) T → T ≡ type_of v
value_type (has_done q s) = q

items_many : (vs : Values) → length (items vs) ≡ how_many (types_of vs)
items_many no_values = refl
items_many (v ∷ᵛ vs) = ap suc (items_many vs)

under_many : {ops : List Op} {lim : ℕ} {as_bound : Ty → Binding} {Γ : Scope} {Δ : Uses} {xs : List ℕ} {Ts : Tys} {t : Term} {U : Ty} → Under ops lim as_bound Γ Δ xs Ts t U → length xs ≡ how_many Ts
under_many (under_none h) = refl
under_many (under_more Δ' new d u) = ap suc (under_many u)

may_many : {Γ : Scope} {ns : List Name} {Ts : Tys} → MaySet Γ ns Ts → length ns ≡ how_many Ts
may_many may_none = refl
may_many (may_more h m) = ap suc (may_many m)

map_length : {A B : Type 0} (f : A → B) (xs : List A) → length (map f xs) ≡ length xs
map_length f [] = refl
map_length f (x ∷ xs) = ap suc (map_length f xs)

-- the pattern takes the value, a part for each name
abbrev pub Takes : List ℕ → Value → Type 0
Takes xs v = (vs : Values) × Taken (pattern xs) v vs × (length (items vs) ≡ length xs)

takes : {N : Type 0} (xs : List N) (v : Value) (T : Ty) (Ts : Tys) → Spread (pattern xs) T Ts → T ≡ type_of v → length xs ≡ how_many Ts → (vs : Values) × Taken (pattern xs) v vs × (length (items vs) ≡ length xs)
takes xs v T Ts sp q l =
    let r = taking (pattern xs) v T Ts sp q in
    let s = taken (pattern xs) v r.0 T Ts r.1 sp q in
    (r.0, r.1, items_many r.0 ∙ ap how_many s.0 ∙ sym l)

same_taken : {N M : Type 0} (f : N → M) (xs : List N) (v : Value) (vs : Values) → Taken (pattern (map f xs)) v vs → Taken (pattern xs) v vs
same_taken f [] v vs h = h
same_taken f (x ∷ []) v vs h = h
same_taken f (x ∷ (y ∷ xs)) v vs h = h

pub mapped_taken : {N M : Type 0} (f : N → M) (xs : List N) (v : Value) (vs : Values) → Taken (pattern xs) v vs → Taken (pattern (map f xs)) v vs
mapped_taken f [] v vs h = h
mapped_taken f (x ∷ []) v vs h = h
mapped_taken f (x ∷ (y ∷ xs)) v vs h = h

taken_once : {N : Type 0} (xs : List N) (v : Value) (vs ws : Values) → Taken (pattern xs) v vs → Taken (pattern xs) v ws → vs ≡ ws
taken_once [] v vs ws h k = cc
taken_once (x ∷ []) v vs ws h k = h ∙ sym k
taken_once (x ∷ (y ∷ xs)) v vs ws h k = cc

-- all the names that are set are mut names
may_stand : (μ : Table) (σ : Env) (xs : List ℕ) {Ts : Tys} → MaySet (around μ) (map (λ x. as_name x (σ x)) xs) Ts → AllMutable σ xs
may_stand μ σ [] m = tt
may_stand μ σ (x ∷ xs) (may_more {T = T} h m) = (go (σ x) h, may_stand μ σ xs m)
  where
    go : (o : Option Standing) → around μ (as_name x o) ≡ some (settable T) → o ≡ some mutable
    go none h = never cc
    go (some (valued v)) h = never cc
    go (some mutable) h = refl

pub entry_names : (σ : Env) (xs : List ℕ) → AllMutable σ xs → map (λ x. as_name x (σ x)) xs ≡ map entry xs
entry_names σ [] h = refl
entry_names σ (x ∷ xs) h = λ i. ap (as_name x) h.0 i ∷ entry_names σ xs h.1 i

module _ {ops : List Op} {lim : ℕ} (μ : Table) where
  -- a name of the text is not left
  pub no_var_left : {p : Place} {x : ℕ} → Typed ops lim (around μ) (name p (var x)) → ⊥
  no_var_left h = go h.has
    where
      go : {p : Place} {x : ℕ} {Δ : Uses} {T : Ty} → Has ops lim (around μ) Δ (name p (var x)) T → ⊥
      go (has_name b h q s) = never cc

  pub if_bit : {p : Place} {v : Value} {t u : Term} → Typed ops lim (around μ) (if_else p (done v) t u) → (b : Bool) × (v ≡ bit_of b)
  if_bit h = go h.has
    where
      go : {p : Place} {v : Value} {t u : Term} {Δ : Uses} {T : Ty} → Has ops lim (around μ) Δ (if_else p (done v) t u) T → (b : Bool) × (v ≡ bit_of b)
      go {v = v} (has_if Δ₁ Δ₂ d h u u') = a_bit v (value_type h)

  let_takes : {p : Place} (xs : List ℕ) {v : Value} {u : Term} {Δ : Uses} {U : Ty} → Has ops lim (around μ) Δ (bind p (pattern xs) (done v) u) U → Takes xs v
  let_takes xs {v} (has_bind Δ₁ Δ₂ T Ts d h sp u) = takes xs v T Ts sp (value_type h) (ap length (sym (names_pattern xs)) ∙ under_many u)

  mut_takes : {p : Place} (xs : List ℕ) {v : Value} {u : Term} {Δ : Uses} {U : Ty} → Has ops lim (around μ) Δ (mut p (pattern xs) (done v) u) U → Takes xs v
  mut_takes xs {v} (has_mut Δ₁ Δ₂ T Ts d h nv dup sp u) = takes xs v T Ts sp (value_type h) (ap length (sym (names_pattern xs)) ∙ under_many u)

  set_takes : {p : Place} (f : ℕ → Name) (xs : List ℕ) {v : Value} {u : Term} {Δ : Uses} {U : Ty} → Has ops lim (around μ) Δ (set p (pattern (map f xs)) (done v) u) U → Takes xs v
  set_takes f xs {v} (has_set Δ₁ Δ₂ T Ts d h nv sp m u) =
      let r = takes (map f xs) v T Ts sp (value_type h) (ap length (sym (names_pattern (map f xs))) ∙ may_many m) in
      (r.0, same_taken f xs v r.0 r.1, r.2 ∙ map_length f xs)

  bind_takes : (σ : Env) (w : Binder) (p : Place) (xs : List ℕ) (v : Value) (u : Term) {Δ : Uses} {U : Ty} → Has ops lim (around μ) Δ (closed_bind σ w p xs (done v) u) U → Takes xs v
  bind_takes σ Let p xs v u h = let_takes xs h
  bind_takes σ Mut p xs v u h = mut_takes xs h
  bind_takes σ Set p xs v u h = set_takes (λ x. as_name x (σ x)) xs h

  -- a let, mut or set whose right side is a value: the pattern takes it
  pub bind_fits : (σ : Env) (w : Binder) (p : Place) (xs : List ℕ) (v : Value) (u : Term) → Typed ops lim (around μ) (closed_bind σ w p xs (done v) u) → Takes xs v
  bind_fits σ w p xs v u h = bind_takes σ w p xs v u h.has

  pub bind_many : (σ : Env) (w : Binder) (p : Place) (xs : List ℕ) (v : Value) (vs : Values) (u : Term) → Taken (pattern xs) v vs → Typed ops lim (around μ) (closed_bind σ w p xs (done v) u) →
      length (items vs) ≡ length xs
  bind_many σ w p xs v vs u k h =
      let r = bind_fits σ w p xs v u h in
      ap (λ (ws : Values). length (items ws)) (taken_once xs v vs r.0 k r.1) ∙ r.2

  pub sets_mutable : (σ : Env) (p : Place) (xs : List ℕ) (e u : Term) → Typed ops lim (around μ) (set p (pattern (map (λ x. as_name x (σ x)) xs)) e u) → AllMutable σ xs
  sets_mutable σ p xs e u h = go h.has
    where
      go : {Δ : Uses} {T : Ty} → Has ops lim (around μ) Δ (set p (pattern (map (λ x. as_name x (σ x)) xs)) e u) T → AllMutable σ xs
      go (has_set Δ₁ Δ₂ T Ts d h nv sp m u) = may_stand μ σ xs (subst (λ (ns : List Name). MaySet (around μ) ns Ts) (names_pattern (map (λ x. as_name x (σ x)) xs)) m)

  -- forms whose parts are values
  built_fits : {p : Place} (f : Form) (ws : List Value) → Typed ops lim (around μ) (build p f (front ws no_terms)) → (T : Ty) × Fits ops lim f (types_of (collect ws no_values)) T
  built_fits {p} f ws h = go h.has
    where
      go : {Δ : Uses} {T : Ty} → Has ops lim (around μ) Δ (build p f (front ws no_terms)) T → (T : Ty) × Fits ops lim f (types_of (collect ws no_values)) T
      go {T = T} (has_build Ts ps fit) = (T, subst (λ (Us : Tys). Fits ops lim f Us T) (sym (all_done (front_done ws none_left) ps).0) fit)

  pub meas_one : {p : Place} (ws : List Value) → Typed ops lim (around μ) (build p meas (front ws no_terms)) → (h : ℕ) × (collect ws no_values ≡ handle_of h ∷ᵛ no_values)
  meas_one ws h = one_handle (collect ws no_values) (built_fits meas ws h).1.0

  pub gate_some : {p : Place} (g : Gate) (ws : List Value) → Typed ops lim (around μ) (build p (gate g) (front ws no_terms)) → Handled g (collect ws no_values)
  gate_some g ws h = gate_handles g (collect ws no_values) (built_fits (gate g) ws h).1.0

  -- a tuple has at most 8 leaves
  pub tuple_few : {p : Place} (ws : List Value) → Typed ops lim (around μ) (build p tupling (front ws no_terms)) → length (flat (tuple_of (collect ws no_values))) ≤ most_leaves
  tuple_few ws h =
      let r = built_fits tupling ws h in
      omega (arith, leaves_counted (tuple_of (collect ws no_values)), r.1.1, ap leaves r.1.0)
