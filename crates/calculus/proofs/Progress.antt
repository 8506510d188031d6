-- What is left and has a type is finished or has a step.
use mathlib.Core.Path.{◌≡◌, refl, ◌∙◌, ap, subst₂}
use mathlib.Core.List.{List, [], ◌∷◌}
use mathlib.Core.Bool.{Bool, true}
use mathlib.Core.Option.{some}
use Prim.Native.Nat.{ℕ, zero, suc, ◌<◌, ◌≤◌, max}
use native.Mathlib.Omega.{arith}
use lib.ListN.{length}
use borrow.Author.Tests.{ne_eqb}
use Rattle.machine.specs.Orders.{width, handle_list}
use Rattle.machine.specs.Model.{absent, distinct}
use Rattle.machine.specs.declared.order.Gate.{Gate}
use Rattle.machine.specs.declared.order.Gate.TheVariants.{X, Y, Z, H, S, Cnot, Cz, Swap}
use Rattle.machine.specs.declared.order.Handles.{Handles}
use Rattle.machine.specs.declared.order.Handles.TheVariants.{One, Two}
use Rattle.machine.specs.declared.order.Order.TheVariants.{Applied, Measured}
use Rattle.calculus.specs.Syntax.{Ty, bit, qbit, Tys, no_types, ◌∷ᵗ◌, Name, var, entry, handle, Value, the_unit, bit_of, int_of, handle_of, tuple_of, Values, no_values, ◌∷ᵛ◌, type_of}
use Rattle.calculus.specs.Syntax.{types_of, Pattern, one, several, names, Form, tupling, meas, gate, call, Place, Term, give, done, name, build, bind, mut, set, using_in, if_else, Terms}
use Rattle.calculus.specs.Syntax.{no_terms, ◌∷ˢ◌, Op}
use Rattle.calculus.specs.Rules.{Uses, Binding, Scope, Spread, qbits, Fits, MaySet, Has, has_done, has_name, has_build, has_bind, has_mut, has_set, has_if, Parts, parts_more}
use Rattle.calculus.specs.Laws.{GoesOn, finished, moves, Progress}
use Rattle.calculus.specs.Steps.{puts, given, EachHeld, EachHeldAll, EachName, Each, EachPart, Clear, Table, around, Event, prepares, handle_values, AllDone, none_left, one_done}
use Rattle.calculus.specs.Steps.{joined, Acts, acts_tuple, acts_meas, acts_gate, acts_call, Taken, Step, step_give, step_name, step_parts, step_build, step_bind_in, step_bind, step_mut_in}
use Rattle.calculus.specs.Steps.{step_mut, step_set_in, step_set, step_using, step_if_in, step_if, StepPart, step_first, step_later, Agrees}
use Rattle.calculus.proofs.Names.{never}
use Rattle.calculus.proofs.Tables.{are_entries}
use Rattle.calculus.proofs.Preservation.{all_done}

-- new entries, from k on
abbrev pub from : ℕ → ℕ → List ℕ
from k zero = []
from k (suc n) = k ∷ from (suc k) n

pub from_length : (k n : ℕ) → length (from k n) ≡ n
from_length k zero = refl
from_length k (suc n) = ap suc (from_length (suc k) n)

pub from_absent : (e k n : ℕ) → e < k → absent e (from k n) ≡ true
from_absent e k zero l = refl
from_absent e k (suc n) l = rw (ne_eqb e k (λ q. omega (arith, q, l))) (from_absent e (suc k) n (omega arith))

pub from_distinct : (k n : ℕ) → distinct (from k n) ≡ true
from_distinct k zero = refl
from_distinct k (suc n) = rw (from_absent k (suc k) n (omega arith)) (from_distinct (suc k) n)

-- every entry that a term names is below this number
abbrev pub beyond : Name → ℕ
beyond (var x) = 0
beyond (entry e) = suc e
beyond (handle h) = 0

abbrev pub beyond_names : List Name → ℕ
beyond_names [] = 0
beyond_names (n ∷ ns) = max (beyond n) (beyond_names ns)

abbrev mutual
  pub bound : Term → ℕ
  bound (give p v) = 0
  bound (done v) = 0
  bound (name p n) = beyond n
  bound (build p f ts) = bound_all ts
  bound (bind p xs e t) = max (bound e) (bound t)
  bound (mut p xs e t) = max (bound e) (bound t)
  bound (set p ns e t) = max (beyond_names (names ns)) (max (bound e) (bound t))
  bound (using_in p xs t) = bound t
  bound (if_else p c t u) = max (bound c) (max (bound t) (bound u))

  pub bound_all : Terms → ℕ
  bound_all no_terms = 0
  bound_all (t ∷ˢ ts) = max (bound t) (bound_all ts)

module _ (k n : ℕ) where
  clear_name : (m : Name) → beyond m ≤ k → Clear (from k n) m
  clear_name (var x) l = tt
  clear_name (entry e) l = from_absent e k n (omega (arith, l))
  clear_name (handle h) l = tt

  clear_names : (ms : List Name) → beyond_names ms ≤ k → EachName (Clear (from k n)) ms
  clear_names [] l = tt
  clear_names (m ∷ ms) l = (clear_name m (omega (arith, l)), clear_names ms (omega (arith, l)))

  mutual
    clear_held : (v : Value) → EachHeld (Clear (from k n)) v
    clear_held the_unit = tt
    clear_held (bit_of b) = tt
    clear_held (int_of i) = tt
    clear_held (handle_of h) = tt
    clear_held (tuple_of vs) = clear_held_all vs

    clear_held_all : (vs : Values) → EachHeldAll (Clear (from k n)) vs
    clear_held_all no_values = tt
    clear_held_all (v ∷ᵛ vs) = (clear_held v, clear_held_all vs)

  mutual
    pub clear : (t : Term) → bound t ≤ k → Each (Clear (from k n)) t
    clear (give p v) l = clear_held v
    clear (done v) l = clear_held v
    clear (name p m) l = clear_name m l
    clear (build p f ts) l = clear_all ts l
    clear (bind p xs e t) l = (clear e (omega (arith, l)), clear t (omega (arith, l)))
    clear (mut p xs e t) l = (clear e (omega (arith, l)), clear t (omega (arith, l)))
    clear (set p ns e t) l = (clear_names (names ns) (omega (arith, l)), clear e (omega (arith, l)), clear t (omega (arith, l)))
    clear (using_in p xs t) l = clear t l
    clear (if_else p c t u) l = (clear c (omega (arith, l)), clear t (omega (arith, l)), clear u (omega (arith, l)))

    clear_all : (ts : Terms) → bound_all ts ≤ k → EachPart (Clear (from k n)) ts
    clear_all no_terms l = tt
    clear_all (t ∷ˢ ts) l = (clear t (omega (arith, l)), clear_all ts (omega (arith, l)))

-- the machine's handles, one for each name
abbrev pub answers : (ℕ → ℕ) → ℕ → List ℕ
answers hs zero = []
answers hs (suc n) = hs 0 ∷ answers (λ i. hs (suc i)) n

answers_length : (hs : ℕ → ℕ) (n : ℕ) → length (answers hs n) ≡ n
answers_length hs zero = refl
answers_length hs (suc n) = ap suc (answers_length (λ i. hs (suc i)) n)

answers_agree : (hs : ℕ → ℕ) (b : Bool) (n : ℕ) → Agrees (prepares (answers hs n)) hs b
answers_agree hs b zero = tt
answers_agree hs b (suc n) = (refl, answers_agree (λ i. hs (suc i)) b n)

-- a value of the type qbit is a handle, and so on
a_handle : (v : Value) → qbit ≡ type_of v → (k : ℕ) × (v ≡ handle_of k)
a_handle the_unit q = never cc
a_handle (bit_of b) q = never cc
a_handle (int_of i) q = never cc
a_handle (handle_of k) q = (k, refl)
a_handle (tuple_of vs) q = never cc

a_bit : (v : Value) → bit ≡ type_of v → (b : Bool) × (v ≡ bit_of b)
a_bit the_unit q = never cc
a_bit (bit_of b) q = (b, refl)
a_bit (int_of i) q = never cc
a_bit (handle_of k) q = never cc
a_bit (tuple_of vs) q = never cc

one_handle : (vs : Values) → types_of vs ≡ qbit ∷ᵗ no_types → (k : ℕ) × (vs ≡ handle_of k ∷ᵛ no_values)
one_handle no_values q = never cc
one_handle (v ∷ᵛ (w ∷ᵛ vs)) q = never cc
one_handle (v ∷ᵛ no_values) q = let r = a_handle v (first q) in (r.0, ap (λ (w : Value). w ∷ᵛ no_values) r.1)
  where
    first : type_of v ∷ᵗ no_types ≡ qbit ∷ᵗ no_types → qbit ≡ type_of v
    first q = cc

two_handles : (vs : Values) → types_of vs ≡ qbit ∷ᵗ qbit ∷ᵗ no_types → (j k : ℕ) × (vs ≡ handle_of j ∷ᵛ handle_of k ∷ᵛ no_values)
two_handles no_values q = never cc
two_handles (v ∷ᵛ vs) q =
    let r = a_handle v (first q) in
    let s = one_handle vs (rest q) in
    (r.0, s.0, subst₂ (λ (w : Value) (ws : Values). v ∷ᵛ vs ≡ w ∷ᵛ ws) r.1 s.1 refl)
  where
    first : type_of v ∷ᵗ types_of vs ≡ qbit ∷ᵗ qbit ∷ᵗ no_types → qbit ≡ type_of v
    first q = cc

    rest : type_of v ∷ᵗ types_of vs ≡ qbit ∷ᵗ qbit ∷ᵗ no_types → types_of vs ≡ qbit ∷ᵗ no_types
    rest q = cc

by_one : (vs : Values) → types_of vs ≡ qbits 1 → (hs : Handles) × (vs ≡ handle_values (handle_list hs))
by_one vs q = let r = one_handle vs q in (One r.0, r.1)

by_two : (vs : Values) → types_of vs ≡ qbits 2 → (hs : Handles) × (vs ≡ handle_values (handle_list hs))
by_two vs q = let r = two_handles vs q in (Two r.0 r.1, r.2)

gate_handles : (g : Gate) (vs : Values) → types_of vs ≡ qbits (width g) → (hs : Handles) × (vs ≡ handle_values (handle_list hs))
gate_handles X vs q = by_one vs q
gate_handles Y vs q = by_one vs q
gate_handles Z vs q = by_one vs q
gate_handles H vs q = by_one vs q
gate_handles S vs q = by_one vs q
gate_handles Cnot vs q = by_two vs q
gate_handles Cz vs q = by_two vs q
gate_handles Swap vs q = by_two vs q

taking : {N : Type 0} (xs : Pattern N) (v : Value) (T : Ty) (Ts : Tys) → Spread xs T Ts → T ≡ type_of v → (vs : Values) × Taken xs v vs
taking (one x) v T Ts sp q = (v ∷ᵛ no_values, refl)
taking (several xs) the_unit T Ts sp q = never cc
taking (several xs) (bit_of b) T Ts sp q = never cc
taking (several xs) (int_of i) T Ts sp q = never cc
taking (several xs) (handle_of k) T Ts sp q = never cc
taking (several xs) (tuple_of vs) T Ts sp q = (vs, refl)

value_type : {ops : List Op} {lim : ℕ} {Γ : Scope} {Δ : Uses} {v : Value} {T : Ty} → Has ops lim Γ Δ (done v) T → T ≡ type_of v
value_type (has_done q s) = q

act : (ops : List Op) (lim : ℕ) (f : Form) (vs : Values) (Ts : Tys) (T : Ty) (hs : ℕ → ℕ) (b : Bool) → Fits ops lim f Ts T → types_of vs ≡ Ts →
    (ev : Event) × (t : Term) × Acts ops f vs ev t × Agrees ev hs b
act ops lim tupling vs Ts T hs b fit q = ([], done (tuple_of vs), acts_tuple, tt)
act ops lim meas vs Ts T hs b fit q =
    let k = one_handle vs (q ∙ fit.0) in
    (Measured k.0 b ∷ [], done (bit_of b), measures k.0 k.1, (refl, tt))
  where
    measures : (k : ℕ) → vs ≡ handle_of k ∷ᵛ no_values → Acts ops meas vs (Measured k b ∷ []) (done (bit_of b))
    measures k q = rw q acts_meas
act ops lim (gate g) vs Ts T hs b fit q = let k = gate_handles g vs (q ∙ fit.0) in (Applied g k.0 ∷ [], done (joined vs), acts_gate k.0 k.1, tt)
act ops lim (call f) vs Ts T hs b fit q = ([], puts fit.0.params (given vs) fit.0.body, acts_call fit.0 fit.2, tt)

-- finished, or a step that takes its new entries from k on
pub data Can (ops : List Op) (t : Term) (μ : Table) (k : ℕ) (hs : ℕ → ℕ) (b : Bool) : Type 0 where
  is_done : (v : Value) → t ≡ done v → Can ops t μ k hs b
  can : {p : Place} {ev : Event} {t' : Term} {μ' : Table} → (n : ℕ) → Step ops t μ p (from k n) ev t' μ' → Agrees ev hs b → Can ops t μ k hs b

pub data PartsCan (ops : List Op) (ts : Terms) (μ : Table) (k : ℕ) (hs : ℕ → ℕ) (b : Bool) : Type 0 where
  are_done : (vs : Values) → AllDone ts vs → PartsCan ops ts μ k hs b
  part_can : {p : Place} {ev : Event} {ts' : Terms} {μ' : Table} → (n : ℕ) → StepPart ops ts μ p (from k n) ev ts' μ' → Agrees ev hs b → PartsCan ops ts μ k hs b

module _ (ops : List Op) (lim : ℕ) (μ : Table) (k : ℕ) (hs : ℕ → ℕ) (b : Bool) where
  go_build : (p : Place) (f : Form) (ts : Terms) (Δ : Uses) (Ts : Tys) (T : Ty) → Parts ops lim (around μ) Δ ts Ts → Fits ops lim f Ts T → PartsCan ops ts μ k hs b →
      Can ops (build p f ts) μ k hs b
  go_build p f ts Δ Ts T ps fit (part_can n s a) = can n (step_parts s) a
  go_build p f ts Δ Ts T ps fit (are_done vs d) = let r = act ops lim f vs Ts T hs b fit (all_done d ps).0 in can 0 (step_build vs d r.2) r.3

  go_name : (p : Place) (n : Name) (c : Binding) → around μ n ≡ some c → Can ops (name p n) μ k hs b
  go_name p (var x) c g = never cc
  go_name p (entry e) c g = can 0 step_name tt
  go_name p (handle h) c g = never cc

  go_bind : (p : Place) (xs : Pattern ℕ) (e t : Term) (Δ : Uses) (T : Ty) (Ts : Tys) → Has ops lim (around μ) Δ e T → Spread xs T Ts → Can ops e μ k hs b → Can ops (bind p xs e t) μ k hs b
  go_bind p xs e t Δ T Ts h sp (can n s a) = can n (step_bind_in s) a
  go_bind p xs e t Δ T Ts h sp (is_done v q) = let w = taking xs v T Ts sp (value_type (rw q at h)) in rw q (can 0 (step_bind w.0 w.1) tt)

  go_mut : (p : Place) (xs : Pattern ℕ) (e t : Term) (Δ : Uses) (T : Ty) (Ts : Tys) → Has ops lim (around μ) Δ e T → Spread xs T Ts → Can ops e μ k hs b → Can ops (mut p xs e t) μ k hs b
  go_mut p xs e t Δ T Ts h sp (can n s a) = can n (step_mut_in s) a
  go_mut p xs e t Δ T Ts h sp (is_done v q) =
      let w = taking xs v T Ts sp (value_type (rw q at h)) in
      let n = length (names xs) in
      rw q (can n (step_mut w.0 w.1 (from_length k n)) tt)

  go_set : (p : Place) (ns : Pattern Name) (e t : Term) (Δ : Uses) (T : Ty) (Ts : Tys) → Has ops lim (around μ) Δ e T → Spread ns T Ts → MaySet (around μ) (names ns) Ts →
      Can ops e μ k hs b → Can ops (set p ns e t) μ k hs b
  go_set p ns e t Δ T Ts h sp m (can n s a) = can n (step_set_in s) a
  go_set p ns e t Δ T Ts h sp m (is_done v q) =
      let w = taking ns v T Ts sp (value_type (rw q at h)) in
      let es = are_entries μ (names ns) Ts m in
      rw q (can 0 (step_set w.0 w.1 es.0 es.1) tt)

  go_if : (p : Place) (c t u : Term) (Δ : Uses) → Has ops lim (around μ) Δ c bit → Can ops c μ k hs b → Can ops (if_else p c t u) μ k hs b
  go_if p c t u Δ h (can n s a) = can n (step_if_in s) a
  go_if p c t u Δ h (is_done v q) = let w = a_bit v (value_type (rw q at h)) in rw (q, w.1) (can 0 step_if tt)

  go_parts : (t : Term) (ts : Terms) → Can ops t μ k hs b → PartsCan ops ts μ k hs b → PartsCan ops (t ∷ˢ ts) μ k hs b
  go_parts t ts (can n s a) r = part_can n (step_first s) a
  go_parts t ts (is_done v q) (part_can n s a) = rw q (part_can n (step_later s) a)
  go_parts t ts (is_done v q) (are_done vs d) = rw q (are_done (v ∷ᵛ vs) (one_done d))

  mutual
    pub go : (t : Term) (Δ : Uses) (T : Ty) → Has ops lim (around μ) Δ t T → Can ops t μ k hs b
    go (give p v) Δ T h = can 0 step_give tt
    go (done v) Δ T h = is_done v refl
    go (name p n) Δ T (has_name c g q s) = go_name p n c g
    go (build p f ts) Δ T (has_build Ts ps fit) = go_build p f ts Δ Ts T ps fit (go_all ts Δ Ts ps)
    go (bind p xs e t) Δ U (has_bind Δ₁ Δ₂ T Ts d h sp u) = go_bind p xs e t Δ₁ T Ts h sp (go e Δ₁ T h)
    go (mut p xs e t) Δ U (has_mut Δ₁ Δ₂ T Ts d h nv dup sp u) = go_mut p xs e t Δ₁ T Ts h sp (go e Δ₁ T h)
    go (set p ns e t) Δ U (has_set Δ₁ Δ₂ T Ts d h nv sp m u) = go_set p ns e t Δ₁ T Ts h sp m (go e Δ₁ T h)
    go (using_in p xs t) Δ U h = can 0 (step_using (answers hs (length (names xs))) (answers_length hs (length (names xs)))) (answers_agree hs b (length (names xs)))
    go (if_else p c t u) Δ U (has_if Δ₁ Δ₂ d h v w) = go_if p c t u Δ₁ h (go c Δ₁ bit h)

    pub go_all : (ts : Terms) (Δ : Uses) (Ts : Tys) → Parts ops lim (around μ) Δ ts Ts → PartsCan ops ts μ k hs b
    go_all no_terms Δ Ts ps = are_done no_values none_left
    go_all (t ∷ˢ ts) Δ Ts (parts_more {T = T} {Ts = Us} Δ₁ Δ₂ d h ps) = go_parts t ts (go t Δ₁ T h) (go_all ts Δ₂ Us ps)

pub progress : Progress
progress ops lim t μ Δ T h hs b = finish (go ops lim μ (bound t) hs b t Δ T h)
  where
    finish : Can ops t μ (bound t) hs b → GoesOn ops t μ hs b
    finish (is_done v q) = finished v q
    finish (can n s a) = moves (record { new = from (bound t) n; step = s; fresh = record { apart = from_distinct (bound t) n; unnamed = clear (bound t) n t (omega arith) } }) a
