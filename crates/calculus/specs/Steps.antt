-- What is left of a run, and its steps: substitution, the events, the table, the step relation.
use Rattle.std.specs.Prelude.{◌≡◌, List, [], ◌∷◌, map, Bool, true, false, cond, ℕ, suc, ◌+◌, eqb, length}
use Rattle.std.proofs.Math.Option.{none, some}
use Rattle.machine.specs.Orders.{width, handle_list}
use Rattle.machine.specs.Model.{absent, distinct}
use Rattle.machine.specs.declared.order.Gate.{Gate}
use Rattle.machine.specs.declared.order.Handles.{Handles}
use Rattle.machine.specs.declared.order.Order.{Order}
use Rattle.machine.specs.declared.order.Order.TheVariants.{Prepared, Applied, Measured}
use Rattle.calculus.specs.Syntax.{Name, var, entry, handle, is}
use Rattle.calculus.specs.Syntax.{Value, the_unit, bit_of, int_of, handle_of, tuple_of, Values, no_values, ◌∷ᵛ◌, type_of}
use Rattle.calculus.specs.Syntax.{Pattern, one, several, names, Form, tupling, meas, gate, call, Place, Op}
use Rattle.calculus.specs.Syntax.{Term, give, done, name, build, bind, mut, set, using_in, if_else, Terms, no_terms, ◌∷ˢ◌}
use Rattle.calculus.specs.Rules.{Uses, once, settable, Scope, nth}

-- what stands for a bound name: a value, or a mut name's entry
pub data Stand : Type 0 where
  by_value : Value → Stand
  by_entry : ℕ → Stand

-- it stands where the name stood
abbrev pub stand_at : Place → Stand → Term
stand_at p (by_value v) = give p v
stand_at p (by_entry e) = name p (entry e)

-- a name that is set, once s stands for x
abbrev pub target : ℕ → Stand → Name → Name
target x (by_value v) n = n
target x (by_entry e) n = cond (is (var x) n) (entry e) n

abbrev pub targets : ℕ → Stand → Pattern Name → Pattern Name
targets x s (one n) = one (target x s n)
targets x s (several ns) = several (map (target x s) ns)

-- s for the name x: no binder below binds x again
abbrev mutual
  pub put : ℕ → Stand → Term → Term
  put x s (give p v) = give p v
  put x s (done v) = done v
  put x s (name p n) = cond (is (var x) n) (stand_at p s) (name p n)
  put x s (build p f ts) = build p f (put_all x s ts)
  put x s (bind p ys e t) = bind p ys (put x s e) (put x s t)
  put x s (mut p ys e t) = mut p ys (put x s e) (put x s t)
  put x s (set p ns e t) = set p (targets x s ns) (put x s e) (put x s t)
  put x s (using_in p ys t) = using_in p ys (put x s t)
  put x s (if_else p c t u) = if_else p (put x s c) (put x s t) (put x s u)

  pub put_all : ℕ → Stand → Terms → Terms
  put_all x s no_terms = no_terms
  put_all x s (t ∷ˢ ts) = put x s t ∷ˢ put_all x s ts

-- one for each name
abbrev pub puts : List ℕ → List Stand → Term → Term
puts [] ss t = t
puts (x ∷ xs) [] t = t
puts (x ∷ xs) (s ∷ ss) t = put x s (puts xs ss t)

abbrev pub given : Values → List Stand
given no_values = []
given (v ∷ᵛ vs) = by_value v ∷ given vs

-- Q holds of each name in the value, the names, the term
abbrev mutual
  pub EachHeld : (Name → Type 0) → Value → Type 0
  EachHeld Q the_unit = Unit {0}
  EachHeld Q (bit_of b) = Unit {0}
  EachHeld Q (int_of n) = Unit {0}
  EachHeld Q (handle_of h) = Q (handle h)
  EachHeld Q (tuple_of vs) = EachHeldAll Q vs

  pub EachHeldAll : (Name → Type 0) → Values → Type 0
  EachHeldAll Q no_values = Unit {0}
  EachHeldAll Q (v ∷ᵛ vs) = EachHeld Q v × EachHeldAll Q vs

abbrev pub EachName : (Name → Type 0) → List Name → Type 0
EachName Q [] = Unit {0}
EachName Q (n ∷ ns) = Q n × EachName Q ns

abbrev mutual
  pub Each : (Name → Type 0) → Term → Type 0
  Each Q (give p v) = EachHeld Q v
  Each Q (done v) = EachHeld Q v
  Each Q (name p n) = Q n
  Each Q (build p f ts) = EachPart Q ts
  Each Q (bind p xs e t) = Each Q e × Each Q t
  Each Q (mut p xs e t) = Each Q e × Each Q t
  Each Q (set p ns e t) = EachName Q (names ns) × Each Q e × Each Q t
  Each Q (using_in p xs t) = Each Q t
  Each Q (if_else p c t u) = Each Q c × Each Q t × Each Q u

  pub EachPart : (Name → Type 0) → Terms → Type 0
  EachPart Q no_terms = Unit {0}
  EachPart Q (t ∷ˢ ts) = Each Q t × EachPart Q ts

-- the name is none of these entries
abbrev pub Clear : List ℕ → Name → Type 0
Clear es (var x) = Unit {0}
Clear es (entry e) = absent e es ≡ true
Clear es (handle h) = Unit {0}

-- the entries of mut names: a value for each number, of which what is left names a few
abbrev pub Table : Type 0
Table = ℕ → Value

-- at the start each entry holds unit, and what is left names none
abbrev pub empty : Table
empty e = the_unit

abbrev pub write : ℕ → Value → Table → Table
write e v μ k = cond (eqb k e) v (μ k)

-- the values at the entries; what is not named stays
abbrev pub written : List ℕ → Values → Table → Table
written [] vs μ = μ
written (e ∷ es) no_values μ = μ
written (e ∷ es) (v ∷ᵛ vs) μ = write e v (written es vs μ)

-- the context of what is left: each entry has its value's type and may be set
abbrev pub around : Table → Scope
around μ (var x) = none
around μ (entry e) = some (settable (type_of (μ e)))
around μ (handle h) = none

-- the orders that a step sends, with the machine's answers
abbrev pub Event : Type 0
Event = List Order

abbrev pub prepares : List ℕ → Event
prepares [] = []
prepares (h ∷ hs) = Prepared h ∷ prepares hs

abbrev pub handle_values : List ℕ → Values
handle_values [] = no_values
handle_values (h ∷ hs) = handle_of h ∷ᵛ handle_values hs

abbrev pub handle_names : List ℕ → Uses
handle_names [] n = 0
handle_names (h ∷ hs) n = once (handle h) n + handle_names hs n

-- the handles that become live, those that are live no more, and those that the orders name
abbrev pub gained : Event → Uses
gained [] n = 0
gained (Prepared h ∷ os) n = once (handle h) n + gained os n
gained (Applied g hs ∷ os) n = gained os n
gained (Measured h b ∷ os) n = gained os n

abbrev pub lost : Event → Uses
lost [] n = 0
lost (Prepared h ∷ os) n = lost os n
lost (Applied g hs ∷ os) n = lost os n
lost (Measured h b ∷ os) n = once (handle h) n + lost os n

abbrev pub named : Event → Uses
named [] n = 0
named (Prepared h ∷ os) n = named os n
named (Applied g hs ∷ os) n = handle_names (handle_list hs) n + named os n
named (Measured h b ∷ os) n = once (handle h) n + named os n

-- each gate has as many handles as its width
abbrev pub InWidth : Event → Type 0
InWidth [] = Unit {0}
InWidth (Prepared h ∷ os) = InWidth os
InWidth (Applied g hs ∷ os) = (length (handle_list hs) ≡ width g) × InWidth os
InWidth (Measured h b ∷ os) = InWidth os

pub data AllDone : Terms → Values → Type 0 where
  none_left : AllDone no_terms no_values
  one_done : {ts : Terms} {v : Value} {vs : Values} → AllDone ts vs → AllDone (done v ∷ˢ ts) (v ∷ᵛ vs)

-- a lone value is itself, several are a tuple
abbrev pub joined : Values → Value
joined no_values = tuple_of no_values
joined (v ∷ᵛ no_values) = v
joined (v ∷ᵛ (w ∷ᵛ vs)) = tuple_of (v ∷ᵛ (w ∷ᵛ vs))

-- a form whose parts are values: a tuple is finished; meas sends its order and is the bit given; a gate sends its order and is its handles in the same order;
-- a call goes on with the body, the values put for the parameters
pub data Acts (ops : List Op) : Form → Values → Event → Term → Type 0 where
  acts_tuple : {vs : Values} → Acts ops tupling vs [] (done (tuple_of vs))
  acts_meas : {h : ℕ} {b : Bool} → Acts ops meas (handle_of h ∷ᵛ no_values) (Measured h b ∷ []) (done (bit_of b))
  acts_gate : {g : Gate} {vs : Values} → (hs : Handles) → vs ≡ handle_values (handle_list hs) →
      Acts ops (gate g) vs (Applied g hs ∷ []) (done (joined vs))
  acts_call : {f : ℕ} {vs : Values} → (op : Op) → nth ops f ≡ some op → Acts ops (call f) vs [] (puts op.params (given vs) op.body)

-- one name takes the whole value, several take the parts of a tuple
abbrev pub Taken : {N : Type 0} → Pattern N → Value → Values → Type 0
Taken (one x) v vs = vs ≡ v ∷ᵛ no_values
Taken (several xs) v vs = v ≡ tuple_of vs

-- A step: at which place, with which new entries, with which event.
-- Constants, names and using step when reached; forms when their parts are values, let, mut, set and if when the right side or condition is one.
-- A name gives its entry's present value. The names of a mut become new entries; a set writes the entries that it names; using prepares a handle for each name;
-- if goes on with its first branch on one.
mutual
  pub data Step (ops : List Op) : Term → Table → Place → List ℕ → Event → Term → Table → Type 0 where
    step_give : {p : Place} {v : Value} {μ : Table} → Step ops (give p v) μ p [] [] (done v) μ
    step_name : {p : Place} {e : ℕ} {μ : Table} → Step ops (name p (entry e)) μ p [] [] (done (μ e)) μ
    step_parts : {p q : Place} {f : Form} {ts ts' : Terms} {μ μ' : Table} {es : List ℕ} {ev : Event} →
        StepPart ops ts μ q es ev ts' μ' → Step ops (build p f ts) μ q es ev (build p f ts') μ'
    step_build : {p : Place} {f : Form} {ts : Terms} {t : Term} {μ : Table} {ev : Event} → (vs : Values) → AllDone ts vs → Acts ops f vs ev t →
        Step ops (build p f ts) μ p [] ev t μ
    step_bind_in : {p q : Place} {xs : Pattern ℕ} {e e' t : Term} {μ μ' : Table} {es : List ℕ} {ev : Event} →
        Step ops e μ q es ev e' μ' → Step ops (bind p xs e t) μ q es ev (bind p xs e' t) μ'
    step_bind : {p : Place} {xs : Pattern ℕ} {v : Value} {t : Term} {μ : Table} → (vs : Values) → Taken xs v vs →
        Step ops (bind p xs (done v) t) μ p [] [] (puts (names xs) (given vs) t) μ
    step_mut_in : {p q : Place} {xs : Pattern ℕ} {e e' t : Term} {μ μ' : Table} {es : List ℕ} {ev : Event} →
        Step ops e μ q es ev e' μ' → Step ops (mut p xs e t) μ q es ev (mut p xs e' t) μ'
    step_mut : {p : Place} {xs : Pattern ℕ} {v : Value} {t : Term} {μ : Table} {es : List ℕ} → (vs : Values) → Taken xs v vs → length es ≡ length (names xs) →
        Step ops (mut p xs (done v) t) μ p es [] (puts (names xs) (map by_entry es) t) (written es vs μ)
    step_set_in : {p q : Place} {ns : Pattern Name} {e e' t : Term} {μ μ' : Table} {es : List ℕ} {ev : Event} →
        Step ops e μ q es ev e' μ' → Step ops (set p ns e t) μ q es ev (set p ns e' t) μ'
    step_set : {p : Place} {ns : Pattern Name} {v : Value} {t : Term} {μ : Table} → (vs : Values) → Taken ns v vs → (es : List ℕ) → names ns ≡ map entry es →
        Step ops (set p ns (done v) t) μ p [] [] t (written es vs μ)
    step_using : {p : Place} {xs : Pattern ℕ} {t : Term} {μ : Table} → (hs : List ℕ) → length hs ≡ length (names xs) →
        Step ops (using_in p xs t) μ p [] (prepares hs) (puts (names xs) (given (handle_values hs)) t) μ
    step_if_in : {p q : Place} {c c' t u : Term} {μ μ' : Table} {es : List ℕ} {ev : Event} →
        Step ops c μ q es ev c' μ' → Step ops (if_else p c t u) μ q es ev (if_else p c' t u) μ'
    step_if : {p : Place} {b : Bool} {t u : Term} {μ : Table} → Step ops (if_else p (done (bit_of b)) t u) μ p [] [] (cond b t u) μ

  -- the first part that is not finished steps
  pub data StepPart (ops : List Op) : Terms → Table → Place → List ℕ → Event → Terms → Table → Type 0 where
    step_first : {q : Place} {t t' : Term} {ts : Terms} {μ μ' : Table} {es : List ℕ} {ev : Event} →
        Step ops t μ q es ev t' μ' → StepPart ops (t ∷ˢ ts) μ q es ev (t' ∷ˢ ts) μ'
    step_later : {q : Place} {v : Value} {ts ts' : Terms} {μ μ' : Table} {es : List ℕ} {ev : Event} →
        StepPart ops ts μ q es ev ts' μ' → StepPart ops (done v ∷ˢ ts) μ q es ev (done v ∷ˢ ts') μ'

-- the step is an if's, which leaves one of its branches
abbrev mutual
  pub chooses : {ops : List Op} {t t' : Term} {μ μ' : Table} {p : Place} {es : List ℕ} {ev : Event} → Step ops t μ p es ev t' μ' → Bool
  chooses step_give = false
  chooses step_name = false
  chooses (step_parts s) = chooses_part s
  chooses (step_build vs d a) = false
  chooses (step_bind_in s) = chooses s
  chooses (step_bind vs k) = false
  chooses (step_mut_in s) = chooses s
  chooses (step_mut vs k l) = false
  chooses (step_set_in s) = chooses s
  chooses (step_set vs k es q) = false
  chooses (step_using hs l) = false
  chooses (step_if_in s) = chooses s
  chooses step_if = true

  pub chooses_part : {ops : List Op} {ts ts' : Terms} {μ μ' : Table} {p : Place} {es : List ℕ} {ev : Event} → StepPart ops ts μ p es ev ts' μ' → Bool
  chooses_part (step_first s) = chooses s
  chooses_part (step_later s) = chooses_part s

-- the entries are new to the term, and no two are the same
pub record Fresh (es : List ℕ) (t : Term) : Type 0 where
  pub apart : distinct es ≡ true
  pub unnamed : Each (Clear es) t

-- a step of what is left: the entries of the names that it binds are new to all of it
pub record WholeStep (ops : List Op) (t : Term) (μ : Table) (p : Place) (ev : Event) (t' : Term) (μ' : Table) : Type 0 where
  pub new : List ℕ
  pub step : Step ops t μ p new ev t' μ'
  pub fresh : Fresh new t

-- what the machine answers: a handle for each name of a using, in order, or a bit
abbrev pub Agrees : Event → (ℕ → ℕ) → Bool → Type 0
Agrees [] hs b = Unit {0}
Agrees (Prepared h ∷ os) hs b = (h ≡ hs 0) × Agrees os (λ i. hs (suc i)) b
Agrees (Applied g ks ∷ os) hs b = Agrees os hs b
Agrees (Measured h c ∷ os) hs b = (c ≡ b) × Agrees os hs b
