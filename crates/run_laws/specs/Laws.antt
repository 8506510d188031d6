-- The laws of a run's steps. T, fs, vals and the focus are the state of the run; what is left is L, with the table μ.
use Rattle.std.specs.Prelude.{◌≡◌, ℕ, suc, ◌-◌, ◌<◌, ◌≤◌, Bool, true, cond, List, [], ◌∷◌, map, reverse, length, take, drop}
use Rattle.std.proofs.Math.Option.{some}
use Rattle.machine.specs.Orders.{width, handle_list}
use Rattle.machine.specs.Model.{Model, ordered, Makes, every, distinct}
use Rattle.machine.specs.declared.order.Gate.{Gate as MachineGate}
use Rattle.machine.specs.declared.order.Handles.{Handles}
use Rattle.machine.specs.declared.order.Order.TheVariants.{Applied, Measured}
use Rattle.grammar.specs.declared.tree.Range.{Range}
use Rattle.grammar.specs.declared.tree.Binder.{Binder}
use Rattle.programs.specs.declared.program.Leaf.{Leaf}
use Rattle.programs.specs.declared.program.Act.{Act}
use Rattle.programs.specs.declared.program.Act.TheVariants.{Tuple, Call}
use Rattle.programs.specs.declared.program.Node.TheVariants.{Constant, Use, Built, Bind, Using, If}
use Rattle.calculus.specs.Syntax.{Ty, Value, bit_of, handle_of, tuple_of, Values, no_values, ◌∷ᵛ◌, flat, tupling, meas, gate, call, Place, Op, Term, done}
use Rattle.calculus.specs.Rules.{nth, most_leaves}
use Rattle.calculus.specs.Steps.{Table, around, Event, prepares, handle_values, joined, Taken, Each}
use Rattle.calculus.specs.Runs.{live_count, AcceptsAll, Sound}
use Rattle.run_laws.specs.Programs.{Code, seen, form, within, entries, pattern, Resolved, Ordered, PairedTuples}
use Rattle.run_laws.specs.Reads.{Frame, Focused, entering, finished, collect, items, wrote, Reads, Ready, Went, InTable, Typed}
use Rattle.run_laws.specs.Sizes.{size, Paired, PairedAll, most_items}
use Rattle.run_laws.specs.Whole.{Compiled, PreparedFor, Stands, Goes, IsTerm, HasParts}

-- a constant becomes its value
abbrev pub ConstantStep : Type 0
ConstantStep = (ops : List Op) (P : Code) (T : List Value) (μ : Table) (fs : List Frame) (vals : List Value) (L : Term) (i : ℕ) (l : Leaf) → P.node i ≡ Constant l →
    Reads P T μ fs vals (entering i) L → Went ops P L μ (P.place i) [] T fs vals (finished (seen l))

-- a name becomes the value that the run's table has for it
abbrev pub NameStep : Type 0
NameStep = (ops : List Op) (P : Code) (T : List Value) (μ : Table) (fs : List Frame) (vals : List Value) (L : Term) (i x lim : ℕ) → P.node i ≡ Use x → Typed ops lim (around μ) L →
    Reads P T μ fs vals (entering i) L → (v : Value) × (nth T x ≡ some v) × Went ops P L μ (P.place i) [] T fs vals (finished v)

-- a using prepares a handle for each name, and its body comes next
abbrev pub UsingStep : Type 0
UsingStep = (ops : List Op) (P : Code) (T T' : List Value) (μ : Table) (fs : List Frame) (vals : List Value) (L : Term) (i b : ℕ) (r : Range) (hs : List ℕ) → P.node i ≡ Using r b → P.size ≤ length T →
    length hs ≡ r.end - r.first → T' ≡ wrote (within r) (map handle_of hs) T → Reads P T μ fs vals (entering i) L → Went ops P L μ (P.place i) (prepares hs) T' fs vals (entering b)

-- the pattern of a let, mut or set takes the value of the right side, a part for each name
abbrev pub PatternFits : Type 0
PatternFits = (ops : List Op) (P : Code) (T : List Value) (μ : Table) (fs : List Frame) (vals : List Value) (L : Term) (k j e b lim : ℕ) (w : Binder) (r : Range) (v : Value) →
    P.node k ≡ Bind w r e b → Typed ops lim (around μ) L → Reads P T μ (record { node = k; part = j } ∷ fs) vals (finished v) L →
    (vs : Values) × Taken (pattern (entries P r)) v vs × (length (items vs) ≡ length (entries P r))

-- its parts are written at the names' entries, and the body comes next
abbrev pub BindStep : Type 0
BindStep = (ops : List Op) (P : Code) (T T' : List Value) (μ : Table) (fs : List Frame) (vals : List Value) (L : Term) (k j e b lim : ℕ) (w : Binder) (r : Range) (v : Value) (vs : Values) →
    P.node k ≡ Bind w r e b → P.size ≤ length T → Typed ops lim (around μ) L → Taken (pattern (entries P r)) v vs → T' ≡ wrote (entries P r) (items vs) T →
    Reads P T μ (record { node = k; part = j } ∷ fs) vals (finished v) L → Went ops P L μ (P.place k) [] T' fs vals (entering b)

-- the condition of an if is a bit, and its branch comes next
abbrev pub IfFits : Type 0
IfFits = (ops : List Op) (P : Code) (T : List Value) (μ : Table) (fs : List Frame) (vals : List Value) (L : Term) (k j c y n lim : ℕ) (v : Value) → P.node k ≡ If c y n →
    Typed ops lim (around μ) L → Reads P T μ (record { node = k; part = j } ∷ fs) vals (finished v) L → (b : Bool) × (v ≡ bit_of b)

abbrev pub IfStep : Type 0
IfStep = (ops : List Op) (P : Code) (T : List Value) (μ : Table) (fs : List Frame) (vals : List Value) (L : Term) (k j c y n : ℕ) (b : Bool) → P.node k ≡ If c y n →
    Reads P T μ (record { node = k; part = j } ∷ fs) vals (finished (bit_of b)) L → Went ops P L μ (P.place k) [] T fs vals (entering (cond b y n))

-- going down to the part that runs first is no step
abbrev pub DownPart : Type 0
DownPart = (P : Code) (T : List Value) (μ : Table) (fs : List Frame) (vals : List Value) (L : Term) (i : ℕ) (f : Act) (r : Range) → P.node i ≡ Built f r → r.first < r.end →
    Reads P T μ fs vals (entering i) L → (P.part (r.end - 1) < i) × Reads P T μ (record { node = i; part = r.end - 1 } ∷ fs) vals (entering (P.part (r.end - 1))) L

abbrev pub DownBind : Type 0
DownBind = (P : Code) (T : List Value) (μ : Table) (fs : List Frame) (vals : List Value) (L : Term) (i j e b : ℕ) (w : Binder) (r : Range) → P.node i ≡ Bind w r e b →
    Reads P T μ fs vals (entering i) L → (e < i) × Reads P T μ (record { node = i; part = j } ∷ fs) vals (entering e) L

abbrev pub DownIf : Type 0
DownIf = (P : Code) (T : List Value) (μ : Table) (fs : List Frame) (vals : List Value) (L : Term) (i j c y n : ℕ) → P.node i ≡ If c y n →
    Reads P T μ fs vals (entering i) L → (c < i) × Reads P T μ (record { node = i; part = j } ∷ fs) vals (entering c) L

-- and neither is going on to the next part
abbrev pub OnPart : Type 0
OnPart = (P : Code) (T : List Value) (μ : Table) (fs : List Frame) (vals : List Value) (L : Term) (k j : ℕ) (f : Act) (r : Range) (v : Value) → P.node k ≡ Built f r → r.first < j →
    Reads P T μ (record { node = k; part = j } ∷ fs) vals (finished v) L → Reads P T μ (record { node = k; part = j - 1 } ∷ fs) (v ∷ vals) (entering (P.part (j - 1))) L

-- after the last part, or where there is none, all parts are values
abbrev pub NoneReady : Type 0
NoneReady = (P : Code) (T : List Value) (μ : Table) (fs : List Frame) (vals : List Value) (L : Term) (i : ℕ) (f : Act) (r : Range) → P.node i ≡ Built f r → r.end ≤ r.first →
    Reads P T μ fs vals (entering i) L → Ready P T μ fs i (form f) (r.end - r.first) vals L

abbrev pub LastReady : Type 0
LastReady = (P : Code) (T : List Value) (μ : Table) (fs : List Frame) (vals : List Value) (L : Term) (k j : ℕ) (f : Act) (r : Range) (v : Value) → P.node k ≡ Built f r → j ≤ r.first →
    Reads P T μ (record { node = k; part = j } ∷ fs) vals (finished v) L → Ready P T μ fs k (form f) (r.end - r.first) (v ∷ vals) L

-- a tuple, of at most 8 leaves
abbrev pub TupleFits : Type 0
TupleFits = (ops : List Op) (P : Code) (T : List Value) (μ : Table) (fs : List Frame) (all : List Value) (L : Term) (k n lim : ℕ) → Typed ops lim (around μ) L →
    Ready P T μ fs k tupling n all L → length (flat (tuple_of (collect (take n all) no_values))) ≤ most_leaves

-- so, where the parts of tuples are two or more, at most 15 items
abbrev pub TupleSmall : Type 0
TupleSmall = (ops : List Op) (P : Code) (T : List Value) (μ : Table) (fs : List Frame) (all : List Value) (L : Term) (k lim : ℕ) (r : Range) → PairedTuples P → P.node k ≡ Built Tuple r →
    Typed ops lim (around μ) L → Ready P T μ fs k tupling (r.end - r.first) all L → PairedAll (collect (take (r.end - r.first) all) no_values) →
    Paired (tuple_of (collect (take (r.end - r.first) all) no_values)) × (size (tuple_of (collect (take (r.end - r.first) all) no_values)) ≤ most_items)

abbrev pub TupleStep : Type 0
TupleStep = (ops : List Op) (P : Code) (T : List Value) (μ : Table) (fs : List Frame) (all vals' : List Value) (L : Term) (k n : ℕ) → vals' ≡ drop n all →
    Ready P T μ fs k tupling n all L → Went ops P L μ (P.place k) [] T fs vals' (finished (tuple_of (collect (take n all) no_values)))

-- a measurement of one handle
abbrev pub MeasFits : Type 0
MeasFits = (ops : List Op) (P : Code) (T : List Value) (μ : Table) (fs : List Frame) (all : List Value) (L : Term) (k n lim : ℕ) → Typed ops lim (around μ) L →
    Ready P T μ fs k meas n all L → (h : ℕ) × (collect (take n all) no_values ≡ handle_of h ∷ᵛ no_values)

abbrev pub MeasStep : Type 0
MeasStep = (ops : List Op) (P : Code) (T : List Value) (μ : Table) (fs : List Frame) (all vals' : List Value) (L : Term) (k n h : ℕ) (b : Bool) → vals' ≡ drop n all →
    collect (take n all) no_values ≡ handle_of h ∷ᵛ no_values → Ready P T μ fs k meas n all L → Went ops P L μ (P.place k) (Measured h b ∷ []) T fs vals' (finished (bit_of b))

-- a gate on as many handles as its width
abbrev pub GateFits : Type 0
GateFits = (ops : List Op) (P : Code) (T : List Value) (μ : Table) (fs : List Frame) (all : List Value) (L : Term) (k n lim : ℕ) (g : MachineGate) → Typed ops lim (around μ) L →
    Ready P T μ fs k (gate g) n all L → (hs : Handles) × (collect (take n all) no_values ≡ handle_values (handle_list hs)) × (length (handle_list hs) ≡ width g)

abbrev pub GateStep : Type 0
GateStep = (ops : List Op) (P : Code) (T : List Value) (μ : Table) (fs : List Frame) (all vals' : List Value) (L : Term) (k n : ℕ) (g : MachineGate) (hs : Handles) → vals' ≡ drop n all →
    collect (take n all) no_values ≡ handle_values (handle_list hs) → Ready P T μ fs k (gate g) n all L →
    Went ops P L μ (P.place k) (Applied g hs ∷ []) T fs vals' (finished (joined (handle_values (handle_list hs))))

-- a call: the arguments, first to last, are written at the parameters' entries, and the body comes next
abbrev pub CallStep : Type 0
CallStep = (ops : List Op) (P : Code) (T T' : List Value) (μ : Table) (fs : List Frame) (all vals' : List Value) (L : Term) (k n f : ℕ) (r : Range) → Resolved ops P →
    P.node k ≡ Built (Call f) r → P.size ≤ length T → n ≡ r.end - r.first → vals' ≡ drop n all → T' ≡ wrote (within (P.root f).names) (reverse (take n all)) T →
    Ready P T μ fs k (call f) n all L → Went ops P L μ (P.place k) [] T' fs vals' (entering (P.root f).body)

-- one more frame fits where a node is entered or goes on, one more value where a part is finished
abbrev pub FrameFits : Type 0
FrameFits = (P : Code) (T : List Value) (μ : Table) (fs : List Frame) (vals : List Value) (L : Term) (i : ℕ) → Reads P T μ fs vals (entering i) L → length fs < P.size

abbrev pub FrameBack : Type 0
FrameBack = (P : Code) (T : List Value) (μ : Table) (f : Frame) (fs : List Frame) (vals : List Value) (L : Term) (v : Value) → Reads P T μ (f ∷ fs) vals (finished v) L → length fs < P.size

abbrev pub ValueFits : Type 0
ValueFits = (P : Code) (T : List Value) (μ : Table) (fs : List Frame) (vals : List Value) (L : Term) (k j : ℕ) (g : Act) (r : Range) (v : Value) → Ordered P → P.node k ≡ Built g r →
    Reads P T μ (record { node = k; part = j } ∷ fs) vals (finished v) L → length vals < P.size

-- only terms are entered, only nodes with parts wait
abbrev pub Entered : Type 0
Entered = (P : Code) (T : List Value) (μ : Table) (fs : List Frame) (vals : List Value) (L : Term) (i : ℕ) → Reads P T μ fs vals (entering i) L → IsTerm (P.node i) × (i < P.size)

abbrev pub Waiting : Type 0
Waiting = (P : Code) (T : List Value) (μ : Table) (f : Frame) (fs : List Frame) (vals : List Value) (L : Term) (v : Value) → Reads P T μ (f ∷ fs) vals (finished v) L → HasParts (P.node f.node)

-- a finished value where nothing waits is all that is left, and what is left is finished only there
abbrev pub Ended : Type 0
Ended = (P : Code) (T : List Value) (μ : Table) (vals : List Value) (L : Term) (v : Value) → Reads P T μ [] vals (finished v) L → (L ≡ done v) × (vals ≡ [])

abbrev pub Unended : Type 0
Unended = (P : Code) (T : List Value) (μ : Table) (fs : List Frame) (vals : List Value) (f : Focused) (L : Term) (v : Value) → Reads P T μ fs vals f L → L ≡ done v → (fs ≡ []) × (f ≡ finished v)

-- a run starts with all of its term left, whatever the table holds
abbrev pub Start : Type 0
Start = (ops : List Op) (start : Term) (A : Ty) (P : Code) (root : ℕ) (T : List Value) (m₀ : Model) → Compiled ops start A P root → Stands ops start m₀ P 0 m₀ T [] [] (entering root)

-- all along a run, what is left is as the calculus says, and has a type
abbrev pub Along : Type 0
Along = (ops : List Op) (start : Term) (A : Ty) (m₀ : Model) (P : Code) (root k : ℕ) (m : Model) (T : List Value) (fs : List Frame) (vals : List Value) (f : Focused) → Compiled ops start A P root →
    PreparedFor ops start m₀ → (st : Stands ops start m₀ P k m T fs vals f) → Sound ops start A m₀ k st.left st.table m × Typed ops (length ops) (around st.table) st.left

-- where what is left is as the calculus says, the machine accepts the orders of its step
abbrev pub Accepted : Type 0
Accepted = (ops : List Op) (start : Term) (A : Ty) (m₀ : Model) (P : Code) (k : ℕ) (L : Term) (μ : Table) (m : Model) (p : Place) (ev : Event) (T : List Value) (fs : List Frame) (vals : List Value) (f : Focused) →
    Sound ops start A m₀ k L μ m → Went ops P L μ p ev T fs vals f → AcceptsAll m ev

-- so each handle that a using asks for finds room, after those before it
abbrev pub UsingRoom : Type 0
UsingRoom = (ops : List Op) (start : Term) (A : Ty) (m₀ : Model) (P : Code) (k : ℕ) (L : Term) (μ : Table) (m m' : Model) (T : List Value) (fs : List Frame) (vals : List Value) (i b : ℕ) (r : Range) (hs : List ℕ) →
    Sound ops start A m₀ k L μ m → P.size ≤ length T → P.node i ≡ Using r b → length hs < r.end - r.first → Reads P T μ fs vals (entering i) L →
    Makes m (map ordered (prepares hs)) m' → live_count m' < m'.capacity

-- a handle that is measured is live, and those of a gate are live and different
abbrev pub MeasLive : Type 0
MeasLive = (ops : List Op) (start : Term) (A : Ty) (m₀ : Model) (P : Code) (k' : ℕ) (L : Term) (μ : Table) (m : Model) (T : List Value) (fs : List Frame) (all : List Value) (k n h : ℕ) →
    Sound ops start A m₀ k' L μ m → collect (take n all) no_values ≡ handle_of h ∷ᵛ no_values → Ready P T μ fs k meas n all L → m.live h ≡ true

abbrev pub GateLive : Type 0
GateLive = (ops : List Op) (start : Term) (A : Ty) (m₀ : Model) (P : Code) (k' : ℕ) (L : Term) (μ : Table) (m : Model) (T : List Value) (fs : List Frame) (all : List Value) (k n : ℕ) (g : MachineGate) (hs : Handles) →
    Sound ops start A m₀ k' L μ m → collect (take n all) no_values ≡ handle_values (handle_list hs) → Ready P T μ fs k (gate g) n all L →
    (length (handle_list hs) ≡ width g) × (every m.live (handle_list hs) ≡ true) × (distinct (handle_list hs) ≡ true)

-- a step, with a machine that does what it orders, leads on
abbrev pub Onward : Type 0
Onward = (ops : List Op) (start : Term) (m₀ m m' : Model) (P : Code) (k : ℕ) (T T' : List Value) (fs fs' : List Frame) (vals vals' : List Value) (f f' : Focused) (p : Place) (ev : Event) →
    (st : Stands ops start m₀ P k m T fs vals f) → Went ops P st.left st.table p ev T' fs' vals' f' → Makes m (map ordered ev) m' → Stands ops start m₀ P (suc k) m' T' fs' vals' f'

abbrev pub LeadsOn : Type 0
LeadsOn = (ops : List Op) (start : Term) (A : Ty) (m₀ m m' : Model) (P : Code) (root k : ℕ) (T T' : List Value) (fs fs' : List Frame) (vals vals' : List Value) (f f' : Focused) → Compiled ops start A P root →
    PreparedFor ops start m₀ → P.size ≤ length T → Stands ops start m₀ P k m T fs vals f → Goes P T fs vals f m T' fs' vals' f' m' → Stands ops start m₀ P (suc k) m' T' fs' vals' f'

-- what is left, as it has a type, is one term
abbrev pub OneReading : Type 0
OneReading = (ops : List Op) (lim : ℕ) (P : Code) (T : List Value) (fs : List Frame) (vals : List Value) (f : Focused) (L L' : Term) (μ μ' : Table) → Typed ops lim (around μ) L →
    Typed ops lim (around μ') L' → Reads P T μ fs vals f L → Reads P T μ' fs vals f L' → L ≡ L'

-- so it does not depend on how the run came to the state
abbrev pub OneLeft : Type 0
OneLeft = (ops : List Op) (start : Term) (A : Ty) (m₀ m₀' m m' : Model) (P : Code) (root k k' : ℕ) (T : List Value) (fs : List Frame) (vals : List Value) (f : Focused) → Compiled ops start A P root →
    PreparedFor ops start m₀ → PreparedFor ops start m₀' → (st : Stands ops start m₀ P k m T fs vals f) (st' : Stands ops start m₀' P k' m' T fs vals f) → st.left ≡ st'.left

-- the entries that it names have their values in the run's table
abbrev pub TableRead : Type 0
TableRead = (P : Code) (T : List Value) (μ : Table) (fs : List Frame) (vals : List Value) (f : Focused) (L : Term) → Reads P T μ fs vals f L → Each (InTable T μ) L
