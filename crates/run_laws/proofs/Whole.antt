-- Along a run: what is left stays typed, so each step finds what it needs, and the machine accepts its orders.
use Rattle.std.proofs.Common.{◌≡◌, ℕ, zero, suc, ◌+◌, ◌-◌, ◌<◌, ◌≤◌, true, List, [], ◌∷◌, ◌++◌, map, length, take, sym, refl, ap, ◌∙◌, subst, arith}
use Rattle.machine.specs.Model.{Model, ordered, Does, Makes, every, distinct}
use Rattle.machine.specs.Orders.{width, handle_list}
use Rattle.machine.specs.declared.order.Gate.{Gate}
use Rattle.machine.specs.declared.order.Handles.{Handles}
use Rattle.machine.specs.declared.order.Order.TheVariants.{Prepared}
use Rattle.grammar.specs.declared.tree.Range.{Range}
use Rattle.programs.specs.declared.program.Node.TheVariants.{Using}
use Rattle.calculus.specs.Syntax.{Ty, Value, handle_of, no_values, ◌∷ᵛ◌, meas, gate, Place, Op, Term}
use Rattle.calculus.specs.Steps.{Table, empty, around, Event, prepares, handle_values}
use Rattle.calculus.specs.Runs.{live_names, live_count, AcceptsAll, at_start, onward, Sound}
use Rattle.calculus.proofs.Names.{never}
use Rattle.calculus.proofs.Soundness.{soundness}
use Rattle.run_laws.specs.Programs.{Code, Means}
use Rattle.run_laws.specs.Reads.{bare, Frame, Focused, entering, out, whole, Reads, reads_node, collect, Ready, Went, Typed}
use Rattle.run_laws.specs.Whole.{Compiled, PreparedFor, Stands}
use Rattle.run_laws.proofs.Closing.{close_bare}
use Rattle.run_laws.proofs.Arms.{using_goes}
use Rattle.run_laws.proofs.Parts.{meas_goes, gate_goes}

-- at the start all of the run term is left, whatever the table holds
pub reads_start : (P : Code) (T : List Value) (root : ℕ) (start : Term) → Means P root start → Reads P T empty [] [] (entering root) start
reads_start P T root start m = subst (λ (L : Term). Reads P T empty [] [] (entering root) L) (close_bare start)
    (reads_node bare bare start (record { values = λ x v h. never cc; places = λ x h. never cc }) (λ x. out) m whole)

pub stands_start : {ops : List Op} {start : Term} {A : Ty} {P : Code} {root : ℕ} (T : List Value) (m₀ : Model) → Compiled ops start A P root → Stands ops start m₀ P 0 m₀ T [] [] (entering root)
stands_start {start = start} {P = P} {root} T m₀ c = record { left = start; table = empty; reached = at_start; reads = reads_start P T root start c.means }

module _ {ops : List Op} {start : Term} {A : Ty} {m₀ : Model} {P : Code} {root k : ℕ} {m : Model} {T : List Value} {fs : List Frame} {vals : List Value} {f : Focused}
    (c : Compiled ops start A P root) (pr : PreparedFor ops start m₀) (st : Stands ops start m₀ P k m T fs vals f) where
  pub sound_along : Sound ops start A m₀ k st.left st.table m
  sound_along = soundness ops start A c.well c.typed m₀ pr.idle pr.enough k st.left st.table m st.reached

  pub typed_along : Typed ops (length ops) (around st.table) st.left
  typed_along = record { uses = live_names m; ty = A; has = sound_along.safe.typed }

-- the machine accepts the orders of a step
pub accepted : {ops : List Op} {start : Term} {A : Ty} {m₀ m : Model} {P : Code} {k : ℕ} {L : Term} {μ : Table} {p : Place} {ev : Event} {T : List Value} {fs : List Frame} {vals : List Value} {f : Focused} →
    Sound ops start A m₀ k L μ m → Went ops P L μ p ev T fs vals f → AcceptsAll m ev
accepted {p = p} {ev} so w = so.never_stuck.accepted p ev w.left w.table w.step

-- a step, and the machine does what it orders
pub stands_on : {ops : List Op} {start : Term} {m₀ m m' : Model} {P : Code} {k : ℕ} {T T' : List Value} {fs fs' : List Frame} {vals vals' : List Value} {f f' : Focused} {p : Place} {ev : Event} →
    (st : Stands ops start m₀ P k m T fs vals f) → Went ops P st.left st.table p ev T' fs' vals' f' → Makes m (map ordered ev) m' → Stands ops start m₀ P (suc k) m' T' fs' vals' f'
stands_on {ev = ev} st w d =
    record { left = w.left; table = w.table; reached = onward st.reached (record { event = ev; step = w.step; does = d }); reads = w.reads }

-- the orders so far were given: the next is accepted
pub next_accepted : (hs : List ℕ) (h : ℕ) (rest : List ℕ) (m m' : Model) → AcceptsAll m (prepares (hs ++ (h ∷ rest))) → Makes m (map ordered (prepares hs)) m' → live_count m' < m'.capacity
next_accepted [] h rest m m' a e = subst (λ (x : Model). live_count x < x.capacity) e a.0
next_accepted (g ∷ hs) h rest m m' a (k, d, ms) = next_accepted hs h rest k m' (a.1 k d) ms

abbrev zeros : ℕ → List ℕ
zeros zero = []
zeros (suc n) = 0 ∷ zeros n

zeros_length : (n : ℕ) → length (zeros n) ≡ n
zeros_length zero = refl
zeros_length (suc n) = ap suc (zeros_length n)

sum_length : (hs : List ℕ) (n : ℕ) → length (hs ++ zeros n) ≡ length hs + n
sum_length [] n = omega (arith, zeros_length n)
sum_length (h ∷ hs) n = omega (arith, sum_length hs n)

-- each handle that a using asks for finds room, after those before it
pub using_room : {ops : List Op} {start : Term} {A : Ty} {m₀ : Model} {P : Code} {k : ℕ} {L : Term} {μ : Table} {m : Model} {T : List Value} {fs : List Frame} {vals : List Value} {i b : ℕ} {r : Range} (hs : List ℕ)
    (m' : Model) → Sound ops start A m₀ k L μ m → P.size ≤ length T → P.node i ≡ Using r b → length hs < r.end - r.first → Reads P T μ fs vals (entering i) L →
    Makes m (map ordered (prepares hs)) m' → live_count m' < m'.capacity
using_room {m = m} {T = T} {r = r} hs m' so long q lt rd ms =
    let rest = (r.end - r.first) - length hs in
    let w = using_goes (hs ++ zeros rest) q long (sum_length hs rest ∙ omega (arith, lt)) refl rd in
    go m rest (omega (arith, lt)) (accepted so w) ms
  where
    go : (m : Model) (n : ℕ) → 0 < n → AcceptsAll m (prepares (hs ++ zeros n)) → Makes m (map ordered (prepares hs)) m' → live_count m' < m'.capacity
    go m zero l a ms = absurd (omega (arith, l))
    go m (suc n) l a ms = next_accepted hs 0 (zeros n) m m' a ms

module _ {ops : List Op} {start : Term} {A : Ty} {m₀ m : Model} {P : Code} {k k' n : ℕ} {L : Term} {μ : Table} {T : List Value} {fs : List Frame} {all : List Value} (so : Sound ops start A m₀ k' L μ m) where
  pub meas_live : {h : ℕ} → collect (take n all) no_values ≡ handle_of h ∷ᵛ no_values → Ready P T μ fs k meas n all L → m.live h ≡ true
  meas_live q r = (accepted so (meas_goes true refl q r)).0

  pub gate_live : {g : Gate} (hs : Handles) → collect (take n all) no_values ≡ handle_values (handle_list hs) → Ready P T μ fs k (gate g) n all L →
      (length (handle_list hs) ≡ width g) × (every m.live (handle_list hs) ≡ true) × (distinct (handle_list hs) ≡ true)
  gate_live hs q r = (accepted so (gate_goes hs refl q r)).0

-- one more handle is prepared
pub prepared_more : (hs : List ℕ) (h : ℕ) (m m' m'' : Model) → Makes m (map ordered (prepares hs)) m' → Does m' (ordered (Prepared h)) m'' → Makes m (map ordered (prepares (hs ++ (h ∷ [])))) m''
prepared_more [] h m m' m'' e d = (m'', subst (λ (x : Model). Does x (ordered (Prepared h)) m'') (sym e) d, refl)
prepared_more (g ∷ hs) h m m' m'' (k, a, ms) d = (k, a, prepared_more hs h k m' m'' ms d)
