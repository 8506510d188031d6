-- The steps of a run with the machine, in the form in which the code's contracts say them.
use Rattle.std.proofs.Common.{◌≡◌, ℕ, suc, ◌-◌, ◌≤◌, Bool, cond, List, [], ◌∷◌, map, reverse, length, get_or, take, drop, sym, refl, ◌∙◌, subst}
use Rattle.machine.specs.Orders.{handle_list}
use Rattle.machine.specs.Model.{Model, ordered, Does, Makes}
use Rattle.machine.specs.declared.order.Gate.{Gate}
use Rattle.machine.specs.declared.order.Handles.{Handles}
use Rattle.machine.specs.declared.order.Order.TheVariants.{Applied, Measured}
use Rattle.grammar.specs.declared.tree.Range.{Range}
use Rattle.grammar.specs.declared.tree.Binder.{Binder}
use Rattle.programs.specs.declared.program.Leaf.{Leaf}
use Rattle.programs.specs.declared.program.Act.{Act}
use Rattle.programs.specs.declared.program.Act.TheVariants.{Call}
use Rattle.programs.specs.declared.program.Node.TheVariants.{Constant, Use, Built, Bind, Using, If}
use Rattle.calculus.specs.Syntax.{Ty, Value, bit_of, handle_of, tuple_of, Values, no_values, ◌∷ᵛ◌, tupling, meas, gate, call, Op, Term}
use Rattle.calculus.specs.Steps.{Table, around, prepares, handle_values, joined, Taken}
use Rattle.calculus.specs.Runs.{live_names, Sound}
use Rattle.run_laws.specs.Programs.{Code, seen, form, within, entries, pattern}
use Rattle.run_laws.specs.Reads.{Frame, Focused, entering, finished, collect, items, wrote, Reads, Went, Typed}
use Rattle.run_laws.specs.Whole.{Compiled, PreparedFor, Stands, Goes, ActsOn}
use Rattle.run_laws.proofs.Tables.{nth_getD}
use Rattle.run_laws.proofs.Arms.{constant_goes, name_goes, using_goes, bind_goes, if_goes}
use Rattle.run_laws.proofs.Parts.{none_ready, last_ready, tuple_goes, meas_goes, gate_goes, call_goes}
use Rattle.run_laws.proofs.Whole.{sound_along, stands_on}

-- what is left has a type
pub typed_left : {ops : List Op} {start : Term} {A : Ty} {m₀ m : Model} {k : ℕ} {L : Term} {μ : Table} → Sound ops start A m₀ k L μ m → Typed ops (length ops) (around μ) L
typed_left {A = A} {m = m} so = record { uses = live_names m; ty = A; has = so.safe.typed }

-- a step leads on
pub leads_on : {ops : List Op} {start : Term} {A : Ty} {m₀ m m' : Model} {P : Code} {root k : ℕ} {T T' : List Value} {fs fs' : List Frame} {vals vals' : List Value} {f f' : Focused} → Compiled ops start A P root →
    PreparedFor ops start m₀ → P.size ≤ length T → Stands ops start m₀ P k m T fs vals f → Goes P T fs vals f m T' fs' vals' f' m' → Stands ops start m₀ P (suc k) m' T' fs' vals' f'
leads_on {ops} {start} {A} {m₀} {k = k} c pr long st g =
    let s = g ops start A m₀ k st.left st.table (record { resolved = c.resolved; ordered = c.ordered; pairs = c.pairs; long = long; sound = sound_along c pr st }) st.reads in
    stands_on st s.went s.made

module _ {P : Code} {T : List Value} {m : Model} where
  -- what leaves all as it is may come before
  pub goes_after : {fs fs₁ fs' : List Frame} {vals vals₁ vals' T' : List Value} {f f₁ f' : Focused} {m' : Model} → ((L : Term) (μ : Table) → Reads P T μ fs vals f L → Reads P T μ fs₁ vals₁ f₁ L) →
      Goes P T fs₁ vals₁ f₁ m T' fs' vals' f' m' → Goes P T fs vals f m T' fs' vals' f' m'
  goes_after h g ops start A m₀ k L μ re rd = g ops start A m₀ k L μ re (h L μ rd)

  pub constant_step : {fs : List Frame} {vals : List Value} {i : ℕ} {l : Leaf} → P.node i ≡ Constant l → Goes P T fs vals (entering i) m T fs vals (finished (seen l)) m
  constant_step q ops start A m₀ k L μ re rd = record { place = _; event = []; went = constant_goes q rd; made = refl }

  pub name_step : {fs : List Frame} {vals : List Value} {i x : ℕ} (d v : Value) → P.node i ≡ Use x → v ≡ get_or T x d → Goes P T fs vals (entering i) m T fs vals (finished v) m
  name_step {fs} {vals} {i} {x} d v q e ops start A m₀ k L μ re rd =
      let r = name_goes q (typed_left re.sound) rd in
      let same : r.0 ≡ v = sym (nth_getD T x r.0 d r.1) ∙ sym e in
      record { place = P.place i; event = []; went = subst (λ (w : Value). Went ops P L μ (P.place i) [] T fs vals (finished w)) same r.2; made = refl }

  pub using_step : {fs : List Frame} {vals T' : List Value} {i b : ℕ} {r : Range} {m' : Model} (hs : List ℕ) → P.node i ≡ Using r b → length hs ≡ r.end - r.first →
      T' ≡ wrote (within r) (map handle_of hs) T → Makes m (map ordered (prepares hs)) m' → Goes P T fs vals (entering i) m T' fs vals (entering b) m'
  using_step hs q l e ms ops start A m₀ k L μ re rd = record { place = _; event = prepares hs; went = using_goes hs q re.long l e rd; made = ms }

  pub bind_step : {fs : List Frame} {vals T' : List Value} {n j e b : ℕ} {w : Binder} {r : Range} {v : Value} (vs : Values) → P.node n ≡ Bind w r e b → Taken (pattern (entries P r)) v vs →
      T' ≡ wrote (entries P r) (items vs) T → Goes P T (record { node = n; part = j } ∷ fs) vals (finished v) m T' fs vals (entering b) m
  bind_step vs q tk eT ops start A m₀ k L μ re rd = record { place = _; event = []; went = bind_goes vs q re.long (typed_left re.sound) tk eT rd; made = refl }

  pub if_step : {fs : List Frame} {vals : List Value} {i j c y n : ℕ} (b : Bool) → P.node i ≡ If c y n →
      Goes P T (record { node = i; part = j } ∷ fs) vals (finished (bit_of b)) m T fs vals (entering (cond b y n)) m
  if_step b q ops start A m₀ k L μ re rd = record { place = _; event = []; went = if_goes q rd; made = refl }

  -- all parts are values: what is built of them
  pub none_step : {fs fs' : List Frame} {vals vals' T' : List Value} {i : ℕ} {a : Act} {r : Range} {f' : Focused} {m' : Model} → P.node i ≡ Built a r → r.end ≤ r.first →
      ActsOn P T fs i (form a) (r.end - r.first) vals m T' fs' vals' f' m' → Goes P T fs vals (entering i) m T' fs' vals' f' m'
  none_step q l g ops start A m₀ k L μ re rd = g ops start A m₀ k L μ re (none_ready q l rd)

  pub last_step : {fs fs' : List Frame} {vals vals' T' : List Value} {i j : ℕ} {a : Act} {r : Range} {v : Value} {f' : Focused} {m' : Model} → P.node i ≡ Built a r → j ≤ r.first →
      ActsOn P T fs i (form a) (r.end - r.first) (v ∷ vals) m T' fs' vals' f' m' → Goes P T (record { node = i; part = j } ∷ fs) vals (finished v) m T' fs' vals' f' m'
  last_step q l g ops start A m₀ k L μ re rd = g ops start A m₀ k L μ re (last_ready q l rd)

  pub tuple_step : {fs : List Frame} {i n : ℕ} {all vals' : List Value} → vals' ≡ drop n all → ActsOn P T fs i tupling n all m T fs vals' (finished (tuple_of (collect (take n all) no_values))) m
  tuple_step e ops start A m₀ k L μ re rd = record { place = _; event = []; went = tuple_goes e rd; made = refl }

  pub meas_step : {fs : List Frame} {i n h : ℕ} {all vals' : List Value} {m' : Model} (b : Bool) → vals' ≡ drop n all → collect (take n all) no_values ≡ handle_of h ∷ᵛ no_values →
      Does m (ordered (Measured h b)) m' → ActsOn P T fs i meas n all m T fs vals' (finished (bit_of b)) m'
  meas_step {m' = m'} b e q d ops start A m₀ k L μ re rd = record { place = _; event = _; went = meas_goes b e q rd; made = (m', d, refl) }

  pub gate_step : {fs : List Frame} {i n : ℕ} {all vals' : List Value} {m' : Model} {g : Gate} (hs : Handles) → vals' ≡ drop n all → collect (take n all) no_values ≡ handle_values (handle_list hs) →
      Does m (ordered (Applied g hs)) m' → ActsOn P T fs i (gate g) n all m T fs vals' (finished (joined (handle_values (handle_list hs)))) m'
  gate_step {m' = m'} hs e q d ops start A m₀ k L μ re rd = record { place = _; event = _; went = gate_goes hs e q rd; made = (m', d, refl) }

  pub call_step : {fs : List Frame} {i n f : ℕ} {all vals' T' : List Value} {r : Range} → P.node i ≡ Built (Call f) r → n ≡ r.end - r.first → vals' ≡ drop n all →
      T' ≡ wrote (within (P.root f).names) (reverse (take n all)) T → ActsOn P T fs i (call f) n all m T' fs vals' (entering (P.root f).body) m
  call_step q en e eT ops start A m₀ k L μ re rd = record { place = _; event = []; went = call_goes re.resolved q re.long en e eT rd; made = refl }
