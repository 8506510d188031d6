-- Going down to a part, on to the next, and what is built once all are values.
use Rattle.std.proofs.Common.{◌≡◌, ℕ, ◌-◌, ◌<◌, ◌≤◌, Bool, List, [], ◌∷◌, ◌++◌, reverse, length, take, drop, sym, refl, ap, ◌∙◌, subst, subst₂, arith}
use Rattle.std.proofs.lemmas.List.{reverse-append}
use Rattle.machine.specs.Orders.{handle_list}
use Rattle.machine.specs.declared.order.Gate.{Gate as MachineGate}
use Rattle.machine.specs.declared.order.Handles.{Handles}
use Rattle.machine.specs.declared.order.Order.TheVariants.{Applied, Measured}
use Rattle.grammar.specs.declared.tree.Range.{Range}
use Rattle.grammar.specs.declared.tree.Binder.{Binder}
use Rattle.programs.specs.declared.program.Act.{Act}
use Rattle.programs.specs.declared.program.Act.TheVariants.{Call}
use Rattle.programs.specs.declared.program.Node.{Node}
use Rattle.programs.specs.declared.program.Node.TheVariants.{Built, Bind, If}
use Rattle.calculus.specs.Syntax.{Value, bit_of, handle_of, tuple_of, Values, no_values, ◌∷ᵛ◌, flat, Form, tupling, meas, gate, call, Op, Term, done, build, no_terms}
use Rattle.calculus.specs.Rules.{most_leaves}
use Rattle.calculus.specs.Steps.{puts, given, Table, around, handle_values, joined, Acts, acts_tuple, acts_meas, acts_gate, acts_call, none_left, Step, step_build}
use Rattle.run_laws.specs.Programs.{Code, form, range, within, entries, Means, Shape, shape_built, shape_bind, shape_if, listed_none, listed_more, Resolved}
use Rattle.run_laws.specs.Reads.{Env, bare, close, front, collect, items, wrote, Frame, Waits, waits_part, waits_bind, waits_if, out, Within, Around, inside}
use Rattle.run_laws.specs.Reads.{Tied, entering, finished, Reads, reads_node, reads_value, Went, Ready, Typed}
use Rattle.run_laws.proofs.Closing.{close_bare, close_bind}
use Rattle.run_laws.proofs.Frames.{within_lower, front_done, middle}
use Rattle.run_laws.proofs.Fits.{Handled, meas_one, gate_some, tuple_few}
use Rattle.run_laws.proofs.Arms.{shape_at, waits_at, waits_back, is_node, settles, enters_values}
use Rattle.calculus.proofs.Names.{never}

take_front : (vs below : List Value) → take (length vs) (vs ++ below) ≡ vs
take_front [] below = take_none below
  where
    take_none : (xs : List Value) → take 0 xs ≡ []
    take_none [] = refl
    take_none (x ∷ xs) = refl
take_front (v ∷ vs) below = ap (◌∷◌ v) (take_front vs below)

drop_front : (vs below : List Value) → drop (length vs) (vs ++ below) ≡ below
drop_front [] below = drop_none below
  where
    drop_none : (xs : List Value) → drop 0 xs ≡ xs
    drop_none [] = refl
    drop_none (x ∷ xs) = refl
drop_front (v ∷ vs) below = drop_front vs below

length_front : (vs below : List Value) → length vs ≤ length (vs ++ below)
length_front [] below = omega arith
length_front (v ∷ vs) below = omega (arith, length_front vs below)

ready : {P : Code} {T : List Value} {μ : Table} {fs : List Frame} {k : ℕ} {f : Form} {L : Term} (G : Env) (vs below : List Value) (n : ℕ) (all : List Value) → Tied G T μ →
    n ≡ length vs → all ≡ vs ++ below → Around P G k fs below (build (P.place k) f (front vs no_terms)) L → Ready P T μ fs k f n all L
ready {P} {T} {μ} {fs} {k} {f} {L} G vs below n all ti en ea a = rw (en, ea) (record {
  env = G;
  tied = ti;
  enough = length_front vs below;
  middle = subst₂ (λ (b w : List Value). Around P G k fs b (build (P.place k) f (front w no_terms)) L) (sym (drop_front vs below)) (sym (take_front vs below)) a;
})

module _ {P : Code} {T : List Value} {μ : Table} {vals : List Value} {L : Term} where
  -- node i waits for its part e
  sits : {fs : List Frame} {i j e : ℕ} {nd : Node} {t u : Term} {G : Env} (σ : Env) → Tied G T μ → Within P G i σ → e < i → P.node i ≡ nd → Means P e t → Waits P σ i j nd [] (close σ t) u →
      Around P G i fs vals u L → Reads P T μ (record { node = i; part = j } ∷ fs) vals (entering e) L
  sits {t = t} {G = G} σ ti w le q me h a = reads_node G σ t ti (within_lower σ (omega (arith, le)) w) me (inside [] vals σ le w refl (waits_back q h) a)

  -- going down: what is left stays as it is
  pub down_part : {fs : List Frame} {i : ℕ} {f : Act} {r : Range} → P.node i ≡ Built f r → r.first < r.end → Reads P T μ fs vals (entering i) L →
      (P.part (r.end - 1) < i) × Reads P T μ (record { node = i; part = r.end - 1 } ∷ fs) vals (entering (P.part (r.end - 1))) L
  down_part {fs} {i} {f} {r} q lt (reads_node G σ t ti w m a) = go (shape_at q m) a
    where
      go : {t : Term} → Shape P i (Built f r) t → Around P G i fs vals (close σ t) L →
          (P.part (r.end - 1) < i) × Reads P T μ (record { node = i; part = r.end - 1 } ∷ fs) vals (entering (P.part (r.end - 1))) L
      go (shape_built (listed_none e)) a = absurd (omega (arith, e, lt))
      go (shape_built (listed_more l ld md rest)) a = (ld, sits σ ti w ld q md (waits_part {j = r.end - 1} {r = r} {vs = []} (omega (arith, lt)) (omega (arith, lt)) rest) a)

  pub down_bind : {fs : List Frame} {i j e b : ℕ} {w : Binder} {r : Range} → P.node i ≡ Bind w r e b → Reads P T μ fs vals (entering i) L →
      (e < i) × Reads P T μ (record { node = i; part = j } ∷ fs) vals (entering e) L
  down_bind {fs} {i} {j} {e} {b} {w} {r} q (reads_node G σ t ti wi m a) = go (shape_at q m) a
    where
      go : {t : Term} → Shape P i (Bind w r e b) t → Around P G i fs vals (close σ t) L → (e < i) × Reads P T μ (record { node = i; part = j } ∷ fs) vals (entering e) L
      go (shape_bind {t = t} {u = u} le lb lr lk nm me mb) a =
          let lt : e < i = omega (arith, le, lr, lk) in
          (lt, sits σ ti wi lt q me (waits_bind lb lr lk nm mb) (subst (λ (z : Term). Around P G i fs vals z L) (close_bind σ w (P.place i) (entries P r) t u) a))

  pub down_if : {fs : List Frame} {i j c y n : ℕ} → P.node i ≡ If c y n → Reads P T μ fs vals (entering i) L →
      (c < i) × Reads P T μ (record { node = i; part = j } ∷ fs) vals (entering c) L
  down_if {fs} {i} {j} {c} {y} {n} q (reads_node G σ t ti w m a) = go (shape_at q m) a
    where
      go : {t : Term} → Shape P i (If c y n) t → Around P G i fs vals (close σ t) L → (c < i) × Reads P T μ (record { node = i; part = j } ∷ fs) vals (entering c) L
      go (shape_if lc ly ln mc my mn) a = (lc, sits σ ti w lc q mc (waits_if ly ln my mn) a)

  -- on to the next part
  pub on_part : {fs : List Frame} {k j : ℕ} {f : Act} {r : Range} {v : Value} → P.node k ≡ Built f r → r.first < j → Reads P T μ (record { node = k; part = j } ∷ fs) vals (finished v) L →
      Reads P T μ (record { node = k; part = j - 1 } ∷ fs) (v ∷ vals) (entering (P.part (j - 1))) L
  on_part {fs} {k} {j} {f} {r} {v} q lt (reads_value G ti (inside vs below σ l0 w e h ar)) = go (waits_at q h) e ar
    where
      go : {vs below : List Value} {u : Term} → Waits P σ k j (Built f r) vs (done v) u → vals ≡ vs ++ below → Around P G k fs below u L →
          Reads P T μ (record { node = k; part = j - 1 } ∷ fs) (v ∷ vals) (entering (P.part (j - 1))) L
      go (waits_part ej lj (listed_none e)) ev ar = absurd (omega (arith, e, lt))
      go {vs} {below} (waits_part ej lj (listed_more {t = t} l ld md rest)) ev ar =
          reads_node G σ t ti (within_lower σ (omega (arith, ld)) w) md
          (inside (v ∷ vs) below σ ld w (ap (◌∷◌ v) ev) (waits_back q (waits_part {j = j - 1} {r = r} {vs = v ∷ vs} (omega (arith, ej, lt)) (omega (arith, lt)) rest)) ar)

  -- all parts are values
  pub none_ready : {fs : List Frame} {i : ℕ} {f : Act} {r : Range} → P.node i ≡ Built f r → r.end ≤ r.first → Reads P T μ fs vals (entering i) L →
      Ready P T μ fs i (form f) (r.end - r.first) vals L
  none_ready {fs} {i} {f} {r} q e (reads_node G σ t ti w m ar) = go (shape_at q m) ar
    where
      go : {t : Term} → Shape P i (Built f r) t → Around P G i fs vals (close σ t) L → Ready P T μ fs i (form f) (r.end - r.first) vals L
      go (shape_built (listed_none z)) ar = ready G [] vals (r.end - r.first) vals ti (omega (arith, e)) refl ar
      go (shape_built (listed_more l ld md rest)) ar = absurd (omega (arith, e, l))

  pub last_ready : {fs : List Frame} {k j : ℕ} {f : Act} {r : Range} {v : Value} → P.node k ≡ Built f r → j ≤ r.first →
      Reads P T μ (record { node = k; part = j } ∷ fs) vals (finished v) L → Ready P T μ fs k (form f) (r.end - r.first) (v ∷ vals) L
  last_ready {fs} {k} {j} {f} {r} {v} q lj (reads_value G ti (inside vs below σ l0 w e h ar)) = go (waits_at q h) e ar
    where
      go : {vs below : List Value} {u : Term} → Waits P σ k j (Built f r) vs (done v) u → vals ≡ vs ++ below → Around P G k fs below u L →
          Ready P T μ fs k (form f) (r.end - r.first) (v ∷ vals) L
      go {vs} {below} (waits_part ej la (listed_none e)) ev ar = ready G (v ∷ vs) below (r.end - r.first) (v ∷ vals) ti (omega (arith, ej, la, lj)) (ap (◌∷◌ v) ev) ar
      go (waits_part ej la (listed_more l ld md rest)) ev ar = absurd (omega (arith, lj, l))

-- the parts in order
collect_items : (ws : List Value) (acc : Values) → items (collect ws acc) ≡ reverse ws ++ items acc
collect_items ws acc = sym (unroll ws acc)
  where
    assoc : (xs ys zs : List Value) → (xs ++ ys) ++ zs ≡ xs ++ (ys ++ zs)
    assoc [] ys zs = refl
    assoc (x ∷ xs) ys zs = ap (◌∷◌ x) (assoc xs ys zs)

    unroll : (ws : List Value) (acc : Values) → reverse ws ++ items acc ≡ items (collect ws acc)
    unroll [] acc = refl
    unroll (w ∷ ws) acc = ap (λ (xs : List Value). xs ++ items acc) (reverse-append (w ∷ []) ws) ∙ assoc (reverse ws) (w ∷ []) (items acc) ∙ unroll ws (w ∷ᵛ acc)

no_more : (xs : List Value) → xs ++ [] ≡ xs
no_more [] = refl
no_more (x ∷ xs) = ap (◌∷◌ x) (no_more xs)

pub collect_order : (ws : List Value) → items (collect ws no_values) ≡ reverse ws
collect_order ws = collect_items ws no_values ∙ no_more (reverse ws)

-- what the type says of the parts
module _ {ops : List Op} {P : Code} {T : List Value} {μ : Table} {fs : List Frame} {k n : ℕ} {all : List Value} {L : Term} where
  -- a tuple has at most 8 leaves
  pub tuple_fits : {lim : ℕ} → Typed ops lim (around μ) L → Ready P T μ fs k tupling n all L → length (flat (tuple_of (collect (take n all) no_values))) ≤ most_leaves
  tuple_fits ty r = tuple_few μ (take n all) (middle r.middle ty)

  pub meas_fits : {lim : ℕ} → Typed ops lim (around μ) L → Ready P T μ fs k meas n all L → (h : ℕ) × (collect (take n all) no_values ≡ handle_of h ∷ᵛ no_values)
  meas_fits ty r = meas_one μ (take n all) (middle r.middle ty)

  pub gate_fits : {lim : ℕ} {g : MachineGate} → Typed ops lim (around μ) L → Ready P T μ fs k (gate g) n all L → Handled g (collect (take n all) no_values)
  gate_fits {g = g} ty r = gate_some μ g (take n all) (middle r.middle ty)

-- the forms, once their parts are values
module _ {ops : List Op} {P : Code} {T : List Value} {μ : Table} {fs : List Frame} {k n : ℕ} {all vals' : List Value} {L : Term} where
  pub tuple_goes : vals' ≡ drop n all → Ready P T μ fs k tupling n all L → Went ops P L μ (P.place k) [] T fs vals' (finished (tuple_of (collect (take n all) no_values)))
  tuple_goes e r = rw e (settles r.tied (step_build _ (front_done (take n all) none_left) acts_tuple) r.middle)

  pub meas_goes : {h : ℕ} (b : Bool) → vals' ≡ drop n all → collect (take n all) no_values ≡ handle_of h ∷ᵛ no_values → Ready P T μ fs k meas n all L →
      Went ops P L μ (P.place k) (Measured h b ∷ []) T fs vals' (finished (bit_of b))
  meas_goes {h} b e q r =
      rw e (settles r.tied (step_build _ (front_done (take n all) none_left) (subst (λ (vs : Values). Acts ops meas vs (Measured h b ∷ []) (done (bit_of b))) (sym q) acts_meas)) r.middle)

  pub gate_goes : {g : MachineGate} (hs : Handles) → vals' ≡ drop n all → collect (take n all) no_values ≡ handle_values (handle_list hs) → Ready P T μ fs k (gate g) n all L →
      Went ops P L μ (P.place k) (Applied g hs ∷ []) T fs vals' (finished (joined (handle_values (handle_list hs))))
  gate_goes {g} hs e q r = rw e (settles r.tied
      (step_build _ (front_done (take n all) none_left)
      (subst (λ (vs : Values). Acts ops (gate g) vs (Applied g hs ∷ []) (done (joined (handle_values (handle_list hs))))) (sym q) (acts_gate hs refl))) r.middle)

  pub call_goes : {f : ℕ} {r : Range} {T' : List Value} → Resolved ops P → P.node k ≡ Built (Call f) r → P.size ≤ length T → n ≡ r.end - r.first → vals' ≡ drop n all →
      T' ≡ wrote (within (P.root f).names) (reverse (take n all)) T → Ready P T μ fs k (call f) n all L →
      Went ops P L μ (P.place k) [] T' fs vals' (entering (P.root f).body)
  call_goes {f} {r} {T'} rs q long en e eT rd =
      let c = rs k f r q in
      let x = (P.root f).names.first in
      let m = (P.root f).names.end - (P.root f).names.first in
      let vs = collect (take n all) no_values in
      let same : puts c.op.params (given vs) c.op.body ≡ puts (range x m) (given vs) (close bare c.op.body) =
      ap (λ (xs : List ℕ). puts xs (given vs) c.op.body) c.params ∙ ap (puts (range x m) (given vs)) (sym (close_bare c.op.body)) in
      rw e (enters_values bare x m vs c.under (omega (arith, c.ordered, c.before)) (omega (arith, long, is_node P k (Built (Call f) r) q (λ y z. never cc)))
      (λ y l h. (c.own y l (omega (arith, h, c.ordered))).1) (λ y l h. refl) (λ y. out) rd.tied c.body
      (eT ∙ ap (λ (ws : List Value). wrote (range x m) ws T) (sym (collect_order (take n all))))
      (subst (λ (y : Term). Step ops (build (P.place k) (call f) (front (take n all) no_terms)) μ (P.place k) [] [] y μ) same (step_build vs (front_done (take n all) none_left) (acts_call c.op c.found)))
      rd.middle)
