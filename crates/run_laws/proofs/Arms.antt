-- Each move of a run, on what is read from it.
use Rattle.std.proofs.Common.{◌≡◌, ℕ, zero, suc, ◌+◌, ◌-◌, ◌<◌, ◌≤◌, Bool, true, false, cond, ltb, List, [], ◌∷◌, ◌++◌, map, length, sym, refl, ap, ◌∙◌, subst, arith, ltb-false, ltb-true}
use mathlib.Core.Option.{Option, none, some}
use Rattle.grammar.specs.declared.tree.Range.{Range}
use Rattle.grammar.specs.declared.tree.Binder.{Binder}
use Rattle.grammar.specs.declared.tree.Binder.TheVariants.{Let, Mut, Set}
use Rattle.programs.specs.declared.program.Leaf.{Leaf}
use Rattle.programs.specs.declared.program.Node.{Node}
use Rattle.programs.specs.declared.program.Node.TheVariants.{Place as NoTerm, Constant, Use, Bind, Using, If}
use Rattle.calculus.specs.Syntax.{Value, bit_of, handle_of, Values, names, Place, Op, Term, done, bind, mut, using_in}
use Rattle.calculus.specs.Rules.{nth}
use Rattle.calculus.specs.Steps.{by_entry, puts, given, Table, written, around, Event, prepares, handle_values, Taken, Each, Clear, Fresh}
use Rattle.calculus.specs.Steps.{Step, step_give, step_name, step_bind, step_mut, step_set, step_using, step_if}
use Rattle.run_laws.specs.Programs.{Code, seen, range, within, entries, pattern, Own, Named, Means, Shape, shape_constant, shape_use, shape_using}
use Rattle.run_laws.specs.Reads.{Standing, valued, mutable, Env, as_term, as_name, close, closed_bind, items, wrote, Frame, Waits, waits_bind, waits_if, Within, Around, inside}
use Rattle.run_laws.specs.Reads.{Tied, entering, finished, Reads, reads_node, reads_value, Went, Typed}
use Rattle.run_laws.proofs.Closing.{range_above, range_distinct, range_length, binds_out, Free, all_mutable, puts_values, puts_entries, names_pattern, own_entries}
use Rattle.run_laws.proofs.Tables.{Below, AllMutable, tied_values, tied_mutables, tied_sets}
use Rattle.run_laws.proofs.Frames.{within_lower, within_low, within_at, AllSuit, within_all, moved, middle, around_lower}
use Rattle.run_laws.proofs.Clear.{none_new, clear_value, clear_shape, clear_around}
use Rattle.run_laws.proofs.Fits.{no_var_left, if_bit, Takes, bind_fits, bind_many, sets_mutable, entry_names, mapped_taken}
use Rattle.calculus.proofs.Names.{never}

pub shape_at : {P : Code} {i : ℕ} {t : Term} {nd : Node} → P.node i ≡ nd → Means P i t → Shape P i nd t
shape_at {P} {i} {t} q m = subst (λ (n : Node). Shape P i n t) q m

pub waits_at : {P : Code} {σ : Env} {k j : ℕ} {nd : Node} {vs : List Value} {t u : Term} → P.node k ≡ nd → Waits P σ k j (P.node k) vs t u → Waits P σ k j nd vs t u
waits_at {P} {σ} {k} {j} {nd} {vs} {t} {u} q h = subst (λ (m : Node). Waits P σ k j m vs t u) q h

pub waits_back : {P : Code} {σ : Env} {k j : ℕ} {nd : Node} {vs : List Value} {t u : Term} → P.node k ≡ nd → Waits P σ k j nd vs t u → Waits P σ k j (P.node k) vs t u
waits_back {P} {σ} {k} {j} {nd} {vs} {t} {u} q h = subst (λ (m : Node). Waits P σ k j m vs t u) (sym q) h

-- what is a term is one of the nodes
pub is_node : (P : Code) (i : ℕ) (nd : Node) → P.node i ≡ nd → ((m : Bool) → nd ≡ NoTerm m → ⊥) → i < P.size
is_node P i nd q h = go (ltb i P.size) refl
  where
    go : (b : Bool) → ltb i P.size ≡ b → i < P.size
    go true e = ltb-true i P.size e
    go false e = let p = P.past i (ltb-false i P.size e) in absurd (h p.0 (sym q ∙ p.1))

-- the step of the middle, and then a value in its place
pub settles : {ops : List Op} {P : Code} {G : Env} {T : List Value} {μ μ' : Table} {fs : List Frame} {vals : List Value} {n : ℕ} {t L : Term} {v : Value} {p : Place} {ev : Event} →
    Tied G T μ' → Step ops t μ p [] ev (done v) μ' → Around P G n fs vals t L → Went ops P L μ p ev T fs vals (finished v)
settles {G = G} {μ' = μ'} {L = L} ti s a =
    let r = moved (λ x l. refl) s a in
    record { left = r.0; table = μ'; step = record { new = []; step = r.1; fresh = none_new L }; reads = reads_value G ti (around_lower (omega arith) r.2) }

-- the step of the middle, and then the term of a node below in its place
pub enters : {ops : List Op} {P : Code} {G G' σ : Env} {T : List Value} {μ μ' : Table} {fs : List Frame} {vals : List Value} {n b : ℕ} {t u L : Term} {p : Place} {es : List ℕ} {ev : Event} →
    ((x : ℕ) → n < x → G' x ≡ G x) → Tied G' T μ' → Within P G' b σ → Means P b u → b ≤ n → Step ops t μ p es ev (close σ u) μ' → Fresh es L → Around P G n fs vals t L →
    Went ops P L μ p ev T fs vals (entering b)
enters {G' = G'} {σ = σ} {μ' = μ'} {u = u} {es = es} f ti w m le s fr a =
    let r = moved f s a in
    record { left = r.0; table = μ'; step = record { new = es; step = r.1; fresh = fr }; reads = reads_node G' σ u ti w m (around_lower le r.2) }

-- names in a row
pub row_below : (x n m : ℕ) → x + n ≤ m → Below m (range x n)
row_below x zero m h = tt
row_below x (suc n) m h = (omega (arith, h), row_below (suc x) n m (omega (arith, h)))

suit_values : (P : Code) (x n m : ℕ) (ws : List Value) → m < x → ((y : ℕ) → x ≤ y → y < x + n → P.mut_name y ≡ false) → AllSuit P m (range x n) (map valued ws)
suit_values P x zero m ws h f = tt
suit_values P x (suc n) m [] h f = tt
suit_values P x (suc n) m (w ∷ ws) h f = (h, f x (omega arith) (omega arith), suit_values P (suc x) n m ws (omega (arith, h)) (λ y a b. f y (omega (arith, a)) (omega (arith, b))))

suit_mutables : (P : Code) (x n m : ℕ) → m < x → ((y : ℕ) → x ≤ y → y < x + n → P.mut_name y ≡ true) → AllSuit P m (range x n) (all_mutable (range x n))
suit_mutables P x zero m h f = tt
suit_mutables P x (suc n) m h f = (h, f x (omega arith) (omega arith), suit_mutables P (suc x) n m (omega (arith, h)) (λ y a b. f y (omega (arith, a)) (omega (arith, b))))

module _ {ops : List Op} {P : Code} {G : Env} {T : List Value} {μ : Table} {fs : List Frame} {vals : List Value} {n b : ℕ} {t u L : Term} {p : Place} where
  -- values for the c names from x on, which node n binds
  pub enters_values : {ev : Event} {T' : List Value} (σ : Env) (x c : ℕ) (vs : Values) → b < x → x + c ≤ n → n ≤ length T → ((y : ℕ) → x ≤ y → y < x + c → P.mut_name y ≡ false) →
      Free σ x c → Within P G b σ → Tied G T μ → Means P b u → T' ≡ wrote (range x c) (items vs) T → Step ops t μ p [] ev (puts (range x c) (given vs) (close σ u)) μ →
      Around P G n fs vals t L → Went ops P L μ p ev T' fs vals (entering b)
  enters_values {ev} {T'} σ x c vs lb le ll own free w ti m eT s a =
      subst (λ (U : List Value). Went ops P L μ p ev U fs vals (entering b)) (sym eT)
      (enters (λ y l. binds_out (range x c) (map valued (items vs)) G y (range_above y x c (omega (arith, l, le))))
      (tied_values T (range x c) (items vs) (range_distinct x c) (row_below x c (length T) (omega (arith, le, ll))) ti)
      (within_all σ (range x c) (map valued (items vs)) (suit_values P x c b (items vs) lb own) w) m (omega (arith, lb, le))
      (subst (λ (z : Term). Step ops t μ p [] ev z μ) (puts_values c x vs σ u free) s) (none_new L) a)

  -- mut names
  pub enters_mutables : {T' : List Value} (σ : Env) (x c : ℕ) (vs : Values) → b < x → x + c ≤ n → n ≤ length T → ((y : ℕ) → x ≤ y → y < x + c → P.mut_name y ≡ true) →
      length (items vs) ≡ c → Free σ x c → Within P G b σ → Tied G T μ → Means P b u → T' ≡ wrote (range x c) (items vs) T →
      Step ops t μ p (range x c) [] (puts (range x c) (map by_entry (range x c)) (close σ u)) (written (range x c) vs μ) → Each (Clear (range x c)) t →
      Around P G n fs vals t L → Went ops P L μ p [] T' fs vals (entering b)
  enters_mutables {T'} σ x c vs lb le ll own many free w ti m eT s cl a =
      subst (λ (U : List Value). Went ops P L μ p [] U fs vals (entering b)) (sym eT)
      (enters (λ y l. binds_out (range x c) (all_mutable (range x c)) G y (range_above y x c (omega (arith, l, le))))
      (tied_mutables T (range x c) vs (range_length x c ∙ sym many) (range_distinct x c) (row_below x c (length T) (omega (arith, le, ll))) ti)
      (within_all σ (range x c) (all_mutable (range x c)) (suit_mutables P x c b lb own) w) m (omega (arith, lb, le))
      (subst (λ (z : Term). Step ops t μ p (range x c) [] z (written (range x c) vs μ)) (puts_entries c x σ u free) s)
      (record { apart = range_distinct x c; unnamed = clear_around (range x c) (λ y l. range_above y x c (omega (arith, l, le))) cl a }) a)

pub handle_items : (hs : List ℕ) → items (handle_values hs) ≡ map handle_of hs
handle_items [] = refl
handle_items (h ∷ hs) = ap (◌∷◌ (handle_of h)) (handle_items hs)

module _ {ops : List Op} {P : Code} {T : List Value} {μ : Table} {vals : List Value} {L : Term} where
  pub constant_goes : {fs : List Frame} {i : ℕ} {l : Leaf} → P.node i ≡ Constant l → Reads P T μ fs vals (entering i) L → Went ops P L μ (P.place i) [] T fs vals (finished (seen l))
  constant_goes {fs} {i} {l} q (reads_node G σ t ti w m a) = go (shape_at q m) a
    where
      go : {t : Term} → Shape P i (Constant l) t → Around P G i fs vals (close σ t) L → Went ops P L μ (P.place i) [] T fs vals (finished (seen l))
      go shape_constant a = settles ti step_give a

  -- a name is bound, and its value stands in the table
  pub name_goes : {fs : List Frame} {i x lim : ℕ} → P.node i ≡ Use x → Typed ops lim (around μ) L → Reads P T μ fs vals (entering i) L →
      (v : Value) × (nth T x ≡ some v) × Went ops P L μ (P.place i) [] T fs vals (finished v)
  name_goes {fs} {i} {x} {lim} q ty (reads_node G σ t ti w m a) = go (shape_at q m) a
    where
      Found : Type 0
      Found = (v : Value) × (nth T x ≡ some v) × Went ops P L μ (P.place i) [] T fs vals (finished v)

      stands : (o : Option Standing) → σ x ≡ o → Around P G i fs vals (as_term (P.place i) x o) L → Found
      stands none e a = absurd (no_var_left μ (middle a ty))
      stands (some (valued v)) e a = (v, ti.values x v (within_at σ w e).2, settles ti step_give a)
      stands (some mutable) e a = (μ x, ti.places x (within_at σ w e).2, settles ti step_name a)

      go : {t : Term} → Shape P i (Use x) t → Around P G i fs vals (close σ t) L → Found
      go shape_use a = stands (σ x) refl a

  pub using_goes : {fs : List Frame} {i b : ℕ} {r : Range} {T' : List Value} (hs : List ℕ) → P.node i ≡ Using r b → P.size ≤ length T → length hs ≡ r.end - r.first →
      T' ≡ wrote (within r) (map handle_of hs) T → Reads P T μ fs vals (entering i) L → Went ops P L μ (P.place i) (prepares hs) T' fs vals (entering b)
  using_goes {fs} {i} {b} {r} {T'} hs q long lh eT (reads_node G σ t ti w m a) = go (shape_at q m) a
    where
      c : ℕ
      c = r.end - r.first

      go : {t : Term} → Shape P i (Using r b) t → Around P G i fs vals (close σ t) L → Went ops P L μ (P.place i) (prepares hs) T' fs vals (entering b)
      go (shape_using {t = t} lb lr lk own mb) a =
          enters_values σ r.first c (handle_values hs) lb (omega (arith, lr, lk)) (omega (arith, long, is_node P i (Using r b) q (λ m e. never cc)))
          (λ y l h. (own y l (omega (arith, h, lr))).1) (λ y l h. within_low σ y (omega (arith, h, lr, lk)) w) (within_lower σ (omega (arith, lb, lr, lk)) w) ti mb
          (eT ∙ ap (λ (ws : List Value). wrote (within r) ws T) (sym (handle_items hs)))
          (subst (λ (xs : List ℕ). Step ops (using_in (P.place i) (pattern (within r)) (close σ t)) μ (P.place i) [] (prepares hs) (puts xs (given (handle_values hs)) (close σ t)) μ)
          (names_pattern (within r)) (step_using hs (lh ∙ sym (range_length r.first c) ∙ ap length (sym (names_pattern (within r)))))) a

  -- the pattern of a let, mut or set takes the value, a part for each name
  pub pattern_fits : {fs : List Frame} {k j e b lim : ℕ} {w : Binder} {r : Range} {v : Value} → P.node k ≡ Bind w r e b → Typed ops lim (around μ) L →
      Reads P T μ (record { node = k; part = j } ∷ fs) vals (finished v) L → Takes (entries P r) v
  pattern_fits {fs} {k} {j} {e} {b} {lim} {w} {r} {v} q ty (reads_value G ti (inside vs below σ l0 wi ev h a)) = go (waits_at q h) a
    where
      go : {vs below : List Value} {u : Term} → Waits P σ k j (Bind w r e b) vs (done v) u → Around P G k fs below u L → Takes (entries P r) v
      go (waits_bind {u = t} lb lr lk nm mb) a = bind_fits μ σ w (P.place k) (entries P r) v (close σ t) (middle a ty)

  pub bind_goes : {fs : List Frame} {k j e b lim : ℕ} {w : Binder} {r : Range} {v : Value} {T' : List Value} (vs : Values) → P.node k ≡ Bind w r e b → P.size ≤ length T →
      Typed ops lim (around μ) L → Taken (pattern (entries P r)) v vs → T' ≡ wrote (entries P r) (items vs) T →
      Reads P T μ (record { node = k; part = j } ∷ fs) vals (finished v) L → Went ops P L μ (P.place k) [] T' fs vals (entering b)
  bind_goes {fs} {k} {j} {e} {b} {lim} {w} {r} {v} {T'} ws q long ty tk eT (reads_value G ti (inside vs below σ l0 wi ev h a)) = start (waits_at q h) ev a
    where
      c : ℕ
      c = r.end - r.first

      kn : k < P.size
      kn = is_node P k (Bind w r e b) q (λ m z. never cc)

      own_row : (m : Bool) → Own P m r → r.first ≤ r.end → entries P r ≡ within r
      own_row m own lr = own_entries P r.first c (λ y l h. (own y l (omega (arith, h, lr))).0)

      Goal : Type 0
      Goal = Went ops P L μ (P.place k) [] T' fs vals (entering b)

      go : (w : Binder) (u : Term) → b < r.first → r.first ≤ r.end → r.end ≤ k → Named P w r → Means P b u →
          Around P G k fs vals (closed_bind σ w (P.place k) (entries P r) (done v) (close σ u)) L → Goal
      go Let u lb lr lk own mb a =
          let eq = own_row false own lr in
          enters_values σ r.first c ws lb (omega (arith, lr, lk)) (omega (arith, long, kn)) (λ y l h. (own y l (omega (arith, h, lr))).1)
          (λ y l h. within_low σ y (omega (arith, h, lr, lk)) wi) (within_lower σ (omega (arith, lb, lr, lk)) wi) ti mb
          (eT ∙ ap (λ (xs : List ℕ). wrote xs (items ws) T) eq)
          (subst (λ (xs : List ℕ). Step ops (bind (P.place k) (pattern (entries P r)) (done v) (close σ u)) μ (P.place k) [] [] (puts xs (given ws) (close σ u)) μ)
          (names_pattern (entries P r) ∙ eq) (step_bind ws tk)) a
      go Mut u lb lr lk own mb a =
          let eq = own_row true own lr in
          let long_names : length (names (pattern (entries P r))) ≡ c = ap length (names_pattern (entries P r) ∙ eq) ∙ range_length r.first c in
          enters_mutables σ r.first c ws lb (omega (arith, lr, lk)) (omega (arith, long, kn)) (λ y l h. (own y l (omega (arith, h, lr))).1)
          (bind_many μ σ Mut (P.place k) (entries P r) v ws (close σ u) tk (middle a ty) ∙ ap length eq ∙ range_length r.first c)
          (λ y l h. within_low σ y (omega (arith, h, lr, lk)) wi) (within_lower σ (omega (arith, lb, lr, lk)) wi) ti mb
          (eT ∙ ap (λ (xs : List ℕ). wrote xs (items ws) T) eq)
          (subst (λ (xs : List ℕ). Step ops (mut (P.place k) (pattern (entries P r)) (done v) (close σ u)) μ (P.place k) (within r) []
          (puts xs (map by_entry (within r)) (close σ u)) (written (within r) ws μ))
          (names_pattern (entries P r) ∙ eq) (step_mut ws tk (range_length r.first c ∙ sym long_names)))
          (clear_value (within r) v, clear_shape P (within r) σ (λ y z. range_above y r.first c (omega (arith, lr, lk, (within_at σ wi z).0))) mb) a
      go Set u lb lr lk apart mb a =
          let xs = entries P r in
          let all = sets_mutable μ σ (P.place k) xs (done v) (close σ u) (middle a ty) in
          enters (λ x l. refl) (subst (λ (U : List Value). Tied G U (written xs ws μ)) (sym eT) (tied_sets T xs ws apart (now xs all) ti)) (within_lower σ (omega (arith, lb, lr, lk)) wi) mb
          (omega (arith, lb, lr, lk)) (step_set ws (mapped_taken (λ x. as_name x (σ x)) xs v ws tk) xs (names_pattern (map (λ x. as_name x (σ x)) xs) ∙ entry_names σ xs all)) (none_new L) a
        where
          now : (xs : List ℕ) → AllMutable σ xs → AllMutable G xs
          now [] m = tt
          now (x ∷ xs) m = ((within_at σ wi m.0).2, now xs m.1)

      start : {vs below : List Value} {u : Term} → Waits P σ k j (Bind w r e b) vs (done v) u → vals ≡ vs ++ below → Around P G k fs below u L → Goal
      start (waits_bind {u = t} lb lr lk nm mb) ev a = go w t lb lr lk nm mb (rw ev a)

  -- the condition of an if is a bit
  pub if_fits : {fs : List Frame} {k j c y n lim : ℕ} {v : Value} → P.node k ≡ If c y n → Typed ops lim (around μ) L →
      Reads P T μ (record { node = k; part = j } ∷ fs) vals (finished v) L → (b : Bool) × (v ≡ bit_of b)
  if_fits {fs} {k} {j} {c} {y} {n} {lim} {v} q ty (reads_value G ti (inside vs below σ l0 w ev h a)) = go (waits_at q h) a
    where
      go : {vs below : List Value} {u : Term} → Waits P σ k j (If c y n) vs (done v) u → Around P G k fs below u L → (b : Bool) × (v ≡ bit_of b)
      go (waits_if ly ln my mn) a = if_bit μ (middle a ty)

  pub if_goes : {fs : List Frame} {k j c y n : ℕ} {b : Bool} → P.node k ≡ If c y n → Reads P T μ (record { node = k; part = j } ∷ fs) vals (finished (bit_of b)) L →
      Went ops P L μ (P.place k) [] T fs vals (entering (cond b y n))
  if_goes {fs} {k} {j} {c} {y} {n} {b} q (reads_value G ti (inside vs below σ l0 w ev h a)) = go b (waits_at q h) ev a
    where
      go : (b : Bool) {vs below : List Value} {u : Term} → Waits P σ k j (If c y n) vs (done (bit_of b)) u → vals ≡ vs ++ below → Around P G k fs below u L →
          Went ops P L μ (P.place k) [] T fs vals (entering (cond b y n))
      go true (waits_if ly ln my mn) ev a = rw ev (enters (λ x l. refl) ti (within_lower σ (omega (arith, ly)) w) my (omega (arith, ly)) step_if (none_new L) a)
      go false (waits_if ly ln my mn) ev a = rw ev (enters (λ x l. refl) ti (within_lower σ (omega (arith, ln)) w) mn (omega (arith, ln)) step_if (none_new L) a)
