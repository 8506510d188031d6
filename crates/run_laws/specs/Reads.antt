-- The state of a run, and what is left as it is read from it: the nodes that wait are terms with all that is bound put in.
use Rattle.std.specs.Prelude.{◌≡◌, ℕ, suc, ◌+◌, ◌<◌, ◌≤◌, true, false, cond, List, [], ◌∷◌, ◌++◌, map, length, take, drop, set as put_at, ◌==◌}
use Rattle.std.proofs.Math.Option.{Option, none, some}
use Rattle.grammar.specs.declared.tree.Range.{Range}
use Rattle.grammar.specs.declared.tree.Binder.{Binder}
use Rattle.grammar.specs.declared.tree.Binder.TheVariants.{Let, Mut, Set}
use Rattle.programs.specs.declared.program.Act.{Act}
use Rattle.programs.specs.declared.program.Node.{Node}
use Rattle.programs.specs.declared.program.Node.TheVariants.{Built, Bind, If}
use Rattle.calculus.specs.Syntax.{Ty, Name, var, entry, handle, Value, Values, no_values, ◌∷ᵛ◌, Pattern, one, several, Form, Place, Op}
use Rattle.calculus.specs.Syntax.{Term, give, done, name, build, bind, mut, set, using_in, if_else, Terms, no_terms, ◌∷ˢ◌}
use Rattle.calculus.specs.Rules.{Uses, Scope, Has, nth}
use Rattle.calculus.specs.Steps.{Stand, by_value, by_entry, stand_at, Table, Event, WholeStep}
use Rattle.run_laws.specs.Programs.{Code, form, pattern, entries, Named, Listed, Means}

-- what stands for a name of the text: a value, or, for a mut name, its entry, which has the name's own number
pub data Standing : Type 0 where
  valued : Value → Standing
  mutable : Standing

-- what stands for each name, if it is bound
abbrev pub Env : Type 0
Env = ℕ → Option Standing

abbrev pub bare : Env
bare x = none

abbrev pub bound : ℕ → Standing → Env → Env
bound x s σ y = cond (x == y) (some s) (σ y)

-- one for each name
abbrev pub binds : List ℕ → List Standing → Env → Env
binds [] ss σ = σ
binds (x ∷ xs) [] σ = σ
binds (x ∷ xs) (s ∷ ss) σ = bound x s (binds xs ss σ)

abbrev pub stand_of : ℕ → Standing → Stand
stand_of x (valued v) = by_value v
stand_of x mutable = by_entry x

abbrev pub as_term : Place → ℕ → Option Standing → Term
as_term p x none = name p (var x)
as_term p x (some s) = stand_at p (stand_of x s)

abbrev pub as_name : ℕ → Option Standing → Name
as_name x none = var x
as_name x (some (valued v)) = var x
as_name x (some mutable) = entry x

abbrev pub close_name : Env → Place → Name → Term
close_name σ p (var x) = as_term p x (σ x)
close_name σ p (entry e) = name p (entry e)
close_name σ p (handle h) = name p (handle h)

abbrev pub close_target : Env → Name → Name
close_target σ (var x) = as_name x (σ x)
close_target σ (entry e) = entry e
close_target σ (handle h) = handle h

abbrev pub close_targets : Env → Pattern Name → Pattern Name
close_targets σ (one n) = one (close_target σ n)
close_targets σ (several ns) = several (map (close_target σ) ns)

-- a term with all that is bound put in
abbrev mutual
  pub close : Env → Term → Term
  close σ (give p v) = give p v
  close σ (done v) = done v
  close σ (name p n) = close_name σ p n
  close σ (build p f ts) = build p f (close_all σ ts)
  close σ (bind p xs e t) = bind p xs (close σ e) (close σ t)
  close σ (mut p xs e t) = mut p xs (close σ e) (close σ t)
  close σ (set p ns e t) = set p (close_targets σ ns) (close σ e) (close σ t)
  close σ (using_in p xs t) = using_in p xs (close σ t)
  close σ (if_else p c t u) = if_else p (close σ c) (close σ t) (close σ u)

  pub close_all : Env → Terms → Terms
  close_all σ no_terms = no_terms
  close_all σ (t ∷ˢ ts) = close σ t ∷ˢ close_all σ ts

-- a let, mut or set of the entries xs, once the terms are closed
abbrev pub closed_bind : Env → Binder → Place → List ℕ → Term → Term → Term
closed_bind σ Let p xs t u = bind p (pattern xs) t u
closed_bind σ Mut p xs t u = mut p (pattern xs) t u
closed_bind σ Set p xs t u = set p (pattern (map (λ x. as_name x (σ x)) xs)) t u

-- finished parts, the latest first, before the parts that follow
abbrev pub front : List Value → Terms → Terms
front [] ts = ts
front (v ∷ vs) ts = front vs (done v ∷ˢ ts)

abbrev pub collect : List Value → Values → Values
collect [] ws = ws
collect (v ∷ vs) ws = collect vs (v ∷ᵛ ws)

abbrev pub items : Values → List Value
items no_values = []
items (v ∷ᵛ vs) = v ∷ items vs

-- the table after the values were written at the entries, one after the other
abbrev pub wrote : {A : Type 0} → List ℕ → List A → List A → List A
wrote [] vs T = T
wrote (x ∷ xs) [] T = T
wrote (x ∷ xs) (v ∷ vs) T = wrote xs vs (put_at T x v)

-- a node that waits for one of its parts: the place of that part in the table of parts
pub record Frame : Type 0 where
  pub node : ℕ
  pub part : ℕ

-- node k, which is nd, waits for a part, whose place is j; with t there it is the term u
pub data Waits (P : Code) (σ : Env) : ℕ → ℕ → Node → List Value → Term → Term → Type 0 where
  waits_part : {k j : ℕ} {f : Act} {r : Range} {vs : List Value} {t : Term} {ts : Terms} → suc (j + length vs) ≡ r.end → r.first ≤ j → Listed P k r.first j ts →
      Waits P σ k j (Built f r) vs t (build (P.place k) (form f) (front vs (t ∷ˢ close_all σ ts)))
  waits_bind : {k j e b : ℕ} {w : Binder} {r : Range} {t u : Term} → b < r.first → r.first ≤ r.end → r.end ≤ k → Named P w r → Means P b u →
      Waits P σ k j (Bind w r e b) [] t (closed_bind σ w (P.place k) (entries P r) t (close σ u))
  waits_if : {k j c y n : ℕ} {t u w : Term} → y < k → n < k → Means P y u → Means P n w →
      Waits P σ k j (If c y n) [] t (if_else (P.place k) t (close σ u) (close σ w))

-- mut names have entries, other names values
abbrev pub Suits : Code → ℕ → Standing → Type 0
Suits P x (valued v) = P.mut_name x ≡ false
Suits P x mutable = P.mut_name x ≡ true

-- x is unbound; or it is bound outside of node n, and what stands for it is what stands for it now
pub data PartOf (P : Code) (G : Env) (n x : ℕ) : Option Standing → Type 0 where
  out : PartOf P G n x none
  visible : {s : Standing} → n < x → Suits P x s → G x ≡ some s → PartOf P G n x (some s)

abbrev pub Within : Code → Env → ℕ → Env → Type 0
Within P G n σ = (x : ℕ) → PartOf P G n x (σ x)

-- what is left is L where t stands in the frames, those of nodes above n, the inmost first; the values are those of finished parts, the latest first
pub data Around (P : Code) (G : Env) : ℕ → List Frame → List Value → Term → Term → Type 0 where
  whole : {n : ℕ} {t : Term} → Around P G n [] [] t t
  inside : {n : ℕ} {f : Frame} {fs : List Frame} {all : List Value} {t u L : Term} → (vs below : List Value) (σ : Env) → n < f.node →
      Within P G f.node σ → all ≡ vs ++ below → Waits P σ f.node f.part (P.node f.node) vs t u →
      Around P G f.node fs below u L → Around P G n (f ∷ fs) all t L

-- T, the run's table, has what stands for each name now; μ is the table of what is left
pub record Tied (G : Env) (T : List Value) (μ : Table) : Type 0 where
  pub values : (x : ℕ) (v : Value) → G x ≡ some (valued v) → nth T x ≡ some v
  pub places : (x : ℕ) → G x ≡ some mutable → nth T x ≡ some (μ x)

-- the term of a node comes next, or a term has become a value
pub data Focused : Type 0 where
  entering : ℕ → Focused
  finished : Value → Focused

-- what is left is L, with the table μ
pub data Reads (P : Code) (T : List Value) (μ : Table) (fs : List Frame) (vals : List Value) : Focused → Term → Type 0 where
  reads_node : {i : ℕ} {L : Term} → (G σ : Env) (t : Term) → Tied G T μ → Within P G i σ → Means P i t → Around P G i fs vals (close σ t) L → Reads P T μ fs vals (entering i) L
  reads_value : {v : Value} {L : Term} → (G : Env) → Tied G T μ → Around P G 0 fs vals (done v) L → Reads P T μ fs vals (finished v) L

-- what is left goes on by one step at place p, and is read again
pub record Went (ops : List Op) (P : Code) (L : Term) (μ : Table) (p : Place) (ev : Event) (T : List Value) (fs : List Frame) (vals : List Value) (f : Focused) : Type 0 where
  pub left : Term
  pub table : Table
  pub step : WholeStep ops L μ p ev left table
  pub reads : Reads P T table fs vals f left

-- the parts of node k are values: the latest n of all
pub record Ready (P : Code) (T : List Value) (μ : Table) (fs : List Frame) (k : ℕ) (f : Form) (n : ℕ) (all : List Value) (L : Term) : Type 0 where
  pub env : Env
  pub tied : Tied env T μ
  pub enough : n ≤ length all
  pub middle : Around P env k fs (drop n all) (build (P.place k) f (front (take n all) no_terms)) L

-- the value of an entry stands in the run's table
abbrev pub InTable : List Value → Table → Name → Type 0
InTable T μ (var x) = Unit {0}
InTable T μ (entry e) = nth T e ≡ some (μ e)
InTable T μ (handle h) = Unit {0}

-- the term has a type
pub record Typed (ops : List Op) (lim : ℕ) (Γ : Scope) (t : Term) : Type 0 where
  pub uses : Uses
  pub ty : Ty
  pub has : Has ops lim Γ uses t ty
