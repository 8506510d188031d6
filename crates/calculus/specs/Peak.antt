-- Net and peak of a term as the language words them, over the whole numbers.
use Rattle.std.specs.Prelude.{◌≡◌, List, [], ◌∷◌, ◌++◌, cond, ℕ, ◌+◌, ◌-◌, ◌≤◌, ℤ, pos, ◌+ℤ◌, ◌-ℤ◌, length}
use Rattle.std.proofs.Math.Option.{Option, none, some}
use Rattle.std.specs.Int.Signed.{le_z}
use Rattle.machine.specs.Model.{Model}
use Rattle.calculus.specs.Syntax.{Ty, bit, Tys, qbit_leaves, qbit_leaves_all, Duplicable, Name, var, entry, handle, is}
use Rattle.calculus.specs.Syntax.{Value, the_unit, bit_of, int_of, handle_of, tuple_of, Values, no_values, ◌∷ᵛ◌, names, Form, tupling, meas, gate, call, Op}
use Rattle.calculus.specs.Syntax.{Term, give, done, name, build, bind, mut, set, using_in, if_else, Terms, no_terms, ◌∷ˢ◌}
use Rattle.calculus.specs.Rules.{Uses, nothing, Binding, settable, type, Scope, nowhere, nth, Well}
use Rattle.calculus.specs.Rules.{Has, has_give, has_done, has_name, has_build, has_bind, has_mut, has_set, has_using, has_if, Parts, parts_none, parts_more, Under, under_none, under_more}
use Rattle.calculus.specs.Steps.{Table, around}
use Rattle.calculus.specs.Room.{Bodies, end, top, OfBodies, bodies}
use Rattle.calculus.specs.Runs.{live_names, live_count, most_live}
use Rattle.calculus.specs.Laws.{Plain}

abbrev pub maxℤ : ℤ → ℤ → ℤ
maxℤ a b = cond (le_z a b) b a

-- the handles of a value
abbrev mutual
  pub handles : Value → List Name
  handles the_unit = []
  handles (bit_of b) = []
  handles (int_of n) = []
  handles (handle_of h) = handle h ∷ []
  handles (tuple_of vs) = handles_all vs

  pub handles_all : Values → List Name
  handles_all no_values = []
  handles_all (v ∷ᵛ vs) = handles v ++ handles_all vs

abbrev pub without : ℕ → List Name → List Name
without x [] = []
without x (n ∷ ns) = cond (is (var x) n) (without x ns) (n ∷ without x ns)

abbrev pub without_all : List ℕ → List Name → List Name
without_all [] ns = ns
without_all (x ∷ xs) ns = without x (without_all xs ns)

-- the names from outside that a run of the term comes to; both branches of an if spend the same linear names, so the first stands for both
abbrev mutual
  pub outer : Term → List Name
  outer (give p v) = handles v
  outer (done v) = handles v
  outer (name p n) = n ∷ []
  outer (build p f ts) = outer_all ts
  outer (bind p xs e t) = outer e ++ without_all (names xs) (outer t)
  outer (mut p xs e t) = outer e ++ without_all (names xs) (outer t)
  outer (set p ns e t) = outer e ++ outer t
  outer (using_in p xs t) = without_all (names xs) (outer t)
  outer (if_else p c t u) = outer c ++ outer t

  pub outer_all : Terms → List Name
  outer_all no_terms = []
  outer_all (t ∷ˢ ts) = outer t ++ outer_all ts

-- the qbit leaves of a name; a duplicable one has none
abbrev pub bound_leaves : Option Binding → ℕ
bound_leaves none = 0
bound_leaves (some b) = qbit_leaves (type b)

abbrev pub name_leaves : Scope → Name → ℕ
name_leaves Γ (var x) = bound_leaves (Γ (var x))
name_leaves Γ (entry e) = bound_leaves (Γ (entry e))
name_leaves Γ (handle h) = 1

abbrev pub spent_leaves : Scope → List Name → ℕ
spent_leaves Γ [] = 0
spent_leaves Γ (n ∷ ns) = name_leaves Γ n + spent_leaves Γ ns

-- the qbit leaves of its type less those of the linear names that it spends from outside
abbrev pub net : Scope → Term → Ty → ℤ
net Γ t T = pos (qbit_leaves T) -ℤ pos (spent_leaves Γ (outer t))

-- after its parts, where the nets come to n, a call goes on with its body; P gives the peak of each body
abbrev pub body_peak : (ℕ → ℤ) → Form → ℤ → ℤ
body_peak P tupling n = pos 0
body_peak P meas n = pos 0
body_peak P (gate g) n = pos 0
body_peak P (call f) n = n +ℤ P f

-- The largest of 0 and, for each piece in running order, the nets before it plus its peak. The two branches of an if are one piece with the greater peak.
-- A using of k names has k plus its term's peak.
module _ (ops : List Op) (lim : ℕ) (P : ℕ → ℤ) where
  abbrev mutual
    pub peak : {Γ : Scope} {Δ : Uses} {t : Term} {T : Ty} → Has ops lim Γ Δ t T → ℤ
    peak (has_give q s) = pos 0
    peak (has_done q s) = pos 0
    peak (has_name b h q s) = pos 0
    peak (has_build {f = f} Ts ps fit) = maxℤ (pos 0) (peak_parts f (pos 0) ps)
    peak (has_bind {Γ = Γ} {e = e} Δ₁ Δ₂ T Ts d h sp u) = maxℤ (pos 0) (maxℤ (peak h) (net Γ e T +ℤ peak_under u))
    peak (has_mut {Γ = Γ} {e = e} Δ₁ Δ₂ T Ts d h nv dup sp u) = maxℤ (pos 0) (maxℤ (peak h) (net Γ e T +ℤ peak_under u))
    peak (has_set {Γ = Γ} {e = e} Δ₁ Δ₂ T Ts d h nv sp m u) = maxℤ (pos 0) (maxℤ (peak h) (net Γ e T +ℤ peak u))
    peak (has_using {xs = xs} u) = pos (length (names xs)) +ℤ peak_under u
    peak (has_if {Γ = Γ} {c = c} Δ₁ Δ₂ d h u w) = maxℤ (pos 0) (maxℤ (peak h) (net Γ c bit +ℤ maxℤ (peak u) (peak w)))

    -- of the parts, where the nets before them come to n, and of the body
    pub peak_parts : Form → ℤ → {Γ : Scope} {Δ : Uses} {ts : Terms} {Ts : Tys} → Parts ops lim Γ Δ ts Ts → ℤ
    peak_parts f n (parts_none s) = body_peak P f n
    peak_parts f n (parts_more {Γ = Γ} {t = t} {T = T} Δ₁ Δ₂ d h ps) = maxℤ (n +ℤ peak h) (peak_parts f (n +ℤ net Γ t T) ps)

    pub peak_under : {as_bound : Ty → Binding} {Γ : Scope} {Δ : Uses} {xs : List ℕ} {Ts : Tys} {t : Term} {T : Ty} → Under ops lim as_bound Γ Δ xs Ts t T → ℤ
    peak_under (under_none h) = peak h
    peak_under (under_more Δ' new d u) = peak_under u

-- P gives the peak of each body
abbrev pub Peaks : (ops : List Op) → Well ops → (ℕ → ℤ) → Type 0
Peaks ops well P = (f : ℕ) (op : Op) → (h : nth ops f ≡ some op) → P f ≡ peak_under ops f P (well f op h)

-- a scope of a listing or of what is left: handles are not bound, and what may be set is duplicable
pub record Regular (Γ : Scope) : Type 0 where
  pub no_handles : (h : ℕ) → Γ (handle h) ≡ none
  pub plain_sets : (n : Name) (T : Ty) → Γ n ≡ some (settable T) → Duplicable T

-- from enough live handles, those at the end of a term are its net more
abbrev pub NetIs : Type 0
NetIs = (ops : List Op) → Well ops → (o : Bodies) → OfBodies ops o → (lim : ℕ) (Γ : Scope) (Δ : Uses) (t : Term) (T : Ty) → Regular Γ → Has ops lim Γ Δ t T →
    (b : ℕ) → spent_leaves Γ (outer t) ≤ b → pos (end o b t) ≡ pos b +ℤ net Γ t T

-- and the most that are live meanwhile its peak more
abbrev pub PeakIs : Type 0
PeakIs = (ops : List Op) (well : Well ops) (o : Bodies) → OfBodies ops o → (P : ℕ → ℤ) → Peaks ops well P → (lim : ℕ) (Γ : Scope) (Δ : Uses) (t : Term) (T : Ty) → Regular Γ →
    (d : Has ops lim Γ Δ t T) → (b : ℕ) → spent_leaves Γ (outer t) ≤ b → pos (top o b t) ≡ pos b +ℤ peak ops lim P d

-- terms of one type with the same linear names, as the branches of an if, have the same net
abbrev pub SameNet : Type 0
SameNet = (ops : List Op) (lim : ℕ) (Γ : Scope) (Δ : Uses) (t u : Term) (T : Ty) → Regular Γ → Has ops lim Γ Δ t T → Has ops lim Γ Δ u T → net Γ t T ≡ net Γ u T

-- the peak rests on the term alone
abbrev pub PeakOnce : Type 0
PeakOnce = (ops : List Op) (well : Well ops) (P : ℕ → ℤ) → Peaks ops well P → (lim : ℕ) (Γ : Scope) (Δ Δ' : Uses) (t : Term) (T U : Ty) → Regular Γ →
    (d : Has ops lim Γ Δ t T) (d' : Has ops lim Γ Δ' t U) → peak ops lim P d ≡ peak ops lim P d'

-- the peaks of the bodies: the most that are live less the handles of the parameters
abbrev pub op_peak : Bodies → ℕ → Option Op → ℤ
op_peak o f none = pos 0
op_peak o f (some op) = pos ((o f).tops (qbit_leaves_all op.types) - qbit_leaves_all op.types)

abbrev pub body_peaks : List Op → ℕ → ℤ
body_peaks ops f = op_peak (bodies ops) f (nth ops f)

abbrev pub PeaksFound : Type 0
PeaksFound = (ops : List Op) (well : Well ops) → Peaks ops well (body_peaks ops)

-- the peak of a listing is the most handles that are ever live
abbrev pub PeakOfListing : Type 0
PeakOfListing = (ops : List Op) (well : Well ops) (P : ℕ → ℤ) → Peaks ops well P → (lim : ℕ) (t : Term) (T : Ty) → (d : Has ops lim nowhere nothing t T) →
    peak ops lim P d ≡ pos (most_live ops 0 t)

-- what is left, typed in exactly the live handles: their number and its peak are the most that are live from here on
abbrev pub PeakOfLeft : Type 0
PeakOfLeft = (ops : List Op) (well : Well ops) (P : ℕ → ℤ) → Peaks ops well P → (lim : ℕ) (t : Term) (μ : Table) (T : Ty) (m : Model) → Plain μ →
    (d : Has ops lim (around μ) (live_names m) t T) → pos (live_count m) +ℤ peak ops lim P d ≡ pos (most_live ops (live_count m) t)
