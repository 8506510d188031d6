-- Frames and kept values are few: node numbers fall along the frames, and so do the places of the parts.
use Rattle.std.proofs.Common.{Bool, ◌≡◌, ℕ, ◌+◌, ◌<◌, ◌≤◌, false, List, [], ◌∷◌, length, refl, ap, ◌∙◌, arith, length-append}
use Rattle.grammar.specs.declared.tree.Range.{Range}
use Rattle.grammar.specs.declared.tree.Binder.{Binder}
use Rattle.programs.specs.declared.program.Act.{Act}
use Rattle.programs.specs.declared.program.Node.{Node}
use Rattle.programs.specs.declared.program.Node.TheVariants.{Place as NoTerm, Target, Constant, Use, Built, Bind, Using, If}
use Rattle.calculus.specs.Syntax.{Value, Term}
use Rattle.calculus.specs.Steps.{Table}
use Rattle.run_laws.specs.Programs.{Code, Shape, Ordered}
use Rattle.run_laws.specs.Reads.{Env, Frame, Waits, waits_part, waits_bind, waits_if, Around, whole, inside, Reads, reads_node, reads_value, entering, finished}
use Rattle.run_laws.proofs.Arms.{waits_at, shape_at, is_node}

-- nothing waits, and nothing is entered, where there is no term
waits_inside : {P : Code} {σ : Env} {k j : ℕ} {vs : List Value} {t u : Term} → Waits P σ k j (P.node k) vs t u → k < P.size
waits_inside {P} {σ} {k} {j} {vs} {t} {u} h = is_node P k (P.node k) refl (λ m e. no_wait (waits_at e h))
  where
    no_wait : {m : Bool} {vs : List Value} {t u : Term} → Waits P σ k j (NoTerm m) vs t u → ⊥
    no_wait w = elim w [ ]

pub frames_few : {P : Code} {G : Env} {n : ℕ} {fs : List Frame} {vals : List Value} {t L : Term} → Around P G n fs vals t L → n < P.size → length fs + n < P.size
frames_few whole h = omega (arith, h)
frames_few (inside {fs = fs} vs below σ lt w e d a) h = omega (arith, lt, frames_few a (waits_inside d))

waits_count : {P : Code} {σ : Env} {k j : ℕ} {g : Act} {r : Range} {vs : List Value} {t u : Term} → Waits P σ k j (Built g r) vs t u → r.first + length vs < r.end
waits_count (waits_part ej lj l) = omega (arith, ej, lj)

bind_none : {P : Code} {σ : Env} {k j e b : ℕ} {w : Binder} {r : Range} {vs : List Value} {t u : Term} → Waits P σ k j (Bind w r e b) vs t u → vs ≡ []
bind_none (waits_bind lb lr lk nm mb) = refl

if_none : {P : Code} {σ : Env} {k j c y n : ℕ} {vs : List Value} {t u : Term} → Waits P σ k j (If c y n) vs t u → vs ≡ []
if_none (waits_if ly ln my mn) = refl

-- the parts of the nodes above n begin at y or later
abbrev Above : Code → ℕ → ℕ → Type 0
Above P n y = (k : ℕ) (r : Range) (f : Act) → n < k → P.node k ≡ Built f r → y ≤ r.first

pub vals_few : {P : Code} {G : Env} {n : ℕ} {fs : List Frame} {vals : List Value} {t L : Term} → Ordered P → Around P G n fs vals t L → (y : ℕ) → y ≤ P.parts → Above P n y → y + length vals ≤ P.parts
vals_few o whole y h ab = omega (arith, h)
vals_few {P} {G} {n} {vals = vals} o (inside {f = f} {fs = fs} vs below σ lt w e d a) y h ab = go (P.node f.node) refl d (vals_few o a)
  where
    Rest : Type 0
    Rest = (y : ℕ) → y ≤ P.parts → Above P f.node y → y + length below ≤ P.parts

    sum : length vals ≡ length vs + length below
    sum = ap length e ∙ length-append vs below

    no_parts : vs ≡ [] → Rest → y + length vals ≤ P.parts
    no_parts q rest = let z : length vs ≡ 0 = ap length q in omega (arith, sum, z, rest y h (λ k r g l. ab k r g (omega (arith, l, lt))))

    some_parts : (g : Act) (r : Range) → P.node f.node ≡ Built g r → r.first + length vs < r.end → Rest → y + length vals ≤ P.parts
    some_parts g r q l rest = omega (arith, sum, l, ab f.node r g lt q, rest r.end (o.inside f.node r g q) (λ k r' g' lk qk. o.after f.node k r r' g g' lk q qk))

    go : (nd : Node) {t u : Term} → P.node f.node ≡ nd → Waits P σ f.node f.part nd vs t u → Rest → y + length vals ≤ P.parts
    go (Constant v) q d rest = elim d [ ]
    go (Use x) q d rest = elim d [ ]
    go (Target x) q d rest = elim d [ ]
    go (Built g r) q d rest = some_parts g r q (waits_count d) rest
    go (Bind x r c b) q d rest = no_parts (bind_none d) rest
    go (Using r b) q d rest = elim d [ ]
    go (If c x b) q d rest = no_parts (if_none d) rest
    go (NoTerm m) q d rest = elim d [ ]

-- a term that is entered is one of the nodes
pub entered : {P : Code} {T : List Value} {μ : Table} {fs : List Frame} {vals : List Value} {i : ℕ} {L : Term} → Reads P T μ fs vals (entering i) L → i < P.size
entered {P} {i = i} (reads_node G σ t ti w m a) = is_node P i (P.node i) refl (λ b e. no_term (shape_at e m))
  where
    no_term : {b : Bool} {t : Term} → Shape P i (NoTerm b) t → ⊥
    no_term s = elim s [ ]

-- one more frame fits, and one more value
pub frame_fits : {P : Code} {T : List Value} {μ : Table} {fs : List Frame} {vals : List Value} {i : ℕ} {L : Term} → Reads P T μ fs vals (entering i) L → length fs < P.size
frame_fits r = go r (entered r)
  where
    go : {P : Code} {T : List Value} {μ : Table} {fs : List Frame} {vals : List Value} {i : ℕ} {L : Term} → Reads P T μ fs vals (entering i) L → i < P.size → length fs < P.size
    go (reads_node G σ t ti w m a) l = omega (arith, frames_few a l)

pub frame_back : {P : Code} {T : List Value} {μ : Table} {f : Frame} {fs : List Frame} {vals : List Value} {v : Value} {L : Term} → Reads P T μ (f ∷ fs) vals (finished v) L → length fs < P.size
frame_back (reads_value G ti (inside vs below σ lt w e d a)) = omega (arith, frames_few a (waits_inside d))

pub value_fits : {P : Code} {T : List Value} {μ : Table} {k j : ℕ} {g : Act} {r : Range} {fs : List Frame} {vals : List Value} {v : Value} {L : Term} → Ordered P → P.node k ≡ Built g r →
    Reads P T μ (record { node = k; part = j } ∷ fs) vals (finished v) L → length vals < P.size
value_fits {P} {k = k} {j} {g} {r} {vals = vals} o q (reads_value G ti (inside vs below σ lt w e d ar)) =
    let rest = vals_few o ar r.end (o.inside k r g q) (λ n r' f ln qn. o.after k n r r' g f ln q qn) in
    let sum : length vals ≡ length vs + length below = ap length e ∙ length-append vs below in
    omega (arith, rest, sum, o.few, waits_count (waits_at q d))
