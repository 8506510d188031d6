-- Frames: a step in the middle is a step of the whole, and what is in the middle has a type.
use Rattle.std.proofs.Common.{◌≡◌, ℕ, ◌<◌, ◌≤◌, Bool, true, false, cond, eqb, List, [], ◌∷◌, refl, ◌∙◌, subst, arith, eqb-true}
use mathlib.Core.Option.{Option, none, some}
use Rattle.grammar.specs.declared.tree.Binder.{Binder}
use Rattle.grammar.specs.declared.tree.Binder.TheVariants.{Let, Mut, Set}
use Rattle.programs.specs.declared.program.Node.{Node}
use Rattle.calculus.specs.Syntax.{Ty, Tys, bit, Name, Value, Values, Form, Pattern, Place, Op}
use Rattle.calculus.specs.Syntax.{Term, done, build, bind, mut, set, if_else, Terms, ◌∷ˢ◌}
use Rattle.calculus.specs.Rules.{Uses, Scope, Has, has_build, has_bind, has_mut, has_set, has_if, Parts, parts_more}
use Rattle.calculus.specs.Steps.{Table, Event, AllDone, one_done, Step, step_parts, step_bind_in, step_mut_in, step_set_in, step_if_in, StepPart, step_first, step_later}
use Rattle.run_laws.specs.Programs.{Code, entries}
use Rattle.run_laws.specs.Reads.{Standing, Env, bound, binds, close, closed_bind, front, collect, Frame, Waits, waits_part, waits_bind, waits_if}
use Rattle.run_laws.specs.Reads.{Suits, PartOf, out, visible, Within, Around, whole, inside, Typed}

-- what stands for the names
part_same : {P : Code} {G G' : Env} {n x : ℕ} {s : Option Standing} → (n < x → G' x ≡ G x) → PartOf P G n x s → PartOf P G' n x s
part_same f out = out
part_same f (visible lt su e) = visible lt su (f lt ∙ e)

pub within_same : {P : Code} {G G' : Env} {n : ℕ} (σ : Env) → ((x : ℕ) → n < x → G' x ≡ G x) → Within P G n σ → Within P G' n σ
within_same σ f w x = part_same (f x) (w x)

part_lower : {P : Code} {G : Env} {m n x : ℕ} {s : Option Standing} → m ≤ n → PartOf P G n x s → PartOf P G m x s
part_lower h out = out
part_lower h (visible lt su e) = visible (omega (arith, h, lt)) su e

pub within_lower : {P : Code} {G : Env} {m n : ℕ} (σ : Env) → m ≤ n → Within P G n σ → Within P G m σ
within_lower σ h w x = part_lower h (w x)

part_low : {P : Code} {G : Env} {n x : ℕ} {s : Option Standing} → x ≤ n → PartOf P G n x s → s ≡ none
part_low h out = refl
part_low h (visible lt su e) = absurd (omega (arith, h, lt))

pub within_low : {P : Code} {G : Env} {n : ℕ} (σ : Env) (x : ℕ) → x ≤ n → Within P G n σ → σ x ≡ none
within_low σ x h w = part_low h (w x)

part_bound : {P : Code} {G : Env} {n x : ℕ} {s : Standing} → PartOf P G n x (some s) → (n < x) × Suits P x s × (G x ≡ some s)
part_bound (visible lt su e) = (lt, su, e)

pub within_at : {P : Code} {G : Env} {n x : ℕ} {s : Standing} (σ : Env) → Within P G n σ → σ x ≡ some s → (n < x) × Suits P x s × (G x ≡ some s)
within_at {P} {G} {n} {x} {s} σ w q = part_bound (subst (λ (o : Option Standing). PartOf P G n x o) q (w x))

-- one more name
pub within_more : {P : Code} {G : Env} {d m : ℕ} (σ : Env) (s : Standing) → m < d → Suits P d s → Within P G m σ → Within P (bound d s G) m (bound d s σ)
within_more {P} {G} {d} {m} σ s h su w x = go (eqb d x) refl
  where
    go : (b : Bool) → eqb d x ≡ b → PartOf P (bound d s G) m x (cond b (some s) (σ x))
    go true e = let q = eqb-true d x e in visible (omega (arith, h, q)) (subst (λ (y : ℕ). Suits P y s) q su) (rw e refl)
    go false e = part_same (λ lt. rw e refl) (w x)

-- these are above m, and suit what stands for them
abbrev pub AllSuit : Code → ℕ → List ℕ → List Standing → Type 0
AllSuit P m [] ss = Unit {0}
AllSuit P m (x ∷ xs) [] = Unit {0}
AllSuit P m (x ∷ xs) (s ∷ ss) = (m < x) × Suits P x s × AllSuit P m xs ss

pub within_all : {P : Code} {G : Env} {m : ℕ} (σ : Env) (xs : List ℕ) (ss : List Standing) → AllSuit P m xs ss → Within P G m σ → Within P (binds xs ss G) m (binds xs ss σ)
within_all σ [] ss su w = w
within_all σ (x ∷ xs) [] su w = w
within_all σ (x ∷ xs) (s ∷ ss) su w = within_more (binds xs ss σ) s su.0 su.1 (within_all σ xs ss su.2 w)

-- parts
front_step : {ops : List Op} {μ μ' : Table} {p : Place} {es : List ℕ} {ev : Event} (vs : List Value) {ts ts' : Terms} → StepPart ops ts μ p es ev ts' μ' →
    StepPart ops (front vs ts) μ p es ev (front vs ts') μ'
front_step [] s = s
front_step (v ∷ vs) s = front_step vs (step_later s)

pub front_done : (vs : List Value) {ts : Terms} {ws : Values} → AllDone ts ws → AllDone (front vs ts) (collect vs ws)
front_done [] a = a
front_done (v ∷ vs) a = front_done vs (one_done a)

pub front_typed : {ops : List Op} {lim : ℕ} {Γ : Scope} (vs : List Value) {ts : Terms} {Δ : Uses} {Ts : Tys} → Parts ops lim Γ Δ (front vs ts) Ts → (Δ' : Uses) × (Us : Tys) × Parts ops lim Γ Δ' ts Us
front_typed [] p = (_, _, p)
front_typed (v ∷ vs) p = more (front_typed vs p)
  where
    more : {ops : List Op} {lim : ℕ} {Γ : Scope} {v : Value} {ts : Terms} → (Δ' : Uses) × (Us : Tys) × Parts ops lim Γ Δ' (done v ∷ˢ ts) Us → (Δ' : Uses) × (Us : Tys) × Parts ops lim Γ Δ' ts Us
    more (Δ, Us, parts_more {Ts = Ts} Δ₁ Δ₂ d h ps) = (Δ₂, Ts, ps)

-- one frame
bind_step : (σ : Env) (w : Binder) (p : Place) (xs : List ℕ) (u : Term) {t t' : Term} {ops : List Op} {μ μ' : Table} {q : Place} {es : List ℕ} {ev : Event} → Step ops t μ q es ev t' μ' →
    Step ops (closed_bind σ w p xs t u) μ q es ev (closed_bind σ w p xs t' u) μ'
bind_step σ Let p xs u s = step_bind_in s
bind_step σ Mut p xs u s = step_mut_in s
bind_step σ Set p xs u s = step_set_in s

waits_step : {P : Code} {σ : Env} {k j : ℕ} {nd : Node} {vs : List Value} {t t' u : Term} {ops : List Op} {μ μ' : Table} {p : Place} {es : List ℕ} {ev : Event} →
    Step ops t μ p es ev t' μ' → Waits P σ k j nd vs t u → (u' : Term) × Step ops u μ p es ev u' μ' × Waits P σ k j nd vs t' u'
waits_step s (waits_part {vs = vs} e l h) = (_, step_parts (front_step vs (step_first s)), waits_part e l h)
waits_step {P} {σ} s (waits_bind {k} {w = w} {r = r} {u = u} lb le lk nm mb) = (_, bind_step σ w (P.place k) (entries P r) (close σ u) s, waits_bind lb le lk nm mb)
waits_step s (waits_if ly ln my mn) = (_, step_if_in s, waits_if ly ln my mn)

module _ {ops : List Op} {lim : ℕ} {Γ : Scope} where
  parts_typed : {p : Place} {f : Form} {t : Term} {Δ : Uses} {T : Ty} (vs : List Value) (ts : Terms) → Has ops lim Γ Δ (build p f (front vs (t ∷ˢ ts))) T → Typed ops lim Γ t
  parts_typed vs ts (has_build Ts ps fit) = first (front_typed vs ps)
    where
      first : {t : Term} {ts : Terms} → (Δ' : Uses) × (Us : Tys) × Parts ops lim Γ Δ' (t ∷ˢ ts) Us → Typed ops lim Γ t
      first (Δ, Us, parts_more {T = T} Δ₁ Δ₂ d h ps) = record { uses = Δ₁; ty = T; has = h }

  let_typed : {p : Place} {xs : Pattern ℕ} {t u : Term} {Δ : Uses} {U : Ty} → Has ops lim Γ Δ (bind p xs t u) U → Typed ops lim Γ t
  let_typed (has_bind Δ₁ Δ₂ T Ts d h sp u) = record { uses = Δ₁; ty = T; has = h }

  mut_typed : {p : Place} {xs : Pattern ℕ} {t u : Term} {Δ : Uses} {U : Ty} → Has ops lim Γ Δ (mut p xs t u) U → Typed ops lim Γ t
  mut_typed (has_mut Δ₁ Δ₂ T Ts d h nv dup sp u) = record { uses = Δ₁; ty = T; has = h }

  set_typed : {p : Place} {ns : Pattern Name} {t u : Term} {Δ : Uses} {U : Ty} → Has ops lim Γ Δ (set p ns t u) U → Typed ops lim Γ t
  set_typed (has_set Δ₁ Δ₂ T Ts d h nv sp may u) = record { uses = Δ₁; ty = T; has = h }

  if_typed : {p : Place} {c t u : Term} {Δ : Uses} {U : Ty} → Has ops lim Γ Δ (if_else p c t u) U → Typed ops lim Γ c
  if_typed (has_if Δ₁ Δ₂ d h u u') = record { uses = Δ₁; ty = bit; has = h }

  bind_typed : (σ : Env) (w : Binder) (p : Place) (xs : List ℕ) (t u : Term) {Δ : Uses} {U : Ty} → Has ops lim Γ Δ (closed_bind σ w p xs t u) U → Typed ops lim Γ t
  bind_typed σ Let p xs t u h = let_typed h
  bind_typed σ Mut p xs t u h = mut_typed h
  bind_typed σ Set p xs t u h = set_typed h

  waits_typed : {P : Code} {σ : Env} {k j : ℕ} {nd : Node} {vs : List Value} {t u : Term} → Waits P σ k j nd vs t u → Typed ops lim Γ u → Typed ops lim Γ t
  waits_typed (waits_part {vs = vs} e l ls) h = parts_typed vs _ h.has
  waits_typed {P} {σ} (waits_bind {k} {w = w} {r = r} {t = t} {u = u} lb le lk nm mb) h = bind_typed σ w (P.place k) (entries P r) t (close σ u) h.has
  waits_typed (waits_if ly ln my mn) h = if_typed h.has

-- all frames
pub moved : {P : Code} {G G' : Env} {n : ℕ} {fs : List Frame} {vals : List Value} {t t' L : Term} {ops : List Op} {μ μ' : Table} {p : Place} {es : List ℕ} {ev : Event} →
    ((x : ℕ) → n < x → G' x ≡ G x) → Step ops t μ p es ev t' μ' → Around P G n fs vals t L → (L' : Term) × Step ops L μ p es ev L' μ' × Around P G' n fs vals t' L'
moved f s whole = (_, s, whole)
moved f s (inside vs below σ lt w e h a) =
    let r = waits_step s h in
    let k = moved (λ x l. f x (omega (arith, lt, l))) r.1 a in
    (k.0, k.1, inside vs below σ lt (within_same σ (λ x l. f x (omega (arith, lt, l))) w) e r.2 k.2)

pub middle : {P : Code} {G : Env} {n : ℕ} {fs : List Frame} {vals : List Value} {t L : Term} {ops : List Op} {lim : ℕ} {Γ : Scope} → Around P G n fs vals t L → Typed ops lim Γ L → Typed ops lim Γ t
middle whole h = h
middle (inside vs below σ lt w e h a) k = waits_typed h (middle a k)

pub around_lower : {P : Code} {G : Env} {m n : ℕ} {fs : List Frame} {vals : List Value} {t L : Term} → m ≤ n → Around P G n fs vals t L → Around P G m fs vals t L
around_lower h whole = whole
around_lower h (inside vs below σ lt w e d a) = inside vs below σ (omega (arith, h, lt)) w e d a
