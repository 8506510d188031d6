-- Which nodes a run can be at, and when it has ended.
use Rattle.std.proofs.Common.{◌≡◌, ℕ, List, [], ◌∷◌, sym, refl, ap, subst}
use mathlib.Core.Option.{Option, none, some}
use Rattle.grammar.specs.declared.tree.Binder.{Binder}
use Rattle.grammar.specs.declared.tree.Binder.TheVariants.{Let, Mut, Set}
use Rattle.programs.specs.declared.program.Node.{Node}
use Rattle.calculus.specs.Syntax.{Value, Place, Term, give, done, name, build, bind, mut, set, using_in, if_else}
use Rattle.calculus.specs.Steps.{Table}
use Rattle.run_laws.specs.Programs.{Code, entries, Shape, shape_constant, shape_use, shape_built, shape_bind, shape_using, shape_if}
use Rattle.run_laws.specs.Reads.{Standing, valued, mutable, Env, as_term, close, closed_bind, Frame, Waits, waits_part, waits_bind, waits_if, Around, whole, inside, Focused, entering, finished, Reads, reads_node, reads_value}
use Rattle.run_laws.specs.Whole.{IsTerm, HasParts}
use Rattle.run_laws.proofs.Closing.{close_bind}

shape_term : {P : Code} {i : ℕ} {nd : Node} {t : Term} → Shape P i nd t → IsTerm nd
shape_term shape_constant = tt
shape_term shape_use = tt
shape_term (shape_built l) = tt
shape_term (shape_bind le lb lr lk nm me mb) = tt
shape_term (shape_using lb lr lk own mb) = tt
shape_term (shape_if lc ly ln mc my mn) = tt

waits_parts : {P : Code} {σ : Env} {k j : ℕ} {nd : Node} {vs : List Value} {t u : Term} → Waits P σ k j nd vs t u → HasParts nd
waits_parts (waits_part e l ls) = tt
waits_parts (waits_bind lb lr lk nm mb) = tt
waits_parts (waits_if ly ln my mn) = tt

-- only terms are entered, and only nodes with parts wait
pub entered_term : {P : Code} {T : List Value} {μ : Table} {fs : List Frame} {vals : List Value} {i : ℕ} {L : Term} → Reads P T μ fs vals (entering i) L → IsTerm (P.node i)
entered_term (reads_node G σ t ti w m a) = shape_term m

pub waiting_parts : {P : Code} {T : List Value} {μ : Table} {f : Frame} {fs : List Frame} {vals : List Value} {v : Value} {L : Term} → Reads P T μ (f ∷ fs) vals (finished v) L → HasParts (P.node f.node)
waiting_parts (reads_value G ti (inside vs below σ lt w e d a)) = waits_parts d

-- what is left at the end
pub end_left : {P : Code} {T : List Value} {μ : Table} {vals : List Value} {v : Value} {L : Term} → Reads P T μ [] vals (finished v) L → (L ≡ done v) × (vals ≡ [])
end_left (reads_value G ti whole) = (refl, refl)

abbrev Unfinished : Term → Type 0
Unfinished (give p v) = Unit {0}
Unfinished (done v) = ⊥
Unfinished (name p n) = Unit {0}
Unfinished (build p f ts) = Unit {0}
Unfinished (bind p xs e t) = Unit {0}
Unfinished (mut p xs e t) = Unit {0}
Unfinished (set p ns e t) = Unit {0}
Unfinished (using_in p xs t) = Unit {0}
Unfinished (if_else p c t u) = Unit {0}

bind_unfinished : (σ : Env) (w : Binder) (p : Place) (xs : List ℕ) (t u : Term) → Unfinished (closed_bind σ w p xs t u)
bind_unfinished σ Let p xs t u = tt
bind_unfinished σ Mut p xs t u = tt
bind_unfinished σ Set p xs t u = tt

waits_unfinished : {P : Code} {σ : Env} {k j : ℕ} {nd : Node} {vs : List Value} {t u : Term} → Waits P σ k j nd vs t u → Unfinished u
waits_unfinished (waits_part e l ls) = tt
waits_unfinished {P} {σ} (waits_bind {k} {w = w} {r = r} {t = t} {u = u} lb lr lk nm mb) = bind_unfinished σ w (P.place k) (entries P r) t (close σ u)
waits_unfinished (waits_if ly ln my mn) = tt

stand_unfinished : (p : Place) (x : ℕ) (o : Option Standing) → Unfinished (as_term p x o)
stand_unfinished p x none = tt
stand_unfinished p x (some (valued v)) = tt
stand_unfinished p x (some mutable) = tt

shape_unfinished : {P : Code} {i : ℕ} {nd : Node} {t : Term} (σ : Env) → Shape P i nd t → Unfinished (close σ t)
shape_unfinished σ shape_constant = tt
shape_unfinished {P} σ (shape_use {i} {x}) = stand_unfinished (P.place i) x (σ x)
shape_unfinished σ (shape_built l) = tt
shape_unfinished {P} σ (shape_bind {i} {w = w} {r = r} {t = t} {u = u} le lb lr lk nm me mb) =
    subst Unfinished (sym (close_bind σ w (P.place i) (entries P r) t u)) (bind_unfinished σ w (P.place i) (entries P r) (close σ t) (close σ u))
shape_unfinished σ (shape_using lb lr lk own mb) = tt
shape_unfinished σ (shape_if lc ly ln mc my mn) = tt

around_unfinished : {P : Code} {G : Env} {n : ℕ} {fs : List Frame} {vals : List Value} {t L : Term} → Around P G n fs vals t L → Unfinished t → Unfinished L
around_unfinished whole h = h
around_unfinished (inside vs below σ lt w e d a) h = around_unfinished a (waits_unfinished d)

done_same : {v w : Value} → done v ≡ done w → v ≡ w
done_same e = cc

-- what is left is finished only at the end
pub left_end : {P : Code} {T : List Value} {μ : Table} {fs : List Frame} {vals : List Value} {f : Focused} {L : Term} (v : Value) → Reads P T μ fs vals f L → L ≡ done v → (fs ≡ []) × (f ≡ finished v)
left_end v (reads_node G σ t ti w m a) e = absurd (subst Unfinished e (around_unfinished a (shape_unfinished σ m)))
left_end v (reads_value G ti whole) e = (refl, ap finished (done_same e))
left_end v (reads_value G ti (inside vs below σ lt w q d a)) e = absurd (subst Unfinished e (around_unfinished a (waits_unfinished d)))
