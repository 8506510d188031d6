-- The entries that what is left names are those of mut names that are bound now, outside of the node in the middle: a mut's own entries are new.
use Rattle.std.proofs.Common.{◌≡◌, ℕ, ◌<◌, true, List, [], ◌∷◌, map, sym, refl, subst, arith}
use mathlib.Core.Option.{Option, none, some}
use Rattle.machine.specs.Model.{absent}
use Rattle.grammar.specs.declared.tree.Binder.{Binder}
use Rattle.grammar.specs.declared.tree.Binder.TheVariants.{Let, Mut, Set}
use Rattle.programs.specs.declared.program.Node.{Node}
use Rattle.calculus.specs.Syntax.{Name, var, entry, handle, Value, the_unit, bit_of, int_of, handle_of, tuple_of, Values, no_values, ◌∷ᵛ◌, Place}
use Rattle.calculus.specs.Syntax.{Term, Terms}
use Rattle.calculus.specs.Steps.{Table, EachHeld, EachHeldAll, EachName, Each, EachPart, Clear, Fresh}
use Rattle.calculus.proofs.Growth.{each}
use Rattle.run_laws.specs.Programs.{Code, seen, entries, Shape, shape_constant, shape_use, shape_built, shape_bind, shape_using, shape_if, Listed, listed_none, listed_more}
use Rattle.run_laws.specs.Reads.{Standing, valued, mutable, Env, as_term, as_name, close, close_all, closed_bind, front, Frame, Waits, waits_part, waits_bind, waits_if, Around, whole, inside, InTable}
use Rattle.run_laws.specs.Reads.{Focused, Reads, reads_node, reads_value}
use Rattle.run_laws.proofs.Closing.{names_pattern, close_bind}
use Rattle.run_laws.proofs.Frames.{within_at}

-- no entries are new to every term
clear_none : (n : Name) → Clear [] n
clear_none (var x) = tt
clear_none (entry e) = refl
clear_none (handle h) = tt

pub none_new : (t : Term) → Fresh [] t
none_new t = record { apart = refl; unnamed = each clear_none t }

-- what holds of all names but entries, and of the entries of the mut names that are bound, holds of each name of what is left
pub record NotEntries (Q : Name → Type 0) : Type 0 where
  pub at_var : (x : ℕ) → Q (var x)
  pub at_handle : (h : ℕ) → Q (handle h)

module _ (Q : Name → Type 0) (q : NotEntries Q) where
  mutual
    pub each_value : (v : Value) → EachHeld Q v
    each_value the_unit = tt
    each_value (bit_of b) = tt
    each_value (int_of k) = tt
    each_value (handle_of h) = q.at_handle h
    each_value (tuple_of vs) = each_value_all vs

    pub each_value_all : (vs : Values) → EachHeldAll Q vs
    each_value_all no_values = tt
    each_value_all (v ∷ᵛ vs) = (each_value v, each_value_all vs)

  each_front : (vs : List Value) (ts : Terms) → EachPart Q ts → EachPart Q (front vs ts)
  each_front [] ts h = h
  each_front (v ∷ vs) ts h = each_front vs _ (each_value v, h)

  module _ (P : Code) (σ : Env) (muts : (y : ℕ) → σ y ≡ some mutable → Q (entry y)) where
    each_stand : (p : Place) (y : ℕ) (o : Option Standing) → (o ≡ some mutable → Q (entry y)) → Each Q (as_term p y o)
    each_stand p y none h = q.at_var y
    each_stand p y (some (valued v)) h = each_value v
    each_stand p y (some mutable) h = h refl

    each_target : (y : ℕ) (o : Option Standing) → (o ≡ some mutable → Q (entry y)) → Q (as_name y o)
    each_target y none h = q.at_var y
    each_target y (some (valued v)) h = q.at_var y
    each_target y (some mutable) h = h refl

    each_targets : (xs : List ℕ) → EachName Q (map (λ x. as_name x (σ x)) xs)
    each_targets [] = tt
    each_targets (x ∷ xs) = (each_target x (σ x) (muts x), each_targets xs)

    pub each_bind : (w : Binder) (p : Place) (xs : List ℕ) (t u : Term) → Each Q t → Each Q u → Each Q (closed_bind σ w p xs t u)
    each_bind Let p xs t u a b = (a, b)
    each_bind Mut p xs t u a b = (a, b)
    each_bind Set p xs t u a b = (subst (λ (ns : List Name). EachName Q ns) (sym (names_pattern (map (λ x. as_name x (σ x)) xs))) (each_targets xs), a, b)

    mutual
      pub each_shape : {i : ℕ} {nd : Node} {t : Term} → Shape P i nd t → Each Q (close σ t)
      each_shape (shape_constant {l = l}) = each_value (seen l)
      each_shape (shape_use {i} {x}) = each_stand (P.place i) x (σ x) (muts x)
      each_shape (shape_built l) = each_listed l
      each_shape (shape_bind {i} {w = w} {r = r} {t = t} {u = u} le lb lr lk nm me mb) =
          subst (Each Q) (sym (close_bind σ w (P.place i) (entries P r) t u)) (each_bind w (P.place i) (entries P r) (close σ t) (close σ u) (each_shape me) (each_shape mb))
      each_shape (shape_using lb lr lk own mb) = each_shape mb
      each_shape (shape_if lc ly ln mc my mn) = (each_shape mc, each_shape my, each_shape mn)

      pub each_listed : {i a z : ℕ} {ts : Terms} → Listed P i a z ts → EachPart Q (close_all σ ts)
      each_listed (listed_none e) = tt
      each_listed (listed_more l ld md rest) = (each_shape md, each_listed rest)

    each_waits : {k j : ℕ} {nd : Node} {vs : List Value} {t u : Term} → Waits P σ k j nd vs t u → Each Q t → Each Q u
    each_waits (waits_part {vs = vs} {t = t} e l ls) h = each_front vs _ (h, each_listed ls)
    each_waits (waits_bind {k} {w = w} {r = r} {t = t} {u = u} lb le lk nm mb) h = each_bind w (P.place k) (entries P r) t (close σ u) h (each_shape mb)
    each_waits (waits_if ly ln my mn) h = (h, each_shape my, each_shape mn)

  pub each_around : {P : Code} {G : Env} {n : ℕ} {fs : List Frame} {vals : List Value} {t L : Term} → ((y : ℕ) → n < y → G y ≡ some mutable → Q (entry y)) → Each Q t →
      Around P G n fs vals t L → Each Q L
  each_around f h whole = h
  each_around {P} f h (inside vs below σ lt w e d a) =
      each_around (λ y l g. f y (omega (arith, l, lt)) g) (each_waits P σ (λ y z. f y (omega (arith, lt, (within_at σ w z).0)) (within_at σ w z).2) d h) a

-- the entries are new
clear_names : (es : List ℕ) → NotEntries (Clear es)
clear_names es = record { at_var = λ x. tt; at_handle = λ h. tt }

pub clear_value : (es : List ℕ) (v : Value) → EachHeld (Clear es) v
clear_value es v = each_value (Clear es) (clear_names es) v

pub clear_shape : (P : Code) (es : List ℕ) (σ : Env) → ((y : ℕ) → σ y ≡ some mutable → absent y es ≡ true) → {i : ℕ} {nd : Node} {t : Term} → Shape P i nd t → Each (Clear es) (close σ t)
clear_shape P es σ f m = each_shape (Clear es) (clear_names es) P σ f m

pub clear_around : {P : Code} {G : Env} {n : ℕ} {fs : List Frame} {vals : List Value} {t L : Term} (es : List ℕ) → ((y : ℕ) → n < y → absent y es ≡ true) → Each (Clear es) t →
    Around P G n fs vals t L → Each (Clear es) L
clear_around es f h a = each_around (Clear es) (clear_names es) (λ y l g. f y l) h a

-- the entries that are named have their values in the run's table
held_names : (T : List Value) (μ : Table) → NotEntries (InTable T μ)
held_names T μ = record { at_var = λ x. tt; at_handle = λ h. tt }

pub table_held : {P : Code} {T : List Value} {μ : Table} {fs : List Frame} {vals : List Value} {f : Focused} {L : Term} → Reads P T μ fs vals f L → Each (InTable T μ) L
table_held {P} {T} {μ} (reads_node G σ t ti w m a) =
    each_around (InTable T μ) (held_names T μ) (λ y l g. ti.places y g)
    (each_shape (InTable T μ) (held_names T μ) P σ (λ y z. ti.places y (within_at σ w z).2) m) a
table_held {P} {T} {μ} (reads_value {v = v} G ti a) = each_around (InTable T μ) (held_names T μ) (λ y l g. ti.places y g) (each_value (InTable T μ) (held_names T μ) v) a
