-- The table of a run: what is written, what stays, what the entries' types are.
use mathlib.Core.Path.{◌≡◌, refl, sym, ◌∙◌, ap}
use mathlib.Core.List.{List, [], ◌∷◌, map}
use mathlib.Core.Bool.{Bool, true, false, cond, ◌&&◌, not}
use mathlib.Core.Option.{some}
use Prim.Native.Nat.{ℕ, suc}
use native.Mathlib.Omega.{arith}
use lib.Dec.{eqb}
use lib.ListN.{length}
use borrow.Author.Tests.{eqb-true, eq-eqb}
use Rattle.machine.specs.Model.{absent, distinct}
use Rattle.calculus.specs.Syntax.{Ty, Tys, no_types, ◌∷ᵗ◌, linear, some_linear, Duplicable, Name, var, entry, handle, is, Value, Values, no_values, ◌∷ᵛ◌, type_of, types_of, Pattern, one}
use Rattle.calculus.specs.Syntax.{several}
use Rattle.calculus.specs.Rules.{Binding, settable, Spread, MaySet, may_none, may_more}
use Rattle.calculus.specs.Laws.{Plain, UnnamedEntries}
use Rattle.calculus.specs.Steps.{EachName, Clear, Table, write, written, around}
use Rattle.calculus.proofs.Names.{never, eqb_sym, neither}
use Rattle.calculus.proofs.Growth.{Grown, may_grow, grow}

pub both_true : (a b : Bool) → (a && b) ≡ true → (a ≡ true) × (b ≡ true)
both_true true b h = (refl, h)
both_true false b h = (never cc, never cc)

pub not_false : (a : Bool) → not a ≡ true → a ≡ false
not_false true h = never cc
not_false false h = refl

-- what is not named stays
pub written_other : (es : List ℕ) (vs : Values) (μ : Table) (k : ℕ) → absent k es ≡ true → written es vs μ k ≡ μ k
written_other [] vs μ k h = refl
written_other (e ∷ es) no_values μ k h = refl
written_other (e ∷ es) (v ∷ᵛ vs) μ k h =
    let r = both_true (not (eqb k e)) (absent k es) h in
    rw (not_false (eqb k e) r.0) (written_other es vs μ k r.1)

pub grown_written : (es : List ℕ) (vs : Values) (μ : Table) → Grown (Clear es) (around μ) (around (written es vs μ))
grown_written es vs μ = record { keeps = go; news = λ y h. h }
  where
    go : (n : Name) (b : Binding) → Clear es n → around μ n ≡ some b → around (written es vs μ) n ≡ some b
    go (var x) b c h = h
    go (entry e) b c h = rw (written_other es vs μ e c) h
    go (handle k) b c h = h

-- changing one entry
grown_write : (e : ℕ) (v : Value) (μ : Table) → Grown (λ n. is n (entry e) ≡ false) (around μ) (around (write e v μ))
grown_write e v μ = record { keeps = go; news = λ y h. h }
  where
    go : (n : Name) (b : Binding) → is n (entry e) ≡ false → around μ n ≡ some b → around (write e v μ) n ≡ some b
    go (var x) b c h = h
    go (entry k) b c h = rw c h
    go (handle k) b c h = h

apart_names : (e : ℕ) (es : List ℕ) → absent e es ≡ true → EachName (λ n. is n (entry e) ≡ false) (map entry es)
apart_names e [] h = tt
apart_names e (k ∷ es) h =
    let r = both_true (not (eqb e k)) (absent e es) h in
    (eqb_sym e k (not_false (eqb e k) r.0), apart_names e es r.1)

abbrev pub how_many : Tys → ℕ
how_many no_types = 0
how_many (T ∷ᵗ Ts) = suc (how_many Ts)

-- what was written at different entries stands there
pub may_written : (es : List ℕ) (vs : Values) (μ : Table) → length es ≡ how_many (types_of vs) → distinct es ≡ true → MaySet (around (written es vs μ)) (map entry es) (types_of vs)
may_written [] no_values μ l d = may_none
may_written [] (v ∷ᵛ vs) μ l d = never (omega arith)
may_written (e ∷ es) no_values μ l d = never (omega arith)
may_written (e ∷ es) (v ∷ᵛ vs) μ l d =
    let r = both_true (absent e es) (distinct es) d in
    may_more (rw (eq-eqb e e refl)) (may_grow (grown_write e v (written es vs μ)) (apart_names e es r.0) (may_written es vs μ (omega arith) r.1))

-- values of the entries' types keep the types
pub same_types : (es : List ℕ) (vs : Values) (μ : Table) {Ts : Tys} → MaySet (around μ) (map entry es) Ts → types_of vs ≡ Ts → (k : ℕ) → type_of (written es vs μ k) ≡ type_of (μ k)
same_types [] vs μ m q k = refl
same_types (e ∷ es) no_values μ m q k = refl
same_types (e ∷ es) (v ∷ᵛ vs) μ (may_more {T = T} {Ts = Ts} h m) q k = go (eqb k e) refl (same_types es vs μ m (tails q) k)
  where
    tails : type_of v ∷ᵗ types_of vs ≡ T ∷ᵗ Ts → types_of vs ≡ Ts
    tails q = cc

    heads : type_of v ∷ᵗ types_of vs ≡ T ∷ᵗ Ts → some (settable (type_of (μ e))) ≡ some (settable T) → type_of v ≡ type_of (μ e)
    heads q h = cc

    go : (b : Bool) → eqb k e ≡ b → type_of (written es vs μ k) ≡ type_of (μ k) → type_of (cond b v (written es vs μ k)) ≡ type_of (μ k)
    go true c r = heads q h ∙ ap (λ (i : ℕ). type_of (μ i)) (sym (eqb-true k e c))
    go false c r = r

pub grown_set : {Q : Name → Type 0} (es : List ℕ) (vs : Values) (μ : Table) {Ts : Tys} → MaySet (around μ) (map entry es) Ts → types_of vs ≡ Ts → Grown Q (around μ) (around (written es vs μ))
grown_set {Q} es vs μ m q = record { keeps = go; news = λ y h. h }
  where
    go : (n : Name) (b : Binding) → Q n → around μ n ≡ some b → around (written es vs μ) n ≡ some b
    go (var x) b c h = h
    go (entry k) b c h = rw (same_types es vs μ m q k) h
    go (handle k) b c h = h

pub plain_set : (es : List ℕ) (vs : Values) (μ : Table) {Ts : Tys} → Plain μ → MaySet (around μ) (map entry es) Ts → types_of vs ≡ Ts → Plain (written es vs μ)
plain_set es vs μ p m q k = rw (same_types es vs μ m q k) (p k)

pub plain_written : (es : List ℕ) (vs : Values) (μ : Table) → Plain μ → some_linear (types_of vs) ≡ false → Plain (written es vs μ)
plain_written [] vs μ p d k = p k
plain_written (e ∷ es) no_values μ p d k = p k
plain_written (e ∷ es) (v ∷ᵛ vs) μ p d k =
    let r = neither (linear (type_of v)) (some_linear (types_of vs)) d in
    go (eqb k e) r.0 (plain_written es vs μ p r.1 k)
  where
    go : (b : Bool) → Duplicable (type_of v) → Duplicable (type_of (written es vs μ k)) → Duplicable (type_of (cond b v (written es vs μ k)))
    go true h r = h
    go false h r = r

-- in a table without handles, what may be set is duplicable
pub plain_types : (μ : Table) (ns : List Name) (Ts : Tys) → Plain μ → MaySet (around μ) ns Ts → some_linear Ts ≡ false
plain_types μ [] Ts p may_none = refl
plain_types μ (var x ∷ ns) Ts p (may_more h m) = never cc
plain_types μ (entry e ∷ ns) Ts p (may_more {T = T} {Ts = Us} h m) = rw (first h, plain_types μ ns Us p m)
  where
    first : some (settable (type_of (μ e))) ≡ some (settable T) → linear T ≡ false
    first h = let q : type_of (μ e) ≡ T = cc in rw (← q) (p e)
plain_types μ (handle k ∷ ns) Ts p (may_more h m) = never cc

-- what may be set in what is left are entries
pub are_entries : (μ : Table) (ns : List Name) (Ts : Tys) → MaySet (around μ) ns Ts → (es : List ℕ) × (ns ≡ map entry es)
are_entries μ [] Ts may_none = ([], refl)
are_entries μ (var x ∷ ns) Ts (may_more h m) = never cc
are_entries μ (entry e ∷ ns) Ts (may_more {Ts = Us} h m) = let r = are_entries μ ns Us m in (e ∷ r.0, ap (λ (l : List Name). entry e ∷ l) r.1)
are_entries μ (handle k ∷ ns) Ts (may_more h m) = never cc

pub spread_plain : {N : Type 0} (xs : Pattern N) (T : Ty) (Ts : Tys) → Spread xs T Ts → some_linear Ts ≡ false → Duplicable T
spread_plain (one x) T Ts sp d = let h : cond (linear T) true false ≡ false = rw sp at d in (neither (linear T) false h).0
spread_plain (several xs) T Ts sp d = rw sp d

pub plain_spread : {N : Type 0} (xs : Pattern N) (T : Ty) (Ts : Tys) → Spread xs T Ts → Duplicable T → some_linear Ts ≡ false
plain_spread (one x) T Ts sp d = rw (sp, d)
plain_spread (several xs) T Ts sp d = rw sp at d

pub unnamed_entries : UnnamedEntries
unnamed_entries ops lim Δ t T μ es vs c h = grow ops lim lim (omega arith) (Clear es) h c (around (written es vs μ)) (grown_written es vs μ)
