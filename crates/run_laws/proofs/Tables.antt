-- The run's own table and the table of what is left.
use Rattle.std.proofs.Common.{◌≡◌, ℕ, zero, suc, ◌<◌, Bool, true, false, cond, not, eqb, List, [], ◌∷◌, map, length, get_or, set as put_at, sym, refl, ap, ◌∙◌, subst, arith, eq-eqb, ne_eqb, eqb-true}
use mathlib.Core.Option.{some}
use borrow.Author.Tests.{eqb-false}
use Rattle.machine.specs.Model.{absent, distinct}
use Rattle.calculus.specs.Syntax.{Value, Values, no_values, ◌∷ᵛ◌}
use Rattle.calculus.specs.Rules.{nth}
use Rattle.calculus.specs.Steps.{Table, write, written}
use Rattle.calculus.proofs.Names.{never, eqb_sym}
use Rattle.calculus.proofs.Tables.{both_true, not_false}
use Rattle.run_laws.specs.Reads.{valued, mutable, Env, bound, binds, items, wrote, Tied}
use Rattle.run_laws.proofs.Closing.{all_mutable}

pub nth_lt : {A : Type 0} (xs : List A) (i : ℕ) (a : A) → nth xs i ≡ some a → i < length xs
nth_lt [] i a h = never cc
nth_lt (x ∷ xs) zero a h = omega arith
nth_lt (x ∷ xs) (suc i) a h = omega (arith, nth_lt xs i a h)

pub nth_getD : {A : Type 0} (xs : List A) (i : ℕ) (a d : A) → nth xs i ≡ some a → get_or xs i d ≡ a
nth_getD [] i a d h = never cc
nth_getD (x ∷ xs) zero a d h = cc
nth_getD (x ∷ xs) (suc i) a d h = nth_getD xs i a d h

pub put_here : {A : Type 0} (xs : List A) (i : ℕ) (a : A) → i < length xs → nth (put_at xs i a) i ≡ some a
put_here [] i a h = absurd (omega (arith, h))
put_here (x ∷ xs) zero a h = refl
put_here (x ∷ xs) (suc i) a h = put_here xs i a (omega (arith, h))

pub put_other : {A : Type 0} (xs : List A) (i j : ℕ) (a : A) → eqb i j ≡ false → nth (put_at xs i a) j ≡ nth xs j
put_other [] i j a h = refl
put_other (x ∷ xs) zero zero a h = never cc
put_other (x ∷ xs) zero (suc j) a h = refl
put_other (x ∷ xs) (suc i) zero a h = refl
put_other (x ∷ xs) (suc i) (suc j) a h = put_other xs i j a (ne_eqb i j (λ e. eqb-false (suc i) (suc j) h (ap suc e)))

pub put_length : {A : Type 0} (xs : List A) (i : ℕ) (a : A) → length (put_at xs i a) ≡ length xs
put_length [] i a = refl
put_length (x ∷ xs) zero a = refl
put_length (x ∷ xs) (suc i) a = ap suc (put_length xs i a)

pub put_swap : {A : Type 0} (xs : List A) (i j : ℕ) (a b : A) → eqb i j ≡ false → put_at (put_at xs i a) j b ≡ put_at (put_at xs j b) i a
put_swap [] i j a b h = refl
put_swap (x ∷ xs) zero zero a b h = never cc
put_swap (x ∷ xs) zero (suc j) a b h = refl
put_swap (x ∷ xs) (suc i) zero a b h = refl
put_swap (x ∷ xs) (suc i) (suc j) a b h = ap (◌∷◌ x) (put_swap xs i j a b (ne_eqb i j (λ e. eqb-false (suc i) (suc j) h (ap suc e))))

-- a write at another entry may come first or last
pub wrote_first : {A : Type 0} (xs : List ℕ) (vs : List A) (T : List A) (x : ℕ) (v : A) → absent x xs ≡ true → wrote xs vs (put_at T x v) ≡ put_at (wrote xs vs T) x v
wrote_first [] vs T x v h = refl
wrote_first (y ∷ xs) [] T x v h = refl
wrote_first (y ∷ xs) (w ∷ vs) T x v h =
    let r = both_true (not (eqb x y)) (absent x xs) h in
    ap (wrote xs vs) (put_swap T x y v w (not_false (eqb x y) r.0)) ∙ wrote_first xs vs (put_at T y w) x v r.1

pub wrote_length : {A : Type 0} (xs : List ℕ) (vs : List A) (T : List A) → length (wrote xs vs T) ≡ length T
wrote_length [] vs T = refl
wrote_length (x ∷ xs) [] T = refl
wrote_length (x ∷ xs) (v ∷ vs) T = wrote_length xs vs (put_at T x v) ∙ put_length T x v

-- a value for one more name
pub tied_valued : {G : Env} {T : List Value} {μ : Table} (x : ℕ) (v : Value) → x < length T → Tied G T μ → Tied (bound x (valued v) G) (put_at T x v) μ
tied_valued {G} {T} {μ} x v lt t = record { values = λ y w h. value (eqb x y) y w refl h; places = λ y h. place (eqb x y) y refl h }
  where
    value : (b : Bool) (y : ℕ) (w : Value) → eqb x y ≡ b → cond b (some (valued v)) (G y) ≡ some (valued w) → nth (put_at T x v) y ≡ some w
    value true y w e h = let q : v ≡ w = cc in let p : x ≡ y = eqb-true x y e in rw (← p, ← q) (put_here T x v lt)
    value false y w e h = put_other T x y v e ∙ t.values y w h

    place : (b : Bool) (y : ℕ) → eqb x y ≡ b → cond b (some (valued v)) (G y) ≡ some mutable → nth (put_at T x v) y ≡ some (μ y)
    place true y e h = never cc
    place false y e h = put_other T x y v e ∙ t.places y h

-- a mut name more
pub tied_mutable : {G : Env} {T : List Value} {μ : Table} (x : ℕ) (v : Value) → x < length T → Tied G T μ → Tied (bound x mutable G) (put_at T x v) (write x v μ)
tied_mutable {G} {T} {μ} x v lt t = record { values = λ y w h. value (eqb x y) y w refl h; places = λ y h. place (eqb x y) y refl h }
  where
    value : (b : Bool) (y : ℕ) (w : Value) → eqb x y ≡ b → cond b (some mutable) (G y) ≡ some (valued w) → nth (put_at T x v) y ≡ some w
    value true y w e h = never cc
    value false y w e h = put_other T x y v e ∙ t.values y w h

    place : (b : Bool) (y : ℕ) → eqb x y ≡ b → cond b (some mutable) (G y) ≡ some mutable → nth (put_at T x v) y ≡ some (write x v μ y)
    place true y e h = let p : x ≡ y = eqb-true x y e in rw (← p, eq-eqb x x refl) (put_here T x v lt)
    place false y e h = rw (eqb_sym x y e) (put_other T x y v e ∙ t.places y h)

-- another value for a mut name
pub tied_set : {G : Env} {T : List Value} {μ : Table} (x : ℕ) (v : Value) → G x ≡ some mutable → Tied G T μ → Tied G (put_at T x v) (write x v μ)
tied_set {G} {T} {μ} x v g t = record { values = λ y w h. value (eqb x y) y w refl h; places = λ y h. place (eqb x y) y refl h }
  where
    value : (b : Bool) (y : ℕ) (w : Value) → eqb x y ≡ b → G y ≡ some (valued w) → nth (put_at T x v) y ≡ some w
    value true y w e h = let p : x ≡ y = eqb-true x y e in let q : G x ≡ G y = ap G p in never cc
    value false y w e h = put_other T x y v e ∙ t.values y w h

    place : (b : Bool) (y : ℕ) → eqb x y ≡ b → G y ≡ some mutable → nth (put_at T x v) y ≡ some (write x v μ y)
    place true y e h = let p : x ≡ y = eqb-true x y e in rw (← p, eq-eqb x x refl) (put_here T x v (nth_lt T x (μ x) (t.places x g)))
    place false y e h = rw (eqb_sym x y e) (put_other T x y v e ∙ t.places y h)

-- all of these entries are in a table of so many
abbrev pub Below : ℕ → List ℕ → Type 0
Below n [] = Unit {0}
Below n (x ∷ xs) = (x < n) × Below n xs

-- values for several names
pub tied_values : {G : Env} {μ : Table} (T : List Value) (xs : List ℕ) (vs : List Value) → distinct xs ≡ true → Below (length T) xs → Tied G T μ → Tied (binds xs (map valued vs) G) (wrote xs vs T) μ
tied_values T [] vs d b t = t
tied_values T (x ∷ xs) [] d b t = t
tied_values {G} {μ} T (x ∷ xs) (v ∷ vs) d b t =
    let r = both_true (absent x xs) (distinct xs) d in
    subst (λ (U : List Value). Tied (bound x (valued v) (binds xs (map valued vs) G)) U μ) (sym (wrote_first xs vs T x v r.0))
    (tied_valued x v (omega (arith, b.0, wrote_length xs vs T)) (tied_values T xs vs r.1 b.1 t))

-- several mut names
pub tied_mutables : {G : Env} {μ : Table} (T : List Value) (xs : List ℕ) (vs : Values) → length xs ≡ length (items vs) → distinct xs ≡ true → Below (length T) xs → Tied G T μ →
    Tied (binds xs (all_mutable xs) G) (wrote xs (items vs) T) (written xs vs μ)
tied_mutables T [] vs l d b t = t
tied_mutables T (x ∷ xs) no_values l d b t = never (omega (arith, l))
tied_mutables {G} {μ} T (x ∷ xs) (v ∷ᵛ vs) l d b t =
    let r = both_true (absent x xs) (distinct xs) d in
    subst (λ (U : List Value). Tied (bound x mutable (binds xs (all_mutable xs) G)) U (write x v (written xs vs μ))) (sym (wrote_first xs (items vs) T x v r.0))
    (tied_mutable x v (omega (arith, b.0, wrote_length xs (items vs) T)) (tied_mutables T xs vs (omega (arith, l)) r.1 b.1 t))

-- all of these are mut names
abbrev pub AllMutable : Env → List ℕ → Type 0
AllMutable G [] = Unit {0}
AllMutable G (x ∷ xs) = (G x ≡ some mutable) × AllMutable G xs

-- other values for several mut names
pub tied_sets : {G : Env} {μ : Table} (T : List Value) (xs : List ℕ) (vs : Values) → distinct xs ≡ true → AllMutable G xs → Tied G T μ → Tied G (wrote xs (items vs) T) (written xs vs μ)
tied_sets T [] vs d g t = t
tied_sets T (x ∷ xs) no_values d g t = t
tied_sets {G} {μ} T (x ∷ xs) (v ∷ᵛ vs) d g t =
    let r = both_true (absent x xs) (distinct xs) d in
    subst (λ (U : List Value). Tied G U (write x v (written xs vs μ))) (sym (wrote_first xs (items vs) T x v r.0)) (tied_set x v g.0 (tied_sets T xs vs r.1 g.1 t))
