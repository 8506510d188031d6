-- What a chain of questions found, it found at each link; and the other way.
use Rattle.std.proofs.Common.{◌≡◌, ℕ, Bool, true, false, cond, not, ◌&&◌, ◌||◌, List, sym, refl, ap, subst}
use mathlib.Core.Bool.{beq}
use mathlib.Core.Option.{Option, none, some}
use Rattle.calculus.specs.Syntax.{Ty, unit, bit, int, qbit, tuple, Tys, no_types, ◌∷ᵗ◌}
use Rattle.calculus.proofs.Names.{never}
use Rattle.questions.specs.Names.{first_of}
use Rattle.questions.specs.Types.{same, same_all}
use Rattle.questions.specs.Questions.{Question, few_leaves, Known, Verdict, refused, typed, next, asks, given, unless}

pub next_typed : {X Y : Type 0} (o : Verdict X) (k : X → List Known → Verdict Y) (y : Y) (r : List Known) → next o k ≡ typed y r →
    (x : X) × (s : List Known) × (o ≡ typed x s) × (k x s ≡ typed y r)
next_typed (refused q p) k y r h = never cc
next_typed (typed x s) k y r h = (x, s, refl, h)

pub given_typed : {X Y : Type 0} (q : Question) (p : ℕ) (o : Option X) (k : X → Verdict Y) (y : Y) (r : List Known) → given q p o k ≡ typed y r → (x : X) × (o ≡ some x) × (k x ≡ typed y r)
given_typed q p none k y r h = never cc
given_typed q p (some x) k y r h = (x, refl, h)

pub asks_typed : {Y : Type 0} (q : Question) (p : ℕ) (b : Bool) (o : Verdict Y) (y : Y) (r : List Known) → asks q p b o ≡ typed y r → (b ≡ true) × (o ≡ typed y r)
asks_typed q p true o y r h = (refl, h)
asks_typed q p false o y r h = never cc

pub unless_typed : {Y : Type 0} (q : Question) (e : Option ℕ) (o : Verdict Y) (y : Y) (r : List Known) → unless q e o ≡ typed y r → (e ≡ none) × (o ≡ typed y r)
unless_typed q none o y r h = (refl, h)
unless_typed q (some p) o y r h = never cc

pub next_go : {X Y : Type 0} {o : Verdict X} (k : X → List Known → Verdict Y) {x : X} {s : List Known} {f : Verdict Y} → o ≡ typed x s → k x s ≡ f → next o k ≡ f
next_go k p q = rw p q

pub given_go : {X Y : Type 0} (q : Question) (p : ℕ) {o : Option X} (k : X → Verdict Y) {x : X} {f : Verdict Y} → o ≡ some x → k x ≡ f → given q p o k ≡ f
given_go q p k e f = rw e f

pub asks_go : {Y : Type 0} (q : Question) (p : ℕ) {b : Bool} {o f : Verdict Y} → b ≡ true → o ≡ f → asks q p b o ≡ f
asks_go q p e f = rw e f

pub unless_go : {Y : Type 0} (q : Question) {e : Option ℕ} {o f : Verdict Y} → e ≡ none → o ≡ f → unless q e o ≡ f
unless_go q e f = rw e f

pub typed_inj : {X : Type 0} {x y : X} {r s : List Known} → typed x r ≡ typed y s → (x ≡ y) × (r ≡ s)
typed_inj e = (cc, cc)

pub both : (a b : Bool) → a && b ≡ true → (a ≡ true) × (b ≡ true)
both true b h = (refl, h)
both false b h = never cc

pub and_go : {a b : Bool} → a ≡ true → b ≡ true → a && b ≡ true
and_go p q = rw p q

pub neither : (a b : Bool) → a || b ≡ false → (a ≡ false) × (b ≡ false)
neither true b h = never cc
neither false b h = (refl, h)

pub not_true : (b : Bool) → not b ≡ true → b ≡ false
not_true true h = never cc
not_true false h = refl

pub not_false : (b : Bool) → b ≡ false → not b ≡ true
not_false b e = rw e

pub beq_eq : (a b : Bool) → beq a b ≡ true → a ≡ b
beq_eq true true h = refl
beq_eq true false h = never cc
beq_eq false true h = never cc
beq_eq false false h = refl

pub beq_refl : (a : Bool) → beq a a ≡ true
beq_refl true = refl
beq_refl false = refl

pub no_first : {A : Type 0} (o r : Option A) → first_of o r ≡ none → (o ≡ none) × (r ≡ none)
no_first none r h = (refl, h)
no_first (some a) r h = never cc

pub first_go : {A : Type 0} {o r : Option A} → o ≡ none → r ≡ none → first_of o r ≡ none
first_go p q = rw p q

pub untaken : (b : Bool) (p : ℕ) (o : Option ℕ) → cond b (some p) o ≡ none → (b ≡ false) × (o ≡ none)
untaken true p o h = never cc
untaken false p o h = (refl, h)

mutual
  pub same_eq : (T U : Ty) → same T U ≡ true → T ≡ U
  same_eq unit unit h = refl
  same_eq unit bit h = never cc
  same_eq unit int h = never cc
  same_eq unit qbit h = never cc
  same_eq unit (tuple Us) h = never cc
  same_eq bit unit h = never cc
  same_eq bit bit h = refl
  same_eq bit int h = never cc
  same_eq bit qbit h = never cc
  same_eq bit (tuple Us) h = never cc
  same_eq int unit h = never cc
  same_eq int bit h = never cc
  same_eq int int h = refl
  same_eq int qbit h = never cc
  same_eq int (tuple Us) h = never cc
  same_eq qbit unit h = never cc
  same_eq qbit bit h = never cc
  same_eq qbit int h = never cc
  same_eq qbit qbit h = refl
  same_eq qbit (tuple Us) h = never cc
  same_eq (tuple Ts) unit h = never cc
  same_eq (tuple Ts) bit h = never cc
  same_eq (tuple Ts) int h = never cc
  same_eq (tuple Ts) qbit h = never cc
  same_eq (tuple Ts) (tuple Us) h = ap tuple (same_all_eq Ts Us h)

  pub same_all_eq : (Ts Us : Tys) → same_all Ts Us ≡ true → Ts ≡ Us
  same_all_eq no_types no_types h = refl
  same_all_eq no_types (U ∷ᵗ Us) h = never cc
  same_all_eq (T ∷ᵗ Ts) no_types h = never cc
  same_all_eq (T ∷ᵗ Ts) (U ∷ᵗ Us) h =
      let k = both (same T U) (same_all Ts Us) h in
      let p : T ≡ U = same_eq T U k.0 in let q : Ts ≡ Us = same_all_eq Ts Us k.1 in cc

mutual
  pub same_refl : (T : Ty) → same T T ≡ true
  same_refl unit = refl
  same_refl bit = refl
  same_refl int = refl
  same_refl qbit = refl
  same_refl (tuple Ts) = same_all_refl Ts

  pub same_all_refl : (Ts : Tys) → same_all Ts Ts ≡ true
  same_all_refl no_types = refl
  same_all_refl (T ∷ᵗ Ts) = and_go (same_refl T) (same_all_refl Ts)

pub same_of : {T U : Ty} → T ≡ U → same T U ≡ true
same_of {T} q = rw (← q) (same_refl T)

pub same_all_of : {Ts Us : Tys} → Ts ≡ Us → same_all Ts Us ≡ true
same_all_of {Ts} q = rw (← q) (same_all_refl Ts)

-- a chain goes through with x, or is stopped by too many leaves, and then W does not hold
pub data Outcome {X : Type 0} (o : Verdict X) (x : X) (G : List Known → Type 0) (W : Type 0) : Type 0 where
  accepts : (s : List Known) → o ≡ typed x s → G s → Outcome o x G W
  overflows : (at : ℕ) → o ≡ refused few_leaves at → (W → ⊥) → Outcome o x G W

pub and_then : {X Y : Type 0} {o : Verdict X} {x : X} {G : List Known → Type 0} {W : Type 0} (k : X → List Known → Verdict Y) {y : Y} {G' : List Known → Type 0} {W' : Type 0} →
    Outcome o x G W → (W' → W) → ((s : List Known) → G s → Outcome (k x s) y G' W') → Outcome (next o k) y G' W'
and_then {X} {Y} k {y} {G'} {W'} (accepts s e g) f c = subst (λ (v : Verdict X). Outcome (next v k) y G' W') (sym e) (c s g)
and_then k (overflows at e n) f c = overflows at (rw e) (λ w. n (f w))

pub pass_next : {X Y : Type 0} {o : Verdict X} (k : X → List Known → Verdict Y) {x : X} {s : List Known} {y : Y} {G : List Known → Type 0} {W : Type 0} →
    o ≡ typed x s → Outcome (k x s) y G W → Outcome (next o k) y G W
pass_next {X} k {y = y} {G = G} {W = W} e c = subst (λ (v : Verdict X). Outcome (next v k) y G W) (sym e) c

pub pass_given : {X Y : Type 0} (q : Question) (p : ℕ) {o : Option X} (k : X → Verdict Y) {x : X} {y : Y} {G : List Known → Type 0} {W : Type 0} →
    o ≡ some x → Outcome (k x) y G W → Outcome (given q p o k) y G W
pass_given {X} q p k {y = y} {G = G} {W = W} e c = subst (λ (v : Option X). Outcome (given q p v k) y G W) (sym e) c

pub pass_asks : {Y : Type 0} (q : Question) (p : ℕ) {b : Bool} {o : Verdict Y} {y : Y} {G : List Known → Type 0} {W : Type 0} → b ≡ true → Outcome o y G W → Outcome (asks q p b o) y G W
pass_asks q p {o = o} {y = y} {G = G} {W = W} e c = subst (λ (v : Bool). Outcome (asks q p v o) y G W) (sym e) c

pub pass_unless : {Y : Type 0} (q : Question) {e : Option ℕ} {o : Verdict Y} {y : Y} {G : List Known → Type 0} {W : Type 0} → e ≡ none → Outcome o y G W → Outcome (unless q e o) y G W
pass_unless q {o = o} {y = y} {G = G} {W = W} e c = subst (λ (v : Option ℕ). Outcome (unless q v o) y G W) (sym e) c

pub weaken : {X : Type 0} {o : Verdict X} {x : X} {G G' : List Known → Type 0} {W : Type 0} → Outcome o x G W → ((s : List Known) → G s → G' s) → Outcome o x G' W
weaken (accepts s e g) f = accepts s e (f s g)
weaken (overflows at e n) f = overflows at e n

pub same_limit : {X : Type 0} {o : Verdict X} {x : X} {G G' : List Known → Type 0} {W W' : Type 0} → (W' → W) → Outcome o x G W → ((s : List Known) → G s → G' s) → Outcome o x G' W'
same_limit f (accepts s e g) h = accepts s e (h s g)
same_limit f (overflows at e k) h = overflows at e (λ w. k (f w))

pub same_walk : {X : Type 0} {o o' : Verdict X} {x : X} {G : List Known → Type 0} {W : Type 0} → o ≡ o' → Outcome o x G W → Outcome o' x G W
same_walk {X} {x = x} {G = G} {W = W} e h = subst (λ (v : Verdict X). Outcome v x G W) e h
