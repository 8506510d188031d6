-- What the replies to a gate's questions say.
use Rattle.std.proofs.Common.{◌≡◌, ℕ, zero, suc, ◌<◌, Bool, true, false, cond, not, eqb, ◌⊎◌, List, [], ◌∷◌, length, get_or, Some, None, Option, refl, subst, inl, inr, ⊎_elim, arith}
use Rattle.std.proofs.lemmas.Bool.{eqb-true, eq-eqb, ne_eqb, and_right}
use Rattle.machine.specs.Orders.{width}
use Rattle.machine.specs.Model.{every, distinct}
use Rattle.machine.specs.Gates.{gate_question}
use Rattle.machine.specs.declared.order.Gate.{Gate}
use Rattle.machine.specs.declared.order.Gate.TheVariants.{X, Y, Z, H, S, Cnot, Cz, Swap}
use Rattle.machine.specs.declared.order.Refusal.{Refusal}
use Rattle.machine.specs.declared.order.Refusal.TheVariants.{Width, Dead, Same}

never : (e : Refusal) → ◌≡◌ {A = Option Refusal} (Some e) None → ⊥
never e p = let z : ◌≡◌ {A = ℕ} 0 1 = cc in omega arith

all_yes : (a b c : Bool) → cond a (cond b (cond c None (Some Same)) (Some Dead)) (Some Width) ≡ None → (a ≡ true) × (b ≡ true) × (c ≡ true)
all_yes true true true e = (refl, refl, refl)
all_yes true true false e = absurd (never Same e)
all_yes true false c e = absurd (never Dead e)
all_yes false b c e = absurd (never Width e)

-- where no question has the reply no, each has the reply yes
pub replies : (g : Gate) (hs : List ℕ) (live : ℕ → Bool) → gate_question g hs live ≡ None → (length hs ≡ width g) × (every live hs ≡ true) × (distinct hs ≡ true)
replies g hs live e =
    let y = all_yes _ _ _ e in
    (eqb-true _ _ y.0, y.1, y.2)

-- where each has the reply yes, none has the reply no
pub none_asked : (g : Gate) (hs : List ℕ) (live : ℕ → Bool) → length hs ≡ width g → every live hs ≡ true → distinct hs ≡ true → gate_question g hs live ≡ None
none_asked g hs live fits alive apart = simp (eq-eqb (length hs) (width g) fits, alive, apart)

-- a list of one or two, by its elements
pub one_item : (hs : List ℕ) → length hs ≡ 1 → get_or hs 0 0 ∷ [] ≡ hs
one_item [] e = absurd (omega arith)
one_item (a ∷ []) e = refl
one_item (a ∷ b ∷ hs) e = absurd (omega arith)

pub two_items : (hs : List ℕ) → length hs ≡ 2 → get_or hs 0 0 ∷ get_or hs 1 0 ∷ [] ≡ hs
two_items [] e = absurd (omega arith)
two_items (a ∷ []) e = absurd (omega arith)
two_items (a ∷ b ∷ []) e = refl
two_items (a ∷ b ∷ c ∷ hs) e = absurd (omega arith)

pub width_cases : (g : Gate) → (width g ≡ 1) ⊎ (width g ≡ 2)
width_cases X = inl refl
width_cases Y = inl refl
width_cases Z = inl refl
width_cases H = inl refl
width_cases S = inl refl
width_cases Cnot = inr refl
width_cases Cz = inr refl
width_cases Swap = inr refl

pub every_all : (f : ℕ → Bool) (hs : List ℕ) → ((k : ℕ) → k < length hs → f (get_or hs k 0) ≡ true) → every f hs ≡ true
every_all f [] all = refl
every_all f (x ∷ xs) all = simp (all 0 (omega arith)) (every_all f xs (λ k l. all (suc k) (omega arith)))

pub every_not : (f : ℕ → Bool) (hs : List ℕ) (k : ℕ) → k < length hs → f (get_or hs k 0) ≡ false → every f hs ≡ false
every_not f [] k l e = absurd (omega arith)
every_not f (x ∷ xs) zero l e = simp e
every_not f (x ∷ xs) (suc k) l e = and_right (f x) (every f xs) (every_not f xs k (omega arith) e)

module _ (g : Gate) (hs : List ℕ) (live : ℕ → Bool) (fits : length hs ≡ width g) where
  -- the questions after the first
  asked : (b d : Bool) → every live hs ≡ b → distinct hs ≡ d → gate_question g hs live ≡ cond b (cond d None (Some Same)) (Some Dead)
  asked b d e f = simp (eq-eqb (length hs) (width g) fits, e, f)

  pub not_live : every live hs ≡ false → gate_question g hs live ≡ Some Dead
  not_live e = asked false (distinct hs) e refl

  module _ (alive : every live hs ≡ true) where
    pub one_admitted : length hs ≡ 1 → (get_or hs 0 0 ∷ [] ≡ hs) × (gate_question g hs live ≡ None)
    one_admitted n =
        let i = one_item hs n in
        (i, asked true true alive (subst (λ x. distinct x ≡ true) i refl))

    pair : (d : Bool) → length hs ≡ 2 → eqb (get_or hs 0 0) (get_or hs 1 0) ≡ d → distinct hs ≡ not d
    pair d n e = subst (λ x. distinct x ≡ not d) (two_items hs n) (differs d e)
      where
        differs : (d : Bool) → eqb (get_or hs 0 0) (get_or hs 1 0) ≡ d → distinct (get_or hs 0 0 ∷ get_or hs 1 0 ∷ []) ≡ not d
        differs true e = simp e
        differs false e = simp e

    two_left : (length hs ≡ 1 → ⊥) → length hs ≡ 2
    two_left ne = ⊎_elim (λ (w : width g ≡ 1). absurd (ne (omega arith))) (λ (w : width g ≡ 2). omega arith) (width_cases g)

    pub two_same : (length hs ≡ 1 → ⊥) → get_or hs 0 0 ≡ get_or hs 1 0 → gate_question g hs live ≡ Some Same
    two_same ne e = asked true false alive (pair true (two_left ne) (eq-eqb _ _ e))

    pub two_admitted : (length hs ≡ 1 → ⊥) → (get_or hs 0 0 ≡ get_or hs 1 0 → ⊥) → (get_or hs 0 0 ∷ get_or hs 1 0 ∷ [] ≡ hs) × (gate_question g hs live ≡ None)
    two_admitted ne e = (two_items hs (two_left ne), asked true true alive (pair false (two_left ne) (ne_eqb _ _ e)))
