-- Listings worked through: terms with a type and terms without one, their need, and what they come to.
-- Places are those of the listings as they are written in the comments.
use Rattle.std.specs.Prelude.{◌≡◌, List, [], ◌∷◌, ◌++◌, true, false, ℕ, pos}
use Rattle.machine.specs.declared.order.Gate.TheVariants.{X, H, Cnot}
use Rattle.machine.specs.declared.order.Handles.TheVariants.{One}
use Rattle.machine.specs.declared.order.Order.TheVariants.{Prepared, Applied, Measured}
use Rattle.calculus.specs.Syntax.{Ty, bit, qbit, no_types, ◌∷ᵗ◌, var, bit_of, tuple_of, no_values, ◌∷ᵛ◌, one, several, tupling, meas, gate, call, Place, Op}
use Rattle.calculus.specs.Syntax.{Term, give, done, name, build, bind, mut, set, using_in, if_else, no_terms, ◌∷ˢ◌}
use Rattle.calculus.specs.Rules.{nothing, nowhere, Has, Well}
use Rattle.calculus.specs.Steps.{Table, empty, Event, WholeStep}
use Rattle.calculus.specs.Runs.{steps_of, most_live}
use Rattle.calculus.specs.Pieces.{piece_peak, piece_peaks}

-- run using q in meas(H(q))
abbrev pub measured : Term
measured = using_in 4 (one 0) (build 15 meas (build 20 (gate H) (name 22 (var 0) ∷ˢ no_terms) ∷ˢ no_terms))

-- run let r = using q in meas(q) in using q in meas(q)
abbrev pub twice_one : Term
twice_one =
    bind 4 (one 0) (using_in 12 (one 1) (build 23 meas (name 28 (var 1) ∷ˢ no_terms))) (using_in 34 (one 2) (build 45 meas (name 50 (var 2) ∷ˢ no_terms)))

-- run mut m = using q in meas(q) in m
abbrev pub kept : Term
kept = mut 4 (one 0) (using_in 12 (one 1) (build 23 meas (name 28 (var 1) ∷ˢ no_terms))) (name 34 (var 0))

-- run using q in mut m = meas(q) in m: q is outside the right side
abbrev pub outside : Term
outside = using_in 4 (one 0) (mut 15 (one 1) (build 23 meas (name 28 (var 0) ∷ˢ no_terms)) (name 34 (var 1)))

-- run using q in CNOT(q, q): q is spent twice
abbrev pub doubled : Term
doubled = using_in 4 (one 0) (build 15 (gate Cnot) (name 20 (var 0) ∷ˢ name 23 (var 0) ∷ˢ no_terms))

-- run using q in zero: q is not spent
abbrev pub unspent : Term
unspent = using_in 4 (one 0) (give 15 (bit_of false))

-- run using q in if one then meas(q) else zero: one branch spends q
abbrev pub one_branch : Term
one_branch = using_in 4 (one 0) (if_else 15 (give 18 (bit_of true)) (build 27 meas (name 32 (var 0) ∷ˢ no_terms)) (give 40 (bit_of false)))

-- op f(a: bit): bit { f(a) }: f is not above itself
abbrev pub own_call : Op
own_call = record { params = 0 ∷ []; types = bit ∷ᵗ no_types; result = bit; body = build 20 (call 0) (name 22 (var 0) ∷ˢ no_terms) }

-- op flip(a: qbit): qbit { X(a) } run using q in meas(flip(q))
abbrev pub flip : Op
flip = record { params = 0 ∷ []; types = qbit ∷ᵗ no_types; result = qbit; body = build 24 (gate X) (name 26 (var 0) ∷ˢ no_terms) }

abbrev pub flipped : Term
flipped = using_in 35 (one 1) (build 46 meas (build 51 (call 0) (name 56 (var 1) ∷ˢ no_terms) ∷ˢ no_terms))

-- run using (a, b) in let r = meas(a) in if r then meas(X(b)) else meas(b)
abbrev pub corrected : Term
corrected =
    using_in 4 (several (0 ∷ 1 ∷ []))
    (bind 20 (one 2) (build 28 meas (name 33 (var 0) ∷ˢ no_terms))
    (if_else 39 (name 42 (var 2)) (build 49 meas (build 54 (gate X) (name 56 (var 1) ∷ˢ no_terms) ∷ˢ no_terms)) (build 65 meas (name 70 (var 1) ∷ˢ no_terms))))

-- run mut m = zero in (m, set m = one in m, m)
abbrev pub present : Term
present =
    mut 4 (one 0) (give 12 (bit_of false))
    (build 20 tupling (name 21 (var 0) ∷ˢ set 24 (one (var 0)) (give 32 (bit_of true)) (name 39 (var 0)) ∷ˢ name 42 (var 0) ∷ˢ no_terms))

-- run mut (x, y) = (zero, one) in set (x, y) = (y, x) in (x, y)
abbrev pub swapped_pair : Term
swapped_pair =
    mut 4 (several (0 ∷ 1 ∷ [])) (build 17 tupling (give 18 (bit_of false) ∷ˢ give 24 (bit_of true) ∷ˢ no_terms))
    (set 32 (several (var 0 ∷ var 1 ∷ [])) (build 45 tupling (name 46 (var 1) ∷ˢ name 49 (var 0) ∷ˢ no_terms)) (build 55 tupling (name 56 (var 0) ∷ˢ name 59 (var 1) ∷ˢ no_terms)))

abbrev pub Typed : Term → Ty → Type 0
Typed t T = Has [] 0 nowhere nothing t T

abbrev pub Untyped : Term → Type 0
Untyped t = (T : Ty) → ¬ (Typed t T)

-- so many steps, and so many handles at the most, by the pieces and by the live ones
abbrev pub Needs : Term → ℕ → ℕ → Type 0
Needs t k m = (steps_of [] t ≡ k) × (piece_peak [] (piece_peaks []) t ≡ pos m) × (most_live [] 0 t ≡ m)

-- the places of the steps, and the orders sent, from a term to another
pub data Goes : Term → Table → List Place → Event → Term → Table → Type 0 where
  stays : {t : Term} {μ : Table} → Goes t μ [] [] t μ
  then : {t t₁ t₂ : Term} {μ μ₁ μ₂ : Table} {p : Place} {ps : List Place} {ev sent : Event} → WholeStep [] t μ p ev t₁ μ₁ → Goes t₁ μ₁ ps sent t₂ μ₂ → Goes t μ (p ∷ ps) (ev ++ sent) t₂ μ₂

abbrev pub ComesTo : Term → List Place → Event → Term → Type 0
ComesTo t ps sent t' = (μ' : Table) × Goes t empty ps sent t' μ'

pub record Worked : Type 0 where
  pub measured_typed : Typed measured bit
  pub measured_needs : Needs measured 4 1
  pub twice_typed : Typed twice_one bit
  pub twice_needs : Needs twice_one 7 1
  pub kept_typed : Typed kept bit
  pub kept_needs : Needs kept 5 1
  pub outside_not : Untyped outside
  pub doubled_not : Untyped doubled
  pub unspent_not : Untyped unspent
  pub one_branch_not : Untyped one_branch
  pub own_call_not : ¬ (Well (own_call ∷ []))
  pub flip_well : Well (flip ∷ [])
  pub flipped_typed : Has (flip ∷ []) 1 nowhere nothing flipped bit
  pub flipped_needs : (steps_of (flip ∷ []) flipped ≡ 6) × (piece_peak (flip ∷ []) (piece_peaks (flip ∷ [])) flipped ≡ pos 1) × (most_live (flip ∷ []) 0 flipped ≡ 1)
  pub corrected_typed : Typed corrected bit
  pub corrected_needs : Needs corrected 9 2
  -- with the handles 5 and 3, and the bits one and zero
  pub corrected_comes : ComesTo corrected (4 ∷ 33 ∷ 28 ∷ 20 ∷ 42 ∷ 39 ∷ 56 ∷ 54 ∷ 49 ∷ [])
      (Prepared 5 ∷ Prepared 3 ∷ Measured 5 true ∷ Applied X (One 3) ∷ Measured 3 false ∷ []) (done (bit_of false))
  -- a mut name gives the value that it has when its own step comes
  pub present_comes : ComesTo present (12 ∷ 4 ∷ 21 ∷ 32 ∷ 24 ∷ 39 ∷ 42 ∷ 20 ∷ []) [] (done (tuple_of (bit_of false ∷ᵛ bit_of true ∷ᵛ bit_of true ∷ᵛ no_values)))
  -- all of a set's names take their values at once
  pub swapped_comes : ComesTo swapped_pair (18 ∷ 24 ∷ 17 ∷ 4 ∷ 46 ∷ 49 ∷ 45 ∷ 32 ∷ 56 ∷ 59 ∷ 55 ∷ []) [] (done (tuple_of (bit_of true ∷ᵛ bit_of false ∷ᵛ no_values)))
