-- The language: types, values, names, terms, operations. One syntax serves listings and what is left of a run.
-- A list inside a type is a type of its own, declared with it.
use Rattle.std.specs.Prelude.{◌≡◌, List, [], ◌∷◌, ◌++◌, Bool, true, false, cond, ℕ, ◌+◌, eqb}
use Rattle.machine.specs.declared.order.Gate.{Gate}

mutual
  pub data Ty : Type 0 where
    unit : Ty
    bit : Ty
    int : Ty
    qbit : Ty
    tuple : Tys → Ty

  pub data Tys : Type 0 where
    no_types : Tys
    ◌∷ᵗ◌ : Ty → Tys → Tys

infixr 5 ◌∷ᵗ◌
-- a basic type has one leaf, a tuple the leaves of its parts
abbrev mutual
  pub leaves : Ty → ℕ
  leaves unit = 1
  leaves bit = 1
  leaves int = 1
  leaves qbit = 1
  leaves (tuple Ts) = leaves_all Ts

  pub leaves_all : Tys → ℕ
  leaves_all no_types = 0
  leaves_all (T ∷ᵗ Ts) = leaves T + leaves_all Ts

-- the leaves that are qbit
abbrev mutual
  pub qbit_leaves : Ty → ℕ
  qbit_leaves unit = 0
  qbit_leaves bit = 0
  qbit_leaves int = 0
  qbit_leaves qbit = 1
  qbit_leaves (tuple Ts) = qbit_leaves_all Ts

  pub qbit_leaves_all : Tys → ℕ
  qbit_leaves_all no_types = 0
  qbit_leaves_all (T ∷ᵗ Ts) = qbit_leaves T + qbit_leaves_all Ts

-- a type is linear when a leaf is qbit, otherwise duplicable
abbrev mutual
  pub linear : Ty → Bool
  linear unit = false
  linear bit = false
  linear int = false
  linear qbit = true
  linear (tuple Ts) = some_linear Ts

  pub some_linear : Tys → Bool
  some_linear no_types = false
  some_linear (T ∷ᵗ Ts) = cond (linear T) true (some_linear Ts)

abbrev pub Duplicable : Ty → Type 0
Duplicable T = linear T ≡ false

-- a name bound in the text, each binding occurrence with its own number; a mut name of what is left, renamed to its entry in the run's table; a live handle
pub data Name : Type 0 where
  var : ℕ → Name
  entry : ℕ → Name
  handle : ℕ → Name

-- the names are the same
abbrev pub is : Name → Name → Bool
is (var x) (var y) = eqb x y
is (var x) (entry y) = false
is (var x) (handle y) = false
is (entry x) (var y) = false
is (entry x) (entry y) = eqb x y
is (entry x) (handle y) = false
is (handle x) (var y) = false
is (handle x) (entry y) = false
is (handle x) (handle y) = eqb x y

mutual
  pub data Value : Type 0 where
    the_unit : Value
    bit_of : Bool → Value
    int_of : ℕ → Value
    handle_of : ℕ → Value
    tuple_of : Values → Value

  pub data Values : Type 0 where
    no_values : Values
    ◌∷ᵛ◌ : Value → Values → Values

infixr 5 ◌∷ᵛ◌
-- each value has one type
abbrev mutual
  pub type_of : Value → Ty
  type_of the_unit = unit
  type_of (bit_of b) = bit
  type_of (int_of n) = int
  type_of (handle_of h) = qbit
  type_of (tuple_of vs) = tuple (types_of vs)

  pub types_of : Values → Tys
  types_of no_values = no_types
  types_of (v ∷ᵛ vs) = type_of v ∷ᵗ types_of vs

-- the leaves of a value, from left to right; a tuple has those of its parts
abbrev mutual
  pub flat : Value → List Value
  flat the_unit = the_unit ∷ []
  flat (bit_of b) = bit_of b ∷ []
  flat (int_of n) = int_of n ∷ []
  flat (handle_of h) = handle_of h ∷ []
  flat (tuple_of vs) = flat_all vs

  pub flat_all : Values → List Value
  flat_all no_values = []
  flat_all (v ∷ᵛ vs) = flat v ++ flat_all vs

-- one name, or several in parentheses
pub data Pattern (N : Type 0) : Type 0 where
  one : N → Pattern N
  several : List N → Pattern N

abbrev pub names : {N : Type 0} → Pattern N → List N
names (one x) = x ∷ []
names (several xs) = xs

-- what is built of parts
pub data Form : Type 0 where
  tupling : Form
  meas : Form
  gate : Gate → Form
  call : ℕ → Form

-- where the first word of a construct stands in the listing
abbrev pub Place : Type 0
Place = ℕ

mutual
  pub data Term : Type 0 where
    -- a constant, or a value put for a name: finished by its own step
    give : Place → Value → Term
    -- a finished part
    done : Value → Term
    name : Place → Name → Term
    build : Place → Form → Terms → Term
    bind : Place → Pattern ℕ → Term → Term → Term
    mut : Place → Pattern ℕ → Term → Term → Term
    set : Place → Pattern Name → Term → Term → Term
    using_in : Place → Pattern ℕ → Term → Term
    if_else : Place → Term → Term → Term → Term

  pub data Terms : Type 0 where
    no_terms : Terms
    ◌∷ˢ◌ : Term → Terms → Terms

infixr 5 ◌∷ˢ◌
-- an operation: its parameters with their types, its result type, its body
pub record Op : Type 0 where
  pub params : List ℕ
  pub types : Tys
  pub result : Ty
  pub body : Term
