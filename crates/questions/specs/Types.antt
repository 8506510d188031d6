-- Types as they are written, and when two types are the same.
use Rattle.std.specs.Prelude.{ℕ, Bool, true, false, cond, ◌&&◌, nat_le}
use Rattle.std.proofs.Math.Option.{Option, none, some}
use Rattle.syntax.specs.Trees.{Basic, unit_type, bit_type, int_type, qbit_type, Written, basic, tuple_type, Writtens, no_types as no_writtens, ◌∷ʷ◌}
use Rattle.calculus.specs.Syntax.{Ty, unit, bit, int, qbit, tuple, Tys, no_types, ◌∷ᵗ◌, leaves_all}
use Rattle.questions.specs.Names.{first_of}

-- equal at each place, however deep
abbrev mutual
  pub same : Ty → Ty → Bool
  same unit unit = true
  same unit bit = false
  same unit int = false
  same unit qbit = false
  same unit (tuple Us) = false
  same bit unit = false
  same bit bit = true
  same bit int = false
  same bit qbit = false
  same bit (tuple Us) = false
  same int unit = false
  same int bit = false
  same int int = true
  same int qbit = false
  same int (tuple Us) = false
  same qbit unit = false
  same qbit bit = false
  same qbit int = false
  same qbit qbit = true
  same qbit (tuple Us) = false
  same (tuple Ts) unit = false
  same (tuple Ts) bit = false
  same (tuple Ts) int = false
  same (tuple Ts) qbit = false
  same (tuple Ts) (tuple Us) = same_all Ts Us

  pub same_all : Tys → Tys → Bool
  same_all no_types no_types = true
  same_all no_types (U ∷ᵗ Us) = false
  same_all (T ∷ᵗ Ts) no_types = false
  same_all (T ∷ᵗ Ts) (U ∷ᵗ Us) = same T U && same_all Ts Us

abbrev pub basic_type : Basic → Ty
basic_type unit_type = unit
basic_type bit_type = bit
basic_type int_type = int
basic_type qbit_type = qbit

abbrev mutual
  pub as_type : Written → Ty
  as_type (basic p b) = basic_type b
  as_type (tuple_type p ws) = tuple (as_types ws)

  pub as_types : Writtens → Tys
  as_types no_writtens = no_types
  as_types (w ∷ʷ ws) = as_type w ∷ᵗ as_types ws

-- at most 8 leaves
abbrev pub few : Tys → Bool
few Ts = nat_le (leaves_all Ts) 8

-- the opening parenthesis of the first tuple with too many leaves, those inside a tuple before it
abbrev mutual
  pub too_wide : Written → Option ℕ
  too_wide (basic p b) = none
  too_wide (tuple_type p ws) = first_of (too_wide_all ws) (cond (few (as_types ws)) none (some p))

  pub too_wide_all : Writtens → Option ℕ
  too_wide_all no_writtens = none
  too_wide_all (w ∷ʷ ws) = first_of (too_wide w) (too_wide_all ws)
