-- The questions of the rules, and the answers to them.
use Rattle.std.specs.Prelude.{ℕ, Bool, true, false, List}
use Rattle.std.proofs.Math.Option.{Option, none, some}
use Rattle.syntax.specs.Trees.{Identifier}
use Rattle.calculus.specs.Syntax.{Ty}

pub data Question : Type 0 where
  -- has the tuple or written type at most 8 leaves?
  few_leaves : Question
  -- is the bound name new?
  is_new : Question
  -- is the used or set name in scope, a called one an operation?
  is_known : Question
  -- is the called operation above the calling one?
  is_above : Question
  -- is the linear name unspent?
  is_unspent : Question
  -- is the linear name bound inside each mut or set right side around it?
  is_inside : Question
  -- do the types fit?
  types_fit : Question
  -- was the set name bound by mut?
  is_settable : Question
  -- do both branches spend the same outside names?
  branches_agree : Question
  -- are a scope's linear names spent at its end?
  all_spent : Question

abbrev pub number : Question → ℕ
number few_leaves = 5
number is_new = 6
number is_known = 7
number is_above = 8
number is_unspent = 9
number is_inside = 10
number types_fit = 11
number is_settable = 12
number branches_agree = 13
number all_spent = 14

-- a name in scope: as it was written where it was bound, its type, whether it may be set, whether it is spent
pub record Known : Type 0 where
  pub name : Identifier
  pub type : Ty
  pub settable : Bool
  pub spent : Bool

-- the first question whose answer is no, with its place; or what was found, and the names in scope as they are then
pub data Verdict (X : Type 0) : Type 0 where
  refused : Question → ℕ → Verdict X
  typed : X → List Known → Verdict X

abbrev pub next : {X Y : Type 0} → Verdict X → (X → List Known → Verdict Y) → Verdict Y
next (refused q p) k = refused q p
next (typed x s) k = k x s

-- a question at a place, with its answer
abbrev pub asks : {Y : Type 0} → Question → ℕ → Bool → Verdict Y → Verdict Y
asks q p true o = o
asks q p false o = refused q p

-- the answer is yes where there is something to go on with
abbrev pub given : {X Y : Type 0} → Question → ℕ → Option X → (X → Verdict Y) → Verdict Y
given q p none k = refused q p
given q p (some x) k = k x

-- the first place at which the answer is no
abbrev pub unless : {Y : Type 0} → Question → Option ℕ → Verdict Y → Verdict Y
unless q none o = o
unless q (some p) o = refused q p
