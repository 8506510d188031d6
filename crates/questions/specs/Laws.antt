-- What the walk accepts, and what has a typing.
use Rattle.std.specs.Prelude.{◌≡◌, ℕ, ◌≤◌, List, [], map, length}
use Rattle.std.proofs.Math.Option.{some}
use Rattle.syntax.specs.Trees.{Tree, Program}
use Rattle.calculus.specs.Syntax.{Ty, Op, Term}
use Rattle.calculus.specs.Rules.{nothing, nowhere, nth, Has, Well}
use Rattle.questions.specs.Questions.{Question, number, Known, refused, typed}
use Rattle.questions.specs.Walk.{Signature, spend, ask, verdict}
use Rattle.questions.specs.Resolves.{Resolution, NamedWell}
use Rattle.questions.specs.Limits.{OperationsFew, Within, WithinUnder}

-- the operations have their types, and the run term has the type T without any name
pub record Typing (ops : List Op) (t : Term) (T : Ty) : Type 0 where
  pub well : Well ops
  pub has : Has ops (length ops) nowhere nothing t T

-- every tuple of the typing has at most 8 leaves
pub record FewLeaves {ops : List Op} {t : Term} {T : Ty} (d : Typing ops t T) : Type 0 where
  pub bodies : (f : ℕ) (op : Op) (h : nth ops f ≡ some op) → WithinUnder (d.well f op h)
  pub main : Within d.has

-- the listing is within the limit on leaves: its written types, and the tuples of each typing that it has
pub record LeafLimit (p : Program) : Type 0 where
  pub written : OperationsFew p.operations
  pub tuples : (ops : List Op) (t : Term) (T : Ty) → Resolution p ops t → (d : Typing ops t T) → FewLeaves d

-- where the walk accepts, the listing keeps the rules of naming, it has that type, whatever numbers its names get, and all leaves are few
abbrev pub Sound : Type 0
Sound =
    (p : Program) (T : Ty) → verdict p ≡ typed T [] → NamedWell p × OperationsFew p.operations × ((ops : List Op) (t : Term) → Resolution p ops t → (d : Typing ops t T) × FewLeaves d)

-- where the listing, with some numbers for its names, has a type, and all leaves are few, the walk accepts it with that type
abbrev pub Complete : Type 0
Complete = (p : Program) (T : Ty) (ops : List Op) (t : Term) → Resolution p ops t → OperationsFew p.operations → (d : Typing ops t T) → FewLeaves d → verdict p ≡ typed T []

-- a listing within naming and the limit on leaves is accepted exactly when it has a typing, and with that type
abbrev pub Exact : Type 0
Exact = (p : Program) → LeafLimit p → (ops : List Op) (t : Term) → Resolution p ops t → (T : Ty) → (verdict p ≡ typed T [] → Typing ops t T) × (Typing ops t T → verdict p ≡ typed T [])

-- a listing that is refused with a question from 9 on has no typing
abbrev pub RefusedUntyped : Type 0
RefusedUntyped = (p : Program) (ops : List Op) (t : Term) → Resolution p ops t → (q : Question) (at : ℕ) → verdict p ≡ refused q at → 9 ≤ number q → (T : Ty) → Typing ops t T → ⊥

-- a listing that is refused with one of the questions of naming, 6 to 8, does not keep the rules of naming
abbrev pub RefusedUnnamed : Type 0
RefusedUnnamed = (p : Program) (q : Question) (at : ℕ) → verdict p ≡ refused q at → 6 ≤ number q → number q ≤ 8 → NamedWell p → ⊥

-- a term changes the names in scope in their spent marks alone
abbrev pub MarksOnly : Type 0
MarksOnly = (ops : List Signature) (above : ℕ) (out s : List Known) (t : Tree) (T : Ty) (s' : List Known) → ask ops above out s t ≡ typed T s' → map spend s' ≡ map spend s
