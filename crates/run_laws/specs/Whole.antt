-- Whole runs: how a state stands to the run of a listing.
use Rattle.std.specs.Prelude.{◌≡◌, ℕ, ◌≤◌, false, List, map, length}
use Rattle.machine.specs.Model.{Model, ordered, Makes}
use Rattle.programs.specs.declared.program.Node.{Node}
use Rattle.programs.specs.declared.program.Node.TheVariants.{Place as NoTerm, Target, Constant, Use, Built, Bind, Using, If}
use Rattle.calculus.specs.Syntax.{Ty, Value, Form, Place, Op, Term}
use Rattle.calculus.specs.Rules.{nothing, nowhere, Has, Well}
use Rattle.calculus.specs.Steps.{Table, Event}
use Rattle.calculus.specs.Runs.{most_live, Reached, Sound}
use Rattle.run_laws.specs.Programs.{Code, Means, Resolved, Ordered, PairedTuples}
use Rattle.run_laws.specs.Reads.{Frame, Focused, Reads, Ready, Went}

-- the program is the listing with these operations, whose term to run, at node root, is start and has the type A
pub record Compiled (ops : List Op) (start : Term) (A : Ty) (P : Code) (root : ℕ) : Type 0 where
  pub well : Well ops
  pub typed : Has ops (length ops) nowhere nothing start A
  pub resolved : Resolved ops P
  pub ordered : Ordered P
  pub pairs : PairedTuples P
  pub means : Means P root start

-- a machine on which the listing may start: no handle is live, and there is room for the most that it needs
pub record PreparedFor (ops : List Op) (start : Term) (m : Model) : Type 0 where
  pub idle : (h : ℕ) → m.live h ≡ false
  pub enough : most_live ops 0 start ≤ m.capacity

-- the run of start, on a machine that meant m₀, has come by k steps to this state and to a machine that means m
pub record Stands (ops : List Op) (start : Term) (m₀ : Model) (P : Code) (k : ℕ) (m : Model) (T : List Value) (fs : List Frame) (vals : List Value) (f : Focused) : Type 0 where
  pub left : Term
  pub table : Table
  pub reached : Reached ops start m₀ k left table m
  pub reads : Reads P T table fs vals f left

-- what a step relies on
pub record Relies (ops : List Op) (start : Term) (A : Ty) (m₀ : Model) (P : Code) (k : ℕ) (L : Term) (μ : Table) (m : Model) (T : List Value) : Type 0 where
  pub resolved : Resolved ops P
  pub ordered : Ordered P
  pub pairs : PairedTuples P
  pub long : P.size ≤ length T
  pub sound : Sound ops start A m₀ k L μ m

-- what is left goes on by one step to this state, and the machine does what the step orders
pub record Stepped (ops : List Op) (P : Code) (L : Term) (μ : Table) (m : Model) (T : List Value) (fs : List Frame) (vals : List Value) (f : Focused) (m' : Model) : Type 0 where
  pub place : Place
  pub event : Event
  pub went : Went ops P L μ place event T fs vals f
  pub made : Makes m (map ordered event) m'

-- from one state and meaning of the machine to another is one step, for every listing of which this is the program
abbrev pub Goes : Code → List Value → List Frame → List Value → Focused → Model → List Value → List Frame → List Value → Focused → Model → Type 0
Goes P T fs vals f m T' fs' vals' f' m' = (ops : List Op) (start : Term) (A : Ty) (m₀ : Model) (k : ℕ) (L : Term) (μ : Table) → Relies ops start A m₀ P k L μ m T → Reads P T μ fs vals f L →
    Stepped ops P L μ m T' fs' vals' f' m'

-- the same from node i on, once the latest n of all are its parts
abbrev pub ActsOn : Code → List Value → List Frame → ℕ → Form → ℕ → List Value → Model → List Value → List Frame → List Value → Focused → Model → Type 0
ActsOn P T fs i form n all m T' fs' vals' f' m' = (ops : List Op) (start : Term) (A : Ty) (m₀ : Model) (k : ℕ) (L : Term) (μ : Table) → Relies ops start A m₀ P k L μ m T →
    Ready P T μ fs i form n all L → Stepped ops P L μ m T' fs' vals' f' m'

-- the nodes that are terms, and those that wait for a part
abbrev pub IsTerm : Node → Type 0
IsTerm (NoTerm m) = ⊥
IsTerm (Target x) = ⊥
IsTerm (Constant l) = Unit {0}
IsTerm (Use x) = Unit {0}
IsTerm (Built f r) = Unit {0}
IsTerm (Bind w r e b) = Unit {0}
IsTerm (Using r b) = Unit {0}
IsTerm (If c y n) = Unit {0}

abbrev pub HasParts : Node → Type 0
HasParts (NoTerm m) = ⊥
HasParts (Target x) = ⊥
HasParts (Constant l) = ⊥
HasParts (Use x) = ⊥
HasParts (Built f r) = Unit {0}
HasParts (Bind w r e b) = Unit {0}
HasParts (Using r b) = ⊥
HasParts (If c y n) = Unit {0}
