-- What parsing answers: the tree that its tables then stand for, the place of the first word that continues no listing, or that the tables had too little room.
use Rattle.std.specs.Prelude.{◌≡◌, ℕ, ◌+◌, ◌<◌, ◌≤◌, List, [], ◌∷◌, length, drop, Ok, Err, Some, None, Option, vec_items, vec_capacity, Result, Vec, slice_index_or}
use Rattle.std.specs.declared.alloc.Global.{Global}
use Rattle.words.specs.declared.token.Kind.{Kind}
use Rattle.words.specs.declared.token.Word.{Word}
use Rattle.words.specs.declared.token.Word.TheVariants.{Name, Number, Gate, Fixed}
use Rattle.syntax.specs.Trees as s
use Rattle.syntax.specs.Grammar as g
use Rattle.grammar.specs.declared.tree.Basic as basics
use Rattle.grammar.specs.declared.tree.Construct as constructs
use Rattle.grammar.specs.declared.tree.Node as entries
use Rattle.grammar.specs.declared.tree.Parameter as parameters
use Rattle.grammar.specs.declared.tree.Operation as operations
use Rattle.grammar.specs.declared.tree.Tree.{Tree}
use Rattle.grammar.specs.declared.parse.GrammarFault.{GrammarFault}
use Rattle.grammar.specs.declared.parse.GrammarFault.TheVariants as fault
use Rattle.grammar.specs.declared.parse.Stop.{Stop}
use Rattle.grammar.specs.declared.parse.Stop.TheVariants as stop
use Rattle.grammar.specs.Arena.{At, node, Stands, OperationsAt}

abbrev pub nodes_of : Tree → List entries.Node
nodes_of t = vec_items t.nodes

abbrev pub parts_of : Tree → List ℕ
parts_of t = vec_items t.parts

abbrev pub parameters_of : Tree → List parameters.Parameter
parameters_of t = vec_items t.parameters

abbrev pub operations_of : Tree → List operations.Operation
operations_of t = vec_items t.operations

-- no entry is lost or altered
pub record Kept {X : Type 0} (xs ys : List X) : Type 0 where
  pub longer : length xs ≤ length ys
  pub same : (i : ℕ) (d : X) → i < length xs → slice_index_or ys i d ≡ slice_index_or xs i d

-- A table has grown by j less i entries at most, and has no less room.
pub record Grew {X : Type 0} (v w : Vec X Global) (i j : ℕ) : Type 0 where
  pub kept : Kept (vec_items v) (vec_items w)
  pub few : length (vec_items w) + i ≤ length (vec_items v) + j
  pub room : vec_capacity v ≤ vec_capacity w

pub record Grows (t u : Tree) (i j : ℕ) : Type 0 where
  pub nodes : Grew t.nodes u.nodes i j
  pub parts : Grew t.parts u.parts i j
  pub parameters : Grew t.parameters u.parameters i j
  pub operations : Grew t.operations u.operations i j

-- a table has room for j less i more entries
abbrev pub Spare : {X : Type 0} → Vec X Global → ℕ → ℕ → Type 0
Spare v i j = length (vec_items v) + j ≤ vec_capacity v + i

-- each table has room for j less i more entries
pub record Room (t : Tree) (i j : ℕ) : Type 0 where
  pub nodes : Spare t.nodes i j
  pub parts : Spare t.parts i j
  pub parameters : Spare t.parameters i j
  pub operations : Spare t.operations i j

-- the first word, or none
abbrev pub first : List Word → Option Word
first [] = None
first (w ∷ ws) = Some w

-- the place of the first word, or n where there is none
abbrev pub place_or : ℕ → List Word → ℕ
place_or n [] = n
place_or n (Name x i ∷ ws) = i
place_or n (Number x i v ∷ ws) = i
place_or n (Gate x i g ∷ ws) = i
place_or n (Fixed x i k ∷ ws) = i

-- the mark or the reserved word that the words begin with
abbrev pub kind_of : List Word → Option Kind
kind_of [] = None
kind_of (Name x i ∷ ws) = None
kind_of (Number x i n ∷ ws) = None
kind_of (Gate x i g ∷ ws) = None
kind_of (Fixed x i k ∷ ws) = Some k

-- what a stop is in a listing of n bytes
abbrev pub fault_of : List Word → ℕ → Stop → GrammarFault
fault_of ws n (stop.At p) = fault.Stuck (place_or n (drop p ws))
fault_of ws n stop.Memory = fault.Memory

-- the entries of the table of operations from k on are those
abbrev pub OperationsFrom : Tree → ℕ → List s.Operation → Type 0
OperationsFrom u k os = OperationsAt (nodes_of u) (parts_of u) (parameters_of u) (operations_of u) k (length (operations_of u)) os

-- the tree, whose operations begin at the entry k, stands for that listing
abbrev pub StandsFor : Tree → ℕ → s.Program → Type 0
StandsFor u k l = OperationsFrom u k l.operations × (u.run ≡ l.run_place) × Stands (nodes_of u) (parts_of u) u.term l.main

-- A tree with room for a listing of n words and no operation; its first node is the type qbit, and its first two parts are that node.
pub record Fresh (t : Tree) (n : ℕ) : Type 0 where
  pub room : Room t 0 n
  pub qbit : At (nodes_of t) 0 (node 0 (constructs.TheVariants.BasicType basics.TheVariants.Qbit))
  pub first : At (parts_of t) 0 0
  pub second : At (parts_of t) 1 0
  pub parameters : length (parameters_of t) ≡ 0
  pub operations : length (operations_of t) ≡ 0

-- What parsing answers for the words of a listing of n bytes, with tables t before and u after it: the words are a listing, the only one, and the tables stand for it; the place of the first word that continues no listing, or n where each continues one; or the tables had less room than there are words.
abbrev pub Parsed : List Word → ℕ → Tree → Tree → Result (Unit {0}) GrammarFault → Type 0
Parsed ws n t u (Ok _) = Grows t u 0 (length ws) × ((l : s.Program) × g.Listing ws l × ((k : s.Program) → g.Listing ws k → k ≡ l) × StandsFor u (length (operations_of t)) l)
Parsed ws n t u (Err (fault.Stuck q)) = (p : ℕ) × g.Refused ws p × (q ≡ place_or n (drop p ws))
Parsed ws n t u (Err fault.Memory) = Room t 0 (length ws) → ⊥
