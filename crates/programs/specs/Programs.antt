-- The tables of a program, and how they grow.
use Rattle.std.specs.Prelude.{◌≡◌, ℕ, ◌+◌, ◌≤◌, false, List, [], ◌∷◌, ◌++◌, length, get_or, set, Ok, Err, vec_items, vec_capacity, Vec, Result}
use Rattle.std.specs.declared.alloc.AllocError.{AllocError}
use Rattle.std.specs.declared.alloc.Global.{Global}
use Rattle.programs.specs.declared.program.Node.TheVariants.{Place}
use Rattle.programs.specs.declared.program.Placed.{Placed}
use Rattle.programs.specs.declared.program.Root.{Root}
use Rattle.programs.specs.declared.program.Node.{Node}
use Rattle.programs.specs.declared.program.Program.{Program}
use Rattle.grammar.specs.declared.tree.Basic.TheVariants as basic
use Rattle.programs.specs.Types.{one_leaf}
use Rattle.programs.specs.declared.types.Typed.{Typed}

abbrev pub nodes_of : Program → List Placed
nodes_of p = vec_items p.nodes

abbrev pub parts_of : Program → List ℕ
parts_of p = vec_items p.parts

abbrev pub roots_of : Program → List Root
roots_of p = vec_items p.roots

-- what a look past the end gives
abbrev pub no_node : Placed
no_node = record { place = 0; node = Place false; typed = one_leaf basic.Unit }

abbrev pub no_root : Root
no_root = record { body = 0; names = record { first = 0; end = 0 } }

-- the room of the tables
pub record SameRoom (p q : Program) : Type 0 where
  pub nodes : vec_capacity q.nodes ≡ vec_capacity p.nodes
  pub parts : vec_capacity q.parts ≡ vec_capacity p.parts
  pub roots : vec_capacity q.roots ≡ vec_capacity p.roots

-- empty, with room for so many entries of each table
pub record Fresh (size : ℕ) (p : Program) : Type 0 where
  pub nodes : nodes_of p ≡ []
  pub parts : parts_of p ≡ []
  pub roots : roots_of p ≡ []
  pub node_room : size ≤ vec_capacity p.nodes
  pub part_room : size ≤ vec_capacity p.parts
  pub root_room : size ≤ vec_capacity p.roots

-- from p to q these entries were added
pub record Grown (ns : List Placed) (ps : List ℕ) (rs : List Root) (p q : Program) : Type 0 where
  pub nodes : nodes_of q ≡ nodes_of p ++ ns
  pub parts : parts_of q ≡ parts_of p ++ ps
  pub roots : roots_of q ≡ roots_of p ++ rs
  pub room : SameRoom p q

-- the entries of the tables, and the term to run
pub record SameEntries (p q : Program) : Type 0 where
  pub nodes : nodes_of q ≡ nodes_of p
  pub parts : q.parts ≡ p.parts
  pub roots : roots_of q ≡ roots_of p
  pub run : q.run ≡ p.run
  pub run_place : q.run_place ≡ p.run_place

-- room for so many more nodes and operations
abbrev pub HasRoom : ℕ → ℕ → Program → Type 0
HasRoom n r p = (length (nodes_of p) + n ≤ vec_capacity p.nodes) × (length (roots_of p) + r ≤ vec_capacity p.roots)

-- no table of q has less room than that of p
pub record NoLessRoom (p q : Program) : Type 0 where
  pub nodes : vec_capacity p.nodes ≤ vec_capacity q.nodes
  pub roots : vec_capacity p.roots ≤ vec_capacity q.roots

-- now there is room for so many more; or there was not, and memory is wanting; the entries stay, and no room is lost
abbrev pub Reserved : ℕ → ℕ → Program → Program → Result (Unit {0}) AllocError → Type 0
Reserved n r p q (Ok _) = SameEntries p q × NoLessRoom p q × HasRoom n r q
Reserved n r p q (Err _) = SameEntries p q × NoLessRoom p q × (HasRoom n r p → ⊥)

-- an entry was added to a table and has that number; or there was no room, and nothing changed
abbrev pub EntryAdded : {T : Type 0} → T → Vec T Global → Vec T Global → Result ℕ AllocError → Type 0
EntryAdded e p q (Ok i) = (vec_items q ≡ vec_items p ++ e ∷ []) × (vec_capacity q ≡ vec_capacity p) × (i ≡ length (vec_items p))
EntryAdded e p q (Err _) = (q ≡ p) × (vec_capacity p ≤ length (vec_items p))

-- a node was added and has that number; or there was no room, and nothing changed
abbrev pub NodeAdded : Placed → Program → Program → Result ℕ AllocError → Type 0
NodeAdded n p q (Ok i) = Grown (n ∷ []) [] [] p q × (i ≡ length (nodes_of p))
NodeAdded n p q (Err e) = (q ≡ p) × (vec_capacity p.nodes ≤ length (nodes_of p))

-- the node at that place, where there is one, is that and has that type; its place and all else stay
pub record NodePut (at : ℕ) (n : Node) (t : Typed) (p q : Program) : Type 0 where
  pub nodes : nodes_of q ≡ set (nodes_of p) at (record { place = (get_or (nodes_of p) at no_node).place; node = n; typed = t })
  pub parts : q.parts ≡ p.parts
  pub roots : q.roots ≡ p.roots
  pub room : vec_capacity q.nodes ≡ vec_capacity p.nodes
  pub run : q.run ≡ p.run
  pub run_place : q.run_place ≡ p.run_place

abbrev pub PartAdded : ℕ → Program → Program → Result (Unit {0}) AllocError → Type 0
PartAdded i p q (Ok _) = Grown [] (i ∷ []) [] p q
PartAdded i p q (Err e) = (q ≡ p) × (vec_capacity p.parts ≤ length (parts_of p))

abbrev pub RootAdded : Root → Program → Program → Result (Unit {0}) AllocError → Type 0
RootAdded r p q (Ok _) = Grown [] [] (r ∷ []) p q
RootAdded r p q (Err e) = (q ≡ p) × (vec_capacity p.roots ≤ length (roots_of p))

-- the table of parts is that, and all else stays
pub record PartsSet (ps : Vec ℕ Global) (p q : Program) : Type 0 where
  pub parts : q.parts ≡ ps
  pub nodes : q.nodes ≡ p.nodes
  pub roots : q.roots ≡ p.roots
  pub run : q.run ≡ p.run
  pub run_place : q.run_place ≡ p.run_place

-- the term to run and its place are set, and the tables stay
pub record NamedRun (run place : ℕ) (p q : Program) : Type 0 where
  pub run_is : q.run ≡ run
  pub place_is : q.run_place ≡ place
  pub nodes : q.nodes ≡ p.nodes
  pub parts : q.parts ≡ p.parts
  pub roots : q.roots ≡ p.roots
