-- A resolved program, and which term each node is. What is promised here of a program is what a run relies on.
use Rattle.std.specs.Prelude.{◌≡◌, ℕ, zero, suc, ◌+◌, ◌-◌, ◌<◌, ◌≤◌, Bool, true, false, List, [], ◌∷◌, map}
use Rattle.std.proofs.Math.Option.{some}
use Rattle.machine.specs.Model.{distinct}
use Rattle.grammar.specs.declared.tree.Range.{Range}
use Rattle.grammar.specs.declared.tree.Binder.{Binder}
use Rattle.grammar.specs.declared.tree.Binder.TheVariants.{Let, Mut, Set}
use Rattle.programs.specs.declared.program.Leaf.{Leaf}
use Rattle.programs.specs.declared.program.Leaf.TheVariants.{Unit as UnitLeaf, Bit, Int, Handle}
use Rattle.programs.specs.declared.program.Act.{Act}
use Rattle.programs.specs.declared.program.Act.TheVariants.{Tuple, Meas, Gate, Call}
use Rattle.programs.specs.declared.program.Node.{Node}
use Rattle.programs.specs.declared.program.Node.TheVariants.{Place as NoTerm, Target, Constant, Use, Built, Bind, Using, If}
use Rattle.programs.specs.declared.program.Root.{Root}
use Rattle.calculus.specs.Syntax.{var, Value, the_unit, bit_of, int_of, handle_of, Pattern, one, several, Form, tupling, meas, gate, call, Place, Op}
use Rattle.calculus.specs.Syntax.{Term, give, name, build, bind, mut, set, using_in, if_else, Terms, no_terms, ◌∷ˢ◌}
use Rattle.calculus.specs.Rules.{nth}

-- no term, whether or not it is a name that may be set
abbrev pub IsNoTerm : Node → Type 0
IsNoTerm n = (m : Bool) × (n ≡ NoTerm m)

-- a program as a run looks it up: nodes, the table of parts, the place of each node's first word, the operations, and which entries are mut names
pub record Code : Type 0 where
  pub node : ℕ → Node
  pub part : ℕ → ℕ
  pub place : ℕ → Place
  pub root : ℕ → Root
  pub mut_name : ℕ → Bool
  -- how many nodes there are, and how many parts
  pub size : ℕ
  pub parts : ℕ
  pub past : (i : ℕ) → size ≤ i → IsNoTerm (node i)

abbrev pub seen : Leaf → Value
seen UnitLeaf = the_unit
seen (Bit b) = bit_of b
seen (Int n) = int_of n
seen (Handle h) = handle_of h

abbrev pub form : Act → Form
form Tuple = tupling
form Meas = meas
form (Gate g) = gate g
form (Call f) = call f

-- n numbers from x on
abbrev pub range : ℕ → ℕ → List ℕ
range x zero = []
range x (suc n) = x ∷ range (suc x) n

abbrev pub within : Range → List ℕ
within r = range r.first (r.end - r.first)

-- the entry that a node of a pattern means: a new name's own, or that of the name to be set
abbrev pub meant : ℕ → Node → ℕ
meant at (NoTerm m) = at
meant at (Target x) = x
meant at (Constant l) = at
meant at (Use x) = at
meant at (Built f r) = at
meant at (Bind w r e b) = at
meant at (Using r b) = at
meant at (If c y n) = at

abbrev pub entries : Code → Range → List ℕ
entries P r = map (λ i. meant i (P.node i)) (within r)

-- a lone name, or several
abbrev pub pattern : {N : Type 0} → List N → Pattern N
pattern [] = several []
pattern (x ∷ []) = one x
pattern (x ∷ (y ∷ xs)) = several (x ∷ (y ∷ xs))

abbrev pub bind_term : Binder → Place → List ℕ → Term → Term → Term
bind_term Let p xs t u = bind p (pattern xs) t u
bind_term Mut p xs t u = mut p (pattern xs) t u
bind_term Set p xs t u = set p (pattern (map var xs)) t u

-- the names are entries of their own, all bound by mut or none
abbrev pub Own : Code → Bool → Range → Type 0
Own P m r = (x : ℕ) → r.first ≤ x → x < r.end → IsNoTerm (P.node x) × (P.mut_name x ≡ m)

-- a let and a mut bind names of their own; a set's are different
abbrev pub Named : Code → Binder → Range → Type 0
Named P Let r = Own P false r
Named P Mut r = Own P true r
Named P Set r = distinct (entries P r) ≡ true

module _ (P : Code) where
  mutual
    -- node i, which is nd, is the term; its parts stand before it, and a pattern's names right before it, after the parts
    pub data Shape : ℕ → Node → Term → Type 0 where
      shape_constant : {i : ℕ} {l : Leaf} → Shape i (Constant l) (give (P.place i) (seen l))
      shape_use : {i x : ℕ} → Shape i (Use x) (name (P.place i) (var x))
      shape_built : {i : ℕ} {f : Act} {r : Range} {ts : Terms} → Listed i r.first r.end ts → Shape i (Built f r) (build (P.place i) (form f) ts)
      shape_bind : {i e b : ℕ} {w : Binder} {r : Range} {t u : Term} → e < r.first → b < r.first → r.first ≤ r.end → r.end ≤ i → Named P w r →
          Shape e (P.node e) t → Shape b (P.node b) u → Shape i (Bind w r e b) (bind_term w (P.place i) (entries P r) t u)
      shape_using : {i b : ℕ} {r : Range} {t : Term} → b < r.first → r.first ≤ r.end → r.end ≤ i → Own P false r →
          Shape b (P.node b) t → Shape i (Using r b) (using_in (P.place i) (pattern (within r)) t)
      shape_if : {i c y n : ℕ} {t u w : Term} → c < i → y < i → n < i → Shape c (P.node c) t → Shape y (P.node y) u → Shape n (P.node n) w →
          Shape i (If c y n) (if_else (P.place i) t u w)

    -- the parts of node i from place a of the table on, before place z; the first part stands last
    pub data Listed : ℕ → ℕ → ℕ → Terms → Type 0 where
      listed_none : {i a z : ℕ} → z ≡ a → Listed i a z no_terms
      listed_more : {i a z : ℕ} {t : Term} {ts : Terms} → a < z → P.part (z - 1) < i → Shape (P.part (z - 1)) (P.node (P.part (z - 1))) t → Listed i a (z - 1) ts →
          Listed i a z (t ∷ˢ ts)

  abbrev pub Means : ℕ → Term → Type 0
  Means i t = Shape i (P.node i) t

-- a called operation is that of the program, with as many parameters as there are arguments, and stands before the call
pub record Called (ops : List Op) (P : Code) (i f : ℕ) (r : Range) : Type 0 where
  pub op : Op
  pub found : nth ops f ≡ some op
  pub params : op.params ≡ within (P.root f).names
  pub body : Means P (P.root f).body op.body
  pub own : Own P false (P.root f).names
  pub under : (P.root f).body < (P.root f).names.first
  pub ordered : (P.root f).names.first ≤ (P.root f).names.end
  pub before : (P.root f).names.end ≤ i
  pub fits : r.end - r.first ≡ (P.root f).names.end - (P.root f).names.first

abbrev pub Resolved : List Op → Code → Type 0
Resolved ops P = (i f : ℕ) (r : Range) → P.node i ≡ Built (Call f) r → Called ops P i f r

-- the parts of each node are in the table, those of a later node stand after them, and there are no more parts than nodes
pub record Ordered (P : Code) : Type 0 where
  pub inside : (k : ℕ) (r : Range) (f : Act) → P.node k ≡ Built f r → r.end ≤ P.parts
  pub after : (i k : ℕ) (r q : Range) (f g : Act) → i < k → P.node i ≡ Built f r → P.node k ≡ Built g q → r.end ≤ q.first
  pub few : P.parts ≤ P.size

-- a tuple has two parts or more
abbrev pub PairedTuples : Code → Type 0
PairedTuples P = (k : ℕ) (r : Range) → P.node k ≡ Built Tuple r → r.first + 2 ≤ r.end
