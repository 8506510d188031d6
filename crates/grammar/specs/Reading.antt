-- What the functions that read the parts of a listing answer, with the cursor p before and q after it.
use Rattle.std.specs.Prelude.{◌≡◌, ℕ, ◌+◌, ◌<◌, ◌≤◌, List, [], ◌∷◌, map, length, drop, Ok, Err, Some, None, Option, Result, Vec}
use Rattle.std.specs.declared.alloc.Global.{Global}
use Rattle.machine.specs.declared.order.Gate as gates
use Rattle.words.specs.declared.token.Kind.{Kind}
use Rattle.words.specs.declared.token.Kind.TheVariants.{Open, Comma, Let, Mut, Set}
use Rattle.words.specs.declared.token.Word.{Word}
use Rattle.words.specs.declared.token.Word.TheVariants.{Name, Gate, Fixed}
use Rattle.syntax.specs.Trees as s
use Rattle.syntax.specs.Grammar as g
use Rattle.syntax.specs.Grammar.{Text, identifier}
use Rattle.syntax.specs.Machine as m
use Rattle.syntax.specs.Machine.{Want, this, Way, Stops}
use Rattle.grammar.specs.declared.tree.Name as names
use Rattle.grammar.specs.declared.tree.Range as ranges
use Rattle.grammar.specs.declared.tree.Constant as constants
use Rattle.grammar.specs.declared.tree.Basic as basics
use Rattle.grammar.specs.declared.tree.Binder as binders
use Rattle.grammar.specs.declared.tree.Form as forms
use Rattle.grammar.specs.declared.tree.Construct as constructs
use Rattle.grammar.specs.declared.tree.Node as entries
use Rattle.grammar.specs.declared.tree.Operation as operations
use Rattle.grammar.specs.declared.tree.Tree.{Tree}
use Rattle.grammar.specs.declared.parse.Stop.{Stop}
use Rattle.grammar.specs.declared.parse.Stop.TheVariants as stop
use Rattle.grammar.specs.declared.parse.Signature.{Signature}
use Rattle.grammar.specs.declared.parse.Cursor.{Cursor}
use Rattle.grammar.specs.declared.parse.Parser.{Parser}
use Rattle.grammar.specs.Arena.{At, node, Spells, identifiers, basic_of, constant_of, NamesAt, TypeAt, TypesAt, Stands, PartsAt, ParametersAt}
use Rattle.grammar.specs.Parsing.{place_or, nodes_of, parts_of, parameters_of, operations_of, Grew, Grows, Spare, Room, OperationsFrom, StandsFor}

-- the words from the current one on
abbrev pub rest : Cursor → List Word
rest p = drop p.at p.words.now

-- The thing x was read from p on up to q, and the tables have grown by no more entries than words were read.
pub record Progress (x : Want) (p q : Cursor) (t u : Tree) : Type 0 where
  pub words : q.words.now ≡ p.words.now
  pub way : Way x p.words.now p.at [] q.at
  pub grows : Grows t u p.at q.at

-- Why a function stopped that reads x from p on, with tables t: the word that does not fit, or the tables had less room than words were left.
abbrev pub Halts : Want → Cursor → Tree → Stop → Type 0
Halts x p t (stop.At i) = Stops x p.words.now p.at i
Halts x p t stop.Memory = Room t p.at (length p.words.now) → ⊥

-- the same where no table grows
abbrev pub Misses : Want → Cursor → Stop → Type 0
Misses x p (stop.At i) = Stops x p.words.now p.at i
Misses x p stop.Memory = ⊥

-- the same where no word is read and one table grows
abbrev pub Lacks : {X : Type 0} → Vec X Global → Stop → Type 0
Lacks v (stop.At p) = ⊥
Lacks v stop.Memory = Spare v 0 1 → ⊥

-- What a function answers that reads x, with tables t before and u after it: that x was read, what it is (M) and what stays (Q); or why it stopped.
abbrev pub Answers : {V : Type 0} → Want → (V → Type 0) → (Tree → Tree → Type 0) → Cursor → Cursor → Tree → Tree → Result V Stop → Type 0
Answers x M Q p q t u (Ok v) = Progress x p q t u × (p.at < q.at) × M v × Q t u
Answers x M Q p q t u (Err e) = Halts x p t e

-- the tables of parameters and operations stay
pub record Quiet (t u : Tree) : Type 0 where
  pub parameters : u.parameters ≡ t.parameters
  pub operations : u.operations ≡ t.operations

-- the table of operations stays
abbrev pub SameOperations : Tree → Tree → Type 0
SameOperations t u = u.operations ≡ t.operations

-- the current word was passed
pub record Passed (p q : Cursor) : Type 0 where
  pub words : q.words.now ≡ p.words.now
  pub at : q.at ≡ p.at + 1

-- the words begin with a word of that kind
abbrev pub IsWord : Kind → List Word → List Word → Type 0
IsWord k ws rest = (x : Text) × (i : ℕ) × (ws ≡ Fixed x i k ∷ rest)

abbrev pub Expected : Kind → Cursor → Cursor → Result (Unit {0}) Stop → Type 0
Expected k p q (Ok _) = Passed p q × Way (this k) p.words.now p.at [] q.at × IsWord k (rest p) (rest q)
Expected k p q (Err e) = Misses (this k) p e

-- the current word is that basic type, or the type there is none
abbrev pub BasicFound : Cursor → Option basics.Basic → Type 0
BasicFound p (Some b) = (p.at < length p.words.now) × Way m.a_type p.words.now p.at [] (p.at + 1) × g.Writes (rest p) (s.basic (place_or 0 (rest p)) (basic_of b)) (drop (p.at + 1) p.words.now)
BasicFound p None = Way m.a_type p.words.now p.at (this Open ∷ m.a_type ∷ this Comma ∷ m.types ∷ []) p.at

-- the words begin with that name
abbrev pub IsName : List Word → s.Identifier → List Word → Type 0
IsName ws n rest = (x : Text) × (i : ℕ) × (ws ≡ Name x i ∷ rest) × (n ≡ identifier x i)

abbrev pub NameFound : Cursor → Cursor → Result names.Name Stop → Type 0
NameFound p q (Ok n) = Passed p q × Way m.a_name p.words.now p.at [] q.at × ((w : s.Identifier) × IsName (rest p) w (rest q) × Spells n w)
NameFound p q (Err e) = Misses m.a_name p e

-- an entry was added to the table of nodes and stands at that place; all else is as it was
abbrev pub Added : entries.Node → Tree → Tree → Result ℕ Stop → Type 0
Added n t u (Ok i) = Grows t u 0 1 × (i ≡ length (nodes_of t)) × (length (nodes_of u) ≡ length (nodes_of t) + 1) × At (nodes_of u) i n × (u.parts ≡ t.parts) × (u.parameters ≡ t.parameters) × (u.operations ≡ t.operations)
Added n t u (Err e) = Lacks t.nodes e

abbrev pub PartAdded : ℕ → Tree → Tree → Result (Unit {0}) Stop → Type 0
PartAdded i t u (Ok _) = Grows t u 0 1 × (length (parts_of u) ≡ length (parts_of t) + 1) × At (parts_of u) (length (parts_of t)) i × (u.nodes ≡ t.nodes) × (u.parameters ≡ t.parameters) × (u.operations ≡ t.operations)
PartAdded i t u (Err e) = Lacks t.parts e

abbrev pub ParameterAdded : names.Name → ℕ → Tree → Tree → Result (Unit {0}) Stop → Type 0
ParameterAdded n a t u (Ok _) = Grows t u 0 1 × (length (parameters_of u) ≡ length (parameters_of t) + 1) × At (parameters_of u) (length (parameters_of t)) (record { name = n; written = a }) × (u.nodes ≡ t.nodes) × (u.parts ≡ t.parts) × (u.operations ≡ t.operations)
ParameterAdded n a t u (Err e) = Lacks t.parameters e

abbrev pub OperationAdded : operations.Operation → Tree → Tree → Result (Unit {0}) Stop → Type 0
OperationAdded o t u (Ok _) = Grows t u 0 1 × (length (operations_of u) ≡ length (operations_of t) + 1) × At (operations_of u) (length (operations_of t)) o × (u.nodes ≡ t.nodes) × (u.parts ≡ t.parts) × (u.parameters ≡ t.parameters)
OperationAdded o t u (Err e) = Lacks t.operations e

abbrev pub BuiltOf : ℕ → forms.Form → ℕ → Tree → Tree → Result ℕ Stop → Type 0
BuiltOf p f first t u r = Added (node p (constructs.TheVariants.Built f (record { first = first; end = length (parts_of t) }))) t u r

-- the word that a binder is written as
abbrev pub keyword : binders.Binder → Kind
keyword binders.TheVariants.Let = Let
keyword binders.TheVariants.Mut = Mut
keyword binders.TheVariants.Set = Set

-- the current word is w
abbrev pub Here : Cursor → Word → Type 0
Here p w = (p.at < length p.words.now) × (rest p ≡ w ∷ drop (p.at + 1) p.words.now)

-- that name is the current word
abbrev pub NameHere : Cursor → names.Name → Type 0
NameHere p n = (x : Text) × (i : ℕ) × Here p (Name x i) × Spells n (identifier x i)

-- that gate is the current word, which has that place
abbrev pub GateHere : Cursor → ℕ → gates.Gate → Type 0
GateHere p i o = (x : Text) × Here p (Gate x i o)

-- that constant is the current word, which has that place
abbrev pub ConstantHere : Cursor → ℕ → constants.Constant → Type 0
ConstantHere p i c = (p.at < length p.words.now) × Way m.plain p.words.now p.at [] (p.at + 1) × g.Plain (rest p) (s.constant i (constant_of c)) (drop (p.at + 1) p.words.now)

abbrev pub NameRead : Cursor → Cursor → Tree → Tree → Result (Unit {0}) Stop → Type 0
NameRead p q t u = Answers m.a_name (λ _. (w : s.Identifier) × IsName (rest p) w (rest q) × NamesAt (nodes_of u) (length (nodes_of t)) (length (nodes_of u)) (w ∷ [])) Quiet p q t u

abbrev pub MoreNamesRead : Cursor → Cursor → Tree → Tree → Result (Unit {0}) Stop → Type 0
MoreNamesRead p q t u = Answers m.names (λ _. (ns : List s.Identifier) × g.Names (rest p) ns (rest q) × NamesAt (nodes_of u) (length (nodes_of t)) (length (nodes_of u)) ns) Quiet p q t u

abbrev pub PatternIsRead : Cursor → Cursor → Tree → Tree → Result ranges.Range Stop → Type 0
PatternIsRead p q t u = Answers m.pattern (λ r. (x : s.Pattern) × g.Binds (rest p) x (rest q) × NamesAt (nodes_of u) r.first r.end (identifiers x)) Quiet p q t u

abbrev pub TermRead : Cursor → Cursor → Tree → Tree → Result ℕ Stop → Type 0
TermRead p q t u = Answers m.term (λ i. (x : s.Tree) × g.Term (rest p) x (rest q) × Stands (nodes_of u) (parts_of u) i x) Quiet p q t u

abbrev pub PlainRead : Cursor → Cursor → Tree → Tree → Result ℕ Stop → Type 0
PlainRead p q t u = Answers m.plain (λ i. (x : s.Tree) × g.Plain (rest p) x (rest q) × Stands (nodes_of u) (parts_of u) i x) Quiet p q t u

abbrev pub TermsRead : Cursor → Cursor → Tree → Tree → Result ℕ Stop → Type 0
TermsRead p q t u = Answers m.terms (λ i. (xs : s.Trees) × g.Terms (rest p) xs (rest q) × PartsAt (nodes_of u) (parts_of u) (length (nodes_of u)) i (length (parts_of u)) xs) Quiet p q t u

abbrev pub MoreRead : Cursor → Cursor → Tree → Tree → Result ℕ Stop → Type 0
MoreRead p q t u = Answers m.more (λ i. (xs : s.Trees) × g.More (rest p) xs (rest q) × PartsAt (nodes_of u) (parts_of u) (length (nodes_of u)) i (length (parts_of u)) xs × Grows t u (p.at + 1) q.at) Quiet p q t u

abbrev pub TypeRead : Cursor → Cursor → Tree → Tree → Result ℕ Stop → Type 0
TypeRead p q t u = Answers m.a_type (λ i. (τ : s.Written) × g.Writes (rest p) τ (rest q) × TypeAt (nodes_of u) (parts_of u) i τ) Quiet p q t u

abbrev pub TypesRead : Cursor → Cursor → Tree → Tree → Result ℕ Stop → Type 0
TypesRead p q t u = Answers m.types (λ i. (τs : s.Writtens) × g.WritesAll (rest p) τs (rest q) × TypesAt (nodes_of u) (parts_of u) (length (nodes_of u)) i (length (parts_of u)) τs) Quiet p q t u

abbrev pub MoreTypesRead : Cursor → Cursor → Tree → Tree → Result ℕ Stop → Type 0
MoreTypesRead p q t u = Answers m.more_types (λ i. (τs : s.Writtens) × g.MoreTypes (rest p) τs (rest q) × TypesAt (nodes_of u) (parts_of u) (length (nodes_of u)) i (length (parts_of u)) τs × Grows t u (p.at + 1) q.at) Quiet p q t u

-- nodes and parameters together have grown by no more than the words from `at` to e
abbrev pub Few : Tree → Tree → ℕ → ℕ → Type 0
Few t u at e = length (nodes_of u) + length (parameters_of u) + at ≤ length (nodes_of t) + length (parameters_of t) + e

-- the entries that u has more than t in its table of parameters are those
abbrev pub NewParameters : Tree → Tree → List s.Parameter → Type 0
NewParameters t u ds = ParametersAt (nodes_of u) (parts_of u) (parameters_of u) (length (parameters_of t)) (length (parameters_of u)) ds

abbrev pub ParameterRead : Cursor → Cursor → Tree → Tree → Result (Unit {0}) Stop → Type 0
ParameterRead p q t u = Answers m.parameter (λ _. (d : s.Parameter) × g.Gives (rest p) d (rest q) × NewParameters t u (d ∷ []) × Few t u p.at q.at) SameOperations p q t u

abbrev pub MoreParametersRead : Cursor → Cursor → Tree → Tree → Result (Unit {0}) Stop → Type 0
MoreParametersRead p q t u = Answers m.more_parameters (λ _. (ds : List s.Parameter) × g.MoreParameters (rest p) ds (rest q) × NewParameters t u ds × Few t u p.at q.at) SameOperations p q t u

abbrev pub ParametersAreRead : Cursor → Cursor → Tree → Tree → Result (Unit {0}) Stop → Type 0
ParametersAreRead p q t u = Answers m.parameters (λ _. (ds : List s.Parameter) × g.Parameters (rest p) ds (rest q) × NewParameters t u ds × Few t u p.at q.at) SameOperations p q t u

-- a node was added for the name of each parameter from `at` on
abbrev pub ParametersNamed : ℕ → Tree → Tree → Result (Unit {0}) Stop → Type 0
ParametersNamed at t u (Ok _) = Grew t.nodes u.nodes at (length (parameters_of t)) × (u.parts ≡ t.parts) × (u.parameters ≡ t.parameters) × (u.operations ≡ t.operations) × ((ns : List entries.Node) (ps : List ℕ) (ds : List s.Parameter) → ParametersAt ns ps (parameters_of t) at (length (parameters_of t)) ds → NamesAt (nodes_of u) (length (nodes_of t)) (length (nodes_of u)) (map (λ d. d.name) ds))
ParametersNamed at t u (Err (stop.At p)) = ⊥
ParametersNamed at t u (Err stop.Memory) = Spare t.nodes at (length (parameters_of t)) → ⊥

abbrev pub SignatureRead : Cursor → Cursor → Tree → Tree → Result Signature Stop → Type 0
SignatureRead p q t u = Answers m.parameters (λ v. (ds : List s.Parameter) × g.Parameters (rest p) ds (rest q) × ParametersAt (nodes_of u) (parts_of u) (parameters_of u) v.parameters.first v.parameters.end ds × NamesAt (nodes_of u) v.names.first v.names.end (map (λ d. d.name) ds)) SameOperations p q t u

abbrev pub OperationRead : Cursor → Cursor → Tree → Tree → Result (Unit {0}) Stop → Type 0
OperationRead p q t u = Answers m.operation (λ _. (o : s.Operation) × g.Declares (rest p) o (rest q) × OperationsFrom u (length (operations_of t)) (o ∷ [])) (λ t u. Unit {0}) p q t u

abbrev pub ListingRead : Cursor → Cursor → Tree → Tree → Result (Unit {0}) Stop → Type 0
ListingRead p q t u = Answers m.listing (λ _. (l : s.Program) × g.Lists (rest p) l.operations l.run_place l.main (rest q) × StandsFor u (length (operations_of t)) l) (λ t u. Unit {0}) p q t u

-- A parser answers that, being p before and q after it, and still fills the same tree.
abbrev pub Parses : {V : Type 0} → (Cursor → Cursor → Tree → Tree → Result V Stop → Type 0) → Parser → Parser → Result V Stop → Type 0
Parses A p q r = A p.cursor q.cursor p.tree.now q.tree.now r × (q.tree.ghost_name ≡ p.tree.ghost_name)
