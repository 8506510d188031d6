-- Which syntax tree the tables of nodes, parts, parameters and operations stand for.
use Rattle.std.specs.Prelude.{◌≡◌, ℕ, ◌+◌, ◌<◌, List, [], ◌∷◌, map, length, slice_index_or}
use Rattle.machine.specs.declared.order.Gate as gates
use Rattle.syntax.specs.Trees as s
use Rattle.grammar.specs.declared.tree.Name as names
use Rattle.grammar.specs.declared.tree.Range as ranges
use Rattle.grammar.specs.declared.tree.Basic as basics
use Rattle.grammar.specs.declared.tree.Constant as constants
use Rattle.grammar.specs.declared.tree.Binder as binders
use Rattle.grammar.specs.declared.tree.Form as forms
use Rattle.grammar.specs.declared.tree.Construct as constructs
use Rattle.grammar.specs.declared.tree.Node as entries
use Rattle.grammar.specs.declared.tree.Parameter as parameters
use Rattle.grammar.specs.declared.tree.Operation as operations

abbrev pub Node : Type 0
Node = entries.Node

-- the entry i of a table is x
abbrev pub At : {X : Type 0} → List X → ℕ → X → Type 0
At {X} xs i x = (i < length xs) × ((d : X) → slice_index_or xs i d ≡ x)

-- a construct with its place
abbrev pub node : ℕ → constructs.Construct → Node
node p c = record { place = p; construct = c }

-- where a name stands and how long it is
abbrev pub Spells : names.Name → s.Identifier → Type 0
Spells n w = (n.place ≡ w.place) × (n.span ≡ length w.bytes)

abbrev pub identifiers : s.Pattern → List s.Identifier
identifiers (s.one n) = n ∷ []
identifiers (s.several ns) = ns

abbrev pub basic_of : basics.Basic → s.Basic
basic_of basics.TheVariants.Unit = s.unit_type
basic_of basics.TheVariants.Bit = s.bit_type
basic_of basics.TheVariants.Int = s.int_type
basic_of basics.TheVariants.Qbit = s.qbit_type

abbrev pub constant_of : constants.Constant → s.Constant
constant_of constants.TheVariants.Unit = s.unit
constant_of constants.TheVariants.Zero = s.zero_bit
constant_of constants.TheVariants.One = s.one_bit
constant_of (constants.TheVariants.Number n) = s.number n

abbrev pub binder_of : binders.Binder → s.Binder
binder_of binders.TheVariants.Let = s.by_let
binder_of binders.TheVariants.Mut = s.by_mut
binder_of binders.TheVariants.Set = s.by_set

-- The nodes from i to e, e left out, are those names in order.
pub data NamesAt (ns : List Node) : ℕ → ℕ → List s.Identifier → Type 0 where
  no_names_at : {i : ℕ} → NamesAt ns i i []
  names_at : {i e : ℕ} {n : names.Name} {w : s.Identifier} {ws : List s.Identifier} → At ns i (node n.place (constructs.TheVariants.Named n)) → Spells n w → NamesAt ns (i + 1) e ws → NamesAt ns i e (w ∷ ws)

mutual
  -- the node i is that type; the nodes of its parts stand before it
  pub data TypeAt (ns : List Node) (ps : List ℕ) : ℕ → s.Written → Type 0 where
    basic_at : {i p : ℕ} {b : basics.Basic} → At ns i (node p (constructs.TheVariants.BasicType b)) → TypeAt ns ps i (s.basic p (basic_of b))
    tuple_type_at : {i p : ℕ} {r : ranges.Range} {τs : s.Writtens} → At ns i (node p (constructs.TheVariants.TupleType r)) → TypesAt ns ps i r.first r.end τs → TypeAt ns ps i (s.tuple_type p τs)

  -- the parts from f to e, e left out, are the nodes of those types in reverse order, all below b
  pub data TypesAt (ns : List Node) (ps : List ℕ) : ℕ → ℕ → ℕ → s.Writtens → Type 0 where
    no_types_at : {b f : ℕ} → TypesAt ns ps b f f s.no_types
    types_at : {b f e i : ℕ} {τ : s.Written} {τs : s.Writtens} → At ps e i → i < b → TypeAt ns ps i τ → TypesAt ns ps b f e τs → TypesAt ns ps b f (e + 1) (s.◌∷ʷ◌ τ τs)

mutual
  -- the node i is that term; the nodes of its parts stand before it
  pub data Stands (ns : List Node) (ps : List ℕ) : ℕ → s.Tree → Type 0 where
    constant_at : {i p : ℕ} {c : constants.Constant} → At ns i (node p (constructs.TheVariants.Constant c)) → Stands ns ps i (s.constant p (constant_of c))
    use_at : {i : ℕ} {n : names.Name} {w : s.Identifier} → At ns i (node n.place (constructs.TheVariants.Use n)) → Spells n w → Stands ns ps i (s.named w)
    call_at : {i : ℕ} {n : names.Name} {w : s.Identifier} {r : ranges.Range} {ts : s.Trees} → At ns i (node n.place (constructs.TheVariants.Built (forms.TheVariants.Call n) r)) → Spells n w → PartsAt ns ps i r.first r.end ts → Stands ns ps i (s.call w ts)
    meas_at : {i p : ℕ} {r : ranges.Range} {t : s.Tree} → At ns i (node p (constructs.TheVariants.Built forms.TheVariants.Meas r)) → PartsAt ns ps i r.first r.end (s.◌∷ᵗ◌ t s.no_trees) → Stands ns ps i (s.meas p t)
    gate_at : {i p : ℕ} {g : gates.Gate} {r : ranges.Range} {ts : s.Trees} → At ns i (node p (constructs.TheVariants.Built (forms.TheVariants.Gate g) r)) → PartsAt ns ps i r.first r.end ts → Stands ns ps i (s.apply p g ts)
    tuple_at : {i p : ℕ} {r : ranges.Range} {ts : s.Trees} → At ns i (node p (constructs.TheVariants.Built forms.TheVariants.Tuple r)) → PartsAt ns ps i r.first r.end ts → Stands ns ps i (s.tuple p ts)
    bind_at : {i p a z : ℕ} {b : binders.Binder} {r : ranges.Range} {x : s.Pattern} {t u : s.Tree} → At ns i (node p (constructs.TheVariants.Bind b r a z)) → NamesAt ns r.first r.end (identifiers x) → a < i → Stands ns ps a t → z < i → Stands ns ps z u → Stands ns ps i (s.bind p (binder_of b) x t u)
    using_at : {i p z : ℕ} {r : ranges.Range} {x : s.Pattern} {t : s.Tree} → At ns i (node p (constructs.TheVariants.Using r z)) → NamesAt ns r.first r.end (identifiers x) → z < i → Stands ns ps z t → Stands ns ps i (s.prepare p x t)
    if_at : {i p a y z : ℕ} {t u v : s.Tree} → At ns i (node p (constructs.TheVariants.If a y z)) → a < i → Stands ns ps a t → y < i → Stands ns ps y u → z < i → Stands ns ps z v → Stands ns ps i (s.choose p t u v)

  -- the parts from f to e, e left out, are the nodes of those terms in reverse order, all below b
  pub data PartsAt (ns : List Node) (ps : List ℕ) : ℕ → ℕ → ℕ → s.Trees → Type 0 where
    no_parts_at : {b f : ℕ} → PartsAt ns ps b f f s.no_trees
    parts_at : {b f e i : ℕ} {t : s.Tree} {ts : s.Trees} → At ps e i → i < b → Stands ns ps i t → PartsAt ns ps b f e ts → PartsAt ns ps b f (e + 1) (s.◌∷ᵗ◌ t ts)

-- the entries from i to e, e left out, of the table of parameters are those in order
pub data ParametersAt (ns : List Node) (ps : List ℕ) (xs : List parameters.Parameter) : ℕ → ℕ → List s.Parameter → Type 0 where
  no_parameters_at : {i : ℕ} → ParametersAt ns ps xs i i []
  parameters_at : {i e a : ℕ} {n : names.Name} {d : s.Parameter} {ds : List s.Parameter} → At xs i (record { name = n; written = a }) → Spells n d.name → TypeAt ns ps a d.written → ParametersAt ns ps xs (i + 1) e ds → ParametersAt ns ps xs i e (d ∷ ds)

-- an entry of the table of operations is that operation
pub record OperationAt (ns : List Node) (ps : List ℕ) (xs : List parameters.Parameter) (o : operations.Operation) (w : s.Operation) : Type 0 where
  pub place : o.place ≡ w.place
  pub name : Spells o.name w.name
  pub parameters : ParametersAt ns ps xs o.parameters.first o.parameters.end w.parameters
  pub names : NamesAt ns o.names.first o.names.end (map (λ d. d.name) w.parameters)
  pub result : TypeAt ns ps o.result w.result
  pub body : Stands ns ps o.body w.body

-- the entries from i to e, e left out, of the table of operations are those in order
pub data OperationsAt (ns : List Node) (ps : List ℕ) (xs : List parameters.Parameter) (os : List operations.Operation) : ℕ → ℕ → List s.Operation → Type 0 where
  no_operations_at : {i : ℕ} → OperationsAt ns ps xs os i i []
  operations_at : {i e : ℕ} {o : operations.Operation} {w : s.Operation} {ws : List s.Operation} → At os i o → OperationAt ns ps xs o w → OperationsAt ns ps xs os (i + 1) e ws → OperationsAt ns ps xs os i e (w ∷ ws)
