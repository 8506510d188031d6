-- What tables stand for, they stand for when they have grown.
use Rattle.std.proofs.Common.{ℕ, ◌<◌, ◌≤◌, List, ◌++◌, length, ◌∙◌, arith}
use Rattle.syntax.specs.Trees as s
use Rattle.grammar.specs.declared.tree.Tree.{Tree}
use Rattle.grammar.specs.declared.tree.Parameter as parameters
use Rattle.grammar.specs.declared.tree.Operation as operations
use Rattle.grammar.specs.Trees.{Falls}
use Rattle.grammar.specs.Arena.{Node, At, NamesAt, no_names_at, names_at, TypeAt, basic_at, tuple_type_at, TypesAt, no_types_at, types_at, Stands, constant_at, use_at, call_at, meas_at, gate_at, tuple_at, bind_at, using_at, if_at, PartsAt, no_parts_at, parts_at, ParametersAt, no_parameters_at, parameters_at, OperationAt, OperationsAt, no_operations_at, operations_at}
use Rattle.grammar.specs.Parsing.{Kept, Grows, nodes_of, parts_of}

pub at_kept : {X : Type 0} {xs ys : List X} {i : ℕ} {x : X} → Kept xs ys → At xs i x → At ys i x
at_kept {i = i} k (l, h) = (omega (arith, k.longer, l), λ d. k.same i d l ∙ h d)

pub names_join : {ns ms : List Node} {a b c : ℕ} {us vs : List s.Identifier} → Kept ns ms → NamesAt ns a b us → NamesAt ms b c vs → NamesAt ms a c (us ++ vs)
names_join k no_names_at q = q
names_join k (names_at h p r) q = names_at (at_kept k h) p (names_join k r q)

pub names_kept : {ns ms : List Node} {a b : ℕ} {us : List s.Identifier} → Kept ns ms → NamesAt ns a b us → NamesAt ms a b us
names_kept k no_names_at = no_names_at
names_kept k (names_at h p r) = names_at (at_kept k h) p (names_kept k r)

mutual
  pub type_kept : {ns ms : List Node} {ps qs : List ℕ} {i : ℕ} {τ : s.Written} → Kept ns ms → Kept ps qs → TypeAt ns ps i τ → TypeAt ms qs i τ
  type_kept k l (basic_at h) = basic_at (at_kept k h)
  type_kept k l (tuple_type_at h r) = tuple_type_at (at_kept k h) (types_kept k l r)

  pub types_kept : {ns ms : List Node} {ps qs : List ℕ} {b f e : ℕ} {τs : s.Writtens} → Kept ns ms → Kept ps qs → TypesAt ns ps b f e τs → TypesAt ms qs b f e τs
  types_kept k l no_types_at = no_types_at
  types_kept k l (types_at h o p r) = types_at (at_kept l h) o (type_kept k l p) (types_kept k l r)

mutual
  pub stands_kept : {ns ms : List Node} {ps qs : List ℕ} {i : ℕ} {t : s.Tree} → Kept ns ms → Kept ps qs → Stands ns ps i t → Stands ms qs i t
  stands_kept k l (constant_at h) = constant_at (at_kept k h)
  stands_kept k l (use_at h p) = use_at (at_kept k h) p
  stands_kept k l (call_at h p r) = call_at (at_kept k h) p (parts_kept k l r)
  stands_kept k l (meas_at h r) = meas_at (at_kept k h) (parts_kept k l r)
  stands_kept k l (gate_at h r) = gate_at (at_kept k h) (parts_kept k l r)
  stands_kept k l (tuple_at h r) = tuple_at (at_kept k h) (parts_kept k l r)
  stands_kept k l (bind_at h n o p q r) = bind_at (at_kept k h) (names_kept k n) o (stands_kept k l p) q (stands_kept k l r)
  stands_kept k l (using_at h n o r) = using_at (at_kept k h) (names_kept k n) o (stands_kept k l r)
  stands_kept k l (if_at h a p b q d r) = if_at (at_kept k h) a (stands_kept k l p) b (stands_kept k l q) d (stands_kept k l r)

  pub parts_kept : {ns ms : List Node} {ps qs : List ℕ} {b f e : ℕ} {ts : s.Trees} → Kept ns ms → Kept ps qs → PartsAt ns ps b f e ts → PartsAt ms qs b f e ts
  parts_kept k l no_parts_at = no_parts_at
  parts_kept k l (parts_at h o p r) = parts_at (at_kept l h) o (stands_kept k l p) (parts_kept k l r)

pub parameters_join : {ns ms : List Node} {ps qs : List ℕ} {xs ys : List parameters.Parameter} {a b c : ℕ} {us vs : List s.Parameter} → Kept ns ms → Kept ps qs → Kept xs ys → ParametersAt ns ps xs a b us → ParametersAt ms qs ys b c vs → ParametersAt ms qs ys a c (us ++ vs)
parameters_join k l m no_parameters_at q = q
parameters_join k l m (parameters_at h p t r) q = parameters_at (at_kept m h) p (type_kept k l t) (parameters_join k l m r q)

pub parameters_kept : {ns ms : List Node} {ps qs : List ℕ} {xs ys : List parameters.Parameter} {a b : ℕ} {us : List s.Parameter} → Kept ns ms → Kept ps qs → Kept xs ys → ParametersAt ns ps xs a b us → ParametersAt ms qs ys a b us
parameters_kept k l m no_parameters_at = no_parameters_at
parameters_kept k l m (parameters_at h p t r) = parameters_at (at_kept m h) p (type_kept k l t) (parameters_kept k l m r)

pub operation_kept : {ns ms : List Node} {ps qs : List ℕ} {xs ys : List parameters.Parameter} {o : operations.Operation} {w : s.Operation} → Kept ns ms → Kept ps qs → Kept xs ys → OperationAt ns ps xs o w → OperationAt ms qs ys o w
operation_kept k l m h = record {
  place = h.place;
  name = h.name;
  parameters = parameters_kept k l m h.parameters;
  names = names_kept k h.names;
  result = type_kept k l h.result;
  body = stands_kept k l h.body;
}

pub operations_join : {ns ms : List Node} {ps qs : List ℕ} {xs ys : List parameters.Parameter} {os us : List operations.Operation} {a b c : ℕ} {vs ws : List s.Operation} → Kept ns ms → Kept ps qs → Kept xs ys → Kept os us → OperationsAt ns ps xs os a b vs → OperationsAt ms qs ys us b c ws → OperationsAt ms qs ys us a c (vs ++ ws)
operations_join k l m n no_operations_at q = q
operations_join k l m n (operations_at h p r) q = operations_at (at_kept n h) (operation_kept k l m p) (operations_join k l m n r q)

-- the same of trees that have grown
pub still : {t u : Tree} {i j n : ℕ} {x : s.Tree} → Grows t u i j → Stands (nodes_of t) (parts_of t) n x → Stands (nodes_of u) (parts_of u) n x
still g h = stands_kept g.nodes.kept g.parts.kept h

pub still_parts : {t u : Tree} {i j b f e : ℕ} {xs : s.Trees} → Grows t u i j → PartsAt (nodes_of t) (parts_of t) b f e xs → PartsAt (nodes_of u) (parts_of u) b f e xs
still_parts g h = parts_kept g.nodes.kept g.parts.kept h

pub still_names : {t u : Tree} {i j f e : ℕ} {ns : List s.Identifier} → Grows t u i j → NamesAt (nodes_of t) f e ns → NamesAt (nodes_of u) f e ns
still_names g h = names_kept g.nodes.kept h

pub still_type : {t u : Tree} {i j n : ℕ} {τ : s.Written} → Grows t u i j → TypeAt (nodes_of t) (parts_of t) n τ → TypeAt (nodes_of u) (parts_of u) n τ
still_type g h = type_kept g.nodes.kept g.parts.kept h

pub still_types : {t u : Tree} {i j b f e : ℕ} {τs : s.Writtens} → Grows t u i j → TypesAt (nodes_of t) (parts_of t) b f e τs → TypesAt (nodes_of u) (parts_of u) b f e τs
still_types g h = types_kept g.nodes.kept g.parts.kept h

-- what stands for a tree is a node
pub type_within : {ns : List Node} {ps : List ℕ} {i : ℕ} {τ : s.Written} → TypeAt ns ps i τ → i < length ns
type_within (basic_at h) = h.0
type_within (tuple_type_at h r) = h.0

pub within : {ns : List Node} {ps : List ℕ} {i : ℕ} {t : s.Tree} → Stands ns ps i t → i < length ns
within (constant_at h) = h.0
within (use_at h p) = h.0
within (call_at h p r) = h.0
within (meas_at h r) = h.0
within (gate_at h r) = h.0
within (tuple_at h r) = h.0
within (bind_at h n o p q r) = h.0
within (using_at h n o r) = h.0
within (if_at h a p b q d r) = h.0

-- a greater bound
pub parts_wider : {ns : List Node} {ps : List ℕ} {b f e : ℕ} {ts : s.Trees} (c : ℕ) → b ≤ c → PartsAt ns ps b f e ts → PartsAt ns ps c f e ts
parts_wider c l no_parts_at = no_parts_at
parts_wider c l (parts_at h o p r) = parts_at h (omega (arith, l, o)) p (parts_wider c l r)

pub types_wider : {ns : List Node} {ps : List ℕ} {b f e : ℕ} {τs : s.Writtens} (c : ℕ) → b ≤ c → TypesAt ns ps b f e τs → TypesAt ns ps c f e τs
types_wider c l no_types_at = no_types_at
types_wider c l (types_at h o p r) = types_at h (omega (arith, l, o)) p (types_wider c l r)

-- the node of a term or a type, and that the nodes that it names stand before it
pub entry : {ns : List Node} {ps : List ℕ} {i : ℕ} {t : s.Tree} → Stands ns ps i t → (n : Node) × At ns i n × Falls i n.construct
entry (constant_at h) = (_, h, tt)
entry (use_at h p) = (_, h, tt)
entry (call_at h p r) = (_, h, tt)
entry (meas_at h r) = (_, h, tt)
entry (gate_at h r) = (_, h, tt)
entry (tuple_at h r) = (_, h, tt)
entry (bind_at h n o p q r) = (_, h, (o, q))
entry (using_at h n o r) = (_, h, o)
entry (if_at h a p b q d r) = (_, h, (a, b, d))

pub type_entry : {ns : List Node} {ps : List ℕ} {i : ℕ} {τ : s.Written} → TypeAt ns ps i τ → (n : Node) × At ns i n × Falls i n.construct
type_entry (basic_at h) = (_, h, tt)
type_entry (tuple_type_at h r) = (_, h, tt)
