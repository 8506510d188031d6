-- Naming: a listing and the terms of the calculus that it stands for. Each bound name gets a number that is new in the scope; used, set and called names get theirs from
-- where they were bound. A listing keeps the rules of naming when it stands for some terms: every bound name is new, every used, set or called name is in scope, and called
-- operations stand above.
use Rattle.std.specs.Prelude.{◌≡◌, ℕ, suc, ◌<◌, Bool, true, false, ◌||◌, List, [], ◌∷◌, map, length, take, ◌==◌}
use Rattle.std.proofs.Math.Option.{some}
use Rattle.machine.specs.declared.order.Gate.{Gate}
use Rattle.syntax.specs.Trees.{Identifier, Constant, unit as unit_constant, zero_bit, one_bit, number as number_constant, by_let, by_mut, by_set}
use Rattle.syntax.specs.Trees.{Pattern as TreePattern, one as one_name, several as several_names}
use Rattle.syntax.specs.Trees.{Tree, constant, named, call as call_tree, meas as meas_tree, apply, tuple as tuple_tree, bind as bind_tree, prepare, choose, Trees, no_trees, ◌∷ᵗ◌ as ◌∷ᵉ◌}
use Rattle.syntax.specs.Trees.{Operation, Program}
use Rattle.calculus.specs.Syntax.{Value, the_unit, bit_of, int_of, Name, var, Pattern, one, several, names, tupling, meas, gate, call, Op}
use Rattle.calculus.specs.Syntax.{Term, give, name, build, bind, mut, set, using_in, if_else, Terms, no_terms, ◌∷ˢ◌}
use Rattle.questions.specs.Names.{find, among, position}
use Rattle.questions.specs.Types.{as_type}
use Rattle.questions.specs.Walk.{identifiers, taken, parameter_names, parameter_types, op_names, signatures}

-- a name in scope and its number
pub record Bound : Type 0 where
  pub bytes : List ℕ
  pub number : ℕ

abbrev pub bound_name : Bound → List ℕ
bound_name b = b.bytes

-- the names in scope, the innermost first
abbrev pub Environment : Type 0
Environment = List Bound

-- x is the number of a name in scope
abbrev pub numbered : ℕ → Environment → Bool
numbered x [] = false
numbered x (b ∷ env) = b.number == x || numbered x env

abbrev pub value : Constant → Value
value unit_constant = the_unit
value zero_bit = bit_of false
value one_bit = bit_of true
value (number_constant n) = int_of n

-- both are one name, or both are several
pub data Alike {N : Type 0} : TreePattern → Pattern N → Type 0 where
  alike_one : {i : Identifier} {x : N} → Alike (one_name i) (one x)
  alike_several : {is : List Identifier} {xs : List N} → Alike (several_names is) (several xs)

-- the names of a set pattern: none twice, each in scope
pub data Sets (env : Environment) : List (List ℕ) → List Identifier → List Name → Type 0 where
  sets_none : {earlier : List (List ℕ)} → Sets env earlier [] []
  sets_more : {earlier : List (List ℕ)} {i : Identifier} {is : List Identifier} {ns : List Name} → (b : Bound) → among i.bytes earlier ≡ false →
      find bound_name i.bytes env ≡ some b → Sets env (i.bytes ∷ earlier) is ns → Sets env earlier (i ∷ is) (var b.number ∷ ns)

-- ops are the names of the operations of the listing; the first `above` of them stand above
module _ (ops : List (List ℕ)) (above : ℕ) where
  mutual
    pub data Resolves : Environment → Tree → Term → Type 0 where
      res_constant : {env : Environment} {p : ℕ} {c : Constant} → Resolves env (constant p c) (give p (value c))
      res_name : {env : Environment} {i : Identifier} → (b : Bound) → find bound_name i.bytes env ≡ some b → Resolves env (named i) (name i.place (var b.number))
      res_call : {env : Environment} {i : Identifier} {ts : Trees} {us : Terms} → (f : ℕ) → position i.bytes ops ≡ some f → f < above → ResolvesAll env ts us →
          Resolves env (call_tree i ts) (build i.place (call f) us)
      res_meas : {env : Environment} {p : ℕ} {t : Tree} {u : Term} → Resolves env t u → Resolves env (meas_tree p t) (build p meas (u ∷ˢ no_terms))
      res_gate : {env : Environment} {p : ℕ} {g : Gate} {ts : Trees} {us : Terms} → ResolvesAll env ts us → Resolves env (apply p g ts) (build p (gate g) us)
      res_tuple : {env : Environment} {p : ℕ} {ts : Trees} {us : Terms} → ResolvesAll env ts us → Resolves env (tuple_tree p ts) (build p tupling us)
      res_let : {env : Environment} {p : ℕ} {is : TreePattern} {xs : Pattern ℕ} {e t : Tree} {e' t' : Term} → Alike is xs → Resolves env e e' →
          ResolvesUnder env (identifiers is) (names xs) t t' → Resolves env (bind_tree p by_let is e t) (bind p xs e' t')
      res_mut : {env : Environment} {p : ℕ} {is : TreePattern} {xs : Pattern ℕ} {e t : Tree} {e' t' : Term} → Alike is xs → Resolves env e e' →
          ResolvesUnder env (identifiers is) (names xs) t t' → Resolves env (bind_tree p by_mut is e t) (mut p xs e' t')
      res_set : {env : Environment} {p : ℕ} {is : TreePattern} {ns : Pattern Name} {e t : Tree} {e' t' : Term} → Alike is ns → Sets env [] (identifiers is) (names ns) →
          Resolves env e e' → Resolves env t t' → Resolves env (bind_tree p by_set is e t) (set p ns e' t')
      res_using : {env : Environment} {p : ℕ} {is : TreePattern} {xs : Pattern ℕ} {t : Tree} {t' : Term} → Alike is xs →
          ResolvesUnder env (identifiers is) (names xs) t t' → Resolves env (prepare p is t) (using_in p xs t')
      res_if : {env : Environment} {p : ℕ} {c t u : Tree} {c' t' u' : Term} → Resolves env c c' → Resolves env t t' → Resolves env u u' →
          Resolves env (choose p c t u) (if_else p c' t' u')

    pub data ResolvesAll : Environment → Trees → Terms → Type 0 where
      res_none : {env : Environment} → ResolvesAll env no_trees no_terms
      res_more : {env : Environment} {t : Tree} {u : Term} {ts : Trees} {us : Terms} → Resolves env t u → ResolvesAll env ts us → ResolvesAll env (t ∷ᵉ ts) (u ∷ˢ us)

    -- a term once names, new ones, are bound to numbers, new ones
    pub data ResolvesUnder : Environment → List Identifier → List ℕ → Tree → Term → Type 0 where
      res_body : {env : Environment} {t : Tree} {u : Term} → Resolves env t u → ResolvesUnder env [] [] t u
      res_bound : {env : Environment} {i : Identifier} {is : List Identifier} {x : ℕ} {xs : List ℕ} {t : Tree} {u : Term} →
          taken i.bytes ops (map bound_name env) ≡ false → numbered x env ≡ false → ResolvesUnder (record { bytes = i.bytes; number = x } ∷ env) is xs t u →
          ResolvesUnder env (i ∷ is) (x ∷ xs) t u

-- an operation whose name is new among those above
pub record ResolvesOperation (ops : List (List ℕ)) (above : ℕ) (o : Operation) (op : Op) : Type 0 where
  pub new : among o.name.bytes (take above ops) ≡ false
  pub types : op.types ≡ parameter_types o.parameters
  pub result : op.result ≡ as_type o.result
  pub body : ResolvesUnder ops above [] (parameter_names o.parameters) op.params o.body op.body

pub data ResolvesOperations (ops : List (List ℕ)) : ℕ → List Operation → List Op → Type 0 where
  operations_none : {above : ℕ} → ResolvesOperations ops above [] []
  operations_more : {above : ℕ} {o : Operation} {op : Op} {os : List Operation} {rest : List Op} → ResolvesOperation ops above o op →
      ResolvesOperations ops (suc above) os rest → ResolvesOperations ops above (o ∷ os) (op ∷ rest)

abbrev pub operation_names : List Operation → List (List ℕ)
operation_names os = op_names (signatures os)

-- the operations and the run term that a listing stands for
pub record Resolution (p : Program) (ops : List Op) (t : Term) : Type 0 where
  pub operations : ResolvesOperations (operation_names p.operations) 0 p.operations ops
  pub main : Resolves (operation_names p.operations) (length p.operations) [] p.main t

abbrev pub NamedWell : Program → Type 0
NamedWell p = (ops : List Op) × (t : Term) × Resolution p ops t
