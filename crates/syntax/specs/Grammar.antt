-- The grammar: which words are which listing. Each relation says of words ws that they begin with the thing named, and that the words rest follow it.
use Rattle.std.specs.Prelude.{ℕ, ◌+◌, ◌<◌, ◌≤◌, List, [], ◌∷◌, ◌++◌, length, take}
use Rattle.std.specs.Borrow.{Bor}
use Rattle.machine.specs.declared.order.Gate as gates
use Rattle.words.specs.declared.token.Kind.TheVariants.{Open, Close, LeftBrace, RightBrace, Comma, Equals, Colon, Op, Run, Let, Mut, Set, Using, In, If, Then, Else, Meas, Unit, Bit, Int, Qbit, Zero, One}
use Rattle.words.specs.declared.token.Word.{Word}
use Rattle.words.specs.declared.token.Word.TheVariants.{Name, Number, Gate, Fixed}
use Rattle.syntax.specs.Trees.{Identifier, Pattern, one, several, unit_type, bit_type, int_type, qbit_type, Written, basic, tuple_type, Writtens, no_types, ◌∷ʷ◌, unit, zero_bit, one_bit, number, by_let, by_mut, by_set, Tree, constant, named, call, meas, apply, tuple, bind, prepare, choose, Trees, no_trees, ◌∷ᵗ◌, Parameter, Operation, Program}

-- a part of the listing, as a word holds it
abbrev pub Text : Type 0
Text = Bor (List ℕ)

abbrev pub identifier : Text → ℕ → Identifier
identifier x i = record { bytes = x.now; place = i }

-- {, name} )
pub data Names : List Word → List Identifier → List Word → Type 0 where
  names_end : {x : Text} {i : ℕ} {ws : List Word} → Names (Fixed x i Close ∷ ws) [] ws
  names_more : {x y : Text} {i j : ℕ} {ns : List Identifier} {ws rest : List Word} → Names ws ns rest → Names (Fixed x i Comma ∷ Name y j ∷ ws) (identifier y j ∷ ns) rest

-- name, or ( name , name {, name} )
pub data Binds : List Word → Pattern → List Word → Type 0 where
  binds_one : {x : Text} {i : ℕ} {ws : List Word} → Binds (Name x i ∷ ws) (one (identifier x i)) ws
  binds_several : {x y z v : Text} {i j k l : ℕ} {ns : List Identifier} {ws rest : List Word} → Names ws ns rest → Binds (Fixed x i Open ∷ Name y j ∷ Fixed z k Comma ∷ Name v l ∷ ws) (several (identifier y j ∷ identifier v l ∷ ns)) rest

mutual
  -- unit, bit, int, qbit, or ( type , type {, type} )
  pub data Writes : List Word → Written → List Word → Type 0 where
    is_unit_type : {x : Text} {i : ℕ} {ws : List Word} → Writes (Fixed x i Unit ∷ ws) (basic i unit_type) ws
    is_bit_type : {x : Text} {i : ℕ} {ws : List Word} → Writes (Fixed x i Bit ∷ ws) (basic i bit_type) ws
    is_int_type : {x : Text} {i : ℕ} {ws : List Word} → Writes (Fixed x i Int ∷ ws) (basic i int_type) ws
    is_qbit_type : {x : Text} {i : ℕ} {ws : List Word} → Writes (Fixed x i Qbit ∷ ws) (basic i qbit_type) ws
    is_tuple_type : {x y : Text} {i j : ℕ} {τ : Written} {τs : Writtens} {ws vs rest : List Word} → Writes ws τ (Fixed y j Comma ∷ vs) → WritesAll vs τs rest → Writes (Fixed x i Open ∷ ws) (tuple_type i (τ ∷ʷ τs)) rest

  -- type {, type} )
  pub data WritesAll : List Word → Writtens → List Word → Type 0 where
    some_types : {τ : Written} {τs : Writtens} {ws vs rest : List Word} → Writes ws τ vs → MoreTypes vs τs rest → WritesAll ws (τ ∷ʷ τs) rest

  -- {, type} )
  pub data MoreTypes : List Word → Writtens → List Word → Type 0 where
    types_end : {x : Text} {i : ℕ} {ws : List Word} → MoreTypes (Fixed x i Close ∷ ws) no_types ws
    types_more : {x : Text} {i : ℕ} {τs : Writtens} {ws rest : List Word} → WritesAll ws τs rest → MoreTypes (Fixed x i Comma ∷ ws) τs rest

-- name : type
pub data Gives : List Word → Parameter → List Word → Type 0 where
  gives : {x y : Text} {i j : ℕ} {τ : Written} {ws rest : List Word} → Writes ws τ rest → Gives (Name x i ∷ Fixed y j Colon ∷ ws) (record { name = identifier x i; written = τ }) rest

-- {, name : type} )
pub data MoreParameters : List Word → List Parameter → List Word → Type 0 where
  parameters_end : {x : Text} {i : ℕ} {ws : List Word} → MoreParameters (Fixed x i Close ∷ ws) [] ws
  parameters_more : {x : Text} {i : ℕ} {d : Parameter} {ds : List Parameter} {ws vs rest : List Word} → Gives ws d vs → MoreParameters vs ds rest → MoreParameters (Fixed x i Comma ∷ ws) (d ∷ ds) rest

-- the parameters of an operation, and the parenthesis that ends them
pub data Parameters : List Word → List Parameter → List Word → Type 0 where
  no_parameters : {x : Text} {i : ℕ} {ws : List Word} → Parameters (Fixed x i Close ∷ ws) [] ws
  some_parameters : {d : Parameter} {ds : List Parameter} {ws vs rest : List Word} → Gives ws d vs → MoreParameters vs ds rest → Parameters ws (d ∷ ds) rest

mutual
  pub data Term : List Word → Tree → List Word → Type 0 where
    let_in : {x : Text} {i : ℕ} {p : Pattern} {t u : Tree} {ws rest : List Word} → Binding ws p t u rest → Term (Fixed x i Let ∷ ws) (bind i by_let p t u) rest
    mut_in : {x : Text} {i : ℕ} {p : Pattern} {t u : Tree} {ws rest : List Word} → Binding ws p t u rest → Term (Fixed x i Mut ∷ ws) (bind i by_mut p t u) rest
    set_in : {x : Text} {i : ℕ} {p : Pattern} {t u : Tree} {ws rest : List Word} → Binding ws p t u rest → Term (Fixed x i Set ∷ ws) (bind i by_set p t u) rest
    using_in : {x y : Text} {i j : ℕ} {p : Pattern} {t : Tree} {ws vs rest : List Word} → Binds ws p (Fixed y j In ∷ vs) → Term vs t rest → Term (Fixed x i Using ∷ ws) (prepare i p t) rest
    if_else : {x y z : Text} {i j k : ℕ} {t u v : Tree} {ws vs us rest : List Word} → Term ws t (Fixed y j Then ∷ vs) → Term vs u (Fixed z k Else ∷ us) → Term us v rest → Term (Fixed x i If ∷ ws) (choose i t u v) rest
    plain_term : {t : Tree} {ws rest : List Word} → Plain ws t rest → Term ws t rest

  -- pattern = term in term
  pub data Binding : List Word → Pattern → Tree → Tree → List Word → Type 0 where
    binding : {x y : Text} {i j : ℕ} {p : Pattern} {t u : Tree} {ws vs us rest : List Word} → Binds ws p (Fixed x i Equals ∷ vs) → Term vs t (Fixed y j In ∷ us) → Term us u rest → Binding ws p t u rest

  pub data Plain : List Word → Tree → List Word → Type 0 where
    is_zero : {x : Text} {i : ℕ} {ws : List Word} → Plain (Fixed x i Zero ∷ ws) (constant i zero_bit) ws
    is_one : {x : Text} {i : ℕ} {ws : List Word} → Plain (Fixed x i One ∷ ws) (constant i one_bit) ws
    is_number : {x : Text} {i n : ℕ} {ws : List Word} → Plain (Number x i n ∷ ws) (constant i (number n)) ws
    is_name : {x : Text} {i : ℕ} {ws : List Word} → Plain (Name x i ∷ ws) (named (identifier x i)) ws
    is_call : {x y : Text} {i j : ℕ} {ts : Trees} {ws rest : List Word} → Arguments ws ts rest → Plain (Name x i ∷ Fixed y j Open ∷ ws) (call (identifier x i) ts) rest
    is_meas : {x y z : Text} {i j k : ℕ} {t : Tree} {ws rest : List Word} → Term ws t (Fixed z k Close ∷ rest) → Plain (Fixed x i Meas ∷ Fixed y j Open ∷ ws) (meas i t) rest
    is_gate : {x y : Text} {i j : ℕ} {g : gates.Gate} {ts : Trees} {ws rest : List Word} → Terms ws ts rest → Plain (Gate x i g ∷ Fixed y j Open ∷ ws) (apply i g ts) rest
    is_unit : {x y : Text} {i j : ℕ} {ws : List Word} → Plain (Fixed x i Open ∷ Fixed y j Close ∷ ws) (constant i unit) ws
    is_group : {x y : Text} {i j : ℕ} {t : Tree} {ws rest : List Word} → Term ws t (Fixed y j Close ∷ rest) → Plain (Fixed x i Open ∷ ws) t rest
    is_tuple : {x y : Text} {i j : ℕ} {t : Tree} {us : Trees} {ws vs rest : List Word} → Term ws t (Fixed y j Comma ∷ vs) → Terms vs us rest → Plain (Fixed x i Open ∷ ws) (tuple i (t ∷ᵗ us)) rest

  -- the arguments of a call, and the parenthesis that ends them
  pub data Arguments : List Word → Trees → List Word → Type 0 where
    no_arguments : {x : Text} {i : ℕ} {ws : List Word} → Arguments (Fixed x i Close ∷ ws) no_trees ws
    some_arguments : {ts : Trees} {ws rest : List Word} → Terms ws ts rest → Arguments ws ts rest

  -- term {, term} )
  pub data Terms : List Word → Trees → List Word → Type 0 where
    some_terms : {t : Tree} {ts : Trees} {ws vs rest : List Word} → Term ws t vs → More vs ts rest → Terms ws (t ∷ᵗ ts) rest

  -- {, term} )
  pub data More : List Word → Trees → List Word → Type 0 where
    more_end : {x : Text} {i : ℕ} {ws : List Word} → More (Fixed x i Close ∷ ws) no_trees ws
    more_next : {x : Text} {i : ℕ} {ts : Trees} {ws rest : List Word} → Terms ws ts rest → More (Fixed x i Comma ∷ ws) ts rest

-- op name ( parameters ) : type { term }
pub data Declares : List Word → Operation → List Word → Type 0 where
  declares : {x y z a b c : Text} {i j k l m n : ℕ} {ds : List Parameter} {τ : Written} {t : Tree} {ws vs us rest : List Word} → Parameters ws ds (Fixed a l Colon ∷ vs) → Writes vs τ (Fixed b m LeftBrace ∷ us) → Term us t (Fixed c n RightBrace ∷ rest) → Declares (Fixed x i Op ∷ Name y j ∷ Fixed z k Open ∷ ws) (record { place = i; name = identifier y j; parameters = ds; result = τ; body = t }) rest

-- {operation} run term
pub data Lists : List Word → List Operation → ℕ → Tree → List Word → Type 0 where
  run_term : {x : Text} {i : ℕ} {t : Tree} {ws rest : List Word} → Term ws t rest → Lists (Fixed x i Run ∷ ws) [] i t rest
  operation_first : {o : Operation} {os : List Operation} {i : ℕ} {t : Tree} {ws vs rest : List Word} → Declares ws o vs → Lists vs os i t rest → Lists ws (o ∷ os) i t rest

-- the words are that listing
abbrev pub Listing : List Word → Program → Type 0
Listing ws l = Lists ws l.operations l.run_place l.main []

-- some words complete these to a listing
abbrev pub Begins : List Word → Type 0
Begins ws = (rest : List Word) × (l : Program) × Listing (ws ++ rest) l

-- the word at i continues some listing
abbrev pub Continues : List Word → ℕ → Type 0
Continues ws i = Begins (take (i + 1) ws)

-- The words are no listing, and the word at p is the first that continues none; or every word continues some listing, and p is their number.
abbrev pub Refused : List Word → ℕ → Type 0
Refused ws p = (p ≤ length ws) × ((i : ℕ) → i < p → Continues ws i) × (p < length ws → Continues ws p → ⊥) × ((l : Program) → Listing ws l → ⊥)
