-- The syntax trees of listings. A place is the byte at which a word begins; a construct has the place of its first word.
use Rattle.std.specs.Prelude.{ℕ, List}
use Rattle.machine.specs.declared.order.Gate.{Gate}

-- a name as it is written: its bytes and its place
pub record Identifier : Type 0 where
  pub bytes : List ℕ
  pub place : ℕ

pub data Pattern : Type 0 where
  one : Identifier → Pattern
  several : List Identifier → Pattern

pub data Basic : Type 0 where
  unit_type : Basic
  bit_type : Basic
  int_type : Basic
  qbit_type : Basic

-- Types as they are written. Each has its place first; a tuple's is that of its opening parenthesis.
mutual
  pub data Written : Type 0 where
    basic : ℕ → Basic → Written
    tuple_type : ℕ → Writtens → Written

  pub data Writtens : Type 0 where
    no_types : Writtens
    ◌∷ʷ◌ : Written → Writtens → Writtens

infixr 5 ◌∷ʷ◌
pub data Constant : Type 0 where
  unit : Constant
  zero_bit : Constant
  one_bit : Constant
  number : ℕ → Constant

-- how the names of a pattern are bound: by let, mut or set
pub data Binder : Type 0 where
  by_let : Binder
  by_mut : Binder
  by_set : Binder

-- Each term has its place first; the place of a name or a call is that of the name.
mutual
  pub data Tree : Type 0 where
    constant : ℕ → Constant → Tree
    named : Identifier → Tree
    call : Identifier → Trees → Tree
    meas : ℕ → Tree → Tree
    apply : ℕ → Gate → Trees → Tree
    tuple : ℕ → Trees → Tree
    bind : ℕ → Binder → Pattern → Tree → Tree → Tree
    prepare : ℕ → Pattern → Tree → Tree
    choose : ℕ → Tree → Tree → Tree → Tree

  pub data Trees : Type 0 where
    no_trees : Trees
    ◌∷ᵗ◌ : Tree → Trees → Trees

infixr 5 ◌∷ᵗ◌
pub record Parameter : Type 0 where
  pub name : Identifier
  pub written : Written

-- the place of op, the name, the parameters, the type of the result and the body
pub record Operation : Type 0 where
  pub place : ℕ
  pub name : Identifier
  pub parameters : List Parameter
  pub result : Written
  pub body : Tree

-- a listing: its operations in order, the place of run, and the term after it
pub record Program : Type 0 where
  pub operations : List Operation
  pub run_place : ℕ
  pub main : Tree
