-- One walk over a listing in the order of its words: the first refusal, or the type.
-- The names in scope are kept in two lists, the innermost name first. `out` has those that stand outside the innermost mut or set right side: no linear one of them may be
-- spent. `s` has the others; only their spent marks change.
use Rattle.std.specs.Prelude.{ℕ, zero, suc, Bool, true, false, cond, not, ◌&&◌, ◌||◌, List, [], ◌∷◌, ◌++◌, map, length, take, nat_lt}
use Rattle.std.specs.Bool.{beq}
use Rattle.std.proofs.Math.Option.{Option, none, some}
use Rattle.std.specs.Str.{bytes_eq}
use Rattle.machine.specs.Orders.{width}
use Rattle.syntax.specs.Trees.{Identifier, Pattern, one, several, Constant, unit as unit_constant, zero_bit, one_bit, number as number_constant, by_let, by_mut, by_set}
use Rattle.syntax.specs.Trees.{Tree, constant, named, call, meas, apply, tuple as tuple_tree, bind, prepare, choose, Trees, no_trees, ◌∷ᵗ◌ as ◌∷ᵉ◌, Parameter, Operation, Program}
use Rattle.calculus.specs.Syntax.{Ty, unit, bit, int, qbit, tuple, Tys, no_types, ◌∷ᵗ◌, linear}
use Rattle.calculus.specs.Rules.{qbits, together, nth}
use Rattle.questions.specs.Names.{first_of, find, among, position}
use Rattle.questions.specs.Types.{same, same_all, as_type, few, too_wide}
use Rattle.questions.specs.Questions.{few_leaves, is_new, is_known, is_above, is_unspent, is_inside, types_fit, is_settable, branches_agree, all_spent}
use Rattle.questions.specs.Questions.{Known, Verdict, typed, next, asks, given, unless}

-- an operation as its callers know it
pub record Signature : Type 0 where
  pub name : List ℕ
  pub types : Tys
  pub result : Ty

abbrev pub op_names : List Signature → List (List ℕ)
op_names ops = map (λ (o : Signature). o.name) ops

abbrev pub bytes_of : Known → List ℕ
bytes_of k = k.name.bytes

abbrev pub names_of : List Known → List (List ℕ)
names_of s = map bytes_of s

abbrev pub identifiers : Pattern → List Identifier
identifiers (one i) = i ∷ []
identifiers (several is) = is

abbrev pub constant_type : Constant → Ty
constant_type unit_constant = unit
constant_type zero_bit = bit
constant_type one_bit = bit
constant_type (number_constant n) = int

-- no new name: that of an operation, or of a name in scope
abbrev pub taken : List ℕ → List (List ℕ) → List (List ℕ) → Bool
taken b ops names = among b ops || among b names

-- the place of the first of the names that is not new
abbrev pub first_taken : List (List ℕ) → List (List ℕ) → List Identifier → Option ℕ
first_taken ops names [] = none
first_taken ops names (i ∷ is) = cond (taken i.bytes ops names) (some i.place) (first_taken ops (i.bytes ∷ names) is)

-- a linear name that is not spent
abbrev pub open_name : Known → Bool
open_name k = linear k.type && not k.spent

abbrev pub spend : Known → Known
spend k = record { name = k.name; type = k.type; settable = k.settable; spent = true }

-- the name, where it is in the list, becomes spent; of two, the outer one
abbrev pub mark : List ℕ → List Known → List Known
mark b [] = []
mark b (k ∷ s) = cond (among b (names_of s)) (k ∷ mark b s) (cond (bytes_eq (bytes_of k) b) (spend k ∷ s) (k ∷ s))

-- a name is used: a linear one is spent
abbrev pub use_name : List Known → List Known → Identifier → Verdict Ty
use_name out s i =
    given is_known i.place (find bytes_of i.bytes (s ++ out)) (λ k. cond (linear k.type)
    (asks is_unspent i.place (not k.spent) (asks is_inside i.place (not (among i.bytes (names_of out))) (typed k.type (mark i.bytes s))))
    (typed k.type s))

-- the types of the names of a pattern: the type of the right side, or its parts, one for each name
abbrev pub one_each : List Identifier → Tys → Bool
one_each [] no_types = true
one_each [] (T ∷ᵗ Ts) = false
one_each (i ∷ is) no_types = false
one_each (i ∷ is) (T ∷ᵗ Ts) = one_each is Ts

abbrev pub parts_for : List Identifier → Ty → Option Tys
parts_for is unit = none
parts_for is bit = none
parts_for is int = none
parts_for is qbit = none
parts_for is (tuple Ts) = cond (one_each is Ts) (some Ts) none

abbrev pub spread : Pattern → Ty → Option Tys
spread (one i) T = some (T ∷ᵗ no_types)
spread (several is) T = parts_for is T

-- the names come into scope, from left to right
abbrev pub bring : Bool → List Identifier → Tys → List Known → List Known
bring may_set [] Ts s = s
bring may_set (i ∷ is) no_types s = s
bring may_set (i ∷ is) (T ∷ᵗ Ts) s = bring may_set is Ts (record { name = i; type = T; settable = may_set; spent = false } ∷ s)

abbrev pub outer : List Known → List Known
outer [] = []
outer (k ∷ s) = s

-- the innermost n names leave the scope
abbrev pub without : ℕ → List Known → List Known
without zero s = s
without (suc n) s = outer (without n s)

abbrev pub open_first : List Known → Option ℕ
open_first [] = none
open_first (k ∷ s) = cond (open_name k) (some k.name.place) none

-- the place of the first, from left to right, of the innermost n names that is linear and not spent
abbrev pub first_open : ℕ → List Known → Option ℕ
first_open zero s = none
first_open (suc n) s = first_of (open_first (without n s)) (first_open n s)

-- the end of the scope of n names
abbrev pub close : ℕ → Ty → List Known → Verdict Ty
close n T s = unless all_spent (first_open n s) (typed T (without n s))

-- the names of a set pattern: not named twice, in scope, bound by mut
abbrev pub targets : List Known → List (List ℕ) → List Identifier → Verdict Tys
targets names earlier [] = typed no_types names
targets names earlier (i ∷ is) =
    asks is_new i.place (not (among i.bytes earlier))
    (given is_known i.place (find bytes_of i.bytes names) (λ k.
    asks is_settable i.place k.settable (next (targets names (i.bytes ∷ earlier) is) (λ Ts names'. typed (k.type ∷ᵗ Ts) names'))))

-- the same linear names are left unspent
abbrev pub agree : List Known → List Known → Bool
agree [] [] = true
agree [] (l ∷ r) = false
agree (k ∷ s) [] = false
agree (k ∷ s) (l ∷ r) = beq (open_name k) (open_name l) && agree s r

-- ops are the operations of the listing; the first `above` of them stand above.
-- The names of a pattern are asked before the right side, and are in scope in the second term alone. To the right side of a mut or a set all names in scope are outside.
-- Both branches of an if start from what the condition left. A construct's own question comes after those of its parts.
module _ (ops : List Signature) (above : ℕ) where
  abbrev mutual
    pub ask : List Known → List Known → Tree → Verdict Ty
    ask out s (constant p c) = typed (constant_type c) s
    ask out s (named i) = use_name out s i
    ask out s (call i ts) =
        given is_known i.place (position i.bytes (op_names ops)) (λ f. given is_known i.place (nth ops f) (λ o.
        asks is_above i.place (nat_lt f above) (next (ask_all out s ts) (λ Ts s'. asks types_fit i.place (same_all Ts o.types) (typed o.result s')))))
    ask out s (meas p t) = next (ask out s t) (λ T s'. asks types_fit p (same T qbit) (typed bit s'))
    ask out s (apply p g ts) = next (ask_all out s ts) (λ Ts s'. asks types_fit p (same_all Ts (qbits (width g))) (typed (together Ts) s'))
    ask out s (tuple_tree p ts) = next (ask_all out s ts) (λ Ts s'. asks few_leaves p (few Ts) (typed (tuple Ts) s'))
    ask out s (bind p by_let xs e t) =
        unless is_new (first_taken (op_names ops) (names_of (s ++ out)) (identifiers xs))
        (next (ask out s e) (λ T s'. given types_fit p (spread xs T) (λ Ts.
        next (ask out (bring false (identifiers xs) Ts s') t) (λ U s₂. close (length (identifiers xs)) U s₂))))
    ask out s (bind p by_mut xs e t) =
        unless is_new (first_taken (op_names ops) (names_of (s ++ out)) (identifiers xs))
        (next (ask (s ++ out) [] e) (λ T s'. asks types_fit p (not (linear T)) (given types_fit p (spread xs T) (λ Ts.
        next (ask out (bring true (identifiers xs) Ts s) t) (λ U s₂. close (length (identifiers xs)) U s₂)))))
    ask out s (bind p by_set xs e t) =
        next (targets (s ++ out) [] (identifiers xs)) (λ Us names. next (ask (s ++ out) [] e) (λ T s'. given types_fit p (spread xs T) (λ Ts.
        asks types_fit p (same_all Ts Us) (ask out s t))))
    ask out s (prepare p xs t) =
        unless is_new (first_taken (op_names ops) (names_of (s ++ out)) (identifiers xs))
        (next (ask out (bring false (identifiers xs) (qbits (length (identifiers xs))) s) t) (λ U s₂. close (length (identifiers xs)) U s₂))
    ask out s (choose p c t u) =
        next (ask out s c) (λ T s'. asks types_fit p (same T bit) (next (ask out s' t) (λ U s₁. next (ask out s' u) (λ V s₂.
        asks types_fit p (same U V) (asks branches_agree p (agree s₁ s₂) (typed U s₁))))))

    -- the parts, from left to right
    pub ask_all : List Known → List Known → Trees → Verdict Tys
    ask_all out s no_trees = typed no_types s
    ask_all out s (t ∷ᵉ ts) = next (ask out s t) (λ T s'. next (ask_all out s' ts) (λ Ts s₂. typed (T ∷ᵗ Ts) s₂))

abbrev pub parameter_names : List Parameter → List Identifier
parameter_names ps = map (λ (p : Parameter). p.name) ps

abbrev pub parameter_types : List Parameter → Tys
parameter_types [] = no_types
parameter_types (p ∷ ps) = as_type p.written ∷ᵗ parameter_types ps

abbrev pub signature : Operation → Signature
signature o = record { name = o.name.bytes; types = parameter_types o.parameters; result = as_type o.result }

abbrev pub signatures : List Operation → List Signature
signatures os = map signature os

-- each parameter's name, then its type; they come into scope
abbrev pub parameters : List (List ℕ) → List Known → List Parameter → Verdict Tys
parameters ops s [] = typed no_types s
parameters ops s (p ∷ ps) =
    asks is_new p.name.place (not (taken p.name.bytes ops (names_of s))) (unless few_leaves (too_wide p.written)
    (next (parameters ops (record { name = p.name; type = as_type p.written; settable = false; spent = false } ∷ s) ps) (λ Ts s'. typed (as_type p.written ∷ᵗ Ts) s')))

-- the operation with so many above it: its name, parameters and result, then its body, the end of the parameters' scope, and the type of the body
abbrev pub operation : List Signature → ℕ → Operation → Verdict Ty
operation ops above o =
    asks is_new o.name.place (not (among o.name.bytes (take above (op_names ops))))
    (next (parameters (op_names ops) [] o.parameters) (λ Ts s. unless few_leaves (too_wide o.result)
    (next (ask ops above [] s o.body) (λ T s₂. next (close (length (parameter_names o.parameters)) T s₂) (λ U s₃. asks types_fit o.place (same U (as_type o.result)) (typed U s₃))))))

-- the operations from the top
abbrev pub operations : List Signature → ℕ → List Operation → Verdict Tys
operations ops above [] = typed no_types []
operations ops above (o ∷ os) = next (operation ops above o) (λ T s. next (operations ops (suc above) os) (λ Ts s'. typed (T ∷ᵗ Ts) s'))

-- the operations, then the term to run
abbrev pub verdict : Program → Verdict Ty
verdict p = next (operations (signatures p.operations) 0 p.operations) (λ Ts s. ask (signatures p.operations) (length p.operations) [] [] p.main)
