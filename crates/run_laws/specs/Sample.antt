-- A listing and its program: an operation that measures its qbit, and
-- run using q in let b = f (q) in mut y = 0 in set y = b in y
use Rattle.std.specs.Prelude.{◌≡◌, ℕ, ◌≤◌, true, false, List, [], ◌∷◌, nat_eq, slice_index, slice_index_or}
use Rattle.grammar.specs.declared.tree.Range.{Range}
use Rattle.grammar.specs.declared.tree.Binder.TheVariants.{Let, Mut, Set}
use Rattle.programs.specs.declared.program.Leaf.TheVariants.{Bit}
use Rattle.programs.specs.declared.program.Act.TheVariants.{Meas, Call}
use Rattle.programs.specs.declared.program.Node.{Node}
use Rattle.programs.specs.declared.program.Node.TheVariants.{Place as NoTerm, Target, Constant, Use, Built, Bind, Using}
use Rattle.calculus.specs.Syntax.{bit, qbit, no_types, ◌∷ᵗ◌, var, bit_of, one, meas, call, Op, Term, give, name, build, bind, mut, set, using_in, no_terms, ◌∷ˢ◌}
use Rattle.run_laws.specs.Programs.{IsNoTerm}
use Rattle.run_laws.specs.Whole.{Compiled}

abbrev pub from_to : ℕ → ℕ → Range
from_to a z = record { first = a; end = z }

abbrev pub sample_nodes : List Node
sample_nodes =
    Use 2 ∷ Built Meas (from_to 0 1) ∷ NoTerm false
    ∷ Use 14 ∷ Built (Call 0) (from_to 1 2) ∷ Constant (Bit false) ∷ Use 12 ∷ Use 10
    ∷ Target 10 ∷ Bind Set (from_to 8 9) 6 7
    ∷ NoTerm true ∷ Bind Mut (from_to 10 11) 5 9
    ∷ NoTerm false ∷ Bind Let (from_to 12 13) 4 11
    ∷ NoTerm false ∷ Using (from_to 14 15) 13 ∷ []

abbrev pub sample_node : ℕ → Node
sample_node i = slice_index_or sample_nodes i (NoTerm false)

abbrev pub sample_op : Op
sample_op = record { params = 2 ∷ []; types = qbit ∷ᵗ no_types; result = bit; body = build 1 meas (name 0 (var 2) ∷ˢ no_terms) }

abbrev pub sample_run : Term
sample_run = using_in 15 (one 14)
    (bind 13 (one 12) (build 4 (call 0) (name 3 (var 14) ∷ˢ no_terms)) (mut 11 (one 10) (give 5 (bit_of false)) (set 9 (one (var 10)) (name 6 (var 12)) (name 7 (var 10)))))

-- here the place of each node is its own number
abbrev pub Sample : Type 0
Sample = (past : (i : ℕ) → 16 ≤ i → IsNoTerm (sample_node i)) × Compiled (sample_op ∷ []) sample_run bit (record {
  node = sample_node;
  part = λ i. slice_index (0 ∷ 3 ∷ []) i;
  place = λ i. i;
  root = λ f. slice_index_or (record { body = 1; names = from_to 2 3 } ∷ []) f (record { body = 0; names = from_to 0 0 });
  mut_name = nat_eq 10;
  size = 16;
  parts = 2;
  past = past;
}) 15
