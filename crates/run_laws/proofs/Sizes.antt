-- A value of at most 8 leaves, whose tuples have two parts or more, has at most 15 items.
use Rattle.std.proofs.Common.{◌≡◌, ℕ, suc, ◌+◌, ◌-◌, ◌≤◌, List, [], ◌∷◌, length, take, ap, ◌∙◌, arith}
use Rattle.std.proofs.lemmas.List.{length-take-le, length-reverse}
use Rattle.grammar.specs.declared.tree.Range.{Range}
use Rattle.programs.specs.declared.program.Act.TheVariants.{Tuple}
use Rattle.programs.specs.declared.program.Node.TheVariants.{Built}
use Rattle.calculus.specs.Syntax.{leaves, leaves_all, Value, the_unit, bit_of, int_of, handle_of, tuple_of, Values, no_values, ◌∷ᵛ◌, type_of, types_of, flat, tupling, Op, Term}
use Rattle.calculus.specs.Rules.{most_leaves}
use Rattle.calculus.specs.Steps.{Table, around, handle_values}
use Rattle.calculus.proofs.Typing.{leaves_counted}
use Rattle.run_laws.specs.Programs.{Code, PairedTuples}
use Rattle.run_laws.specs.Reads.{Frame, collect, items, Ready, Typed}
use Rattle.run_laws.specs.Sizes.{size, size_all, Paired, PairedAll, most_items}
use Rattle.run_laws.proofs.Parts.{collect_order, tuple_fits}

mutual
  pub small : (v : Value) → Paired v → suc (size v) ≤ leaves (type_of v) + leaves (type_of v)
  small the_unit p = omega arith
  small (bit_of b) p = omega arith
  small (int_of n) p = omega arith
  small (handle_of h) p = omega arith
  small (tuple_of vs) p = omega (arith, p.0, small_all vs p.1)

  pub small_all : (vs : Values) → PairedAll vs → size_all vs + length (items vs) ≤ leaves_all (types_of vs) + leaves_all (types_of vs)
  small_all no_values p = omega arith
  small_all (v ∷ᵛ vs) p = omega (arith, small v p.0, small_all vs p.1)

pub few_items : (v : Value) → Paired v → length (flat v) ≤ most_leaves → size v ≤ most_items
few_items v p l = omega (arith, l, small v p, leaves_counted v)

-- handles are leaves
pub paired_handles : (hs : List ℕ) → PairedAll (handle_values hs)
paired_handles [] = tt
paired_handles (h ∷ hs) = (tt, paired_handles hs)

pub tuple_small : {ops : List Op} {P : Code} {T : List Value} {μ : Table} {fs : List Frame} {all : List Value} {L : Term} {k lim : ℕ} {r : Range} → PairedTuples P → P.node k ≡ Built Tuple r →
    Typed ops lim (around μ) L → Ready P T μ fs k tupling (r.end - r.first) all L → PairedAll (collect (take (r.end - r.first) all) no_values) →
    Paired (tuple_of (collect (take (r.end - r.first) all) no_values)) × (size (tuple_of (collect (take (r.end - r.first) all) no_values)) ≤ most_items)
tuple_small {all = all} {k = k} {r = r} pt q ty rd ps =
    let n = r.end - r.first in
    let vs = collect (take n all) no_values in
    let many : length (items vs) ≡ n = ap length (collect_order (take n all)) ∙ length-reverse (take n all) ∙ length-take-le n all rd.enough in
    let two : 2 ≤ length (items vs) = omega (arith, many, pt k r q) in
    ((two, ps), few_items (tuple_of vs) (two, ps) (tuple_fits ty rd))
