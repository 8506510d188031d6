use Rattle.std.proofs.Common.{◌≡◌, ◌+◌, ◌-◌, ◌<◌, length, drop, take, get_or, refl, sym, ap, subst, ◌∙◌, arith, Err, Ok}
use Rattle.std.proofs.lemmas.List.{length-drop, length-take, get_or-drop, get_or-take}
use Rattle.grammar.specs.declared.parse.Stop.TheVariants.{Memory}
use Rattle.grammar.specs.Arena.{node}
use Rattle.grammar.specs.declared.tree.Construct.TheVariants.{Named}
use Rattle.grammar.specs.declared.tree.Parameter.{Parameter}
use Rattle.grammar.specs.Parsing.{parameters_of}
use Rattle.grammar.specs.Reading as reading
use Rattle.grammar.specs.Reading.{Lacks}
use Rattle.grammar.proofs.Growth.{by}
use Rattle.grammar.proofs.Exits.{sized}
use Rattle.grammar.proofs.Headers as h
use Rattle.grammar.proofs.Headers.{with_nodes}
use Rattle.grammar.proofs.tree.Tree.name_parameters.Goals as goal

pub returns-in_err-push : goal.returns-in_err-push
returns-in_err-push c =
    let l = c.loop-parameter in
    let xs = c.as_slice.result.now in
    let at = c.args.first + l.parameter-index in
    let below : at < length (parameters_of c.args.self.now) = omega (arith, c.loop-parameter-test.true, length-take (length xs - c.args.first) (drop c.args.first xs), length-drop c.args.first xs, ap length c.as_slice.ensures.value) in
    let u = with_nodes c.args.self.now c.push.new.self in
    by (reading.ParametersNamed c.args.first c.args.self.now u) Memory (l.invariant at refl u (Err Memory) (h.not_named at (with_nodes c.args.self.now l.self.1.0) u below Memory (λ s. omega (arith, s, c.in_err-push.ensures.full, sized l.self.1.0)))) c.from_residual.result c.from_residual.ensures.1

pub loop-parameter-preserved : goal.loop-parameter-preserved
loop-parameter-preserved c =
    let l = c.loop-parameter in
    let xs = c.as_slice.result.now in
    let first = c.args.first in
    let at = first + l.parameter-index in
    let e = c.in_ok-push.ensures in
    let d : Parameter = record { name = record { place = 0; span = 0 }; written = 0 } in
    let within : l.parameter-index < length xs - first = omega (arith, c.loop-parameter-test.true, length-take (length xs - first) (drop first xs), length-drop first xs) in
    let below : at < length (parameters_of c.args.self.now) = omega (arith, within, ap length c.as_slice.ensures.value) in
    let n = (get_or (take (length xs - first) (drop first xs)) l.parameter-index d).name in
    let same : (get_or (parameters_of c.args.self.now) at d).name ≡ n = ap (λ x. x.name) (sym (get_or-take (length xs - first) (drop first xs) l.parameter-index d within ∙ get_or-drop first xs l.parameter-index d ∙ ap (λ ys. get_or ys at d) c.as_slice.ensures.value)) in
    let s = sized l.self.1.0 in
    let added = h.pushed c.args.self.now l.self.1.0 c.push.new.self (node n.place (Named n)) (omega (arith, e.len, s, sized c.push.new.self)) e.capacity (λ k z q. e.by_index.0 k z (omega (arith, q, s))) (λ z. ap (λ i. get_or c.push.new.self.items i z) (sym s) ∙ e.by_index.1 z refl) in
    λ j q v r k. l.invariant at refl v r (h.next_named at (with_nodes c.args.self.now l.self.1.0) (with_nodes c.args.self.now c.push.new.self) below n d _ v r same added (subst (λ i. reading.ParametersNamed i (with_nodes c.args.self.now c.push.new.self) v r) (q ∙ omega arith) k))

pub returns : goal.returns
returns c =
    let l = c.loop-parameter in
    let xs = c.as_slice.result.now in
    let first = c.args.first in
    let t = with_nodes c.args.self.now l.self.1.0 in
    let size = length-take (length xs - first) (drop first xs) in
    let rest = length-drop first xs in
    let whole = ap length c.as_slice.ensures.value in
    l.invariant (first + l.parameter-index) refl t (Ok tt) (h.all_named (first + l.parameter-index) t (omega (arith, c.loop-parameter-test.false, size, rest, whole)) (omega (arith, l.auto.parameter-index-end, size, rest, whole, c.requires.within)))
