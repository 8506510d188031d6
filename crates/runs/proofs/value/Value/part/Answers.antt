use Rattle.std.proofs.Common.{◌≡◌, ℕ, ◌+◌, ◌-◌, ◌<◌, ◌≤◌, min, List, [], ◌++◌, length, take, drop, sym, ap, ◌∙◌, ⊎_elim, arith, length-drop, length-take, slice_range}
use Rattle.std.proofs.lemmas.List.{drop_all, take_all, take_rest, take_min, drop_min, drop-take}
use Rattle.std.proofs.lemmas.Bool.{cases_lt}
use Rattle.runs.specs.Items.{roomy}
use Rattle.runs.specs.declared.value.Item.{Item}
use Rattle.runs.proofs.value.Value.part.Goals as goal

cut_front : (h : List Item) (first end : ℕ) → drop first (take end h) ≡ take (end - first) (drop first h)
cut_front h first end =
    ⊎_elim
    (λ (lt : end < first).
    let l = length-take end h in
    let z : end - first ≡ 0 = omega arith in drop_all first (take end h) (omega arith) ∙ ap (λ k. take k (drop first h)) (sym z))
    (λ (ge : first ≤ end). let z : first + (end - first) ≡ end = omega arith in ap (λ k. drop first (take k h)) (sym z) ∙ drop-take first (end - first) h)
    (cases_lt end first)

-- the items of a part, cut at its end and then at its front
part_cut : (h empty p : List Item) (first end front back : ℕ) → length h ≤ 15 → empty ≡ [] → back ≡ min end (length h) → front ≡ min first (length (take back h)) →
    p ≡ roomy (empty ++ take (length (take back h) - front) (drop front (take back h))) → p ≡ take (end - first) (drop first h)
part_cut h empty p first end front back few none b f e =
    let cut : drop front (take back h) ≡ take (end - first) (drop first h) =
    ap (λ k. drop k (take back h)) f ∙ drop_min first (take back h) ∙ ap (λ k. drop first (take k h)) b ∙ ap (drop first) (take_min end h) ∙ cut_front h first end in
    let n = length-take (end - first) (drop first h) in
    let d = length-drop first h in
    e ∙ ap (λ l. roomy (l ++ take (length (take back h) - front) (drop front (take back h)))) none ∙ ap roomy (take_rest (take back h) front ∙ cut)
    ∙ take_all 15 (take (end - first) (drop first h)) (omega arith)

pub returns : goal.returns
returns c =
    part_cut c.as_slice-items.result.now _ _ c.args.first c.args.end c.min-2.result c.min.result c.as_slice-items.ensures.few c.empty-part.ensures c.min.ensures c.min-2.ensures c.push_all.ensures
    ∙ ap (λ h. slice_range h c.args.first c.args.end) c.as_slice-items.ensures.items
