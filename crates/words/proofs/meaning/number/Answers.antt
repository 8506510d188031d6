use Rattle.std.proofs.Common.{◌≡◌, sym, ◌∙◌, rules}
use Rattle.std.proofs.lemmas.Iterator.{YieldsList-from_slice}
use Rattle.words.proofs.Numerals.{extended, number_is, good}
use Rattle.words.proofs.meaning.number.Goals as goal

pub returns : goal.returns
returns c =
    let ran = c.try_fold.ensures.ran in
    let is =
    number_is _ (λ p x q t. let e : t.0 ≡ extended p.1 x.now = search rules in sym t.2 ∙ e) c.args.text.now (YieldsList-from_slice c.args.text.now cc) _ ran.0 (ran.2, ran.3) ran.5 _ ran.1 ran.4 _ _ ran.6 c.try_fold.result
    (λ h. h) (λ x h. let e : h.0 ≡ extended ran.3 x.now = search rules in (sym h.4 ∙ e, h.5)) in
    is ∙ good c.args.text.now (sym c.if-not-has_no_leading_zero.ensures)
