-- The cases of what a word is.
use Rattle.std.proofs.Common.{◌≡◌, ℕ, Bool, true, false, cond, List, Some, None, Option, sym, refl, ap, ◌∙◌}
use Rattle.std.specs.Str.Parse.{digits_value}
use Rattle.machine.specs.declared.order.Gate.{Gate}
use Rattle.words.specs.declared.token.Kind.{Kind}
use Rattle.words.specs.Spellings.{kinds, gates, lookup}
use Rattle.words.specs.Words.{Sort, name, number, gate, fixed, found, good_number, good_name, sort_of}

numbers : (b : Bool) (v : ℕ) (o : Option ℕ) (other : Option Sort) → o ≡ cond b (Some v) None → cond b (Some (number v)) other ≡ found number o other
numbers true v o other e = ap (λ p. found number p other) (sym e)
numbers false v o other e = ap (λ p. found number p other) (sym e)

-- the answers of the two tables and of the two tests settle it
settled : (w : List ℕ) (k : Option Kind) (g : Option Gate) (n : Option ℕ) (b : Bool) → k ≡ lookup w kinds → g ≡ lookup w gates → n ≡ cond (good_number w) (Some (digits_value 10 w)) None → b ≡ good_name w → sort_of w ≡ found fixed k (found gate g (found number n (cond b (Some name) None)))
unfolding sort_of
settled w k g n b ek eg en eb =
    (λ i. found fixed (sym ek i) (found gate (sym eg i) (cond (good_number w) (Some (number (digits_value 10 w))) (cond (sym eb i) (Some name) None))))
    ∙ ap (λ o. found fixed k (found gate g o)) (numbers (good_number w) (digits_value 10 w) n (cond b (Some name) None) en)

module _ (w : List ℕ) where
  pub of_kind : (k : Kind) → Some k ≡ lookup w kinds → sort_of w ≡ Some (fixed k)
  of_kind k e = settled w (Some k) (lookup w gates) _ (good_name w) e refl refl refl

  module _ (kindless : None ≡ lookup w kinds) where
    pub of_gate : (g : Gate) → Some g ≡ lookup w gates → sort_of w ≡ Some (gate g)
    of_gate g e = settled w None (Some g) _ (good_name w) kindless e refl refl

    module _ (gateless : None ≡ lookup w gates) where
      pub of_number : (n : ℕ) → Some n ≡ cond (good_number w) (Some (digits_value 10 w)) None → sort_of w ≡ Some (number n)
      of_number n e = settled w None None (Some n) (good_name w) kindless gateless e refl

      module _ (no_number : None ≡ cond (good_number w) (Some (digits_value 10 w)) None) where
        pub of_name : true ≡ good_name w → sort_of w ≡ Some name
        of_name e = settled w None None None true kindless gateless no_number e

        pub of_none : false ≡ good_name w → sort_of w ≡ None
        of_none e = settled w None None None false kindless gateless no_number e
