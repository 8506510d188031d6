-- The laws of the words of a listing.
use Rattle.std.proofs.Common.{◌≡◌, ℕ, zero, suc, ◌+◌, ◌<◌, ◌≤◌, true, false, cond, List, [], ◌∷◌, ◌++◌, length, take, drop, Some, None, Option, sym, refl, ap, ◌∙◌, subst, inl, inr, ⊎_elim, append_assoc, add-zero, arith, length-append, take-append-drop, length-take-le}
use lib.Seq.{take-append_seam, drop-append_seam}
use Rattle.std.specs.List.{prefix_len, AllByRecursion}
use Rattle.std.proofs.lemmas.List.Sums.{prefix_len-le-length}
use Rattle.std.proofs.lemmas.Bool.{cases_Bool, cond_both}
use Rattle.std.proofs.lemmas.Bool.Decides.{nat_tests}
use Rattle.words.specs.Bytes.{blank, inner}
use Rattle.words.specs.Words.{Sort, Item, item, Lexed, items, bad_at, before, begin, sort_of, extent, lex, words_of, Blanks, Whole, Stands, Worded, BlankEnd, BadEnd}
use Rattle.words.specs.Laws.{AcceptedExactly, RefusedExactly, Rising, Part, PlacesRise, WordsAreParts, NoMoreWordsThanBytes, BadWordsAreWithin}
use Rattle.words.proofs.Lexing.{lex_pass, lex_blank, lex_word, leading_yes, after_leading, leading_all, after, after_end, after_bad}

pub extent_le : (b : ℕ) (bs : List ℕ) → extent b bs ≤ length bs
extent_le b bs = cond_both (inner b) (prefix_len inner bs) 0 (λ n. n ≤ length bs) (λ _. prefix_len-le-length inner bs) (λ _. omega arith)

-- the first word is whole
pub whole : (b : ℕ) (bs : List ℕ) → blank b ≡ false → Whole (b ∷ take (extent b bs) bs) (drop (extent b bs) bs)
whole b bs t =
    ⊎_elim
    (λ (e : inner b ≡ true).
    subst (λ n. Whole (b ∷ take n bs) (drop n bs)) (sym (ap (λ v. cond v (prefix_len inner bs) 0) e)) (inl (omega arith, (e, leading_all inner bs), after_leading inner bs)))
    (λ (e : inner b ≡ false).
    subst (λ n. Whole (b ∷ take n bs) (drop n bs)) (sym (ap (λ v. cond v (prefix_len inner bs) 0) e)) (inr (b, refl, e, t)))
    (cases_Bool (inner b))

first : (at b : ℕ) (bs : List ℕ) → blank b ≡ false → Stands at (b ∷ bs) [] (b ∷ take (extent b bs) bs) at (drop (extent b bs) bs)
first at b bs t = (tt, ap (λ l. b ∷ l) (sym (take-append-drop (extent b bs) bs)), omega arith, whole b bs t)

-- one blank more in front
one_more : (at n : ℕ) → at + 1 + n ≡ at + suc n
one_more at n = omega arith

later : (at b : ℕ) (bs gap w : List ℕ) (p : ℕ) (rest : List ℕ) → blank b ≡ true → Stands (at + 1) bs gap w p rest → Stands at (b ∷ bs) (b ∷ gap) w p rest
later at b bs gap w p rest t h = ((t, h.0), ap (λ l. b ∷ l) h.1, h.2 ∙ one_more at (length gap), h.3)

-- the words from a place on, and what ends them
abbrev Told : Lexed → ℕ → List ℕ → Type 0
Told (items xs) at bs = Worded at bs xs BlankEnd
Told (bad_at p) at bs = (xs : List Item) × Worded at bs xs (BadEnd p)

gapped : (l : Lexed) (at b : ℕ) (bs : List ℕ) → blank b ≡ true → Told l (at + 1) bs → Told l at (b ∷ bs)
gapped (items []) at b bs t w = (t, w)
gapped (items (x ∷ xs)) at b bs t w = (b ∷ w.0, w.1, later at b bs w.0 x.bytes x.place w.1 t w.2, w.3, w.4)
gapped (bad_at p) at b bs t w = in_front w.0 w.1
  where
    in_front : (xs : List Item) → Worded (at + 1) bs xs (BadEnd p) → (ys : List Item) × Worded at (b ∷ bs) ys (BadEnd p)
    in_front [] h = ([], (b ∷ h.0, h.1, h.2, later at b bs h.0 h.2 p h.1 t h.3, h.4))
    in_front (x ∷ xs) h = (x ∷ xs, (b ∷ h.0, h.1, later at b bs h.0 x.bytes x.place h.1 t h.2, h.3, h.4))

-- one word in front
module _ (at b : ℕ) (bs : List ℕ) (t : blank b ≡ false) where
  past : at + 1 + extent b bs ≡ at + length (b ∷ take (extent b bs) bs)
  past = let long = length-take-le (extent b bs) bs (extent_le b bs) in omega arith

  worded : (o : Option Sort) (l : Lexed) → sort_of (b ∷ take (extent b bs) bs) ≡ o → Told l (at + 1 + extent b bs) (drop (extent b bs) bs) → Told (begin o (b ∷ take (extent b bs) bs) at l) at (b ∷ bs)
  worded None l is w = ([], ([], drop (extent b bs) bs, b ∷ take (extent b bs) bs, first at b bs t, is))
  worded (Some s) (items xs) is w = ([], drop (extent b bs) bs, first at b bs t, is, subst (λ n. Worded n (drop (extent b bs) bs) xs BlankEnd) past w)
  worded (Some s) (bad_at p) is w =
      (item s (b ∷ take (extent b bs) bs) at ∷ w.0, ([], drop (extent b bs) bs, first at b bs t, is, subst (λ n. Worded n (drop (extent b bs) bs) w.0 (BadEnd p)) past w.1))

told : (at k : ℕ) (bs : List ℕ) → Told (lex at k bs) (at + k) (drop k bs)
told at zero [] = tt
told at (suc k) [] = tt
told at (suc k) (b ∷ bs) = subst (λ n. Told (lex (at + 1) k bs) n (drop k bs)) (one_more at k) (told (at + 1) k bs)
told at zero (b ∷ bs) =
    subst (λ n. Told (lex at 0 (b ∷ bs)) n (b ∷ bs)) (sym (add-zero at))
    (⊎_elim
    (λ (t : blank b ≡ true).
    subst (λ l. Told l at (b ∷ bs)) (sym (lex_blank at b bs t)) (gapped (lex (at + 1) 0 bs) at b bs t (subst (λ n. Told (lex (at + 1) 0 bs) n bs) (add-zero (at + 1)) (told (at + 1) 0 bs))))
    (λ (t : blank b ≡ false).
    subst (λ l. Told l at (b ∷ bs)) (sym (lex_word at b bs t))
    (worded at b bs t (sort_of (b ∷ take (extent b bs) bs)) (lex (at + 1) (extent b bs) bs) refl (told (at + 1) (extent b bs) bs)))
    (cases_Bool (blank b)))

pub accepted : (s : List ℕ) (xs : List Item) → words_of s ≡ items xs → Worded 0 s xs BlankEnd
accepted s xs e = subst (λ l. Told l 0 s) e (told 0 0 s)

pub refused_at : (s : List ℕ) (p : ℕ) → words_of s ≡ bad_at p → (xs : List Item) × Worded 0 s xs (BadEnd p)
refused_at s p e = subst (λ l. Told l 0 s) e (told 0 0 s)

-- the same back
lex_gap : (at : ℕ) (gap bs : List ℕ) → Blanks gap → lex at 0 (gap ++ bs) ≡ lex (at + length gap) 0 bs
lex_gap at [] bs h = ap (λ n. lex n 0 bs) (sym (add-zero at))
lex_gap at (b ∷ gap) bs h = lex_blank at b (gap ++ bs) h.0 ∙ lex_gap (at + 1) gap bs h.1 ∙ ap (λ n. lex n 0 bs) (one_more at (length gap))

lex_next : (at b : ℕ) (w rest : List ℕ) → blank b ≡ false → extent b (w ++ rest) ≡ length w → lex at 0 (b ∷ (w ++ rest)) ≡ begin (sort_of (b ∷ w)) (b ∷ w) at (lex (at + length (b ∷ w)) 0 rest)
lex_next at b w rest t e =
    lex_word at b (w ++ rest) t
    ∙ ap (λ n. begin (sort_of (b ∷ take n (w ++ rest))) (b ∷ take n (w ++ rest)) at (lex (at + 1) n (w ++ rest))) e
    ∙ (λ i. begin (sort_of (b ∷ take-append_seam w rest i)) (b ∷ take-append_seam w rest i) at (rest_of i))
  where
    rest_of : lex (at + 1) (length w) (w ++ rest) ≡ lex (at + suc (length w)) 0 rest
    rest_of = lex_pass (at + 1) (length w) (w ++ rest) ∙ (λ i. lex (one_more at (length w) i) 0 (drop-append_seam w rest i))

leading_append : (w rest : List ℕ) → AllByRecursion (λ b. inner b ≡ true) w → prefix_len inner rest ≡ 0 → prefix_len inner (w ++ rest) ≡ length w
leading_append [] rest h e = e
leading_append (x ∷ w) rest h e = leading_yes inner x (w ++ rest) h.0 ∙ ap suc (leading_append w rest h.1 e)

inner_no_blank : (b : ℕ) → inner b ≡ true → blank b ≡ false
inner_no_blank b e = grind (arith, nat_tests)

whole_next : (at : ℕ) (w rest : List ℕ) → Whole w rest → lex at 0 (w ++ rest) ≡ begin (sort_of w) w at (lex (at + length w) 0 rest)
whole_next at [] rest (inl h) = absurd (omega (arith, h.0))
whole_next at (b ∷ w) rest (inl h) =
    lex_next at b w rest (inner_no_blank b h.1.0) (ap (λ v. cond v (prefix_len inner (w ++ rest)) 0) h.1.0 ∙ leading_append w rest h.1.1 h.2)
whole_next at w rest (inr h) =
    subst (λ v. lex at 0 (v ++ rest) ≡ begin (sort_of v) v at (lex (at + length v) 0 rest)) (sym h.1)
    (lex_next at h.0 [] rest h.3 (ap (λ v. cond v (prefix_len inner rest) 0) h.2))

stands_next : (at : ℕ) (s gap w : List ℕ) (p : ℕ) (rest : List ℕ) → Stands at s gap w p rest → lex at 0 s ≡ begin (sort_of w) w p (lex (p + length w) 0 rest)
stands_next at s gap w p rest h = ap (lex at 0) h.1 ∙ lex_gap at gap (w ++ rest) h.0 ∙ ap (λ n. lex n 0 (w ++ rest)) (sym h.2) ∙ whole_next p w rest h.3

from_worded : (End : ℕ → List ℕ → Type 0) (l : Lexed) → ((at : ℕ) (s : List ℕ) → End at s → lex at 0 s ≡ l) → (at : ℕ) (s : List ℕ) (xs : List Item) → Worded at s xs End → lex at 0 s ≡ after xs l
from_worded End l ends at s [] w = ends at s w
from_worded End l ends at s (x ∷ xs) w =
    stands_next at s w.0 x.bytes x.place w.1 w.2
    ∙ ap (λ o. begin o x.bytes x.place (lex (x.place + length x.bytes) 0 w.1)) w.3
    ∙ ap (before x) (from_worded End l ends (x.place + length x.bytes) w.1 xs w.4)

blank_ends : (at : ℕ) (s : List ℕ) → BlankEnd at s → lex at 0 s ≡ items []
blank_ends at [] h = refl
blank_ends at (b ∷ s) h = lex_blank at b s h.0 ∙ blank_ends (at + 1) s h.1

bad_ends : (p at : ℕ) (s : List ℕ) → BadEnd p at s → lex at 0 s ≡ bad_at p
bad_ends p at s h = stands_next at s h.0 h.2 p h.1 h.3 ∙ ap (λ o. begin o h.2 p (lex (p + length h.2) 0 h.1)) h.4

pub accepted_exactly_lem : AcceptedExactly
accepted_exactly_lem s xs = (accepted s xs, λ w. from_worded BlankEnd (items []) blank_ends 0 s xs w ∙ after_end xs)

pub refused_exactly_lem : RefusedExactly
refused_exactly_lem s p = (refused_at s p, λ w. from_worded (BadEnd p) (bad_at p) (bad_ends p) 0 s w.0 w.1 ∙ after_bad w.0 p)

-- places and lengths
whole_some : (w rest : List ℕ) → Whole w rest → 0 < length w
whole_some w rest (inl h) = h.0
whole_some w rest (inr h) = let n = ap length h.1 in omega arith

three : (xs ys zs : List ℕ) → length (xs ++ (ys ++ zs)) ≡ length xs + length ys + length zs
three xs ys zs = let m = length-append xs (ys ++ zs) in let n = length-append ys zs in omega arith

module _ (End : ℕ → List ℕ → Type 0) where
  rises : (at : ℕ) (s : List ℕ) (xs : List Item) → Worded at s xs End → Rising at xs
  rises at s [] w = tt
  rises at s (x ∷ xs) w = (omega (arith, w.2.2), whole_some x.bytes w.1 w.2.3, rises (x.place + length x.bytes) w.1 xs w.4)

  counts : (at : ℕ) (s : List ℕ) (xs : List Item) → Worded at s xs End → length xs ≤ length s
  counts at s [] w = omega arith
  counts at s (x ∷ xs) w =
      let few = counts (x.place + length x.bytes) w.1 xs w.4 in
      let some = whole_some x.bytes w.1 w.2.3 in
      let long = ap length w.2.1 ∙ three w.0 x.bytes w.1 in
      omega arith

  -- the words of a part of s that stands after `front`
  parts : (s front bs : List ℕ) (xs : List Item) → s ≡ front ++ bs → Worded (length front) bs xs End → AllByRecursion (Part s) xs
  parts s front bs [] e w = tt
  parts s front bs (x ∷ xs) e w =
      let rest = w.1 in
      let f = front ++ w.0 in
      let at : x.place ≡ length f = w.2.2 ∙ sym (length-append front w.0) in
      let split : s ≡ f ++ (x.bytes ++ rest) = e ∙ ap (λ l. front ++ l) w.2.1 ∙ sym (append_assoc front w.0 (x.bytes ++ rest)) in (
        between s f x.bytes rest split x.place at,
        parts s (f ++ x.bytes) rest xs (split ∙ sym (append_assoc f x.bytes rest)) (subst (λ n. Worded n rest xs End) (beyond s f x.bytes rest split x.place at) w.4),
      )
    where
      at_place : (s front w rest : List ℕ) → s ≡ front ++ (w ++ rest) → (p : ℕ) → p ≡ length front → drop p s ≡ w ++ rest
      at_place s front w rest split p at = (λ i. drop (at i) (split i)) ∙ drop-append_seam front (w ++ rest)

      between : (s front w rest : List ℕ) → s ≡ front ++ (w ++ rest) → (p : ℕ) → p ≡ length front → (p + length w ≤ length s) × (w ≡ take (length w) (drop p s))
      between s front w rest split p at =
          let long = ap length split ∙ three front w rest in
          (omega arith, sym (ap (take (length w)) (at_place s front w rest split p at) ∙ take-append_seam w rest))

      beyond : (s front w rest : List ℕ) → s ≡ front ++ (w ++ rest) → (p : ℕ) → p ≡ length front → p + length w ≡ length (front ++ w)
      beyond s front w rest split p at = ap (λ n. n + length w) at ∙ sym (length-append front w)

pub places_rise_lem : PlacesRise
places_rise_lem s xs e = rises BlankEnd 0 s xs (accepted s xs e)

pub no_more_words_than_bytes_lem : NoMoreWordsThanBytes
no_more_words_than_bytes_lem s xs e = counts BlankEnd 0 s xs (accepted s xs e)

pub words_are_parts : WordsAreParts
words_are_parts s xs e = parts BlankEnd s [] s xs refl (accepted s xs e)

bad_before : (p at : ℕ) (s : List ℕ) (xs : List Item) → Worded at s xs (BadEnd p) → p < at + length s
bad_before p at s [] w =
    let some = whole_some w.2 w.1 w.3.3 in
    let long = ap length w.3.1 ∙ three w.0 w.2 w.1 in
    omega (arith, w.3.2)
bad_before p at s (x ∷ xs) w =
    let more = bad_before p (x.place + length x.bytes) w.1 xs w.4 in
    let long = ap length w.2.1 ∙ three w.0 x.bytes w.1 in
    omega (arith, w.2.2)

pub bad_words_are_within_lem : BadWordsAreWithin
bad_words_are_within_lem s p e = let w = refused_at s p e in let h = bad_before p 0 s w.0 w.1 in omega arith
