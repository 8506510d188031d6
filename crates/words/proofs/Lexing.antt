-- The laws of `lex` that a reader uses.
use Rattle.std.proofs.Common.{◌≡◌, ℕ, zero, suc, max, ◌+◌, ◌-◌, ◌<◌, ◌≤◌, Bool, true, false, cond, List, [], ◌∷◌, ◌++◌, length, get_or, take, drop, Some, None, sym, refl, ap, ◌∙◌, subst, ⊎_elim, add-zero, arith}
use Rattle.std.specs.List.{prefix_len, AllByRecursion}
use Rattle.std.proofs.lemmas.List.{drop_more, drop-drop, drop_all, take_all, length-drop}
use Rattle.std.proofs.lemmas.List.Sums.{prefix_len_is}
use Rattle.std.proofs.lemmas.Bool.{cases_Bool}
use Rattle.words.specs.Bytes.{blank, inner}
use Rattle.words.specs.declared.token.Word.{Word}
use Rattle.words.specs.Words.{Item, Lexed, items, bad_at, before, begin, sort_of, seen, extent, span, lex, words_from, Means}

-- the rest of a listing, as the code cuts it
pub rest_is : (s : List ℕ) (at : ℕ) → take (length s - at) (drop at s) ≡ drop at s
rest_is s at = take_all (length s - at) (drop at s) (omega (arith, length-drop at s))

-- n bytes of it come first that pass
pub front_is : (p : ℕ → Bool) (s : List ℕ) (at n : ℕ) → n ≤ length (take (length s - at) (drop at s)) → ((k : ℕ) → k < n → true ≡ p (get_or (take (length s - at) (drop at s)) k 0)) → (n < length (take (length s - at) (drop at s)) → false ≡ p (get_or (take (length s - at) (drop at s)) n 0)) → n ≡ prefix_len p (drop at s)
front_is p s at n within passed stopped =
    sym (prefix_len_is p (take (length s - at) (drop at s)) n 0 within (λ k l. sym (passed k l)) (λ l. sym (stopped l))) ∙ ap (prefix_len p) (rest_is s at)

-- the bytes of a word that was given already are passed
pub lex_pass : (at k : ℕ) (bs : List ℕ) → lex at k bs ≡ lex (at + k) 0 (drop k bs)
lex_pass at zero [] = refl
lex_pass at (suc k) [] = refl
lex_pass at zero (b ∷ bs) = ap (λ n. lex n 0 (b ∷ bs)) (sym (add-zero at))
lex_pass at (suc k) (b ∷ bs) = lex_pass (at + 1) k bs ∙ ap (λ n. lex n 0 (drop k bs)) (omega arith)

-- the two cases of a first byte
module _ (at b : ℕ) (bs : List ℕ) where
  pub lex_blank : blank b ≡ true → lex at 0 (b ∷ bs) ≡ lex (at + 1) 0 bs
  lex_blank e = simp e

  pub lex_word : blank b ≡ false → lex at 0 (b ∷ bs) ≡ begin (sort_of (b ∷ take (extent b bs) bs)) (b ∷ take (extent b bs) bs) at (lex (at + 1) (extent b bs) bs)
  lex_word e = simp e

pub leading_yes : (p : ℕ → Bool) (x : ℕ) (xs : List ℕ) → p x ≡ true → prefix_len p (x ∷ xs) ≡ suc (prefix_len p xs)
leading_yes p x xs e = simp e (omega arith)

pub leading_no : (p : ℕ → Bool) (x : ℕ) (xs : List ℕ) → p x ≡ false → prefix_len p (x ∷ xs) ≡ 0
leading_no p x xs e = simp e

-- passed blanks
pub lex_blanks : (at : ℕ) (bs : List ℕ) → lex at 0 bs ≡ lex (at + prefix_len blank bs) 0 (drop (prefix_len blank bs) bs)
lex_blanks at [] = refl
lex_blanks at (b ∷ bs) =
    ⊎_elim
    (λ (e : blank b ≡ true).
    let m : at + 1 + prefix_len blank bs ≡ at + suc (prefix_len blank bs) = omega arith in
    lex_blank at b bs e ∙ lex_blanks (at + 1) bs ∙ ap (λ n. lex n 0 (drop (prefix_len blank bs) bs)) m ∙ ap (λ n. lex (at + n) 0 (drop n (b ∷ bs))) (sym (leading_yes blank b bs e)))
    (λ (e : blank b ≡ false).
    ap (λ n. lex n 0 (b ∷ bs)) (sym (add-zero at)) ∙ ap (λ n. lex (at + n) 0 (drop n (b ∷ bs))) (sym (leading_no blank b bs e)))
    (cases_Bool (blank b))

-- past the front that passes stands nothing that passes
pub after_leading : (p : ℕ → Bool) (xs : List ℕ) → prefix_len p (drop (prefix_len p xs) xs) ≡ 0
after_leading p [] = refl
after_leading p (x ∷ xs) =
    ⊎_elim
    (λ (e : p x ≡ true). ap (λ n. prefix_len p (drop n (x ∷ xs))) (leading_yes p x xs e) ∙ after_leading p xs)
    (λ (e : p x ≡ false). ap (λ n. prefix_len p (drop n (x ∷ xs))) (leading_no p x xs e) ∙ leading_no p x xs e)
    (cases_Bool (p x))

pub leading_all : (p : ℕ → Bool) (xs : List ℕ) → AllByRecursion (λ x. p x ≡ true) (take (prefix_len p xs) xs)
leading_all p [] = tt
leading_all p (x ∷ xs) =
    ⊎_elim
    (λ (e : p x ≡ true). subst (λ n. AllByRecursion (λ y. p y ≡ true) (take n (x ∷ xs))) (sym (leading_yes p x xs e)) (e, leading_all p xs))
    (λ (e : p x ≡ false). subst (λ n. AllByRecursion (λ y. p y ≡ true) (take n (x ∷ xs))) (sym (leading_no p x xs e)) tt)
    (cases_Bool (p x))

first_fails : (p : ℕ → Bool) (x : ℕ) (xs : List ℕ) → prefix_len p (x ∷ xs) ≡ 0 → p x ≡ false
first_fails p x xs e = ⊎_elim (λ (h : p x ≡ true). let q = leading_yes p x xs h in absurd (omega arith)) (λ (h : p x ≡ false). h) (cases_Bool (p x))

-- the first word is a run, or one byte
pub span_is : (xs : List ℕ) → 0 < length xs → max (prefix_len inner xs) 1 ≡ span xs
span_is [] h = absurd (omega arith)
span_is (x ∷ xs) h =
    ⊎_elim
    (λ (e : inner x ≡ true). let q = leading_yes inner x xs e in omega arith ∙ ap (λ t. suc (cond t (prefix_len inner xs) 0)) (sym e))
    (λ (e : inner x ≡ false). let q = leading_no inner x xs e in omega arith ∙ ap (λ t. suc (cond t (prefix_len inner xs) 0)) (sym e))
    (cases_Bool (inner x))

-- the reader at i, past the blanks
module _ (s : List ℕ) (at i : ℕ) (skipped : i ≡ at + prefix_len blank (drop at s)) where
  moved : words_from s at ≡ words_from s i
  moved =
      lex_blanks at (drop at s)
      ∙ ap (λ l. lex (at + prefix_len blank (drop at s)) 0 l) (drop-drop (prefix_len blank (drop at s)) at s)
      ∙ ap (λ n. lex n 0 (drop n s)) (sym skipped)

  pub none_left : length s ≤ i → words_from s at ≡ items []
  none_left h = moved ∙ ap (lex i 0) (drop_all i s h)

  module _ (some : i < length s) where
    next_byte : drop i s ≡ get_or s i 0 ∷ drop (i + 1) s
    next_byte = drop_more s i 0 some

    pub not_blank : blank (get_or s i 0) ≡ false
    not_blank =
        first_fails blank (get_or s i 0) (drop (i + 1) s)
        (ap (prefix_len blank) (sym next_byte) ∙ ap (λ n. prefix_len blank (drop n s)) skipped
        ∙ ap (prefix_len blank) (sym (drop-drop (prefix_len blank (drop at s)) at s)) ∙ after_leading blank (drop at s))

    rest : lex (i + 1) (extent (get_or s i 0) (drop (i + 1) s)) (drop (i + 1) s) ≡ words_from s (i + span (drop i s))
    rest =
        let n = extent (get_or s i 0) (drop (i + 1) s) in
        let one : i + 1 + n ≡ i + suc n = omega arith in
        lex_pass (i + 1) n (drop (i + 1) s)
        ∙ ap (lex (i + 1 + n) 0) (drop-drop n (i + 1) s)
        ∙ ap (words_from s) (one ∙ ap (λ l. i + span l) (sym next_byte))

    begins : words_from s at ≡ begin (sort_of (take (span (drop i s)) (drop i s))) (take (span (drop i s)) (drop i s)) i (words_from s (i + span (drop i s)))
    begins =
        let whole = ap (λ l. take (span l) l) (sym next_byte) in
        moved ∙ ap (lex i 0) next_byte ∙ lex_word i (get_or s i 0) (drop (i + 1) s) not_blank
        ∙ (λ j. begin (sort_of (whole j)) (whole j) i (rest j))

    module _ (w : List ℕ) (is : w ≡ take (span (drop i s)) (drop i s)) where
      pub good : (x : Word) → Means w i (Some x) → words_from s at ≡ before (seen x) (words_from s (i + span (drop i s)))
      good x m =
          let next = words_from s (i + span (drop i s)) in
          begins ∙ ap (λ v. begin (sort_of v) v i next) (sym is) ∙ ap (λ o. begin o w i next) m.0 ∙ ap (λ y. before y next) (sym m.1)

      pub bad : sort_of w ≡ None → words_from s at ≡ bad_at i
      bad m =
          let next = words_from s (i + span (drop i s)) in
          begins ∙ ap (λ v. begin (sort_of v) v i next) (sym is) ∙ ap (λ o. begin o w i next) m

pub span_some : (s : List ℕ) (i : ℕ) → i < length s → 0 < span (drop i s)
span_some s i lt = let e = ap span (drop_more s i 0 lt) in omega arith

-- one word is read: t is the listing s after the blanks are passed, j the place past the word
module _ (s t : List ℕ) (same : t ≡ s) (at i j : ℕ) (skipped : i ≡ at + prefix_len blank (drop at s)) (some : i < length t) (w : List ℕ) (is : w ≡ take (span (drop i t)) (drop i t)) where
  here : i < length s
  here = let n = ap length same in omega arith

  whole : w ≡ take (span (drop i s)) (drop i s)
  whole = is ∙ ap (λ l. take (span (drop i l)) (drop i l)) same

  pub reads : j ≡ i + span (drop i t) → (x : Word) → Means w i (Some x) → (words_from s at ≡ before (seen x) (words_from s j)) × (at < j)
  reads to x m = (
    good s at i skipped here w whole x m ∙ ap (λ n. before (seen x) (words_from s n)) (sym (to ∙ ap (λ l. i + span (drop i l)) same)),
    omega (arith, span_some t i some),
  )

  pub refuses : sort_of w ≡ None → words_from s at ≡ bad_at i
  refuses m = bad s at i skipped here w whole m

-- words that were read, before what is to come
abbrev pub after : List Item → Lexed → Lexed
after [] l = l
after (x ∷ xs) l = before x (after xs l)

pub after_push : (xs : List Item) (x : Item) (l : Lexed) → after (xs ++ x ∷ []) l ≡ after xs (before x l)
after_push [] x l = refl
after_push (y ∷ xs) x l = ap (before y) (after_push xs x l)

pub after_end : (xs : List Item) → after xs (items []) ≡ items xs
after_end [] = refl
after_end (x ∷ xs) = ap (before x) (after_end xs)

pub after_bad : (xs : List Item) (p : ℕ) → after xs (bad_at p) ≡ bad_at p
after_bad [] p = refl
after_bad (x ∷ xs) p = ap (before x) (after_bad xs p)
