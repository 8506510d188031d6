-- One turn of `words`, and its ends.
use Rattle.std.proofs.Common.{◌≡◌, ℕ, ◌+◌, ◌<◌, ◌≤◌, List, [], ◌∷◌, ◌++◌, map, length, drop, Some, None, Ok, Err, Option, Result, sym, ap, ◌∙◌, subst, append_assoc, append-nil, arith, length-append}
use Rattle.std.proofs.lemmas.List.{map_push}
use Rattle.words.specs.declared.token.Word.{Word}
use Rattle.words.specs.declared.token.WordFault.{WordFault}
use Rattle.words.specs.declared.token.WordFault.TheVariants.{Bad, Memory}
use Rattle.words.proofs.Lexing.{after, after_push, after_end, after_bad}
use Rattle.words.specs.Words.{seen, words_of, words_from, refused, Worded, Next, Appended, Lexes}
use Rattle.words.proofs.Standing.{Come, read_more, good_left, bad_left}

-- the list `cur` is the list `old` with the words of s before the place `at`, to which the reading has come
pub record SoFar (s : List ℕ) (at : ℕ) (old cur : List Word) : Type 0 where
  pub words : List Word
  pub added : cur ≡ old ++ words
  pub read : after (map seen words) (words_from s at) ≡ words_of s
  pub few : length words ≤ at
  pub stand : Worded 0 s (map seen words) (Come s at)

pub at_first : (s : List ℕ) (at : ℕ) (old : List Word) → at ≡ 0 → SoFar s at old old
at_first s at old e = record { words = []; added = sym (append-nil old); read = ap (words_from s) e; few = omega arith; stand = (sym e, ap (λ n. drop n s) (sym e)) }

pub answered : (r : Result (Unit {0}) WordFault) → r ≡ Ok tt → r ≡ Err Memory → ⊥
answered r is m = cc

-- one turn, from the place `at` to at'
module _ {s t : List ℕ} (same : t ≡ s) {at : ℕ} (at' : ℕ) {old cur : List Word} (so : SoFar s at old cur) where
  pub again : {o : Option Word} (w : Word) {new : List Word} → o ≡ Some w → Next t at at' (Ok o) → new ≡ cur ++ w ∷ [] → SoFar s at' old new
  again {o} w {new} is h pushed =
      let ws = so.words in
      let n : Next s at at' (Ok (Some w)) = subst (λ l. Next l at at' (Ok (Some w))) same (subst (λ x. Next t at at' (Ok x)) is h) in
      record {
        words = ws ++ w ∷ [];
        added = pushed ∙ ap (λ l. l ++ w ∷ []) so.added ∙ append_assoc old ws (w ∷ []);
        read =
            ap (λ l. after l (words_from s at')) (map_push seen ws w) ∙ after_push (map seen ws) (seen w) (words_from s at')
            ∙ ap (after (map seen ws)) (sym n.0) ∙ so.read;
        few = omega (arith, so.few, n.1, length-append ws (w ∷ []));
        stand = subst (λ l. Worded 0 s l (Come s at')) (sym (map_push seen ws w)) (read_more s at at' (map seen ws) so.stand (seen w) n.2);
      }

  pub less : {o : Option Word} (w : Word) → o ≡ Some w → Next t at at' (Ok o) → at < at'
  less {o} w is h = (subst (λ x. Next t at at' (Ok x)) is h).1

  pub ends : {o : Option Word} → o ≡ None → Next t at at' (Ok o) → Appended old cur (λ ws. Lexes s ws (Ok tt))
  ends {o} is h =
      let n : Next s at at' (Ok None) = subst (λ l. Next l at at' (Ok None)) same (subst (λ x. Next t at at' (Ok x)) is h) in
      (so.words, so.added, sym so.read ∙ ap (after (map seen so.words)) n.0 ∙ after_end (map seen so.words))

  pub breaks : (e : WordFault) → Next t at at' (Err e) → (r : Result (Unit {0}) WordFault) → r ≡ Err e → Appended old cur (λ ws. Lexes s ws r)
  breaks e h r is = (so.words, so.added, subst (Lexes s so.words) (sym is) (at_fault e h))
    where
      at_fault : (f : WordFault) → Next t at at' (Err f) → Lexes s so.words (Err f)
      at_fault (Bad p) n =
          let m : Next s at at' (Err (Bad p)) = subst (λ l. Next l at at' (Err (Bad p))) same n in
          let bad = sym so.read ∙ ap (after (map seen so.words)) m.0 ∙ after_bad (map seen so.words) p in
          (bad, ap refused bad, bad_left s at at' (map seen so.words) so.stand m.1.0 p m.1.1)
      at_fault Memory n = absurd n

  -- a reader never wants memory
  pub fits : (e : WordFault) → Next t at at' (Err e) → (r : Result (Unit {0}) WordFault) → r ≡ Err e → r ≡ Err Memory → ⊥
  fits (Bad p) h r is m = cc
  fits Memory h r is m = h

  -- there was no room for one word more
  pub full : {o : Option Word} (w : Word) → o ≡ Some w → Next t at at' (Ok o) → (new : List Word) (r : Result (Unit {0}) WordFault) → new ≡ cur → r ≡ Err Memory → Appended old new (λ ws. Lexes s ws r)
  full {o} w one h new r kept is =
      let n : Next s at at' (Ok (Some w)) = subst (λ l. Next l at at' (Ok (Some w))) same (subst (λ x. Next t at at' (Ok x)) one h) in
      (so.words, kept ∙ so.added, subst (Lexes s so.words) (sym is) (good_left s at at' (map seen so.words) so.stand (seen w) n.2))

  pub no_room : (cap cap' : ℕ) → cap ≤ cap' → cap' ≤ length cur → at < at' → at' ≤ length t → cap < length old + length s
  no_room cap cap' grows none h within =
      let n = ap length same in
      let m = ap length so.added ∙ length-append old so.words in
      let few = so.few in
      omega arith
