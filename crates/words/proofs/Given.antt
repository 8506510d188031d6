-- What an upper layer knows of the words that it was given.
use Rattle.std.proofs.Common.{◌≡◌, ℕ, suc, ◌≤◌, List, [], ◌∷◌, map, length, refl, ap, arith}
use Rattle.std.specs.List.{AllByRecursion}
use Rattle.words.specs.declared.token.Word.{Word}
use Rattle.words.specs.Words.{Item, items, seen, words_of}
use Rattle.words.specs.Laws.{Part, Spells}
use Rattle.words.proofs.Weaving.{no_more_words_than_bytes_lem, words_are_parts}
use Rattle.words.proofs.Spelled.{words_are_spelled_lem}

length_seen : (ws : List Word) → length (map seen ws) ≡ length ws
length_seen [] = refl
length_seen (w ∷ ws) = ap suc (length_seen ws)

all_seen : (P : Item → Type 0) (ws : List Word) → AllByRecursion P (map seen ws) → AllByRecursion (λ w. P (seen w)) ws
all_seen P [] h = tt
all_seen P (w ∷ ws) h = (h.0, all_seen P ws h.1)

module _ (s : List ℕ) (ws : List Word) (are : words_of s ≡ items (map seen ws)) where
  -- there are no more words than bytes
  pub few_words : length ws ≤ length s
  few_words = let h = no_more_words_than_bytes_lem s (map seen ws) are in let n = length_seen ws in omega arith

  -- the text of each is the part of the listing at its place
  pub each_part : AllByRecursion (λ w. Part s (seen w)) ws
  each_part = all_seen (Part s) ws (words_are_parts s (map seen ws) are)

  -- each is spelled as it should be
  pub each_spelled : AllByRecursion (λ w. Spells (seen w).sort (seen w).bytes) ws
  each_spelled = all_seen (λ x. Spells x.sort x.bytes) ws (words_are_spelled_lem s (map seen ws) are)
