-- The word that comes next, where it stands, and the words that were read.
use Rattle.std.proofs.Common.{◌≡◌, ℕ, ◌+◌, ◌<◌, ◌≤◌, List, [], ◌∷◌, ◌++◌, length, get_or, take, drop, Some, None, Option, Result, sym, refl, ap, ◌∙◌, subst, arith, take-append-drop, length-take-le}
use Rattle.std.specs.List.{prefix_len}
use Rattle.std.specs.Option.{option_map, ok_or}
use Rattle.std.proofs.lemmas.List.{drop_more, drop-drop}
use Rattle.std.proofs.lemmas.List.Sums.{prefix_len-le-length}
use Rattle.words.specs.Bytes.{blank}
use Rattle.words.specs.declared.token.Word.{Word}
use Rattle.words.specs.declared.token.WordFault.{WordFault}
use Rattle.words.specs.declared.token.WordFault.TheVariants.{Bad}
use Rattle.words.specs.Words.{Sort, Item, sort_of, seen, span, Means, Whole, Stands, Worded, BadEnd, GoodEnd, ComesNext, Next}
use Rattle.words.proofs.Lexing.{leading_all, not_blank, reads, refuses}
use Rattle.words.proofs.Weaving.{extent_le, whole}

-- the reader of s at i, past the blanks
module _ (s : List ℕ) (at i : ℕ) (skipped : i ≡ at + prefix_len blank (drop at s)) (some : i < length s) where
  first_whole : Whole (take (span (drop i s)) (drop i s)) (drop (span (drop i s)) (drop i s))
  first_whole =
      subst (λ l. Whole (take (span l) l) (drop (span l) l)) (sym (drop_more s i 0 some))
      (whole (get_or s i 0) (drop (i + 1) s) (not_blank s at i skipped some))

  span_le : span (drop i s) ≤ length (drop i s)
  span_le =
      subst (λ l. span l ≤ length l) (sym (drop_more s i 0 some))
      (let h = extent_le (get_or s i 0) (drop (i + 1) s) in omega arith)

  pub first_stands : Stands at (drop at s) (take (prefix_len blank (drop at s)) (drop at s)) (take (span (drop i s)) (drop i s)) i (drop (i + span (drop i s)) s)
  first_stands =
      let n = prefix_len blank (drop at s) in
      let k = span (drop i s) in
      let rest = drop-drop k i s in
      let gap = take n (drop at s) in
      let long = length-take-le n (drop at s) (prefix_len-le-length blank (drop at s)) in (
        leading_all blank (drop at s),
        sym (take-append-drop n (drop at s)) ∙ ap (λ l. gap ++ l) (drop-drop n at s ∙ ap (λ m. drop m s) (sym skipped) ∙ sym (take-append-drop k (drop i s)))
            ∙ ap (λ l. gap ++ (take k (drop i s) ++ l)) rest,
        skipped ∙ ap (λ m. at + m) (sym long),
        subst (Whole (take k (drop i s))) rest first_whole,
      )

  pub first_length : length (take (span (drop i s)) (drop i s)) ≡ span (drop i s)
  first_length = length-take-le (span (drop i s)) (drop i s) span_le

-- the word w was cut: t is the listing s after the blanks are passed, j the place past the word
module _ (s t : List ℕ) (same : t ≡ s) (at i j : ℕ) (skipped : i ≡ at + prefix_len blank (drop at s)) (some : i < length t) (w : List ℕ) (is : w ≡ take (span (drop i t)) (drop i t)) (to : j ≡ i + span (drop i t)) where
  pub comes : (o : Option Sort) → sort_of w ≡ o → ComesNext s at j w i o
  comes o m =
      let here : i < length s = let n = ap length same in omega arith in
      let cut : w ≡ take (span (drop i s)) (drop i s) = is ∙ ap (λ l. take (span (drop i l)) (drop i l)) same in
      let end : j ≡ i + span (drop i s) = to ∙ ap (λ l. i + span (drop i l)) same in (
        take (prefix_len blank (drop at s)) (drop at s),
        subst (λ n. Stands at (drop at s) (take (prefix_len blank (drop at s)) (drop at s)) w i (drop n s)) (sym end)
            (subst (λ v. Stands at (drop at s) (take (prefix_len blank (drop at s)) (drop at s)) v i (drop (i + span (drop i s)) s)) (sym cut) (first_stands s at i skipped here)),
        m,
        end ∙ ap (λ n. i + n) (sym (ap length cut ∙ first_length s at i skipped here)),
      )

  pub word_comes : (x : Word) → Means w i (Some x) → ComesNext s at j (seen x).bytes (seen x).place (Some (seen x).sort)
  word_comes x m = subst (λ y. ComesNext s at j y.bytes y.place (Some (seen x).sort)) (sym m.1) (comes (Some (seen x).sort) m.0)

  pub next_is : (o : Option Word) → Means w i o → (r : Result (Option Word) WordFault) → r ≡ ok_or (option_map (λ (x : Word). Some x) o) (Bad i) → Next s at j r
  next_is (Some x) m r e =
      let n = reads s t same at i j skipped some w is to x m in
      subst (Next s at j) (sym e) (n.0, n.1, word_comes x m)
  next_is None m r e = subst (Next s at j) (sym e) (refuses s t same at i j skipped some w is m, (w, comes None m))

-- the reading of s has come to the place `to`
abbrev pub Come : List ℕ → ℕ → ℕ → List ℕ → Type 0
Come s to at bs = (at ≡ to) × (bs ≡ drop to s)

-- another end of the words that were read
pub ended : (E F : ℕ → List ℕ → Type 0) → ((at : ℕ) (bs : List ℕ) → E at bs → F at bs) → (at : ℕ) (bs : List ℕ) (xs : List Item) → Worded at bs xs E → Worded at bs xs F
ended E F f at bs [] w = f at bs w
ended E F f at bs (x ∷ xs) w = (w.0, w.1, w.2, w.3, ended E F f (x.place + length x.bytes) w.1 xs w.4)

-- one word more at the end
pub pushed : (E F : ℕ → List ℕ → Type 0) (y : Item) → ((at : ℕ) (bs : List ℕ) → E at bs → Worded at bs (y ∷ []) F) → (at : ℕ) (bs : List ℕ) (xs : List Item) → Worded at bs xs E → Worded at bs (xs ++ y ∷ []) F
pushed E F y f at bs [] w = f at bs w
pushed E F y f at bs (x ∷ xs) w = (w.0, w.1, w.2, w.3, pushed E F y f (x.place + length x.bytes) w.1 xs w.4)

-- the same facts where the reading has come to a place
come_at : (s : List ℕ) (to : ℕ) (P : ℕ → List ℕ → Type 0) → P to (drop to s) → (at : ℕ) (bs : List ℕ) → Come s to at bs → P at bs
come_at s to P h at bs c = subst (λ n. P n bs) (sym c.0) (subst (P to) (sym c.1) h)

module _ (s : List ℕ) (at at' : ℕ) (xs : List Item) (w : Worded 0 s xs (Come s at)) where
  pub read_more : (x : Item) → ComesNext s at at' x.bytes x.place (Some x.sort) → Worded 0 s (xs ++ x ∷ []) (Come s at')
  read_more x c = pushed (Come s at) (Come s at') x (come_at s at (λ n bs. Worded n bs (x ∷ []) (Come s at')) (c.0, drop at' s, c.1, c.2, (sym c.3, refl))) 0 s xs w

  pub good_left : (x : Item) → ComesNext s at at' x.bytes x.place (Some x.sort) → Worded 0 s xs GoodEnd
  good_left x c = ended (Come s at) GoodEnd (come_at s at GoodEnd (x, c.0, drop at' s, c.1, c.2)) 0 s xs w

  pub bad_left : (v : List ℕ) (p : ℕ) → ComesNext s at at' v p None → Worded 0 s xs (BadEnd p)
  bad_left v p c = ended (Come s at) (BadEnd p) (come_at s at (BadEnd p) (c.0, drop at' s, v, c.1, c.2)) 0 s xs w
