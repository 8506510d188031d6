-- The ways through what is wanted: from a word to a later one, where other things are wanted.
use Rattle.std.proofs.Common.{◌≡◌, ℕ, ◌+◌, ◌<◌, ◌≤◌, true, false, cond, List, [], ◌∷◌, ◌++◌, length, get_or, drop, sym, refl, ap, ◌∙◌, inl, inr, append_assoc, arith, eq-eqb, ne_eqb}
use mathlib.Core.Bool.{false≢true}
use mathlib.Core.Option.{none, some}
use Rattle.std.proofs.lemmas.Bool.{cases_lt}
use Rattle.std.proofs.lemmas.List.{drop_more, drop_all}
use Rattle.words.specs.declared.token.Kind.{Kind}
use Rattle.words.specs.declared.token.Kind.TheVariants.{Open, Close, Comma, Colon, Op, Run, Let, Mut, Set, Using, If, Meas, Unit, Bit, Int, Qbit, Zero, One}
use Rattle.words.specs.declared.token.Word.{Word}
use Rattle.words.specs.declared.token.Word.TheVariants.{Fixed}
use Rattle.syntax.specs.Grammar.{Text, Refused}
use Rattle.syntax.specs.Machine as m
use Rattle.syntax.specs.Machine.{Want, this, expand, optional, take_up, onward, read, run, stuck, index, same, is, heads, Way, Stops}
use Rattle.syntax.proofs.Sound.{is_that, index_one, some_name}
use Rattle.syntax.proofs.Prefix.{refused}
use Rattle.syntax.proofs.Complete as turns

pub through : {ws : List Word} {x y : Want} {at i j : ℕ} {ys : List Want} (zs : List Want) → Way x ws at (y ∷ ys) i → Way y ws i zs j → Way x ws at (zs ++ ys) j
through {ws} {j = j} {ys = ys} zs a b = record {
  from = omega (arith, a.from, b.from);
  within = b.within;
  runs = λ s. a.runs s ∙ b.runs (ys ++ s) ∙ ap (λ l. run l (drop j ws)) (sym (append_assoc zs ys s));
}

-- the next thing wanted was read
pub on : {ws : List Word} {x y : Want} {at i j : ℕ} {ys : List Want} → Way x ws at (y ∷ ys) i → Way y ws i [] j → Way x ws at ys j
on a b = through [] a b

-- or it was not
pub stops : {ws : List Word} {x y : Want} {at i p : ℕ} {ys : List Want} → Way x ws at (y ∷ ys) i → Stops y ws i p → Stops x ws at p
stops {ys = ys} a h = record { within = h.within; runs = λ s. a.runs s ∙ h.runs (ys ++ s) }

module _ (ws : List Word) where
  pub here : (x : Want) (at : ℕ) → at ≤ length ws → Way x ws at (x ∷ []) at
  here x at l = record { from = omega arith; within = l; runs = λ s. refl }

  -- a word that the table has an entry for
  pub word : (x : Want) (at : ℕ) (w : Word) (ys : List Want) → at < length ws → drop at ws ≡ w ∷ drop (at + 1) ws → expand x w ≡ some ys → Way x ws at ys (at + 1)
  word x at w ys l d e = record {
    from = omega arith;
    within = omega arith;
    runs = λ s. ap (run (x ∷ s)) d ∙ ap (λ o. onward (take_up o s (cond (optional x) (read s w) none)) (w ∷ drop (at + 1) ws) (λ s'. run s' (drop (at + 1) ws))) e;
  }

  pub no_word : (x : Want) (at : ℕ) (w : Word) → at < length ws → drop at ws ≡ w ∷ drop (at + 1) ws → expand x w ≡ none → optional x ≡ false → Stops x ws at at
  no_word x at w l d e o = record { within = omega arith; runs = λ s. ap (run (x ∷ s)) d ∙ refuses s ∙ ap stuck (sym d) }
    where
      refuses : (s : List Want) → run (x ∷ s) (w ∷ drop (at + 1) ws) ≡ stuck (w ∷ drop (at + 1) ws)
      refuses s = simp (e, o)

  pub no_words : (x : Want) (at : ℕ) → at ≤ length ws → length ws ≤ at → optional x ≡ false → Stops x ws at at
  no_words x at l k o = record { within = l; runs = λ s. ap (run (x ∷ s)) (drop_all at ws k) ∙ refuses s ∙ ap stuck (sym (drop_all at ws k)) }
    where
      refuses : (s : List Want) → run (x ∷ s) [] ≡ stuck []
      refuses s = simp o

  turn : (x : Want) (ys : List Want) (at : ℕ) → at ≤ length ws → ((s : List Want) → run (x ∷ s) (drop at ws) ≡ run (ys ++ s) (drop at ws)) → Way x ws at ys at
  turn x ys at l g = record { from = omega arith; within = l; runs = g }

  -- The ways that read no word.
  pub name_ends : (at : ℕ) → at ≤ length ws → heads Open (drop at ws) ≡ false → Way m.after_name ws at [] at
  name_ends at l e = turn m.after_name [] at l (λ s. turns.after_name_ends (drop at ws) s e)

  pub some_types : (at : ℕ) → at ≤ length ws → Way m.types ws at (m.a_type ∷ m.more_types ∷ []) at
  some_types at l = turn m.types (m.a_type ∷ m.more_types ∷ []) at l (λ s. turns.types_begin (drop at ws) s)

  pub some_terms : (at : ℕ) → at ≤ length ws → Way m.terms ws at (m.term ∷ m.more ∷ []) at
  some_terms at l = turn m.terms (m.term ∷ m.more ∷ []) at l (λ s. turns.terms_begin (drop at ws) s)

  pub some_arguments : (at : ℕ) → at ≤ length ws → heads Close (drop at ws) ≡ false → Way m.arguments ws at (m.terms ∷ []) at
  some_arguments at l e = turn m.arguments (m.terms ∷ []) at l (λ s. turns.arguments_begin (drop at ws) s e)

  pub some_parts : (at : ℕ) → at ≤ length ws → heads Close (drop at ws) ≡ false → Way m.after_open ws at (m.term ∷ m.in_parens ∷ []) at
  some_parts at l e = turn m.after_open (m.term ∷ m.in_parens ∷ []) at l (λ s. turns.parens_begin (drop at ws) s e)

  pub some_parameters : (at : ℕ) → at ≤ length ws → heads Close (drop at ws) ≡ false → Way m.parameters ws at (m.parameter ∷ m.more_parameters ∷ []) at
  some_parameters at l e = turn m.parameters (m.parameter ∷ m.more_parameters ∷ []) at l (λ s. turns.parameters_begin (drop at ws) s e)

  pub a_parameter : (at : ℕ) → at ≤ length ws → Way m.parameter ws at (m.a_name ∷ this Colon ∷ m.a_type ∷ []) at
  a_parameter at l = turn m.parameter (m.a_name ∷ this Colon ∷ m.a_type ∷ []) at l (λ s. turns.parameter_begins (drop at ws) s)

  pub an_operation : (at : ℕ) → at ≤ length ws → heads Run (drop at ws) ≡ false → Way m.listing ws at (m.operation ∷ m.listing ∷ []) at
  an_operation at l e = turn m.listing (m.operation ∷ m.listing ∷ []) at l (λ s. turns.operation_begins (drop at ws) s e)

  pub no_operation : (at : ℕ) → at ≤ length ws → heads Op (drop at ws) ≡ false → Way m.listing ws at (this Run ∷ m.term ∷ []) at
  no_operation at l e = turn m.listing (this Run ∷ m.term ∷ []) at l (λ s. turns.run_begins (drop at ws) s e)

  pub names_close : (at : ℕ) → at ≤ length ws → heads Comma (drop at ws) ≡ false → Way m.names ws at (this Close ∷ []) at
  names_close at l e = turn m.names (this Close ∷ []) at l (λ s. turns.names_shut (drop at ws) s e)

  pub types_close : (at : ℕ) → at ≤ length ws → heads Comma (drop at ws) ≡ false → Way m.more_types ws at (this Close ∷ []) at
  types_close at l e = turn m.more_types (this Close ∷ []) at l (λ s. turns.types_shut (drop at ws) s e)

  pub parameters_close : (at : ℕ) → at ≤ length ws → heads Comma (drop at ws) ≡ false → Way m.more_parameters ws at (this Close ∷ []) at
  parameters_close at l e = turn m.more_parameters (this Close ∷ []) at l (λ s. turns.parameters_shut (drop at ws) s e)

  pub more_close : (at : ℕ) → at ≤ length ws → heads Comma (drop at ws) ≡ false → Way m.more ws at (this Close ∷ []) at
  more_close at l e = turn m.more (this Close ∷ []) at l (λ s. turns.more_shut (drop at ws) s e)

  pub parens_close : (at : ℕ) → at ≤ length ws → heads Comma (drop at ws) ≡ false → Way m.in_parens ws at (this Close ∷ []) at
  parens_close at l e = turn m.in_parens (this Close ∷ []) at l (λ s. turns.parens_shut (drop at ws) s e)

  pub one_name : (at : ℕ) → at ≤ length ws → heads Open (drop at ws) ≡ false → Way m.pattern ws at (m.a_name ∷ []) at
  one_name at l e = turn m.pattern (m.a_name ∷ []) at l (λ s. turns.pattern_name (drop at ws) s e)

  pub tuple_type_opens : (at : ℕ) → at ≤ length ws → heads Unit (drop at ws) ≡ false → heads Bit (drop at ws) ≡ false → heads Int (drop at ws) ≡ false → heads Qbit (drop at ws) ≡ false → Way m.a_type ws at (this Open ∷ m.a_type ∷ this Comma ∷ m.types ∷ []) at
  tuple_type_opens at l a b c d = turn m.a_type (this Open ∷ m.a_type ∷ this Comma ∷ m.types ∷ []) at l (λ s. turns.type_opens (drop at ws) s a b c d)

  pub plain_only : (at : ℕ) → at ≤ length ws → heads Let (drop at ws) ≡ false → heads Mut (drop at ws) ≡ false → heads Set (drop at ws) ≡ false → heads Using (drop at ws) ≡ false → heads If (drop at ws) ≡ false → Way m.term ws at (m.plain ∷ []) at
  plain_only at l a b c d e = turn m.term (m.plain ∷ []) at l (λ s. turns.plain_begin (drop at ws) s a b c d e)

  -- a word of that kind stands there
  pub there : (k : Kind) (at : ℕ) → heads k (drop at ws) ≡ true → (at < length ws) × (x : Text) × (i : ℕ) × (drop at ws ≡ Fixed x i k ∷ drop (at + 1) ws)
  there k at e = elim (cases_lt at (length ws)) [
    | inl l ↦ (let d = drop_more ws at some_name l in let (x, i, q) = is_that k _ (ap (heads k) (sym d) ∙ e) in (l, x, i, d ∙ ap (λ w. w ∷ drop (at + 1) ws) q))
    | inr l ↦ absurd (false≢true (ap (heads k) (sym (drop_all at ws l)) ∙ e))
  ]

  pub word_here : (at : ℕ) (d w : Word) → at < length ws → get_or ws at d ≡ w → drop at ws ≡ w ∷ drop (at + 1) ws
  word_here at d w l e = drop_more ws at d l ∙ ap (λ x. x ∷ drop (at + 1) ws) e

  -- a word of a kind that the table has an entry for
  pub kind_word : (x : Want) (at : ℕ) (k : Kind) (ys : List Want) → heads k (drop at ws) ≡ true → ((t : Text) (i : ℕ) → expand x (Fixed t i k) ≡ some ys) → Way x ws at ys (at + 1)
  kind_word x at k ys h e = let (l, t, i, d) = there k at h in word x at (Fixed t i k) ys l d (e t i)

  pub this_there : (k : Kind) (at : ℕ) → heads k (drop at ws) ≡ true → Way (this k) ws at [] (at + 1)
  this_there k at e = kind_word (this k) at k [] e entry
    where
      entry : (t : Text) (i : ℕ) → expand (this k) (Fixed t i k) ≡ some []
      entry t i = simp (eq-eqb (index k) (index k) refl)

  pub this_not_there : (k : Kind) (at : ℕ) → at ≤ length ws → heads k (drop at ws) ≡ false → Stops (this k) ws at at
  this_not_there k at l e = record { within = l; runs = λ s. refuses s (drop at ws) e }
    where
      refuses : (s : List Want) (v : List Word) → heads k v ≡ false → run (this k ∷ s) v ≡ stuck v
      refuses s [] e = refl
      refuses s (w ∷ v) e = simp e

  -- two kinds do not stand at one word
  pub not_both : (j k : Kind) (at : ℕ) → same j k ≡ false → heads j (drop at ws) ≡ true → heads k (drop at ws) ≡ false
  not_both j k at n h = let (l, t, i, d) = there j at h in ap (heads k) d ∙ n

  -- where a listing stops, its words are refused
  pub listing_stops : {p : ℕ} → Stops m.listing ws 0 p → Refused ws p
  listing_stops {p} h = refused ws p h.within (h.runs [])

  -- a word is left after it
  pub listing_ends : {e : ℕ} → Way m.listing ws 0 [] e → e < length ws → Refused ws e
  listing_ends {e} h l =
      let d = drop_more ws e some_name l in
      refused ws e h.within (h.runs [] ∙ ap (run []) d ∙ ap stuck (sym d))

pub plain_none : (t : Text) (i : ℕ) (k : Kind) → (k ≡ Zero → ⊥) → (k ≡ One → ⊥) → (k ≡ Meas → ⊥) → (k ≡ Open → ⊥) → expand m.plain (Fixed t i k) ≡ none
plain_none t i k a b c d = simp (differ k Zero a, differ k One b, differ k Meas c, differ k Open d)
  where
    differ : (j k : Kind) → (j ≡ k → ⊥) → same j k ≡ false
    differ j k h = ne_eqb (index j) (index k) (λ e. h (index_one j k e))
