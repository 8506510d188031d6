-- Where reading is stuck: the words before continue some listing, the word there continues none.
use Rattle.std.proofs.Common.{◌≡◌, ℕ, zero, suc, ◌+◌, ◌<◌, ◌≤◌, Bool, true, false, cond, List, [], ◌∷◌, ◌++◌, length, get_or, take, drop, sym, refl, ap, ◌∙◌, add-one, arith, length-drop}
use mathlib.Core.Option.{Option, none, some}
use Rattle.std.proofs.lemmas.List.{drop_more}
use Rattle.words.specs.declared.token.Word.{Word}
use Rattle.syntax.specs.Grammar.{Continues, Refused}
use Rattle.syntax.specs.Machine.{Want, listing, optional, End, accepted, stuck, read, at_end, onward, run}
use Rattle.syntax.proofs.Sound.{stuck_no, finish, finishes, accepted_listing, some_name}
use Rattle.syntax.proofs.Complete.{listing_read}

abbrev start : List Want
start = listing ∷ []

abbrev left_of : End → List Word
left_of accepted = []
left_of (stuck ws) = ws

end_left : (s : List Want) → length (left_of (at_end s)) ≡ 0
end_left [] = refl
end_left (x ∷ s) = go (optional x) (end_left s)
  where
    go : (b : Bool) → length (left_of (at_end s)) ≡ 0 → length (left_of (cond b (at_end s) (stuck []))) ≡ 0
    go true h = h
    go false h = refl

-- no more words are left than there were
left_le : (s : List Want) (ws : List Word) → length (left_of (run s ws)) ≤ length ws
left_le s [] = omega (arith, end_left s)
left_le s (w ∷ ws) = go (read s w) (λ s'. left_le s' ws)
  where
    go : (o : Option (List Want)) → ((s' : List Want) → length (left_of (run s' ws)) ≤ length ws) → length (left_of (onward o (w ∷ ws) (λ s'. run s' ws))) ≤ length (w ∷ ws)
    go none h = omega arith
    go (some s') h = omega (arith, h s')

abbrev Reaches : List Want → List Word → ℕ → Type 0
Reaches s ws p = (s' : List Want) × ((vs : List Word) → run s (take p ws ++ vs) ≡ run s' vs) × (run s' (drop p ws) ≡ stuck (drop p ws))

reaches : (p : ℕ) (s : List Want) (ws : List Word) → p ≤ length ws → run s ws ≡ stuck (drop p ws) → Reaches s ws p
reaches zero s ws l e = (s, (λ vs. refl), e)
reaches (suc p) s [] l e = absurd (omega arith)
reaches (suc p) s (w ∷ ws) l e = go (read s w) (λ s' h. reaches p s' ws (omega arith) h) e
  where
    go : (o : Option (List Want)) → ((s' : List Want) → run s' ws ≡ stuck (drop p ws) → Reaches s' ws p) → onward o (w ∷ ws) (λ s'. run s' ws) ≡ stuck (drop p ws)
        → (s' : List Want) × ((vs : List Word) → onward o (w ∷ (take p ws ++ vs)) (λ x. run x (take p ws ++ vs)) ≡ run s' vs) × (run s' (drop p ws) ≡ stuck (drop p ws))
    go none h e = absurd (omega (arith, ap (λ x. length (left_of x)) e, length-drop p ws))
    go (some s') h e = h s' e

-- the word at which reading is stuck does not fit, whatever follows it
blocked : (s : List Want) (w : Word) (ws vs : List Word) → run s (w ∷ ws) ≡ stuck (w ∷ ws) → run s (w ∷ vs) ≡ stuck (w ∷ vs)
blocked s w ws vs e = go (read s w) e
  where
    go : (o : Option (List Want)) → onward o (w ∷ ws) (λ x. run x ws) ≡ stuck (w ∷ ws) → onward o (w ∷ vs) (λ x. run x vs) ≡ stuck (w ∷ vs)
    go none e = refl
    go (some s') e = absurd (omega (arith, ap (λ x. length (left_of x)) e, left_le s' ws))

parted : (k p : ℕ) (ws vs : List Word) → k ≤ p → take k ws ++ (drop k (take p ws) ++ vs) ≡ take p ws ++ vs
parted zero p ws vs l = refl
parted (suc k) zero ws vs l = absurd (omega arith)
parted (suc k) (suc p) [] vs l = refl
parted (suc k) (suc p) (w ∷ ws) vs l = ap (λ x. w ∷ x) (parted k p ws vs (omega arith))

one_on : (p : ℕ) (ws : List Word) (w : Word) (r vs : List Word) → drop p ws ≡ w ∷ r → take (suc p) ws ++ vs ≡ take p ws ++ w ∷ vs
one_on zero [] w r vs e = absurd (omega (arith, ap length e))
one_on zero (x ∷ ws) w r vs e = ap (λ (l : List Word). take 1 l ++ vs) e
one_on (suc p) [] w r vs e = absurd (omega (arith, ap length e))
one_on (suc p) (x ∷ ws) w r vs e = ap (λ l. x ∷ l) (one_on p ws w r vs e)

module _ (ws : List Word) (p : ℕ) (l : p ≤ length ws) (e : run start ws ≡ stuck (drop p ws)) (at : Reaches start ws p) where
  goes_on : (i : ℕ) → i < p → Continues ws i
  goes_on i h =
      let rest : List Word = drop (i + 1) (take p ws) ++ finish at.0 in
      let (t, k) = accepted_listing (take (i + 1) ws ++ rest) (ap (run start) (parted (i + 1) p ws (finish at.0) (omega arith)) ∙ at.1 (finish at.0) ∙ finishes at.0) in
      (rest, t, k)

  ends : (w : Word) → drop p ws ≡ w ∷ drop (p + 1) ws → Continues ws p → ⊥
  ends w d (rest, t, h) =
      stuck_no
      (sym
      (ap (λ k. run start (take k ws ++ rest)) (add-one p)
      ∙ ap (run start) (one_on p ws w (drop (p + 1) ws) rest d)
      ∙ at.1 (w ∷ rest)
      ∙ blocked at.0 w (drop (p + 1) ws) rest (ap (run at.0) (sym d) ∙ at.2 ∙ ap stuck d))
      ∙ listing_read h)

pub refused : (ws : List Word) (p : ℕ) → p ≤ length ws → run (listing ∷ []) ws ≡ stuck (drop p ws) → Refused ws p
refused ws p l e =
    let at = reaches p start ws l e in
    (l, goes_on ws p l e at, (λ h. ends ws p l e at (get_or ws p some_name) (drop_more ws p some_name h)), (λ t h. stuck_no (sym e ∙ listing_read h)))
