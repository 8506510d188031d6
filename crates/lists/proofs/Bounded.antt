-- A list of which at most so many elements have room: what is put at its end, piece by piece.
use Rattle.std.proofs.Common.{◌≡◌, ℕ, ◌+◌, ◌<◌, ◌≤◌, List, [], ◌∷◌, ◌++◌, length, get_or, take, set, sym, ap, ◌∙◌, ⊎_elim, append_assoc, append-nil, arith, length-take}
use Rattle.std.proofs.lemmas.List.{take_all, take-append-le, take_more_set, take_more, length-append}
use Rattle.std.proofs.lemmas.Bool.{cases_lt}

module _ {X : Type 0} (room : ℕ) where
  pub fit_whole : (xs : List X) → length xs ≤ room → take room xs ≡ xs
  fit_whole xs h = take_all room xs h

  pub fit_fit : (xs ys : List X) → take room (take room xs ++ ys) ≡ take room (xs ++ ys)
  fit_fit xs ys =
      ⊎_elim
      (λ (lt : length xs < room). ap (λ l. take room (l ++ ys)) (fit_whole xs (omega arith)))
      (λ (ge : room ≤ length xs).
      let l = length-take room xs in
      take-append-le room (take room xs) ys (omega arith) ∙ take_all room (take room xs) (omega arith) ∙ sym (take-append-le room xs ys ge))
      (cases_lt (length xs) room)

  -- one element more
  pub push_one : (held : List X) (n : ℕ) (x : X) → length held ≡ room → n < room → take (n + 1) (set held n x) ≡ take room (take n held ++ (x ∷ []))
  push_one held n x long lt =
      let l = length-take n held in
      take_more_set held n x (omega arith) ∙ sym (fit_whole (take n held ++ (x ∷ [])) (simp length-append (omega arith)))

  -- no room for it
  pub push_none : (held : List X) (n : ℕ) (x : X) → length held ≡ room → room ≤ n → take n held ≡ take room (take n held ++ (x ∷ []))
  push_none held n x long ge =
      let e = take_all n held (omega arith) in
      e ∙ sym (ap (λ l. take room (l ++ (x ∷ []))) e ∙ take-append-le room held (x ∷ []) (omega arith) ∙ take_all room held (omega arith))

  -- nothing more
  pub push_empty : (held : List X) (n : ℕ) → n ≤ room → take n held ≡ take room (take n held ++ [])
  push_empty held n le =
      let l = length-take n held in
      sym (ap (take room) (append-nil (take n held)) ∙ fit_whole (take n held) (omega arith))

  -- a piece after another
  pub push_on : (t u v xs ys : List X) → u ≡ take room (t ++ xs) → v ≡ take room (u ++ ys) → v ≡ take room (t ++ (xs ++ ys))
  push_on t u v xs ys p q = q ∙ ap (λ l. take room (l ++ ys)) p ∙ fit_fit (t ++ xs) ys ∙ ap (take room) (append_assoc t xs ys)

  -- the next element of a piece
  pub push_item : (t u v text : List X) (i : ℕ) (d : X) → i < length text → u ≡ take room (t ++ take i text) → v ≡ take room (u ++ (get_or text i d ∷ [])) → v ≡ take room (t ++ take (i + 1) text)
  push_item t u v text i d lt p q = push_on t u v (take i text) (get_or text i d ∷ []) p q ∙ ap (λ l. take room (t ++ l)) (sym (take_more text i d lt))
