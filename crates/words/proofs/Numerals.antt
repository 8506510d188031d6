-- The value of digits, read from the front.
use Rattle.std.proofs.Common.{◌≡◌, ℕ, ◌+◌, ◌*◌, ◌<◌, ◌≤◌, Bool, true, false, cond, ◌&&◌, leb, List, [], ◌∷◌, ◌++◌, map, length, get_or, drop, Some, None, Option, MatchOption, Bor, sym, refl, ap, ◌∙◌, subst, ⊎_elim, append-nil, take-append-drop, arith, le-leb}
use borrow.Author.Tests.{lt-leb}
use Rattle.std.specs.Char.{is_ascii_digit, digit_value}
use Rattle.std.specs.Str.Parse.{digits_value_after, digits_value}
use Rattle.std.specs.Str.{all_ascii_digits}
use Rattle.std.proofs.Math.Bool.{and-false}
use Rattle.std.proofs.lemmas.Bool.{cases_Bool, leb-true, leb-false}
use Rattle.std.proofs.lemmas.Option.{none-some, same_Some}
use Rattle.std.specs.List.{FoldsTo}
use Rattle.std.specs.Iterator.{YieldsThen}
use Rattle.std.proofs.lemmas.Iterator.{YieldsList}
use Rattle.std.proofs.lemmas.Iterator.Consumers.{YieldsList-so_far, YieldsList-turn, YieldsList-end}
use Rattle.std.proofs.lemmas.Grind.{get_or_default_zero}
use Rattle.words.specs.Bytes.{digit}
use Rattle.std.proofs.lemmas.List.{at_drop_more}
use Rattle.words.specs.Words.{no_leading_zero, good_number, largest}

-- what a numeral is worth whose front has the value v and whose rest is w
abbrev pub worth : ℕ → List ℕ → Option ℕ
worth v w = cond (all_ascii_digits w && leb (digits_value_after 10 v w) largest) (Some (digits_value_after 10 v w)) None

value_ge : (v : ℕ) (w : List ℕ) → v ≤ digits_value_after 10 v w
value_ge v [] = omega arith
value_ge v (d ∷ w) = let h = value_ge (v * 10 + digit_value d) w in omega arith

worth_none : (v : ℕ) → v ≤ largest → worth v [] ≡ Some v
worth_none v h = simp (le-leb v largest h)

worth_odd : (v d : ℕ) (w : List ℕ) → is_ascii_digit d ≡ false → worth v (d ∷ w) ≡ None
worth_odd v d w e = simp e

worth_over : (v d : ℕ) (w : List ℕ) → largest < v * 10 + digit_value d → worth v (d ∷ w) ≡ None
worth_over v d w h =
    let g = value_ge (v * 10 + digit_value d) w in
    let over : leb (digits_value_after 10 (v * 10 + digit_value d) w) largest ≡ false = lt-leb _ _ (omega arith) in
    ap (λ t. cond (all_ascii_digits (d ∷ w) && t) (Some (digits_value_after 10 v (d ∷ w))) None) over
    ∙ ap (λ t. cond t (Some (digits_value_after 10 v (d ∷ w))) None) (and-false (all_ascii_digits (d ∷ w)))

worth_more : (v d : ℕ) (w : List ℕ) → is_ascii_digit d ≡ true → worth v (d ∷ w) ≡ worth (v * 10 + digit_value d) w
worth_more v d w e = simp e

-- the value with one digit more at its end
abbrev pub extended : ℕ → ℕ → Option ℕ
extended v d = cond (digit d && leb (v * 10 + digit_value d) largest) (Some (v * 10 + digit_value d)) None

extends : (v d : ℕ) (a b : Bool) → digit d ≡ a → leb (v * 10 + digit_value d) largest ≡ b → extended v d ≡ cond (a && b) (Some (v * 10 + digit_value d)) None
extends v d a b e f = λ i. cond (e i && f i) (Some (v * 10 + digit_value d)) None

worth_less : (v d : ℕ) (w : List ℕ) → None ≡ extended v d → worth v (d ∷ w) ≡ None
worth_less v d w h =
    ⊎_elim
    (λ (e : digit d ≡ true).
    ⊎_elim (λ (f : leb (v * 10 + digit_value d) largest ≡ true). absurd (none-some (v * 10 + digit_value d) (h ∙ extends v d true true e f)))
    (λ (f : leb (v * 10 + digit_value d) largest ≡ false). worth_over v d w (leb-false _ _ f))
    (cases_Bool (leb (v * 10 + digit_value d) largest)))
    (λ (e : digit d ≡ false). worth_odd v d w e)
    (cases_Bool (digit d))

worth_next : (v d x : ℕ) (w : List ℕ) → Some x ≡ extended v d → (worth v (d ∷ w) ≡ worth x w) × (x ≤ largest)
worth_next v d x w h =
    ⊎_elim
    (λ (e : digit d ≡ true).
    ⊎_elim
    (λ (f : leb (v * 10 + digit_value d) largest ≡ true).
    let is : x ≡ v * 10 + digit_value d = same_Some x (v * 10 + digit_value d) (h ∙ extends v d true true e f) in
    let le = leb-true _ _ f in
    (worth_more v d w e ∙ ap (λ n. worth n w) (sym is), omega arith))
    (λ (f : leb (v * 10 + digit_value d) largest ≡ false). absurd (none-some x (sym (h ∙ extends v d true false e f))))
    (cases_Bool (leb (v * 10 + digit_value d) largest)))
    (λ (e : digit d ≡ false). absurd (none-some x (sym (h ∙ extends v d false (leb (v * 10 + digit_value d) largest) e refl))))
    (cases_Bool (digit d))

-- turns over the digits, from the front
module _ {F : Type 0} (T : F × ℕ → Bor ℕ → F × ℕ → Type 0) (turn : (p : F × ℕ) (x : Bor ℕ) (q : F × ℕ) → T p x q → Some q.1 ≡ extended p.1 x.now) where
  folded : (xs : List (Bor ℕ)) (p q : F × ℕ) (rest : List ℕ) → p.1 ≤ largest → FoldsTo T p xs q → (worth p.1 (map (λ (x : Bor ℕ). x.now) xs ++ rest) ≡ worth q.1 rest) × (q.1 ≤ largest)
  folded [] p q rest small h = (ap (λ (s : F × ℕ). worth s.1 rest) h, subst (λ (s : F × ℕ). s.1 ≤ largest) h small)
  folded (x ∷ xs) p q rest small h =
      let n = worth_next p.1 x.now h.0.1 (map (λ (y : Bor ℕ). y.now) xs ++ rest) (turn p x h.0 h.1) in
      let more = folded xs h.0 q rest n.1 h.2 in
      (n.0 ∙ more.0, more.1)

  module _ {S : Type 0} {steps : S → Option (Bor ℕ) → S → Type 0} {s : S} (text : List ℕ) (gives : YieldsList steps (λ x. x.now) s text) (f : F) (xs : List (Bor ℕ)) (q : F × ℕ) (folds : FoldsTo T (f, 0) xs q) (u : S) where
    -- the turns go on to the end, or a byte breaks them off
    pub number_is : (o : Option (Bor ℕ)) → YieldsThen steps s xs o u → (P : Type 0) (Q : Bor ℕ → Type 0) → MatchOption o P Q → (r : Option ℕ) → (P → r ≡ Some q.1) → ((x : Bor ℕ) → Q x → (None ≡ extended q.1 x.now) × (r ≡ None)) → r ≡ worth 0 text
    number_is None y P Q m r whole broken =
        let e = YieldsList-end gives xs y.0 y.1 None u refl y.2 in
        let w = folded xs (f, 0) q [] (omega arith) folds in
        whole m ∙ sym (ap (worth 0) (sym e.0 ∙ sym (append-nil (map (λ (x : Bor ℕ). x.now) xs))) ∙ w.0 ∙ worth_none q.1 w.1)
    number_is (Some x) y P Q m r whole broken =
        let t = YieldsList-turn gives xs y.0 y.1 (Some x) u x refl y.2 in
        let n = length xs in
        let front = YieldsList-so_far gives xs y.0 y.1 in
        let w = folded xs (f, 0) q (drop n text) (omega arith) folds in
        let b = broken x m in
        let byte : get_or text n 0 ≡ x.now = sym (get_or_default_zero text n x.now t.0) ∙ sym t.1 in
        let ends : worth q.1 (drop n text) ≡ None = at_drop_more (worth q.1) text n 0 t.0 ∙ worth_less q.1 (get_or text n 0) (drop (n + 1) text) (b.0 ∙ ap (extended q.1) (sym byte)) in
        b.1 ∙ sym (ap (worth 0) (sym (take-append-drop n text) ∙ ap (λ l. l ++ drop n text) (sym front)) ∙ w.0 ∙ ends)

-- a good number is worth its value
pub good : (w : List ℕ) → no_leading_zero w ≡ true → worth 0 w ≡ cond (good_number w) (Some (digits_value 10 w)) None
good w e = simp e
