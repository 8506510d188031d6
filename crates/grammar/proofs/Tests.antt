-- The words from the current one on: what the kind of the first one says.
use Rattle.std.proofs.Common.{rules, ◌≡◌, Bool, eqb, true, false, List, [], ◌∷◌, Some, None, refl, ap, ◌∙◌}
use Rattle.words.specs.Kinds.{kind_number, NumbersDecide}
use Rattle.words.specs.declared.token.Kind.{Kind}
use Rattle.words.specs.declared.token.Kind.TheVariants.{Open, Close, LeftBrace, RightBrace, Comma, Equals, Colon, Op, Run, Let, Mut, Set, Using, In, If, Then, Else, Meas, Unit, Bit, Int, Qbit, Zero, One}
use Rattle.words.specs.declared.token.Word.{Word}
use Rattle.words.specs.declared.token.Word.TheVariants.{Name, Number, Gate, Fixed}
use Rattle.syntax.specs.Machine.{index, same, heads}
use Rattle.grammar.specs.Parsing.{kind_of}

numbers_decide : NumbersDecide
numbers_decide j k = search rules

number : (k : Kind) → kind_number k ≡ index k
number Open = refl
number Close = refl
number LeftBrace = refl
number RightBrace = refl
number Comma = refl
number Equals = refl
number Colon = refl
number Op = refl
number Run = refl
number Let = refl
number Mut = refl
number Set = refl
number Using = refl
number In = refl
number If = refl
number Then = refl
number Else = refl
number Meas = refl
number Unit = refl
number Bit = refl
number Int = refl
number Qbit = refl
number Zero = refl
number One = refl

not_true : (b : Bool) → (b ≡ true → ⊥) → b ≡ false
not_true true h = absurd (h refl)
not_true false h = refl

other_kind : (j k : Kind) → (j ≡ k → ⊥) → same j k ≡ false
other_kind j k h = not_true (same j k) (λ e. h ((numbers_decide j k).0 (ap (λ n. eqb n (kind_number k)) (number j) ∙ ap (eqb (index j)) (number k) ∙ e)))

-- the words begin with that kind
pub headed : (k : Kind) (ws : List Word) → Some k ≡ kind_of ws → heads k ws ≡ true
headed k [] e = cc
headed k (Name x i ∷ ws) e = cc
headed k (Number x i n ∷ ws) e = cc
headed k (Gate x i g ∷ ws) e = cc
headed k (Fixed x i l ∷ ws) e = search rules

-- the words begin with another kind
pub not_headed : (j k : Kind) (ws : List Word) → Some j ≡ kind_of ws → (j ≡ k → ⊥) → heads k ws ≡ false
not_headed j k [] e h = refl
not_headed j k (Name x i ∷ ws) e h = refl
not_headed j k (Number x i n ∷ ws) e h = refl
not_headed j k (Gate x i g ∷ ws) e h = refl
not_headed j k (Fixed x i l ∷ ws) e h = other_kind l k (λ q. h cc)

-- they begin with none
pub unheaded : (k : Kind) (ws : List Word) → None ≡ kind_of ws → heads k ws ≡ false
unheaded k [] e = refl
unheaded k (Name x i ∷ ws) e = refl
unheaded k (Number x i n ∷ ws) e = refl
unheaded k (Gate x i g ∷ ws) e = refl
unheaded k (Fixed x i l ∷ ws) e = cc
