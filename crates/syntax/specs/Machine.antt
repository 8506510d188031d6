-- The words read one by one, with a stack of what is still wanted.
use Rattle.std.specs.Prelude.{◌≡◌, ℕ, ◌≤◌, Bool, true, false, cond, List, [], ◌∷◌, ◌++◌, length, drop, ◌==◌}
use Rattle.std.proofs.Math.Option.{Option, none, some}
use Rattle.words.specs.declared.token.Kind.{Kind}
use Rattle.words.specs.declared.token.Kind.TheVariants.{Open, Close, LeftBrace, RightBrace, Comma, Equals, Colon, Op, Run, Let, Mut, Set, Using, In, If, Then, Else, Meas, Unit, Bit, Int, Qbit, Zero, One}
use Rattle.words.specs.declared.token.Word.{Word}
use Rattle.words.specs.declared.token.Word.TheVariants.{Name, Number, Gate, Fixed}

-- which of the kinds it is
abbrev pub index : Kind → ℕ
index Open = 0
index Close = 1
index LeftBrace = 2
index RightBrace = 3
index Comma = 4
index Equals = 5
index Colon = 6
index Op = 7
index Run = 8
index Let = 9
index Mut = 10
index Set = 11
index Using = 12
index In = 13
index If = 14
index Then = 15
index Else = 16
index Meas = 17
index Unit = 18
index Bit = 19
index Int = 20
index Qbit = 21
index Zero = 22
index One = 23

abbrev pub same : Kind → Kind → Bool
same j k = index j == index k

-- the word is of that kind
abbrev pub is : Kind → Word → Bool
is k (Name x i) = false
is k (Number x i n) = false
is k (Gate x i g) = false
is k (Fixed x i j) = same j k

pub data Want : Type 0 where
  this : Kind → Want
  a_name : Want
  pattern : Want
  -- {, name} )
  names : Want
  a_type : Want
  -- type {, type} )
  types : Want
  -- {, type} )
  more_types : Want
  -- name : type
  parameter : Want
  -- the parameters of an operation and the parenthesis that ends them
  parameters : Want
  -- {, name : type} )
  more_parameters : Want
  term : Want
  plain : Want
  -- what may follow a name: the parenthesis of a call, or nothing
  after_name : Want
  -- the arguments of a call and the parenthesis that ends them
  arguments : Want
  -- term {, term} )
  terms : Want
  -- {, term} )
  more : Want
  -- after a parenthesis that opens a plain term
  after_open : Want
  -- after the first term in it
  in_parens : Want
  operation : Want
  listing : Want

-- What is wanted after a first word of the thing wanted; none: it does not begin with that word.
abbrev pub name_by : Word → Option (List Want)
name_by (Name x i) = some []
name_by (Number x i n) = none
name_by (Gate x i g) = none
name_by (Fixed x i k) = none

abbrev pub type_by : Word → Option (List Want)
type_by w =
    cond (is Unit w) (some [])
    (cond (is Bit w) (some [])
    (cond (is Int w) (some [])
    (cond (is Qbit w) (some [])
    (cond (is Open w) (some (a_type ∷ this Comma ∷ types ∷ []))
    none))))

abbrev pub parameter_by : Word → Option (List Want)
parameter_by (Name x i) = some (this Colon ∷ a_type ∷ [])
parameter_by (Number x i n) = none
parameter_by (Gate x i g) = none
parameter_by (Fixed x i k) = none

abbrev pub plain_by : Word → Option (List Want)
plain_by (Name x i) = some (after_name ∷ [])
plain_by (Number x i n) = some []
plain_by (Gate x i g) = some (this Open ∷ terms ∷ [])
plain_by (Fixed x i k) =
    cond (same k Zero) (some [])
    (cond (same k One) (some [])
    (cond (same k Meas) (some (this Open ∷ term ∷ this Close ∷ []))
    (cond (same k Open) (some (after_open ∷ []))
    none)))

-- after let, mut or set
abbrev pub bound : List Want
bound = pattern ∷ this Equals ∷ term ∷ this In ∷ term ∷ []

abbrev pub term_by : Word → Option (List Want)
term_by w =
    cond (is Let w) (some bound)
    (cond (is Mut w) (some bound)
    (cond (is Set w) (some bound)
    (cond (is Using w) (some (pattern ∷ this In ∷ term ∷ []))
    (cond (is If w) (some (term ∷ this Then ∷ term ∷ this Else ∷ term ∷ []))
    (plain_by w)))))

abbrev pub operation_by : Word → Option (List Want)
operation_by w = cond (is Op w) (some (a_name ∷ this Open ∷ parameters ∷ this Colon ∷ a_type ∷ this LeftBrace ∷ term ∷ this RightBrace ∷ [])) none

abbrev pub followed : Option (List Want) → Want → Option (List Want)
followed none y = none
followed (some ys) y = some (ys ++ y ∷ [])

-- a closing parenthesis, or a comma and then these
abbrev pub closes_or : List Want → Word → Option (List Want)
closes_or ys w = cond (is Close w) (some []) (cond (is Comma w) (some ys) none)

abbrev pub expand : Want → Word → Option (List Want)
expand (this k) w = cond (is k w) (some []) none
expand a_name w = name_by w
expand pattern w = cond (is Open w) (some (a_name ∷ this Comma ∷ a_name ∷ names ∷ [])) (name_by w)
expand names w = closes_or (a_name ∷ names ∷ []) w
expand a_type w = type_by w
expand types w = followed (type_by w) more_types
expand more_types w = closes_or (types ∷ []) w
expand parameter w = parameter_by w
expand parameters w = cond (is Close w) (some []) (followed (parameter_by w) more_parameters)
expand more_parameters w = closes_or (parameter ∷ more_parameters ∷ []) w
expand term w = term_by w
expand plain w = plain_by w
expand after_name w = cond (is Open w) (some (arguments ∷ [])) none
expand arguments w = cond (is Close w) (some []) (followed (term_by w) more)
expand terms w = followed (term_by w) more
expand more w = closes_or (terms ∷ []) w
expand after_open w = cond (is Close w) (some []) (followed (term_by w) in_parens)
expand in_parens w = closes_or (terms ∷ []) w
expand operation w = operation_by w
expand listing w = cond (is Run w) (some (term ∷ [])) (followed (operation_by w) listing)

-- no word need be there for it
abbrev pub optional : Want → Bool
optional (this k) = false
optional a_name = false
optional pattern = false
optional names = false
optional a_type = false
optional types = false
optional more_types = false
optional parameter = false
optional parameters = false
optional more_parameters = false
optional term = false
optional plain = false
optional after_name = true
optional arguments = false
optional terms = false
optional more = false
optional after_open = false
optional in_parens = false
optional operation = false
optional listing = false

abbrev pub take_up : Option (List Want) → List Want → Option (List Want) → Option (List Want)
take_up none s o = o
take_up (some ys) s o = some (ys ++ s)

-- what is wanted after a word; none: the word does not fit
abbrev pub read : List Want → Word → Option (List Want)
read [] w = none
read (x ∷ s) w = take_up (expand x w) s (cond (optional x) (read s w) none)

-- how reading ends: all was read and nothing more is wanted, or it is stuck before these words
pub data End : Type 0 where
  accepted : End
  stuck : List Word → End

abbrev pub at_end : List Want → End
at_end [] = accepted
at_end (x ∷ s) = cond (optional x) (at_end s) (stuck [])

abbrev pub onward : Option (List Want) → List Word → (List Want → End) → End
onward none ws f = stuck ws
onward (some s) ws f = f s

abbrev pub run : List Want → List Word → End
run s [] = at_end s
run s (w ∷ ws) = onward (read s w) (w ∷ ws) (λ s'. run s' ws)

-- the first word is of that kind
abbrev pub heads : Kind → List Word → Bool
heads k [] = false
heads k (w ∷ ws) = is k w

-- What was wanted at the word `at` has come to the word i, where the things ys are still wanted, whatever is wanted after it.
pub record Way (x : Want) (ws : List Word) (at : ℕ) (ys : List Want) (i : ℕ) : Type 0 where
  pub from : at ≤ i
  pub within : i ≤ length ws
  pub runs : (s : List Want) → run (x ∷ s) (drop at ws) ≡ run (ys ++ s) (drop i ws)

-- What was wanted at the word `at` is not there: the words fit up to the word p.
pub record Stops (x : Want) (ws : List Word) (at p : ℕ) : Type 0 where
  pub within : p ≤ length ws
  pub runs : (s : List Want) → run (x ∷ s) (drop at ws) ≡ stuck (drop p ws)
