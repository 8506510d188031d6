-- The kinds by number, in the order in which they are declared.
use Rattle.std.specs.Prelude.{◌≡◌, ℕ, Decides, nat_eq}
use Rattle.std.specs.Ordering.{on}
use Rattle.words.specs.declared.token.Kind.{Kind}
use Rattle.words.specs.declared.token.Kind.TheVariants.{Open, Close, LeftBrace, RightBrace, Comma, Equals, Colon, Op, Run, Let, Mut, Set, Using, In, If, Then, Else, Meas, Unit, Bit, Int, Qbit, Zero, One}

abbrev pub kind_number : Kind → ℕ
kind_number Open = 0
kind_number Close = 1
kind_number LeftBrace = 2
kind_number RightBrace = 3
kind_number Comma = 4
kind_number Equals = 5
kind_number Colon = 6
kind_number Op = 7
kind_number Run = 8
kind_number Let = 9
kind_number Mut = 10
kind_number Set = 11
kind_number Using = 12
kind_number In = 13
kind_number If = 14
kind_number Then = 15
kind_number Else = 16
kind_number Meas = 17
kind_number Unit = 18
kind_number Bit = 19
kind_number Int = 20
kind_number Qbit = 21
kind_number Zero = 22
kind_number One = 23

-- kinds of one number are the same kind, so a comparison of the numbers says whether two kinds are the same
abbrev pub NumbersDecide : Type 0
NumbersDecide = (j k : Kind) → Decides (on kind_number nat_eq j k) (j ≡ k)
