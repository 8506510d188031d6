-- The classes of bytes of a listing.
use Rattle.std.specs.Prelude.{ℕ, Bool, ◌||◌, ◌==◌}
use Rattle.std.specs.Char.{is_ascii_alphanumeric, is_ascii_alphabetic}
use Rattle.std.specs.Int.{is_in_range}

-- a space or a line feed
abbrev pub blank : ℕ → Bool
blank b = b == 32 || b == 10

abbrev pub letter : ℕ → Bool
letter b = is_ascii_alphabetic b

abbrev pub digit : ℕ → Bool
digit b = is_in_range 48 57 b

-- a letter or a digit
abbrev pub inner : ℕ → Bool
inner b = is_ascii_alphanumeric b
