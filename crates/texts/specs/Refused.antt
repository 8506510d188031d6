-- The line of a refusal, byte by byte.
use Rattle.std.specs.Prelude.{ℕ, List, [], ◌∷◌, ◌++◌, decimal}
use Rattle.faults.specs.declared.fault.Diagnosis.{Diagnosis}
use Rattle.faults.specs.Faults.{layer_word}

abbrev pub blank : List ℕ
blank = 32 ∷ []

abbrev pub line_feed : List ℕ
line_feed = 10 ∷ []

-- "refused " as bytes
abbrev pub refused_word : List ℕ
refused_word = 114 ∷ 101 ∷ 102 ∷ 117 ∷ 115 ∷ 101 ∷ 100 ∷ 32 ∷ []

-- refused, the layer, the number and the place, with blanks between, and a line feed
abbrev pub refused_text : Diagnosis → List ℕ
refused_text d = refused_word ++ (layer_word d.layer ++ (blank ++ (decimal d.number ++ (blank ++ (decimal d.place ++ line_feed)))))
