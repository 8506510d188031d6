-- The refused line, as far as there is room.
use Rattle.std.proofs.Common.{◌≡◌, ℕ, ◌^◌, ◌<◌, ◌≤◌, List, [], ◌++◌, length, append_assoc, arith}
use Rattle.std.proofs.lemmas.List.{length-append, take_all}
use Rattle.lists.proofs.Bounded.{fit_fit}
use Rattle.std.proofs.lemmas.Fmt.{length-decimal-le}
use Rattle.faults.specs.declared.fault.Diagnosis.{Diagnosis}
use Rattle.faults.specs.declared.fault.Layer.{Layer}
use Rattle.faults.specs.declared.fault.Layer.TheVariants.{Machine, Word, Grammar, Rule, Need, Bench}
use Rattle.texts.specs.Refused.{refused_text}
use Rattle.faults.specs.Faults.{layer_word}
use Rattle.texts.specs.Texts.{fitted}

layer_short : (l : Layer) → length (layer_word l) ≤ 7
layer_short Machine = omega arith
layer_short Word = omega arith
layer_short Grammar = omega arith
layer_short Rule = omega arith
layer_short Need = omega arith
layer_short Bench = omega arith

pub refused_short : (d : Diagnosis) → d.number < 2 ^ 8 → d.place < 2 ^ 64 → length (refused_text d) ≤ 256
refused_short d n p =
    let a = layer_short d.layer in
    let b = length-decimal-le 20 d.number (omega arith) (omega arith) (omega arith) in
    let c = length-decimal-le 20 d.place (omega arith) (omega arith) p in
    simp length-append (omega arith)

-- seven pieces, one after the other
pub seven : (t₀ t₁ t₂ t₃ t₄ t₅ t₆ t₇ a b c d e f g : List ℕ) → t₀ ≡ [] →
    t₁ ≡ fitted (t₀ ++ a) → t₂ ≡ fitted (t₁ ++ b) → t₃ ≡ fitted (t₂ ++ c) → t₄ ≡ fitted (t₃ ++ d) → t₅ ≡ fitted (t₄ ++ e) → t₆ ≡ fitted (t₅ ++ f) → t₇ ≡ fitted (t₆ ++ g) →
    length (a ++ (b ++ (c ++ (d ++ (e ++ (f ++ g)))))) ≤ 256 → t₇ ≡ a ++ (b ++ (c ++ (d ++ (e ++ (f ++ g)))))
seven t₀ t₁ t₂ t₃ t₄ t₅ t₆ t₇ a b c d e f g z p₁ p₂ p₃ p₄ p₅ p₆ p₇ short =
    simp (p₇, p₆, p₅, p₄, p₃, p₂, p₁, z, fit_fit, append_assoc) (take_all 256 (a ++ (b ++ (c ++ (d ++ (e ++ (f ++ g)))))) short)
