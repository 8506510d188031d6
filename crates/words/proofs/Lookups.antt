-- A search through a table of spellings.
use Rattle.std.proofs.Common.{◌≡◌, ℕ, true, false, cond, List, [], ◌∷◌, map, Some, None, Option, refl, ap, ◌∙◌, Bor}
use Rattle.std.specs.List.{find}
use Rattle.std.specs.Option.{option_map}
use Rattle.std.specs.Str.{bytes_eq}
use Rattle.words.specs.Spellings.{lookup}

-- a row of the code's table
abbrev pub written : {T : Type 0} → Bor (List ℕ) × T → List ℕ × T
written row = (row.0.now, row.1)

looked : {T : Type 0} (w : List ℕ) (rows : List (Bor (List ℕ) × T)) → option_map (λ (row : Bor (List ℕ) × T). row.1) (find (λ (row : Bor (List ℕ) × T). bytes_eq row.0.now w) rows) ≡ lookup w (map written rows)
looked w [] = refl
looked {T} w (row ∷ rows) =
    elim (bytes_eq row.0.now w) as (λ b. option_map (λ (r : Bor (List ℕ) × T). r.1) (cond b (Some row) (find (λ (r : Bor (List ℕ) × T). bytes_eq r.0.now w) rows)) ≡ cond b (Some row.1) (lookup w (map written rows))) [
      | true ↦ refl
      | false ↦ looked w rows
    ]

fused : {T : Type 0} (r : Option (Bor (Bor (List ℕ) × T))) → option_map (λ (x : Bor (Bor (List ℕ) × T)). x.now.1) r ≡ option_map (λ (row : Bor (List ℕ) × T). row.1) (option_map (λ (x : Bor (Bor (List ℕ) × T)). x.now) r)
fused None = refl
fused (Some x) = refl

-- the row that was found says it
pub looked_up : {T : Type 0} (w : List ℕ) (rows : List (Bor (List ℕ) × T)) (r : Option (Bor (Bor (List ℕ) × T))) (o : Option T) → option_map (λ (x : Bor (Bor (List ℕ) × T)). x.now) r ≡ find (λ (row : Bor (List ℕ) × T). bytes_eq row.0.now w) rows → o ≡ option_map (λ (x : Bor (Bor (List ℕ) × T)). x.now.1) r → o ≡ lookup w (map written rows)
looked_up {T} w rows r o found mapped =
    mapped ∙ fused r ∙ ap (option_map (λ (row : Bor (List ℕ) × T). row.1)) found ∙ looked w rows
