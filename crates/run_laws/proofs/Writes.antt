-- Writes of a run, one after the other.
use Rattle.std.proofs.Common.{◌≡◌, ℕ, zero, suc, ◌+◌, List, [], ◌∷◌, ◌++◌, map, length, set as put_at, refl, ap, ◌∙◌, arith}
use Rattle.calculus.proofs.Names.{never}
use Rattle.run_laws.specs.Programs.{range}
use Rattle.run_laws.specs.Reads.{wrote}

-- one number more
pub range_more : (x n : ℕ) → range x (suc n) ≡ range x n ++ ((x + n) ∷ [])
range_more x zero = ap (λ (y : ℕ). y ∷ []) (omega arith)
range_more x (suc n) = ap (◌∷◌ x) (range_more (suc x) n ∙ ap (λ (y : ℕ). range (suc x) n ++ (y ∷ [])) (omega arith))

-- one write more
pub wrote_more : {A : Type 0} (xs : List ℕ) (vs : List A) (T : List A) (x : ℕ) (v : A) → length xs ≡ length vs → wrote (xs ++ (x ∷ [])) (vs ++ (v ∷ [])) T ≡ put_at (wrote xs vs T) x v
wrote_more [] [] T x v l = refl
wrote_more [] (w ∷ vs) T x v l = never (omega (arith, l))
wrote_more (y ∷ xs) [] T x v l = never (omega (arith, l))
wrote_more (y ∷ xs) (w ∷ vs) T x v l = wrote_more xs vs (put_at T y w) x v (omega (arith, l))

-- values read elementwise
pub put_map : {A B : Type 0} (f : A → B) (xs : List A) (i : ℕ) (a : A) → map f (put_at xs i a) ≡ put_at (map f xs) i (f a)
put_map f [] i a = refl
put_map f (x ∷ xs) zero a = refl
put_map f (x ∷ xs) (suc i) a = ap (◌∷◌ (f x)) (put_map f xs i a)

pub wrote_map : {A B : Type 0} (f : A → B) (xs : List ℕ) (vs T : List A) → map f (wrote xs vs T) ≡ wrote xs (map f vs) (map f T)
wrote_map f [] vs T = refl
wrote_map f (x ∷ xs) [] T = refl
wrote_map f (x ∷ xs) (v ∷ vs) T = wrote_map f xs vs (put_at T x v) ∙ ap (wrote xs (map f vs)) (put_map f T x v)
