-- The handles that a term is given are those that it comes to, each as often.
use Rattle.std.proofs.Common.{◌≡◌, ℕ, ◌+◌, Bool, true, false, cond, eqb, List, [], ◌∷◌, ◌++◌, refl, ◌∙◌, arith}
use mathlib.Core.Option.{none, some}
use Rattle.calculus.specs.Syntax.{Ty, Tys, linear, Name, var, entry, handle, names, Op, Term, Terms}
use Rattle.calculus.specs.Syntax.{Value, the_unit, bit_of, int_of, handle_of, tuple_of, Values, no_values, ◌∷ᵛ◌}
use Rattle.calculus.specs.Rules.{Uses, spent, held, held_all, Binding, Scope}
use Rattle.calculus.specs.Rules.{Has, has_give, has_done, has_name, has_build, has_bind, has_mut, has_set, has_using, has_if, Parts, parts_none, parts_more, Under, under_none, under_more}
use Rattle.calculus.specs.Peak.{handles, handles_all, without, without_all, outer, outer_all}
use Rattle.histories.specs.Histories.{times}

times_append : (h : ℕ) (ns ms : List Name) → times h (ns ++ ms) ≡ times h ns + times h ms
times_append h [] ms = omega arith
times_append h (n ∷ ns) ms = omega (arith, times_append h ns ms)

times_without : (h x : ℕ) (ns : List Name) → times h (without x ns) ≡ times h ns
times_without h x [] = refl
times_without h x (var y ∷ ns) = go (eqb x y) (times_without h x ns)
  where
    go : (b : Bool) → times h (without x ns) ≡ times h ns → times h (cond b (without x ns) (var y ∷ without x ns)) ≡ times h (var y ∷ ns)
    go true e = omega (arith, e)
    go false e = omega (arith, e)
times_without h x (entry e ∷ ns) = omega (arith, times_without h x ns)
times_without h x (handle k ∷ ns) = omega (arith, times_without h x ns)

mutual
  times_held : (h : ℕ) (v : Value) → held v (handle h) ≡ times h (handles v)
  times_held h the_unit = refl
  times_held h (bit_of b) = refl
  times_held h (int_of n) = refl
  times_held h (handle_of k) = omega arith
  times_held h (tuple_of vs) = times_held_all h vs

  times_held_all : (h : ℕ) (vs : Values) → held_all vs (handle h) ≡ times h (handles_all vs)
  times_held_all h no_values = refl
  times_held_all h (v ∷ᵛ vs) = omega (arith, times_append h (handles v) (handles_all vs), times_held h v, times_held_all h vs)

-- no handle is bound
abbrev pub HandlesFree : Scope → Type 0
HandlesFree Γ = (k : ℕ) → Γ (handle k) ≡ none

times_name : (h : ℕ) (Γ : Scope) (n : Name) (b : Binding) (T : Ty) → HandlesFree Γ → Γ n ≡ some b → spent T n (handle h) ≡ times h (n ∷ [])
times_name h Γ (var x) b T free e = go (linear T)
  where
    go : (c : Bool) → cond {A = ℕ} c 0 0 ≡ 0 + 0
    go true = refl
    go false = refl
times_name h Γ (entry y) b T free e = go (linear T)
  where
    go : (c : Bool) → cond {A = ℕ} c 0 0 ≡ 0 + 0
    go true = refl
    go false = refl
times_name h Γ (handle k) b T free e = let q = free k in let z : ◌≡◌ {A = ℕ} 0 1 = cc in absurd (omega arith)

other : (h x : ℕ) (T : Ty) → spent T (var x) (handle h) ≡ 0
other h x T = go (linear T)
  where
    go : (c : Bool) → cond {A = ℕ} c 0 0 ≡ 0
    go true = refl
    go false = refl

module _ (ops : List Op) (lim h : ℕ) where
  mutual
    pub given_times : {Γ : Scope} {Δ : Uses} {t : Term} {T : Ty} → HandlesFree Γ → Has ops lim Γ Δ t T → Δ (handle h) ≡ times h (outer t)
    given_times f (has_give {v = v} q s) = s (handle h) ∙ times_held h v
    given_times f (has_done {v = v} q s) = s (handle h) ∙ times_held h v
    given_times {Γ} f (has_name {n = n} {T = T} b k q s) = s (handle h) ∙ times_name h Γ n b T f k
    given_times f (has_build Ts ps fit) = given_all f ps
    given_times f (has_bind {xs = xs} {e = e} {t = t} Δ₁ Δ₂ T Ts d k sp u) =
        omega (arith, d (handle h), times_append h (outer e) (without_all (names xs) (outer t)), given_times f k, given_under f u)
    given_times f (has_mut {xs = xs} {e = e} {t = t} Δ₁ Δ₂ T Ts d k nv dup sp u) =
        omega (arith, d (handle h), times_append h (outer e) (without_all (names xs) (outer t)), given_times f k, given_under f u)
    given_times f (has_set {e = e} {t = t} Δ₁ Δ₂ T Ts d k nv sp m u) = omega (arith, d (handle h), times_append h (outer e) (outer t), given_times f k, given_times f u)
    given_times f (has_using u) = given_under f u
    given_times f (has_if {c = c} {t = t} Δ₁ Δ₂ d k u w) = omega (arith, d (handle h), times_append h (outer c) (outer t), given_times f k, given_times f u)

    given_all : {Γ : Scope} {Δ : Uses} {ts : Terms} {Ts : Tys} → HandlesFree Γ → Parts ops lim Γ Δ ts Ts → Δ (handle h) ≡ times h (outer_all ts)
    given_all f (parts_none s) = s (handle h)
    given_all f (parts_more {t = t} {ts = ts} Δ₁ Δ₂ d k ps) = omega (arith, d (handle h), times_append h (outer t) (outer_all ts), given_times f k, given_all f ps)

    given_under : {as_bound : Ty → Binding} {Γ : Scope} {Δ : Uses} {xs : List ℕ} {Ts : Tys} {t : Term} {T : Ty} → HandlesFree Γ → Under ops lim as_bound Γ Δ xs Ts t T →
        Δ (handle h) ≡ times h (without_all xs (outer t))
    given_under f (under_none k) = given_times f k
    given_under {t = t} f (under_more {x = x} {xs = xs} {T = T} Δ' new d u) =
        omega (arith, d (handle h), other h x T, times_without h x (without_all xs (outer t)), given_under (λ j. f j) u)
