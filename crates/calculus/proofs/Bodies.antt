-- The live handles of the bodies, found one operation after the other.
use mathlib.Core.Path.{◌≡◌, refl, sym, ◌∙◌, ap}
use mathlib.Core.List.{List, [], ◌∷◌, ◌++◌}
use Prim.Native.Nat.{ℕ, zero, suc, ◌+◌, ◌<◌}
use native.Mathlib.Omega.{arith}
use native.Mathlib.Nat.{zero-add}
use lib.ListN.{length, get_or}
use Rattle.calculus.specs.Need.{op_list}
use Rattle.calculus.specs.Room.{Body, Bodies, form_end, form_top, end, end_all, top, top_all, Rises, idle, bodies, BodiesFound}
use Rattle.calculus.specs.Syntax.{Ty, Tys, names, Form, tupling, meas, gate, call, Term, Terms, Op}
use Rattle.calculus.specs.Rules.{Uses, Binding, Scope, Fits, Has, has_give, has_done, has_name, has_build, has_bind, has_mut, has_set, has_using, has_if, Parts, parts_none, parts_more}
use Rattle.calculus.specs.Rules.{Under, under_none, under_more}
use Rattle.calculus.proofs.Counting.{found_of}
use Rattle.calculus.proofs.Live.{rise}

module _ (ops : List Op) (lim : ℕ) (o o' : Bodies) (same_below : (f : ℕ) → f < lim → o f ≡ o' f) where
  form_agrees : (f : Form) (Ts : Tys) (T : Ty) → Fits ops lim f Ts T → (b : ℕ) → (form_end o f b ≡ form_end o' f b) × (form_top o f b ≡ form_top o' f b)
  form_agrees tupling Ts T h b = (refl, refl)
  form_agrees meas Ts T h b = (refl, refl)
  form_agrees (gate g) Ts T h b = (refl, refl)
  form_agrees (call f) Ts T h b = let q = same_below f h.1 in (ap (λ (B : Body). B.ends b) q, ap (λ (B : Body). B.tops b) q)

  mutual
    -- a term's live handles rest on the operations that it may call alone
    pub alike : {Γ : Scope} {Δ : Uses} {t : Term} {T : Ty} → Has ops lim Γ Δ t T → (b : ℕ) → (end o b t ≡ end o' b t) × (top o b t ≡ top o' b t)
    alike (has_give q s) b = (refl, refl)
    alike (has_done q s) b = (refl, refl)
    alike (has_name c h q s) b = (refl, refl)
    alike (has_build {f = f} {ts = ts} {T = T} Ts ps fit) b =
        let r = alike_all ps b in
        let q = form_agrees f Ts T fit (end_all o b ts) in
        (q.0 ∙ ap (form_end o' f) r.0, omega (arith, r.1, q.1, ap (form_top o' f) r.0))
    alike (has_bind {e = e} {t = t} Δ₁ Δ₂ T Ts d h sp u) b =
        let r = alike h b in let q = alike_under u (end o b e) in
        (q.0 ∙ ap (λ (i : ℕ). end o' i t) r.0, omega (arith, r.1, q.1, ap (λ (i : ℕ). top o' i t) r.0))
    alike (has_mut {e = e} {t = t} Δ₁ Δ₂ T Ts d h nv dup sp u) b =
        let r = alike h b in let q = alike_under u (end o b e) in
        (q.0 ∙ ap (λ (i : ℕ). end o' i t) r.0, omega (arith, r.1, q.1, ap (λ (i : ℕ). top o' i t) r.0))
    alike (has_set {e = e} {t = t} Δ₁ Δ₂ T Ts d h nv sp m u) b =
        let r = alike h b in let q = alike u (end o b e) in
        (q.0 ∙ ap (λ (i : ℕ). end o' i t) r.0, omega (arith, r.1, q.1, ap (λ (i : ℕ). top o' i t) r.0))
    alike (has_using {xs = xs} u) b = alike_under u (length (names xs) + b)
    alike (has_if {c = c} {t = t} {u = u} Δ₁ Δ₂ d h k k') b =
        let r = alike h b in let q = alike k (end o b c) in let w = alike k' (end o b c) in (
          omega (arith, q.0, w.0, ap (λ (i : ℕ). end o' i t) r.0, ap (λ (i : ℕ). end o' i u) r.0),
          omega (arith, r.1, q.1, w.1, ap (λ (i : ℕ). top o' i t) r.0, ap (λ (i : ℕ). top o' i u) r.0),
        )

    pub alike_all : {Γ : Scope} {Δ : Uses} {ts : Terms} {Ts : Tys} → Parts ops lim Γ Δ ts Ts → (b : ℕ) → (end_all o b ts ≡ end_all o' b ts) × (top_all o b ts ≡ top_all o' b ts)
    alike_all (parts_none s) b = (refl, refl)
    alike_all (parts_more {t = t} {ts = ts} Δ₁ Δ₂ d h ps) b =
        let r = alike h b in let q = alike_all ps (end o b t) in
        (q.0 ∙ ap (λ (i : ℕ). end_all o' i ts) r.0, omega (arith, r.1, q.1, ap (λ (i : ℕ). top_all o' i ts) r.0))

    pub alike_under : {as_bound : Ty → Binding} {Γ : Scope} {Δ : Uses} {xs : List ℕ} {Ts : Tys} {t : Term} {T : Ty} → Under ops lim as_bound Γ Δ xs Ts t T → (b : ℕ) →
        (end o b t ≡ end o' b t) × (top o b t ≡ top o' b t)
    alike_under (under_none h) b = alike h b
    alike_under (under_more Δ' new d u) b = alike_under u b

abbrev body_of : Bodies → Op → Body
body_of o op = record { ends = λ b. end o b op.body; tops = λ b. top o b op.body }

rises_with : (known : List Body) (B : Body) → ((f : ℕ) → Rises (get_or known f idle)) → Rises B → (f : ℕ) → Rises (get_or (known ++ (B ∷ [])) f idle)
rises_with [] B k r zero = r
rises_with [] B k r (suc f) = k f
rises_with (A ∷ known) B k r zero = k 0
rises_with (A ∷ known) B k r (suc f) = rises_with known B (λ g. k (suc g)) r f

all_rise : (known : List Body) → ((f : ℕ) → Rises (get_or known f idle)) → (ops : List Op) → (f : ℕ) → Rises (get_or (op_list idle body_of known ops) f idle)
all_rise known k [] f = k f
all_rise known k (op ∷ ops) f =
    let o : Bodies = λ g. get_or known g idle in
    all_rise (known ++ (body_of o op ∷ [])) (rises_with known (body_of o op) k (λ b b' l. rise o k op.body b b' l)) ops f

pub bodies_found : BodiesFound
bodies_found ops well = record {
  ends_are = λ f op h b.
      let r = found_of idle body_of [] ops f op h in
      ap (λ (B : Body). B.ends b) (rw zero-add at r.1) ∙
      sym (alike_under ops f (bodies ops) (λ g. get_or r.0 g idle) (λ g l. r.2 g (omega arith)) (well f op h) b).0;
  tops_are = λ f op h b.
      let r = found_of idle body_of [] ops f op h in
      ap (λ (B : Body). B.tops b) (rw zero-add at r.1) ∙
      sym (alike_under ops f (bodies ops) (λ g. get_or r.0 g idle) (λ g l. r.2 g (omega arith)) (well f op h) b).1;
  rises = all_rise [] (λ f b b' l. (l, l)) ops;
}
