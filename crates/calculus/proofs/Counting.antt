-- What is found of the operations one after the other; the steps of their bodies.
use mathlib.Core.Path.{◌≡◌, refl, sym, ◌∙◌, ap}
use mathlib.Core.List.{List, [], ◌∷◌, ◌++◌}
use mathlib.Core.Option.{some}
use Prim.Native.Nat.{ℕ, zero, suc, ◌+◌, ◌<◌}
use native.Mathlib.Omega.{arith}
use native.Mathlib.Nat.{add-zero, zero-add}
use lib.ListN.{length, get_or, length-append, get_or-append}
use Rattle.calculus.specs.Need.{body_steps, steps, steps_all, op_list, body_costs}
use Rattle.calculus.specs.Syntax.{Ty, Tys, Form, tupling, meas, gate, call, Term, Terms, Op}
use Rattle.calculus.specs.Rules.{Uses, Binding, Scope, nth, Fits, Has, has_give, has_done, has_name, has_build, has_bind, has_mut, has_set, has_using, has_if, Parts, parts_none, parts_more}
use Rattle.calculus.specs.Rules.{Under, under_none, under_more}
use Rattle.calculus.specs.Laws.{Counted}
use Rattle.calculus.proofs.Names.{never}

module _ (ops : List Op) (lim : ℕ) (c c' : ℕ → ℕ) (same_below : (f : ℕ) → f < lim → c f ≡ c' f) where
  form_agrees : (f : Form) (Ts : Tys) (T : Ty) → Fits ops lim f Ts T → body_steps c f ≡ body_steps c' f
  form_agrees tupling Ts T h = refl
  form_agrees meas Ts T h = refl
  form_agrees (gate g) Ts T h = refl
  form_agrees (call f) Ts T h = same_below f h.1

  mutual
    -- a term's steps rest on the operations that it may call alone
    pub agrees : {Γ : Scope} {Δ : Uses} {t : Term} {T : Ty} → Has ops lim Γ Δ t T → steps c t ≡ steps c' t
    agrees (has_give q s) = refl
    agrees (has_done q s) = refl
    agrees (has_name b h q s) = refl
    agrees (has_build {f = f} {T = T} Ts ps fit) = omega (arith, agrees_all ps, form_agrees f Ts T fit)
    agrees (has_bind Δ₁ Δ₂ T Ts d h sp u) = omega (arith, agrees h, agrees_under u)
    agrees (has_mut Δ₁ Δ₂ T Ts d h nv dup sp u) = omega (arith, agrees h, agrees_under u)
    agrees (has_set Δ₁ Δ₂ T Ts d h nv sp m u) = omega (arith, agrees h, agrees u)
    agrees (has_using u) = omega (arith, agrees_under u)
    agrees (has_if Δ₁ Δ₂ d h u u') = omega (arith, agrees h, agrees u, agrees u')

    pub agrees_all : {Γ : Scope} {Δ : Uses} {ts : Terms} {Ts : Tys} → Parts ops lim Γ Δ ts Ts → steps_all c ts ≡ steps_all c' ts
    agrees_all (parts_none s) = refl
    agrees_all (parts_more Δ₁ Δ₂ d h ps) = omega (arith, agrees h, agrees_all ps)

    pub agrees_under : {as_bound : Ty → Binding} {Γ : Scope} {Δ : Uses} {xs : List ℕ} {Ts : Tys} {t : Term} {T : Ty} → Under ops lim as_bound Γ Δ xs Ts t T → steps c t ≡ steps c' t
    agrees_under (under_none h) = agrees h
    agrees_under (under_more Δ' new d u) = agrees_under u

module _ {A : Type 0} (d : A) (m : (ℕ → A) → Op → A) where
  getD_end : (s : List A) (a : A) → get_or (s ++ (a ∷ [])) (length s) d ≡ a
  getD_end [] a = refl
  getD_end (b ∷ s) a = getD_end s a

  kept_front : (known : List A) (ops : List Op) (k : ℕ) → k < length known → get_or (op_list d m known ops) k d ≡ get_or known k d
  kept_front known [] k l = refl
  kept_front known (op ∷ ops) k l =
      let a = m (λ f. get_or known f d) op in
      kept_front (known ++ (a ∷ [])) ops k (omega (arith, length-append known (a ∷ []))) ∙ get_or-append known (a ∷ []) d k l

  -- what is known of an operation is found from what is known of those above it
  pub found_of : (known : List A) (ops : List Op) (k : ℕ) (op : Op) → nth ops k ≡ some op →
      (before : List A) × (get_or (op_list d m known ops) (length known + k) d ≡ m (λ f. get_or before f d) op) ×
      ((g : ℕ) → g < length known + k → get_or (op_list d m known ops) g d ≡ get_or before g d)
  found_of known [] k op h = never cc
  found_of known (o ∷ ops) zero op h =
      let a = m (λ f. get_or known f d) o in
      let same : o ≡ op = cc in (
        known,
        rw add-zero (kept_front (known ++ (a ∷ [])) ops (length known) (omega (arith, length-append known (a ∷ []))) ∙ getD_end known a ∙ ap (λ (p : Op). m (λ f. get_or known f d) p) same),
        λ g l. kept_front known (o ∷ ops) g (omega arith),
      )
  found_of known (o ∷ ops) (suc k) op h =
      let a = m (λ f. get_or known f d) o in
      let r = found_of (known ++ (a ∷ [])) ops k op h in
      let e : length (known ++ (a ∷ [])) + k ≡ length known + suc k = omega (arith, length-append known (a ∷ [])) in
      (r.0, rw (← e) r.1, λ g l. r.2 g (omega (arith, e, l)))

pub counted : Counted
counted ops well f op h =
    let r = found_of 0 (λ c op. steps c op.body) [] ops f op h in
    (rw zero-add at r.1) ∙ sym (agrees_under ops f (body_costs ops) (λ g. get_or r.0 g 0) (λ g l. r.2 g (omega arith)) (well f op h))
