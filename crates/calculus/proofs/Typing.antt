-- At most one type; values, their leaves and their handles; substitution.
use mathlib.Core.Path.{◌≡◌, refl, sym, ◌∙◌, ap, subst}
use mathlib.Core.List.{List, map}
use mathlib.Core.Option.{Option, some}
use Prim.Native.Nat.{ℕ}
use native.Mathlib.Omega.{arith}
use lib.Dec.{T}
use lib.ListN.{length, length-append}
use Rattle.calculus.specs.Typing.{OneType, LeavesCounted, NoHandle, Substitution, Renaming}
use Rattle.calculus.specs.Syntax.{Ty, Tys, ◌∷ᵗ◌, leaves_all, the_unit, bit_of, int_of, handle_of, tuple_of, Values, no_values, ◌∷ᵛ◌, types_of, flat, flat_all, Pattern, one, several, names}
use Rattle.calculus.specs.Syntax.{Form, tupling, meas, gate, call, Term, Terms, Op}
use Rattle.calculus.specs.Rules.{Uses, nothing, Binding, type, Scope, extend, Spread, qbits, together, Fits, Has, has_give, has_done, has_name, has_build, has_bind, has_mut, has_set}
use Rattle.calculus.specs.Rules.{has_using, has_if, Parts, parts_none, parts_more, Under, under_none, under_more}
use Rattle.calculus.specs.Steps.{by_entry}
use Rattle.calculus.proofs.Names.{held_dup}
use Rattle.calculus.proofs.Filling.{fill_all, fill_values, fills_entries}

spread_same : {N : Type 0} (xs : Pattern N) (T U : Ty) (Ts Us : Tys) → T ≡ U → Spread xs T Ts → Spread xs U Us → Ts ≡ Us
spread_same (one x) T U Ts Us q h k = cc
spread_same (several xs) T U Ts Us q h k = cc

fits_same : (ops : List Op) (lim : ℕ) (f : Form) (Ts Us : Tys) (T U : Ty) → Ts ≡ Us → Fits ops lim f Ts T → Fits ops lim f Us U → T ≡ U
fits_same ops lim tupling Ts Us T U q h k = cc
fits_same ops lim meas Ts Us T U q h k = h.1 ∙ sym k.1
fits_same ops lim (gate g) Ts Us T U q h k = h.1 ∙ ap together q ∙ sym k.1
fits_same ops lim (call f) Ts Us T U q h k =
    let found = h.2 in let again = k.2 in
    let same : h.0 ≡ k.0 = single found again in
    h.4 ∙ ap (λ (o : Op). o.result) same ∙ sym k.4
  where
    single : {o : Option Op} {a b : Op} → o ≡ some a → o ≡ some b → a ≡ b
    single p q = cc

same_binding : {o : Option Binding} {a b : Binding} → o ≡ some a → o ≡ some b → a ≡ b
same_binding p q = cc

module _ (ops : List Op) (lim : ℕ) where
  mutual
    types_once : {Γ : Scope} {Δ : Uses} {t : Term} {T : Ty} → Has ops lim Γ Δ t T → (Δ' : Uses) (U : Ty) → Has ops lim Γ Δ' t U → T ≡ U
    types_once (has_give q s) Δ' U (has_give q' s') = q ∙ sym q'
    types_once (has_done q s) Δ' U (has_done q' s') = q ∙ sym q'
    types_once (has_name b h q s) Δ' U (has_name b' h' q' s') = q ∙ ap type (same_binding h h') ∙ sym q'
    types_once (has_build {f = f} {T = T} Ts ps fit) Δ' U (has_build Us ps' fit') = fits_same ops lim f Ts Us T U (types_once_all ps Δ' Us ps') fit fit'
    types_once (has_bind {xs = xs} Δ₁ Δ₂ T Ts d h sp u) Δ' U (has_bind Δ₃ Δ₄ T' Us d' h' sp' u') =
        types_once_under u Δ₄ Us U (spread_same xs T T' Ts Us (types_once h Δ₃ T' h') sp sp') u'
    types_once (has_mut {xs = xs} Δ₁ Δ₂ T Ts d h nv dup sp u) Δ' U (has_mut Δ₃ Δ₄ T' Us d' h' nv' dup' sp' u') =
        types_once_under u Δ₄ Us U (spread_same xs T T' Ts Us (types_once h Δ₃ T' h') sp sp') u'
    types_once (has_set Δ₁ Δ₂ T Ts d h nv sp m u) Δ' U (has_set Δ₃ Δ₄ T' Us d' h' nv' sp' m' u') = types_once u Δ₄ U u'
    types_once (has_using {xs = xs} u) Δ' U (has_using u') = types_once_under u Δ' (qbits (length (names xs))) U refl u'
    types_once (has_if Δ₁ Δ₂ d h u w) Δ' U (has_if Δ₃ Δ₄ d' h' u' w') = types_once u Δ₄ U u'

    types_once_all : {Γ : Scope} {Δ : Uses} {ts : Terms} {Ts : Tys} → Parts ops lim Γ Δ ts Ts → (Δ' : Uses) (Us : Tys) → Parts ops lim Γ Δ' ts Us → Ts ≡ Us
    types_once_all (parts_none s) Δ' Us (parts_none s') = refl
    types_once_all (parts_more Δ₁ Δ₂ d h ps) Δ' Us (parts_more {T = T'} {Ts = Us'} Δ₃ Δ₄ d' h' ps') =
        let p = types_once h Δ₃ T' h' in let q = types_once_all ps Δ₄ Us' ps' in cc

    types_once_under : {as_bound : Ty → Binding} {Γ : Scope} {Δ : Uses} {xs : List ℕ} {Ts : Tys} {t : Term} {T : Ty} → Under ops lim as_bound Γ Δ xs Ts t T →
        (Δ' : Uses) (Us : Tys) (U : Ty) → Ts ≡ Us → Under ops lim as_bound Γ Δ' xs Us t U → T ≡ U
    types_once_under (under_none h) Δ' Us U q (under_none h') = types_once h Δ' U h'
    types_once_under {as_bound} {Γ} {xs = xs} {t = t} (under_more {x = x} {xs = ys} {T = A} {Ts = As} Δ'' new d u) Δ' Us U q (under_more {T = B} {Ts = Bs} Δ''' new' d' u') =
        types_once_under u Δ''' Bs U (tails q) (subst (λ (C : Ty). Under ops lim as_bound (extend Γ x (as_bound C)) Δ''' ys Bs t U) (sym (heads q)) u')
      where
        tails : A ∷ᵗ As ≡ B ∷ᵗ Bs → As ≡ Bs
        tails q = cc

        heads : A ∷ᵗ As ≡ B ∷ᵗ Bs → A ≡ B
        heads q = cc

pub one_type : OneType
one_type ops lim Γ Δ Δ' t T U h k = types_once ops lim h Δ' U k

mutual
  pub leaves_counted : LeavesCounted
  leaves_counted the_unit = refl
  leaves_counted (bit_of b) = refl
  leaves_counted (int_of n) = refl
  leaves_counted (handle_of h) = refl
  leaves_counted (tuple_of vs) = leaves_counted_all vs

  pub leaves_counted_all : (vs : Values) → length (flat_all vs) ≡ leaves_all (types_of vs)
  leaves_counted_all no_values = refl
  leaves_counted_all (v ∷ᵛ vs) = omega (arith, length-append (flat v) (flat_all vs), leaves_counted v, leaves_counted_all vs)

pub no_handle : NoHandle
no_handle v d n = held_dup v n d

pub substitution : Substitution
substitution ops lim Γ Δ Δ' xs t U vs u d = fill_values u vs refl Δ' d

pub renaming : Renaming
renaming ops lim Γ Δ xs Ts t U es flat u m = fill_all u (map by_entry es) nothing (fills_entries es Ts flat m) Δ (λ n. omega arith)
