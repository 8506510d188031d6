-- Net and peak from the pieces.
use mathlib.Core.Path.{◌≡◌, refl, sym, ◌∙◌, ap}
use mathlib.Core.List.{List, []}
use Prim.Native.Nat.{ℕ, ◌+◌, ◌<◌}
use native.Mathlib.Omega.{arith}
use native.Mathlib.Nat.{zero-add}
use lib.ListN.{length, get_or}
use lib.IntN.{ℤ, pos, negsuc, ◌+ℤ◌, ◌-ℤ◌}
use borrow.Author.Differences.{sum_is_lem}
use Rattle.calculus.specs.Pieces.{form_net, piece_net, piece_net_all, piece_peak, piece_peak_all, piece_peaks, NetByPieces, PeakByPieces, PiecesFound, NeedByPieces}
use Rattle.calculus.specs.Peak.{maxℤ, without_all, outer, outer_all, spent_leaves, net, body_peak, peak, peak_parts, peak_under, Regular}
use Rattle.calculus.specs.Syntax.{Ty, bit, Tys, qbit_leaves, qbit_leaves_all, names, Form, tupling, meas, gate, call, Term, Terms, Op}
use Rattle.calculus.specs.Rules.{Uses, nothing, Binding, Scope, nowhere, qbits, Fits, Has, has_give, has_done, has_name, has_build, has_bind, has_mut, has_set, has_using, has_if, Parts}
use Rattle.calculus.specs.Rules.{parts_none, parts_more, Under, under_none, under_more}
use Rattle.calculus.proofs.Differences.{IsDiff, diff_net, diff_same}
use Rattle.calculus.proofs.Need.{regular_nowhere, peak_of_listing}
use Rattle.calculus.proofs.Counting.{found_of}
use Rattle.calculus.proofs.Leaves.{spent_bound}
use Rattle.calculus.proofs.Peak.{name_has, spread_leaves, together_leaves, qbits_leaves, set_plain}
use Rattle.calculus.proofs.Linear.{spent_append, plain_leaves, value_leaves, regular_extend, BoundWell, fixed_well, settable_well}
use Rattle.calculus.proofs.Tables.{spread_plain, plain_spread}

add_net : (ops : List Op) (lim : ℕ) (f : Form) (As : Tys) (A : Ty) → Fits ops lim f As A → (z : ℤ) (w : ℕ) → IsDiff z (qbit_leaves_all As) w → IsDiff (z +ℤ form_net ops f) (qbit_leaves A) w
add_net ops lim tupling As A fit z w h = rw fit.0 (omega (arith, h, sum_is_lem z (pos 0)))
add_net ops lim meas As A fit z w h = rw fit.1 (let k = rw fit.0 at h in omega (arith, k, sum_is_lem z (negsuc 0)))
add_net ops lim (gate g) As A fit z w h = rw (fit.1, together_leaves As) (omega (arith, h, sum_is_lem z (pos 0)))
add_net ops lim (call f) As A fit z w h =
    let q = qbit_leaves fit.0.result in
    let a = qbit_leaves_all fit.0.types in
    rw (fit.4, fit.2) (let k = rw fit.3 at h in omega (arith, k, sum_is_lem z (pos q -ℤ pos a), diff_net q a))

module _ (ops : List Op) (lim : ℕ) where
  mutual
    -- the net adds up
    net_diff : {Γ : Scope} {Δ : Uses} {t : Term} {A : Ty} → Regular Γ → Has ops lim Γ Δ t A → IsDiff (piece_net ops t) (qbit_leaves A) (spent_leaves Γ (outer t))
    net_diff {Γ} r (has_give {v = v} q s) = omega (arith, value_leaves Γ v, ap qbit_leaves q)
    net_diff {Γ} r (has_done {v = v} q s) = omega (arith, value_leaves Γ v, ap qbit_leaves q)
    net_diff {Γ} r (has_name {n = n} b h q s) = omega (arith, name_has Γ n b r h, ap qbit_leaves q)
    net_diff {Γ} {A = A} r (has_build {f = f} {ts = ts} As ps fit) =
        add_net ops lim f As A fit (piece_net_all ops ts) (spent_leaves Γ (outer_all ts)) (net_diff_all r ps)
    net_diff {Γ} r (has_bind {xs = xs} {e = e} {t = t} Δ₁ Δ₂ A As d h sp u) =
        omega (
          arith,
          spent_append Γ (outer e) (without_all (names xs) (outer t)),
          net_diff r h,
          net_diff_under r (fixed_well As) u,
          spread_leaves xs A As sp,
          sum_is_lem (piece_net ops e) (piece_net ops t),
        )
    net_diff {Γ} r (has_mut {xs = xs} {e = e} {t = t} Δ₁ Δ₂ A As d h nv dup sp u) =
        omega (
          arith,
          spent_append Γ (outer e) (without_all (names xs) (outer t)),
          net_diff r h,
          net_diff_under r (settable_well As (plain_spread xs A As sp dup)) u,
          spread_leaves xs A As sp,
          sum_is_lem (piece_net ops e) (piece_net ops t),
        )
    net_diff {Γ} r (has_set {ns = ns} {e = e} {t = t} Δ₁ Δ₂ A As d h nv sp m u) =
        omega (
          arith,
          spent_append Γ (outer e) (outer t),
          net_diff r h,
          net_diff r u,
          plain_leaves A (spread_plain ns A As sp (set_plain r m)),
          sum_is_lem (piece_net ops e) (piece_net ops t),
        )
    net_diff r (has_using {xs = xs} {t = t} u) =
        let n = length (names xs) in
        omega (arith, net_diff_under r (fixed_well (qbits n)) u, qbits_leaves n, sum_is_lem (pos n) (piece_net ops t))
    net_diff {Γ} r (has_if {c = c} {t = t} Δ₁ Δ₂ d h u w) =
        omega (arith, spent_append Γ (outer c) (outer t), net_diff r h, net_diff r u, sum_is_lem (piece_net ops c) (piece_net ops t))

    net_diff_all : {Γ : Scope} {Δ : Uses} {ts : Terms} {As : Tys} → Regular Γ → Parts ops lim Γ Δ ts As → IsDiff (piece_net_all ops ts) (qbit_leaves_all As) (spent_leaves Γ (outer_all ts))
    net_diff_all r (parts_none s) = refl
    net_diff_all {Γ} r (parts_more {t = t} {ts = ts} Δ₁ Δ₂ d h ps) =
        omega (arith, spent_append Γ (outer t) (outer_all ts), net_diff r h, net_diff_all r ps, sum_is_lem (piece_net ops t) (piece_net_all ops ts))

    net_diff_under : {k : Ty → Binding} {Γ : Scope} {Δ : Uses} {xs : List ℕ} {As : Tys} {t : Term} {A : Ty} → Regular Γ → BoundWell k As → Under ops lim k Γ Δ xs As t A →
        IsDiff (piece_net ops t) (qbit_leaves A) (spent_leaves Γ (without_all xs (outer t)) + qbit_leaves_all As)
    net_diff_under r w (under_none h) = omega (arith, net_diff r h)
    net_diff_under {k} {Γ} {Δ} r w (under_more {x = x} {T = B} Δ' new d u) =
        omega (arith, net_diff_under (regular_extend x (k B) w.1 r) w.2 u, spent_bound r x w.0 w.1 w.2 Δ Δ' new.1 d u)

pub net_by_pieces : NetByPieces
net_by_pieces ops lim Γ Δ t A r h =
    diff_same (piece_net ops t) (net Γ t A) (qbit_leaves A) (spent_leaves Γ (outer t)) (net_diff ops lim r h) (diff_net (qbit_leaves A) (spent_leaves Γ (outer t)))

-- one piece after another
both_same : (a b c d n m : ℤ) → a ≡ b → c ≡ d → n ≡ m → maxℤ (pos 0) (maxℤ a (n +ℤ c)) ≡ maxℤ (pos 0) (maxℤ b (m +ℤ d))
both_same a b c d n m p q r = rw (p, q, r)

module _ (ops : List Op) (P : ℕ → ℤ) (lim : ℕ) where
  mutual
    peak_same : {Γ : Scope} {Δ : Uses} {t : Term} {A : Ty} → Regular Γ → (d : Has ops lim Γ Δ t A) → piece_peak ops P t ≡ peak ops lim P d
    peak_same r (has_give q s) = refl
    peak_same r (has_done q s) = refl
    peak_same r (has_name b h q s) = refl
    peak_same r (has_build {f = f} As ps fit) = ap (maxℤ (pos 0)) (peak_same_all r f (pos 0) (pos 0) refl ps)
    peak_same {Γ} r (has_bind {e = e} Δ₁ Δ₂ A As d h sp u) =
        both_same _ _ _ _ (piece_net ops e) (net Γ e A) (peak_same r h) (peak_same_under r (fixed_well As) u) (net_by_pieces ops lim Γ Δ₁ e A r h)
    peak_same {Γ} r (has_mut {xs = xs} {e = e} Δ₁ Δ₂ A As d h nv dup sp u) =
        both_same _ _ _ _ (piece_net ops e) (net Γ e A) (peak_same r h) (peak_same_under r (settable_well As (plain_spread xs A As sp dup)) u) (net_by_pieces ops lim Γ Δ₁ e A r h)
    peak_same {Γ} r (has_set {e = e} Δ₁ Δ₂ A As d h nv sp m u) =
        both_same _ _ _ _ (piece_net ops e) (net Γ e A) (peak_same r h) (peak_same r u) (net_by_pieces ops lim Γ Δ₁ e A r h)
    peak_same r (has_using {xs = xs} u) = ap (λ (z : ℤ). pos (length (names xs)) +ℤ z) (peak_same_under r (fixed_well (qbits (length (names xs)))) u)
    peak_same {Γ} r (has_if {c = c} Δ₁ Δ₂ d h u w) =
        both_same _ _ _ _ (piece_net ops c) (net Γ c bit) (peak_same r h) (two (peak_same r u) (peak_same r w)) (net_by_pieces ops lim Γ Δ₁ c bit r h)
      where
        two : {x y z v : ℤ} → x ≡ y → z ≡ v → maxℤ x z ≡ maxℤ y v
        two p q = rw (p, q)

    peak_same_all : {Γ : Scope} {Δ : Uses} {ts : Terms} {As : Tys} → Regular Γ → (f : Form) (n m : ℤ) → n ≡ m → (ps : Parts ops lim Γ Δ ts As) →
        piece_peak_all ops P f n ts ≡ peak_parts ops lim P f m ps
    peak_same_all r f n m q (parts_none s) = ap (body_peak P f) q
    peak_same_all {Γ} r f n m q (parts_more {t = t} {T = B} Δ₁ Δ₂ d h ps) =
        pieces (peak_same r h) (peak_same_all r f (n +ℤ piece_net ops t) (m +ℤ net Γ t B) (sums q (net_by_pieces ops lim Γ Δ₁ t B r h)) ps) q
      where
        sums : {x y z v : ℤ} → x ≡ y → z ≡ v → x +ℤ z ≡ y +ℤ v
        sums p q = rw (p, q)

        pieces : {x y z v i j : ℤ} → x ≡ y → z ≡ v → i ≡ j → maxℤ (i +ℤ x) z ≡ maxℤ (j +ℤ y) v
        pieces p q k = rw (p, q, k)

    peak_same_under : {k : Ty → Binding} {Γ : Scope} {Δ : Uses} {xs : List ℕ} {As : Tys} {t : Term} {A : Ty} → Regular Γ → BoundWell k As → (u : Under ops lim k Γ Δ xs As t A) →
        piece_peak ops P t ≡ peak_under ops lim P u
    peak_same_under r w (under_none h) = peak_same r h
    peak_same_under {k} r w (under_more {x = x} {T = B} Δ' new d u) = peak_same_under (regular_extend x (k B) w.1 r) w.2 u

pub peak_by_pieces : PeakByPieces
peak_by_pieces ops P lim Γ Δ t A r d = peak_same ops P lim r d

-- a term's peak rests on the operations that it may call alone
module _ (ops : List Op) (lim : ℕ) (P P' : ℕ → ℤ) (same_below : (f : ℕ) → f < lim → P f ≡ P' f) where
  last_agrees : (f : Form) (As : Tys) (A : Ty) → Fits ops lim f As A → (n : ℤ) → body_peak P f n ≡ body_peak P' f n
  last_agrees tupling As A h n = refl
  last_agrees meas As A h n = refl
  last_agrees (gate g) As A h n = refl
  last_agrees (call f) As A h n = ap (λ (z : ℤ). n +ℤ z) (same_below f h.1)

  mutual
    peak_agrees : {Γ : Scope} {Δ : Uses} {t : Term} {A : Ty} → Has ops lim Γ Δ t A → piece_peak ops P t ≡ piece_peak ops P' t
    peak_agrees (has_give q s) = refl
    peak_agrees (has_done q s) = refl
    peak_agrees (has_name b h q s) = refl
    peak_agrees (has_build {f = f} {T = A} As ps fit) = ap (maxℤ (pos 0)) (peak_agrees_all f (pos 0) (last_agrees f As A fit) ps)
    peak_agrees (has_bind Δ₁ Δ₂ A As d h sp u) = rw (peak_agrees h, peak_agrees_under u)
    peak_agrees (has_mut Δ₁ Δ₂ A As d h nv dup sp u) = rw (peak_agrees h, peak_agrees_under u)
    peak_agrees (has_set Δ₁ Δ₂ A As d h nv sp m u) = rw (peak_agrees h, peak_agrees u)
    peak_agrees (has_using u) = rw (peak_agrees_under u)
    peak_agrees (has_if Δ₁ Δ₂ d h u w) = rw (peak_agrees h, peak_agrees u, peak_agrees w)

    peak_agrees_all : {Γ : Scope} {Δ : Uses} {ts : Terms} {As : Tys} (f : Form) (n : ℤ) → ((i : ℤ) → body_peak P f i ≡ body_peak P' f i) → Parts ops lim Γ Δ ts As →
        piece_peak_all ops P f n ts ≡ piece_peak_all ops P' f n ts
    peak_agrees_all f n k (parts_none s) = k n
    peak_agrees_all f n k (parts_more {t = t} Δ₁ Δ₂ d h ps) = rw (peak_agrees h, peak_agrees_all f (n +ℤ piece_net ops t) k ps)

    peak_agrees_under : {k : Ty → Binding} {Γ : Scope} {Δ : Uses} {xs : List ℕ} {As : Tys} {t : Term} {A : Ty} → Under ops lim k Γ Δ xs As t A → piece_peak ops P t ≡ piece_peak ops P' t
    peak_agrees_under (under_none h) = peak_agrees h
    peak_agrees_under (under_more Δ' new d u) = peak_agrees_under u

pub pieces_found : PiecesFound
pieces_found ops well f op h =
    let r = found_of (pos 0) (λ P o. piece_peak ops P o.body) [] ops f op h in
    (rw zero-add at r.1) ∙
    sym (peak_agrees_under ops f (piece_peaks ops) (λ g. get_or r.0 g (pos 0)) (λ g l. r.2 g (omega arith)) (well f op h)) ∙
    peak_same_under ops (piece_peaks ops) f regular_nowhere (fixed_well op.types) (well f op h)

pub need_by_pieces : NeedByPieces
need_by_pieces ops well lim t A d =
    peak_by_pieces ops (piece_peaks ops) lim nowhere nothing t A regular_nowhere d ∙ peak_of_listing ops well (piece_peaks ops) (pieces_found ops well) lim t A d
