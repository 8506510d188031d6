-- Net and peak against the live handles.
use mathlib.Core.Path.{◌≡◌, refl, sym, ◌∙◌, ap}
use mathlib.Core.List.{List, ◌++◌}
use mathlib.Core.Bool.{false}
use mathlib.Core.Option.{some}
use Prim.Native.Nat.{ℕ, zero, suc, ◌+◌, ◌<◌, ◌≤◌, max}
use native.Mathlib.Omega.{arith}
use lib.ListN.{length}
use lib.IntN.{ℤ, pos, ◌+ℤ◌, ◌-ℤ◌}
use borrow.Author.Differences.{sum_is_lem}
use Rattle.calculus.specs.Room.{Bodies, form_end, form_top, end, end_all, top, top_all}
use Rattle.calculus.specs.Peak.{maxℤ, without_all, outer, outer_all, name_leaves, spent_leaves, net, body_peak, peak, peak_parts, peak_under, Regular}
use Rattle.calculus.specs.Syntax.{Ty, Tys, no_types, ◌∷ᵗ◌, qbit_leaves, qbit_leaves_all, some_linear, Name, var, entry, handle, Pattern, one, several, names, Form, tupling, meas, gate, call}
use Rattle.calculus.specs.Syntax.{Term, Terms, Op}
use Rattle.calculus.specs.Rules.{Uses, Binding, type, Scope, Spread, qbits, together, nth, Fits, MaySet, may_none, may_more, Has, has_give, has_done, has_name, has_build, has_bind, has_mut}
use Rattle.calculus.specs.Rules.{has_set, has_using, has_if, Parts, parts_none, parts_more, Under, under_none, under_more}
use Rattle.calculus.proofs.Differences.{IsDiff, max_is, diff_sum, diff_net, diff_max, diff_shift}
use Rattle.calculus.proofs.Names.{never}
use Rattle.calculus.proofs.Leaves.{spent_bound, equal_leaves}
use Rattle.calculus.proofs.Linear.{spent_append, plain_leaves, value_leaves, regular_extend, BoundWell, fixed_well, settable_well, uses_counted}
use Rattle.calculus.proofs.Live.{le_top, le_top_all}
use Rattle.calculus.proofs.Tables.{spread_plain, plain_spread}

-- from b live handles: e at the end, m at the most, where w are the qbit leaves of the names that the term spends, q those of its type, and p is its peak
pub record Fares (b e m w q : ℕ) (p : ℤ) : Type 0 where
  pub ends : e + w ≡ b + q
  pub tops : IsDiff p m b
  pub order : e ≤ m

-- a right side and what follows it
two_pieces : (b b₁ e m₁ m₂ w₁ w₂ q q₂ : ℕ) (p₁ p₂ : ℤ) → b₁ + w₁ ≡ b + q → b ≤ m₁ → IsDiff p₁ m₁ b → e + (w₂ + q) ≡ b₁ + q₂ → IsDiff p₂ m₂ b₁ →
    (e + (w₁ + w₂) ≡ b + q₂) × IsDiff (maxℤ (pos 0) (maxℤ p₁ ((pos q -ℤ pos w₁) +ℤ p₂))) (max m₁ m₂) b
two_pieces b b₁ e m₁ m₂ w₁ w₂ q q₂ p₁ p₂ h l d₁ k d₂ =
    let n = pos q -ℤ pos w₁ in
    let rest = diff_shift (n +ℤ p₂) (q + m₂) (w₁ + b₁) m₂ b (omega (arith, h)) (diff_sum n p₂ q m₂ w₁ b₁ (diff_net q w₁) d₂) in
    let both = diff_max (pos 0) (maxℤ p₁ (n +ℤ p₂)) b (max m₁ m₂) b (omega arith) (diff_max p₁ (n +ℤ p₂) m₁ m₂ b d₁ rest) in
    (omega (arith, h, k), diff_shift (maxℤ (pos 0) (maxℤ p₁ (n +ℤ p₂))) (max b (max m₁ m₂)) b (max m₁ m₂) b (omega (arith, l)) both)

max_assoc : (z p x : ℤ) (r c : ℕ) → IsDiff (maxℤ (maxℤ z p) x) r c → IsDiff (maxℤ z (maxℤ p x)) r c
max_assoc z p x r c h = omega (arith, h, max_is (maxℤ z p) x, max_is z p, max_is p x, max_is z (maxℤ p x))

pub name_has : (Γ : Scope) (n : Name) (b : Binding) → Regular Γ → Γ n ≡ some b → name_leaves Γ n ≡ qbit_leaves (type b)
name_has Γ (var x) b r h = rw h
name_has Γ (entry e) b r h = rw h
name_has Γ (handle k) b r h = let z = r.no_handles k in never cc

pub spread_leaves : {N : Type 0} (xs : Pattern N) (A : Ty) (As : Tys) → Spread xs A As → qbit_leaves_all As ≡ qbit_leaves A
spread_leaves (one x) A As sp = rw sp (omega arith)
spread_leaves (several xs) A As sp = rw sp

pub together_leaves : (As : Tys) → qbit_leaves (together As) ≡ qbit_leaves_all As
together_leaves no_types = refl
together_leaves (A ∷ᵗ no_types) = omega arith
together_leaves (A ∷ᵗ (B ∷ᵗ As)) = refl

pub qbits_leaves : (n : ℕ) → qbit_leaves_all (qbits n) ≡ n
qbits_leaves zero = refl
qbits_leaves (suc n) = omega (arith, qbits_leaves n)

pub set_plain : {Γ : Scope} {ns : List Name} {As : Tys} → Regular Γ → MaySet Γ ns As → some_linear As ≡ false
set_plain r may_none = refl
set_plain r (may_more {n = n} {T = A} h m) = rw (r.plain_sets n A h, set_plain r m)

module _ (ops : List Op) (o : Bodies) (P : ℕ → ℤ) where
  -- what is known of a body
  abbrev pub BodyFares : ℕ → Op → Type 0
  BodyFares f op = (b : ℕ) → qbit_leaves_all op.types ≤ b →
      ((o f).ends b + qbit_leaves_all op.types ≡ b + qbit_leaves op.result) × IsDiff (P f) ((o f).tops b) b × ((o f).ends b ≤ (o f).tops b)

  abbrev pub Known : ℕ → Type 0
  Known lim = (f : ℕ) (op : Op) → f < lim → nth ops f ≡ some op → BodyFares f op

  -- what a form does after its parts, from i live handles
  abbrev Last : Form → ℕ → Type 0
  Last tupling i = Unit {0}
  Last meas i = Unit {0}
  Last (gate g) i = Unit {0}
  Last (call f) i = IsDiff (P f) ((o f).tops i) i

  last_peak : (f : Form) (i b₀ A : ℕ) (z n : ℤ) → Last f i → b₀ ≤ A → i ≤ A → IsDiff z A b₀ → IsDiff n i b₀ → IsDiff (maxℤ z (body_peak P f n)) (max A (max i (form_top o f i))) b₀
  last_peak tupling i b₀ A z n k l m d e = omega (arith, l, m, d, max_is z (pos 0))
  last_peak meas i b₀ A z n k l m d e = omega (arith, l, m, d, max_is z (pos 0))
  last_peak (gate g) i b₀ A z n k l m d e = omega (arith, l, m, d, max_is z (pos 0))
  last_peak (call f) i b₀ A z n k l m d e = omega (arith, l, m, d, e, k, sum_is_lem n (P f), max_is z (n +ℤ P f))

  module _ (lim : ℕ) (known : Known lim) where
    -- the form itself
    form_fares : (f : Form) (As : Tys) (A : Ty) → Fits ops lim f As A → (b i w : ℕ) → i + w ≡ b + qbit_leaves_all As → w ≤ b →
        (form_end o f i + w ≡ b + qbit_leaves A) × Last f i × (form_end o f i ≤ form_top o f i)
    form_fares tupling As A fit b i w h l = rw fit.0 (h, tt, omega arith)
    form_fares meas As A fit b i w h l = rw fit.1 (let k = rw fit.0 at h in (omega (arith, k, l), tt, omega arith))
    form_fares (gate g) As A fit b i w h l = rw (fit.1, together_leaves As) (h, tt, omega arith)
    form_fares (call f) As A fit b i w h l =
        let k = rw fit.3 at h in
        let r = known f fit.0 fit.1 fit.2 i (omega (arith, k, l)) in
        rw fit.4 (omega (arith, k, r.0), r.1, r.2)

    -- let and mut: a right side, then a term under bound names
    binds : {Γ : Scope} → Regular Γ → (b : ℕ) (e t : Term) (ns : List Name) (A : Ty) (As : Tys) (U : Ty) (p p' : ℤ) → qbit_leaves_all As ≡ qbit_leaves A →
        (spent_leaves Γ (outer e) ≤ b → Fares b (end o b e) (top o b e) (spent_leaves Γ (outer e)) (qbit_leaves A) p) →
        (spent_leaves Γ ns + qbit_leaves_all As ≤ end o b e → Fares (end o b e) (end o (end o b e) t) (top o (end o b e) t) (spent_leaves Γ ns + qbit_leaves_all As) (qbit_leaves U) p') →
        spent_leaves Γ (outer e ++ ns) ≤ b →
        Fares b (end o (end o b e) t) (max (top o b e) (top o (end o b e) t)) (spent_leaves Γ (outer e ++ ns)) (qbit_leaves U) (maxℤ (pos 0) (maxℤ p (net Γ e A +ℤ p')))
    binds {Γ} r b e t ns A As U p p' q f g l =
        let w : spent_leaves Γ (outer e) + spent_leaves Γ ns ≤ b = rw (spent_append Γ (outer e) ns) at l in
        let x = f (omega (arith, w)) in
        let y = g (omega (arith, w, q, x.ends)) in
        let k = two_pieces b (end o b e) (end o (end o b e) t) (top o b e) (top o (end o b e) t) (spent_leaves Γ (outer e)) (spent_leaves Γ ns) (qbit_leaves A) (qbit_leaves U)
        p p' x.ends (le_top o e b) x.tops (omega (arith, y.ends, q)) y.tops in
        record { ends = rw (spent_append Γ (outer e) ns) k.0; tops = k.1; order = omega (arith, y.order) }

    mutual
      pub fares : {Γ : Scope} {Δ : Uses} {t : Term} {A : Ty} → Regular Γ → (d : Has ops lim Γ Δ t A) → (b : ℕ) → spent_leaves Γ (outer t) ≤ b →
          Fares b (end o b t) (top o b t) (spent_leaves Γ (outer t)) (qbit_leaves A) (peak ops lim P d)
      fares {Γ} r (has_give {v = v} q s) b l = record { ends = omega (arith, value_leaves Γ v, ap qbit_leaves q); tops = omega arith; order = omega arith }
      fares {Γ} r (has_done {v = v} q s) b l = record { ends = omega (arith, value_leaves Γ v, ap qbit_leaves q); tops = omega arith; order = omega arith }
      fares {Γ} r (has_name {n = n} c h q s) b l = record { ends = omega (arith, name_has Γ n c r h, ap qbit_leaves q); tops = omega arith; order = omega arith }
      fares {Γ} {A = A} r (has_build {f = f} {ts = ts} As ps fit) b l =
          let e = parts_end r ps b l in
          let k = form_fares f As A fit b (end_all o b ts) (spent_leaves Γ (outer_all ts)) e l in
          let m = parts_top f r ps b b b (pos 0) (pos 0) l (omega arith) (omega arith) (omega arith) (omega arith) k.1 in
          record { ends = k.0; tops = omega (arith, m, le_top_all o ts b); order = omega (arith, k.2) }
      fares {Γ} {A = U} r (has_bind {xs = xs} {e = e} {t = t} Δ₁ Δ₂ A As d h sp u) b l =
          binds r b e t (without_all (names xs) (outer t)) A As U (peak ops lim P h) (peak_under ops lim P u) (spread_leaves xs A As sp) (fares r h b) (fares_under r (fixed_well As) u (end o b e)) l
      fares {Γ} {A = U} r (has_mut {xs = xs} {e = e} {t = t} Δ₁ Δ₂ A As d h nv dup sp u) b l =
          binds r b e t (without_all (names xs) (outer t)) A As U (peak ops lim P h) (peak_under ops lim P u) (spread_leaves xs A As sp) (fares r h b)
          (fares_under r (settable_well As (plain_spread xs A As sp dup)) u (end o b e)) l
      fares {Γ} {A = U} r (has_set {ns = ns} {e = e} {t = t} Δ₁ Δ₂ A As d h nv sp m u) b l =
          let z = plain_leaves A (spread_plain ns A As sp (set_plain r m)) in
          let w : spent_leaves Γ (outer e) + spent_leaves Γ (outer t) ≤ b = rw (spent_append Γ (outer e) (outer t)) at l in
          let f = fares r h b (omega (arith, w)) in
          let g = fares r u (end o b e) (omega (arith, w, f.ends)) in
          let k = two_pieces b (end o b e) (end o (end o b e) t) (top o b e) (top o (end o b e) t) (spent_leaves Γ (outer e)) (spent_leaves Γ (outer t)) (qbit_leaves A) (qbit_leaves U)
          (peak ops lim P h) (peak ops lim P u) f.ends (le_top o e b) f.tops (omega (arith, g.ends, z)) g.tops in
          record { ends = rw (spent_append Γ (outer e) (outer t)) k.0; tops = k.1; order = omega (arith, g.order) }
      fares {Γ} r (has_using {xs = xs} {t = t} u) b l =
          let n = length (names xs) in
          let g = fares_under r (fixed_well (qbits n)) u (n + b) (omega (arith, l, qbits_leaves n)) in
          record {
            ends = omega (arith, g.ends, qbits_leaves n);
            tops = omega (arith, g.tops, sum_is_lem (pos n) (peak_under ops lim P u));
            order = g.order;
          }
      fares {Γ} {A = U} r (has_if {c = c} {t = t} {u = u} Δ₁ Δ₂ d h k k') b l =
          let w : spent_leaves Γ (outer c) + spent_leaves Γ (outer t) ≤ b = rw (spent_append Γ (outer c) (outer t)) at l in
          let same = equal_leaves Γ (outer t) (outer u) (λ n. sym (uses_counted ops lim r k n) ∙ uses_counted ops lim r k' n) in
          let f = fares r h b (omega (arith, w)) in
          let i = end o b c in
          let g = fares r k i (omega (arith, w, f.ends)) in
          let g' = fares r k' i (omega (arith, w, f.ends, same)) in
          let pt = peak ops lim P k in
          let pu = peak ops lim P k' in
          let two = two_pieces b i (max (end o i t) (end o i u)) (top o b c) (max (top o i t) (top o i u)) (spent_leaves Γ (outer c)) (spent_leaves Γ (outer t)) 0 (qbit_leaves U)
          (peak ops lim P h) (maxℤ pt pu) f.ends (le_top o c b) f.tops (omega (arith, g.ends, g'.ends, same)) (diff_max pt pu (top o i t) (top o i u) i g.tops g'.tops) in
          record { ends = rw (spent_append Γ (outer c) (outer t)) two.0; tops = two.1; order = omega (arith, g.order, g'.order) }

      -- the parts: at their end
      parts_end : {Γ : Scope} {Δ : Uses} {ts : Terms} {As : Tys} → Regular Γ → Parts ops lim Γ Δ ts As → (b : ℕ) → spent_leaves Γ (outer_all ts) ≤ b →
          end_all o b ts + spent_leaves Γ (outer_all ts) ≡ b + qbit_leaves_all As
      parts_end r (parts_none s) b l = refl
      parts_end {Γ} r (parts_more {t = t} {ts = ts} Δ₁ Δ₂ d h ps) b l =
          let w = rw (spent_append Γ (outer t) (outer_all ts)) at l in
          let f = fares r h b (omega (arith, w)) in
          rw (spent_append Γ (outer t) (outer_all ts)) (omega (arith, f.ends, parts_end r ps (end o b t) (omega (arith, w, f.ends))))

      -- and at the most, from i live handles where b₀ were live before the first of them
      parts_top : (f : Form) {Γ : Scope} {Δ : Uses} {ts : Terms} {As : Tys} → Regular Γ → (ps : Parts ops lim Γ Δ ts As) → (b₀ i A : ℕ) (z n : ℤ) → spent_leaves Γ (outer_all ts) ≤ i →
          b₀ ≤ A → i ≤ A → IsDiff z A b₀ → IsDiff n i b₀ → Last f (end_all o i ts) →
          IsDiff (maxℤ z (peak_parts ops lim P f n ps)) (max A (max (top_all o i ts) (form_top o f (end_all o i ts)))) b₀
      parts_top f r (parts_none s) b₀ i A z n l m m' d e k = last_peak f i b₀ A z n k m m' d e
      parts_top f {Γ} r (parts_more {t = t} {ts = ts} {T = B} Δ₁ Δ₂ dv h ps) b₀ i A z n l m m' d e k =
          let w = rw (spent_append Γ (outer t) (outer_all ts)) at l in
          let g = fares r h i (omega (arith, w)) in
          let p = n +ℤ peak ops lim P h in
          let dp = diff_shift p (i + top o i t) (b₀ + i) (top o i t) b₀ (omega arith) (diff_sum n (peak ops lim P h) i (top o i t) b₀ i e g.tops) in
          let dn = diff_shift (n +ℤ net Γ t B) (i + qbit_leaves B) (b₀ + spent_leaves Γ (outer t)) (end o i t) b₀ (omega (arith, g.ends))
          (diff_sum n (net Γ t B) i (qbit_leaves B) b₀ (spent_leaves Γ (outer t)) e (diff_net (qbit_leaves B) (spent_leaves Γ (outer t)))) in
          let rest = parts_top f r ps b₀ (end o i t) (max A (top o i t)) (maxℤ z p) (n +ℤ net Γ t B) (omega (arith, w, g.ends)) (omega (arith, m)) (omega (arith, g.order))
          (diff_max z p A (top o i t) b₀ d dp) dn k in
          let x = peak_parts ops lim P f (n +ℤ net Γ t B) ps in
          diff_shift (maxℤ z (maxℤ p x)) (max (max A (top o i t)) (max (top_all o (end o i t) ts) (form_top o f (end_all o (end o i t) ts)))) b₀
          (max A (max (max (top o i t) (top_all o (end o i t) ts)) (form_top o f (end_all o (end o i t) ts)))) b₀ (omega arith) (max_assoc z p x _ b₀ rest)

      -- a term under bound names, whose handles are live
      pub fares_under : {k : Ty → Binding} {Γ : Scope} {Δ : Uses} {xs : List ℕ} {As : Tys} {t : Term} {A : Ty} → Regular Γ → BoundWell k As → (u : Under ops lim k Γ Δ xs As t A) → (b : ℕ) →
          spent_leaves Γ (without_all xs (outer t)) + qbit_leaves_all As ≤ b →
          Fares b (end o b t) (top o b t) (spent_leaves Γ (without_all xs (outer t)) + qbit_leaves_all As) (qbit_leaves A) (peak_under ops lim P u)
      fares_under r w (under_none h) b l = let g = fares r h b (omega (arith, l)) in record { ends = omega (arith, g.ends); tops = g.tops; order = g.order }
      fares_under {k} {Γ} {Δ} r w (under_more {x = x} {T = B} Δ' new d u) b l =
          let s = spent_bound r x w.0 w.1 w.2 Δ Δ' new.1 d u in
          let g = fares_under (regular_extend x (k B) w.1 r) w.2 u b (omega (arith, l, s)) in
          record { ends = omega (arith, g.ends, s); tops = g.tops; order = g.order }
