-- Net and peak as the language words them.
use lib.Dec.{T}
use mathlib.Core.Path.{◌≡◌, refl, sym, ◌∙◌, ap, subst}
use mathlib.Core.List.{List, [], ◌∷◌}
use mathlib.Core.Bool.{Bool, true, false, cond, not}
use mathlib.Core.Option.{some}
use Prim.Native.Nat.{ℕ, zero, suc, ◌+◌, ◌-◌, ◌*◌, ◌<◌, ◌≤◌}
use native.Mathlib.Omega.{arith}
use lib.Dec.{eqb, ltb, ltb→lt, nltb→le}
use lib.IntN.{ℤ, pos, ◌-ℤ◌}
use borrow.Author.Tests.{eqb-true, eqb-false, eq-eqb, ne_eqb}
use Rattle.machine.specs.Model.{Model, tally}
use Rattle.calculus.specs.Runs.{live_names, live_count, most_live}
use Rattle.calculus.specs.Room.{Bodies, end, top, OfBodies, bodies}
use Rattle.calculus.specs.Peak.{without_all, outer, spent_leaves, net, peak, peak_under, Peaks, Regular, NetIs, PeakIs, SameNet, PeakOnce, op_peak, body_peaks, PeaksFound}
use Rattle.calculus.specs.Peak.{PeakOfListing, PeakOfLeft}
use Rattle.calculus.specs.Syntax.{Ty, qbit_leaves, qbit_leaves_all, Duplicable, Name, var, entry, handle, type_of, Term, Op}
use Rattle.calculus.specs.Rules.{Uses, settable, Scope, nowhere, nth, Has, Well}
use Rattle.calculus.specs.Laws.{Plain}
use Rattle.calculus.specs.Steps.{Table, around}
use Rattle.calculus.proofs.Differences.{IsDiff, diff_pos, diff_net, diff_shift, diff_same, diff_is}
use Rattle.calculus.proofs.Names.{never}
use Rattle.calculus.proofs.Leaves.{no_leaves, equal_leaves}
use Rattle.calculus.proofs.Peak.{Fares, BodyFares, Known, fares_under, fares}
use Rattle.calculus.proofs.Linear.{count, is_linear, fixed_well, uses_counted, uses_counted_under}
use Rattle.calculus.proofs.Live.{le_top}
use Rattle.calculus.proofs.Bodies.{bodies_found}

pub regular_nowhere : Regular nowhere
regular_nowhere = record { no_handles = λ h. refl; plain_sets = λ n A h. never cc }

pub regular_around : (μ : Table) → Plain μ → Regular (around μ)
regular_around μ p = record { no_handles = λ h. refl; plain_sets = go }
  where
    inj : (A B : Ty) → some (settable A) ≡ some (settable B) → A ≡ B
    inj A B h = cc

    go : (n : Name) (A : Ty) → around μ n ≡ some (settable A) → Duplicable A
    go (var x) A h = never cc
    go (entry e) A h = subst Duplicable (inj (type_of (μ e)) A h) (p e)
    go (handle k) A h = never cc

-- where P is settled by what is found of each body, every body fares as P says
module _ (ops : List Op) (well : Well ops) (o : Bodies) (k : OfBodies ops o) (P : ℕ → ℤ)
    (settle : (f : ℕ) (op : Op) (h : nth ops f ≡ some op) →
    ((b : ℕ) → qbit_leaves_all op.types ≤ b → IsDiff (peak_under ops f P (well f op h)) ((o f).tops b) b) → P f ≡ peak_under ops f P (well f op h)) where
  body_known : (f : ℕ) (op : Op) → nth ops f ≡ some op → Known ops o P f → BodyFares ops o P f op
  body_known f op h known b l =
      let none_out = no_leaves nowhere (without_all op.params (outer op.body)) (λ n. sym (uses_counted_under ops f regular_nowhere (fixed_well op.types) (well f op h) n)) in
      let at : (i : ℕ) → qbit_leaves_all op.types ≤ i →
      Fares i (end o i op.body) (top o i op.body) (spent_leaves nowhere (without_all op.params (outer op.body)) + qbit_leaves_all op.types) (qbit_leaves op.result)
      (peak_under ops f P (well f op h)) = λ i j. fares_under ops o P f known regular_nowhere (fixed_well op.types) (well f op h) i (omega (arith, j, none_out)) in
      let tops : (i : ℕ) → qbit_leaves_all op.types ≤ i → IsDiff (peak_under ops f P (well f op h)) ((o f).tops i) i = λ i j. rw (k.tops_are f op h i) (at i j).tops in
      let g = at b l in (
        omega (arith, k.ends_are f op h b, g.ends, none_out),
        subst (λ (z : ℤ). IsDiff z ((o f).tops b) b) (sym (settle f op h tops)) (tops b l),
        omega (arith, k.ends_are f op h b, k.tops_are f op h b, g.order),
      )

  pub known : (lim : ℕ) → Known ops o P lim
  known zero f op l h = never (omega (arith, l))
  known (suc lim) f op l h = go (eqb f lim) refl (known lim)
    where
      go : (c : Bool) → eqb f lim ≡ c → Known ops o P lim → BodyFares ops o P f op
      go true q r = body_known f op h (subst (λ (i : ℕ). Known ops o P i) (sym (eqb-true f lim q)) r)
      go false q r = let ne = eqb-false f lim q in r f op (below f lim l ne) h
        where
          below : (i j : ℕ) → i < suc j → ¬ (i ≡ j) → i < j
          below i j l ne = omega (arith, l, ne)

-- the peaks found from the bodies
found_peaks : (ops : List Op) (well : Well ops) (o : Bodies) → OfBodies ops o → (f : ℕ) (op : Op) (h : nth ops f ≡ some op) →
    ((b : ℕ) → qbit_leaves_all op.types ≤ b → IsDiff (peak_under ops f (λ g. op_peak o g (nth ops g)) (well f op h)) ((o f).tops b) b) →
    op_peak o f (nth ops f) ≡ peak_under ops f (λ g. op_peak o g (nth ops g)) (well f op h)
found_peaks ops well o k f op h d =
    let w = qbit_leaves_all op.types in
    ap (op_peak o f) h ∙
    diff_same (pos ((o f).tops w - w)) (peak_under ops f (λ g. op_peak o g (nth ops g)) (well f op h)) ((o f).tops w) w
    (omega (arith, k.tops_are f op h w, le_top o op.body w)) (d w (omega arith))

pub peaks_found : PeaksFound
peaks_found ops well f op h =
    let k = bodies_found ops well in
    let fares = known ops well (bodies ops) k (body_peaks ops) (found_peaks ops well (bodies ops) k) in
    found_peaks ops well (bodies ops) k f op h (λ b l.
    let none_out = no_leaves nowhere (without_all op.params (outer op.body)) (λ n. sym (uses_counted_under ops f regular_nowhere (fixed_well op.types) (well f op h) n)) in
    rw (k.tops_are f op h b) (fares_under ops (bodies ops) (body_peaks ops) f (fares f) regular_nowhere (fixed_well op.types) (well f op h) b (omega (arith, l, none_out))).tops)

pub net_is : NetIs
net_is ops well o k lim Γ Δ t A r h b l =
    let P : ℕ → ℤ = λ g. op_peak o g (nth ops g) in
    let g = fares ops o P lim (known ops well o k P (found_peaks ops well o k) lim) r h b l in
    diff_is (net Γ t A) (end o b t) b
    (diff_shift (net Γ t A) (qbit_leaves A) (spent_leaves Γ (outer t)) (end o b t) b (omega (arith, g.ends)) (diff_net (qbit_leaves A) (spent_leaves Γ (outer t))))

module _ (ops : List Op) (well : Well ops) (o : Bodies) (k : OfBodies ops o) (P : ℕ → ℤ) (peaks : Peaks ops well P) where
  pub peak_diff : {lim : ℕ} {Γ : Scope} {Δ : Uses} {t : Term} {A : Ty} → Regular Γ → (d : Has ops lim Γ Δ t A) → (b : ℕ) → spent_leaves Γ (outer t) ≤ b →
      IsDiff (peak ops lim P d) (top o b t) b
  peak_diff {lim} r d b l = (fares ops o P lim (known ops well o k P (λ f op h e. peaks f op h) lim) r d b l).tops

pub peak_is : PeakIs
peak_is ops well o k P peaks lim Γ Δ t A r d b l = diff_is (peak ops lim P d) (top o b t) b (peak_diff ops well o k P peaks r d b l)

pub same_net : SameNet
same_net ops lim Γ Δ t u A r h h' =
    let q = equal_leaves Γ (outer t) (outer u) (λ n. sym (uses_counted ops lim r h n) ∙ uses_counted ops lim r h' n) in
    ap (λ (w : ℕ). pos (qbit_leaves A) -ℤ pos w) q

pub peak_once : PeakOnce
peak_once ops well P peaks lim Γ Δ Δ' t A U r d d' =
    let o = bodies ops in let k = bodies_found ops well in let b = spent_leaves Γ (outer t) in
    diff_same (peak ops lim P d) (peak ops lim P d') (top o b t) b (peak_diff ops well o k P peaks r d b (omega arith)) (peak_diff ops well o k P peaks r d' b (omega arith))

pub peak_of_listing : PeakOfListing
peak_of_listing ops well P peaks lim t A d =
    let z = no_leaves nowhere (outer t) (λ n. sym (uses_counted ops lim regular_nowhere d n)) in
    diff_same (peak ops lim P d) (pos (most_live ops 0 t)) (most_live ops 0 t) 0 (peak_diff ops well (bodies ops) (bodies_found ops well) P peaks regular_nowhere d 0 (omega (arith, z)))
    (diff_pos (most_live ops 0 t))

-- the live handles, listed
abbrev live_list : (ℕ → Bool) → ℕ → List Name
live_list f zero = []
live_list f (suc n) = cond (f n) (handle n ∷ live_list f n) (live_list f n)

live_leaves : (Γ : Scope) (f : ℕ → Bool) (n : ℕ) → spent_leaves Γ (live_list f n) ≡ tally f n
unfolding tally
live_leaves Γ f zero = refl
live_leaves Γ f (suc n) = go (f n) (live_leaves Γ f n)
  where
    go : (b : Bool) → spent_leaves Γ (live_list f n) ≡ tally f n → spent_leaves Γ (cond b (handle n ∷ live_list f n) (live_list f n)) ≡ cond b 1 0 + tally f n
    go true r = omega (arith, r)
    go false r = omega (arith, r)

live_above : (f : ℕ → Bool) (n h : ℕ) → n ≤ h → count (handle h) (live_list f n) ≡ 0
live_above f zero h l = refl
live_above f (suc n) h l = go (f n) (live_above f n h (omega arith))
  where
    go : (b : Bool) → count (handle h) (live_list f n) ≡ 0 → count (handle h) (cond b (handle n ∷ live_list f n) (live_list f n)) ≡ 0
    go true r = rw (ne_eqb n h (λ e. omega (arith, e, l))) (omega (arith, r))
    go false r = r

live_here : (f : ℕ → Bool) (n h : ℕ) → h < n → count (handle h) (live_list f n) ≡ cond (f h) 1 0
live_here f zero h l = never (omega (arith, l))
live_here f (suc n) h l = go (eqb n h) refl (λ i. live_here f n h i)
  where
    off : eqb n h ≡ false → (b : Bool) → count (handle h) (cond b (handle n ∷ live_list f n) (live_list f n)) ≡ count (handle h) (live_list f n)
    off q true = rw q (omega arith)
    off q false = refl

    below : h < suc n → ¬ (n ≡ h) → h < n
    below l ne = omega (arith, l, ne)

    on : (b : Bool) → count (handle n) (live_list f n) ≡ 0 → count (handle n) (cond b (handle n ∷ live_list f n) (live_list f n)) ≡ cond b 1 0
    on true z = rw (eq-eqb n n refl) (omega (arith, z))
    on false z = z

    go : (c : Bool) → eqb n h ≡ c → (h < n → count (handle h) (live_list f n) ≡ cond (f h) 1 0) →
        count (handle h) (cond (f n) (handle n ∷ live_list f n) (live_list f n)) ≡ cond (f h) 1 0
    go true q r =
        let e = eqb-true n h q in
        subst (λ (i : ℕ). count (handle i) (cond (f n) (handle n ∷ live_list f n) (live_list f n)) ≡ cond (f i) 1 0) e (on (f n) (live_above f n n (omega arith)))
    go false q r = off q (f n) ∙ r (below l (eqb-false n h q))

live_uses : (μ : Table) (m : Model) → Plain μ → (n : Name) → live_names m n ≡ is_linear (around μ) n * count n (live_list m.live 64)
live_uses μ m p (var x) = omega arith
live_uses μ m p (entry e) = rw (p e) (omega arith)
live_uses μ m p (handle h) = go (ltb h 64) refl
  where
    go : (c : Bool) → ltb h 64 ≡ c → cond (m.live h) 1 0 ≡ 1 * count (handle h) (live_list m.live 64)
    go true q = omega (arith, live_here m.live 64 h (ltb→lt h 64 (subst T (sym q) tt)))
    go false q =
        let l = nltb→le h 64 (subst (λ (c : Bool). T (not c)) (sym q) tt) in
        let dead : cond {A = ℕ} (m.live h) 1 0 ≡ 0 = rw (m.few h l) in
        omega (arith, live_above m.live 64 h l, dead)

pub peak_of_left : PeakOfLeft
peak_of_left ops well P peaks lim t μ A m p d =
    let r = regular_around μ p in
    let q = equal_leaves (around μ) (outer t) (live_list m.live 64) (λ n. sym (uses_counted ops lim r d n) ∙ live_uses μ m p n) in
    let l : spent_leaves (around μ) (outer t) ≤ live_count m = omega (arith, q, live_leaves (around μ) m.live 64) in
    sym (peak_is ops well (bodies ops) (bodies_found ops well) P peaks lim (around μ) (live_names m) t A r d (live_count m) l)
