-- A step stays within the room.
use mathlib.Core.Path.{◌≡◌, refl, sym, ◌∙◌, ap}
use mathlib.Core.List.{List, [], ◌∷◌, map}
use mathlib.Core.Bool.{Bool, false}
use Prim.Native.Nat.{ℕ, suc, ◌+◌, ◌≤◌, max}
use native.Mathlib.Omega.{arith}
use lib.ListN.{length}
use Rattle.calculus.specs.Room.{Bodies, form_end, form_top, end, end_all, top, top_all, OfBodies, moved, Room}
use Rattle.calculus.specs.Syntax.{Values, names, Form, Place, Term, Terms, Op}
use Rattle.calculus.specs.Steps.{by_entry, given, Table, Event, prepares, handle_values, Acts, acts_tuple, acts_meas, acts_gate, acts_call, Step, step_give, step_name, step_parts}
use Rattle.calculus.specs.Steps.{step_build, step_bind_in, step_bind, step_mut_in, step_mut, step_set_in, step_set, step_using, step_if_in, step_if, StepPart, step_first, step_later}
use Rattle.calculus.specs.Steps.{chooses, chooses_part}
use Rattle.calculus.proofs.Names.{never}
use Rattle.calculus.proofs.Live.{le_top, le_top_all, puts_end, puts_top, done_end, pick, form_rise, rise, rise_all}

pub prepares_move : (hs : List ℕ) (b : ℕ) → moved (prepares hs) b ≡ length hs + b
prepares_move [] b = omega arith
prepares_move (h ∷ hs) b = omega (arith, prepares_move hs (suc b))

-- before and after a step, at the end and at the most: the same, but that an if's step may lower them
pub record Roomy (chosen : Bool) (now e e' m m' : ℕ) : Type 0 where
  pub end_same : chosen ≡ false → e ≡ e'
  pub end_falls : e' ≤ e
  pub top_same : chosen ≡ false → m ≡ max now m'
  pub top_falls : m' ≤ m

exact : {c : Bool} (now e e' m m' : ℕ) → e ≡ e' → m ≡ max now m' → Roomy c now e e' m m'
exact now e e' m m' p q = record { end_same = λ z. p; end_falls = omega (arith, p); top_same = λ z. q; top_falls = omega (arith, q) }

module _ (ops : List Op) (o : Bodies) (k : OfBodies ops o) where
  act_room : {f : Form} {vs : Values} {ev : Event} {t : Term} → Acts ops f vs ev t → (b : ℕ) →
      (form_end o f b ≡ end o (moved ev b) t) × (max b (form_top o f b) ≡ max b (top o (moved ev b) t))
  act_room acts_tuple b = (refl, refl)
  act_room acts_meas b = (refl, omega arith)
  act_room (acts_gate hs q) b = (refl, refl)
  act_room (acts_call {f = f} {vs = vs} op at_f) b = (
    k.ends_are f op at_f b ∙ sym (puts_end o op.params (given vs) op.body b),
    ap (λ (i : ℕ). max b i) (k.tops_are f op at_f b ∙ sym (puts_top o op.params (given vs) op.body b)),
  )

  -- a right side or condition steps, and t follows
  then : (t : Term) {c : Bool} {now e e' m m' : ℕ} → Roomy c now e e' m m' → Roomy c now (end o e t) (end o e' t) (max m (top o e t)) (max m' (top o e' t))
  then t r =
      let q = rise o k.rises t _ _ r.end_falls in
      record {
        end_same = λ z. ap (λ (i : ℕ). end o i t) (r.end_same z);
        end_falls = q.0;
        top_same = λ z. omega (arith, r.top_same z, ap (λ (i : ℕ). top o i t) (r.end_same z));
        top_falls = omega (arith, r.top_falls, q.1);
      }

  mutual
    pub room : {t t' : Term} {μ μ' : Table} {p : Place} {es : List ℕ} {ev : Event} → (s : Step ops t μ p es ev t' μ') → (b : ℕ) →
        Roomy (chooses s) b (end o b t) (end o (moved ev b) t') (top o b t) (top o (moved ev b) t')
    room step_give b = exact b b b b b refl (omega arith)
    room step_name b = exact b b b b b refl (omega arith)
    room (step_parts {f = f} s) b =
        let r = room_all s b in
        let q = form_rise o k.rises f _ _ r.end_falls in
        record {
          end_same = λ z. ap (form_end o f) (r.end_same z);
          end_falls = q.0;
          top_same = λ z. omega (arith, r.top_same z, ap (form_top o f) (r.end_same z));
          top_falls = omega (arith, r.top_falls, q.1);
        }
    room (step_build {ts = ts} {t = t} {ev = ev} vs d act) b =
        let r = act_room act b in
        let e = done_end o d b in
        rw (e.0, e.1) (exact b _ (end o (moved ev b) t) _ (top o (moved ev b) t) r.0 r.1)
    room (step_bind_in {t = t} s) b = then t (room s b)
    room (step_bind {xs = xs} {t = t} vs w) b = let e = puts_end o (names xs) (given vs) t b in let m = puts_top o (names xs) (given vs) t b in
        rw (e, m) (exact b _ _ (max b (top o b t)) (top o b t) refl refl)
    room (step_mut_in {t = t} s) b = then t (room s b)
    room (step_mut {xs = xs} {t = t} {es = es} vs w l) b = let e = puts_end o (names xs) (map by_entry es) t b in let m = puts_top o (names xs) (map by_entry es) t b in
        rw (e, m) (exact b _ _ (max b (top o b t)) (top o b t) refl refl)
    room (step_set_in {t = t} s) b = then t (room s b)
    room (step_set {t = t} vs w es q) b = exact b _ _ (max b (top o b t)) (top o b t) refl refl
    room (step_using {xs = xs} {t = t} hs l) b =
        let n = length (names xs) in
        let e = prepares_move hs b ∙ ap (λ (i : ℕ). i + b) l in
        let f = puts_end o (names xs) (given (handle_values hs)) t (n + b) in
        let m = puts_top o (names xs) (given (handle_values hs)) t (n + b) in
        rw (e, f, m) (exact b _ _ (top o (n + b) t) (top o (n + b) t) refl (omega (arith, le_top o t (n + b))))
    room (step_if_in {t = t} {u = u} s) b =
        let r = room s b in let q = rise o k.rises t _ _ r.end_falls in let w = rise o k.rises u _ _ r.end_falls in
        record {
          end_same = λ z. ap (λ (i : ℕ). max (end o i t) (end o i u)) (r.end_same z);
          end_falls = omega (arith, q.0, w.0);
          top_same = λ z. omega (arith, r.top_same z, ap (λ (i : ℕ). max (top o i t) (top o i u)) (r.end_same z));
          top_falls = omega (arith, r.top_falls, q.1, w.1);
        }
    room (step_if {b = c} {t = t} {u = u}) b = let r = pick o c t u b in
        record { end_same = λ z. never cc; end_falls = r.0; top_same = λ z. never cc; top_falls = omega (arith, r.1) }

    pub room_all : {ts ts' : Terms} {μ μ' : Table} {p : Place} {es : List ℕ} {ev : Event} → (s : StepPart ops ts μ p es ev ts' μ') → (b : ℕ) →
        Roomy (chooses_part s) b (end_all o b ts) (end_all o (moved ev b) ts') (top_all o b ts) (top_all o (moved ev b) ts')
    room_all (step_first {ts = ts} s) b =
        let r = room s b in let q = rise_all o k.rises ts _ _ r.end_falls in
        record {
          end_same = λ z. ap (λ (i : ℕ). end_all o i ts) (r.end_same z);
          end_falls = q.0;
          top_same = λ z. omega (arith, r.top_same z, ap (λ (i : ℕ). top_all o i ts) (r.end_same z));
          top_falls = omega (arith, r.top_falls, q.1);
        }
    room_all (step_later {ts = ts} {ts' = ts'} {ev = ev} s) b =
        let r = room_all s b in
        record {
          end_same = r.end_same;
          end_falls = r.end_falls;
          top_same = λ z. omega (arith, r.top_same z, le_top_all o ts b, le_top_all o ts' (moved ev b));
          top_falls = omega (arith, r.top_falls, le_top_all o ts' (moved ev b));
        }

pub stays_in_room : Room
stays_in_room ops o k t t' μ μ' p es ev s b =
    let r = room ops o k s b in
    let l = le_top o t' (moved ev b) in
    record {
      exact = r.top_same;
      stays = λ c i. omega (arith, r.top_same c, i, l);
      falls = r.top_falls;
      before = le_top o t b;
      after = omega (arith, r.top_falls, l);
    }
