-- Live handles at the end of a term and at the most: what is put for a name changes neither, and both rise with the handles at the start.
use mathlib.Core.Path.{◌≡◌, refl, ◌∙◌, ap}
use mathlib.Core.List.{List, [], ◌∷◌}
use mathlib.Core.Bool.{Bool, true, false, cond}
use Prim.Native.Nat.{ℕ, ◌+◌, ◌≤◌, max}
use native.Mathlib.Omega.{arith}
use lib.ListN.{length}
use Rattle.calculus.specs.Room.{Bodies, form_end, form_top, end, end_all, top, top_all, Rises}
use Rattle.calculus.specs.Syntax.{var, is, Values, names, Form, tupling, meas, gate, call, Place, Term, give, done, name, build, bind, mut, set, using_in, if_else, Terms, no_terms, ◌∷ˢ◌}
use Rattle.calculus.specs.Steps.{Stand, by_value, by_entry, stand_at, put, put_all, puts, AllDone, none_left, one_done}

module _ (o : Bodies) where
  mutual
    pub le_top : (t : Term) (b : ℕ) → b ≤ top o b t
    le_top (give p v) b = omega arith
    le_top (done v) b = omega arith
    le_top (name p n) b = omega arith
    le_top (build p f ts) b = omega (arith, le_top_all ts b)
    le_top (bind p xs e t) b = omega (arith, le_top e b)
    le_top (mut p xs e t) b = omega (arith, le_top e b)
    le_top (set p ns e t) b = omega (arith, le_top e b)
    le_top (using_in p xs t) b = omega (arith, le_top t (length (names xs) + b))
    le_top (if_else p c t u) b = omega (arith, le_top c b)

    pub le_top_all : (ts : Terms) (b : ℕ) → b ≤ top_all o b ts
    le_top_all no_terms b = omega arith
    le_top_all (t ∷ˢ ts) b = omega (arith, le_top t b)

  flat_end : (p : Place) (s : Stand) (b : ℕ) → end o b (stand_at p s) ≡ b
  flat_end p (by_value v) b = refl
  flat_end p (by_entry e) b = refl

  flat_top : (p : Place) (s : Stand) (b : ℕ) → top o b (stand_at p s) ≡ b
  flat_top p (by_value v) b = refl
  flat_top p (by_entry e) b = refl

  module _ (x : ℕ) (s : Stand) where
    mutual
      -- what stands for a name prepares and measures nothing
      pub put_end : (t : Term) (b : ℕ) → end o b (put x s t) ≡ end o b t
      put_end (give p v) b = refl
      put_end (done v) b = refl
      put_end (name p n) b = go (is (var x) n)
        where
          go : (c : Bool) → end o b (cond c (stand_at p s) (name p n)) ≡ b
          go true = flat_end p s b
          go false = refl
      put_end (build p f ts) b = ap (form_end o f) (put_end_all ts b)
      put_end (bind p ys e t) b = rw (put_end e b) (put_end t (end o b e))
      put_end (mut p ys e t) b = rw (put_end e b) (put_end t (end o b e))
      put_end (set p ns e t) b = rw (put_end e b) (put_end t (end o b e))
      put_end (using_in p ys t) b = put_end t (length (names ys) + b)
      put_end (if_else p c t u) b = rw (put_end c b, put_end t (end o b c), put_end u (end o b c))

      pub put_end_all : (ts : Terms) (b : ℕ) → end_all o b (put_all x s ts) ≡ end_all o b ts
      put_end_all no_terms b = refl
      put_end_all (t ∷ˢ ts) b = rw (put_end t b) (put_end_all ts (end o b t))

    mutual
      pub put_top : (t : Term) (b : ℕ) → top o b (put x s t) ≡ top o b t
      put_top (give p v) b = refl
      put_top (done v) b = refl
      put_top (name p n) b = go (is (var x) n)
        where
          go : (c : Bool) → top o b (cond c (stand_at p s) (name p n)) ≡ b
          go true = flat_top p s b
          go false = refl
      put_top (build p f ts) b = rw (put_end_all ts b, put_top_all ts b)
      put_top (bind p ys e t) b = rw (put_end e b, put_top e b, put_top t (end o b e))
      put_top (mut p ys e t) b = rw (put_end e b, put_top e b, put_top t (end o b e))
      put_top (set p ns e t) b = rw (put_end e b, put_top e b, put_top t (end o b e))
      put_top (using_in p ys t) b = put_top t (length (names ys) + b)
      put_top (if_else p c t u) b = rw (put_end c b, put_top c b, put_top t (end o b c), put_top u (end o b c))

      pub put_top_all : (ts : Terms) (b : ℕ) → top_all o b (put_all x s ts) ≡ top_all o b ts
      put_top_all no_terms b = refl
      put_top_all (t ∷ˢ ts) b = rw (put_end t b, put_top t b, put_top_all ts (end o b t))

  pub puts_end : (xs : List ℕ) (ss : List Stand) (t : Term) (b : ℕ) → end o b (puts xs ss t) ≡ end o b t
  puts_end [] ss t b = refl
  puts_end (x ∷ xs) [] t b = refl
  puts_end (x ∷ xs) (s ∷ ss) t b = put_end x s (puts xs ss t) b ∙ puts_end xs ss t b

  pub puts_top : (xs : List ℕ) (ss : List Stand) (t : Term) (b : ℕ) → top o b (puts xs ss t) ≡ top o b t
  puts_top [] ss t b = refl
  puts_top (x ∷ xs) [] t b = refl
  puts_top (x ∷ xs) (s ∷ ss) t b = put_top x s (puts xs ss t) b ∙ puts_top xs ss t b

  pub done_end : {ts : Terms} {vs : Values} → AllDone ts vs → (b : ℕ) → (end_all o b ts ≡ b) × (top_all o b ts ≡ b)
  done_end none_left b = (refl, refl)
  done_end (one_done a) b = let r = done_end a b in (r.0, omega (arith, r.1))

  pub pick : (c : Bool) (t u : Term) (b : ℕ) → (end o b (cond c t u) ≤ max (end o b t) (end o b u)) × (top o b (cond c t u) ≤ max (top o b t) (top o b u))
  pick true t u b = (omega arith, omega arith)
  pick false t u b = (omega arith, omega arith)

  module _ (rises : (f : ℕ) → Rises (o f)) where
    pub form_rise : (f : Form) (b b' : ℕ) → b ≤ b' → (form_end o f b ≤ form_end o f b') × (form_top o f b ≤ form_top o f b')
    form_rise tupling b b' l = (l, l)
    form_rise meas b b' l = (omega arith, l)
    form_rise (gate g) b b' l = (l, l)
    form_rise (call f) b b' l = rises f b b' l

    mutual
      pub rise : (t : Term) (b b' : ℕ) → b ≤ b' → (end o b t ≤ end o b' t) × (top o b t ≤ top o b' t)
      rise (give p v) b b' l = (l, l)
      rise (done v) b b' l = (l, l)
      rise (name p n) b b' l = (l, l)
      rise (build p f ts) b b' l =
          let r = rise_all ts b b' l in let q = form_rise f _ _ r.0 in (q.0, omega (arith, r.1, q.1))
      rise (bind p xs e t) b b' l = let r = rise e b b' l in let q = rise t _ _ r.0 in (q.0, omega (arith, r.1, q.1))
      rise (mut p xs e t) b b' l = let r = rise e b b' l in let q = rise t _ _ r.0 in (q.0, omega (arith, r.1, q.1))
      rise (set p ns e t) b b' l = let r = rise e b b' l in let q = rise t _ _ r.0 in (q.0, omega (arith, r.1, q.1))
      rise (using_in p xs t) b b' l = rise t (length (names xs) + b) (length (names xs) + b') (omega arith)
      rise (if_else p c t u) b b' l =
          let r = rise c b b' l in let q = rise t _ _ r.0 in let s = rise u _ _ r.0 in
          (omega (arith, q.0, s.0), omega (arith, r.1, q.1, s.1))

      pub rise_all : (ts : Terms) (b b' : ℕ) → b ≤ b' → (end_all o b ts ≤ end_all o b' ts) × (top_all o b ts ≤ top_all o b' ts)
      rise_all no_terms b b' l = (l, l)
      rise_all (t ∷ˢ ts) b b' l = let r = rise t b b' l in let q = rise_all ts _ _ r.0 in (q.0, omega (arith, r.1, q.1))
