-- How many handles are live while a term runs, counted from b live ones at its start: at its end, and at the most.
use Rattle.std.specs.Prelude.{◌≡◌, List, [], ◌∷◌, Bool, false, ℕ, suc, ◌+◌, ◌-◌, ◌≤◌, max, length}
use Rattle.std.proofs.Math.Option.{some}
use Rattle.machine.specs.declared.order.Order.TheVariants.{Prepared, Applied, Measured}
use Rattle.calculus.specs.Syntax.{Place, names, Form, tupling, meas, gate, call, Op}
use Rattle.calculus.specs.Syntax.{Term, give, done, name, build, bind, mut, set, using_in, if_else, Terms, no_terms, ◌∷ˢ◌}
use Rattle.calculus.specs.Rules.{nth, Well}
use Rattle.calculus.specs.Steps.{Event, Table, Step, chooses}
use Rattle.calculus.specs.Need.{by_op}

-- the same of a body: at its end, and at the most
pub record Body : Type 0 where
  pub ends : ℕ → ℕ
  pub tops : ℕ → ℕ

abbrev pub Bodies : Type 0
Bodies = ℕ → Body

abbrev pub form_end : Bodies → Form → ℕ → ℕ
form_end o tupling b = b
form_end o meas b = b - 1
form_end o (gate g) b = b
form_end o (call f) b = (o f).ends b

abbrev pub form_top : Bodies → Form → ℕ → ℕ
form_top o tupling b = b
form_top o meas b = b
form_top o (gate g) b = b
form_top o (call f) b = (o f).tops b

abbrev mutual
  pub end : Bodies → ℕ → Term → ℕ
  end o b (give p v) = b
  end o b (done v) = b
  end o b (name p n) = b
  end o b (build p f ts) = form_end o f (end_all o b ts)
  end o b (bind p xs e t) = end o (end o b e) t
  end o b (mut p xs e t) = end o (end o b e) t
  end o b (set p ns e t) = end o (end o b e) t
  end o b (using_in p xs t) = end o (length (names xs) + b) t
  end o b (if_else p c t u) = max (end o (end o b c) t) (end o (end o b c) u)

  pub end_all : Bodies → ℕ → Terms → ℕ
  end_all o b no_terms = b
  end_all o b (t ∷ˢ ts) = end_all o (end o b t) ts

abbrev mutual
  pub top : Bodies → ℕ → Term → ℕ
  top o b (give p v) = b
  top o b (done v) = b
  top o b (name p n) = b
  top o b (build p f ts) = max (top_all o b ts) (form_top o f (end_all o b ts))
  top o b (bind p xs e t) = max (top o b e) (top o (end o b e) t)
  top o b (mut p xs e t) = max (top o b e) (top o (end o b e) t)
  top o b (set p ns e t) = max (top o b e) (top o (end o b e) t)
  top o b (using_in p xs t) = top o (length (names xs) + b) t
  top o b (if_else p c t u) = max (top o b c) (max (top o (end o b c) t) (top o (end o b c) u))

  pub top_all : Bodies → ℕ → Terms → ℕ
  top_all o b no_terms = b
  top_all o b (t ∷ˢ ts) = max (top o b t) (top_all o (end o b t) ts)

-- with more handles live at its start, a body has no fewer live later
abbrev pub Rises : Body → Type 0
Rises B = (b b' : ℕ) → b ≤ b' → (B.ends b ≤ B.ends b') × (B.tops b ≤ B.tops b')

-- o gives these numbers of each body
pub record OfBodies (ops : List Op) (o : Bodies) : Type 0 where
  pub ends_are : (f : ℕ) (op : Op) → nth ops f ≡ some op → (b : ℕ) → (o f).ends b ≡ end o b op.body
  pub tops_are : (f : ℕ) (op : Op) → nth ops f ≡ some op → (b : ℕ) → (o f).tops b ≡ top o b op.body
  pub rises : (f : ℕ) → Rises (o f)

-- the bodies, one operation after the other
abbrev pub idle : Body
idle = record { ends = λ b. b; tops = λ b. b }

abbrev pub bodies : List Op → Bodies
bodies ops = by_op idle (λ o op. record { ends = λ b. end o b op.body; tops = λ b. top o b op.body }) ops

-- the live handles after an event
abbrev pub moved : Event → ℕ → ℕ
moved [] b = b
moved (Prepared h ∷ os) b = moved os (suc b)
moved (Applied g hs ∷ os) b = moved os b
moved (Measured h c ∷ os) b = moved os (b - 1)

-- a step from b live handles, to as many as its event leaves
pub record InRoom (o : Bodies) (b : ℕ) (t : Term) (ev : Event) (t' : Term) (chosen : Bool) : Type 0 where
  -- the most that are live from here on are those live now and the most that are live after the step
  pub exact : chosen ≡ false → top o b t ≡ max b (top o (moved ev b) t')
  -- so it stays, unless the step measures
  pub stays : chosen ≡ false → b ≤ moved ev b → top o b t ≡ top o (moved ev b) t'
  -- an if's step, which leaves out a branch, may lower it; no step raises it
  pub falls : top o (moved ev b) t' ≤ top o b t
  -- the handles live before and after the step are within it, so each prepare of the step finds room where that many fit
  pub before : b ≤ top o b t
  pub after : moved ev b ≤ top o b t

abbrev pub Room : Type 0
Room = (ops : List Op) (o : Bodies) → OfBodies ops o → (t t' : Term) (μ μ' : Table) (p : Place) (es : List ℕ) (ev : Event) → (s : Step ops t μ p es ev t' μ') → (b : ℕ) →
    InRoom o b t ev t' (chooses s)

-- the numbers of the bodies can be found one after the other
abbrev pub BodiesFound : Type 0
BodiesFound = (ops : List Op) → Well ops → OfBodies ops (bodies ops)
