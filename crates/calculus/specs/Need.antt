-- How many steps a term takes.
use Rattle.std.specs.Prelude.{◌≡◌, List, [], ◌∷◌, ◌++◌, ℕ, ◌+◌, max, get_or}
use Rattle.std.proofs.Math.Option.{some}
use Rattle.calculus.specs.Syntax.{Form, tupling, meas, gate, call, Op}
use Rattle.calculus.specs.Syntax.{Term, give, done, name, build, bind, mut, set, using_in, if_else, Terms, no_terms, ◌∷ˢ◌}
use Rattle.calculus.specs.Rules.{nth}

-- a call adds the steps of the body; c gives the steps of each operation's body
abbrev pub body_steps : (ℕ → ℕ) → Form → ℕ
body_steps c tupling = 0
body_steps c meas = 0
body_steps c (gate g) = 0
body_steps c (call f) = c f

-- 1 plus the steps of the parts; of an if's branches only the greater counts
abbrev mutual
  pub steps : (ℕ → ℕ) → Term → ℕ
  steps c (give p v) = 1
  steps c (done v) = 0
  steps c (name p n) = 1
  steps c (build p f ts) = 1 + steps_all c ts + body_steps c f
  steps c (bind p xs e t) = 1 + steps c e + steps c t
  steps c (mut p xs e t) = 1 + steps c e + steps c t
  steps c (set p ns e t) = 1 + steps c e + steps c t
  steps c (using_in p xs t) = 1 + steps c t
  steps c (if_else p a t u) = 1 + steps c a + max (steps c t) (steps c u)

  pub steps_all : (ℕ → ℕ) → Terms → ℕ
  steps_all c no_terms = 0
  steps_all c (t ∷ˢ ts) = steps c t + steps_all c ts

-- c gives the steps of each body
abbrev pub Counts : List Op → (ℕ → ℕ) → Type 0
Counts ops c = (f : ℕ) (op : Op) → nth ops f ≡ some op → c f ≡ steps c op.body

-- what is known of each operation, found one after the other: a body calls only those above it
abbrev pub op_list : {A : Type 0} → A → ((ℕ → A) → Op → A) → List A → List Op → List A
op_list d m known [] = known
op_list d m known (op ∷ ops) = op_list d m (known ++ (m (λ f. get_or known f d) op ∷ [])) ops

abbrev pub by_op : {A : Type 0} → A → ((ℕ → A) → Op → A) → List Op → ℕ → A
by_op d m ops f = get_or (op_list d m [] ops) f d

-- the steps of the bodies
abbrev pub body_costs : List Op → ℕ → ℕ
body_costs ops = by_op 0 (λ c op. steps c op.body) ops
