-- The machine's answers and the new entries settle the step.
use mathlib.Core.Path.{◌≡◌, refl, sym, ◌∙◌, ap}
use mathlib.Core.List.{List, [], ◌∷◌, map}
use mathlib.Core.Bool.{Bool}
use Prim.Native.Nat.{ℕ, suc}
use native.Mathlib.Omega.{arith}
use lib.ListN.{length}
use Rattle.machine.specs.Orders.{handle_list}
use Rattle.machine.specs.declared.order.Handles.{Handles}
use Rattle.machine.specs.declared.order.Handles.TheVariants.{One, Two}
use Rattle.calculus.specs.Syntax.{Name, entry, Value, tuple_of, Values, Pattern, one, several, names, Form, Place, Term, done, Terms, Op}
use Rattle.calculus.specs.Laws.{outcome, Determined}
use Rattle.calculus.specs.Steps.{puts, given, Table, Event, prepares, handle_values, AllDone, none_left, one_done, Acts, acts_tuple, acts_meas, acts_gate, acts_call, Taken, Step, step_give}
use Rattle.calculus.specs.Steps.{step_name, step_parts, step_build, step_bind_in, step_bind, step_mut_in, step_mut, step_set_in, step_set, step_using, step_if_in, step_if, StepPart}
use Rattle.calculus.specs.Steps.{step_first, step_later, Agrees}
use Rattle.calculus.proofs.Names.{never}

stuck : {ops : List Op} {v : Value} {μ μ' : Table} {p : Place} {es : List ℕ} {ev : Event} {t' : Term} → Step ops (done v) μ p es ev t' μ' → ⊥
stuck s = elim s [ ]

data Outcomes : Type 0 where
  outcomes : Place → Event → Terms → Table → Outcomes

all_stuck : {ops : List Op} {ts ts' : Terms} {vs : Values} {μ μ' : Table} {p : Place} {es : List ℕ} {ev : Event} → AllDone ts vs → StepPart ops ts μ p es ev ts' μ' → ⊥
all_stuck none_left s = elim s [ ]
all_stuck (one_done a) (step_first s) = stuck s
all_stuck (one_done a) (step_later s) = all_stuck a s

one_way : {ts : Terms} {vs : Values} → AllDone ts vs → (ws : Values) → AllDone ts ws → vs ≡ ws
one_way none_left ws none_left = refl
one_way (one_done a) ws (one_done {vs = us} c) = let e = one_way a us c in cc

-- values are handles in one way
one_gate : (hs ks : Handles) (vs : Values) → vs ≡ handle_values (handle_list hs) → vs ≡ handle_values (handle_list ks) → hs ≡ ks
one_gate (One a) (One b) vs p q = cc
one_gate (One a) (Two b c) vs p q = never cc
one_gate (Two a b) (One c) vs p q = never cc
one_gate (Two a b) (Two c d) vs p q = cc

one_set : (es ds : List ℕ) (ns : List Name) → ns ≡ map entry es → ns ≡ map entry ds → es ≡ ds
one_set [] [] ns p q = refl
one_set [] (d ∷ ds) ns p q = never cc
one_set (e ∷ es) [] ns p q = never cc
one_set (e ∷ es) (d ∷ ds) ns p q =
    let both : entry e ∷ map entry es ≡ entry d ∷ map entry ds = sym p ∙ q in
    let r = one_set es ds (map entry es) refl (rest both) in
    let h = first both in
    cc
  where
    first : entry e ∷ map entry es ≡ entry d ∷ map entry ds → e ≡ d
    first b = cc

    rest : entry e ∷ map entry es ≡ entry d ∷ map entry ds → map entry es ≡ map entry ds
    rest b = cc

-- the handles that the machine answers
one_answer : (ks ls : List ℕ) (hs : ℕ → ℕ) (b : Bool) → length ks ≡ length ls → Agrees (prepares ks) hs b → Agrees (prepares ls) hs b → ks ≡ ls
one_answer [] [] hs b l p q = refl
one_answer [] (j ∷ ls) hs b l p q = never (omega arith)
one_answer (k ∷ ks) [] hs b l p q = never (omega arith)
one_answer (k ∷ ks) (j ∷ ls) hs b l p q = let r = one_answer ks ls (λ i. hs (suc i)) b (omega (arith, l)) p.1 q.1 in join (p.0 ∙ sym q.0) r
  where
    join : k ≡ j → ks ≡ ls → k ∷ ks ≡ j ∷ ls
    join e r = cc

acts_settled : {ops : List Op} {f : Form} {vs : Values} {ev : Event} {t : Term} → Acts ops f vs ev t → (ev₂ : Event) (t₂ : Term) → Acts ops f vs ev₂ t₂ →
    (hs : ℕ → ℕ) (b : Bool) → Agrees ev hs b → Agrees ev₂ hs b → (ev ≡ ev₂) × (t ≡ t₂)
acts_settled acts_tuple ev₂ t₂ acts_tuple hs b a a₂ = (refl, refl)
acts_settled (acts_meas {b = c}) ev₂ t₂ (acts_meas {b = d}) hs b a a₂ = let e : c ≡ d = a.0 ∙ sym a₂.0 in (cc, cc)
acts_settled (acts_gate {vs = vs} ks q) ev₂ t₂ (acts_gate ls r) hs b a a₂ = let e = one_gate ks ls vs q r in (cc, refl)
acts_settled (acts_call {vs = vs} op k) ev₂ t₂ (acts_call op₂ k₂) hs b a a₂ = let e : op ≡ op₂ = cc in (refl, ap (λ (o : Op). puts o.params (given vs) o.body) e)

taken_settled : {N : Type 0} (xs : Pattern N) (v : Value) (vs ws : Values) → Taken xs v vs → Taken xs v ws → vs ≡ ws
taken_settled (one x) v vs ws k j = k ∙ sym j
taken_settled (several xs) v vs ws k j = inj (sym k ∙ j)
  where
    inj : tuple_of vs ≡ tuple_of ws → vs ≡ ws
    inj e = cc

module _ (ops : List Op) (hs : ℕ → ℕ) (b : Bool) where
  mutual
    settled : {t t' : Term} {μ μ' : Table} {p : Place} {es : List ℕ} {ev : Event} → Step ops t μ p es ev t' μ' → (p₂ : Place) (ev₂ : Event) (t₂ : Term) (μ₂ : Table) →
        Step ops t μ p₂ es ev₂ t₂ μ₂ → Agrees ev hs b → Agrees ev₂ hs b → outcome p ev t' μ' ≡ outcome p₂ ev₂ t₂ μ₂
    settled step_give p₂ ev₂ t₂ μ₂ step_give a a₂ = refl
    settled step_name p₂ ev₂ t₂ μ₂ step_name a a₂ = refl
    settled (step_parts s) p₂ ev₂ t₂ μ₂ (step_parts s₂) a a₂ = let e = settled_all s _ _ _ _ s₂ a a₂ in cc
    settled (step_parts s) p₂ ev₂ t₂ μ₂ (step_build vs d act) a a₂ = absurd (all_stuck d s)
    settled (step_build vs d act) p₂ ev₂ t₂ μ₂ (step_parts s₂) a a₂ = absurd (all_stuck d s₂)
    settled (step_build vs d act) p₂ ev₂ t₂ μ₂ (step_build ws d₂ act₂) a a₂ =
        let e = acts_settled act ev₂ t₂ (rw (one_way d₂ vs d) at act₂) hs b a a₂ in cc
    settled (step_bind_in s) p₂ ev₂ t₂ μ₂ (step_bind_in s₂) a a₂ = let e = settled s _ _ _ _ s₂ a a₂ in cc
    settled (step_bind_in s) p₂ ev₂ t₂ μ₂ (step_bind vs w) a a₂ = absurd (stuck s)
    settled (step_bind vs w) p₂ ev₂ t₂ μ₂ (step_bind_in s₂) a a₂ = absurd (stuck s₂)
    settled (step_bind {xs = xs} {v = v} vs w) p₂ ev₂ t₂ μ₂ (step_bind ws w₂) a a₂ = let e = taken_settled xs v vs ws w w₂ in cc
    settled (step_mut_in s) p₂ ev₂ t₂ μ₂ (step_mut_in s₂) a a₂ = let e = settled s _ _ _ _ s₂ a a₂ in cc
    settled (step_mut_in s) p₂ ev₂ t₂ μ₂ (step_mut vs w l) a a₂ = absurd (stuck s)
    settled (step_mut vs w l) p₂ ev₂ t₂ μ₂ (step_mut_in s₂) a a₂ = absurd (stuck s₂)
    settled (step_mut {xs = xs} {v = v} vs w l) p₂ ev₂ t₂ μ₂ (step_mut ws w₂ l₂) a a₂ = let e = taken_settled xs v vs ws w w₂ in cc
    settled (step_set_in s) p₂ ev₂ t₂ μ₂ (step_set_in s₂) a a₂ = let e = settled s _ _ _ _ s₂ a a₂ in cc
    settled (step_set_in s) p₂ ev₂ t₂ μ₂ (step_set vs w ds q) a a₂ = absurd (stuck s)
    settled (step_set vs w ds q) p₂ ev₂ t₂ μ₂ (step_set_in s₂) a a₂ = absurd (stuck s₂)
    settled (step_set {ns = ns} {v = v} vs w ds q) p₂ ev₂ t₂ μ₂ (step_set ws w₂ cs r) a a₂ =
        let e = taken_settled ns v vs ws w w₂ in let f = one_set ds cs (names ns) q r in cc
    settled (step_using ks l) p₂ ev₂ t₂ μ₂ (step_using ls l₂) a a₂ = let e = one_answer ks ls hs b (l ∙ sym l₂) a a₂ in cc
    settled (step_if_in s) p₂ ev₂ t₂ μ₂ (step_if_in s₂) a a₂ = let e = settled s _ _ _ _ s₂ a a₂ in cc
    settled (step_if_in s) p₂ ev₂ t₂ μ₂ step_if a a₂ = absurd (stuck s)
    settled step_if p₂ ev₂ t₂ μ₂ (step_if_in s₂) a a₂ = absurd (stuck s₂)
    settled step_if p₂ ev₂ t₂ μ₂ step_if a a₂ = refl

    settled_all : {ts ts' : Terms} {μ μ' : Table} {p : Place} {es : List ℕ} {ev : Event} → StepPart ops ts μ p es ev ts' μ' → (p₂ : Place) (ev₂ : Event) (ts₂ : Terms) (μ₂ : Table) →
        StepPart ops ts μ p₂ es ev₂ ts₂ μ₂ → Agrees ev hs b → Agrees ev₂ hs b → outcomes p ev ts' μ' ≡ outcomes p₂ ev₂ ts₂ μ₂
    settled_all (step_first s) p₂ ev₂ ts₂ μ₂ (step_first s₂) a a₂ = let e = settled s _ _ _ _ s₂ a a₂ in cc
    settled_all (step_first s) p₂ ev₂ ts₂ μ₂ (step_later s₂) a a₂ = absurd (stuck s)
    settled_all (step_later s) p₂ ev₂ ts₂ μ₂ (step_first s₂) a a₂ = absurd (stuck s₂)
    settled_all (step_later s) p₂ ev₂ ts₂ μ₂ (step_later s₂) a a₂ = let e = settled_all s _ _ _ _ s₂ a a₂ in cc

pub determined : Determined
determined ops t μ es p p₂ ev ev₂ t' t₂ μ' μ₂ s s₂ hs b a a₂ = settled ops hs b s p₂ ev₂ t₂ μ₂ s₂ a a₂
