-- The names in scope with their numbers, as the walk, naming and the rules see them.
use Rattle.std.proofs.Common.{◌≡◌, ℕ, ◌+◌, ◌-◌, ◌≤◌, Bool, true, false, cond, not, ◌&&◌, ◌||◌, eqb, List, [], ◌∷◌, ◌++◌, map, sym, refl, ap, ◌∙◌, arith, eq-eqb, eqb-true}
use mathlib.Core.Bool.{beq}
use mathlib.Core.Option.{Option, none, some}
use Rattle.std.specs.Str.{bytes_eq}
use Rattle.syntax.specs.Trees.{Identifier}
use Rattle.calculus.specs.Syntax.{Ty, linear, Name, var, entry, handle, is}
use Rattle.calculus.specs.Rules.{Uses, once, Divides, spent, Binding, fixed, settable, Scope, nowhere, extend}
use Rattle.calculus.proofs.Names.{never, is_eq, spent_other}
use Rattle.questions.specs.Names.{first_of, find, among}
use Rattle.questions.specs.Questions.{Known}
use Rattle.questions.specs.Walk.{bytes_of, mark, agree, names_of}
use Rattle.questions.specs.Resolves.{Bound, bound_name, numbered}
use Rattle.questions.proofs.Chains.{both, neither, beq_eq, beq_refl, and_go}

-- a name in scope but for its spent mark, and its number
pub record Tie : Type 0 where
  pub name : Identifier
  pub type : Ty
  pub settable : Bool
  pub number : ℕ

abbrev pub as_bound : Bool → Ty → Binding
as_bound true = settable
as_bound false = fixed

abbrev pub known : Tie → Bool → Known
known t b = record { name = t.name; type = t.type; settable = t.settable; spent = b }

abbrev pub bound : Tie → Bound
bound t = record { bytes = t.name.bytes; number = t.number }

-- the marks of the names, false where there is none
abbrev pub head : List Bool → Bool
head [] = false
head (b ∷ m) = b

abbrev pub tail : List Bool → List Bool
tail [] = []
tail (b ∷ m) = m

abbrev pub marked : List Tie → List Bool → List Known
marked [] m = []
marked (t ∷ z) m = known t (head m) ∷ marked z (tail m)

abbrev pub scope : List Tie → Scope
scope [] = nowhere
scope (t ∷ z) = extend (scope z) t.number (as_bound t.settable t.type)

-- the linear names that are not spent
abbrev pub avail : List Tie → List Bool → Uses
avail [] m n = 0
avail (t ∷ z) m n = cond (linear t.type && not (head m)) (once (var t.number) n) 0 + avail z (tail m) n

-- no two have the same number
abbrev pub Apart : List Tie → Type 0
Apart [] = Unit {0}
Apart (t ∷ z) = (scope z (var t.number) ≡ none) × Apart z

abbrev pub join : List Tie → List Bool → List Bool → List Bool
join [] m n = n
join (t ∷ z) m n = head m ∷ join z (tail m) n

pub joined : (z y : List Tie) (m n : List Bool) → marked z m ++ marked y n ≡ marked (z ++ y) (join z m n)
joined [] y m n = refl
joined (t ∷ z) y m n = ap (λ (l : List Known). known t (head m) ∷ l) (joined z y (tail m) n)

-- the search finds the same name in the marked names and in the numbered ones
pub unfound : (b : List ℕ) (z : List Tie) (m : List Bool) → find bound_name b (map bound z) ≡ none → find bytes_of b (marked z m) ≡ none
unfound b [] m h = refl
unfound b (t ∷ z) m h = go (find bound_name b (map bound z)) (λ k. unfound b z (tail m) k) refl (bytes_eq t.name.bytes b) refl h
  where
    go : (o : Option Bound) → (find bound_name b (map bound z) ≡ none → find bytes_of b (marked z (tail m)) ≡ none) → find bound_name b (map bound z) ≡ o → (e : Bool) → bytes_eq t.name.bytes b ≡ e → first_of o (cond e (some (bound t)) none) ≡ none →
        find bytes_of b (marked (t ∷ z) m) ≡ none
    go none ih q false r k = rw (ih q, r)
    go none ih q true r k = never cc
    go (some x) ih q e r k = never cc

abbrev pub Found : List ℕ → List Tie → List Bool → Bound → Type 0
Found b z m e = (k : Known) × (find bytes_of b (marked z m) ≡ some k) × (scope z (var e.number) ≡ some (as_bound k.settable k.type))

extend_other : (Γ : Scope) (x y : ℕ) (b c : Binding) → Γ (var x) ≡ none → Γ (var y) ≡ some c → extend Γ x b (var y) ≡ some c
extend_other Γ x y b c g h = go (eqb x y) refl
  where
    go : (e : Bool) → eqb x y ≡ e → cond e (some b) (Γ (var y)) ≡ some c
    go true q = let p : x ≡ y = eqb-true x y q in let r : Γ (var x) ≡ Γ (var y) = ap (λ (n : ℕ). Γ (var n)) p in never cc
    go false q = h

extend_here : (Γ : Scope) (x : ℕ) (b : Binding) → extend Γ x b (var x) ≡ some b
extend_here Γ x b = rw (eq-eqb x x refl)

pub found : (b : List ℕ) (z : List Tie) (m : List Bool) (e : Bound) → Apart z → find bound_name b (map bound z) ≡ some e → Found b z m e
found b [] m e a h = never cc
found b (t ∷ z) m e a h = go (find bound_name b (map bound z)) (λ k. found b z (tail m) e a.1 k) refl (bytes_eq t.name.bytes b) refl h
  where
    go : (o : Option Bound) → (find bound_name b (map bound z) ≡ some e → Found b z (tail m) e) → find bound_name b (map bound z) ≡ o → (s : Bool) → bytes_eq t.name.bytes b ≡ s → first_of o (cond s (some (bound t)) none) ≡ some e → Found b (t ∷ z) m e
    go none ih q false r k = never cc
    go none ih q true r k =
        let x : bound t ≡ e = cc in let y : t.number ≡ e.number = ap (λ (c : Bound). c.number) x in
        (known t (head m), rw (unfound b z (tail m) q, r), rw (← y) (extend_here (scope z) t.number _))
    go (some c) ih q s r k =
        let x : c ≡ e = cc in let f = ih (q ∙ ap some x) in
        (f.0, rw f.1, extend_other (scope z) t.number e.number _ _ a.0 f.2)

abbrev pub is_some : {A : Type 0} → Option A → Bool
is_some none = false
is_some (some a) = true

pub among_find : {A : Type 0} (f : A → List ℕ) (b : List ℕ) (l : List A) → among b (map f l) ≡ is_some (find f b l)
among_find f b [] = refl
among_find {A} f b (a ∷ l) = go (find f b l) (bytes_eq (f a) b) (among_find f b l)
  where
    go : (o : Option A) (e : Bool) → among b (map f l) ≡ is_some o → (e || among b (map f l)) ≡ is_some (first_of o (cond e (some a) none))
    go none true r = refl
    go none false r = r
    go (some x) true r = refl
    go (some x) false r = r

-- a linear name that is not spent is marked
pub marks : (b : List ℕ) (z : List Tie) (m : List Bool) (e : Bound) (k : Known) → Apart z → find bound_name b (map bound z) ≡ some e → find bytes_of b (marked z m) ≡ some k →
    linear k.type ≡ true → k.spent ≡ false → (m' : List Bool) × (mark b (marked z m) ≡ marked z m') × Divides (avail z m) (once (var e.number)) (avail z m')
marks b [] m e k a h j l u = never cc
marks b (t ∷ z) m e k a h j l u = go (find bound_name b (map bound z)) (λ h' j'. marks b z (tail m) e k a.1 h' j' l u) refl (bytes_eq t.name.bytes b) refl h
  where
    go : (o : Option Bound) →
        (find bound_name b (map bound z) ≡ some e → find bytes_of b (marked z (tail m)) ≡ some k →
        (m' : List Bool) × (mark b (marked z (tail m)) ≡ marked z m') × Divides (avail z (tail m)) (once (var e.number)) (avail z m')) → find bound_name b (map bound z) ≡ o → (s : Bool) → bytes_eq t.name.bytes b ≡ s → first_of o (cond s (some (bound t)) none) ≡ some e →
        (m' : List Bool) × (mark b (marked (t ∷ z) m) ≡ marked (t ∷ z) m') × Divides (avail (t ∷ z) m) (once (var e.number)) (avail (t ∷ z) m')
    go none ih q false r i = never cc
    go none ih q true r i =
        let x : bound t ≡ e = cc in let y : t.number ≡ e.number = ap (λ (c : Bound). c.number) x in
        let absent : find bytes_of b (marked z (tail m)) ≡ none = unfound b z (tail m) q in
        let here : find bytes_of b (marked (t ∷ z) m) ≡ some (known t (head m)) = rw (absent, r) in
        let same : k ≡ known t (head m) = cc in
        let lin : linear t.type ≡ true = ap (λ (c : Known). linear c.type) (sym same) ∙ l in
        let uns : head m ≡ false = ap (λ (c : Known). c.spent) (sym same) ∙ u in
        let out : among b (map bytes_of (marked z (tail m))) ≡ false = among_find bytes_of b (marked z (tail m)) ∙ rw absent in
        (true ∷ tail m, rw (out, r), λ n. rw (lin, uns, y) (omega arith))
    go (some c) ih q s r i =
        let x : c ≡ e = cc in let q' : find bound_name b (map bound z) ≡ some e = q ∙ ap some x in
        let f = found b z (tail m) e a.1 q' in
        let here : find bytes_of b (marked (t ∷ z) m) ≡ some f.0 = rw f.1 in
        let same : f.0 ≡ k = cc in
        let w = ih q' (f.1 ∙ ap some same) in
        let ins : among b (map bytes_of (marked z (tail m))) ≡ true = among_find bytes_of b (marked z (tail m)) ∙ rw f.1 in
        (head m ∷ w.0, rw (ins, w.1), λ n. omega (arith, w.2 n))

first_assoc : {A : Type 0} (o p r : Option A) → first_of (first_of o p) r ≡ first_of o (first_of p r)
first_assoc none p r = refl
first_assoc (some a) p r = refl

first_none : {A : Type 0} (o : Option A) → o ≡ first_of o none
first_none none = refl
first_none (some a) = refl

find_append : {A : Type 0} (f : A → List ℕ) (b : List ℕ) (g : Tie → A) (z y : List Tie) → find f b (map g (z ++ y)) ≡ first_of (find f b (map g y)) (find f b (map g z))
find_append f b g [] y = first_none (find f b (map g y))
find_append f b g (t ∷ z) y = rw (find_append f b g z y) (first_assoc (find f b (map g y)) (find f b (map g z)) _)

-- a name that is not outside is inside
pub inside : (b : List ℕ) (z y : List Tie) (n : List Bool) (e : Bound) → Apart y → find bound_name b (map bound (z ++ y)) ≡ some e → among b (names_of (marked y n)) ≡ false →
    find bound_name b (map bound z) ≡ some e
inside b z y n e a h u = go (find bound_name b (map bound y)) refl
  where
    go : (o : Option Bound) → find bound_name b (map bound y) ≡ o → find bound_name b (map bound z) ≡ some e
    go none q = let w = find_append bound_name b bound z y in rw q at (sym w ∙ h)
    go (some c) q = let f = found b y n c a q in let v = among_find bytes_of b (marked y n) in let v' : is_some (find bytes_of b (marked y n)) ≡ true = rw f.1 in never cc

pub apart_later : (z y : List Tie) → Apart (z ++ y) → Apart y
apart_later [] y a = a
apart_later (t ∷ z) y a = apart_later z y a.1

hidden : (Γ : Scope) (x y : ℕ) (b : Binding) → extend Γ x b (var y) ≡ none → (eqb x y ≡ false) × (Γ (var y) ≡ none)
hidden Γ x y b h = go (eqb x y) refl h
  where
    go : (e : Bool) → eqb x y ≡ e → cond e (some b) (Γ (var y)) ≡ none → (eqb x y ≡ false) × (Γ (var y) ≡ none)
    go true q g = never cc
    go false q g = (q, g)

apart_scope : (z y : List Tie) → (x : ℕ) → scope (z ++ y) (var x) ≡ none → scope z (var x) ≡ none
apart_scope [] y x h = refl
apart_scope (t ∷ z) y x h = let k = hidden (scope (z ++ y)) t.number x _ h in rw k.0 (apart_scope z y x k.1)

pub apart_inner : (z y : List Tie) → Apart (z ++ y) → Apart z
apart_inner [] y a = tt
apart_inner (t ∷ z) y a = (apart_scope z y t.number a.0, apart_inner z y a.1)

-- what is not in scope is not at hand
pub absent : (z y : List Tie) (m : List Bool) (x : ℕ) → scope (z ++ y) (var x) ≡ none → avail z m (var x) ≡ 0
absent [] y m x h = refl
absent (t ∷ z) y m x h = let k = hidden (scope (z ++ y)) t.number x _ h in go (linear t.type && not (head m)) k.0 (absent z y (tail m) x k.1)
  where
    go : (l : Bool) → eqb t.number x ≡ false → avail z (tail m) (var x) ≡ 0 → cond l (once (var t.number) (var x)) 0 + avail z (tail m) (var x) ≡ 0
    go true q r = rw q (omega arith)
    go false q r = omega arith

-- a new number is that of no name in scope
pub number_new : (z : List Tie) (x : ℕ) → numbered x (map bound z) ≡ false → scope z (var x) ≡ none
number_new [] x h = refl
number_new (t ∷ z) x h = let k = neither (eqb t.number x) _ h in rw k.0 (number_new z x k.1)

-- the scope of a new name, closed again
pub closed : (t : Tie) (z y : List Tie) (m m₁ : List Bool) (Δ : Uses) → scope (z ++ y) (var t.number) ≡ none → linear t.type && not (head m₁) ≡ false →
    Divides (avail (t ∷ z) (false ∷ m)) Δ (avail (t ∷ z) m₁) →
    (Δ₂ : Uses) × (Δ₂ (var t.number) ≡ 0) × Divides Δ Δ₂ (spent t.type (var t.number)) × Divides (avail z m) Δ₂ (avail z (tail m₁))
closed t z y m m₁ Δ g c d =
    let here : avail z m (var t.number) ≡ 0 = absent z y m t.number g in
    ((λ n. avail z m n - avail z (tail m₁) n), omega arith, (λ n. (parts (is (var t.number) n) n refl).0), (λ n. (parts (is (var t.number) n) n refl).1))
  where
    brought : (n : Name) → avail (t ∷ z) (false ∷ m) n ≡ avail z m n + spent t.type (var t.number) n
    brought n = go (linear t.type)
      where
        go : (b : Bool) → cond (b && true) (once (var t.number) n) 0 + avail z m n ≡ avail z m n + cond b (once (var t.number) n) 0
        go true = omega arith
        go false = omega arith

    left : (n : Name) → avail (t ∷ z) m₁ n ≡ avail z (tail m₁) n
    left n = rw c (omega arith)

    parts : (b : Bool) (n : Name) → is (var t.number) n ≡ b →
        (Δ n ≡ (avail z m n - avail z (tail m₁) n) + spent t.type (var t.number) n) × (avail z m n ≡ (avail z m n - avail z (tail m₁) n) + avail z (tail m₁) n)
    parts true n q =
        let e : n ≡ var t.number = sym (is_eq (var t.number) n q) in
        let a : avail z m n ≡ 0 = ap (avail z m) e ∙ absent z y m t.number g in
        let b : avail z (tail m₁) n ≡ 0 = ap (avail z (tail m₁)) e ∙ absent z y (tail m₁) t.number g in
        (omega (arith, d n, brought n, left n), omega arith)
    parts false n q =
        let s : spent t.type (var t.number) n ≡ 0 = spent_other t.type (var t.number) n q in
        (omega (arith, d n, brought n, left n), omega (arith, d n, brought n, left n))

-- branches that agree leave the same
pub agree_avail : (z : List Tie) (m₁ m₂ : List Bool) → agree (marked z m₁) (marked z m₂) ≡ true → (n : Name) → avail z m₁ n ≡ avail z m₂ n
agree_avail [] m₁ m₂ h n = refl
agree_avail (t ∷ z) m₁ m₂ h n =
    let k = both (beq (linear t.type && not (head m₁)) (linear t.type && not (head m₂))) _ h in
    let e : linear t.type && not (head m₁) ≡ linear t.type && not (head m₂) = beq_eq _ _ k.0 in
    rw e (omega (arith, agree_avail z (tail m₁) (tail m₂) k.1 n))

pub found_later : {A : Type 0} (f : A → List ℕ) (b : List ℕ) (l r : List A) → find f b (l ++ r) ≡ first_of (find f b r) (find f b l)
found_later f b [] r = first_none (find f b r)
found_later f b (a ∷ l) r = rw (found_later f b l r) (first_assoc (find f b r) (find f b l) _)

pub not_some : {A : Type 0} (o : Option A) → is_some o ≡ false → o ≡ none
not_some none h = refl
not_some (some a) h = never cc

-- a name found in both lists and not outside is found inside
pub found_inside : {A : Type 0} (f : A → List ℕ) (b : List ℕ) (l r : List A) (k : A) → find f b (l ++ r) ≡ some k → among b (map f r) ≡ false → find f b l ≡ some k
found_inside f b l r k h u =
    let w = not_some (find f b r) (sym (among_find f b r) ∙ u) in let v = found_later f b l r in
    rw w at (sym v ∙ h)

pub same_names : (z : List Tie) (m : List Bool) → map bound_name (map bound z) ≡ names_of (marked z m)
same_names [] m = refl
same_names (t ∷ z) m = ap (λ (l : List (List ℕ)). t.name.bytes ∷ l) (same_names z (tail m))

-- only names of the text are at hand
pub avail_text : (z : List Tie) (m : List Bool) (k : ℕ) → (avail z m (entry k) ≡ 0) × (avail z m (handle k) ≡ 0)
avail_text [] m k = (refl, refl)
avail_text (t ∷ z) m k = let r = avail_text z (tail m) k in (go (linear t.type && not (head m)) r.0, go (linear t.type && not (head m)) r.1)
  where
    go : (b : Bool) {a : ℕ} → a ≡ 0 → cond b 0 0 + a ≡ 0
    go true h = omega arith
    go false h = omega arith

-- a name that comes into scope is at hand if it is linear
pub brought : (t : Tie) (z : List Tie) (m : List Bool) (n : Name) → avail (t ∷ z) (false ∷ m) n ≡ avail z m n + spent t.type (var t.number) n
brought t z m n = go (linear t.type)
  where
    go : (b : Bool) → cond (b && true) (once (var t.number) n) 0 + avail z m n ≡ avail z m n + cond b (once (var t.number) n) 0
    go true = omega arith
    go false = omega arith

once_here : (x : ℕ) → once (var x) (var x) ≡ 1
once_here x = rw (eq-eqb x x refl)

-- a name of which nothing is at hand is not linear, or spent
pub none_open : (t : Tie) (z : List Tie) (m : List Bool) → avail (t ∷ z) m (var t.number) ≡ 0 → linear t.type && not (head m) ≡ false
none_open t z m h = go (linear t.type && not (head m)) h
  where
    go : (b : Bool) → cond b (once (var t.number) (var t.number)) 0 + avail z (tail m) (var t.number) ≡ 0 → b ≡ false
    go true k = never (omega (arith, once_here t.number))
    go false k = refl

pub left_over : (t : Tie) (z : List Tie) (m : List Bool) → linear t.type && not (head m) ≡ false → (n : Name) → avail (t ∷ z) m n ≡ avail z (tail m) n
left_over t z m c n = rw c (omega arith)

later_none : (z y : List Tie) (x : ℕ) → scope (z ++ y) (var x) ≡ none → scope y (var x) ≡ none
later_none [] y x h = h
later_none (t ∷ z) y x h = later_none z y x (hidden (scope (z ++ y)) t.number x _ h).1

-- nothing is at hand of a name that is outside
outside_none : (z y : List Tie) (m : List Bool) (x : ℕ) (b : Binding) → Apart (z ++ y) → scope y (var x) ≡ some b → avail z m (var x) ≡ 0
outside_none [] y m x b a h = refl
outside_none (t ∷ z) y m x b a h = go (eqb t.number x) refl (linear t.type && not (head m)) (outside_none z y (tail m) x b a.1 h)
  where
    go : (e : Bool) → eqb t.number x ≡ e → (l : Bool) → avail z (tail m) (var x) ≡ 0 → cond l (cond e 1 0) 0 + avail z (tail m) (var x) ≡ 0
    go true q l r =
        let p : t.number ≡ x = eqb-true t.number x q in
        let w : scope y (var t.number) ≡ none = later_none z y t.number a.0 in
        let v : scope y (var t.number) ≡ scope y (var x) = ap (λ (k : ℕ). scope y (var k)) p in never cc
    go false q true r = omega arith
    go false q false r = omega arith

-- a name at hand is inside
pub hand_inside : (b : List ℕ) (z y : List Tie) (m n : List Bool) (e : Bound) → Apart (z ++ y) → find bound_name b (map bound (z ++ y)) ≡ some e → 1 ≤ avail z m (var e.number) →
    (find bound_name b (map bound y) ≡ none) × (find bound_name b (map bound z) ≡ some e)
hand_inside b z y m n e a h l = go (find bound_name b (map bound y)) refl
  where
    go : (o : Option Bound) → find bound_name b (map bound y) ≡ o → (find bound_name b (map bound y) ≡ none) × (find bound_name b (map bound z) ≡ some e)
    go none q = let w = find_append bound_name b bound z y in (q, rw q at (sym w ∙ h))
    go (some c) q =
        let w = find_append bound_name b bound z y in let v : some c ≡ some e = rw q at (sym w ∙ h) in let c_is : c ≡ e = cc in
        let f = found b y n e (apart_later z y a) (q ∙ ap some c_is) in
        never (omega (arith, outside_none z y m e.number (as_bound f.0.settable f.0.type) a f.2))

apart_once : (Γ : Scope) (x y : ℕ) (c : Binding) → Γ (var x) ≡ none → Γ (var y) ≡ some c → once (var x) (var y) ≡ 0
apart_once Γ x y c g h = go (eqb x y) refl
  where
    go : (e : Bool) → eqb x y ≡ e → ◌≡◌ {A = ℕ} (cond e 1 0) 0
    go true q = let p : x ≡ y = eqb-true x y q in let r : Γ (var x) ≡ Γ (var y) = ap (λ (n : ℕ). Γ (var n)) p in never cc
    go false q = refl

-- a name at hand is not spent
pub hand_unspent : (b : List ℕ) (z y : List Tie) (m : List Bool) (e : Bound) (k : Known) → Apart (z ++ y) → find bound_name b (map bound z) ≡ some e → find bytes_of b (marked z m) ≡ some k →
    1 ≤ avail z m (var e.number) → k.spent ≡ false
hand_unspent b [] y m e k a h j l = never cc
hand_unspent b (t ∷ z) y m e k a h j l =
    go (find bound_name b (map bound z)) (λ h' j' l'. hand_unspent b z y (tail m) e k a.1 h' j' l') refl (bytes_eq t.name.bytes b) refl h
  where
    open_mark : (v w : Bool) → ◌≡◌ {A = ℕ} (cond (v && not w) 1 0) 1 → w ≡ false
    open_mark true true q = never cc
    open_mark true false q = refl
    open_mark false w q = never cc

    at_most : (v : Bool) {x : ℕ} → x ≡ 1 → 1 ≤ cond v x 0 → ◌≡◌ {A = ℕ} (cond v 1 0) 1
    at_most true e l = refl
    at_most false e l = never (omega arith)

    zero_of : (v : Bool) {x : ℕ} → x ≡ 0 → cond v x 0 ≡ 0
    zero_of true e = e
    zero_of false e = refl

    go : (o : Option Bound) →
        (find bound_name b (map bound z) ≡ some e → find bytes_of b (marked z (tail m)) ≡ some k → 1 ≤ avail z (tail m) (var e.number) → k.spent ≡ false) →
        find bound_name b (map bound z) ≡ o → (s : Bool) → bytes_eq t.name.bytes b ≡ s → first_of o (cond s (some (bound t)) none) ≡ some e → k.spent ≡ false
    go none ih q false r i = never cc
    go none ih q true r i =
        let x : bound t ≡ e = cc in let p : e.number ≡ t.number = sym (ap (λ (c : Bound). c.number) x) in
        let here : find bytes_of b (marked (t ∷ z) m) ≡ some (known t (head m)) = rw (unfound b z (tail m) q, r) in
        let same : known t (head m) ≡ k = cc in
        let l' : 1 ≤ avail (t ∷ z) m (var t.number) = rw p at l in
        let rest : avail z (tail m) (var t.number) ≡ 0 = absent z y (tail m) t.number a.0 in
        let top : 1 ≤ cond (linear t.type && not (head m)) (once (var t.number) (var t.number)) 0 = omega (arith, l', rest) in
        let u : head m ≡ false = open_mark (linear t.type) (head m) (at_most _ (once_here t.number) top) in
        ap (λ (c : Known). c.spent) (sym same) ∙ u
    go (some c) ih q s r i =
        let x : c ≡ e = cc in let q' : find bound_name b (map bound z) ≡ some e = q ∙ ap some x in
        let f = found b z (tail m) e (apart_inner z y a.1) q' in
        let here : find bytes_of b (marked (t ∷ z) m) ≡ some f.0 = rw f.1 in
        let same : f.0 ≡ k = cc in
        let not_t : once (var t.number) (var e.number) ≡ 0 = apart_once (scope z) t.number e.number _ (apart_scope z y t.number a.0) f.2 in
        let none_t = zero_of (linear t.type && not (head m)) not_t in
        ih q' (f.1 ∙ ap some same) (omega (arith, l, none_t))

-- branches that leave the same agree
pub avail_agree : (z y : List Tie) (m₁ m₂ : List Bool) → Apart (z ++ y) → ((n : Name) → avail z m₁ n ≡ avail z m₂ n) → agree (marked z m₁) (marked z m₂) ≡ true
avail_agree [] y m₁ m₂ a h = refl
avail_agree (t ∷ z) y m₁ m₂ a h =
    let r₁ = absent z y (tail m₁) t.number a.0 in let r₂ = absent z y (tail m₂) t.number a.0 in
    let e = same_open (linear t.type && not (head m₁)) (linear t.type && not (head m₂)) (omega (arith, h (var t.number), r₁, r₂)) in
    and_go (rw e (beq_refl _)) (avail_agree z y (tail m₁) (tail m₂) a.1 (λ n. omega (arith, h n, ap (λ (b : Bool). cond b (once (var t.number) n) 0) e)))
  where
    same_open : (v w : Bool) → cond v (once (var t.number) (var t.number)) 0 ≡ cond w (once (var t.number) (var t.number)) 0 → v ≡ w
    same_open true true q = refl
    same_open true false q = never (omega (arith, once_here t.number))
    same_open false true q = never (omega (arith, once_here t.number))
    same_open false false q = refl
