-- What stands for one more name is the same as that put for the name.
use Rattle.std.proofs.Common.{◌≡◌, ℕ, zero, suc, ◌+◌, ◌<◌, ◌≤◌, Bool, true, false, cond, not, eqb, List, [], ◌∷◌, map, length, refl, ap, ◌∙◌, arith, eq-eqb, ne_eqb, eqb-true}
use mathlib.Core.Option.{Option, none, some}
use Rattle.machine.specs.Model.{absent, distinct}
use Rattle.calculus.specs.Syntax.{Name, var, entry, handle, Values, no_values, ◌∷ᵛ◌, Pattern, one, several, names, Place}
use Rattle.calculus.specs.Syntax.{Term, give, done, name, build, bind, mut, set, using_in, if_else, Terms, no_terms, ◌∷ˢ◌}
use Rattle.calculus.specs.Steps.{by_value, by_entry, stand_at, put, put_all, puts, given, target, targets}
use Rattle.calculus.proofs.Names.{never, eqb_sym}
use Rattle.calculus.proofs.Tables.{both_true, not_false}
use Rattle.programs.specs.declared.program.Node.TheVariants.{Place as NoTerm}
use Rattle.run_laws.specs.Programs.{IsNoTerm, Code, range, meant, pattern, bind_term}
use Rattle.run_laws.specs.Reads.{Standing, valued, mutable, Env, bare, bound, binds, stand_of, as_term, as_name, close_name, close_target, close_targets, close, close_all, closed_bind, items}
use Rattle.grammar.specs.declared.tree.Binder.{Binder}
use Rattle.grammar.specs.declared.tree.Binder.TheVariants.{Let, Mut, Set}

-- the same at one name, with the test as b
stood : (p : Place) (x y : ℕ) (s : Standing) → x ≡ y → stand_at p (stand_of x s) ≡ stand_at p (stand_of y s)
stood p x y s q = ap (λ (z : ℕ). stand_at p (stand_of z s)) q

put_stood : (p : Place) (x y : ℕ) (s r : Standing) → put x (stand_of x s) (stand_at p (stand_of y r)) ≡ stand_at p (stand_of y r)
put_stood p x y s (valued v) = refl
put_stood p x y s mutable = refl

put_stand : (p : Place) (x y : ℕ) (s : Standing) (r : Option Standing) (b : Bool) → eqb x y ≡ b → (b ≡ true → r ≡ none) →
    put x (stand_of x s) (as_term p y r) ≡ as_term p y (cond b (some s) r)
put_stand p x y s none true e h = rw e (stood p x y s (eqb-true x y e))
put_stand p x y s (some r) true e h = let z = h refl in never cc
put_stand p x y s none false e h = rw e refl
put_stand p x y s (some r) false e h = put_stood p x y s r

target_stand : (x y : ℕ) (s : Standing) (r : Option Standing) (b : Bool) → eqb x y ≡ b → (b ≡ true → r ≡ none) → target x (stand_of x s) (as_name y r) ≡ as_name y (cond b (some s) r)
target_stand x y s (some r) true e h = let z = h refl in never cc
target_stand x y (valued v) none true e h = refl
target_stand x y mutable none true e h = rw e (ap entry (eqb-true x y e))
target_stand x y (valued v) none false e h = refl
target_stand x y mutable none false e h = rw e refl
target_stand x y (valued w) (some (valued v)) false e h = refl
target_stand x y mutable (some (valued v)) false e h = rw e refl
target_stand x y (valued v) (some mutable) false e h = refl
target_stand x y mutable (some mutable) false e h = refl

module _ (x : ℕ) (s : Standing) (σ : Env) (free : σ x ≡ none) where
  at_x : (y : ℕ) → eqb x y ≡ true → σ y ≡ none
  at_x y e = rw (← eqb-true x y e) free

  put_name : (p : Place) (n : Name) → put x (stand_of x s) (close_name σ p n) ≡ close_name (bound x s σ) p n
  put_name p (var y) = put_stand p x y s (σ y) (eqb x y) refl (at_x y)
  put_name p (entry e) = refl
  put_name p (handle h) = refl

  put_target : (s' : Standing) → s ≡ s' → (n : Name) → target x (stand_of x s') (close_target σ n) ≡ close_target (bound x s' σ) n
  put_target s' q (var y) = target_stand x y s' (σ y) (eqb x y) refl (at_x y)
  put_target (valued v) q (entry e) = refl
  put_target mutable q (entry e) = refl
  put_target (valued v) q (handle h) = refl
  put_target mutable q (handle h) = refl

  put_target_list : (ns : List Name) → map (target x (stand_of x s)) (map (close_target σ) ns) ≡ map (close_target (bound x s σ)) ns
  put_target_list [] = refl
  put_target_list (n ∷ ns) = λ i. put_target s refl n i ∷ put_target_list ns i

  put_targets : (ns : Pattern Name) → targets x (stand_of x s) (close_targets σ ns) ≡ close_targets (bound x s σ) ns
  put_targets (one n) = ap one (put_target s refl n)
  put_targets (several ns) = ap several (put_target_list ns)

  mutual
    pub put_close : (t : Term) → put x (stand_of x s) (close σ t) ≡ close (bound x s σ) t
    put_close (give p v) = refl
    put_close (done v) = refl
    put_close (name p n) = put_name p n
    put_close (build p f ts) = ap (build p f) (put_close_all ts)
    put_close (bind p xs e t) = λ i. bind p xs (put_close e i) (put_close t i)
    put_close (mut p xs e t) = λ i. mut p xs (put_close e i) (put_close t i)
    put_close (set p ns e t) = λ i. set p (put_targets ns i) (put_close e i) (put_close t i)
    put_close (using_in p xs t) = ap (using_in p xs) (put_close t)
    put_close (if_else p c t u) = λ i. if_else p (put_close c i) (put_close t i) (put_close u i)

    pub put_close_all : (ts : Terms) → put_all x (stand_of x s) (close_all σ ts) ≡ close_all (bound x s σ) ts
    put_close_all no_terms = refl
    put_close_all (t ∷ˢ ts) = λ i. put_close t i ∷ˢ put_close_all ts i

-- a term in which nothing is bound
bare_target : (n : Name) → close_target bare n ≡ n
bare_target (var x) = refl
bare_target (entry e) = refl
bare_target (handle h) = refl

bare_list : (ns : List Name) → map (close_target bare) ns ≡ ns
bare_list [] = refl
bare_list (n ∷ ns) = λ i. bare_target n i ∷ bare_list ns i

bare_targets : (ns : Pattern Name) → close_targets bare ns ≡ ns
bare_targets (one n) = ap one (bare_target n)
bare_targets (several ns) = ap several (bare_list ns)

mutual
  pub close_bare : (t : Term) → close bare t ≡ t
  close_bare (give p v) = refl
  close_bare (done v) = refl
  close_bare (name p n) = named n
    where
      named : (n : Name) → close_name bare p n ≡ name p n
      named (var x) = refl
      named (entry e) = refl
      named (handle h) = refl
  close_bare (build p f ts) = ap (build p f) (close_bare_all ts)
  close_bare (bind p xs e t) = λ i. bind p xs (close_bare e i) (close_bare t i)
  close_bare (mut p xs e t) = λ i. mut p xs (close_bare e i) (close_bare t i)
  close_bare (set p ns e t) = λ i. set p (bare_targets ns i) (close_bare e i) (close_bare t i)
  close_bare (using_in p xs t) = ap (using_in p xs) (close_bare t)
  close_bare (if_else p c t u) = λ i. if_else p (close_bare c i) (close_bare t i) (close_bare u i)

  pub close_bare_all : (ts : Terms) → close_all bare ts ≡ ts
  close_bare_all no_terms = refl
  close_bare_all (t ∷ˢ ts) = λ i. close_bare t i ∷ˢ close_bare_all ts i

-- numbers in a row
pub range_below : (y x n : ℕ) → y < x → absent y (range x n) ≡ true
range_below y x zero l = refl
range_below y x (suc n) l = rw (ne_eqb y x (λ q. omega (arith, q, l))) (range_below y (suc x) n (omega (arith, l)))

pub range_above : (y x n : ℕ) → x + n ≤ y → absent y (range x n) ≡ true
range_above y x zero l = refl
range_above y x (suc n) l = rw (ne_eqb y x (λ q. omega (arith, q, l))) (range_above y (suc x) n (omega (arith, l)))

pub range_distinct : (x n : ℕ) → distinct (range x n) ≡ true
range_distinct x zero = refl
range_distinct x (suc n) = rw (range_below x (suc x) n (omega arith)) (range_distinct (suc x) n)

pub range_length : (x n : ℕ) → length (range x n) ≡ n
range_length x zero = refl
range_length x (suc n) = ap suc (range_length (suc x) n)

-- several names
pub bound_here : (x : ℕ) (s : Standing) (σ : Env) → bound x s σ x ≡ some s
bound_here x s σ = rw (eq-eqb x x refl) refl

pub bound_other : (x y : ℕ) (s : Standing) (σ : Env) → eqb x y ≡ false → bound x s σ y ≡ σ y
bound_other x y s σ h = rw h refl

pub binds_out : (xs : List ℕ) (ss : List Standing) (σ : Env) (y : ℕ) → absent y xs ≡ true → binds xs ss σ y ≡ σ y
binds_out [] ss σ y h = refl
binds_out (x ∷ xs) [] σ y h = refl
binds_out (x ∷ xs) (s ∷ ss) σ y h =
    let r = both_true (not (eqb y x)) (absent y xs) h in
    bound_other x y s (binds xs ss σ) (eqb_sym y x (not_false (eqb y x) r.0)) ∙ binds_out xs ss σ y r.1

-- the names from x on are unbound
abbrev pub Free : Env → ℕ → ℕ → Type 0
Free σ x n = (y : ℕ) → x ≤ y → y < x + n → σ y ≡ none

abbrev pub all_mutable : List ℕ → List Standing
all_mutable xs = map (λ (y : ℕ). mutable) xs

first_free : (n x : ℕ) (ss : List Standing) (σ : Env) → Free σ x (suc n) → binds (range (suc x) n) ss σ x ≡ none
first_free n x ss σ free = binds_out (range (suc x) n) ss σ x (range_below x (suc x) n (omega arith)) ∙ free x (omega arith) (omega arith)

pub puts_values : (n x : ℕ) (vs : Values) (σ : Env) (t : Term) → Free σ x n → puts (range x n) (given vs) (close σ t) ≡ close (binds (range x n) (map valued (items vs)) σ) t
puts_values zero x vs σ t free = refl
puts_values (suc n) x no_values σ t free = refl
puts_values (suc n) x (v ∷ᵛ vs) σ t free =
    ap (put x (by_value v)) (puts_values n (suc x) vs σ t (λ y a b. free y (omega (arith, a)) (omega (arith, b))))
    ∙ put_close x (valued v) (binds (range (suc x) n) (map valued (items vs)) σ) (first_free n x (map valued (items vs)) σ free) t

pub puts_entries : (n x : ℕ) (σ : Env) (t : Term) → Free σ x n → puts (range x n) (map by_entry (range x n)) (close σ t) ≡ close (binds (range x n) (all_mutable (range x n)) σ) t
puts_entries zero x σ t free = refl
puts_entries (suc n) x σ t free =
    ap (put x (by_entry x)) (puts_entries n (suc x) σ t (λ y a b. free y (omega (arith, a)) (omega (arith, b))))
    ∙ put_close x mutable (binds (range (suc x) n) (all_mutable (range (suc x) n)) σ) (first_free n x (all_mutable (range (suc x) n)) σ free) t

-- patterns
pub names_pattern : {N : Type 0} (xs : List N) → names (pattern xs) ≡ xs
names_pattern [] = refl
names_pattern (x ∷ []) = refl
names_pattern (x ∷ (y ∷ xs)) = refl

close_list : (σ : Env) (xs : List ℕ) → map (close_target σ) (map var xs) ≡ map (λ x. as_name x (σ x)) xs
close_list σ [] = refl
close_list σ (x ∷ xs) = ap (λ (ns : List Name). as_name x (σ x) ∷ ns) (close_list σ xs)

close_pattern : (σ : Env) (xs : List ℕ) → close_targets σ (pattern (map var xs)) ≡ pattern (map (λ x. as_name x (σ x)) xs)
close_pattern σ [] = refl
close_pattern σ (x ∷ []) = refl
close_pattern σ (x ∷ (y ∷ xs)) = ap several (close_list σ (x ∷ (y ∷ xs)))

pub close_bind : (σ : Env) (w : Binder) (p : Place) (xs : List ℕ) (t u : Term) → close σ (bind_term w p xs t u) ≡ closed_bind σ w p xs (close σ t) (close σ u)
close_bind σ Let p xs t u = refl
close_bind σ Mut p xs t u = refl
close_bind σ Set p xs t u = ap (λ (ns : Pattern Name). set p ns (close σ t) (close σ u)) (close_pattern σ xs)

pub own_entries : (P : Code) (x n : ℕ) → ((y : ℕ) → x ≤ y → y < x + n → IsNoTerm (P.node y)) → map (λ i. meant i (P.node i)) (range x n) ≡ range x n
own_entries P x zero h = refl
own_entries P x (suc n) h =
    λ i. ap (meant x) (h x (omega arith) (omega arith)).1 i ∷ own_entries P (suc x) n (λ y a b. h y (omega (arith, a)) (omega (arith, b))) i
