-- The productions, over equations of words.
use Rattle.std.proofs.Common.{◌≡◌, ℕ, List, [], ◌∷◌, sym, ap, ◌∙◌, subst, subst₂}
use Rattle.machine.specs.declared.order.Gate as gates
use Rattle.words.specs.declared.token.Kind.{Kind}
use Rattle.words.specs.declared.token.Kind.TheVariants.{Open, Close, LeftBrace, RightBrace, Comma, Equals, Colon, Op, Run, Using, In, If, Then, Else, Meas, Unit, Bit, Int, Qbit, Zero, One}
use Rattle.words.specs.declared.token.Word.{Word}
use Rattle.words.specs.declared.token.Word.TheVariants.{Name, Number, Gate, Fixed}
use Rattle.syntax.specs.Trees as s
use Rattle.syntax.specs.Grammar as g
use Rattle.syntax.specs.Grammar.{Text, identifier}
use Rattle.grammar.specs.declared.tree.Binder as binders
use Rattle.grammar.specs.Arena.{binder_of}
use Rattle.grammar.specs.Parsing.{place_or}
use Rattle.grammar.specs.Reading.{IsWord, IsName, keyword}

-- the place of a word that stands first
its_place : {A B : List Word} {x : Text} {i : ℕ} {k : Kind} (q : ℕ) → q ≡ place_or 0 A → A ≡ Fixed x i k ∷ B → i ≡ q
its_place q e d = sym (e ∙ ap (place_or 0) d)

pub names_none : {A B : List Word} → IsWord Close A B → g.Names A [] B
names_none {B = B} (x, i, e) = subst (λ l. g.Names l [] B) (sym e) g.names_end

pub names_next : {A B C D : List Word} {n : s.Identifier} {ns : List s.Identifier} → IsWord Comma A B → IsName B n C → g.Names C ns D → g.Names A (n ∷ ns) D
names_next {D = D} {ns = ns} (x, i, e) (y, j, d, q) h = subst₂ (λ l m. g.Names l (m ∷ ns) D) (sym (e ∙ ap (λ l. Fixed x i Comma ∷ l) d)) (sym q) (g.names_more h)

pub one_bound : {A B : List Word} {n : s.Identifier} → IsName A n B → g.Binds A (s.one n) B
one_bound {B = B} (x, i, d, q) = subst₂ (λ l m. g.Binds l (s.one m) B) (sym d) (sym q) g.binds_one

pub several_bound : {A B C D E F : List Word} {n k : s.Identifier} {ns : List s.Identifier} → IsWord Open A B → IsName B n C → IsWord Comma C D → IsName D k E → g.Names E ns F → g.Binds A (s.several (n ∷ k ∷ ns)) F
several_bound {A} {F = F} {k = k} {ns = ns} (x, i, e) (y, j, d, q) (z, l, f) (v, m, c, p) h =
    subst (λ a. g.Binds A (s.several (a ∷ k ∷ ns)) F) (sym q)
    (subst (λ a. g.Binds A (s.several (identifier y j ∷ a ∷ ns)) F) (sym p)
    (subst (λ a. g.Binds a (s.several (identifier y j ∷ identifier v m ∷ ns)) F) (sym (e ∙ ap (λ a. Fixed x i Open ∷ a) (d ∙ ap (λ a. Name y j ∷ a) (f ∙ ap (λ a. Fixed z l Comma ∷ a) c)))) (g.binds_several h)))

pub binding : (b : binders.Binder) {A B C D E F G : List Word} {p : s.Pattern} {y z : s.Tree} (q : ℕ) → q ≡ place_or 0 A → IsWord (keyword b) A B → g.Binds B p C → IsWord Equals C D → g.Term D y E → IsWord In E F → g.Term F z G → g.Term A (s.bind q (binder_of b) p y z) G
binding b {A} {B} {D = D} {G = G} {p = p} {y = y} {z = z} q c (x, i, e) h (x₂, i₂, e₂) k (x₃, i₃, e₃) l = go b e
  where
    whole : g.Binding B p y z G
    whole = g.binding (subst (g.Binds B p) e₂ h) (subst (g.Term D y) e₃ k) l

    go : (b : binders.Binder) → A ≡ Fixed x i (keyword b) ∷ B → g.Term A (s.bind q (binder_of b) p y z) G
    go binders.TheVariants.Let e = subst₂ (λ a m. g.Term a (s.bind m s.by_let p y z) G) (sym e) (its_place q c e) (g.let_in whole)
    go binders.TheVariants.Mut e = subst₂ (λ a m. g.Term a (s.bind m s.by_mut p y z) G) (sym e) (its_place q c e) (g.mut_in whole)
    go binders.TheVariants.Set e = subst₂ (λ a m. g.Term a (s.bind m s.by_set p y z) G) (sym e) (its_place q c e) (g.set_in whole)

pub preparing : {A B C D E : List Word} {p : s.Pattern} {y : s.Tree} (q : ℕ) → q ≡ place_or 0 A → IsWord Using A B → g.Binds B p C → IsWord In C D → g.Term D y E → g.Term A (s.prepare q p y) E
preparing {B = B} {E = E} {p = p} {y = y} q c (x, i, e) h (x₂, i₂, e₂) k = subst₂ (λ a m. g.Term a (s.prepare m p y) E) (sym e) (its_place q c e) (g.using_in (subst (g.Binds B p) e₂ h) k)

pub choosing : {A B C D E F G : List Word} {t y z : s.Tree} (q : ℕ) → q ≡ place_or 0 A → IsWord If A B → g.Term B t C → IsWord Then C D → g.Term D y E → IsWord Else E F → g.Term F z G → g.Term A (s.choose q t y z) G
choosing {B = B} {D = D} {G = G} {t = t} {y = y} {z = z} q c (x, i, e) h (x₂, i₂, e₂) k (x₃, i₃, e₃) l = subst₂ (λ a m. g.Term a (s.choose m t y z) G) (sym e) (its_place q c e) (g.if_else (subst (g.Term B t) e₂ h) (subst (g.Term D y) e₃ k) l)

pub zero_there : {A B : List Word} {x : Text} {i : ℕ} → A ≡ Fixed x i Zero ∷ B → g.Plain A (s.constant i s.zero_bit) B
zero_there {B = B} {i = i} e = subst (λ a. g.Plain a (s.constant i s.zero_bit) B) (sym e) g.is_zero

pub one_there : {A B : List Word} {x : Text} {i : ℕ} → A ≡ Fixed x i One ∷ B → g.Plain A (s.constant i s.one_bit) B
one_there {B = B} {i = i} e = subst (λ a. g.Plain a (s.constant i s.one_bit) B) (sym e) g.is_one

pub number_there : {A B : List Word} {x : Text} {i n : ℕ} → A ≡ Number x i n ∷ B → g.Plain A (s.constant i (s.number n)) B
number_there {B = B} {i = i} {n = n} e = subst (λ a. g.Plain a (s.constant i (s.number n)) B) (sym e) g.is_number

pub name_there : {A B : List Word} {x : Text} {i : ℕ} → A ≡ Name x i ∷ B → g.Plain A (s.named (identifier x i)) B
name_there {B = B} {x = x} {i = i} e = subst (λ a. g.Plain a (s.named (identifier x i)) B) (sym e) g.is_name

pub calling : {A B C D : List Word} {x : Text} {i : ℕ} {ys : s.Trees} → A ≡ Name x i ∷ B → IsWord Open B C → g.Arguments C ys D → g.Plain A (s.call (identifier x i) ys) D
calling {D = D} {x = x} {i = i} {ys = ys} e (z, j, d) h = subst (λ a. g.Plain a (s.call (identifier x i) ys) D) (sym (e ∙ ap (λ a. Name x i ∷ a) d)) (g.is_call h)

pub none_given : {A B : List Word} → IsWord Close A B → g.Arguments A s.no_trees B
none_given {B = B} (x, i, e) = subst (λ a. g.Arguments a s.no_trees B) (sym e) g.no_arguments

pub applying : {A B C D : List Word} {x : Text} {i : ℕ} {o : gates.Gate} {ys : s.Trees} → A ≡ Gate x i o ∷ B → IsWord Open B C → g.Terms C ys D → g.Plain A (s.apply i o ys) D
applying {D = D} {x = x} {i = i} {o = o} {ys = ys} e (z, j, d) h = subst (λ a. g.Plain a (s.apply i o ys) D) (sym (e ∙ ap (λ a. Gate x i o ∷ a) d)) (g.is_gate h)

pub measuring : {A B C D E : List Word} {y : s.Tree} (q : ℕ) → q ≡ place_or 0 A → IsWord Meas A B → IsWord Open B C → g.Term C y D → IsWord Close D E → g.Plain A (s.meas q y) E
measuring {C = C} {E = E} {y = y} q c (x, i, e) (z, j, d) h (v, k, f) = subst₂ (λ a m. g.Plain a (s.meas m y) E) (sym (e ∙ ap (λ a. Fixed x i Meas ∷ a) d)) (its_place q c e) (g.is_meas (subst (g.Term C y) f h))

pub empty : {A B C : List Word} (q : ℕ) → q ≡ place_or 0 A → IsWord Open A B → IsWord Close B C → g.Plain A (s.constant q s.unit) C
empty {C = C} q c (x, i, e) (z, j, d) = subst₂ (λ a m. g.Plain a (s.constant m s.unit) C) (sym (e ∙ ap (λ a. Fixed x i Open ∷ a) d)) (its_place q c e) g.is_unit

pub grouping : {A B C D : List Word} {y : s.Tree} → IsWord Open A B → g.Term B y C → IsWord Close C D → g.Plain A y D
grouping {B = B} {D = D} {y = y} (x, i, e) h (z, j, d) = subst (λ a. g.Plain a y D) (sym e) (g.is_group (subst (g.Term B y) d h))

pub tupling : {A B C D E : List Word} {y : s.Tree} {ys : s.Trees} (q : ℕ) → q ≡ place_or 0 A → IsWord Open A B → g.Term B y C → IsWord Comma C D → g.Terms D ys E → g.Plain A (s.tuple q (s.◌∷ᵗ◌ y ys)) E
tupling {B = B} {E = E} {y = y} {ys = ys} q c (x, i, e) h (z, j, d) k = subst₂ (λ a m. g.Plain a (s.tuple m (s.◌∷ᵗ◌ y ys)) E) (sym e) (its_place q c e) (g.is_tuple (subst (g.Term B y) d h) k)

pub more_there : {A B C : List Word} {ys : s.Trees} → IsWord Comma A B → g.Terms B ys C → g.More A ys C
more_there {C = C} {ys = ys} (x, i, e) h = subst (λ a. g.More a ys C) (sym e) (g.more_next h)

pub no_more : {A B : List Word} → IsWord Close A B → g.More A s.no_trees B
no_more {B = B} (x, i, e) = subst (λ a. g.More a s.no_trees B) (sym e) g.more_end

pub tupling_types : {A B C D E : List Word} {τ : s.Written} {τs : s.Writtens} (q : ℕ) → q ≡ place_or 0 A → IsWord Open A B → g.Writes B τ C → IsWord Comma C D → g.WritesAll D τs E → g.Writes A (s.tuple_type q (s.◌∷ʷ◌ τ τs)) E
tupling_types {B = B} {E = E} {τ = τ} {τs = τs} q c (x, i, e) h (z, j, d) k = subst₂ (λ a m. g.Writes a (s.tuple_type m (s.◌∷ʷ◌ τ τs)) E) (sym e) (its_place q c e) (g.is_tuple_type (subst (g.Writes B τ) d h) k)

pub unit_written : {A B : List Word} (q : ℕ) → q ≡ place_or 0 A → IsWord Unit A B → g.Writes A (s.basic q s.unit_type) B
unit_written {B = B} q c (x, i, e) = subst₂ (λ a m. g.Writes a (s.basic m s.unit_type) B) (sym e) (its_place q c e) g.is_unit_type

pub bit_written : {A B : List Word} (q : ℕ) → q ≡ place_or 0 A → IsWord Bit A B → g.Writes A (s.basic q s.bit_type) B
bit_written {B = B} q c (x, i, e) = subst₂ (λ a m. g.Writes a (s.basic m s.bit_type) B) (sym e) (its_place q c e) g.is_bit_type

pub int_written : {A B : List Word} (q : ℕ) → q ≡ place_or 0 A → IsWord Int A B → g.Writes A (s.basic q s.int_type) B
int_written {B = B} q c (x, i, e) = subst₂ (λ a m. g.Writes a (s.basic m s.int_type) B) (sym e) (its_place q c e) g.is_int_type

pub qbit_written : {A B : List Word} (q : ℕ) → q ≡ place_or 0 A → IsWord Qbit A B → g.Writes A (s.basic q s.qbit_type) B
qbit_written {B = B} q c (x, i, e) = subst₂ (λ a m. g.Writes a (s.basic m s.qbit_type) B) (sym e) (its_place q c e) g.is_qbit_type

pub basic_written : {A B : List Word} (b : s.Basic) (q : ℕ) → q ≡ place_or 0 A → g.Writes A (s.basic (place_or 0 A) b) B → g.Writes A (s.basic q b) B
basic_written {A} {B} b q c h = subst (λ n. g.Writes A (s.basic n b) B) (sym c) h

pub more_types_there : {A B C : List Word} {τs : s.Writtens} → IsWord Comma A B → g.WritesAll B τs C → g.MoreTypes A τs C
more_types_there {C = C} {τs = τs} (x, i, e) h = subst (λ a. g.MoreTypes a τs C) (sym e) (g.types_more h)

pub no_more_types : {A B : List Word} → IsWord Close A B → g.MoreTypes A s.no_types B
no_more_types {B = B} (x, i, e) = subst (λ a. g.MoreTypes a s.no_types B) (sym e) g.types_end

-- what was read with a parameter's name
abbrev given : s.Identifier → s.Written → s.Parameter
given n τ = record { name = n; written = τ }

pub giving : {A B C D : List Word} {n : s.Identifier} {τ : s.Written} → IsName A n B → IsWord Colon B C → g.Writes C τ D → g.Gives A (record { name = n; written = τ }) D
giving {D = D} {τ = τ} (x, i, d, q) (z, j, e) h = subst₂ (λ a m. g.Gives a (given m τ) D) (sym (d ∙ ap (λ a. Name x i ∷ a) e)) (sym q) (g.gives h)

pub no_more_parameters : {A B : List Word} → IsWord Close A B → g.MoreParameters A [] B
no_more_parameters {B = B} (x, i, e) = subst (λ a. g.MoreParameters a [] B) (sym e) g.parameters_end

pub more_parameters_there : {A B C D : List Word} {d : s.Parameter} {ds : List s.Parameter} → IsWord Comma A B → g.Gives B d C → g.MoreParameters C ds D → g.MoreParameters A (d ∷ ds) D
more_parameters_there {D = D} {d = d} {ds = ds} (x, i, e) h k = subst (λ a. g.MoreParameters a (d ∷ ds) D) (sym e) (g.parameters_more h k)

pub no_parameters_there : {A B : List Word} → IsWord Close A B → g.Parameters A [] B
no_parameters_there {B = B} (x, i, e) = subst (λ a. g.Parameters a [] B) (sym e) g.no_parameters

abbrev operation : ℕ → s.Identifier → List s.Parameter → s.Written → s.Tree → s.Operation
operation q n ds τ y = record { place = q; name = n; parameters = ds; result = τ; body = y }

pub declaring : {A B C D E F G H I : List Word} {n : s.Identifier} {ds : List s.Parameter} {τ : s.Written} {y : s.Tree} (q : ℕ) → q ≡ place_or 0 A → IsWord Op A B → IsName B n C → IsWord Open C D → g.Parameters D ds E → IsWord Colon E F → g.Writes F τ G → IsWord LeftBrace G H → (J : List Word) → g.Term H y J → IsWord RightBrace J I → g.Declares A (record { place = q; name = n; parameters = ds; result = τ; body = y }) I
declaring {A} {D = D} {F = F} {H = H} {I = I} {ds = ds} {τ = τ} {y = y} q c (x, i, e) (v, j, d, p) (z, k, f) h (x₂, i₂, e₂) w (x₃, i₃, e₃) J t (x₄, i₄, e₄) =
    subst (λ m. g.Declares A (operation q m ds τ y) I) (sym p)
    (subst₂ (λ a m. g.Declares a (operation m (identifier v j) ds τ y) I) (sym (e ∙ ap (λ a. Fixed x i Op ∷ a) (d ∙ ap (λ a. Name v j ∷ a) f))) (its_place q c e)
    (g.declares (subst (g.Parameters D ds) e₂ h) (subst (g.Writes F τ) e₃ w) (subst (g.Term H y) e₄ t)))

pub running : {A B C : List Word} {y : s.Tree} (q : ℕ) → q ≡ place_or 0 A → IsWord Run A B → g.Term B y C → g.Lists A [] q y C
running {C = C} {y = y} q c (x, i, e) h = subst₂ (λ a m. g.Lists a [] m y C) (sym e) (its_place q c e) (g.run_term h)
