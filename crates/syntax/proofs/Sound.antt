-- What is read to the end is a listing, and whatever is wanted can be had.
use Rattle.std.proofs.Common.{◌≡◌, ℕ, Bool, true, false, cond, eqb, List, [], ◌∷◌, ◌++◌, sym, refl, ap, ◌∙◌, subst, subst₂, eq-eqb, eqb-true}
use mathlib.Core.Bool.{false≢true}
use mathlib.Core.Option.{Option, none, some}
use Rattle.machine.specs.declared.order.Gate as gates
use Rattle.words.specs.declared.token.Kind.{Kind}
use Rattle.words.specs.declared.token.Kind.TheVariants.{Open, Close, LeftBrace, RightBrace, Comma, Equals, Colon, Op, Run, Let, Mut, Set, Using, In, If, Then, Else, Meas, Bit, Int, Qbit, Zero, One}
use Rattle.words.specs.declared.token.Kind.TheVariants as kinds
use Rattle.words.specs.declared.token.Word.{Word}
use Rattle.words.specs.declared.token.Word.TheVariants.{Name, Number, Gate, Fixed}
use Rattle.syntax.specs.Trees.{Identifier, Pattern, one, several, Written, tuple_type, Writtens, no_types, ◌∷ʷ◌, unit, by_let, by_mut, by_set, Tree, constant, named, call, meas, apply, tuple, bind, prepare, choose, Trees, no_trees, ◌∷ᵗ◌, Parameter, Operation, Program}
use Rattle.syntax.specs.Grammar.{Text, identifier, Names, names_end, names_more, Binds, binds_one, binds_several, Writes, is_unit_type, is_bit_type, is_int_type, is_qbit_type, is_tuple_type, WritesAll, some_types, MoreTypes, types_end, types_more, Gives, gives, MoreParameters, parameters_end, parameters_more, Parameters, no_parameters, some_parameters, Term, let_in, mut_in, set_in, using_in, if_else, plain_term, Binding, binding, Plain, is_zero, is_one, is_number, is_name, is_call, is_meas, is_gate, is_unit, is_group, is_tuple, Arguments, no_arguments, some_arguments, Terms, some_terms, More, more_end, more_next, Declares, declares, Lists, run_term, operation_first, Listing}
use Rattle.syntax.specs.Machine.{Want, this, a_name, pattern, names, a_type, types, more_types, parameter, parameters, more_parameters, term, plain, after_name, arguments, terms, more, after_open, in_parens, operation, listing, End, accepted, stuck, index, same, is, read, expand, optional, take_up, followed, closes_or, bound, term_by, plain_by, type_by, name_by, parameter_by, operation_by, at_end, onward, run}

kind_of : ℕ → Kind
kind_of n =
    cond (eqb n 0) Open (cond (eqb n 1) Close (cond (eqb n 2) LeftBrace (cond (eqb n 3) RightBrace (cond (eqb n 4) Comma (cond (eqb n 5) Equals (cond (eqb n 6) Colon (cond (eqb n 7) Op (cond (eqb n 8) Run (cond (eqb n 9) Let (cond (eqb n 10) Mut (cond (eqb n 11) Set (cond (eqb n 12) Using (cond (eqb n 13) In (cond (eqb n 14) If (cond (eqb n 15) Then (cond (eqb n 16) Else (cond (eqb n 17) Meas (cond (eqb n 18) kinds.Unit (cond (eqb n 19) Bit (cond (eqb n 20) Int (cond (eqb n 21) Qbit (cond (eqb n 22) Zero One))))))))))))))))))))))

of_index : (k : Kind) → kind_of (index k) ≡ k
unfolding kind_of
of_index Open = refl
of_index Close = refl
of_index LeftBrace = refl
of_index RightBrace = refl
of_index Comma = refl
of_index Equals = refl
of_index Colon = refl
of_index Op = refl
of_index Run = refl
of_index Let = refl
of_index Mut = refl
of_index Set = refl
of_index Using = refl
of_index In = refl
of_index If = refl
of_index Then = refl
of_index Else = refl
of_index Meas = refl
of_index kinds.Unit = refl
of_index Bit = refl
of_index Int = refl
of_index Qbit = refl
of_index Zero = refl
of_index One = refl

pub index_one : (j k : Kind) → index j ≡ index k → j ≡ k
index_one j k e = sym (of_index j) ∙ ap kind_of e ∙ of_index k

pub same_kind : (j k : Kind) → same j k ≡ true → j ≡ k
same_kind j k e = index_one j k (eqb-true (index j) (index k) e)

pub is_that : (k : Kind) (w : Word) → is k w ≡ true → (x : Text) × (i : ℕ) × (w ≡ Fixed x i k)
is_that k (Name x i) e = absurd (false≢true e)
is_that k (Number x i n) e = absurd (false≢true e)
is_that k (Gate x i g) e = absurd (false≢true e)
is_that k (Fixed x i j) e = (x, i, ap (Fixed x i) (same_kind j k e))

-- the words begin with what is wanted, and rest follows
abbrev pub Wanted : Want → List Word → List Word → Type 0
Wanted (this k) ws rest = (x : Text) × (i : ℕ) × (ws ≡ Fixed x i k ∷ rest)
Wanted a_name ws rest = (x : Text) × (i : ℕ) × (ws ≡ Name x i ∷ rest)
Wanted pattern ws rest = (p : Pattern) × Binds ws p rest
Wanted names ws rest = (ns : List Identifier) × Names ws ns rest
Wanted a_type ws rest = (τ : Written) × Writes ws τ rest
Wanted types ws rest = (τs : Writtens) × WritesAll ws τs rest
Wanted more_types ws rest = (τs : Writtens) × MoreTypes ws τs rest
Wanted parameter ws rest = (d : Parameter) × Gives ws d rest
Wanted parameters ws rest = (ds : List Parameter) × Parameters ws ds rest
Wanted more_parameters ws rest = (ds : List Parameter) × MoreParameters ws ds rest
Wanted term ws rest = (t : Tree) × Term ws t rest
Wanted plain ws rest = (t : Tree) × Plain ws t rest
Wanted after_name ws rest = (x : Text) (i : ℕ) → (t : Tree) × Plain (Name x i ∷ ws) t rest
Wanted arguments ws rest = (ts : Trees) × Arguments ws ts rest
Wanted terms ws rest = (ts : Trees) × Terms ws ts rest
Wanted more ws rest = (ts : Trees) × More ws ts rest
Wanted after_open ws rest = (x : Text) (i : ℕ) → (t : Tree) × Plain (Fixed x i Open ∷ ws) t rest
Wanted in_parens ws rest = (x : Text) (i : ℕ) (vs : List Word) (t : Tree) → Term vs t ws → (u : Tree) × Plain (Fixed x i Open ∷ vs) u rest
Wanted operation ws rest = (o : Operation) × Declares ws o rest
Wanted listing ws rest = (l : Program) × Lists ws l.operations l.run_place l.main rest

-- the words begin with these things in order, and rest follows
abbrev pub Seq : List Want → List Word → List Word → Type 0
Seq [] ws rest = ws ≡ rest
Seq (y ∷ ys) ws rest = (next : List Word) × Wanted y ws next × Seq ys next rest

-- a first word, and then what the table wants after it, make the thing
abbrev pub Makes : Want → Word → Option (List Want) → Type 0
Makes x w none = Unit {0}
Makes x w (some ys) = (ws rest : List Word) → Seq ys ws rest → Wanted x (w ∷ ws) rest

by_test : (x : Want) (w : Word) (b : Bool) (o o' : Option (List Want)) → (b ≡ true → Makes x w o) → (b ≡ false → Makes x w o') → Makes x w (cond b o o')
by_test x w true o o' g h = g refl
by_test x w false o o' g h = h refl

by_kind : (x : Want) (k : Kind) (w : Word) (o o' : Option (List Want)) → ((t : Text) (i : ℕ) → Makes x (Fixed t i k) o) → Makes x w o' → Makes x w (cond (is k w) o o')
by_kind x k w o o' g h = by_test x w (is k w) o o' (λ e. let (t, i, q) = is_that k w e in subst (λ v. Makes x v o) (sym q) (g t i)) (λ _. h)

-- Words put together, with what follows them.
abbrev begins : Want → Word → List Word → Type 0
begins x w ws = Wanted x (w ∷ ws) ws

ends_here : (x : Want) (w : Word) → ((ws : List Word) → begins x w ws) → Makes x w (some [])
ends_here x w h ws rest e = subst (Wanted x (w ∷ ws)) e (h ws)

close_or : (x : Want) (ys : List Want) (w : Word) → ((t : Text) (i : ℕ) (ws : List Word) → begins x (Fixed t i Close) ws) → ((t : Text) (i : ℕ) → Makes x (Fixed t i Comma) (some ys)) → Makes x w (closes_or ys w)
close_or x ys w g h = by_kind x Close w _ _ (λ t i. ends_here x (Fixed t i Close) (g t i)) (by_kind x Comma w _ _ h tt)

meas_makes : (t : Text) (i : ℕ) → Makes plain (Fixed t i Meas) (some (this Open ∷ term ∷ this Close ∷ []))
meas_makes t i ws rest (r, (x, j, e₁), (q, (u, h), (p, (y, k, e₂), e₃))) = subst₂ (λ l l'. Wanted plain (Fixed t i Meas ∷ l) l') (sym e₁) e₃ (meas i u, is_meas (subst (Term r u) e₂ h))

gate_makes : (t : Text) (i : ℕ) (g : gates.Gate) → Makes plain (Gate t i g) (some (this Open ∷ terms ∷ []))
gate_makes t i g ws rest (r, (x, j, e₁), (q, (us, h), e₂)) = subst₂ (λ l l'. Wanted plain (Gate t i g ∷ l) l') (sym e₁) e₂ (apply i g us, is_gate h)

plain_makes : (w : Word) → Makes plain w (plain_by w)
plain_makes (Name x i) = λ ws rest (r, h, e). subst (λ l. Wanted plain (Name x i ∷ ws) l) e (h x i)
plain_makes (Number x i n) = ends_here plain (Number x i n) (λ ws. (_, is_number))
plain_makes (Gate x i g) = gate_makes x i g
plain_makes (Fixed x i k) =
    by_kind plain Zero (Fixed x i k) _ _ (λ t j. ends_here plain (Fixed t j Zero) (λ ws. (_, is_zero)))
    (by_kind plain One (Fixed x i k) _ _ (λ t j. ends_here plain (Fixed t j One) (λ ws. (_, is_one)))
    (by_kind plain Meas (Fixed x i k) _ _ meas_makes
    (by_kind plain Open (Fixed x i k) _ _ (λ t j ws rest (r, h, e). subst (λ l. Wanted plain (Fixed t j Open ∷ ws) l) e (h t j))
    tt)))

bound_makes : (ws rest : List Word) → Seq bound ws rest → (p : Pattern) × (t : Tree) × (u : Tree) × Binding ws p t u rest
bound_makes ws rest (r₁, (p, b), (r₂, (x, i, e₁), (r₃, (t, h), (r₄, (y, j, e₂), (r₅, (u, k), e₃))))) = (p, t, u, binding (subst (Binds ws p) e₁ b) (subst (Term r₂ t) e₂ h) (subst (Term r₄ u) e₃ k))

using_makes : (t : Text) (i : ℕ) → Makes term (Fixed t i Using) (some (pattern ∷ this In ∷ term ∷ []))
using_makes x i ws rest (r₁, (p, b), (r₂, (y, j, e₁), (r₃, (t, h), e₂))) = (prepare i p t, using_in (subst (Binds ws p) e₁ b) (subst (Term r₂ t) e₂ h))

if_makes : (t : Text) (i : ℕ) → Makes term (Fixed t i If) (some (term ∷ this Then ∷ term ∷ this Else ∷ term ∷ []))
if_makes x i ws rest (r₁, (t, h), (r₂, (y, j, e₁), (r₃, (u, k), (r₄, (z, n, e₂), (r₅, (v, l), e₃))))) =
    (choose i t u v, if_else (subst (Term ws t) e₁ h) (subst (Term r₂ u) e₂ k) (subst (Term r₄ v) e₃ l))

plain_is_term : (w : Word) (o : Option (List Want)) → Makes plain w o → Makes term w o
plain_is_term w none h = tt
plain_is_term w (some ys) h = λ ws rest q. let (t, k) = h ws rest q in (t, plain_term k)

term_makes : (w : Word) → Makes term w (term_by w)
term_makes w =
    by_kind term Let w _ _ (λ x i ws rest q. let (p, t, u, h) = bound_makes ws rest q in (bind i by_let p t u, let_in h))
    (by_kind term Mut w _ _ (λ x i ws rest q. let (p, t, u, h) = bound_makes ws rest q in (bind i by_mut p t u, mut_in h))
    (by_kind term Set w _ _ (λ x i ws rest q. let (p, t, u, h) = bound_makes ws rest q in (bind i by_set p t u, set_in h))
    (by_kind term Using w _ _ using_makes
    (by_kind term If w _ _ if_makes
    (plain_is_term w (plain_by w) (plain_makes w))))))

name_makes : (w : Word) → Makes a_name w (name_by w)
name_makes (Name x i) = λ ws rest e. (x, i, ap (λ l. Name x i ∷ l) e)
name_makes (Number x i n) = tt
name_makes (Gate x i g) = tt
name_makes (Fixed x i k) = tt

one_makes : (w : Word) → Makes pattern w (name_by w)
one_makes (Name x i) = ends_here pattern (Name x i) (λ ws. (one (identifier x i), binds_one))
one_makes (Number x i n) = tt
one_makes (Gate x i g) = tt
one_makes (Fixed x i k) = tt

several_makes : (t : Text) (i : ℕ) → Makes pattern (Fixed t i Open) (some (a_name ∷ this Comma ∷ a_name ∷ names ∷ []))
several_makes t i ws rest (r₁, (y, j, e₁), (r₂, (z, k, e₂), (r₃, (v, l, e₃), (r₄, (ns, h), e₄)))) =
    let p : Pattern = several (identifier y j ∷ identifier v l ∷ ns) in
    (p, subst₂ (λ a b. Binds (Fixed t i Open ∷ a) p b) (sym (e₁ ∙ ap (λ a. Name y j ∷ a) (e₂ ∙ ap (λ a. Fixed z k Comma ∷ a) e₃))) e₄ (binds_several h))

names_makes : (t : Text) (i : ℕ) → Makes names (Fixed t i Comma) (some (a_name ∷ names ∷ []))
names_makes t i ws rest (r, (y, j, e₁), (q, (ns, h), e₂)) = (identifier y j ∷ ns, subst₂ (λ a b. Names (Fixed t i Comma ∷ a) (identifier y j ∷ ns) b) (sym e₁) e₂ (names_more h))

tuple_type_makes : (t : Text) (i : ℕ) → Makes a_type (Fixed t i Open) (some (a_type ∷ this Comma ∷ types ∷ []))
tuple_type_makes t i ws rest (r, (τ, h), (q, (x, j, e₁), (p, (τs, k), e₂))) = (tuple_type i (τ ∷ʷ τs), is_tuple_type (subst (Writes ws τ) e₁ h) (subst (WritesAll q τs) e₂ k))

type_makes : (w : Word) → Makes a_type w (type_by w)
type_makes w =
    by_kind a_type kinds.Unit w _ _ (λ t i. ends_here a_type (Fixed t i kinds.Unit) (λ ws. (_, is_unit_type)))
    (by_kind a_type Bit w _ _ (λ t i. ends_here a_type (Fixed t i Bit) (λ ws. (_, is_bit_type)))
    (by_kind a_type Int w _ _ (λ t i. ends_here a_type (Fixed t i Int) (λ ws. (_, is_int_type)))
    (by_kind a_type Qbit w _ _ (λ t i. ends_here a_type (Fixed t i Qbit) (λ ws. (_, is_qbit_type)))
    (by_kind a_type Open w _ _ tuple_type_makes
    tt))))

parameter_makes : (w : Word) → Makes parameter w (parameter_by w)
parameter_makes (Name x i) = λ ws rest (r, (y, j, e₁), (q, (τ, h), e₂)). (record { name = identifier x i; written = τ }, subst₂ (λ a b. Gives (Name x i ∷ a) (record { name = identifier x i; written = τ }) b) (sym e₁) e₂ (gives h))
parameter_makes (Number x i n) = tt
parameter_makes (Gate x i g) = tt
parameter_makes (Fixed x i k) = tt

more_parameters_makes : (t : Text) (i : ℕ) → Makes more_parameters (Fixed t i Comma) (some (parameter ∷ more_parameters ∷ []))
more_parameters_makes t i ws rest (r, (d, h), (q, (ds, k), e)) = (d ∷ ds, parameters_more h (subst (MoreParameters r ds) e k))

operation_makes : (w : Word) → Makes operation w (operation_by w)
operation_makes w = by_kind operation Op w _ _ go tt
  where
    go : (t : Text) (i : ℕ) → Makes operation (Fixed t i Op) (some (a_name ∷ this Open ∷ parameters ∷ this Colon ∷ a_type ∷ this LeftBrace ∷ term ∷ this RightBrace ∷ []))
    go t i ws rest (r₁, (y, j, e₁), (r₂, (z, k, e₂), (r₃, (ds, h), (r₄, (a, l, e₃), (r₅, (τ, g), (r₆, (b, m, e₄), (r₇, (u, f), (r₈, (c, n, e₅), e₆)))))))) =
        let o : Operation = record { place = i; name = identifier y j; parameters = ds; result = τ; body = u } in
        (o, subst₂ (λ v v'. Declares (Fixed t i Op ∷ v) o v') (sym (e₁ ∙ ap (λ v. Name y j ∷ v) e₂)) e₆ (declares (subst (Parameters r₂ ds) e₃ h) (subst (Writes r₄ τ) e₄ g) (subst (Term r₆ u) e₅ f)))

pub seq_parts : (ys zs : List Want) (ws rest : List Word) → Seq (ys ++ zs) ws rest → (r : List Word) × Seq ys ws r × Seq zs r rest
seq_parts [] zs ws rest q = (ws, refl, q)
seq_parts (y ∷ ys) zs ws rest (r, h, q) = let (p, a, b) = seq_parts ys zs r rest q in (p, (r, h, a), b)

followed_makes : (x y z : Want) (w : Word) (o : Option (List Want)) → Makes x w o → ((ws r rest : List Word) → Wanted x (w ∷ ws) r → Wanted y r rest → Wanted z (w ∷ ws) rest) → Makes z w (followed o y)
followed_makes x y z w none h g = tt
followed_makes x y z w (some ys) h g = λ ws rest q.
    let (r, a, (p, b, e)) = seq_parts ys (y ∷ []) ws rest q in
    g ws r rest (h ws r a) (subst (Wanted y r) e b)

pub expand_makes : (x : Want) (w : Word) → Makes x w (expand x w)
expand_makes (this k) w = by_kind (this k) k w _ _ (λ t i ws rest e. (t, i, ap (λ l. Fixed t i k ∷ l) e)) tt
expand_makes a_name w = name_makes w
expand_makes pattern w = by_kind pattern Open w _ _ several_makes (one_makes w)
expand_makes names w = close_or names _ w (λ t i ws. ([], names_end)) names_makes
expand_makes a_type w = type_makes w
expand_makes types w = followed_makes a_type more_types types w (type_by w) (type_makes w) (λ ws r rest h k. (h.0 ∷ʷ k.0, some_types h.1 k.1))
expand_makes more_types w = close_or more_types _ w (λ t i ws. (no_types, types_end)) (λ t i ws rest q. (q.1.0, types_more (subst (WritesAll ws q.1.0) q.2 q.1.1)))
expand_makes parameter w = parameter_makes w
expand_makes parameters w =
    by_kind parameters Close w _ _ (λ t i. ends_here parameters (Fixed t i Close) (λ ws. ([], no_parameters)))
    (followed_makes parameter more_parameters parameters w (parameter_by w) (parameter_makes w) (λ ws r rest h k. (h.0 ∷ k.0, some_parameters h.1 k.1)))
expand_makes more_parameters w = close_or more_parameters _ w (λ t i ws. ([], parameters_end)) more_parameters_makes
expand_makes term w = term_makes w
expand_makes plain w = plain_makes w
expand_makes after_name w = by_kind after_name Open w _ _ (λ t j ws rest q x i. (call (identifier x i) q.1.0, is_call (subst (Arguments ws q.1.0) q.2 q.1.1))) tt
expand_makes arguments w =
    by_kind arguments Close w _ _ (λ t i. ends_here arguments (Fixed t i Close) (λ ws. (no_trees, no_arguments)))
    (followed_makes term more arguments w (term_by w) (term_makes w) (λ ws r rest h k. (h.0 ∷ᵗ k.0, some_arguments (some_terms h.1 k.1))))
expand_makes terms w = followed_makes term more terms w (term_by w) (term_makes w) (λ ws r rest h k. (h.0 ∷ᵗ k.0, some_terms h.1 k.1))
expand_makes more w = close_or more _ w (λ t i ws. (no_trees, more_end)) (λ t i ws rest q. (q.1.0, more_next (subst (Terms ws q.1.0) q.2 q.1.1)))
expand_makes after_open w =
    by_kind after_open Close w _ _ (λ t j. ends_here after_open (Fixed t j Close) (λ ws x i. (constant i unit, is_unit)))
    (followed_makes term in_parens after_open w (term_by w) (term_makes w) (λ ws r rest h k x i. k x i (w ∷ ws) h.0 h.1))
expand_makes in_parens w =
    close_or in_parens _ w (λ t j ws x i vs u h. (u, is_group h))
    (λ t j ws rest q x i vs u h. (tuple i (u ∷ᵗ q.1.0), is_tuple h (subst (Terms ws q.1.0) q.2 q.1.1)))
expand_makes operation w = operation_makes w
expand_makes listing w =
    by_kind listing Run w _ _ (λ t i ws rest q. (record { operations = []; run_place = i; main = q.1.0 }, run_term (subst (Term ws q.1.0) q.2 q.1.1)))
    (followed_makes operation listing listing w (operation_by w) (operation_makes w) (λ ws r rest h k. (record { operations = h.0 ∷ k.0.operations; run_place = k.0.run_place; main = k.0.main }, operation_first h.1 k.1)))

pub none_makes : (x : Want) → optional x ≡ true → (ws : List Word) → Wanted x ws ws
none_makes (this k) e ws = absurd (false≢true e)
none_makes a_name e ws = absurd (false≢true e)
none_makes pattern e ws = absurd (false≢true e)
none_makes names e ws = absurd (false≢true e)
none_makes a_type e ws = absurd (false≢true e)
none_makes types e ws = absurd (false≢true e)
none_makes more_types e ws = absurd (false≢true e)
none_makes parameter e ws = absurd (false≢true e)
none_makes parameters e ws = absurd (false≢true e)
none_makes more_parameters e ws = absurd (false≢true e)
none_makes term e ws = absurd (false≢true e)
none_makes plain e ws = absurd (false≢true e)
none_makes after_name e ws = λ x i. (named (identifier x i), is_name)
none_makes arguments e ws = absurd (false≢true e)
none_makes terms e ws = absurd (false≢true e)
none_makes more e ws = absurd (false≢true e)
none_makes after_open e ws = absurd (false≢true e)
none_makes in_parens e ws = absurd (false≢true e)
none_makes operation e ws = absurd (false≢true e)
none_makes listing e ws = absurd (false≢true e)

-- From here on nothing is said of the single things wanted.
abbrev pub Fits : List Want → List Word → Type 0
Fits s ws = Seq s ws []

abbrev FitsAfter : Option (List Want) → List Word → Type 0
FitsAfter none ws = ⊥
FitsAfter (some s) ws = Fits s ws

skips : (x : Want) (b : Bool) (s : List Want) (o : Option (List Want)) (w : Word) (ws : List Word) → optional x ≡ b → (FitsAfter o ws → Fits s (w ∷ ws)) → FitsAfter (cond b o none) ws → Fits (x ∷ s) (w ∷ ws)
skips x true s o w ws e h f = (w ∷ ws, none_makes x e (w ∷ ws), h f)
skips x false s o w ws e h f = absurd f

takes : (x : Want) (s : List Want) (w : Word) (ws : List Word) (o o' : Option (List Want)) → Makes x w o → (FitsAfter o' ws → Fits (x ∷ s) (w ∷ ws)) → FitsAfter (take_up o s o') ws → Fits (x ∷ s) (w ∷ ws)
takes x s w ws none o' h g f = g f
takes x s w ws (some ys) o' h g f = let (r, a, b) = seq_parts ys s ws [] f in (r, h ws r a, b)

read_fits : (s : List Want) (w : Word) (ws : List Word) → FitsAfter (read s w) ws → Fits s (w ∷ ws)
read_fits [] w ws f = absurd f
read_fits (x ∷ s) w ws f = takes x s w ws (expand x w) (cond (optional x) (read s w) none) (expand_makes x w) (skips x (optional x) s (read s w) w ws refl (λ g. read_fits s w ws g)) f

-- read to the end: the words are what was wanted
pub stuck_no : {ws : List Word} → stuck ws ≡ accepted → ⊥
stuck_no e = subst family e tt
  where
    family : End → Type 0
    family accepted = ⊥
    family (stuck ws) = Unit {0}

ends : (x : Want) (b : Bool) (s : List Want) → optional x ≡ b → (at_end s ≡ accepted → Fits s []) → cond b (at_end s) (stuck []) ≡ accepted → Fits (x ∷ s) []
ends x true s o h e = ([], none_makes x o [], h e)
ends x false s o h e = absurd (stuck_no e)

end_fits : (s : List Want) → at_end s ≡ accepted → Fits s []
end_fits [] e = refl
end_fits (x ∷ s) e = ends x (optional x) s refl (λ h. end_fits s h) e

onward_fits : (o : Option (List Want)) (w : Word) (ws : List Word) → ((s : List Want) → run s ws ≡ accepted → Fits s ws) → onward o (w ∷ ws) (λ s. run s ws) ≡ accepted → FitsAfter o ws
onward_fits none w ws h e = absurd (stuck_no e)
onward_fits (some s) w ws h e = h s e

pub run_fits : (s : List Want) (ws : List Word) → run s ws ≡ accepted → Fits s ws
run_fits s [] e = end_fits s e
run_fits s (w ∷ ws) e = read_fits s w ws (onward_fits (read s w) w ws (λ s' h. run_fits s' ws h) e)

pub accepted_listing : (ws : List Word) → run (listing ∷ []) ws ≡ accepted → (l : Program) × Listing ws l
accepted_listing ws e =
    let (r, (l, h), e₁) = run_fits (listing ∷ []) ws e in
    (l, subst (Lists ws l.operations l.run_place l.main) e₁ h)

-- what is wanted can be had
abbrev none_text : Text
none_text = record { ref_ptr = (0, 0); now = [] }

abbrev fixed : Kind → Word
fixed k = Fixed none_text 0 k

abbrev pub some_name : Word
some_name = Name none_text 0

abbrev pub words_for : Want → List Word
words_for (this k) = fixed k ∷ []
words_for a_name = some_name ∷ []
words_for pattern = some_name ∷ []
words_for names = fixed Close ∷ []
words_for a_type = fixed Bit ∷ []
words_for types = fixed Bit ∷ fixed Close ∷ []
words_for more_types = fixed Close ∷ []
words_for parameter = some_name ∷ fixed Colon ∷ fixed Bit ∷ []
words_for parameters = fixed Close ∷ []
words_for more_parameters = fixed Close ∷ []
words_for term = fixed Zero ∷ []
words_for plain = fixed Zero ∷ []
words_for after_name = fixed Open ∷ fixed Close ∷ []
words_for arguments = fixed Close ∷ []
words_for terms = fixed Zero ∷ fixed Close ∷ []
words_for more = fixed Close ∷ []
words_for after_open = fixed Close ∷ []
words_for in_parens = fixed Close ∷ []
words_for operation = fixed Op ∷ some_name ∷ fixed Open ∷ fixed Close ∷ fixed Colon ∷ fixed Bit ∷ fixed LeftBrace ∷ fixed Zero ∷ fixed RightBrace ∷ []
words_for listing = fixed Run ∷ fixed Zero ∷ []

abbrev pub finish : List Want → List Word
finish [] = []
finish (x ∷ s) = words_for x ++ finish s

this_finishes : (k : Kind) (s : List Want) (ws : List Word) → run (this k ∷ s) (fixed k ∷ ws) ≡ run s ws
this_finishes k s ws = simp (eq-eqb (index k) (index k) refl)

pub finishes : (s : List Want) → run s (finish s) ≡ accepted
finishes [] = refl
finishes (this k ∷ s) = this_finishes k s (finish s) ∙ finishes s
finishes (a_name ∷ s) = finishes s
finishes (pattern ∷ s) = finishes s
finishes (names ∷ s) = finishes s
finishes (a_type ∷ s) = finishes s
finishes (types ∷ s) = finishes s
finishes (more_types ∷ s) = finishes s
finishes (parameter ∷ s) = finishes s
finishes (parameters ∷ s) = finishes s
finishes (more_parameters ∷ s) = finishes s
finishes (term ∷ s) = finishes s
finishes (plain ∷ s) = finishes s
finishes (after_name ∷ s) = finishes s
finishes (arguments ∷ s) = finishes s
finishes (terms ∷ s) = finishes s
finishes (more ∷ s) = finishes s
finishes (after_open ∷ s) = finishes s
finishes (in_parens ∷ s) = finishes s
finishes (operation ∷ s) = finishes s
finishes (listing ∷ s) = finishes s
