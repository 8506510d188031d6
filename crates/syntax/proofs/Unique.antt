-- The words of a listing have one tree.
use Rattle.std.proofs.Common.{◌≡◌, ℕ, false, List, [], ◌∷◌, sym, refl, ap, subst, true≢false}
use Rattle.words.specs.declared.token.Kind.TheVariants.{Open, Close, LeftBrace, RightBrace, Comma, In, Else}
use Rattle.words.specs.declared.token.Word.{Word}
use Rattle.words.specs.declared.token.Word.TheVariants.{Fixed}
use Rattle.syntax.specs.Trees.{Identifier, Pattern, several, Written, tuple_type, Writtens, ◌∷ʷ◌, by_let, by_mut, by_set, Tree, call, meas, apply, tuple, bind, prepare, choose, Trees, ◌∷ᵗ◌, Parameter, Operation, Program}
use Rattle.syntax.specs.Grammar.{identifier, Names, names_end, names_more, Binds, binds_one, binds_several, Writes, is_unit_type, is_bit_type, is_int_type, is_qbit_type, is_tuple_type, WritesAll, some_types, MoreTypes, types_end, types_more, Gives, gives, MoreParameters, parameters_end, parameters_more, Parameters, no_parameters, some_parameters, Term, let_in, mut_in, set_in, using_in, if_else, plain_term, Binding, binding, Plain, is_zero, is_one, is_number, is_name, is_call, is_meas, is_gate, is_unit, is_group, is_tuple, Arguments, no_arguments, some_arguments, Terms, some_terms, More, more_end, more_next, Declares, declares, Lists, run_term, operation_first, Listing}
use Rattle.syntax.specs.Machine.{heads}
use Rattle.syntax.proofs.Complete.{more_first, term_first, terms_first}

abbrev tail_of : List Word → List Word
tail_of [] = []
tail_of (w ∷ ws) = ws

names_same : {ns ms : List Identifier} {ws r q : List Word} → Names ws ns r → Names ws ms q → (ns ≡ ms) × (r ≡ q)
names_same names_end names_end = (refl, refl)
names_same (names_more {y = y} {j = j} h) (names_more k) = (ap (λ l. identifier y j ∷ l) (names_same h k).0, (names_same h k).1)

pub binds_same : {p q : Pattern} {ws r s : List Word} → Binds ws p r → Binds ws q s → (p ≡ q) × (r ≡ s)
binds_same binds_one binds_one = (refl, refl)
binds_same (binds_several {y = y} {v = v} {j = j} {l = l} h) (binds_several k) = (ap (λ a. several (identifier y j ∷ identifier v l ∷ a)) (names_same h k).0, (names_same h k).1)

mutual
  pub type_same : {τ σ : Written} {ws r q : List Word} → Writes ws τ r → Writes ws σ q → (τ ≡ σ) × (r ≡ q)
  type_same is_unit_type is_unit_type = (refl, refl)
  type_same is_bit_type is_bit_type = (refl, refl)
  type_same is_int_type is_int_type = (refl, refl)
  type_same is_qbit_type is_qbit_type = (refl, refl)
  type_same (is_tuple_type {i = i} h k) (is_tuple_type {τs = τs} {rest = rest} h' k') =
      let x = type_same h h' in
      let y = types_same k (subst (λ l. WritesAll l τs rest) (sym (ap tail_of x.1)) k') in
      ((λ a. tuple_type i (x.0 a ∷ʷ y.0 a)), y.1)

  types_same : {τs σs : Writtens} {ws r q : List Word} → WritesAll ws τs r → WritesAll ws σs q → (τs ≡ σs) × (r ≡ q)
  types_same (some_types h k) (some_types {τs = τs} {rest = rest} h' k') =
      let x = type_same h h' in
      let y = more_types_same k (subst (λ l. MoreTypes l τs rest) (sym x.1) k') in
      ((λ a. x.0 a ∷ʷ y.0 a), y.1)

  more_types_same : {τs σs : Writtens} {ws r q : List Word} → MoreTypes ws τs r → MoreTypes ws σs q → (τs ≡ σs) × (r ≡ q)
  more_types_same types_end types_end = (refl, refl)
  more_types_same (types_more h) (types_more k) = types_same h k

gives_same : {d e : Parameter} {ws r q : List Word} → Gives ws d r → Gives ws e q → (d ≡ e) × (r ≡ q)
gives_same (gives {x = x} {i = i} h) (gives k) = let z = type_same h k in ((λ a. record { name = identifier x i; written = z.0 a }), z.1)

more_parameters_same : {ds es : List Parameter} {ws r q : List Word} → MoreParameters ws ds r → MoreParameters ws es q → (ds ≡ es) × (r ≡ q)
more_parameters_same parameters_end parameters_end = (refl, refl)
more_parameters_same (parameters_more h k) (parameters_more {ds = ds} {rest = rest} h' k') =
    let x = gives_same h h' in
    let y = more_parameters_same k (subst (λ l. MoreParameters l ds rest) (sym x.1) k') in
    ((λ a. x.0 a ∷ y.0 a), y.1)

parameters_same : {ds es : List Parameter} {ws r q : List Word} → Parameters ws ds r → Parameters ws es q → (ds ≡ es) × (r ≡ q)
parameters_same no_parameters no_parameters = (refl, refl)
parameters_same no_parameters (some_parameters h k) = elim h [ ]
parameters_same (some_parameters h k) no_parameters = elim h [ ]
parameters_same (some_parameters h k) (some_parameters {ds = ds} {rest = rest} h' k') =
    let x = gives_same h h' in
    let y = more_parameters_same k (subst (λ l. MoreParameters l ds rest) (sym x.1) k') in
    ((λ a. x.0 a ∷ y.0 a), y.1)

abbrev OneTree : Tree → Tree → List Word → List Word → Type 0
OneTree t u r q = (t ≡ u) × (r ≡ q)

mutual
  pub term_same : {t u : Tree} {ws r q : List Word} → Term ws t r → Term ws u q → heads Open r ≡ false → heads Open q ≡ false → OneTree t u r q
  term_same (let_in {i = i} h) (let_in k) f g = let x = binding_same h k f g in ((λ a. bind i by_let (x.0 a) (x.1 a) (x.2 a)), x.3)
  term_same (mut_in {i = i} h) (mut_in k) f g = let x = binding_same h k f g in ((λ a. bind i by_mut (x.0 a) (x.1 a) (x.2 a)), x.3)
  term_same (set_in {i = i} h) (set_in k) f g = let x = binding_same h k f g in ((λ a. bind i by_set (x.0 a) (x.1 a) (x.2 a)), x.3)
  term_same (using_in {i = i} b h) (using_in {t = t} {rest = rest} b' h') f g =
      let x = binds_same b b' in
      let y = term_same h (subst (λ l. Term l t rest) (sym (ap tail_of x.1)) h') f g in
      ((λ a. prepare i (x.0 a) (y.0 a)), y.1)
  term_same (if_else {i = i} h k l) (if_else {z = z} {k = n} {u = u} {v = v} {us = us} {rest = rest} h' k' l') f g =
      let x = term_same h h' refl refl in
      let y = term_same k (subst (λ l. Term l u (Fixed z n Else ∷ us)) (sym (ap tail_of x.1)) k') refl refl in
      let z = term_same l (subst (λ l. Term l v rest) (sym (ap tail_of y.1)) l') f g in
      ((λ a. choose i (x.0 a) (y.0 a) (z.0 a)), z.1)
  term_same (plain_term h) (plain_term k) f g = plain_same h k f g
  term_same (let_in h) (plain_term x) f g = elim x [ ]
  term_same (mut_in h) (plain_term x) f g = elim x [ ]
  term_same (set_in h) (plain_term x) f g = elim x [ ]
  term_same (using_in b h) (plain_term x) f g = elim x [ ]
  term_same (if_else h k l) (plain_term x) f g = elim x [ ]
  term_same (plain_term h) (let_in k) f g = elim h [ ]
  term_same (plain_term h) (mut_in k) f g = elim h [ ]
  term_same (plain_term h) (set_in k) f g = elim h [ ]
  term_same (plain_term h) (using_in b k) f g = elim h [ ]
  term_same (plain_term h) (if_else h' k' l') f g = elim h [ ]

  binding_same : {p p' : Pattern} {t t' u u' : Tree} {ws r q : List Word} → Binding ws p t u r → Binding ws p' t' u' q → heads Open r ≡ false → heads Open q ≡ false → (p ≡ p') × (t ≡ t') × (u ≡ u') × (r ≡ q)
  binding_same (binding b h k) (binding {y = y} {j = j} {t = t} {u = u} {us = us} {rest = rest} b' h' k') f g =
      let x = binds_same b b' in
      let z = term_same h (subst (λ l. Term l t (Fixed y j In ∷ us)) (sym (ap tail_of x.1)) h') refl refl in
      let v = term_same k (subst (λ l. Term l u rest) (sym (ap tail_of z.1)) k') f g in
      (x.0, z.0, v.0, v.1)

  plain_same : {t u : Tree} {ws r q : List Word} → Plain ws t r → Plain ws u q → heads Open r ≡ false → heads Open q ≡ false → OneTree t u r q
  plain_same is_zero is_zero f g = (refl, refl)
  plain_same is_one is_one f g = (refl, refl)
  plain_same is_number is_number f g = (refl, refl)
  plain_same is_name is_name f g = (refl, refl)
  plain_same (is_call {x = x} {i = i} h) (is_call k) f g = let z = arguments_same h k in (ap (call (identifier x i)) z.0, z.1)
  plain_same (is_meas {i = i} h) (is_meas k) f g = let x = term_same h k refl refl in (ap (meas i) x.0, ap tail_of x.1)
  plain_same (is_gate {i = i} {g = o} h) (is_gate k) f g = let x = terms_same h k in (ap (apply i o) x.0, x.1)
  plain_same is_unit is_unit f g = (refl, refl)
  plain_same (is_group h) (is_group k) f g = let x = term_same h k refl refl in (x.0, ap tail_of x.1)
  plain_same (is_tuple {i = i} h k) (is_tuple {us = us} {rest = rest} h' k') f g =
      let x = term_same h h' refl refl in
      let y = terms_same k (subst (λ l. Terms l us rest) (sym (ap tail_of x.1)) k') in
      ((λ a. tuple i (x.0 a ∷ᵗ y.0 a)), y.1)
  plain_same is_name (is_call k) f g = absurd (true≢false f)
  plain_same (is_call h) is_name f g = absurd (true≢false g)
  plain_same is_unit (is_group k) f g = absurd (true≢false (term_first k))
  plain_same is_unit (is_tuple h' k') f g = absurd (true≢false (term_first h'))
  plain_same (is_group h) is_unit f g = absurd (true≢false (term_first h))
  plain_same (is_tuple h k) is_unit f g = absurd (true≢false (term_first h))
  plain_same (is_group h) (is_tuple h' k') f g = absurd (true≢false (ap (heads Close) (term_same h h' refl refl).1))
  plain_same (is_tuple h k) (is_group h') f g = absurd (true≢false (ap (heads Comma) (term_same h h' refl refl).1))

  arguments_same : {ts us : Trees} {ws r q : List Word} → Arguments ws ts r → Arguments ws us q → (ts ≡ us) × (r ≡ q)
  arguments_same no_arguments no_arguments = (refl, refl)
  arguments_same no_arguments (some_arguments h) = absurd (true≢false (terms_first h))
  arguments_same (some_arguments h) no_arguments = absurd (true≢false (terms_first h))
  arguments_same (some_arguments h) (some_arguments k) = terms_same h k

  terms_same : {ts us : Trees} {ws r q : List Word} → Terms ws ts r → Terms ws us q → (ts ≡ us) × (r ≡ q)
  terms_same (some_terms h k) (some_terms {ts = ts} {rest = rest} h' k') =
      let x = term_same h h' (more_first k) (more_first k') in
      let y = more_same k (subst (λ l. More l ts rest) (sym x.1) k') in
      ((λ a. x.0 a ∷ᵗ y.0 a), y.1)

  more_same : {ts us : Trees} {ws r q : List Word} → More ws ts r → More ws us q → (ts ≡ us) × (r ≡ q)
  more_same more_end more_end = (refl, refl)
  more_same (more_next h) (more_next k) = terms_same h k

declares_same : {o o' : Operation} {ws r q : List Word} → Declares ws o r → Declares ws o' q → (o ≡ o') × (r ≡ q)
declares_same (declares {y = y} {i = i} {j = j} h k l) (declares {b = b} {c = c} {m = m} {n = n} {τ = τ} {t = t} {us = us} {rest = rest} h' k' l') =
    let x = parameters_same h h' in
    let z = type_same k (subst (λ v. Writes v τ (Fixed b m LeftBrace ∷ us)) (sym (ap tail_of x.1)) k') in
    let v = term_same l (subst (λ v. Term v t (Fixed c n RightBrace ∷ rest)) (sym (ap tail_of z.1)) l') refl refl in
    ((λ a. record { place = i; name = identifier y j; parameters = x.0 a; result = z.0 a; body = v.0 a }), ap tail_of v.1)

lists_same : {os os' : List Operation} {i i' : ℕ} {t u : Tree} {ws r q : List Word} → Lists ws os i t r → Lists ws os' i' u q → heads Open r ≡ false → heads Open q ≡ false → (os ≡ os') × (i ≡ i') × (t ≡ u)
lists_same (run_term h) (run_term k) f g = (refl, refl, (term_same h k f g).0)
lists_same (run_term h) (operation_first k l) f g = elim k [ ]
lists_same (operation_first k l) (run_term h) f g = elim k [ ]
lists_same (operation_first h k) (operation_first {os = os} {i = i} {t = t} {rest = rest} h' k') f g =
    let x = declares_same h h' in
    let y = lists_same k (subst (λ v. Lists v os i t rest) (sym x.1) k') f g in
    ((λ a. x.0 a ∷ y.0 a), y.1, y.2)

pub one_tree : {l k : Program} {ws : List Word} → Listing ws l → Listing ws k → l ≡ k
one_tree h k = let x = lists_same h k refl refl in λ a. record { operations = x.0 a; run_place = x.1 a; main = x.2 a }
