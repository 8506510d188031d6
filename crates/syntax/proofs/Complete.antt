-- What the grammar calls a term is read through, whatever is wanted after it.
use Rattle.std.proofs.Common.{◌≡◌, ℕ, Bool, true, false, cond, List, [], ◌∷◌, refl, ap, ◌∙◌, append_assoc}
use mathlib.Core.Option.{Option, none, some}
use Rattle.words.specs.declared.token.Kind.TheVariants.{Open, Close, Comma, Equals, Colon, Op, Run, Let, Mut, Set, Using, In, If, Unit, Bit, Int, Qbit}
use Rattle.words.specs.declared.token.Word.{Word}
use Rattle.words.specs.declared.token.Word.TheVariants.{Name, Number, Gate, Fixed}
use Rattle.syntax.specs.Trees.{Identifier, Pattern, Written, Writtens, Tree, Trees, Parameter, Operation, Program}
use Rattle.syntax.specs.Grammar.{Names, names_end, names_more, Binds, binds_one, binds_several, Writes, is_unit_type, is_bit_type, is_int_type, is_qbit_type, is_tuple_type, WritesAll, some_types, MoreTypes, types_end, types_more, Gives, gives, MoreParameters, parameters_end, parameters_more, Parameters, no_parameters, some_parameters, Term, let_in, mut_in, set_in, using_in, if_else, plain_term, Binding, binding, Plain, is_zero, is_one, is_number, is_name, is_call, is_meas, is_gate, is_unit, is_group, is_tuple, Arguments, no_arguments, some_arguments, Terms, some_terms, More, more_end, more_next, Declares, declares, Lists, run_term, operation_first, Listing}
use Rattle.syntax.specs.Machine as m
use Rattle.syntax.specs.Machine.{Want, run, heads, accepted}

-- Where a word is not there, what is wanted begins as something else that is wanted.
pub after_name_ends : (ws : List Word) (s : List Want) → heads Open ws ≡ false → run (m.after_name ∷ s) ws ≡ run s ws
after_name_ends [] s e = refl
after_name_ends (w ∷ ws) s e = simp e

followed_on : (o : Option (List Want)) (y : Want) (s : List Want) → m.take_up (m.followed o y) s none ≡ m.take_up o (y ∷ s) none
followed_on none y s = refl
followed_on (some ys) y s = ap some (append_assoc ys (y ∷ []) s)

pub types_begin : (ws : List Word) (s : List Want) → run (m.types ∷ s) ws ≡ run (m.a_type ∷ m.more_types ∷ s) ws
types_begin [] s = refl
types_begin (w ∷ ws) s = ap (λ o. m.onward o (w ∷ ws) (λ s'. run s' ws)) (followed_on (m.type_by w) m.more_types s)

pub terms_begin : (ws : List Word) (s : List Want) → run (m.terms ∷ s) ws ≡ run (m.term ∷ m.more ∷ s) ws
terms_begin [] s = refl
terms_begin (w ∷ ws) s = ap (λ o. m.onward o (w ∷ ws) (λ s'. run s' ws)) (followed_on (m.term_by w) m.more s)

pub arguments_begin : (ws : List Word) (s : List Want) → heads Close ws ≡ false → run (m.arguments ∷ s) ws ≡ run (m.terms ∷ s) ws
arguments_begin [] s e = refl
arguments_begin (w ∷ ws) s e = simp e

pub parens_begin : (ws : List Word) (s : List Want) → heads Close ws ≡ false → run (m.after_open ∷ s) ws ≡ run (m.term ∷ m.in_parens ∷ s) ws
parens_begin [] s e = refl
parens_begin (w ∷ ws) s e = simp (e, followed_on (m.term_by w) m.in_parens s)

pub parameters_begin : (ws : List Word) (s : List Want) → heads Close ws ≡ false → run (m.parameters ∷ s) ws ≡ run (m.parameter ∷ m.more_parameters ∷ s) ws
parameters_begin [] s e = refl
parameters_begin (w ∷ ws) s e = simp (e, followed_on (m.parameter_by w) m.more_parameters s)

pub parameter_begins : (ws : List Word) (s : List Want) → run (m.parameter ∷ s) ws ≡ run (m.a_name ∷ m.this Colon ∷ m.a_type ∷ s) ws
parameter_begins [] s = refl
parameter_begins (Name x i ∷ ws) s = refl
parameter_begins (Number x i n ∷ ws) s = refl
parameter_begins (Gate x i g ∷ ws) s = refl
parameter_begins (Fixed x i k ∷ ws) s = refl

pub operation_begins : (ws : List Word) (s : List Want) → heads Run ws ≡ false → run (m.listing ∷ s) ws ≡ run (m.operation ∷ m.listing ∷ s) ws
operation_begins [] s e = refl
operation_begins (w ∷ ws) s e = simp (e, followed_on (m.operation_by w) m.listing s)

pub run_begins : (ws : List Word) (s : List Want) → heads Op ws ≡ false → run (m.listing ∷ s) ws ≡ run (m.this Run ∷ m.term ∷ s) ws
run_begins [] s e = refl
run_begins (w ∷ ws) s e = go (m.is Run w)
  where
    go : (b : Bool) → m.onward (m.take_up (cond b (some (m.term ∷ [])) (m.followed (m.operation_by w) m.listing)) s none) (w ∷ ws) (λ s'. run s' ws) ≡ m.onward (m.take_up (cond b (some []) none) (m.term ∷ s) none) (w ∷ ws) (λ s'. run s' ws)
    go true = refl
    go false = simp e

pub plain_begin : (ws : List Word) (s : List Want) → heads Let ws ≡ false → heads Mut ws ≡ false → heads Set ws ≡ false → heads Using ws ≡ false → heads If ws ≡ false → run (m.term ∷ s) ws ≡ run (m.plain ∷ s) ws
plain_begin [] s a b c d e = refl
plain_begin (w ∷ ws) s a b c d e = simp (a, b, c, d, e)

pub names_shut : (ws : List Word) (s : List Want) → heads Comma ws ≡ false → run (m.names ∷ s) ws ≡ run (m.this Close ∷ s) ws
names_shut [] s e = refl
names_shut (w ∷ ws) s e = simp e

pub types_shut : (ws : List Word) (s : List Want) → heads Comma ws ≡ false → run (m.more_types ∷ s) ws ≡ run (m.this Close ∷ s) ws
types_shut [] s e = refl
types_shut (w ∷ ws) s e = simp e

pub parameters_shut : (ws : List Word) (s : List Want) → heads Comma ws ≡ false → run (m.more_parameters ∷ s) ws ≡ run (m.this Close ∷ s) ws
parameters_shut [] s e = refl
parameters_shut (w ∷ ws) s e = simp e

pub more_shut : (ws : List Word) (s : List Want) → heads Comma ws ≡ false → run (m.more ∷ s) ws ≡ run (m.this Close ∷ s) ws
more_shut [] s e = refl
more_shut (w ∷ ws) s e = simp e

pub parens_shut : (ws : List Word) (s : List Want) → heads Comma ws ≡ false → run (m.in_parens ∷ s) ws ≡ run (m.this Close ∷ s) ws
parens_shut [] s e = refl
parens_shut (w ∷ ws) s e = simp e

pub pattern_name : (ws : List Word) (s : List Want) → heads Open ws ≡ false → run (m.pattern ∷ s) ws ≡ run (m.a_name ∷ s) ws
pattern_name [] s e = refl
pattern_name (w ∷ ws) s e = simp e

pub type_opens : (ws : List Word) (s : List Want) → heads Unit ws ≡ false → heads Bit ws ≡ false → heads Int ws ≡ false → heads Qbit ws ≡ false → run (m.a_type ∷ s) ws ≡ run (m.this Open ∷ m.a_type ∷ m.this Comma ∷ m.types ∷ s) ws
type_opens [] s a b c d = refl
type_opens (w ∷ ws) s a b c d = go (m.is Open w)
  where
    go : (o : Bool) → m.onward (m.take_up (cond (m.is Unit w) (some []) (cond (m.is Bit w) (some []) (cond (m.is Int w) (some []) (cond (m.is Qbit w) (some []) (cond o (some (m.a_type ∷ m.this Comma ∷ m.types ∷ [])) none))))) s none) (w ∷ ws) (λ s'. run s' ws) ≡ m.onward (m.take_up (cond o (some []) none) (m.a_type ∷ m.this Comma ∷ m.types ∷ s) none) (w ∷ ws) (λ s'. run s' ws)
    go true = simp (a, b, c, d)
    go false = simp (a, b, c, d)

names_read : {ns : List Identifier} {ws rest : List Word} → Names ws ns rest → (s : List Want) → run (m.names ∷ s) ws ≡ run s rest
names_read names_end s = refl
names_read (names_more h) s = names_read h s

pub binds_read : {p : Pattern} {ws rest : List Word} → Binds ws p rest → (s : List Want) → run (m.pattern ∷ s) ws ≡ run s rest
binds_read binds_one s = refl
binds_read (binds_several h) s = names_read h s

mutual
  pub type_read : {τ : Written} {ws rest : List Word} → Writes ws τ rest → (s : List Want) → run (m.a_type ∷ s) ws ≡ run s rest
  type_read is_unit_type s = refl
  type_read is_bit_type s = refl
  type_read is_int_type s = refl
  type_read is_qbit_type s = refl
  type_read (is_tuple_type h k) s = type_read h _ ∙ types_read k s

  types_read : {τs : Writtens} {ws rest : List Word} → WritesAll ws τs rest → (s : List Want) → run (m.types ∷ s) ws ≡ run s rest
  types_read (some_types {ws = ws} h k) s = types_begin ws s ∙ type_read h _ ∙ more_types_read k s

  more_types_read : {τs : Writtens} {ws rest : List Word} → MoreTypes ws τs rest → (s : List Want) → run (m.more_types ∷ s) ws ≡ run s rest
  more_types_read types_end s = refl
  more_types_read (types_more h) s = types_read h s

gives_read : {d : Parameter} {ws rest : List Word} → Gives ws d rest → (s : List Want) → run (m.parameter ∷ s) ws ≡ run s rest
gives_read (gives h) s = type_read h s

gives_first : {d : Parameter} {ws rest : List Word} → Gives ws d rest → heads Close ws ≡ false
gives_first (gives h) = refl

more_parameters_read : {ds : List Parameter} {ws rest : List Word} → MoreParameters ws ds rest → (s : List Want) → run (m.more_parameters ∷ s) ws ≡ run s rest
more_parameters_read parameters_end s = refl
more_parameters_read (parameters_more h k) s = gives_read h _ ∙ more_parameters_read k s

parameters_read : {ds : List Parameter} {ws rest : List Word} → Parameters ws ds rest → (s : List Want) → run (m.parameters ∷ s) ws ≡ run s rest
parameters_read no_parameters s = refl
parameters_read (some_parameters {ws = ws} h k) s = parameters_begin ws s (gives_first h) ∙ gives_read h _ ∙ more_parameters_read k s

plain_first : {t : Tree} {ws rest : List Word} → Plain ws t rest → heads Close ws ≡ false
plain_first is_zero = refl
plain_first is_one = refl
plain_first is_number = refl
plain_first is_name = refl
plain_first (is_call h) = refl
plain_first (is_meas h) = refl
plain_first (is_gate h) = refl
plain_first is_unit = refl
plain_first (is_group h) = refl
plain_first (is_tuple h k) = refl

pub term_first : {t : Tree} {ws rest : List Word} → Term ws t rest → heads Close ws ≡ false
term_first (let_in h) = refl
term_first (mut_in h) = refl
term_first (set_in h) = refl
term_first (using_in b h) = refl
term_first (if_else h k l) = refl
term_first (plain_term h) = plain_first h

pub terms_first : {ts : Trees} {ws rest : List Word} → Terms ws ts rest → heads Close ws ≡ false
terms_first (some_terms h k) = term_first h

as_plain : {t : Tree} {ws rest : List Word} → Plain ws t rest → (s : List Want) → run (m.term ∷ s) ws ≡ run (m.plain ∷ s) ws
as_plain is_zero s = refl
as_plain is_one s = refl
as_plain is_number s = refl
as_plain is_name s = refl
as_plain (is_call h) s = refl
as_plain (is_meas h) s = refl
as_plain (is_gate h) s = refl
as_plain is_unit s = refl
as_plain (is_group h) s = refl
as_plain (is_tuple h k) s = refl

pub more_first : {ts : Trees} {ws rest : List Word} → More ws ts rest → heads Open ws ≡ false
more_first more_end = refl
more_first (more_next h) = refl

mutual
  pub term_read : {t : Tree} {ws rest : List Word} → Term ws t rest → heads Open rest ≡ false → (s : List Want) → run (m.term ∷ s) ws ≡ run s rest
  term_read (let_in h) f s = binding_read h f s
  term_read (mut_in h) f s = binding_read h f s
  term_read (set_in h) f s = binding_read h f s
  term_read (using_in b h) f s = binds_read b _ ∙ term_read h f s
  term_read (if_else h k l) f s = term_read h refl _ ∙ term_read k refl _ ∙ term_read l f s
  term_read (plain_term h) f s = as_plain h s ∙ plain_read h f s

  binding_read : {p : Pattern} {t u : Tree} {ws rest : List Word} → Binding ws p t u rest → heads Open rest ≡ false → (s : List Want) → run (m.pattern ∷ m.this Equals ∷ m.term ∷ m.this In ∷ m.term ∷ s) ws ≡ run s rest
  binding_read (binding b h k) f s = binds_read b _ ∙ term_read h refl _ ∙ term_read k f s

  pub plain_read : {t : Tree} {ws rest : List Word} → Plain ws t rest → heads Open rest ≡ false → (s : List Want) → run (m.plain ∷ s) ws ≡ run s rest
  plain_read is_zero f s = refl
  plain_read is_one f s = refl
  plain_read is_number f s = refl
  plain_read (is_name {ws = ws}) f s = after_name_ends ws s f
  plain_read (is_call h) f s = arguments_read h s
  plain_read (is_meas h) f s = term_read h refl _
  plain_read (is_gate h) f s = terms_read h s
  plain_read is_unit f s = refl
  plain_read (is_group {ws = ws} h) f s = parens_begin ws s (term_first h) ∙ term_read h refl _
  plain_read (is_tuple {ws = ws} h k) f s = parens_begin ws s (term_first h) ∙ term_read h refl _ ∙ terms_read k s

  arguments_read : {ts : Trees} {ws rest : List Word} → Arguments ws ts rest → (s : List Want) → run (m.arguments ∷ s) ws ≡ run s rest
  arguments_read no_arguments s = refl
  arguments_read (some_arguments {ws = ws} h) s = arguments_begin ws s (terms_first h) ∙ terms_read h s

  terms_read : {ts : Trees} {ws rest : List Word} → Terms ws ts rest → (s : List Want) → run (m.terms ∷ s) ws ≡ run s rest
  terms_read (some_terms {ws = ws} h k) s = terms_begin ws s ∙ term_read h (more_first k) _ ∙ more_read k s

  more_read : {ts : Trees} {ws rest : List Word} → More ws ts rest → (s : List Want) → run (m.more ∷ s) ws ≡ run s rest
  more_read more_end s = refl
  more_read (more_next h) s = terms_read h s

declares_read : {o : Operation} {ws rest : List Word} → Declares ws o rest → (s : List Want) → run (m.operation ∷ s) ws ≡ run s rest
declares_read (declares h k l) s = parameters_read h _ ∙ type_read k _ ∙ term_read l refl _

declares_first : {o : Operation} {ws rest : List Word} → Declares ws o rest → heads Run ws ≡ false
declares_first (declares h k l) = refl

pub lists_read : {os : List Operation} {i : ℕ} {t : Tree} {ws rest : List Word} → Lists ws os i t rest → heads Open rest ≡ false → (s : List Want) → run (m.listing ∷ s) ws ≡ run s rest
lists_read (run_term h) f s = term_read h f s
lists_read (operation_first {ws = ws} h k) f s = operation_begins ws s (declares_first h) ∙ declares_read h _ ∙ lists_read k f s

pub listing_read : {l : Program} {ws : List Word} → Listing ws l → run (m.listing ∷ []) ws ≡ accepted
listing_read h = lists_read h refl []
