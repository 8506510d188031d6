-- The exits of the functions that read terms.
use Rattle.std.proofs.Common.{◌≡◌, ℕ, ◌+◌, ◌<◌, ◌≤◌, true, false, List, [], ◌∷◌, length, drop, Ok, Err, Some, None, Option, is_some, inl, inr, vec_items, vec_len, Result, Vec, sym, refl, ap, ◌∙◌, subst, subst₂, arith}
use Rattle.std.specs.declared.alloc.Global.{Global}
use Rattle.std.proofs.lemmas.List.{drop_more, drop_all}
use Rattle.std.proofs.lemmas.Bool.{cases_lt, false≢true}
use Rattle.words.specs.declared.token.Kind.{Kind}
use Rattle.words.specs.declared.token.Kind.TheVariants.{Open, Close, Comma, Let, Mut, Set, Using, If}
use Rattle.words.specs.declared.token.Kind.TheVariants as kind
use Rattle.words.specs.declared.token.Word.{Word}
use Rattle.syntax.specs.Trees as s
use Rattle.syntax.specs.Grammar as g
use Rattle.syntax.specs.Grammar.{Text, identifier}
use Rattle.syntax.specs.Machine as m
use Rattle.syntax.specs.Machine.{Want, this, heads, Way, Stops}
use Rattle.syntax.proofs.Ways as w
use Rattle.syntax.proofs.Ways.{there, through}
use Rattle.grammar.specs.declared.tree.Basic.TheVariants as basics
use Rattle.grammar.specs.declared.tree.Binder as binders
use Rattle.grammar.specs.declared.tree.Tree.{Tree}
use Rattle.grammar.specs.declared.parse.Stop.{Stop}
use Rattle.grammar.specs.declared.parse.Cursor.{Cursor}
use Rattle.grammar.specs.Arena.{Node, At, NamesAt, no_names_at, Stands, PartsAt, no_parts_at, parts_at, TypesAt, no_types_at, types_at, TypeAt}
use Rattle.grammar.specs.Parsing.{Grows, nodes_of, parts_of, first, kind_of, place_or}
use Rattle.grammar.specs.Reading.{Quiet, Progress, Answers, Expected, IsWord, BasicFound, rest, Passed, Here, Added, keyword, NameRead, MoreNamesRead, TermRead, PlainRead, TermsRead, MoreRead, TypesRead, MoreTypesRead}
use Rattle.grammar.proofs.Growth.{Path, starts, takes, goes, reads, same_words, adds, ends, fails, misses, lacks, base_le, grows_then, quiet_all, quiet_then}
use Rattle.grammar.proofs.Arenas.{names_join, within, type_within, parts_wider, types_wider}
use Rattle.grammar.proofs.Tests.{headed, not_headed, unheaded}
use Rattle.grammar.proofs.Productions.{names_none, names_next, more_there, more_types_there, unit_written, bit_written, int_written, qbit_written}

pub sized : {X : Type 0} (v : Vec X Global) → vec_len v ≡ length (vec_items v)
sized v = v.ok.0

-- The current word, and the words after it.
pub rest_after : {p q : Cursor} → Passed p q → rest q ≡ drop (p.at + 1) p.words.now
rest_after {p} {q} h = ap (λ n. drop n q.words.now) h.at ∙ ap (drop (p.at + 1)) h.words

none_some : (o : Option Word) → o ≡ None → (v : Word) → o ≡ Some v → ⊥
none_some None e v f = absurd (false≢true (ap is_some f))
none_some (Some x) e v f = absurd (false≢true (sym (ap is_some e)))

abbrev word_of : Word → Option Word → Word
word_of d None = d
word_of d (Some v) = v

pub here : {v : Word} (p : Cursor) → first (rest p) ≡ Some v → Here p v
here {v} p e =
    let ws = p.words.now in
    elim (cases_lt p.at (length ws)) [
      | inl l ↦ (let d = drop_more ws p.at v l in (l, d ∙ ap (λ x. x ∷ drop (p.at + 1) ws) (ap (λ o. word_of v o) (sym (ap first d) ∙ e))))
      | inr l ↦ absurd (none_some (first (rest p)) (ap first (drop_all p.at ws l)) v e)
    ]

pub here_then : {p q : Cursor} {v : Word} → Here p v → Passed p q → rest p ≡ v ∷ rest q
here_then {v = v} h k = h.1 ∙ ap (λ ws. v ∷ ws) (sym (rest_after k))

pub is_word : {p q : Cursor} (k : Kind) → heads k (rest p) ≡ true → Passed p q → IsWord k (rest p) (rest q)
is_word {p} k e h = let (l, x, i, d) = w.there p.words.now k p.at e in (x, i, here_then (l, d) h)

pub later : {x : Want} {p q : Cursor} {ys : List Want} → Way x p.words.now p.at ys (p.at + 1) → Passed p q → Way x p.words.now p.at ys q.at
later {x} {p} {ys = ys} h k = subst (Way x p.words.now p.at ys) (sym k.at) h

-- a function read the next thing wanted, and the tables grew by less than it has words
pub gains : {x y : Want} {p q r : Cursor} {b : ℕ} {ys : List Want} {t u v : Tree} → Path x p (y ∷ ys) q t u b → Progress y q r u v → Grows u v (q.at + 1) r.at → Path x p ys r t v (b + 1)
gains {r = r} {b} o h g = record { words = h.words ∙ o.words; way = w.on o.way (same_words o.words h.way); base = omega (arith, o.base); grows = grows_then o.grows g (b + 1) r.at (omega arith) }

-- A node was added for what was read.
pub finish : {Y : Type 0} (R : List Word → Y → List Word → Type 0) (S : List Node → List ℕ → ℕ → Y → Type 0) {x : Want} {p q : Cursor} {b : ℕ} {t u v : Tree} (n : Node) (r : Result ℕ Stop) → Path x p [] q t u b → p.at < b → Quiet t u → Added n u v r → ((k : ℕ) → k ≡ length (nodes_of u) → At (nodes_of v) k n → Grows u v 0 1 → (y : Y) × R (rest p) y (rest q) × S (nodes_of v) (parts_of v) k y) → Answers x (λ i. (y : Y) × R (rest p) y (rest q) × S (nodes_of v) (parts_of v) i y) Quiet p q t v r
finish R S {p = p} n (Ok k) a l o h f = (ends (adds p.at a h.0 (omega arith) l), omega (arith, l, base_le a), f k h.1 h.3 h.0, quiet_then o (record { parameters = h.5; operations = h.6 }))
finish R S n (Err e) a l o h f = lacks e a l h

pub grows_from : {p q : Cursor} {t u : Tree} (r : Cursor) → Passed p q → Grows t u q.at r.at → Grows t u (p.at + 1) r.at
grows_from {t = t} {u} r s g = subst (λ n. Grows t u n r.at) s.at g

-- A function hands on what another answers.
pub plain_by : (p q : Cursor) (t u : Tree) (r : Result ℕ Stop) → Way m.term p.words.now p.at (m.plain ∷ []) p.at → PlainRead p q t u r → TermRead p q t u r
plain_by p q t u (Ok i) a h = (ends (goes (starts p t a) h.0), h.1, (h.2.0, g.plain_term h.2.1, h.2.2), h.3)
plain_by p q t u (Err e) a h = fails e (starts p t a) h

pub plain_headed : (p : Cursor) (k : Kind) → Some k ≡ kind_of (rest p) → (k ≡ Let → ⊥) → (k ≡ Mut → ⊥) → (k ≡ Set → ⊥) → (k ≡ Using → ⊥) → (k ≡ If → ⊥) → Way m.term p.words.now p.at (m.plain ∷ []) p.at
plain_headed p k e a b c d f = w.plain_only p.words.now p.at p.within (not_headed k Let _ e a) (not_headed k Mut _ e b) (not_headed k Set _ e c) (not_headed k Using _ e d) (not_headed k If _ e f)

pub plain_unheaded : (p : Cursor) → None ≡ kind_of (rest p) → Way m.term p.words.now p.at (m.plain ∷ []) p.at
plain_unheaded p e = w.plain_only p.words.now p.at p.within (unheaded Let _ e) (unheaded Mut _ e) (unheaded Set _ e) (unheaded Using _ e) (unheaded If _ e)

-- after a comma
module _ (p q r : Cursor) (e : heads Comma (rest p) ≡ true) (s : Passed p q) where
  pub more_by : (t u : Tree) (i : Result ℕ Stop) → TermsRead q r t u i → MoreRead p r t u i
  more_by t u (Ok i) h =
      let o = takes p t (w.kind_word p.words.now m.more p.at Comma (m.terms ∷ []) e (λ x i. refl)) s in
      (ends (goes o h.0), omega (arith, h.1, s.at), (h.2.0, more_there (is_word Comma e s) h.2.1, h.2.2, grows_from r s h.0.grows), h.3)
  more_by t u (Err d) h = fails d (takes p t (w.kind_word p.words.now m.more p.at Comma (m.terms ∷ []) e (λ x i. refl)) s) h

  pub more_types_by : (t u : Tree) (i : Result ℕ Stop) → TypesRead q r t u i → MoreTypesRead p r t u i
  more_types_by t u (Ok i) h =
      let o = takes p t (w.kind_word p.words.now m.more_types p.at Comma (m.types ∷ []) e (λ x i. refl)) s in
      (ends (goes o h.0), omega (arith, h.1, s.at), (h.2.0, more_types_there (is_word Comma e s) h.2.1, h.2.2, grows_from r s h.0.grows), h.3)
  more_types_by t u (Err d) h = fails d (takes p t (w.kind_word p.words.now m.more_types p.at Comma (m.types ∷ []) e (λ x i. refl)) s) h

-- no more names
pub names_end_by : (p q : Cursor) (t : Tree) (r : Result (Unit {0}) Stop) → heads Comma (rest p) ≡ false → Expected Close p q r → MoreNamesRead p q t t r
names_end_by p q t (Ok i) e h = (ends (reads (starts p t (w.names_close p.words.now p.at p.within e)) h.0 h.1), omega (arith, h.0.at), ([], names_none h.2, no_names_at), quiet_all t)
names_end_by p q t (Err i) e h = misses i (starts p t (w.names_close p.words.now p.at p.within e)) h

-- a comma, a name, and more names
module _ (p q : Cursor) (t : Tree) (e : heads Comma (rest p) ≡ true) (s : Passed p q) where
  pub names_path : Path m.names p (m.a_name ∷ m.names ∷ []) q t t (p.at + 1)
  names_path = takes p t (w.kind_word p.words.now m.names p.at Comma (m.a_name ∷ m.names ∷ []) e (λ x i. refl)) s

  pub names_next_by : (r z : Cursor) (u v : Tree) (i : Result (Unit {0}) Stop) → NameRead q r t u (Ok tt) → MoreNamesRead r z u v i → MoreNamesRead p z t v i
  names_next_by r z u v (Ok i) a h =
      let o = goes (goes names_path a.0) h.0 in
      (ends o, omega (arith, h.1, a.1, s.at), (a.2.0 ∷ h.2.0, names_next (is_word Comma e s) a.2.1 h.2.1, names_join h.0.grows.nodes.kept a.2.2 h.2.2), quiet_then a.3 h.3)
  names_next_by r z u v (Err i) a h = fails i (goes names_path a.0) h

-- after let, mut or set
pub bind_way : (ws : List Word) (at : ℕ) (b : binders.Binder) → heads (keyword b) (drop at ws) ≡ true → Way m.term ws at m.bound (at + 1)
bind_way ws at binders.TheVariants.Let h = w.kind_word ws m.term at Let m.bound h (λ x i. refl)
bind_way ws at binders.TheVariants.Mut h = w.kind_word ws m.term at Mut m.bound h (λ x i. refl)
bind_way ws at binders.TheVariants.Set h = w.kind_word ws m.term at Set m.bound h (λ x i. refl)

-- The tables of parts.
pub no_parts : {ns : List Node} {ps : List ℕ} (f e : ℕ) → f ≡ e → PartsAt ns ps (length ns) f e s.no_trees
no_parts {ns} {ps} f e q = subst (λ n. PartsAt ns ps (length ns) f n s.no_trees) q no_parts_at

pub more_parts : {ns : List Node} {ps : List ℕ} {b f e i : ℕ} {y : s.Tree} {ys : s.Trees} (n : ℕ) → At ps e i → Stands ns ps i y → b ≤ length ns → PartsAt ns ps b f e ys → n ≡ e + 1 → PartsAt ns ps (length ns) f n (s.◌∷ᵗ◌ y ys)
more_parts {ns} {ps} {f = f} {y = y} {ys = ys} n a h l k q = subst (λ e. PartsAt ns ps (length ns) f e (s.◌∷ᵗ◌ y ys)) (sym q) (parts_at a (within h) h (parts_wider (length ns) l k))

pub no_types : {ns : List Node} {ps : List ℕ} (f e : ℕ) → f ≡ e → TypesAt ns ps (length ns) f e s.no_types
no_types {ns} {ps} f e q = subst (λ n. TypesAt ns ps (length ns) f n s.no_types) q no_types_at

pub more_types : {ns : List Node} {ps : List ℕ} {b f e i : ℕ} {τ : s.Written} {τs : s.Writtens} (n : ℕ) → At ps e i → TypeAt ns ps i τ → b ≤ length ns → TypesAt ns ps b f e τs → n ≡ e + 1 → TypesAt ns ps (length ns) f n (s.◌∷ʷ◌ τ τs)
more_types {ns} {ps} {f = f} {τ = τ} {τs = τs} n a h l k q = subst (λ e. TypesAt ns ps (length ns) f e (s.◌∷ʷ◌ τ τs)) (sym q) (types_at a (type_within h) h (types_wider (length ns) l k))

-- The node k that is added stands after all others.
pub below : {a k n : ℕ} → k ≡ n → a < n → a < k
below {a} e l = subst (λ i. a < i) (sym e) l

pub parts_to : {ns : List Node} {ps : List ℕ} {f e k n : ℕ} {ys : s.Trees} → k ≡ n → PartsAt ns ps n f e ys → PartsAt ns ps k f e ys
parts_to {ns} {ps} {f} {e} {ys = ys} q h = subst (λ b. PartsAt ns ps b f e ys) (sym q) h

pub types_to : {ns : List Node} {ps : List ℕ} {f e k n : ℕ} {τs : s.Writtens} → k ≡ n → TypesAt ns ps n f e τs → TypesAt ns ps k f e τs
types_to {ns} {ps} {f} {e} {τs = τs} q h = subst (λ b. TypesAt ns ps b f e τs) (sym q) h

-- The names that a table of nodes ends with.
pub one_name_at : {ns : List Node} {l i e : ℕ} (n : Rattle.grammar.specs.declared.tree.Name.Name) (w : s.Identifier) → i ≡ l → e ≡ l + 1 → At ns i (Rattle.grammar.specs.Arena.node n.place (Rattle.grammar.specs.declared.tree.Construct.TheVariants.Named n)) → Rattle.grammar.specs.Arena.Spells n w → NamesAt ns l e (w ∷ [])
one_name_at {ns} n w a b h k = subst₂ (λ f o. NamesAt ns f o (w ∷ [])) a (ap (λ j. j + 1) a ∙ sym b) (Rattle.grammar.specs.Arena.names_at h k no_names_at)

pub names_between : {ns : List Node} {f e : ℕ} {us : List s.Identifier} (a b : ℕ) → a ≡ f → b ≡ e → NamesAt ns f e us → NamesAt ns a b us
names_between {ns} {us = us} a b p q h = subst₂ (λ f e. NamesAt ns f e us) (sym p) (sym q) h

-- the words that are types by themselves
pub unit_here : (p : Cursor) → Some kind.Unit ≡ kind_of (rest p) → BasicFound p (Some basics.Unit)
unit_here p e =
    let h = headed kind.Unit (rest p) e in
    let (l, x, i, d) = w.there p.words.now kind.Unit p.at h in
    (l, w.kind_word p.words.now m.a_type p.at kind.Unit [] h (λ x i. refl), unit_written (place_or 0 (rest p)) refl (x, i, d))

pub bit_here : (p : Cursor) → Some kind.Bit ≡ kind_of (rest p) → BasicFound p (Some basics.Bit)
bit_here p e =
    let h = headed kind.Bit (rest p) e in
    let (l, x, i, d) = w.there p.words.now kind.Bit p.at h in
    (l, w.kind_word p.words.now m.a_type p.at kind.Bit [] h (λ x i. refl), bit_written (place_or 0 (rest p)) refl (x, i, d))

pub int_here : (p : Cursor) → Some kind.Int ≡ kind_of (rest p) → BasicFound p (Some basics.Int)
int_here p e =
    let h = headed kind.Int (rest p) e in
    let (l, x, i, d) = w.there p.words.now kind.Int p.at h in
    (l, w.kind_word p.words.now m.a_type p.at kind.Int [] h (λ x i. refl), int_written (place_or 0 (rest p)) refl (x, i, d))

pub qbit_here : (p : Cursor) → Some kind.Qbit ≡ kind_of (rest p) → BasicFound p (Some basics.Qbit)
qbit_here p e =
    let h = headed kind.Qbit (rest p) e in
    let (l, x, i, d) = w.there p.words.now kind.Qbit p.at h in
    (l, w.kind_word p.words.now m.a_type p.at kind.Qbit [] h (λ x i. refl), qbit_written (place_or 0 (rest p)) refl (x, i, d))
