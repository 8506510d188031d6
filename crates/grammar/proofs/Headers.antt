-- The exits of the functions that read parameters, operations and listings.
use Rattle.std.proofs.Common.{◌≡◌, ℕ, ◌+◌, ◌<◌, ◌≤◌, true, false, List, [], ◌∷◌, map, length, get_or, drop, Ok, Err, vec_items, vec_capacity, Result, Vec, sym, refl, ap, ◌∙◌, subst, subst₂, arith}
use Rattle.std.specs.declared.alloc.Global.{Global}
use Rattle.std.proofs.lemmas.List.{drop_all}
use Rattle.words.specs.declared.token.Kind.TheVariants.{Close, Colon, Comma, Op, Run}
use Rattle.words.specs.declared.token.Word.{Word}
use Rattle.syntax.specs.Trees as s
use Rattle.syntax.specs.Grammar as g
use Rattle.syntax.specs.Machine as m
use Rattle.syntax.specs.Machine.{Want, heads, Way, Stops}
use Rattle.syntax.proofs.Ways as w
use Rattle.syntax.proofs.Unique.{one_tree}
use Rattle.grammar.specs.declared.tree.Name as names
use Rattle.grammar.specs.declared.tree.Construct as constructs
use Rattle.grammar.specs.declared.tree.Parameter as parameters
use Rattle.grammar.specs.declared.tree.Operation as operations
use Rattle.grammar.specs.declared.tree.Tree.{Tree}
use Rattle.grammar.specs.declared.parse.GrammarFault.{GrammarFault}
use Rattle.grammar.specs.declared.parse.Cursor.{Cursor}
use Rattle.grammar.specs.declared.parse.Stop.{Stop}
use Rattle.grammar.specs.declared.parse.Stop.TheVariants as stop
use Rattle.grammar.specs.Arena.{Node, At, node, Spells, NamesAt, no_names_at, names_at, TypeAt, ParametersAt, no_parameters_at, parameters_at, OperationAt, OperationsAt, no_operations_at, operations_at}
use Rattle.grammar.specs.Parsing.{Kept, Grew, Grows, Room, Parsed, nodes_of, parts_of, parameters_of, operations_of, place_or, fault_of}
use Rattle.grammar.specs.Reading.{TermRead, SignatureRead, Halts, Lacks, Expected, Few, Added, ParametersNamed, ParameterRead, MoreParametersRead, ParametersAreRead, OperationRead, OperationAdded, ParameterAdded, IsName, IsWord, TypeRead, ListingRead, rest, Passed}
use Rattle.grammar.proofs.Growth.{Path, starts, takes, goes, reads, adds, base_le, ends, fails, misses, lacks_parameters, lacks_operations, grew_none, grew_then, kept_all, kept_then, grows_none, grows_then}
use Rattle.grammar.proofs.Arenas.{parameters_kept, at_kept, parameters_join, operations_join, still_type}
use Rattle.grammar.proofs.Productions.{running, giving, no_more_parameters, more_parameters_there, no_parameters_there}
use Rattle.grammar.proofs.Exits.{is_word}

-- as many entries
pub same_size : {X : Type 0} {v w : Vec X Global} → v ≡ w → length (vec_items v) ≡ length (vec_items w)
same_size e = ap (λ v. length (vec_items v)) e

pub one_parameter_at : {ns : List Node} {ps : List ℕ} {xs : List parameters.Parameter} {l e : ℕ} (i a : ℕ) (n : names.Name) (d : s.Parameter) → At xs i (record { name = n; written = a }) → Spells n d.name → TypeAt ns ps a d.written → i ≡ l → e ≡ i + 1 → ParametersAt ns ps xs l e (d ∷ [])
one_parameter_at {ns} {ps} {xs} i a n d h k t p q = subst₂ (λ f o. ParametersAt ns ps xs f o (d ∷ [])) p (sym q) (parameters_at h k t no_parameters_at)

pub parameters_end_by : (p q : Cursor) (t : Tree) (r : Result (Unit {0}) Stop) → heads Comma (rest p) ≡ false → Expected Close p q r → MoreParametersRead p q t t r
parameters_end_by p q t (Ok i) e h = (ends (reads (starts p t (w.parameters_close p.words.now p.at p.within e)) h.0 h.1), omega (arith, h.0.at), ([], no_more_parameters h.2, no_parameters_at, omega (arith, h.0.at)), refl)
parameters_end_by p q t (Err i) e h = misses i (starts p t (w.parameters_close p.words.now p.at p.within e)) h

module _ (p q : Cursor) (t : Tree) (e : heads Comma (rest p) ≡ true) (s : Passed p q) where
  pub parameters_path : Path m.more_parameters p (m.parameter ∷ m.more_parameters ∷ []) q t t (p.at + 1)
  parameters_path = takes p t (w.kind_word p.words.now m.more_parameters p.at Comma (m.parameter ∷ m.more_parameters ∷ []) e (λ x i. refl)) s

  pub parameters_next_by : (r z : Cursor) (u v : Tree) (i : Result (Unit {0}) Stop) → ParameterRead q r t u (Ok tt) → MoreParametersRead r z u v i → MoreParametersRead p z t v i
  parameters_next_by r z u v (Ok i) a h =
      let o = h.0.grows in
      (ends (goes (goes parameters_path a.0) h.0), omega (arith, h.1, a.1, s.at), (a.2.0 ∷ h.2.0, more_parameters_there (is_word Comma e s) a.2.1 h.2.1, parameters_join o.nodes.kept o.parts.kept o.parameters.kept a.2.2 h.2.2, omega (arith, a.2.3, h.2.3, s.at)), h.3 ∙ a.3)
  parameters_next_by r z u v (Err i) a h = fails i (goes parameters_path a.0) h

pub parameters_none : (p q : Cursor) (t : Tree) → heads Close (rest p) ≡ true → Passed p q → ParametersAreRead p q t t (Ok tt)
parameters_none p q t e s = (ends (takes p t (w.kind_word p.words.now m.parameters p.at Close [] e (λ x i. refl)) s), omega (arith, s.at), ([], no_parameters_there (is_word Close e s), no_parameters_at, omega (arith, s.at)), refl)

module _ (p : Cursor) (t : Tree) (e : heads Close (rest p) ≡ false) where
  pub some_path : Path m.parameters p (m.parameter ∷ m.more_parameters ∷ []) p t t p.at
  some_path = starts p t (w.some_parameters p.words.now p.at p.within e)

  pub some_by : (q z : Cursor) (u v : Tree) (i : Result (Unit {0}) Stop) → ParameterRead p q t u (Ok tt) → MoreParametersRead q z u v i → ParametersAreRead p z t v i
  some_by q z u v (Ok i) a h =
      let o = h.0.grows in
      (ends (goes (goes some_path a.0) h.0), omega (arith, h.1, a.1), (a.2.0 ∷ h.2.0, g.some_parameters a.2.1 h.2.1, parameters_join o.nodes.kept o.parts.kept o.parameters.kept a.2.2 h.2.2, omega (arith, a.2.3, h.2.3)), h.3 ∙ a.3)
  some_by q z u v (Err i) a h = fails i (goes some_path a.0) h

-- The nodes of the names of parameters.
parameters_le : {ns : List Node} {ps : List ℕ} {xs : List parameters.Parameter} {i e : ℕ} {ds : List s.Parameter} → ParametersAt ns ps xs i e ds → i ≤ e
parameters_le no_parameters_at = omega arith
parameters_le (parameters_at h k t r) = omega (arith, parameters_le r)

abbrev names_of : List s.Parameter → List s.Identifier
names_of ds = map (λ d. d.name) ds

none_named : {ns ms : List Node} {ps : List ℕ} {xs : List parameters.Parameter} {i e l : ℕ} {ds : List s.Parameter} → ParametersAt ns ps xs i e ds → e ≤ i → NamesAt ms l l (names_of ds)
none_named no_parameters_at q = no_names_at
none_named (parameters_at h k t r) q = absurd (omega (arith, parameters_le r, q))

one_named : {ns ms : List Node} {ps : List ℕ} {xs : List parameters.Parameter} {i e o : ℕ} {ds : List s.Parameter} (l : ℕ) (n : names.Name) (c : parameters.Parameter) → ParametersAt ns ps xs i e ds → i < e → (get_or xs i c).name ≡ n → At ms l (node n.place (constructs.TheVariants.Named n)) → ((es : List s.Parameter) → ParametersAt ns ps xs (i + 1) e es → NamesAt ms (l + 1) o (names_of es)) → NamesAt ms l o (names_of ds)
one_named l n c no_parameters_at q f a h = absurd (omega (arith, q))
one_named l n c (parameters_at {n = k} {d = d} {ds = ds} p sp t r) q f a h =
    let same : n ≡ k = sym f ∙ ap (λ x. x.name) (p.1 c) in
    names_at a (subst (λ x. Spells x d.name) (sym same) sp) (h ds r)

pub all_named : (at : ℕ) (t : Tree) → length (parameters_of t) ≤ at → at ≤ length (parameters_of t) → ParametersNamed at t t (Ok tt)
all_named at t l k = (grew_none t.nodes at (length (parameters_of t)) k, refl, refl, refl, λ ns ps ds h. none_named h l)

module _ (at : ℕ) (t u : Tree) (l : at < length (parameters_of t)) where
  pub not_named : (e : Stop) → Lacks t.nodes e → ParametersNamed at t u (Err e)
  not_named (stop.At p) h = absurd h
  not_named stop.Memory h = λ k. h (omega (arith, k, l))

  pub next_named : (n : names.Name) (c : parameters.Parameter) (i : ℕ) (v : Tree) (r : Result (Unit {0}) Stop) → (get_or (parameters_of t) at c).name ≡ n → Added (node n.place (constructs.TheVariants.Named n)) t u (Ok i) → ParametersNamed (at + 1) u v r → ParametersNamed at t v r
  next_named n c i v (Ok _) f a h =
      let size = same_size a.5 in (
        grew_then a.0.nodes h.0 at (length (parameters_of t)) (omega (arith, size)),
        h.1 ∙ a.4,
        h.2 ∙ a.5,
        h.3 ∙ a.6,
        λ ns ps ds k. one_named (length (nodes_of t)) n c k l f (at_kept h.0.kept (subst (λ j. At (nodes_of u) j (node n.place (constructs.TheVariants.Named n))) a.1 a.3))
            (λ es p. subst (λ j. NamesAt (nodes_of v) j (length (nodes_of v)) (names_of es)) a.2 (h.4 ns ps es (subst₂ (λ xs j. ParametersAt ns ps xs (at + 1) j es) (sym (ap vec_items a.5)) (sym size) p))),
      )
  next_named n c i v (Err (stop.At p)) f a h = absurd h
  next_named n c i v (Err stop.Memory) f a h = λ k. h (omega (arith, k, same_size a.5, a.0.nodes.few, a.0.nodes.room))

-- The parameters and the nodes of their names together.
module _ (p q : Cursor) {t u : Tree} (o : Grows t u p.at q.at) (few : Few t u p.at q.at) where
  pub signature_grows : {v : Tree} → Grew u.nodes v.nodes (length (parameters_of t)) (length (parameters_of u)) → v.parts ≡ u.parts → v.parameters ≡ u.parameters → v.operations ≡ u.operations → Grows t v p.at q.at
  signature_grows {v} h a b d = record {
    nodes = record { kept = kept_then o.nodes.kept h.kept; few = omega (arith, few, h.few); room = omega (arith, o.nodes.room, h.room) };
    parts = subst (λ w. Grew t.parts w p.at q.at) (sym a) o.parts;
    parameters = subst (λ w. Grew t.parameters w p.at q.at) (sym b) o.parameters;
    operations = subst (λ w. Grew t.operations w p.at q.at) (sym d) o.operations;
  }

pub still_parameters : {t u : Tree} {i j a b : ℕ} {ds : List s.Parameter} → Grows t u i j → ParametersAt (nodes_of t) (parts_of t) (parameters_of t) a b ds → ParametersAt (nodes_of u) (parts_of u) (parameters_of u) a b ds
still_parameters g h = parameters_kept g.nodes.kept g.parts.kept g.parameters.kept h

-- The operations.
pub one_operation_at : {ns : List Node} {ps : List ℕ} {xs : List parameters.Parameter} {os : List operations.Operation} {l e : ℕ} (i : ℕ) (o : operations.Operation) (w : s.Operation) → At os i o → OperationAt ns ps xs o w → i ≡ l → e ≡ i + 1 → OperationsAt ns ps xs os l e (w ∷ [])
one_operation_at {ns} {ps} {xs} {os} i o w h k p q = subst₂ (λ f n. OperationsAt ns ps xs os f n (w ∷ [])) p (sym q) (operations_at h k no_operations_at)

pub no_operations : {ns : List Node} {ps : List ℕ} {xs : List parameters.Parameter} {os : List operations.Operation} (a b : ℕ) → a ≡ b → OperationsAt ns ps xs os a b []
no_operations {ns} {ps} {xs} {os} a b e = subst (λ n. OperationsAt ns ps xs os a n []) e no_operations_at

module _ (p : Cursor) (t : Tree) (e : heads Op (rest p) ≡ true) where
  pub listing_path : Path m.listing p (m.operation ∷ m.listing ∷ []) p t t p.at
  listing_path = starts p t (w.an_operation p.words.now p.at p.within (w.not_both p.words.now Op Run p.at refl e))

  pub listing_by : (q z : Cursor) (u v : Tree) (i : Result (Unit {0}) Stop) → OperationRead p q t u (Ok tt) → ListingRead q z u v i → ListingRead p z t v i
  listing_by q z u v (Ok i) a h =
      let o = h.0.grows in
      let k = h.2.0 in
      (ends (goes (goes listing_path a.0) h.0), omega (arith, h.1, a.1), (record { operations = a.2.0 ∷ k.operations; run_place = k.run_place; main = k.main }, g.operation_first a.2.1 h.2.1, (operations_join o.nodes.kept o.parts.kept o.parameters.kept o.operations.kept a.2.2 h.2.2.0, h.2.2.1, h.2.2.2)), tt)
  listing_by q z u v (Err i) a h = fails i (goes listing_path a.0) h

-- The operation was added.
pub operation_done : {p q : Cursor} {b : ℕ} {u : Tree} {e : operations.Operation} (t v : Tree) (r : Result (Unit {0}) Stop) (o : s.Operation) → Path m.operation p [] q t u b → p.at < b → g.Declares (rest p) o (rest q) → ((v : Tree) → Grows u v 0 1 → OperationAt (nodes_of v) (parts_of v) (parameters_of v) e o) → length (operations_of u) ≡ length (operations_of t) → OperationAdded e u v r → OperationRead p q t v r
operation_done {p} t v (Ok i) o a l d f n h = (ends (adds p.at a h.0 (omega arith) l), omega (arith, l, base_le a), (o, d, one_operation_at _ _ o h.2 (f v h.0) n h.1), tt)
operation_done t v (Err i) o a l d f n h = lacks_operations i a l h

-- The parameter was added.
pub parameter_done : {p q : Cursor} {b a : ℕ} {u : Tree} {A : List Word} {n : names.Name} (o : Cursor) (t v : Tree) (r : Result (Unit {0}) Stop) (i : s.Identifier) → Path m.parameter p [] q t u b → p.at < b → p.at < o.at → IsName (rest p) i A → Spells n i → IsWord Colon A (rest o) → TypeRead o q t u (Ok a) → ParameterAdded n a u v r → ParameterRead p q t v r
parameter_done {p} {n = n} o t v (Ok x) i path l k c d e f h =
    let size = same_size f.3.parameters in
    (ends (adds p.at path h.0 (omega arith) l), omega (arith, l, base_le path), (record { name = i; written = f.2.0 }, giving c e f.2.1, one_parameter_at _ _ n _ h.2 d (still_type h.0 f.2.2) size h.1, omega (arith, same_size h.3, h.1, size, f.0.grows.nodes.few, k)), h.5 ∙ f.3.operations)
parameter_done o t v (Err x) i path l k c d e f h = lacks_parameters x path l h

-- The whole listing, read by a cursor that began at the first of its words; z is the tree that the parser leaves.
module _ (ws : List Word) (n : ℕ) (p : Cursor) (t z : Tree) (e : p.words.now ≡ ws) (a : p.at ≡ 0) where
  pub whole : (q : Cursor) (u : Tree) → z ≡ u → length ws ≤ q.at → ListingRead p q t u (Ok tt) → Parsed ws n t z (Ok tt)
  whole q u s l h =
      let k = h.2.0 in
      let it : g.Listing ws k = subst₂ (λ v y. g.Lists v k.operations k.run_place k.main y) (ap (λ i. drop i p.words.now) a ∙ e) (ap (drop q.at) (h.0.words ∙ e) ∙ drop_all q.at ws l) h.2.1 in
      subst (λ y. Parsed ws n t y (Ok tt)) (sym s) (grows_then h.0.grows (grows_none u 0 0 (omega arith)) 0 (length ws) (omega (arith, h.0.way.within, ap length e, a)), (k, it, (λ j o. one_tree o it), h.2.2))

  pub not_whole : (d : Stop) (f : GrammarFault) → Halts m.listing p t d → f ≡ fault_of ws n d → Parsed ws n t z (Err f)
  not_whole d f h k = subst (λ y. Parsed ws n t z (Err y)) (sym k) (refused d h)
    where
      refused : (d : Stop) → Halts m.listing p t d → Parsed ws n t z (Err (fault_of ws n d))
      refused (stop.At i) h = (i, w.listing_stops ws (subst₂ (λ vs at. Stops m.listing vs at i) e a h), refl)
      refused stop.Memory h = subst₂ (λ at l. Room t at l → ⊥) a (ap length e) h

  -- more words stand after it
  pub goes_on : (q : Cursor) (u : Tree) (f : GrammarFault) → q.at < length ws → ListingRead p q t u (Ok tt) → f ≡ fault_of ws n (stop.At q.at) → Parsed ws n t z (Err f)
  goes_on q u f l h k = subst (λ y. Parsed ws n t z (Err y)) (sym k) (q.at, w.listing_ends ws (subst₂ (λ vs at. Way m.listing vs at [] q.at) e a h.0.way) l, refl)

kept_same : {X : Type 0} {v w : Vec X Global} → w ≡ v → Kept (vec_items v) (vec_items w)
kept_same {v = v} e = subst (λ w. Kept (vec_items v) (vec_items w)) (sym e) (kept_all (vec_items v))

pub signature_done : (p q : Cursor) (t u v : Tree) (f e a z : ℕ) → f ≡ length (parameters_of t) → e ≡ length (parameters_of u) → a ≡ length (nodes_of u) → z ≡ length (nodes_of v) → ParametersAreRead p q t u (Ok tt) → ParametersNamed f u v (Ok tt) → SignatureRead p q t v (Ok (record { parameters = record { first = f; end = e }; names = record { first = a; end = z } }))
signature_done p q t u v f e a z i j r o h k =
    let b = subst (λ n. ParametersNamed n u v (Ok tt)) i k in
    let ds = h.2.0 in
    let there : ParametersAt (nodes_of v) (parts_of v) (parameters_of v) (length (parameters_of t)) (length (parameters_of u)) ds = parameters_kept b.0.kept (kept_same b.1) (kept_same b.2) h.2.2 in (
      record { words = h.0.words; way = h.0.way; grows = signature_grows p q h.0.grows h.2.3 b.0 b.1 b.2 b.3 },
      h.1,
      (ds, h.2.1, subst₂ (λ x y. ParametersAt (nodes_of v) (parts_of v) (parameters_of v) x y ds) (sym i) (sym j) there, subst₂ (λ x y. NamesAt (nodes_of v) x y (names_of ds)) (sym r) (sym o) (b.4 (nodes_of u) (parts_of u) ds h.2.2)),
      b.3 ∙ h.3,
    )

-- the tree with the place of run and the node of its term
abbrev with_run : Tree → ℕ → ℕ → Tree
with_run u q n = record { nodes = u.nodes; parts = u.parts; parameters = u.parameters; operations = u.operations; run = q; term = n }

pub listing_done : (p q r : Cursor) (t u : Tree) (a n : ℕ) → heads Op (rest p) ≡ false → Expected Run p q (Ok tt) → TermRead q r t u (Ok n) → a ≡ place_or 0 (rest p) → ListingRead p r t (with_run u a n) (Ok tt)
listing_done p q r t u a n e h k d =
    let path = ends (goes (reads (starts p t (w.no_operation p.words.now p.at p.within e)) h.0 h.1) k.0) in
    let o = path.grows in (
      record { words = path.words; way = path.way; grows = record { nodes = o.nodes; parts = o.parts; parameters = o.parameters; operations = o.operations } },
      omega (arith, h.0.at, k.1),
      (record { operations = []; run_place = a; main = k.2.0 }, running a d h.2 k.2.1, (no_operations _ _ (sym (same_size k.3.operations)), refl, k.2.2)),
      tt,
    )

-- the tree with that table of nodes
abbrev pub with_nodes : Tree → Vec Node Global → Tree
with_nodes t w = record { nodes = w; parts = t.parts; parameters = t.parameters; operations = t.operations; run = t.run; term = t.term }

pub pushed : (t : Tree) (v w : Vec Node Global) (x : Node) → length (vec_items w) ≡ length (vec_items v) + 1 → vec_capacity v ≤ vec_capacity w → ((k : ℕ) (d : Node) → k < length (vec_items v) → get_or (vec_items w) k d ≡ get_or (vec_items v) k d) → ((d : Node) → get_or (vec_items w) (length (vec_items v)) d ≡ x) → Added x (with_nodes t v) (with_nodes t w) (Ok (length (vec_items v)))
pushed t v w x l c k h = (
  record {
    nodes = record { kept = record { longer = omega (arith, l); same = k }; few = omega (arith, l); room = c };
    parts = grew_none t.parts 0 1 (omega arith);
    parameters = grew_none t.parameters 0 1 (omega arith);
    operations = grew_none t.operations 0 1 (omega arith);
  },
  refl,
  l,
  (omega (arith, l), h),
  refl,
  refl,
  refl,
)
