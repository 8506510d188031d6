-- How the reading of a thing goes on: words read, and tables that grow.
use Rattle.std.proofs.Common.{◌≡◌, ℕ, ◌+◌, ◌<◌, ◌≤◌, List, [], ◌∷◌, ◌++◌, length, IsErrAnd, Ok, Err, vec_items, Result, Vec, sym, refl, ap, ◌∙◌, subst, arith}
use Rattle.std.specs.declared.alloc.Global.{Global}
use Rattle.words.specs.declared.token.Word.{Word}
use Rattle.syntax.specs.Machine.{Want, Way, Stops}
use Rattle.syntax.proofs.Ways.{through, on, stops}
use Rattle.grammar.specs.declared.tree.Tree.{Tree}
use Rattle.grammar.specs.declared.parse.Cursor.{Cursor}
use Rattle.grammar.specs.declared.parse.Stop.{Stop}
use Rattle.grammar.specs.declared.parse.Stop.TheVariants as stop
use Rattle.grammar.specs.Parsing.{Kept, Grew, Grows, Spare, Room}
use Rattle.grammar.specs.Reading.{Quiet, Progress, Passed, Halts, Misses, Lacks}

pub kept_then : {X : Type 0} {xs ys zs : List X} → Kept xs ys → Kept ys zs → Kept xs zs
kept_then a b = record { longer = omega (arith, a.longer, b.longer); same = λ i d l. b.same i d (omega (arith, a.longer)) ∙ a.same i d l }

pub kept_all : {X : Type 0} (xs : List X) → Kept xs xs
kept_all xs = record { longer = omega arith; same = λ i d l. refl }

pub grew_none : {X : Type 0} (v : Vec X Global) (i j : ℕ) → i ≤ j → Grew v v i j
grew_none v i j l = record { kept = kept_all (vec_items v); few = omega arith; room = omega arith }

pub grew_then : {X : Type 0} {u v w : Vec X Global} {i j k l : ℕ} → Grew u v i j → Grew v w k l → (a b : ℕ) → j + l + a ≤ b + i + k → Grew u w a b
grew_then g h a b e = record { kept = kept_then g.kept h.kept; few = omega (arith, g.few, h.few, e); room = omega (arith, g.room, h.room) }

spare_after : {X : Type 0} {v w : Vec X Global} {i j : ℕ} → Grew v w i j → (k l a b : ℕ) → j + l + a ≤ b + i + k → Spare v a b → Spare w k l
spare_after g k l a b e h = omega (arith, g.few, g.room, e, h)

pub grows_none : (t : Tree) (i j : ℕ) → i ≤ j → Grows t t i j
grows_none t i j l = record { nodes = grew_none t.nodes i j l; parts = grew_none t.parts i j l; parameters = grew_none t.parameters i j l; operations = grew_none t.operations i j l }

pub grows_then : {t u v : Tree} {i j k l : ℕ} → Grows t u i j → Grows u v k l → (a b : ℕ) → j + l + a ≤ b + i + k → Grows t v a b
grows_then g h a b e = record {
  nodes = grew_then g.nodes h.nodes a b e;
  parts = grew_then g.parts h.parts a b e;
  parameters = grew_then g.parameters h.parameters a b e;
  operations = grew_then g.operations h.operations a b e;
}

room_after : {t u : Tree} {i j : ℕ} → Grows t u i j → (k l a b : ℕ) → j + l + a ≤ b + i + k → Room t a b → Room u k l
room_after g k l a b e h = record {
  nodes = spare_after g.nodes k l a b e h.nodes;
  parts = spare_after g.parts k l a b e h.parts;
  parameters = spare_after g.parameters k l a b e h.parameters;
  operations = spare_after g.operations k l a b e h.operations;
}

-- The words of a parser stay; what is wanted there is wanted of the same words.
pub same_words : {y : Want} {ws vs : List Word} {i j : ℕ} {zs : List Want} → ws ≡ vs → Way y ws i zs j → Way y vs i zs j
same_words {y} {i = i} {j = j} {zs = zs} e w = subst (λ ws. Way y ws i zs j) e w

-- As Progress, where the things ys are still wanted, and the tables have grown by no more than the words from b on.
pub record Path (x : Want) (p : Cursor) (ys : List Want) (q : Cursor) (t u : Tree) (b : ℕ) : Type 0 where
  pub words : q.words.now ≡ p.words.now
  pub way : Way x p.words.now p.at ys q.at
  pub base : p.at ≤ b
  pub grows : Grows t u b q.at

-- no word was passed
pub starts : {x : Want} {ys : List Want} (p : Cursor) (t : Tree) → Way x p.words.now p.at ys p.at → Path x p ys p t t p.at
starts p t w = record { words = refl; way = w; base = omega arith; grows = grows_none t p.at p.at (omega arith) }

-- the first word was passed
pub takes : {x : Want} {q : Cursor} {ys : List Want} (p : Cursor) (t : Tree) → Way x p.words.now p.at ys (p.at + 1) → Passed p q → Path x p ys q t t (p.at + 1)
takes {x} {q} {ys} p t w h = record { words = h.words; way = subst (Way x p.words.now p.at ys) (sym h.at) w; base = omega arith; grows = grows_none t (p.at + 1) q.at (omega (arith, h.at)) }

-- a function read the next thing wanted
pub goes : {x y : Want} {p q r : Cursor} {b : ℕ} {ys : List Want} {t u v : Tree} → Path x p (y ∷ ys) q t u b → Progress y q r u v → Path x p ys r t v b
goes {r = r} {b = b} o h = record { words = h.words ∙ o.words; way = on o.way (same_words o.words h.way); base = o.base; grows = grows_then o.grows h.grows b r.at (omega arith) }

-- a word was passed where other things are then wanted, and no table grew
pub passes : {x y : Want} {p q r : Cursor} {b : ℕ} {ys : List Want} {t u : Tree} (zs : List Want) → Path x p (y ∷ ys) q t u b → Way y q.words.now q.at zs (q.at + 1) → Passed q r → Path x p (zs ++ ys) r t u (b + 1)
passes {y = y} {p} {q} {r} {b} {u = u} zs o w h = record {
  words = h.words ∙ o.words;
  way = through zs o.way (same_words o.words (subst (Way y q.words.now q.at zs) (sym h.at) w));
  base = omega (arith, o.base);
  grows = grows_then o.grows (grows_none u 0 0 (omega arith)) (b + 1) r.at (omega (arith, h.at));
}

-- the next thing wanted was one word
pub reads : {x y : Want} {p q r : Cursor} {b : ℕ} {ys : List Want} {t u : Tree} → Path x p (y ∷ ys) q t u b → Passed q r → Way y q.words.now q.at [] r.at → Path x p ys r t u (b + 1)
reads {y = y} {q = q} o h w = passes [] o (subst (Way y q.words.now q.at []) h.at w) h

-- what is wanted next is wanted in other words
pub turns : {x y : Want} {p q : Cursor} {b : ℕ} {ys : List Want} {t u : Tree} (zs : List Want) → Path x p (y ∷ ys) q t u b → Way y q.words.now q.at zs q.at → Path x p (zs ++ ys) q t u b
turns zs o w = record { words = o.words; way = through zs o.way (same_words o.words w); base = o.base; grows = o.grows }

-- a table grew by an entry
pub adds : {x : Want} {p q : Cursor} {b : ℕ} {ys : List Want} {t u v : Tree} (a : ℕ) → Path x p ys q t u b → Grows u v 0 1 → p.at ≤ a → a < b → Path x p ys q t v a
adds {q = q} a o g l h = record { words = o.words; way = o.way; base = l; grows = grows_then o.grows g a q.at (omega (arith, h)) }

pub base_le : {x : Want} {p q : Cursor} {b : ℕ} {ys : List Want} {t u : Tree} → Path x p ys q t u b → b ≤ q.at
base_le o = omega (arith, o.grows.nodes.few, o.grows.nodes.kept.longer)

pub ends : {x : Want} {p q : Cursor} {b : ℕ} {t u : Tree} → Path x p [] q t u b → Progress x p q t u
ends {p = p} {q = q} {u = u} o = record { words = o.words; way = o.way; grows = grows_then o.grows (grows_none u 0 0 (omega arith)) p.at q.at (omega (arith, o.base)) }

-- Why a function stopped that its caller hands on.
stops_there : {y : Want} {ws vs : List Word} {i j : ℕ} → ws ≡ vs → Stops y ws i j → Stops y vs i j
stops_there {y} {i = i} {j = j} e w = subst (λ ws. Stops y ws i j) e w

pub fails : {x y : Want} {p q : Cursor} {b : ℕ} {ys : List Want} {t u : Tree} (e : Stop) → Path x p (y ∷ ys) q t u b → Halts y q u e → Halts x p t e
fails (stop.At j) o h = stops o.way (stops_there o.words h)
fails {p = p} {q} stop.Memory o h = λ r. h (room_after o.grows q.at (length q.words.now) p.at (length p.words.now) (omega (arith, o.base, ap length o.words)) r)

pub misses : {x y : Want} {p q : Cursor} {b : ℕ} {ys : List Want} {t u : Tree} (e : Stop) → Path x p (y ∷ ys) q t u b → Misses y q e → Halts x p t e
misses (stop.At j) o h = stops o.way (stops_there o.words h)
misses stop.Memory o h = absurd h

-- no table has room for one more entry
lacks_room : {x : Want} {p q : Cursor} {b : ℕ} {ys : List Want} {t u : Tree} → Path x p ys q t u b → p.at < b → Room t p.at (length p.words.now) → Room u 0 1
lacks_room {p = p} o l r = room_after o.grows 0 1 p.at (length p.words.now) (omega (arith, l, o.way.within)) r

pub lacks : {x : Want} {p q : Cursor} {b : ℕ} {ys : List Want} {t u : Tree} (e : Stop) → Path x p ys q t u b → p.at < b → Lacks u.nodes e → Halts x p t e
lacks (stop.At j) o l h = absurd h
lacks stop.Memory o l h = λ r. h (lacks_room o l r).nodes

pub lacks_parameters : {x : Want} {p q : Cursor} {b : ℕ} {ys : List Want} {t u : Tree} (e : Stop) → Path x p ys q t u b → p.at < b → Lacks u.parameters e → Halts x p t e
lacks_parameters (stop.At j) o l h = absurd h
lacks_parameters stop.Memory o l h = λ r. h (lacks_room o l r).parameters

pub lacks_operations : {x : Want} {p q : Cursor} {b : ℕ} {ys : List Want} {t u : Tree} (e : Stop) → Path x p ys q t u b → p.at < b → Lacks u.operations e → Halts x p t e
lacks_operations (stop.At j) o l h = absurd h
lacks_operations stop.Memory o l h = λ r. h (lacks_room o l r).operations

-- the exit of a `?`
pub by : {V : Type 0} (A : Result V Stop → Type 0) (e : Stop) → A (Err e) → (r : Result V Stop) → IsErrAnd r (λ q. q ≡ e) → A r
by A e h (Ok v) b = absurd b
by A e h (Err q) b = subst (λ f. A (Err f)) (sym b) h

-- What stays, stays.
pub quiet_all : (t : Tree) → Quiet t t
quiet_all t = record { parameters = refl; operations = refl }

pub quiet_then : {t u v : Tree} → Quiet t u → Quiet u v → Quiet t v
quiet_then a b = record { parameters = b.parameters ∙ a.parameters; operations = b.operations ∙ a.operations }
