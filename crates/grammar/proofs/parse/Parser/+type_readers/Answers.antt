use Rattle.std.proofs.Common.{◌+◌, sym, refl, ◌∙◌, subst, arith}
use Rattle.syntax.specs.Trees as s
use Rattle.syntax.specs.Grammar as g
use Rattle.syntax.proofs.Ways as w
use Rattle.grammar.specs.Arena as at
use Rattle.grammar.specs.Reading as reading
use Rattle.grammar.proofs.Growth.{starts, takes, goes, reads, adds, ends, fails, misses, by, base_le, grows_none, quiet_all, quiet_then}
use Rattle.grammar.proofs.Arenas.{still_type, still_types}
use Rattle.grammar.proofs.Productions as productions
use Rattle.grammar.proofs.Exits as x
use Rattle.grammar.proofs.Exits.{sized, is_word, finish, gains}
use Rattle.grammar.proofs.parse.Parser.+type_readers.Goals as goal

pub written_types-returns-in_err-part : goal.written_types-returns-in_err-part
written_types-returns-in_err-part t c =
    let p = c.args.self.now.cursor in
    (by (reading.TypesRead p _ c.args.self.now.tree.now _) c.in_err-part.field-0.0 (fails c.in_err-part.field-0.0 (starts p c.args.self.now.tree.now (w.some_types p.words.now p.at p.within)) c.in_err-part.ensures.0) c.from_residual.result c.from_residual.ensures.1, c.in_err-part.ensures.1)

pub written_types-returns-in_err-first : goal.written_types-returns-in_err-first
written_types-returns-in_err-first t c =
    let p = c.args.self.now.cursor in
    (by (reading.TypesRead p _ c.args.self.now.tree.now _) c.in_err-first.field-0.0 (fails c.in_err-first.field-0.0 (goes (starts p c.args.self.now.tree.now (w.some_types p.words.now p.at p.within)) c.in_ok-part.ensures.0.0) c.in_err-first.ensures.0) c.from_residual-in_err-first.result c.from_residual-in_err-first.ensures.1, c.in_err-first.ensures.1 ∙ c.in_ok-part.ensures.1)

pub written_types-returns : goal.written_types-returns
written_types-returns t c =
    let p = c.args.self.now.cursor in (
      let a = c.in_ok-part.ensures.0 in
          let b = c.in_ok-first.ensures.0 in
          let d = c.in_ok-add_part.ensures in
          let o = gains (goes (starts p c.args.self.now.tree.now (w.some_types p.words.now p.at p.within)) c.in_ok-part.ensures.0.0) c.in_ok-first.ensures.0.0 c.in_ok-first.ensures.0.2.3 in
          (ends (adds p.at o d.0 (omega arith) (omega arith)), omega (arith, base_le o), (s.◌∷ʷ◌ a.2.0 b.2.0, g.some_types a.2.1 b.2.1, x.more_types _ d.2 (still_type d.0 (still_type b.0.grows a.2.2)) d.0.nodes.kept.longer (still_types d.0 b.2.2) d.1), quiet_then a.3 (quiet_then b.3 (record { parameters = d.4; operations = d.5 }))),
      c.in_ok-first.ensures.1 ∙ c.in_ok-part.ensures.1,
    )

pub more_types-returns-then-holds : goal.more_types-returns-then-holds
more_types-returns-then-holds t c =
    let p = c.args.self.now.cursor in
    (x.more_types_by p c.advance.new.self c.written_types.new.self.cursor (sym c.if-holds.ensures) c.advance.ensures c.args.self.now.tree.now c.written_types.new.self.tree.now c.written_types.result c.written_types.ensures.0, c.written_types.ensures.1)

pub more_types-returns-in_err-expect : goal.more_types-returns-in_err-expect
more_types-returns-in_err-expect t c =
    let p = c.args.self.now.cursor in
    (by (reading.MoreTypesRead p _ c.args.self.now.tree.now _) c.in_err-expect.field-0.0 (misses c.in_err-expect.field-0.0 (starts p c.args.self.now.tree.now (w.types_close p.words.now p.at p.within (sym c.if-holds.ensures))) c.in_err-expect.ensures) c.from_residual.result c.from_residual.ensures.1, refl)

pub more_types-returns : goal.more_types-returns
more_types-returns t c =
    let p = c.args.self.now.cursor in (
      let a = c.in_ok-expect.ensures in
          (ends (reads (starts p c.args.self.now.tree.now (w.types_close p.words.now p.at p.within (sym c.if-holds.ensures))) c.in_ok-expect.ensures.0 c.in_ok-expect.ensures.1), omega (arith, a.0.at), (s.no_types, productions.no_more_types a.2, x.no_types _ _ (c.len.ensures ∙ sized c.args.self.now.tree.now.parts), grows_none c.args.self.now.tree.now (p.at + 1) c.expect.new.self.at (omega (arith, a.0.at))), quiet_all c.args.self.now.tree.now),
      refl,
    )

pub written_type-returns-in-Some : goal.written_type-returns-in-Some
written_type-returns-in-Some t c =
    let p = c.args.self.now.cursor in (
      let b = c.in-Some.ensures in
          finish g.Writes at.TypeAt _ c.add_node.result (takes p c.args.self.now.tree.now (c.in-Some.ensures.1) c.advance.ensures) (omega arith) (quiet_all c.args.self.now.tree.now) c.add_node.ensures
          (λ k q h o. (_, productions.basic_written _ c.place-place.result c.place-place.ensures (subst (g.Writes _ _) (sym (x.rest_after c.advance.ensures)) b.2), at.basic_at h)),
      refl,
    )

pub written_type-returns : goal.written_type-returns
written_type-returns t c =
    let p = c.args.self.now.cursor in (
      let a = c.in_ok-part.ensures.0 in
          let b = c.in_ok-first.ensures.0 in
          let d = c.in_ok-add_part.ensures in
          finish g.Writes at.TypeAt _ c.add_node-2.result (adds (p.at + 1) (goes (reads (goes (reads (starts p c.args.self.now.tree.now (c.in_default.ensures)) c.in_ok-expect.ensures.0 c.in_ok-expect.ensures.1) c.in_ok-part.ensures.0.0) c.in_ok-expect-2.ensures.0 c.in_ok-expect-2.ensures.1) c.in_ok-first.ensures.0.0) c.in_ok-add_part.ensures.0 (omega arith) (omega arith)) (omega arith) (quiet_then a.3 (quiet_then b.3 (record { parameters = d.4; operations = d.5 }))) c.add_node-2.ensures
          (λ k q h o. (_, productions.tupling_types c.place-place.result c.place-place.ensures c.in_ok-expect.ensures.2 a.2.1 c.in_ok-expect-2.ensures.2 b.2.1, at.tuple_type_at h (x.types_to q (still_types o (x.more_types _ d.2 (still_type d.0 (still_type b.0.grows a.2.2)) d.0.nodes.kept.longer (still_types d.0 b.2.2) (c.len-end.ensures ∙ sized c.add_part.new.self.parts ∙ d.1)))))),
      c.in_ok-first.ensures.1 ∙ c.in_ok-part.ensures.1,
    )
