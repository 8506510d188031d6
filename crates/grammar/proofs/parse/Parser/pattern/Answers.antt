use Rattle.std.proofs.Common.{[], ◌∷◌, sym, refl, ◌∙◌, arith}
use Rattle.words.specs.declared.token.Kind.TheVariants.{Open, Comma}
use Rattle.syntax.specs.Trees as s
use Rattle.syntax.specs.Machine as m
use Rattle.syntax.specs.Machine.{this}
use Rattle.syntax.proofs.Ways as w
use Rattle.grammar.specs.Reading as reading
use Rattle.grammar.proofs.Growth.{starts, takes, goes, reads, ends, fails, misses, by, base_le, quiet_then}
use Rattle.grammar.proofs.Arenas.{names_join}
use Rattle.grammar.proofs.Productions as productions
use Rattle.grammar.proofs.Exits as x
use Rattle.grammar.proofs.Exits.{sized, is_word, finish, gains}
use Rattle.grammar.proofs.parse.Parser.pattern.Goals as goal

pub returns-in_err-name : goal.returns-in_err-name
returns-in_err-name c =
    let p = c.args.self.now.cursor in
    (by (reading.PatternIsRead p _ c.args.self.now.tree.now _) c.in_err-name.field-0.0 (fails c.in_err-name.field-0.0 (starts p c.args.self.now.tree.now (w.one_name p.words.now p.at p.within (sym c.if-not-holds.ensures))) c.in_err-name.ensures.0) c.from_residual.result c.from_residual.ensures.1, c.in_err-name.ensures.1)

pub returns-then-not-holds : goal.returns-then-not-holds
returns-then-not-holds c =
    let p = c.args.self.now.cursor in (
      let a = c.in_ok-name.ensures.0 in
          (ends (goes (starts p c.args.self.now.tree.now (w.one_name p.words.now p.at p.within (sym c.if-not-holds.ensures))) c.in_ok-name.ensures.0.0), a.1, (s.one a.2.0, productions.one_bound a.2.1, x.names_between c.len-first.result c.len.result (c.len-first.ensures ∙ sized c.args.self.now.tree.now.nodes) (c.len.ensures ∙ sized c.name.new.self.tree.now.nodes) a.2.2), a.3),
      c.in_ok-name.ensures.1,
    )

pub returns-in_err-name-2 : goal.returns-in_err-name-2
returns-in_err-name-2 c =
    let p = c.args.self.now.cursor in
    (by (reading.PatternIsRead p _ c.args.self.now.tree.now _) c.in_err-name-2.field-0.0 (fails c.in_err-name-2.field-0.0 (takes p c.args.self.now.tree.now (w.kind_word p.words.now m.pattern p.at Open (m.a_name ∷ this Comma ∷ m.a_name ∷ m.names ∷ []) (sym c.if-not-holds.ensures) (λ x i. refl)) c.advance.ensures) c.in_err-name-2.ensures.0) c.from_residual-in_err-name-2.result c.from_residual-in_err-name-2.ensures.1, c.in_err-name-2.ensures.1)

pub returns-in_err-expect : goal.returns-in_err-expect
returns-in_err-expect c =
    let p = c.args.self.now.cursor in
    (by (reading.PatternIsRead p _ c.args.self.now.tree.now _) c.in_err-expect.field-0.0 (misses c.in_err-expect.field-0.0 (goes (takes p c.args.self.now.tree.now (w.kind_word p.words.now m.pattern p.at Open (m.a_name ∷ this Comma ∷ m.a_name ∷ m.names ∷ []) (sym c.if-not-holds.ensures) (λ x i. refl)) c.advance.ensures) c.in_ok-name-2.ensures.0.0) c.in_err-expect.ensures) c.from_residual-in_err-expect.result c.from_residual-in_err-expect.ensures.1, c.in_ok-name-2.ensures.1)

pub returns-in_err-name-3 : goal.returns-in_err-name-3
returns-in_err-name-3 c =
    let p = c.args.self.now.cursor in
    (by (reading.PatternIsRead p _ c.args.self.now.tree.now _) c.in_err-name-3.field-0.0 (fails c.in_err-name-3.field-0.0 (reads (goes (takes p c.args.self.now.tree.now (w.kind_word p.words.now m.pattern p.at Open (m.a_name ∷ this Comma ∷ m.a_name ∷ m.names ∷ []) (sym c.if-not-holds.ensures) (λ x i. refl)) c.advance.ensures) c.in_ok-name-2.ensures.0.0) c.in_ok-expect.ensures.0 c.in_ok-expect.ensures.1) c.in_err-name-3.ensures.0) c.from_residual-in_err-name-3.result c.from_residual-in_err-name-3.ensures.1, c.in_err-name-3.ensures.1 ∙ c.in_ok-name-2.ensures.1)

pub returns-in_err-more_names : goal.returns-in_err-more_names
returns-in_err-more_names c =
    let p = c.args.self.now.cursor in
    (by (reading.PatternIsRead p _ c.args.self.now.tree.now _) c.in_err-more_names.field-0.0 (fails c.in_err-more_names.field-0.0 (goes (reads (goes (takes p c.args.self.now.tree.now (w.kind_word p.words.now m.pattern p.at Open (m.a_name ∷ this Comma ∷ m.a_name ∷ m.names ∷ []) (sym c.if-not-holds.ensures) (λ x i. refl)) c.advance.ensures) c.in_ok-name-2.ensures.0.0) c.in_ok-expect.ensures.0 c.in_ok-expect.ensures.1) c.in_ok-name-3.ensures.0.0) c.in_err-more_names.ensures.0) c.from_residual-in_err-more_names.result c.from_residual-in_err-more_names.ensures.1, c.in_err-more_names.ensures.1 ∙ c.in_ok-name-3.ensures.1 ∙ c.in_ok-name-2.ensures.1)

pub returns : goal.returns
returns c =
    let p = c.args.self.now.cursor in (
      let a = c.in_ok-name-2.ensures.0 in
          let b = c.in_ok-name-3.ensures.0 in
          let d = c.in_ok-more_names.ensures.0 in
          let o = goes (goes (reads (goes (takes p c.args.self.now.tree.now (w.kind_word p.words.now m.pattern p.at Open (m.a_name ∷ this Comma ∷ m.a_name ∷ m.names ∷ []) (sym c.if-not-holds.ensures) (λ x i. refl)) c.advance.ensures) c.in_ok-name-2.ensures.0.0) c.in_ok-expect.ensures.0 c.in_ok-expect.ensures.1) c.in_ok-name-3.ensures.0.0) c.in_ok-more_names.ensures.0.0 in
          (ends o, omega (arith, base_le o), (s.several (a.2.0 ∷ b.2.0 ∷ d.2.0), productions.several_bound (is_word Open (sym c.if-not-holds.ensures) c.advance.ensures) a.2.1 c.in_ok-expect.ensures.2 b.2.1 d.2.1, x.names_between c.len-first.result c.len-2.result (c.len-first.ensures ∙ sized c.args.self.now.tree.now.nodes) (c.len-2.ensures ∙ sized c.more_names.new.self.tree.now.nodes) (names_join d.0.grows.nodes.kept (names_join b.0.grows.nodes.kept a.2.2 b.2.2) d.2.2)), quiet_then a.3 (quiet_then b.3 d.3)),
      c.in_ok-more_names.ensures.1 ∙ c.in_ok-name-3.ensures.1 ∙ c.in_ok-name-2.ensures.1,
    )
