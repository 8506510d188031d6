use Rattle.std.proofs.Common.{rules, ◌+◌, [], ◌∷◌, sym, refl, ap, ◌∙◌, arith, Some}
use Rattle.words.specs.declared.token.Kind.TheVariants.{Open, Close, Comma, Using, In, If, Then, Else, Meas}
use Rattle.words.specs.declared.token.Word.TheVariants as word
use Rattle.syntax.specs.Trees as s
use Rattle.syntax.specs.Grammar as g
use Rattle.syntax.specs.Machine as m
use Rattle.syntax.specs.Machine.{this, Way}
use Rattle.syntax.proofs.Ways as w
use Rattle.grammar.specs.Arena as at
use Rattle.grammar.specs.Reading as reading
use Rattle.grammar.proofs.Growth.{starts, takes, goes, passes, reads, turns, adds, ends, fails, misses, by, base_le, grows_none, quiet_all, quiet_then}
use Rattle.grammar.proofs.Arenas.{within, still, still_parts, still_names}
use Rattle.grammar.proofs.Productions as productions
use Rattle.grammar.proofs.Exits as x
use Rattle.grammar.proofs.Exits.{sized, is_word, finish, gains}
use Rattle.grammar.proofs.parse.Parser.+term_readers.Goals as goal
use Rattle.grammar.proofs.parse.Parser.+term_readers.Goals.{term-in-Some+in_default-kind, term-in_default}

pub bind_term-returns-in_err-names : goal.bind_term-returns-in_err-names
bind_term-returns-in_err-names t c =
    let p = c.args.self.now.cursor in
    (by (reading.TermRead p _ c.args.self.now.tree.now _) c.in_err-names.field-0.0 (fails c.in_err-names.field-0.0 (takes p c.args.self.now.tree.now (x.bind_way p.words.now p.at c.args.binder c.requires.begins) c.advance.ensures) c.in_err-names.ensures.0) c.from_residual.result c.from_residual.ensures.1, c.in_err-names.ensures.1)

pub bind_term-returns-in_err-expect : goal.bind_term-returns-in_err-expect
bind_term-returns-in_err-expect t c =
    let p = c.args.self.now.cursor in
    (by (reading.TermRead p _ c.args.self.now.tree.now _) c.in_err-expect.field-0.0 (misses c.in_err-expect.field-0.0 (goes (takes p c.args.self.now.tree.now (x.bind_way p.words.now p.at c.args.binder c.requires.begins) c.advance.ensures) c.in_ok-names.ensures.0.0) c.in_err-expect.ensures) c.from_residual-in_err-expect.result c.from_residual-in_err-expect.ensures.1, c.in_ok-names.ensures.1)

pub bind_term-returns-in_err-right : goal.bind_term-returns-in_err-right
bind_term-returns-in_err-right t c =
    let p = c.args.self.now.cursor in
    (by (reading.TermRead p _ c.args.self.now.tree.now _) c.in_err-right.field-0.0 (fails c.in_err-right.field-0.0 (reads (goes (takes p c.args.self.now.tree.now (x.bind_way p.words.now p.at c.args.binder c.requires.begins) c.advance.ensures) c.in_ok-names.ensures.0.0) c.in_ok-expect.ensures.0 c.in_ok-expect.ensures.1) c.in_err-right.ensures.0) c.from_residual-in_err-right.result c.from_residual-in_err-right.ensures.1, c.in_err-right.ensures.1 ∙ c.in_ok-names.ensures.1)

pub bind_term-returns-in_err-expect-2 : goal.bind_term-returns-in_err-expect-2
bind_term-returns-in_err-expect-2 t c =
    let p = c.args.self.now.cursor in
    (by (reading.TermRead p _ c.args.self.now.tree.now _) c.in_err-expect-2.field-0.0 (misses c.in_err-expect-2.field-0.0 (goes (reads (goes (takes p c.args.self.now.tree.now (x.bind_way p.words.now p.at c.args.binder c.requires.begins) c.advance.ensures) c.in_ok-names.ensures.0.0) c.in_ok-expect.ensures.0 c.in_ok-expect.ensures.1) c.in_ok-right.ensures.0.0) c.in_err-expect-2.ensures) c.from_residual-in_err-expect-2.result c.from_residual-in_err-expect-2.ensures.1, c.in_ok-right.ensures.1 ∙ c.in_ok-names.ensures.1)

pub bind_term-returns-in_err-body : goal.bind_term-returns-in_err-body
bind_term-returns-in_err-body t c =
    let p = c.args.self.now.cursor in
    (by (reading.TermRead p _ c.args.self.now.tree.now _) c.in_err-body.field-0.0 (fails c.in_err-body.field-0.0 (reads (goes (reads (goes (takes p c.args.self.now.tree.now (x.bind_way p.words.now p.at c.args.binder c.requires.begins) c.advance.ensures) c.in_ok-names.ensures.0.0) c.in_ok-expect.ensures.0 c.in_ok-expect.ensures.1) c.in_ok-right.ensures.0.0) c.in_ok-expect-2.ensures.0 c.in_ok-expect-2.ensures.1) c.in_err-body.ensures.0) c.from_residual-in_err-body.result c.from_residual-in_err-body.ensures.1, c.in_err-body.ensures.1 ∙ c.in_ok-right.ensures.1 ∙ c.in_ok-names.ensures.1)

pub bind_term-returns : goal.bind_term-returns
bind_term-returns t c =
    let p = c.args.self.now.cursor in (
      let a = c.in_ok-names.ensures.0 in
          let b = c.in_ok-right.ensures.0 in
          let d = c.in_ok-body.ensures.0 in
          finish g.Term at.Stands _ c.add_node.result (goes (reads (goes (reads (goes (takes p c.args.self.now.tree.now (x.bind_way p.words.now p.at c.args.binder c.requires.begins) c.advance.ensures) c.in_ok-names.ensures.0.0) c.in_ok-expect.ensures.0 c.in_ok-expect.ensures.1) c.in_ok-right.ensures.0.0) c.in_ok-expect-2.ensures.0 c.in_ok-expect-2.ensures.1) c.in_ok-body.ensures.0.0) (omega arith) (quiet_then a.3 (quiet_then b.3 d.3)) c.add_node.ensures
          (λ k q h o. (_, productions.binding c.args.binder c.place-place.result c.place-place.ensures (is_word _ c.requires.begins c.advance.ensures) a.2.1 c.in_ok-expect.ensures.2 b.2.1 c.in_ok-expect-2.ensures.2 d.2.1, at.bind_at h (still_names o (still_names d.0.grows (still_names b.0.grows a.2.2))) (x.below q (within (still d.0.grows b.2.2))) (still o (still d.0.grows b.2.2)) (x.below q (within d.2.2)) (still o d.2.2))),
      c.in_ok-body.ensures.1 ∙ c.in_ok-right.ensures.1 ∙ c.in_ok-names.ensures.1,
    )

pub using_term-returns-in_err-names : goal.using_term-returns-in_err-names
using_term-returns-in_err-names t c =
    let p = c.args.self.now.cursor in
    (by (reading.TermRead p _ c.args.self.now.tree.now _) c.in_err-names.field-0.0 (fails c.in_err-names.field-0.0 (takes p c.args.self.now.tree.now (w.kind_word p.words.now m.term p.at Using (m.pattern ∷ this In ∷ m.term ∷ []) c.requires.begins (λ x i. refl)) c.advance.ensures) c.in_err-names.ensures.0) c.from_residual.result c.from_residual.ensures.1, c.in_err-names.ensures.1)

pub using_term-returns-in_err-expect : goal.using_term-returns-in_err-expect
using_term-returns-in_err-expect t c =
    let p = c.args.self.now.cursor in
    (by (reading.TermRead p _ c.args.self.now.tree.now _) c.in_err-expect.field-0.0 (misses c.in_err-expect.field-0.0 (goes (takes p c.args.self.now.tree.now (w.kind_word p.words.now m.term p.at Using (m.pattern ∷ this In ∷ m.term ∷ []) c.requires.begins (λ x i. refl)) c.advance.ensures) c.in_ok-names.ensures.0.0) c.in_err-expect.ensures) c.from_residual-in_err-expect.result c.from_residual-in_err-expect.ensures.1, c.in_ok-names.ensures.1)

pub using_term-returns-in_err-body : goal.using_term-returns-in_err-body
using_term-returns-in_err-body t c =
    let p = c.args.self.now.cursor in
    (by (reading.TermRead p _ c.args.self.now.tree.now _) c.in_err-body.field-0.0 (fails c.in_err-body.field-0.0 (reads (goes (takes p c.args.self.now.tree.now (w.kind_word p.words.now m.term p.at Using (m.pattern ∷ this In ∷ m.term ∷ []) c.requires.begins (λ x i. refl)) c.advance.ensures) c.in_ok-names.ensures.0.0) c.in_ok-expect.ensures.0 c.in_ok-expect.ensures.1) c.in_err-body.ensures.0) c.from_residual-in_err-body.result c.from_residual-in_err-body.ensures.1, c.in_err-body.ensures.1 ∙ c.in_ok-names.ensures.1)

pub using_term-returns : goal.using_term-returns
using_term-returns t c =
    let p = c.args.self.now.cursor in (
      let a = c.in_ok-names.ensures.0 in
          let d = c.in_ok-body.ensures.0 in
          finish g.Term at.Stands _ c.add_node.result (goes (reads (goes (takes p c.args.self.now.tree.now (w.kind_word p.words.now m.term p.at Using (m.pattern ∷ this In ∷ m.term ∷ []) c.requires.begins (λ x i. refl)) c.advance.ensures) c.in_ok-names.ensures.0.0) c.in_ok-expect.ensures.0 c.in_ok-expect.ensures.1) c.in_ok-body.ensures.0.0) (omega arith) (quiet_then a.3 d.3) c.add_node.ensures
          (λ k q h o. (_, productions.preparing c.place-place.result c.place-place.ensures (is_word _ c.requires.begins c.advance.ensures) a.2.1 c.in_ok-expect.ensures.2 d.2.1, at.using_at h (still_names o (still_names d.0.grows a.2.2)) (x.below q (within d.2.2)) (still o d.2.2))),
      c.in_ok-body.ensures.1 ∙ c.in_ok-names.ensures.1,
    )

pub if_term-returns-in_err-condition : goal.if_term-returns-in_err-condition
if_term-returns-in_err-condition t c =
    let p = c.args.self.now.cursor in
    (by (reading.TermRead p _ c.args.self.now.tree.now _) c.in_err-condition.field-0.0 (fails c.in_err-condition.field-0.0 (takes p c.args.self.now.tree.now (w.kind_word p.words.now m.term p.at If (m.term ∷ this Then ∷ m.term ∷ this Else ∷ m.term ∷ []) c.requires.begins (λ x i. refl)) c.advance.ensures) c.in_err-condition.ensures.0) c.from_residual.result c.from_residual.ensures.1, c.in_err-condition.ensures.1)

pub if_term-returns-in_err-expect : goal.if_term-returns-in_err-expect
if_term-returns-in_err-expect t c =
    let p = c.args.self.now.cursor in
    (by (reading.TermRead p _ c.args.self.now.tree.now _) c.in_err-expect.field-0.0 (misses c.in_err-expect.field-0.0 (goes (takes p c.args.self.now.tree.now (w.kind_word p.words.now m.term p.at If (m.term ∷ this Then ∷ m.term ∷ this Else ∷ m.term ∷ []) c.requires.begins (λ x i. refl)) c.advance.ensures) c.in_ok-condition.ensures.0.0) c.in_err-expect.ensures) c.from_residual-in_err-expect.result c.from_residual-in_err-expect.ensures.1, c.in_ok-condition.ensures.1)

pub if_term-returns-in_err-yes : goal.if_term-returns-in_err-yes
if_term-returns-in_err-yes t c =
    let p = c.args.self.now.cursor in
    (by (reading.TermRead p _ c.args.self.now.tree.now _) c.in_err-yes.field-0.0 (fails c.in_err-yes.field-0.0 (reads (goes (takes p c.args.self.now.tree.now (w.kind_word p.words.now m.term p.at If (m.term ∷ this Then ∷ m.term ∷ this Else ∷ m.term ∷ []) c.requires.begins (λ x i. refl)) c.advance.ensures) c.in_ok-condition.ensures.0.0) c.in_ok-expect.ensures.0 c.in_ok-expect.ensures.1) c.in_err-yes.ensures.0) c.from_residual-in_err-yes.result c.from_residual-in_err-yes.ensures.1, c.in_err-yes.ensures.1 ∙ c.in_ok-condition.ensures.1)

pub if_term-returns-in_err-expect-2 : goal.if_term-returns-in_err-expect-2
if_term-returns-in_err-expect-2 t c =
    let p = c.args.self.now.cursor in
    (by (reading.TermRead p _ c.args.self.now.tree.now _) c.in_err-expect-2.field-0.0 (misses c.in_err-expect-2.field-0.0 (goes (reads (goes (takes p c.args.self.now.tree.now (w.kind_word p.words.now m.term p.at If (m.term ∷ this Then ∷ m.term ∷ this Else ∷ m.term ∷ []) c.requires.begins (λ x i. refl)) c.advance.ensures) c.in_ok-condition.ensures.0.0) c.in_ok-expect.ensures.0 c.in_ok-expect.ensures.1) c.in_ok-yes.ensures.0.0) c.in_err-expect-2.ensures) c.from_residual-in_err-expect-2.result c.from_residual-in_err-expect-2.ensures.1, c.in_ok-yes.ensures.1 ∙ c.in_ok-condition.ensures.1)

pub if_term-returns-in_err-other : goal.if_term-returns-in_err-other
if_term-returns-in_err-other t c =
    let p = c.args.self.now.cursor in
    (by (reading.TermRead p _ c.args.self.now.tree.now _) c.in_err-other.field-0.0 (fails c.in_err-other.field-0.0 (reads (goes (reads (goes (takes p c.args.self.now.tree.now (w.kind_word p.words.now m.term p.at If (m.term ∷ this Then ∷ m.term ∷ this Else ∷ m.term ∷ []) c.requires.begins (λ x i. refl)) c.advance.ensures) c.in_ok-condition.ensures.0.0) c.in_ok-expect.ensures.0 c.in_ok-expect.ensures.1) c.in_ok-yes.ensures.0.0) c.in_ok-expect-2.ensures.0 c.in_ok-expect-2.ensures.1) c.in_err-other.ensures.0) c.from_residual-in_err-other.result c.from_residual-in_err-other.ensures.1, c.in_err-other.ensures.1 ∙ c.in_ok-yes.ensures.1 ∙ c.in_ok-condition.ensures.1)

pub if_term-returns : goal.if_term-returns
if_term-returns t c =
    let p = c.args.self.now.cursor in (
      let a = c.in_ok-condition.ensures.0 in
          let b = c.in_ok-yes.ensures.0 in
          let d = c.in_ok-other.ensures.0 in
          finish g.Term at.Stands _ c.add_node.result (goes (reads (goes (reads (goes (takes p c.args.self.now.tree.now (w.kind_word p.words.now m.term p.at If (m.term ∷ this Then ∷ m.term ∷ this Else ∷ m.term ∷ []) c.requires.begins (λ x i. refl)) c.advance.ensures) c.in_ok-condition.ensures.0.0) c.in_ok-expect.ensures.0 c.in_ok-expect.ensures.1) c.in_ok-yes.ensures.0.0) c.in_ok-expect-2.ensures.0 c.in_ok-expect-2.ensures.1) c.in_ok-other.ensures.0.0) (omega arith) (quiet_then a.3 (quiet_then b.3 d.3)) c.add_node.ensures
          (λ k q h o. (_, productions.choosing c.place-place.result c.place-place.ensures (is_word _ c.requires.begins c.advance.ensures) a.2.1 c.in_ok-expect.ensures.2 b.2.1 c.in_ok-expect-2.ensures.2 d.2.1, at.if_at h (x.below q (within (still d.0.grows (still b.0.grows a.2.2)))) (still o (still d.0.grows (still b.0.grows a.2.2))) (x.below q (within (still d.0.grows b.2.2))) (still o (still d.0.grows b.2.2)) (x.below q (within d.2.2)) (still o d.2.2))),
      c.in_ok-other.ensures.1 ∙ c.in_ok-yes.ensures.1 ∙ c.in_ok-condition.ensures.1,
    )

pub gate_term-returns : goal.gate_term-returns
gate_term-returns t c =
    let p = c.args.self.now.cursor in (
      let a = c.in_ok-first.ensures.0 in
          finish g.Plain at.Stands _ c.add_built.result (goes (reads (takes p c.args.self.now.tree.now (w.word p.words.now m.plain p.at (word.Gate c.requires.begins.0 c.args.place c.args.gate) (this Open ∷ m.terms ∷ []) c.requires.begins.1.0 c.requires.begins.1.1 refl) c.advance.ensures) c.in_ok-expect.ensures.0 c.in_ok-expect.ensures.1) c.in_ok-first.ensures.0.0) (omega arith) (a.3) c.add_built.ensures
          (λ k q h o. (_, productions.applying (x.here_then c.requires.begins.1 c.advance.ensures) c.in_ok-expect.ensures.2 a.2.1, at.gate_at h (x.parts_to q (still_parts o a.2.2)))),
      c.in_ok-first.ensures.1,
    )

pub meas_term-returns-in_err-expect : goal.meas_term-returns-in_err-expect
meas_term-returns-in_err-expect t c =
    let p = c.args.self.now.cursor in
    (by (reading.PlainRead p _ c.args.self.now.tree.now _) c.in_err-expect.field-0.0 (misses c.in_err-expect.field-0.0 (takes p c.args.self.now.tree.now (w.kind_word p.words.now m.plain p.at Meas (this Open ∷ m.term ∷ this Close ∷ []) c.requires.begins (λ x i. refl)) c.advance.ensures) c.in_err-expect.ensures) c.from_residual.result c.from_residual.ensures.1, refl)

pub meas_term-returns-in_err-part : goal.meas_term-returns-in_err-part
meas_term-returns-in_err-part t c =
    let p = c.args.self.now.cursor in
    (by (reading.PlainRead p _ c.args.self.now.tree.now _) c.in_err-part.field-0.0 (fails c.in_err-part.field-0.0 (reads (takes p c.args.self.now.tree.now (w.kind_word p.words.now m.plain p.at Meas (this Open ∷ m.term ∷ this Close ∷ []) c.requires.begins (λ x i. refl)) c.advance.ensures) c.in_ok-expect.ensures.0 c.in_ok-expect.ensures.1) c.in_err-part.ensures.0) c.from_residual-in_err-part.result c.from_residual-in_err-part.ensures.1, c.in_err-part.ensures.1)

pub meas_term-returns-in_err-expect-2 : goal.meas_term-returns-in_err-expect-2
meas_term-returns-in_err-expect-2 t c =
    let p = c.args.self.now.cursor in
    (by (reading.PlainRead p _ c.args.self.now.tree.now _) c.in_err-expect-2.field-0.0 (misses c.in_err-expect-2.field-0.0 (goes (reads (takes p c.args.self.now.tree.now (w.kind_word p.words.now m.plain p.at Meas (this Open ∷ m.term ∷ this Close ∷ []) c.requires.begins (λ x i. refl)) c.advance.ensures) c.in_ok-expect.ensures.0 c.in_ok-expect.ensures.1) c.in_ok-part.ensures.0.0) c.in_err-expect-2.ensures) c.from_residual-in_err-expect-2.result c.from_residual-in_err-expect-2.ensures.1, c.in_ok-part.ensures.1)

pub meas_term-returns : goal.meas_term-returns
meas_term-returns t c =
    let p = c.args.self.now.cursor in (
      let a = c.in_ok-part.ensures.0 in
          let b = c.in_ok-add_part.ensures in
          finish g.Plain at.Stands _ c.add_built.result (adds (p.at + 1) (reads (goes (reads (takes p c.args.self.now.tree.now (w.kind_word p.words.now m.plain p.at Meas (this Open ∷ m.term ∷ this Close ∷ []) c.requires.begins (λ x i. refl)) c.advance.ensures) c.in_ok-expect.ensures.0 c.in_ok-expect.ensures.1) c.in_ok-part.ensures.0.0) c.in_ok-expect-2.ensures.0 c.in_ok-expect-2.ensures.1) c.in_ok-add_part.ensures.0 (omega arith) (omega arith)) (omega arith) (quiet_then a.3 (record { parameters = b.4; operations = b.5 })) c.add_built.ensures
          (λ k q h o. (_, productions.measuring c.place-place.result c.place-place.ensures (is_word _ c.requires.begins c.advance.ensures) c.in_ok-expect.ensures.2 a.2.1 c.in_ok-expect-2.ensures.2, at.meas_at h (x.parts_to q (still_parts o (x.more_parts _ b.2 (still b.0 a.2.2) (omega arith) (x.no_parts _ _ (c.len-first.ensures ∙ sized c.term.new.self.tree.now.parts)) b.1))))),
      c.in_ok-part.ensures.1,
    )

pub name_or_call-returns-then-not-holds : goal.name_or_call-returns-then-not-holds
name_or_call-returns-then-not-holds t c =
    let p = c.args.self.now.cursor in (
      finish g.Plain at.Stands _ c.add_node.result (turns [] (takes p c.args.self.now.tree.now (w.word p.words.now m.plain p.at (word.Name c.requires.begins.0 c.requires.begins.1) (m.after_name ∷ []) c.requires.begins.2.0 c.requires.begins.2.1 refl) c.advance.ensures) (w.name_ends c.advance.new.self.words.now c.advance.new.self.at c.advance.new.self.within (sym c.if-not-holds.ensures))) (omega arith) (quiet_all c.args.self.now.tree.now) c.add_node.ensures
          (λ k q h o. (_, productions.name_there (x.here_then c.requires.begins.2 c.advance.ensures), at.use_at h c.requires.begins.3)),
      refl,
    )

pub name_or_call-returns-then-holds : goal.name_or_call-returns-then-holds
name_or_call-returns-then-holds t c =
    let p = c.args.self.now.cursor in (
      finish g.Plain at.Stands _ c.add_built.result (passes [] (passes (m.arguments ∷ []) (takes p c.args.self.now.tree.now (w.word p.words.now m.plain p.at (word.Name c.requires.begins.0 c.requires.begins.1) (m.after_name ∷ []) c.requires.begins.2.0 c.requires.begins.2.1 refl) c.advance.ensures) (w.kind_word c.advance.new.self.words.now m.after_name c.advance.new.self.at Open (m.arguments ∷ []) (sym c.if-not-holds.ensures) (λ x i. refl)) c.advance-2.ensures) (w.kind_word c.advance-2.new.self.words.now m.arguments c.advance-2.new.self.at Close [] (sym c.if-holds.ensures) (λ x i. refl)) c.advance-then-holds.ensures) (omega arith) (quiet_all c.args.self.now.tree.now) c.add_built.ensures
          (λ k q h o. (_, productions.calling (x.here_then c.requires.begins.2 c.advance.ensures) (is_word _ (sym c.if-not-holds.ensures) c.advance-2.ensures) (productions.none_given (is_word _ (sym c.if-holds.ensures) c.advance-then-holds.ensures)), at.call_at h c.requires.begins.3 (x.parts_to q (still_parts o (x.no_parts _ _ (c.len-first.ensures ∙ sized c.args.self.now.tree.now.parts)))))),
      refl,
    )

pub name_or_call-returns-in_err-first : goal.name_or_call-returns-in_err-first
name_or_call-returns-in_err-first t c =
    let p = c.args.self.now.cursor in
    (by (reading.PlainRead p _ c.args.self.now.tree.now _) c.in_err-first.field-0.0 (fails c.in_err-first.field-0.0 (turns (m.terms ∷ []) (passes (m.arguments ∷ []) (takes p c.args.self.now.tree.now (w.word p.words.now m.plain p.at (word.Name c.requires.begins.0 c.requires.begins.1) (m.after_name ∷ []) c.requires.begins.2.0 c.requires.begins.2.1 refl) c.advance.ensures) (w.kind_word c.advance.new.self.words.now m.after_name c.advance.new.self.at Open (m.arguments ∷ []) (sym c.if-not-holds.ensures) (λ x i. refl)) c.advance-2.ensures) (w.some_arguments c.advance-2.new.self.words.now c.advance-2.new.self.at c.advance-2.new.self.within (sym c.if-holds.ensures))) c.in_err-first.ensures.0) c.from_residual.result c.from_residual.ensures.1, c.in_err-first.ensures.1)

pub name_or_call-returns : goal.name_or_call-returns
name_or_call-returns t c =
    let p = c.args.self.now.cursor in (
      let a = c.in_ok-first.ensures.0 in
          finish g.Plain at.Stands _ c.add_built-2.result (goes (turns (m.terms ∷ []) (passes (m.arguments ∷ []) (takes p c.args.self.now.tree.now (w.word p.words.now m.plain p.at (word.Name c.requires.begins.0 c.requires.begins.1) (m.after_name ∷ []) c.requires.begins.2.0 c.requires.begins.2.1 refl) c.advance.ensures) (w.kind_word c.advance.new.self.words.now m.after_name c.advance.new.self.at Open (m.arguments ∷ []) (sym c.if-not-holds.ensures) (λ x i. refl)) c.advance-2.ensures) (w.some_arguments c.advance-2.new.self.words.now c.advance-2.new.self.at c.advance-2.new.self.within (sym c.if-holds.ensures))) c.in_ok-first.ensures.0.0) (omega arith) (a.3) c.add_built-2.ensures
          (λ k q h o. (_, productions.calling (x.here_then c.requires.begins.2 c.advance.ensures) (is_word _ (sym c.if-not-holds.ensures) c.advance-2.ensures) (g.some_arguments a.2.1), at.call_at h c.requires.begins.3 (x.parts_to q (still_parts o a.2.2)))),
      c.in_ok-first.ensures.1,
    )

pub parenthesis-returns-then-holds : goal.parenthesis-returns-then-holds
parenthesis-returns-then-holds t c =
    let p = c.args.self.now.cursor in (
      finish g.Plain at.Stands _ c.add_node.result (passes [] (takes p c.args.self.now.tree.now (w.kind_word p.words.now m.plain p.at Open (m.after_open ∷ []) c.requires.begins (λ x i. refl)) c.advance.ensures) (w.kind_word c.advance.new.self.words.now m.after_open c.advance.new.self.at Close [] (sym c.if-holds.ensures) (λ x i. refl)) c.advance-then-holds.ensures) (omega arith) (quiet_all c.args.self.now.tree.now) c.add_node.ensures
          (λ k q h o. (_, productions.empty c.place-place.result c.place-place.ensures (is_word _ c.requires.begins c.advance.ensures) (is_word _ (sym c.if-holds.ensures) c.advance-then-holds.ensures), at.constant_at h)),
      refl,
    )

pub parenthesis-returns-in_err-inner : goal.parenthesis-returns-in_err-inner
parenthesis-returns-in_err-inner t c =
    let p = c.args.self.now.cursor in
    (by (reading.PlainRead p _ c.args.self.now.tree.now _) c.in_err-inner.field-0.0 (fails c.in_err-inner.field-0.0 (turns (m.term ∷ m.in_parens ∷ []) (takes p c.args.self.now.tree.now (w.kind_word p.words.now m.plain p.at Open (m.after_open ∷ []) c.requires.begins (λ x i. refl)) c.advance.ensures) (w.some_parts c.advance.new.self.words.now c.advance.new.self.at c.advance.new.self.within (sym c.if-holds.ensures))) c.in_err-inner.ensures.0) c.from_residual.result c.from_residual.ensures.1, c.in_err-inner.ensures.1)

pub parenthesis-returns-in_err-expect : goal.parenthesis-returns-in_err-expect
parenthesis-returns-in_err-expect t c =
    let p = c.args.self.now.cursor in
    (by (reading.PlainRead p _ c.args.self.now.tree.now _) c.in_err-expect.field-0.0 (misses c.in_err-expect.field-0.0 (turns (this Close ∷ []) (goes (turns (m.term ∷ m.in_parens ∷ []) (takes p c.args.self.now.tree.now (w.kind_word p.words.now m.plain p.at Open (m.after_open ∷ []) c.requires.begins (λ x i. refl)) c.advance.ensures) (w.some_parts c.advance.new.self.words.now c.advance.new.self.at c.advance.new.self.within (sym c.if-holds.ensures))) c.in_ok-inner.ensures.0.0) (w.parens_close c.term.new.self.cursor.words.now c.term.new.self.cursor.at c.term.new.self.cursor.within (sym c.if-not-holds.ensures))) c.in_err-expect.ensures) c.from_residual-in_err-expect.result c.from_residual-in_err-expect.ensures.1, c.in_ok-inner.ensures.1)

pub parenthesis-returns-then-not-holds : goal.parenthesis-returns-then-not-holds
parenthesis-returns-then-not-holds t c =
    let p = c.args.self.now.cursor in (
      let a = c.in_ok-inner.ensures.0 in
          let o = reads (turns (this Close ∷ []) (goes (turns (m.term ∷ m.in_parens ∷ []) (takes p c.args.self.now.tree.now (w.kind_word p.words.now m.plain p.at Open (m.after_open ∷ []) c.requires.begins (λ x i. refl)) c.advance.ensures) (w.some_parts c.advance.new.self.words.now c.advance.new.self.at c.advance.new.self.within (sym c.if-holds.ensures))) c.in_ok-inner.ensures.0.0) (w.parens_close c.term.new.self.cursor.words.now c.term.new.self.cursor.at c.term.new.self.cursor.within (sym c.if-not-holds.ensures))) c.in_ok-expect.ensures.0 c.in_ok-expect.ensures.1 in
          (ends o, omega (arith, base_le o), (a.2.0, productions.grouping (is_word _ c.requires.begins c.advance.ensures) a.2.1 c.in_ok-expect.ensures.2, a.2.2), a.3),
      c.in_ok-inner.ensures.1,
    )

pub parenthesis-returns-in_err-first : goal.parenthesis-returns-in_err-first
parenthesis-returns-in_err-first t c =
    let p = c.args.self.now.cursor in
    (by (reading.PlainRead p _ c.args.self.now.tree.now _) c.in_err-first.field-0.0 (fails c.in_err-first.field-0.0 (passes (m.terms ∷ []) (goes (turns (m.term ∷ m.in_parens ∷ []) (takes p c.args.self.now.tree.now (w.kind_word p.words.now m.plain p.at Open (m.after_open ∷ []) c.requires.begins (λ x i. refl)) c.advance.ensures) (w.some_parts c.advance.new.self.words.now c.advance.new.self.at c.advance.new.self.within (sym c.if-holds.ensures))) c.in_ok-inner.ensures.0.0) (w.kind_word c.term.new.self.cursor.words.now m.in_parens c.term.new.self.cursor.at Comma (m.terms ∷ []) (sym c.if-not-holds.ensures) (λ x i. refl)) c.advance-2.ensures) c.in_err-first.ensures.0) c.from_residual-in_err-first.result c.from_residual-in_err-first.ensures.1, c.in_err-first.ensures.1 ∙ c.in_ok-inner.ensures.1)

pub parenthesis-returns : goal.parenthesis-returns
parenthesis-returns t c =
    let p = c.args.self.now.cursor in (
      let a = c.in_ok-inner.ensures.0 in
          let b = c.in_ok-first.ensures.0 in
          let d = c.in_ok-add_part.ensures in
          finish g.Plain at.Stands _ c.add_built.result (adds (p.at + 1) (goes (passes (m.terms ∷ []) (goes (turns (m.term ∷ m.in_parens ∷ []) (takes p c.args.self.now.tree.now (w.kind_word p.words.now m.plain p.at Open (m.after_open ∷ []) c.requires.begins (λ x i. refl)) c.advance.ensures) (w.some_parts c.advance.new.self.words.now c.advance.new.self.at c.advance.new.self.within (sym c.if-holds.ensures))) c.in_ok-inner.ensures.0.0) (w.kind_word c.term.new.self.cursor.words.now m.in_parens c.term.new.self.cursor.at Comma (m.terms ∷ []) (sym c.if-not-holds.ensures) (λ x i. refl)) c.advance-2.ensures) c.in_ok-first.ensures.0.0) c.in_ok-add_part.ensures.0 (omega arith) (omega arith)) (omega arith) (quiet_then a.3 (quiet_then b.3 (record { parameters = d.4; operations = d.5 }))) c.add_built.ensures
          (λ k q h o. (_, productions.tupling c.place-place.result c.place-place.ensures (is_word _ c.requires.begins c.advance.ensures) a.2.1 (is_word _ (sym c.if-not-holds.ensures) c.advance-2.ensures) b.2.1, at.tuple_at h (x.parts_to q (still_parts o (x.more_parts _ d.2 (still d.0 (still b.0.grows a.2.2)) d.0.nodes.kept.longer (still_parts d.0 b.2.2) d.1))))),
      c.in_ok-first.ensures.1 ∙ c.in_ok-inner.ensures.1,
    )

pub terms-returns-in_err-part : goal.terms-returns-in_err-part
terms-returns-in_err-part t c =
    let p = c.args.self.now.cursor in
    (by (reading.TermsRead p _ c.args.self.now.tree.now _) c.in_err-part.field-0.0 (fails c.in_err-part.field-0.0 (starts p c.args.self.now.tree.now (w.some_terms p.words.now p.at p.within)) c.in_err-part.ensures.0) c.from_residual.result c.from_residual.ensures.1, c.in_err-part.ensures.1)

pub terms-returns-in_err-first : goal.terms-returns-in_err-first
terms-returns-in_err-first t c =
    let p = c.args.self.now.cursor in
    (by (reading.TermsRead p _ c.args.self.now.tree.now _) c.in_err-first.field-0.0 (fails c.in_err-first.field-0.0 (goes (starts p c.args.self.now.tree.now (w.some_terms p.words.now p.at p.within)) c.in_ok-part.ensures.0.0) c.in_err-first.ensures.0) c.from_residual-in_err-first.result c.from_residual-in_err-first.ensures.1, c.in_err-first.ensures.1 ∙ c.in_ok-part.ensures.1)

pub terms-returns : goal.terms-returns
terms-returns t c =
    let p = c.args.self.now.cursor in (
      let a = c.in_ok-part.ensures.0 in
          let b = c.in_ok-first.ensures.0 in
          let d = c.in_ok-add_part.ensures in
          let o = gains (goes (starts p c.args.self.now.tree.now (w.some_terms p.words.now p.at p.within)) c.in_ok-part.ensures.0.0) c.in_ok-first.ensures.0.0 c.in_ok-first.ensures.0.2.3 in
          (ends (adds p.at o d.0 (omega arith) (omega arith)), omega (arith, base_le o), (s.◌∷ᵗ◌ a.2.0 b.2.0, g.some_terms a.2.1 b.2.1, x.more_parts _ d.2 (still d.0 (still b.0.grows a.2.2)) d.0.nodes.kept.longer (still_parts d.0 b.2.2) d.1), quiet_then a.3 (quiet_then b.3 (record { parameters = d.4; operations = d.5 }))),
      c.in_ok-first.ensures.1 ∙ c.in_ok-part.ensures.1,
    )

pub more_terms-returns-then-holds : goal.more_terms-returns-then-holds
more_terms-returns-then-holds t c =
    let p = c.args.self.now.cursor in
    (x.more_by p c.advance.new.self c.terms.new.self.cursor (sym c.if-holds.ensures) c.advance.ensures c.args.self.now.tree.now c.terms.new.self.tree.now c.terms.result c.terms.ensures.0, c.terms.ensures.1)

pub more_terms-returns-in_err-expect : goal.more_terms-returns-in_err-expect
more_terms-returns-in_err-expect t c =
    let p = c.args.self.now.cursor in
    (by (reading.MoreRead p _ c.args.self.now.tree.now _) c.in_err-expect.field-0.0 (misses c.in_err-expect.field-0.0 (starts p c.args.self.now.tree.now (w.more_close p.words.now p.at p.within (sym c.if-holds.ensures))) c.in_err-expect.ensures) c.from_residual.result c.from_residual.ensures.1, refl)

pub more_terms-returns : goal.more_terms-returns
more_terms-returns t c =
    let p = c.args.self.now.cursor in (
      let a = c.in_ok-expect.ensures in
          (ends (reads (starts p c.args.self.now.tree.now (w.more_close p.words.now p.at p.within (sym c.if-holds.ensures))) c.in_ok-expect.ensures.0 c.in_ok-expect.ensures.1), omega (arith, a.0.at), (s.no_trees, productions.no_more a.2, x.no_parts _ _ (c.len.ensures ∙ sized c.args.self.now.tree.now.parts), grows_none c.args.self.now.tree.now (p.at + 1) c.expect.new.self.at (omega (arith, a.0.at))), quiet_all c.args.self.now.tree.now),
      refl,
    )

pub plain_term-name_or_call-requires : goal.plain_term-name_or_call-requires
plain_term-name_or_call-requires t c =
    let h = x.here c.args.self.now.cursor (sym c.word.ensures ∙ c.in-Some.is ∙ ap Some c.in-Name.is) in
    (search (rules, h.0), (c.in-Name.text, c.in-Name.place, h, (refl, refl)))

pub plain_term-gate_term-requires : goal.plain_term-gate_term-requires
plain_term-gate_term-requires t c =
    let h = x.here c.args.self.now.cursor (sym c.word.ensures ∙ c.in-Some.is ∙ ap Some c.in-Gate.is) in
    (search (rules, h.0), (c.in-Gate.text, h))

pub plain_term-constant-requires : goal.plain_term-constant-requires
plain_term-constant-requires t c =
    let p = c.args.self.now.cursor in
    let l = x.here p (sym c.word.ensures ∙ c.in-Some.is ∙ ap Some (c.in-Number.is)) in
    let d = l.1 in
    record { begins = (l.0, w.word p.words.now m.plain p.at _ [] l.0 d refl, productions.number_there d) }

pub plain_term-constant-requires-in-Zero : goal.plain_term-constant-requires-in-Zero
plain_term-constant-requires-in-Zero t c =
    let p = c.args.self.now.cursor in
    let l = x.here p (sym c.word.ensures ∙ c.in-Some.is ∙ ap Some (c.in-Fixed.is ∙ ap (word.Fixed c.in-Fixed.text c.in-Fixed.place) c.in-Zero.is)) in
    let d = l.1 in
    record { begins = (l.0, w.word p.words.now m.plain p.at _ [] l.0 d refl, productions.zero_there d) }

pub plain_term-constant-requires-in-One : goal.plain_term-constant-requires-in-One
plain_term-constant-requires-in-One t c =
    let p = c.args.self.now.cursor in
    let l = x.here p (sym c.word.ensures ∙ c.in-Some.is ∙ ap Some (c.in-Fixed.is ∙ ap (word.Fixed c.in-Fixed.text c.in-Fixed.place) c.in-One.is)) in
    let d = l.1 in
    record { begins = (l.0, w.word p.words.now m.plain p.at _ [] l.0 d refl, productions.one_there d) }

pub term-returns : goal.term-returns
term-returns t c =
    let p = c.args.self.now.cursor in
    let way : Way m.term p.words.now p.at (m.plain ∷ []) p.at =
    elim c.match-kind.branch [
      | term-in-Some+in_default-kind w ↦
          let n = w.in_default-kind in
          x.plain_headed p w.in-Some.kind (sym w.in-Some.is ∙ c.kind.ensures) n.not-Let n.not-Mut n.not-Set n.not-Using n.not-If
      | term-in_default w ↦ x.plain_unheaded p (sym w.in_default.is ∙ c.kind.ensures)
    ] in
    (x.plain_by p c.plain_term.new.self.cursor c.args.self.now.tree.now c.plain_term.new.self.tree.now c.plain_term.result way c.plain_term.ensures.0, c.plain_term.ensures.1)
