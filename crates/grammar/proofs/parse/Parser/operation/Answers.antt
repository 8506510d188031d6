use Rattle.std.proofs.Common.{[], ◌∷◌, refl, ◌∙◌, arith}
use Rattle.words.specs.declared.token.Kind.TheVariants.{Open, LeftBrace, RightBrace, Colon, Op}
use Rattle.syntax.specs.Machine as m
use Rattle.syntax.specs.Machine.{this}
use Rattle.syntax.proofs.Ways as w
use Rattle.grammar.specs.Reading as reading
use Rattle.grammar.proofs.Growth.{takes, goes, reads, fails, misses, by}
use Rattle.grammar.proofs.Arenas.{still, still_names, still_type}
use Rattle.grammar.proofs.Productions as productions
use Rattle.grammar.proofs.Exits.{is_word}
use Rattle.grammar.proofs.Headers as h
use Rattle.grammar.proofs.Headers.{same_size}
use Rattle.grammar.proofs.parse.Parser.operation.Goals as goal

pub returns-in_err-name : goal.returns-in_err-name
returns-in_err-name c =
    let p = c.args.self.now.cursor in
    (by (reading.OperationRead p _ c.args.self.now.tree.now _) c.in_err-name.field-0.0 (misses c.in_err-name.field-0.0 (takes p c.args.self.now.tree.now (w.kind_word p.words.now m.operation p.at Op (m.a_name ∷ this Open ∷ m.parameters ∷ this Colon ∷ m.a_type ∷ this LeftBrace ∷ m.term ∷ this RightBrace ∷ []) c.requires.begins (λ x i. refl)) c.advance.ensures) c.in_err-name.ensures) c.from_residual.result c.from_residual.ensures.1, refl)

pub returns-in_err-expect : goal.returns-in_err-expect
returns-in_err-expect c =
    let p = c.args.self.now.cursor in
    (by (reading.OperationRead p _ c.args.self.now.tree.now _) c.in_err-expect.field-0.0 (misses c.in_err-expect.field-0.0 (reads (takes p c.args.self.now.tree.now (w.kind_word p.words.now m.operation p.at Op (m.a_name ∷ this Open ∷ m.parameters ∷ this Colon ∷ m.a_type ∷ this LeftBrace ∷ m.term ∷ this RightBrace ∷ []) c.requires.begins (λ x i. refl)) c.advance.ensures) c.in_ok-name.ensures.0 c.in_ok-name.ensures.1) c.in_err-expect.ensures) c.from_residual-in_err-expect.result c.from_residual-in_err-expect.ensures.1, refl)

pub returns-in_err-signature : goal.returns-in_err-signature
returns-in_err-signature c =
    let p = c.args.self.now.cursor in
    (by (reading.OperationRead p _ c.args.self.now.tree.now _) c.in_err-signature.field-0.0 (fails c.in_err-signature.field-0.0 (reads (reads (takes p c.args.self.now.tree.now (w.kind_word p.words.now m.operation p.at Op (m.a_name ∷ this Open ∷ m.parameters ∷ this Colon ∷ m.a_type ∷ this LeftBrace ∷ m.term ∷ this RightBrace ∷ []) c.requires.begins (λ x i. refl)) c.advance.ensures) c.in_ok-name.ensures.0 c.in_ok-name.ensures.1) c.in_ok-expect.ensures.0 c.in_ok-expect.ensures.1) c.in_err-signature.ensures.0) c.from_residual-in_err-signature.result c.from_residual-in_err-signature.ensures.1, c.in_err-signature.ensures.1)

pub returns-in_err-expect-2 : goal.returns-in_err-expect-2
returns-in_err-expect-2 c =
    let p = c.args.self.now.cursor in
    (by (reading.OperationRead p _ c.args.self.now.tree.now _) c.in_err-expect-2.field-0.0 (misses c.in_err-expect-2.field-0.0 (goes (reads (reads (takes p c.args.self.now.tree.now (w.kind_word p.words.now m.operation p.at Op (m.a_name ∷ this Open ∷ m.parameters ∷ this Colon ∷ m.a_type ∷ this LeftBrace ∷ m.term ∷ this RightBrace ∷ []) c.requires.begins (λ x i. refl)) c.advance.ensures) c.in_ok-name.ensures.0 c.in_ok-name.ensures.1) c.in_ok-expect.ensures.0 c.in_ok-expect.ensures.1) c.in_ok-signature.ensures.0.0) c.in_err-expect-2.ensures) c.from_residual-in_err-expect-2.result c.from_residual-in_err-expect-2.ensures.1, c.in_ok-signature.ensures.1)

pub returns-in_err-result : goal.returns-in_err-result
returns-in_err-result c =
    let p = c.args.self.now.cursor in
    (by (reading.OperationRead p _ c.args.self.now.tree.now _) c.in_err-result.field-0.0 (fails c.in_err-result.field-0.0 (reads (goes (reads (reads (takes p c.args.self.now.tree.now (w.kind_word p.words.now m.operation p.at Op (m.a_name ∷ this Open ∷ m.parameters ∷ this Colon ∷ m.a_type ∷ this LeftBrace ∷ m.term ∷ this RightBrace ∷ []) c.requires.begins (λ x i. refl)) c.advance.ensures) c.in_ok-name.ensures.0 c.in_ok-name.ensures.1) c.in_ok-expect.ensures.0 c.in_ok-expect.ensures.1) c.in_ok-signature.ensures.0.0) c.in_ok-expect-2.ensures.0 c.in_ok-expect-2.ensures.1) c.in_err-result.ensures.0) c.from_residual-in_err-result.result c.from_residual-in_err-result.ensures.1, c.in_err-result.ensures.1 ∙ c.in_ok-signature.ensures.1)

pub returns-in_err-expect-3 : goal.returns-in_err-expect-3
returns-in_err-expect-3 c =
    let p = c.args.self.now.cursor in
    (by (reading.OperationRead p _ c.args.self.now.tree.now _) c.in_err-expect-3.field-0.0 (misses c.in_err-expect-3.field-0.0 (goes (reads (goes (reads (reads (takes p c.args.self.now.tree.now (w.kind_word p.words.now m.operation p.at Op (m.a_name ∷ this Open ∷ m.parameters ∷ this Colon ∷ m.a_type ∷ this LeftBrace ∷ m.term ∷ this RightBrace ∷ []) c.requires.begins (λ x i. refl)) c.advance.ensures) c.in_ok-name.ensures.0 c.in_ok-name.ensures.1) c.in_ok-expect.ensures.0 c.in_ok-expect.ensures.1) c.in_ok-signature.ensures.0.0) c.in_ok-expect-2.ensures.0 c.in_ok-expect-2.ensures.1) c.in_ok-result.ensures.0.0) c.in_err-expect-3.ensures) c.from_residual-in_err-expect-3.result c.from_residual-in_err-expect-3.ensures.1, c.in_ok-result.ensures.1 ∙ c.in_ok-signature.ensures.1)

pub returns-in_err-body : goal.returns-in_err-body
returns-in_err-body c =
    let p = c.args.self.now.cursor in
    (by (reading.OperationRead p _ c.args.self.now.tree.now _) c.in_err-body.field-0.0 (fails c.in_err-body.field-0.0 (reads (goes (reads (goes (reads (reads (takes p c.args.self.now.tree.now (w.kind_word p.words.now m.operation p.at Op (m.a_name ∷ this Open ∷ m.parameters ∷ this Colon ∷ m.a_type ∷ this LeftBrace ∷ m.term ∷ this RightBrace ∷ []) c.requires.begins (λ x i. refl)) c.advance.ensures) c.in_ok-name.ensures.0 c.in_ok-name.ensures.1) c.in_ok-expect.ensures.0 c.in_ok-expect.ensures.1) c.in_ok-signature.ensures.0.0) c.in_ok-expect-2.ensures.0 c.in_ok-expect-2.ensures.1) c.in_ok-result.ensures.0.0) c.in_ok-expect-3.ensures.0 c.in_ok-expect-3.ensures.1) c.in_err-body.ensures.0) c.from_residual-in_err-body.result c.from_residual-in_err-body.ensures.1, c.in_err-body.ensures.1 ∙ c.in_ok-result.ensures.1 ∙ c.in_ok-signature.ensures.1)

pub returns-in_err-expect-4 : goal.returns-in_err-expect-4
returns-in_err-expect-4 c =
    let p = c.args.self.now.cursor in
    (by (reading.OperationRead p _ c.args.self.now.tree.now _) c.in_err-expect-4.field-0.0 (misses c.in_err-expect-4.field-0.0 (goes (reads (goes (reads (goes (reads (reads (takes p c.args.self.now.tree.now (w.kind_word p.words.now m.operation p.at Op (m.a_name ∷ this Open ∷ m.parameters ∷ this Colon ∷ m.a_type ∷ this LeftBrace ∷ m.term ∷ this RightBrace ∷ []) c.requires.begins (λ x i. refl)) c.advance.ensures) c.in_ok-name.ensures.0 c.in_ok-name.ensures.1) c.in_ok-expect.ensures.0 c.in_ok-expect.ensures.1) c.in_ok-signature.ensures.0.0) c.in_ok-expect-2.ensures.0 c.in_ok-expect-2.ensures.1) c.in_ok-result.ensures.0.0) c.in_ok-expect-3.ensures.0 c.in_ok-expect-3.ensures.1) c.in_ok-body.ensures.0.0) c.in_err-expect-4.ensures) c.from_residual-in_err-expect-4.result c.from_residual-in_err-expect-4.ensures.1, c.in_ok-body.ensures.1 ∙ c.in_ok-result.ensures.1 ∙ c.in_ok-signature.ensures.1)

pub returns : goal.returns
returns c =
    let p = c.args.self.now.cursor in (
      let a = c.in_ok-name.ensures in
          let b = c.in_ok-signature.ensures.0 in
          let e = c.in_ok-result.ensures.0 in
          let k = c.in_ok-body.ensures.0 in
          h.operation_done c.args.self.now.tree.now c.add_operation.new.self c.add_operation.result (record { place = c.place-place.result; name = a.2.0; parameters = b.2.0; result = e.2.0; body = k.2.0 }) (reads (goes (reads (goes (reads (goes (reads (reads (takes p c.args.self.now.tree.now (w.kind_word p.words.now m.operation p.at Op (m.a_name ∷ this Open ∷ m.parameters ∷ this Colon ∷ m.a_type ∷ this LeftBrace ∷ m.term ∷ this RightBrace ∷ []) c.requires.begins (λ x i. refl)) c.advance.ensures) c.in_ok-name.ensures.0 c.in_ok-name.ensures.1) c.in_ok-expect.ensures.0 c.in_ok-expect.ensures.1) c.in_ok-signature.ensures.0.0) c.in_ok-expect-2.ensures.0 c.in_ok-expect-2.ensures.1) c.in_ok-result.ensures.0.0) c.in_ok-expect-3.ensures.0 c.in_ok-expect-3.ensures.1) c.in_ok-body.ensures.0.0) c.in_ok-expect-4.ensures.0 c.in_ok-expect-4.ensures.1) (omega arith)
          (productions.declaring c.place-place.result c.place-place.ensures (is_word _ c.requires.begins c.advance.ensures) a.2.1 c.in_ok-expect.ensures.2 b.2.1 c.in_ok-expect-2.ensures.2 e.2.1 c.in_ok-expect-3.ensures.2 _ k.2.1 c.in_ok-expect-4.ensures.2)
          (λ v d. record {
            place = refl;
            name = a.2.2;
            parameters = h.still_parameters d (h.still_parameters k.0.grows (h.still_parameters e.0.grows b.2.2));
            names = still_names d (still_names k.0.grows (still_names e.0.grows b.2.3));
            result = still_type d (still_type k.0.grows e.2.2);
            body = still d k.2.2;
          }) (same_size (k.3.operations ∙ e.3.operations ∙ b.3)) c.add_operation.ensures,
      c.in_ok-body.ensures.1 ∙ c.in_ok-result.ensures.1 ∙ c.in_ok-signature.ensures.1,
    )
