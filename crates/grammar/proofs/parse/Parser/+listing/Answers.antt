use Rattle.std.proofs.Common.{sym, refl, ◌∙◌}
use Rattle.syntax.proofs.Ways as w
use Rattle.grammar.specs.Reading as reading
use Rattle.grammar.proofs.Growth.{starts, fails, misses, by}
use Rattle.grammar.proofs.Headers as h
use Rattle.grammar.proofs.Headers.{same_size}
use Rattle.grammar.proofs.parse.Parser.+listing.Goals as goal

pub returns-in_err-operation : goal.returns-in_err-operation
returns-in_err-operation t c =
    let p = c.args.self.now.cursor in
    (by (reading.ListingRead p _ c.args.self.now.tree.now _) c.in_err-operation.field-0.0 (fails c.in_err-operation.field-0.0 (h.listing_path p c.args.self.now.tree.now (sym c.if-holds.ensures)) c.in_err-operation.ensures.0) c.from_residual.result c.from_residual.ensures.1, c.in_err-operation.ensures.1)

pub returns-then-holds : goal.returns-then-holds
returns-then-holds t c =
    let p = c.args.self.now.cursor in
    (h.listing_by p c.args.self.now.tree.now (sym c.if-holds.ensures) c.operation.new.self.cursor c.listing.new.self.cursor c.operation.new.self.tree.now c.listing.new.self.tree.now c.listing.result c.in_ok-operation.ensures.0 c.listing.ensures.0, c.listing.ensures.1 ∙ c.in_ok-operation.ensures.1)

pub returns-in_err-expect : goal.returns-in_err-expect
returns-in_err-expect t c =
    let p = c.args.self.now.cursor in
    (by (reading.ListingRead p _ c.args.self.now.tree.now _) c.in_err-expect.field-0.0 (misses c.in_err-expect.field-0.0 (starts p c.args.self.now.tree.now (w.no_operation p.words.now p.at p.within (sym c.if-holds.ensures))) c.in_err-expect.ensures) c.from_residual-in_err-expect.result c.from_residual-in_err-expect.ensures.1, refl)

pub returns : goal.returns
returns t c =
    let p = c.args.self.now.cursor in
    (h.listing_done p c.expect.new.self c.term.new.self.cursor c.args.self.now.tree.now c.term.new.self.tree.now c.place-place.result _ (sym c.if-holds.ensures) c.in_ok-expect.ensures c.in_ok-term.ensures.0 c.place-place.ensures, c.in_ok-term.ensures.1)
