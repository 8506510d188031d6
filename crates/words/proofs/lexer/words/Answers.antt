use Rattle.std.proofs.Common.{length, Err, vec_items, refl, ap, ◌∙◌, arith}
use Rattle.std.proofs.lemmas.Result.{err_from_is_err_and}
use Rattle.words.proofs.Turns.{at_first, answered, again, less, ends, breaks, fits, full, no_room}
use Rattle.words.proofs.lexer.words.Goals as goal

pub loop-word-init : goal.loop-word-init
loop-word-init c = record { same = c.new-reader.ensures.listing; so_far = at_first c.args.listing.now c.new-reader.result.place (vec_items c.args.out.now) c.new-reader.ensures.place; grows = omega arith }

pub returns-in_err-word : goal.returns-in_err-word
returns-in_err-word c =
    let i = c.loop-word.invariant in
    let p = err_from_is_err_and c.from_residual.result c.from_residual.ensures.1 in
    record {
      words = breaks i.same c.next.new.self.place i.so_far _ c.in_err-word.ensures.next c.from_residual.result (p.1 ∙ ap Err p.2);
      memory = λ m. absurd (fits i.same c.next.new.self.place i.so_far _ c.in_err-word.ensures.next c.from_residual.result (p.1 ∙ ap Err p.2) m);
    }

pub loop-word-smaller : goal.loop-word-smaller
loop-word-smaller c =
    let i = c.loop-word.invariant in
    let more = less i.same c.next.new.self.place i.so_far c.in-Some.word c.in-Some.is c.in_ok-word.ensures.next in
    omega (arith, c.next.new.self.within, ap length (c.next.ensures.listing ∙ i.same))

pub loop-word-preserved : goal.loop-word-preserved
loop-word-preserved c =
    let i = c.loop-word.invariant in
    record {
      same = c.next.ensures.listing ∙ i.same;
      so_far = again i.same c.next.new.self.place i.so_far c.in-Some.word c.in-Some.is c.in_ok-word.ensures.next c.in_ok-push.ensures.items;
      grows = omega (arith, i.grows, c.push.ensures.capacity);
    }

pub returns-in_err-push : goal.returns-in_err-push
returns-in_err-push c =
    let i = c.loop-word.invariant in
    let p = err_from_is_err_and c.from_residual-in_err-push.result c.from_residual-in_err-push.ensures.1 in
    let more = less i.same c.next.new.self.place i.so_far c.in-Some.word c.in-Some.is c.in_ok-word.ensures.next in
    let room = no_room i.same c.next.new.self.place i.so_far c.args.out.now.cap c.loop-word.out.cap i.grows (omega (arith, c.in_err-push.ensures.full, c.loop-word.out.ok.0)) more (omega (arith, c.next.new.self.within, ap length c.next.ensures.listing)) in
    record {
      words = full i.same c.next.new.self.place i.so_far c.in-Some.word c.in-Some.is c.in_ok-word.ensures.next (vec_items c.push.new.self) c.from_residual-in_err-push.result c.in_err-push.ensures.items (p.1 ∙ ap Err p.2);
      memory = λ m. omega (arith, room, c.args.out.now.ok.0);
    }

pub returns : goal.returns
returns c =
    let i = c.loop-word.invariant in
    record { words = ends i.same c.next.new.self.place i.so_far c.in_default.is c.in_ok-word.ensures.next; memory = λ m. absurd (answered _ refl m) }
