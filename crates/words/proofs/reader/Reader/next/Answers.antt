use Rattle.std.proofs.Common.{◌≡◌, length, Some, ap, ◌∙◌, arith, rules}
use Rattle.std.specs.Option.{option_map, ok_or}
use Rattle.words.specs.declared.token.Word.{Word}
use Rattle.words.specs.declared.token.WordFault.TheVariants.{Bad}
use Rattle.words.proofs.Lexing.{none_left}
use Rattle.words.proofs.Standing.{next_is}
use Rattle.words.proofs.reader.Reader.next.Goals as goal

pub returns-then-place-self : goal.returns-then-place-self
returns-then-place-self c = record {
  listing = c.skip_blanks.ensures.listing;
  next = (
    none_left c.args.self.now.listing.now c.args.self.now.place c.skip_blanks.new.self.place c.skip_blanks.ensures.place (omega (arith, ap length c.skip_blanks.ensures.listing)),
    omega (arith, ap length c.skip_blanks.ensures.listing),
  );
}

pub returns-clause-next : goal.returns-clause-next
returns-clause-next c =
    let mapped : c.map.result ≡ option_map (λ (w : Word). Some w) c.meaning.result = search rules in
    next_is c.args.self.now.listing.now c.skip_blanks.new.self.listing.now c.skip_blanks.ensures.listing c.args.self.now.place c.skip_blanks.new.self.place c.cut-text.new.self.place
    c.skip_blanks.ensures.place (omega arith) c.cut-text.result.now c.cut-text.ensures.text c.cut-text.ensures.place c.meaning.result c.meaning.ensures c.ok_or.result (c.ok_or.ensures.value ∙ ap (λ o. ok_or o (Bad c.skip_blanks.new.self.place)) mapped)
