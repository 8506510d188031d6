use Rattle.std.proofs.Common.{rules}
use Rattle.grammar.proofs.Headers as h
use Rattle.grammar.proofs.parse.parse.Goals as goal

pub returns-in-Err : goal.returns-in-Err
returns-in-Err c =
    let p = c.new-cursor in
    h.not_whole c.args.words.now c.args.length p.result c.args.tree.now c.listing.new.self.tree.now p.ensures.words p.ensures.at c.in-Err.stop c.fault.result c.in-Err.ensures.0 c.fault.ensures

pub returns-then-parser-words : goal.returns-then-parser-words
returns-then-parser-words c =
    let p = c.new-cursor in
    h.goes_on c.args.words.now c.args.length p.result c.args.tree.now c.listing.new.self.tree.now p.ensures.words p.ensures.at c.listing.new.self.cursor c.listing.new.self.tree.now c.fault-then-parser-words.result c.if-parser-words.true c.in_default.ensures.0 c.fault-then-parser-words.ensures

pub returns : goal.returns
returns c =
    let p = c.new-cursor in
    h.whole c.args.words.now c.args.length p.result c.args.tree.now _ p.ensures.words p.ensures.at c.listing.new.self.cursor c.listing.new.self.tree.now (search (rules, c.in_default.ensures.1)) c.if-parser-words.false c.in_default.ensures.0
