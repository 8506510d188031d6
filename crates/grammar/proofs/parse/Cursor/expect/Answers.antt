use Rattle.std.proofs.Common.{sym}
use Rattle.syntax.proofs.Ways.{this_there}
use Rattle.grammar.proofs.Exits.{is_word, later}
use Rattle.grammar.proofs.parse.Cursor.expect.Goals as goal

pub returns : goal.returns
returns c =
    let p = c.args.self.now in
    let e = sym c.if-not-holds.ensures in
    (c.advance.ensures, later (this_there p.words.now c.args.kind p.at e) c.advance.ensures, is_word c.args.kind e c.advance.ensures)
