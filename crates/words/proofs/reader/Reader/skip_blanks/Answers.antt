use Rattle.std.proofs.Common.{◌+◌, ap}
use Rattle.words.specs.Bytes.{blank}
use Rattle.words.proofs.Lexing.{front_is}
use Rattle.words.proofs.reader.Reader.skip_blanks.Goals as goal

pub returns-clause-place : goal.returns-clause-place
returns-clause-place c =
    let e = c.front_len.ensures in
    ap (λ n. c.args.self.now.place + n) (front_is blank c.args.self.now.listing.now c.args.self.now.place c.front_len.result e.within e.passed e.stopped)
