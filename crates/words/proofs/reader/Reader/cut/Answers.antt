use Rattle.std.proofs.Common.{◌≡◌, ◌+◌, max, take, drop, ap, ◌∙◌, arith}
use Rattle.std.proofs.lemmas.List.{length-drop}
use Rattle.words.specs.Bytes.{inner}
use Rattle.words.specs.Words.{span}
use Rattle.words.proofs.Lexing.{front_is, rest_is, span_is}
use Rattle.words.proofs.reader.Reader.cut.Goals as goal

count : (c : goal.After-self-1) → c.max-count.result ≡ span (drop c.args.self.now.place c.args.self.now.listing.now)
count c =
    let e = c.front_len.ensures in
    let s = c.args.self.now.listing.now in
    let at = c.args.self.now.place in
    c.max-count.ensures ∙ ap (λ n. max n 1) (front_is inner s at c.front_len.result e.within e.passed e.stopped)
    ∙ span_is (drop at s) (omega (arith, length-drop at s, c.requires))

pub returns-clause-place : goal.returns-clause-place
returns-clause-place c = ap (λ n. c.args.self.now.place + n) (count c)

pub returns-clause-text : goal.returns-clause-text
returns-clause-text c = λ i. take (count c i) (rest_is c.args.self.now.listing.now c.args.self.now.place i)
