use Rattle.std.proofs.Common.{◌^◌, ◌<◌, ◌++◌, decimal, ap, ◌∙◌, arith}
use Rattle.texts.specs.Refused.{refused_word, blank, line_feed}
use Rattle.faults.specs.Faults.{layer_word}
use Rattle.texts.specs.Texts.{written, fitted}
use Rattle.texts.proofs.Fitting.{seven, refused_short}
use Rattle.texts.proofs.refused.refused_line.Goals as goal

pub returns : goal.returns
returns c =
    let n : c.args.diagnosis.number < 2 ^ 8 = omega arith in
    let p : c.args.diagnosis.place < 2 ^ 64 = omega arith in
    seven (written c.new-text.result) (written c.push_all.new.self) (written c.push_all-2.new.self) (written c.push.new.self) (written c.push_decimal.new.self)
    (written c.push-2.new.self) (written c.push_decimal-2.new.self) (written c.push-3.new.self)
    refused_word (layer_word c.args.diagnosis.layer) blank (decimal c.args.diagnosis.number) blank (decimal c.args.diagnosis.place) line_feed
    c.new-text.ensures c.push_all.ensures
    (c.push_all-2.ensures ∙ ap (λ l. fitted (written c.push_all.new.self ++ l)) c.word.ensures)
    c.push.ensures
    (c.push_decimal.ensures ∙ ap (λ k. fitted (written c.push.new.self ++ decimal k)) c.from.ensures)
    c.push-2.ensures c.push_decimal-2.ensures c.push-3.ensures
    (refused_short c.args.diagnosis n p)
