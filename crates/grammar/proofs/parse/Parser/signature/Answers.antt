use Rattle.std.proofs.Common.{◌∙◌}
use Rattle.grammar.proofs.Exits.{sized}
use Rattle.grammar.proofs.Headers as h
use Rattle.grammar.proofs.Headers.{same_size}
use Rattle.grammar.proofs.parse.Parser.signature.Goals as goal

pub returns : goal.returns
returns c =
    let p = c.args.self.now.cursor in
    (h.signature_done p c.parameters.new.self.cursor c.args.self.now.tree.now c.parameters.new.self.tree.now c.name_parameters.new.self c.len-first.result c.len-end.result c.len-start.result c.len-last.result (c.len-first.ensures ∙ sized c.args.self.now.tree.now.parameters) (c.len-end.ensures ∙ sized c.parameters.new.self.tree.now.parameters) (c.len-start.ensures ∙ sized c.parameters.new.self.tree.now.nodes) (c.len-last.ensures ∙ sized c.name_parameters.new.self.nodes) c.in_ok-parameters.ensures.0 c.in_ok-name_parameters.ensures, c.in_ok-parameters.ensures.1)
