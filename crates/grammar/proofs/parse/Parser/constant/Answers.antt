use Rattle.std.proofs.Common.{sym, refl, subst, arith}
use Rattle.syntax.specs.Grammar as g
use Rattle.grammar.specs.Arena as at
use Rattle.grammar.proofs.Growth.{takes, quiet_all}
use Rattle.grammar.proofs.Exits.{finish, rest_after}
use Rattle.grammar.proofs.parse.Parser.constant.Goals as goal

pub returns : goal.returns
returns c =
    let p = c.args.self.now in
    let b = c.requires.begins in (
      finish g.Plain at.Stands _ c.add_node.result (takes p.cursor p.tree.now b.1 c.advance.ensures) (omega arith) (quiet_all p.tree.now) c.add_node.ensures
          (λ k q h o. (_, subst (g.Plain _ _) (sym (rest_after c.advance.ensures)) b.2, at.constant_at h)),
      refl,
    )
