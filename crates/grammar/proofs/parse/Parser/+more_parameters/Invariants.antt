use Rattle.std.proofs.Common.{◌-◌, length}
use Rattle.grammar.proofs.parse.Parser.+more_parameters.Given as goal

abbrev pub decreases-more_parameters : goal.decreases-more_parameters
decreases-more_parameters l = length l.self.now.cursor.words.now - l.self.now.cursor.at
