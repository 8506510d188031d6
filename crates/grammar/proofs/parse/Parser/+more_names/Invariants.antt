use Rattle.std.proofs.Common.{◌-◌, length}
use Rattle.grammar.proofs.parse.Parser.+more_names.Given as goal

abbrev pub decreases-more_names : goal.decreases-more_names
decreases-more_names l = length l.self.now.cursor.words.now - l.self.now.cursor.at
