use Rattle.std.proofs.Common.{◌-◌, length}
use Rattle.grammar.proofs.parse.Parser.+listing.Given as goal

abbrev pub decreases-listing : goal.decreases-listing
decreases-listing l = length l.self.now.cursor.words.now - l.self.now.cursor.at
