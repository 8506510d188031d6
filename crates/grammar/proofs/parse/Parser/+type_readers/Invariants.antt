-- The words left fall; a call at the same word goes to a function with a smaller number.
use Rattle.std.proofs.Common.{◌+◌, ◌-◌, ◌*◌, length}
use Rattle.grammar.proofs.parse.Parser.+type_readers.Given as goal

abbrev pub decreases-more_types : goal.decreases-more_types
decreases-more_types l = 3 * (length l.self.now.cursor.words.now - l.self.now.cursor.at)

abbrev pub decreases-written_type : goal.decreases-written_type
decreases-written_type l = 3 * (length l.self.now.cursor.words.now - l.self.now.cursor.at) + 1

abbrev pub decreases-written_types : goal.decreases-written_types
decreases-written_types l = 3 * (length l.self.now.cursor.words.now - l.self.now.cursor.at) + 2
