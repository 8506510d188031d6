-- The words left fall; a call at the same word goes to a function with a smaller number.
use Rattle.std.proofs.Common.{◌+◌, ◌-◌, ◌*◌, length}
use Rattle.grammar.proofs.parse.Parser.+term_readers.Given as goal

abbrev pub decreases-bind_term : goal.decreases-bind_term
decreases-bind_term l = 4 * (length l.self.now.cursor.words.now - l.self.now.cursor.at)

abbrev pub decreases-gate_term : goal.decreases-gate_term
decreases-gate_term l = 4 * (length l.self.now.cursor.words.now - l.self.now.cursor.at)

abbrev pub decreases-if_term : goal.decreases-if_term
decreases-if_term l = 4 * (length l.self.now.cursor.words.now - l.self.now.cursor.at)

abbrev pub decreases-meas_term : goal.decreases-meas_term
decreases-meas_term l = 4 * (length l.self.now.cursor.words.now - l.self.now.cursor.at)

abbrev pub decreases-more_terms : goal.decreases-more_terms
decreases-more_terms l = 4 * (length l.self.now.cursor.words.now - l.self.now.cursor.at)

abbrev pub decreases-name_or_call : goal.decreases-name_or_call
decreases-name_or_call l = 4 * (length l.self.now.cursor.words.now - l.self.now.cursor.at)

abbrev pub decreases-parenthesis : goal.decreases-parenthesis
decreases-parenthesis l = 4 * (length l.self.now.cursor.words.now - l.self.now.cursor.at)

abbrev pub decreases-plain_term : goal.decreases-plain_term
decreases-plain_term l = 4 * (length l.self.now.cursor.words.now - l.self.now.cursor.at) + 1

abbrev pub decreases-term : goal.decreases-term
decreases-term l = 4 * (length l.self.now.cursor.words.now - l.self.now.cursor.at) + 2

abbrev pub decreases-terms : goal.decreases-terms
decreases-terms l = 4 * (length l.self.now.cursor.words.now - l.self.now.cursor.at) + 3

abbrev pub decreases-using_term : goal.decreases-using_term
decreases-using_term l = 4 * (length l.self.now.cursor.words.now - l.self.now.cursor.at)
