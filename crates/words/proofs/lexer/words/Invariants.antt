use Rattle.std.proofs.Common.{◌≡◌, ◌-◌, ◌≤◌, length, vec_items, vec_capacity}
use Rattle.words.proofs.Turns.{SoFar}
use Rattle.words.proofs.lexer.words.Given as goal

abbrev pub invariant-loop-word : goal.invariant-loop-word
invariant-loop-word l = record {
  same : l.reader.listing.now ≡ l.listing;
  so_far : SoFar l.listing l.reader.place (vec_items l.initial.out) (vec_items l.out);
  grows : vec_capacity l.initial.out ≤ vec_capacity l.out;
}

abbrev pub decreases-loop-word : goal.decreases-loop-word
decreases-loop-word l = length l.listing - l.reader.place
