use Rattle.std.proofs.Common.{◌≤◌, ◌+◌, ◌-◌, length}
use Rattle.eris_live_book.specs.Places.{IsPlaceIn, NoneBetween, sent_by}
use Rattle.eris_live_book.proofs.place.next.Given as goal

abbrev pub invariant-loop-place : goal.invariant-loop-place
invariant-loop-place l = IsPlaceIn l.posts l.place × (l.fn.from.number ≤ l.place.number) × NoneBetween (sent_by l.posts) l.fn.node l.fn.from.number l.place.number

abbrev pub decreases-loop-place : goal.decreases-loop-place
decreases-loop-place l = (length (sent_by l.posts) + length l.posts) - (l.place.number + l.place.post)
