use Rattle.std.proofs.Common.{◌≡◌, [], take}
use Rattle.eris_base.specs.Each.{EachAfter}
use Rattle.eris_audit.specs.IsSerial.{FollowsAnswered}
use Rattle.eris_audit.specs.Turns.{greatest_answered}
use Rattle.eris_audit.proofs.rules.first_out_of_turn.Given as goal

abbrev pub invariant-loop-place : goal.invariant-loop-place
invariant-loop-place l =
    (l.greatest ≡ greatest_answered l.table (take l.place l.events))
    × EachAfter (FollowsAnswered l.table) [] (take l.place l.events)
