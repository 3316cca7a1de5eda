use Rattle.std.proofs.Common.{◌≡◌, ◌≤◌, ◌-◌, ◌++◌, length, take}
use Rattle.std.specs.List.{flat_map, AllByRecursion}
use Rattle.eris_frame.specs.Frames.{frame, is_message}
use Rattle.eris_frame.proofs.feed.cut_frames.Given as goal

abbrev pub invariant-loop-messages : goal.invariant-loop-messages
invariant-loop-messages l = record {
  within : l.at ≤ length (l.front ++ l.piece);
  front : take l.at (l.front ++ l.piece) ≡ flat_map frame l.messages;
  each : AllByRecursion is_message l.messages;
}

abbrev pub decreases-loop-messages : goal.decreases-loop-messages
decreases-loop-messages l = length (l.front ++ l.piece) - l.at
