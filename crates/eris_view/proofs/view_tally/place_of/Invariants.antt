use Rattle.std.proofs.Common.{◌≡◌, take, drop, ◌++◌}
use Rattle.eris_log.specs.PartValues.{PartValue}
use Rattle.eris_view.specs.ViewTallies.{with_part}
use Rattle.eris_view.proofs.view_tally.place_of.Given as goal

abbrev pub invariant-loop-at : goal.invariant-loop-at
invariant-loop-at l =
    (part : PartValue) → with_part l.noted l.replica part ≡ take l.at l.noted ++ with_part (drop l.at l.noted) l.replica part
