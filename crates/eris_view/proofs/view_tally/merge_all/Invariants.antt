use Rattle.std.proofs.Common.{◌≡◌, take}
use Rattle.eris_view.specs.ViewTallies.{union_of}
use Rattle.eris_view.specs.ViewTallyFacts.{AreOfShard}
use Rattle.eris_view.proofs.view_tally.merge_all.Given as goal

abbrev pub invariant-loop-one : goal.invariant-loop-one
invariant-loop-one l = (l.part ≡ union_of (take l.one-index l.noted) l.fn.part) × AreOfShard l.part l.noted
