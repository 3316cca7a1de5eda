use Rattle.std.proofs.Common.{◌≡◌, ◌++◌, take}
use Rattle.std.specs.List.{flat_map}
use Rattle.eris_words.specs.PlanText.{guard_words}
use Rattle.eris_words.specs.Words.{spaced}
use Rattle.eris_words.proofs.plan_text.put_guards.Given as goal

abbrev pub invariant-loop-guard : goal.invariant-loop-guard
invariant-loop-guard l = l.out ≡ l.fn.out ++ spaced (flat_map guard_words (take l.guard-index l.guards))
