use Rattle.std.proofs.Common.{◌≡◌, map, take}
use Rattle.eris_client.proofs.assembling.all_answers.Given as goal

abbrev pub invariant-loop-pair : goal.invariant-loop-pair
invariant-loop-pair l = l.answers ≡ map (λ pair. pair.1) (take l.pair-index l.counted)
