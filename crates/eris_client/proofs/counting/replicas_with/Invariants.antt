use Rattle.std.proofs.Common.{◌≡◌, map, take}
use Rattle.eris_rules.specs.Votes.{votes_with}
use Rattle.eris_client.proofs.counting.replicas_with.Given as goal

abbrev pub invariant-loop-other : goal.invariant-loop-other
invariant-loop-other l = l.replicas ≡ map (λ one. one.replica) (votes_with (take l.other-index l.votes) l.vote)
