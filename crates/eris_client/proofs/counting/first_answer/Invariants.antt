use Rattle.std.proofs.Common.{◌≡◌, length}
use Rattle.eris_rules.specs.Votes.{first_answer, votes_with}
use Rattle.eris_client.proofs.counting.first_answer.Given as goal

abbrev pub invariant-loop-rest : goal.invariant-loop-rest
invariant-loop-rest l = first_answer (votes_with l.rest l.vote) ≡ first_answer (votes_with l.fn.votes l.vote)

abbrev pub decreases-loop-rest : goal.decreases-loop-rest
decreases-loop-rest l = length l.rest
