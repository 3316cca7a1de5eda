use Rattle.eris_law_calm.proofs.Prompt.{prompt_answers}
use Rattle.eris_law_calm.proofs.Receiving.{replies, vouches}
use Rattle.eris_law_calm.proofs.law.replicas_speak_at_once.Goals as goal

pub returns-clause-vouch : goal.returns-clause-vouch
returns-clause-vouch c = vouches

pub returns-clause-reply : goal.returns-clause-reply
returns-clause-reply c = replies

pub returns-clause-answer : goal.returns-clause-answer
returns-clause-answer c = prompt_answers
