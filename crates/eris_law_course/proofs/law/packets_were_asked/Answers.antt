use Rattle.eris_law_course.proofs.Packets.{packet_body, packet_commit, packet_shards, packet_submitted, was_asked}
use Rattle.eris_law_course.proofs.law.packets_were_asked.Goals as goal

pub returns-clause-asked : goal.returns-clause-asked
returns-clause-asked c = was_asked

pub returns-clause-submitted : goal.returns-clause-submitted
returns-clause-submitted c = packet_submitted

pub returns-clause-shards : goal.returns-clause-shards
returns-clause-shards c = packet_shards

pub returns-clause-bodies : goal.returns-clause-bodies
returns-clause-bodies c = packet_body

pub returns-clause-commits : goal.returns-clause-commits
returns-clause-commits c = packet_commit
