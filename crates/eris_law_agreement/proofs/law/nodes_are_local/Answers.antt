use Rattle.eris_law_agreement.proofs.NodeLocality.{client_local, client_one, coordinator_local, coordinator_one, stampings_local, stampings_one}
use Rattle.eris_law_agreement.proofs.law.nodes_are_local.Goals as goal

pub returns-clause-coordinator : goal.returns-clause-coordinator
returns-clause-coordinator c = coordinator_one

pub returns-clause-sequencers : goal.returns-clause-sequencers
returns-clause-sequencers c = stampings_one

pub returns-clause-client : goal.returns-clause-client
returns-clause-client c = client_one

pub returns-clause-coordinator_run : goal.returns-clause-coordinator_run
returns-clause-coordinator_run c = coordinator_local

pub returns-clause-sequencers_run : goal.returns-clause-sequencers_run
returns-clause-sequencers_run c = stampings_local

pub returns-clause-client_run : goal.returns-clause-client_run
returns-clause-client_run c = client_local
