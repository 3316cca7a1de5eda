use Rattle.eris_network.proofs.NetworkLaws.{none_sent}
use Rattle.eris_network.proofs.network.Network.new.Goals as goal

pub returns : goal.returns
returns c = none_sent c.new.result c.new-2.result c.new.ensures c.new-2.ensures
