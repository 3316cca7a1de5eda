-- The system of a live run, and the numbers of its nodes.
use Rattle.std.specs.Prelude.{ℕ, ◌+◌, ◌*◌, ◌&&◌, nat_lt, Option, List, [], ◌∷◌, slice_get, if◌then◌else◌}
use Rattle.eris_base.specs.declared.ids.Node.{Node}
use Rattle.eris_base.specs.declared.ids.Node.TheVariants.{Sequencer, Coordinator, Replica, Client}
use Rattle.eris_base.specs.ConfigLimits.{ConfigValue}

-- THE SYSTEM: 2 shards, f = 1, 2 clients
abbrev pub live_config : ConfigValue
live_config = record { shards = 2; f = 1; clients = 2 }

abbrev pub replica_of : ℕ → ℕ → Node
replica_of shard replica = Replica (record { 0 = shard }) (record { 0 = replica })

abbrev pub client_of : ℕ → Node
client_of client = Client (record { 0 = client })

-- ITS NODES, in the order of their numbers from 0: the sequencers of all epochs, which are one node, the
-- coordinator, the replicas by shard and replica, and the clients
unfoldable pub live_nodes : List Node
live_nodes =
    Sequencer ∷ Coordinator
    ∷ replica_of 0 0 ∷ replica_of 0 1 ∷ replica_of 0 2
    ∷ replica_of 1 0 ∷ replica_of 1 1 ∷ replica_of 1 2
    ∷ client_of 0 ∷ client_of 1
    ∷ []

-- the node of a number, if there is one
abbrev pub node_of : ℕ → Option Node
node_of number = slice_get live_nodes number

-- THE NUMBER of a node. One that isn't of the system gets 10, which no node of it has.
unfoldable pub number_of : Node → ℕ
number_of Sequencer = 0
number_of Coordinator = 1
number_of (Replica shard replica) = if nat_lt shard.0 2 && nat_lt replica.0 3 then 2 + 3 * shard.0 + replica.0 else 10
number_of (Client client) = if nat_lt client.0 2 then 8 + client.0 else 10
