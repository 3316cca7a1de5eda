-- How an event is written as a line.
use Rattle.std.specs.Prelude.{ℕ, Option, Some, None, List, [], ◌∷◌, ◌++◌, codes}
use Rattle.std.specs.List.{join_with_byte}
use Rattle.eris_base.specs.declared.ids.Epoch.{Epoch}
use Rattle.eris_base.specs.declared.ids.Node.{Node}
use Rattle.eris_base.specs.declared.ids.Node.TheVariants as node
use Rattle.eris_event.specs.declared.event.Event.{Event}
use Rattle.eris_event.specs.declared.event.Event.TheVariants as event
use Rattle.eris_words.specs.Decimal.{decimal}
use Rattle.eris_grammar.specs.Fields.{hex_word, pair_words}
use Rattle.eris_words.specs.OpText.{ops_words}
use Rattle.eris_words.specs.PlanText.{plan_words}

abbrev pub epoch_words : Option Epoch → List (List ℕ)
epoch_words None = []
epoch_words (Some epoch) = decimal epoch.0 ∷ []

-- a node that gets noise
abbrev pub node_words : ℕ → Node → List (List ℕ)
node_words version node.Sequencer = codes "seq" ∷ []
node_words version node.Coordinator = codes "coord" ∷ []
node_words version (node.Replica shard replica) = codes "rep" ∷ pair_words version shard.0 replica.0
node_words version (node.Client client) = codes "cli" ∷ decimal client.0 ∷ []

-- the words of an event's line
abbrev pub event_words : ℕ → Event → List (List ℕ)
event_words version (event.Submit client ops) = codes "submit" ∷ decimal client.0 ∷ ops_words ops
event_words version (event.General client plan) = codes "general" ∷ decimal client.0 ∷ plan_words plan
event_words version (event.Retry client number) = codes "retry" ∷ pair_words version client.0 number
event_words version (event.Abort asker id) = codes "abort" ∷ decimal asker.0 ∷ pair_words version id.client.0 id.number
event_words version (event.Deliver packet epoch) = codes "deliver" ∷ decimal packet ∷ epoch_words epoch
event_words version event.Flow = codes "flow" ∷ codes "1" ∷ []
event_words version event.Lose = codes "lose" ∷ codes "1" ∷ []
event_words version (event.Probe shard replica) = codes "probe" ∷ pair_words version shard.0 replica.0
event_words version (event.Suspect shard replica) = codes "suspect" ∷ pair_words version shard.0 replica.0
event_words version (event.Sync shard replica) = codes "sync" ∷ pair_words version shard.0 replica.0
event_words version (event.Crash shard replica) = codes "crash" ∷ pair_words version shard.0 replica.0
event_words version event.Nudge = codes "nudge" ∷ []
event_words version event.Replace = codes "replace" ∷ []
event_words version (event.Noise node bytes) = codes "noise" ∷ node_words version node ++ hex_word bytes ∷ []

-- the line, without the LF that ends it
abbrev pub event_text : ℕ → Event → List ℕ
event_text version event = join_with_byte 32 (event_words version event)
