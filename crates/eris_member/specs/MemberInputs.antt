-- What makes a replica step within its epoch, as the rules have it.
use Rattle.std.specs.Prelude.{◌≡◌, ◌<◌, ◌+◌, ◌*◌, ⊤}
use Rattle.eris_base.specs.declared.ids.Epoch.{Epoch}
use Rattle.eris_base.specs.ConfigLimits.{ConfigValue}
use Rattle.eris_base.specs.Each.{Each}
use Rattle.eris_rules.specs.EpochMessages.{Stamped, Instructs, Exchanges, Request, Found, Dropped, ViewChange, StartView, SyncAsk, Ack, Settled}
use Rattle.eris_rules.specs.EpochReplicas.{EpochInput, Get, Probe, Suspect, Sync}
use Rattle.eris_member.specs.declared.input.MemberInput.{MemberInput}
use Rattle.eris_member.specs.declared.input.MemberInput.TheVariants as given

abbrev pub input_of : MemberInput → EpochInput
input_of (given.Txn packet) = Get (Stamped packet)
input_of (given.Request place) = Get (Instructs (Request place))
input_of (given.Found packet) = Get (Instructs (Found packet))
input_of (given.Dropped place) = Get (Instructs (Dropped place))
input_of (given.ViewChange replica view part) = Get (Exchanges (ViewChange replica view part))
input_of (given.StartView view part) = Get (Exchanges (StartView view part))
input_of (given.SyncAsk view) = Get (Exchanges (SyncAsk view))
input_of (given.Ack replica view length) = Get (Exchanges (Ack replica view length))
input_of (given.Settled view number places) = Get (Exchanges (Settled view number places))
input_of given.Probe = Probe
input_of given.Suspect = Suspect
input_of given.Sync = Sync

-- what the message carries is of this epoch, and its sender is one of the shard's replicas
abbrev pub IsFor : Epoch → ConfigValue → MemberInput → Type 0
IsFor epoch config (given.Txn packet) = packet.stamp.epoch ≡ epoch
IsFor epoch config (given.Request place) = place.epoch ≡ epoch
IsFor epoch config (given.Found packet) = packet.stamp.epoch ≡ epoch
IsFor epoch config (given.Dropped place) = place.epoch ≡ epoch
IsFor epoch config (given.ViewChange replica view part) = part.epoch ≡ epoch
IsFor epoch config (given.StartView view part) = part.epoch ≡ epoch
IsFor epoch config (given.SyncAsk view) = ⊤
IsFor epoch config (given.Ack replica view length) = replica.0 < 2 * config.f + 1
IsFor epoch config (given.Settled view number places) = Each (λ place. place.epoch ≡ epoch) places
IsFor epoch config given.Probe = ⊤
IsFor epoch config given.Suspect = ⊤
IsFor epoch config given.Sync = ⊤
