-- Each message that is sent in an epoch is of the epoch: so is its packet, place, part or stamp. It is used where each
-- epoch of a whole run is shown to be a run of this machine: the message that a whole node sends leads back to it.
use Rattle.std.proofs.Common.{◌≡◌, List, [], ◌∷◌, true, ℕ}
use Rattle.std.specs.Prelude.{⊤}
use Rattle.std.proofs.lemmas.Bool.{and_parts, eqb-true}
use Rattle.eris_base.specs.declared.ids.Epoch.{Epoch}
use Rattle.eris_base.specs.declared.ids.Place.{Place}
use Rattle.eris_base.specs.Each.{Each}
use Rattle.eris_base.proofs.IdLaws.{epoch_equal}
use Rattle.eris_log.specs.Places.{are_of_epoch}
use Rattle.eris_rules.specs.EpochMessages.{EpochMessage, EpochSend, Stamped, Instructs, Notifies, Exchanges, Responds, Instruction, Request, Found, Dropped, Notice, Find, Has, TempDropped, Exchange, ViewChange, StartView, SyncAsk, Ack, Settled, Response, Vouch, Reply, Late}
use Rattle.eris_rules.specs.Outer.{IsOf}
use Rattle.eris_law_epoch.specs.EpochWorlds.{EpochSystem, EpochEvent, moment}
use Rattle.eris_law_epoch.specs.Fine.{KnownLists, known_in, IsFineMessage}
use Rattle.eris_law_epoch.specs.Members.{In}
use Rattle.eris_law_epoch.proofs.FineWorlds.{all_fine}
use Rattle.eris_law_epoch.proofs.Members.{Each-at}

marks_of : (epoch : Epoch) (places : List Place) → are_of_epoch epoch places ≡ true → Each (λ place. place.epoch ≡ epoch) places
marks_of epoch [] h = tt
marks_of epoch (place ∷ places) h = let parts = and_parts _ _ h in (epoch_equal place.epoch epoch (eqb-true _ _ parts.0), marks_of epoch places parts.1)

-- a late answer names no epoch
abbrev pub NamesEpoch : EpochMessage → Type 0
NamesEpoch (Stamped packet) = ⊤
NamesEpoch (Instructs instruction) = ⊤
NamesEpoch (Notifies notice) = ⊤
NamesEpoch (Exchanges exchange) = ⊤
NamesEpoch (Responds (Vouch view shard replica stamp id phase)) = ⊤
NamesEpoch (Responds (Reply view shard replica stamp id phase answer)) = ⊤
NamesEpoch (Responds (Late shard replica id phase answer)) = ⊥

module _ (epoch : Epoch) (known : KnownLists) where
  of_instruction : (instruction : Instruction) → IsFineMessage epoch known (Instructs instruction) → IsOf epoch (Instructs instruction)
  of_instruction (Request place) f = f
  of_instruction (Found packet) f = f.packet_is.of_epoch.epoch_is
  of_instruction (Dropped place) f = f.epoch_is

  of_notice : (notice : Notice) → IsFineMessage epoch known (Notifies notice) → IsOf epoch (Notifies notice)
  of_notice (Find replica place) f = f
  of_notice (Has packet) f = f.of_epoch.epoch_is
  of_notice (TempDropped place shard replica view) f = f

  of_exchange : (exchange : Exchange) → IsFineMessage epoch known (Exchanges exchange) → IsOf epoch (Exchanges exchange)
  of_exchange (ViewChange replica view part) f = f.epoch_is
  of_exchange (StartView view part) f = f.epoch_is
  of_exchange (SyncAsk view) f = tt
  of_exchange (Ack replica view length) f = tt
  of_exchange (Settled view number places) f = marks_of epoch places f.marks.of_epoch

  of_response : (response : Response) → IsFineMessage epoch known (Responds response) → NamesEpoch (Responds response) → IsOf epoch (Responds response)
  of_response (Vouch view shard replica stamp id phase) f h = f
  of_response (Reply view shard replica stamp id phase answer) f h = f
  of_response (Late shard replica id phase answer) f h = absurd h

  pub fine_is_of : (message : EpochMessage) → IsFineMessage epoch known message → NamesEpoch message → IsOf epoch message
  fine_is_of (Stamped packet) f h = f.of_epoch.epoch_is
  fine_is_of (Instructs instruction) f h = of_instruction instruction f
  fine_is_of (Notifies notice) f h = of_notice notice f
  fine_is_of (Exchanges exchange) f h = of_exchange exchange f
  fine_is_of (Responds response) f h = of_response response f h

pub sent_is_of : (system : EpochSystem) (events : List EpochEvent) (k : ℕ) (one : EpochSend) → In one (moment system events k).sent → NamesEpoch one.message → IsOf system.epoch one.message
sent_is_of system events k one i h = fine_is_of system.epoch (known_in (moment system events k)) one.message (Each-at _ (moment system events k).sent one (all_fine system events k).sent i) h
