-- Why an event is refused: its cause, else the limit that it meets. Used where an event is checked, and where it happens.
use Rattle.std.proofs.Common.{◌≡◌, Option, Some, None, Result, Err, ap, sym, subst, ◌∙◌}
use Rattle.std.specs.Option.{option_or}
use Rattle.eris_base.specs.ConfigLimits.{ConfigValue}
use Rattle.eris_network.specs.declared.send_fault.SendFault.{SendFault}
use Rattle.eris_network.specs.declared.send_fault.SendFault.TheVariants as faults
use Rattle.eris_network.specs.Limits.{IsMetBy}
use Rattle.eris_event.specs.declared.refusal.Refusal.{Refusal}
use Rattle.eris_event.specs.declared.refusal.Refusal.TheVariants as r
use Rattle.eris_rules.specs.Happenings.{happens}
use Rattle.eris_rules.specs.Refusals.{cause, limit_met, refusal}
use Rattle.eris_rules.specs.Runs.{taken_by, world_after}
use Rattle.eris_rules.specs.Worlds.{WorldState}
use Rattle.eris_event.specs.declared.event.Event.{Event}
use Rattle.eris_world.specs.Becoming.{Becomes}
use Rattle.eris_world.specs.Checking.{IsTold, Tells, refusal_of}
use Rattle.eris_world.specs.WorldValues.{IsCause, WorldValue}

-- ---- a first cause, else another
told_first : (one other : Option Refusal) (told : Refusal) → IsTold one told → IsTold (option_or one other) told
told_first one other r.NoSuchClient h = ap (λ (z : Option Refusal). option_or z other) h
told_first one other r.NoSuchShard h = ap (λ (z : Option Refusal). option_or z other) h
told_first one other r.NoSuchTxn h = ap (λ (z : Option Refusal). option_or z other) h
told_first one other r.OwnTxn h = ap (λ (z : Option Refusal). option_or z other) h
told_first one other r.NotGeneral h = ap (λ (z : Option Refusal). option_or z other) h
told_first one other r.NoSuchPacket h = ap (λ (z : Option Refusal). option_or z other) h
told_first one other r.NoSuchSequencer h = ap (λ (z : Option Refusal). option_or z other) h
told_first one other r.NoSuchReplica h = ap (λ (z : Option Refusal). option_or z other) h
told_first one other r.Crashed h = ap (λ (z : Option Refusal). option_or z other) h
told_first one other r.IsMessage h = ap (λ (z : Option Refusal). option_or z other) h
told_first one other r.Packets h = ap (λ (z : Option Refusal). option_or z other) h
told_first one other r.Bytes h = ap (λ (z : Option Refusal). option_or z other) h
told_first one other r.NoMemory h = tt

pub tells_first : (one other : Option Refusal) (told : Refusal) → IsTold one told → Tells (option_or one other) (Err told)
tells_first one other told h = told_first one other told h

pub tells_other : (one other : Option Refusal) (answer : Result (Unit {0}) Refusal) → one ≡ None → Tells other answer → Tells (option_or one other) answer
tells_other one other answer e h = subst (λ (z : Option Refusal). Tells (option_or z other) answer) (sym e) h

-- ---- a cause is why an event is refused
pub told_is_cause : (config : ConfigValue) (world : WorldState) (event : Event) (told : Refusal) → IsTold (cause config world event) told → IsCause config world event told
unfolding refusal
told_is_cause config world event r.NoSuchClient h = ap (λ (z : Option Refusal). option_or z (limit_met (happens config world event).sent)) h
told_is_cause config world event r.NoSuchShard h = ap (λ (z : Option Refusal). option_or z (limit_met (happens config world event).sent)) h
told_is_cause config world event r.NoSuchTxn h = ap (λ (z : Option Refusal). option_or z (limit_met (happens config world event).sent)) h
told_is_cause config world event r.OwnTxn h = ap (λ (z : Option Refusal). option_or z (limit_met (happens config world event).sent)) h
told_is_cause config world event r.NotGeneral h = ap (λ (z : Option Refusal). option_or z (limit_met (happens config world event).sent)) h
told_is_cause config world event r.NoSuchPacket h = ap (λ (z : Option Refusal). option_or z (limit_met (happens config world event).sent)) h
told_is_cause config world event r.NoSuchSequencer h = ap (λ (z : Option Refusal). option_or z (limit_met (happens config world event).sent)) h
told_is_cause config world event r.NoSuchReplica h = ap (λ (z : Option Refusal). option_or z (limit_met (happens config world event).sent)) h
told_is_cause config world event r.Crashed h = ap (λ (z : Option Refusal). option_or z (limit_met (happens config world event).sent)) h
told_is_cause config world event r.IsMessage h = ap (λ (z : Option Refusal). option_or z (limit_met (happens config world event).sent)) h
told_is_cause config world event r.Packets h = ap (λ (z : Option Refusal). option_or z (limit_met (happens config world event).sent)) h
told_is_cause config world event r.Bytes h = ap (λ (z : Option Refusal). option_or z (limit_met (happens config world event).sent)) h
told_is_cause config world event r.NoMemory h = tt

-- ---- where there is none
refused_by : (config : ConfigValue) (world : WorldState) (event : Event) → cause config world event ≡ None → refusal config world event ≡ limit_met (happens config world event).sent
unfolding refusal
refused_by config world event h = ap (λ (z : Option Refusal). option_or z (limit_met (happens config world event).sent)) h

pub happened : (before after : WorldValue) (event : Event) → cause before.config before.state event ≡ None → Becomes before after (happens before.config before.state event)
    → world_after before.config before.state event ≡ Some after.state
unfolding world_after
happened before after event none h =
    ap (taken_by (happens before.config before.state event)) (refused_by before.config before.state event none ∙ h.room)
    ∙ ap (λ (z : WorldValue). Some z.state) (sym h.world)

pub met_is_cause : (config : ConfigValue) (world : WorldState) (event : Event) (fault : SendFault) → cause config world event ≡ None → IsMetBy (happens config world event).sent fault
    → IsCause config world event (refusal_of fault)
met_is_cause config world event faults.Packets none h = refused_by config world event none ∙ h
met_is_cause config world event faults.Bytes none h = refused_by config world event none ∙ h
met_is_cause config world event faults.NoMemory none h = tt
