use Rattle.std.proofs.Common.{◌≡◌, Option, sym, subst}
use Rattle.eris_kept_store.specs.KeptStores.{KeptValue, IfKept}
use Rattle.eris_log.specs.PartValues.{PartValue}
use Rattle.eris_log.specs.Parts.{hold}
use Rattle.eris_member.specs.MemberValues.{IsMember}
use Rattle.eris_member.proofs.Kept.{hold_own}
use Rattle.eris_member.proofs.member.EpochMember.hold.Goals as goal

pub invariant_of-self-2 : goal.invariant_of-self-2
invariant_of-self-2 c =
    let inside = c.self.inside in
    let before = c.self.invariant in
    let kept : IfKept inside.shard inside.prior inside.part c.take.result =
    subst (λ (kept : Option KeptValue). IfKept inside.shard inside.prior inside.part kept) (sym c.take.ensures.value) before.right in
    subst (λ (part : PartValue). IsMember inside.config inside.epoch inside.shard inside.prior part inside.tally inside.acks c.kept_beside-kept.result)
    (sym c.in_ok-hold.ensures.ok)
    (record {
      own = hold_own inside.epoch inside.shard inside.part c.args.packet before.own;
      noted = before.noted;
      tally_faults = before.tally_faults;
      ack_faults = before.ack_faults;
      right = c.kept_beside-kept.ensures.right inside.prior inside.part before.own.on_shard kept;
    })
