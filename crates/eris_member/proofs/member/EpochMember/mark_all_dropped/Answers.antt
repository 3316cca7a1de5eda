use Rattle.std.proofs.Common.{◌≡◌, get_or, ap, sym, ◌∙◌}
use Rattle.eris_base.specs.declared.ids.Place.{Place}
use Rattle.eris_log.specs.PartValues.{PartValue}
use Rattle.eris_log.specs.Parts.{mark_dropped}
use Rattle.eris_member.specs.MemberValues.{MemberValue}
use Rattle.eris_member.proofs.Told.{each_at, drops_none, drops_more}
use Rattle.eris_member.proofs.member.EpochMember.mark_all_dropped.Goals as goal

pub loop-place-init : goal.loop-place-init
loop-place-init c =
    let before = c.args.self.now in
    ap (λ (part : PartValue). record before { state = record before.state { part = part } }) (drops_none before.state.part)

pub mark_dropped-requires : goal.mark_dropped-requires
mark_dropped-requires c =
    each_at (λ (place : Place). place.epoch ≡ c.args.self.now.epoch) c.args.places.now c.loop-place.place-index _ c.requires c.loop-place-test.true
    ∙ sym (ap (λ (value : MemberValue). value.epoch) c.loop-place.invariant)

pub loop-place-preserved : goal.loop-place-preserved
loop-place-preserved c =
    let before = c.args.self.now in
    let none : Place = record { epoch = record { 0 = 0 }; shard = record { 0 = 0 }; number = 0 } in
    c.in_ok-mark_dropped.ensures
    ∙ ap (λ (value : MemberValue). record value { state = record value.state { part = mark_dropped value.state.part (get_or c.args.places.now c.loop-place.place-index none) } }) c.loop-place.invariant
    ∙ ap (λ (part : PartValue). record before { state = record before.state { part = part } }) (drops_more before.state.part c.args.places.now c.loop-place.place-index none c.loop-place-test.true)
