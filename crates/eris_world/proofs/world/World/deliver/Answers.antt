use Rattle.std.proofs.Common.{◌<◌, List, length, ap, sym, subst, ◌∙◌}
use Rattle.std.specs.Prelude.{option_map, slice_get}
use Rattle.std.proofs.lemmas.Result.{IfErr-weaker}
use Rattle.eris_msg.specs.declared.outgoing.Outgoing.{Outgoing}
use Rattle.eris_network.specs.Limits.{IsMetBy}
use Rattle.eris_rules.specs.Happenings.{delivers}
use Rattle.eris_rules.specs.Worlds.{WorldState, no_longer_waiting}
use Rattle.eris_world.specs.Becoming.{Becomes}
use Rattle.eris_world.specs.WorldValues.{WorldValue}
use Rattle.eris_world.proofs.Steps.{becomes_then, delivered, on_ok, taken_sent}
use Rattle.eris_world.proofs.world.World.deliver.Goals as goal

pub come_to-requires-clause-sent : goal.come_to-requires-clause-sent
come_to-requires-clause-sent c = subst (λ (sent : List Outgoing). c.args.number < length sent) (sym (taken_sent c.args.self.now c.take.new.self c.args.number c.take.ensures)) c.requires.sent

pub come_to-requires-clause-to : goal.come_to-requires-clause-to
come_to-requires-clause-to c =
    c.in-Some.ensures ∙ ap (λ (v : WorldValue). option_map (λ (one : Outgoing). one.to) (slice_get v.state.sent c.args.number)) c.self.view_is
    ∙ ap (λ (sent : List Outgoing). option_map (λ (one : Outgoing). one.to) (slice_get sent c.args.number)) (sym (taken_sent c.args.self.now c.take.new.self c.args.number c.take.ensures))

pub returns-clause-ok : goal.returns-clause-ok
returns-clause-ok c =
    let same = delivered c.args.self.now c.take.new.self c.args.number c.args.epoch c.take.ensures in
    on_ok c.come_to.result _ _
    (λ k. becomes_then c.args.self.now c.take.new.self c.come_to.new.self (no_longer_waiting c.args.self.now.state c.args.number) (delivers c.args.self.now.config c.args.self.now.state c.args.number c.args.epoch) c.take.ensures
    (subst (λ (z : WorldState). Becomes c.take.new.self c.come_to.new.self z) same k))
    c.come_to.ensures.ok

pub returns-clause-err : goal.returns-clause-err
returns-clause-err c =
    let same = delivered c.args.self.now c.take.new.self c.args.number c.args.epoch c.take.ensures in
    IfErr-weaker c.come_to.result _ _ (λ fault. subst (λ (z : WorldState). IsMetBy z.sent fault) same) c.come_to.ensures.err
