use Rattle.std.proofs.Common.{◌+◌, List, ap, subst, length, take, arith}
use Rattle.std.proofs.lemmas.List.{length-append, length-take}
use Rattle.eris_msg.specs.declared.outgoing.Outgoing.{Outgoing}
use Rattle.eris_network.specs.Limits.{IsTooMuch}
use Rattle.eris_network.proofs.AddLaws.{too_much_all, more_at}
use Rattle.eris_network.proofs.frames.Frames.add_all.Goals as goal

pub add-requires-clause-few : goal.add-requires-clause-few
add-requires-clause-few c =
    omega (arith, c.requires.few, c.loop-one-test.true, ap length c.loop-one.invariant.0, length-append c.args.self.now (take c.loop-one.one-index c.args.sends.now), length-take c.loop-one.one-index c.args.sends.now)

pub returns-in-Err-clause-err : goal.returns-in-Err-clause-err
returns-in-Err-clause-err c =
    let sent = more_at c.args.self.now c.args.sends.now c.loop-one.self c.loop-one.one-index c.one-item.result c.loop-one.invariant.0 c.loop-one-test.true c.one-item.is in
    too_much_all c.args.room c.args.self.now c.args.sends.now (c.loop-one.one-index + 1) c.in-Err.fault
    (subst (λ (s : List Outgoing). IsTooMuch c.args.room s c.in-Err.fault) sent c.in-Err.ensures.err)
