use Rattle.std.proofs.Common.{◌≤◌, ◌+◌, ◌++◌, length, arith}
use Rattle.std.proofs.lemmas.List.{length-append}
use Rattle.std.proofs.lemmas.Result.{IfErr-weaker}
use Rattle.eris_network.proofs.LimitLaws.{met_packets, met_by, all_within}
use Rattle.eris_network.proofs.frames.Frames.add_sends.Goals as goal

pub returns-then-sends-before-clause-err : goal.returns-then-sends-before-clause-err
returns-then-sends-before-clause-err c = λ sent counts.
    met_packets sent (c.args.self.now ++ c.args.sends.now) c.args.before counts
    (omega (arith, c.if-sends-before.true, c.len.ensures.exact, length-append c.args.self.now c.args.sends.now))

pub returns-clause-room : goal.returns-clause-room
returns-clause-room c = λ sent counts.
    all_within sent c.args.self.now c.args.sends.now c.add_all.new.self c.args.before counts c.requires.bytes
    (omega (arith, c.if-sends-before.false, c.requires.packets, c.len.ensures.exact)) c.add_all.result c.add_all.ensures.ok c.add_all.ensures.within

pub returns-clause-err : goal.returns-clause-err
returns-clause-err c = λ sent counts.
    let few : c.args.before.packets + length (c.args.self.now ++ c.args.sends.now) ≤ 262144 =
    omega (arith, c.if-sends-before.false, c.requires.packets, c.len.ensures.exact, length-append c.args.self.now c.args.sends.now) in
    let small : c.args.before.bytes ≤ 67108864 = omega (arith, c.requires.bytes) in
    IfErr-weaker c.add_all.result _ _ (λ fault. met_by sent (c.args.self.now ++ c.args.sends.now) c.args.before fault counts few small) c.add_all.ensures.err
