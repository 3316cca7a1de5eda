use Rattle.std.proofs.Common.{◌≡◌, ℕ, ◌+◌, ◌++◌, List, take, ap, ◌∙◌, arith}
use Rattle.std.specs.List.{filter}
use Rattle.eris_txn.specs.declared.packet.Packet.{Packet}
use Rattle.eris_rules.specs.WorldOrders.{stamping_list, survives}
use Rattle.eris_world.proofs.OrderLaws.{all_epochs, epoch_more, no_epochs}
use Rattle.eris_world.proofs.ordering.all_survivors.Goals as goal

pub loop-number-init : goal.loop-number-init
loop-number-init c = c.new-packets.ensures ∙ no_epochs (survives c.args.world.now.state)

pub loop-number-preserved : goal.loop-number-preserved
loop-number-preserved c =
    epoch_more (survives c.args.world.now.state) c.args.sequencers.now.stampings c.newest.result c.loop-number.number (record { 0 = c.in_ok-count_of.field-0 }) c.loop-number.packets c.add_survivors.new.packets
    c.newest.ensures.exact c.newest.ensures.fits.some c.loop-number-test.true c.in_ok-count_of.ensures c.loop-number.invariant
    (c.in_ok-add_survivors.ensures ∙ ap (λ (l : List Packet). c.loop-number.packets ++ filter (survives c.args.world.now.state) l) c.stamped.ensures)

pub returns : goal.returns
returns c =
    let at_end : c.loop-number.number ≡ c.newest.result.0 + 1 = omega (arith, c.loop-number-test.false, c.loop-number.auto.number-end) in
    c.loop-number.invariant
    ∙ ap (λ (n : ℕ). filter (survives c.args.world.now.state) (stamping_list (take n c.args.sequencers.now.stampings))) at_end
    ∙ all_epochs (survives c.args.world.now.state) c.args.sequencers.now.stampings c.newest.result c.newest.ensures.exact c.newest.ensures.fits.some
