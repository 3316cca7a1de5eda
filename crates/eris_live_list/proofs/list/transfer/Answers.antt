use Rattle.eris_live_list.proofs.Keys.{made, no_fault}
use Rattle.eris_live_list.proofs.list.transfer.Goals as goal

pub unreachable-requires : goal.unreachable-requires
unreachable-requires c =
    no_fault c.in_ok-keys.keys c.new.result c.in_ok-settings.settings c.in-Err.field-0
    c.in_ok-keys.ensures c.new.ensures c.in_ok-settings.ensures c.in-Err.ensures.err

pub returns : goal.returns
returns c =
    made c.in-Ok.plan c.in_ok-keys.keys c.new.result c.in_ok-settings.settings c.in-Ok.ensures.ok.0
    c.in_ok-keys.ensures c.new.ensures c.in_ok-settings.ensures
