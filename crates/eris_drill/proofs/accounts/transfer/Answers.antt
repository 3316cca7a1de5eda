use Rattle.eris_drill.proofs.AccountKeys.{no_fault}
use Rattle.eris_drill.proofs.accounts.transfer.Goals as goal

pub unreachable-requires : goal.unreachable-requires
unreachable-requires c =
    no_fault c.args.turn c.in_ok-keys.keys c.in_ok-guards.guards c.in_ok-settings.settings c.in-Err.field-0 c.requires.payer c.requires.distance
    c.in_ok-keys.ensures c.in_ok-guards.ensures c.in_ok-settings.ensures c.in-Err.ensures.err
