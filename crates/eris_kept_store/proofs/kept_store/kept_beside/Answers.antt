use Rattle.std.proofs.Common.{◌≡◌, ℕ, rules, sym, subst, unwrap_or}
use Rattle.eris_base.specs.Places.{number_in}
use Rattle.eris_log.specs.Parts.{hold}
use Rattle.eris_kept_store.specs.KeptStores.{AreSameBelow}
use Rattle.eris_kept_store.proofs.Holding.{holds_above}
use Rattle.eris_kept_store.proofs.kept_store.kept_beside.Goals as goal

pub returns-clause-right : goal.returns-clause-right
returns-clause-right c =
    λ prior part same right.
    let packet = c.args.packet.now in
    let numbers : c.unwrap_or.result ≡ unwrap_or (number_in packet.stamp.places c.args.shard) 0 = search rules in
    c.kept_below.ensures.right c.args.shard prior part (hold part packet)
    (subst (λ (number : ℕ). AreSameBelow number part (hold part packet)) (sym numbers) (holds_above part c.args.shard packet same)) right
