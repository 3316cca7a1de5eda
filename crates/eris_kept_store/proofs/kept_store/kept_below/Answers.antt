use Rattle.std.proofs.Common.{sym, ◌∙◌}
use Rattle.eris_kept_store.proofs.Kept.{stays_where}
use Rattle.eris_kept_store.proofs.kept_store.kept_below.Goals as goal

pub returns-then-is_below-clause-right : goal.returns-then-is_below-clause-right
returns-then-is_below-clause-right c =
    λ shard prior some other same right.
    stays_where shard prior some other c.args.kept c.args.number (sym c.is_below.ensures ∙ c.if-is_below.true) same right
