use Rattle.std.proofs.Common.{◌∙◌, sym}
use Rattle.eris_drill.specs.Submitted.{kept_of}
use Rattle.eris_drill.proofs.Kept.{first_put, first_stays}
use Rattle.eris_drill.proofs.summing.keep.Goals as goal

pub returns-in_ok-insert : goal.returns-in_ok-insert
returns-in_ok-insert c =
    first_put (kept_of c.args.kept.now.entries) (kept_of c.insert.new.self.entries) c.args.id c.args.txn.now c.in_ok-copy.field-0
    (sym c.contains_key.ensures ∙ c.if-not-contains_key.true) c.in_ok-copy.ensures c.in_ok-insert.ensures.updates.0

pub returns-else-not-contains_key : goal.returns-else-not-contains_key
returns-else-not-contains_key c =
    first_stays (kept_of c.args.kept.now.entries) c.args.id c.args.txn.now (sym c.contains_key.ensures ∙ c.if-not-contains_key.false)
