use Rattle.std.proofs.Common.{rules}
use Rattle.eris_log.specs.Growth.{OfOneShard}
use Rattle.eris_view.proofs.TallyLaws.{AreOfShard-noted}
use Rattle.eris_try_tallies.proofs.views.note.Goals as goal

pub returns : goal.returns
returns c =
    let one : OfOneShard c.args.own.now c.args.part = record { epoch = search rules; shard = search rules } in
    AreOfShard-noted c.args.own.now _ _ _ _ c.in_ok-note.ensures.ok c.requires one
