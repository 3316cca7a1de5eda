use Rattle.std.proofs.Common.{List, ℕ, ap, sym, ◌∙◌}
use Rattle.eris_base.specs.declared.ids.Phase.{Phase}
use Rattle.eris_base.specs.declared.ids.ShardId.{ShardId}
use Rattle.eris_locks.specs.States.{phase_of}
use Rattle.eris_rules.specs.ClientStates.{body_of}
use Rattle.eris_client.specs.Assembled.{count_of}
use Rattle.eris_client.specs.Halves.{fits_half}
use Rattle.eris_client.proofs.ItemShards.{fits_by_items}
use Rattle.eris_client.proofs.fitting.answer_fits.Goals as goal

pub returns : goal.returns
returns c =
    c.fits_half.ensures
    ∙ ap (λ (phase : Phase). fits_half phase c.count_of.result c.args.answer.now) c.course_phase.ensures
    ∙ ap (λ (count : ℕ). fits_half (phase_of (body_of c.args.course.now)) count c.args.answer.now) (c.count_of.ensures ∙ ap (λ (shards : List ShardId). count_of shards c.args.shard) c.requires)
    ∙ sym (fits_by_items (body_of c.args.course.now) c.args.shard c.args.answer.now)
