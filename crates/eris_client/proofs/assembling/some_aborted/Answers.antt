use Rattle.std.proofs.Common.{sym, ◌∙◌}
use Rattle.eris_general.specs.Outcomes.{is_aborted}
use Rattle.eris_client.proofs.ItemByItem.{answers_any}
use Rattle.eris_client.proofs.assembling.some_aborted.Goals as goal

pub returns : goal.returns
returns c = c.any_aborted.ensures ∙ sym (answers_any is_aborted c.args.counted.now)
