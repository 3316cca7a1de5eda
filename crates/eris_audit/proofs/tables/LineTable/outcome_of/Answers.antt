use Rattle.std.proofs.Common.{ap, ◌∙◌}
use Rattle.eris_audit.specs.Lines.{outcome_in}
use Rattle.eris_audit.proofs.TableLines.{lookup-outcome}
use Rattle.eris_audit.proofs.tables.LineTable.outcome_of.Goals as goal

pub returns : goal.returns
returns c =
    let id = c.args.id.now in
    c.copied.ensures ∙ c.get.ensures.value ∙ lookup-outcome c.self.inside.outcomes.entries id ∙ ap (λ lines. outcome_in lines id) c.self.view_is
