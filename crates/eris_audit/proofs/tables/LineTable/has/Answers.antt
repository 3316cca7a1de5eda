use Rattle.std.proofs.Common.{ap, ◌∙◌, is_some}
use Rattle.eris_audit.specs.Lines.{has_line}
use Rattle.eris_audit.specs.Tables.{lines_from}
use Rattle.eris_audit.proofs.TableLines.{lookup-outcome, is_some-outcome}
use Rattle.eris_audit.proofs.tables.LineTable.has.Goals as goal

pub returns : goal.returns
returns c =
    let id = c.args.id.now in
    let entries = c.self.inside.outcomes.entries in
    c.contains_key.ensures ∙ ap is_some (lookup-outcome entries id) ∙ is_some-outcome (lines_from entries) id ∙ ap (λ lines. has_line lines id) c.self.view_is
