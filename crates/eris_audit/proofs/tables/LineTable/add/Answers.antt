use Rattle.std.proofs.Common.{◌≡◌, None, [], ◌∷◌, ◌++◌, ap, ◌∙◌}
use Rattle.eris_base.specs.contracts.ids.TxnIdPartialEq.TheImpl as derived
use Rattle.eris_base.proofs.Booleans.{none_from}
use Rattle.indexmap.proofs.CallerLemmas.{insert_entry-new}
use Rattle.eris_audit.specs.Lines.{has_line, outcome_in}
use Rattle.eris_audit.specs.Tables.{lines_from}
use Rattle.eris_audit.proofs.TableLines.{lookup-outcome, is_some-outcome, lines_from-append}
use Rattle.eris_audit.proofs.tables.LineTable.add.Goals as goal

pub returns : goal.returns
returns c =
    let table = c.self.inside.outcomes in
    let absent : outcome_in (lines_from table.entries) c.args.id ≡ None =
    none_from _ (is_some-outcome (lines_from table.entries) c.args.id ∙ ap (λ lines. has_line lines c.args.id) c.self.view_is ∙ c.requires) in
    ap lines_from (c.in_ok-insert.ensures.entries ∙ insert_entry-new derived.eq-value.it table c.args.id c.args.outcome (lookup-outcome table.entries c.args.id ∙ absent))
    ∙ lines_from-append table.entries ((c.args.id, c.args.outcome) ∷ [])
    ∙ ap (λ lines. lines ++ record { id = c.args.id; outcome = c.args.outcome } ∷ []) c.self.view_is
