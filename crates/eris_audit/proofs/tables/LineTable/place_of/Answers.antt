use Rattle.std.proofs.Common.{◌<◌, IfSome, List, length, sym, ap, subst, ◌∙◌}
use Rattle.eris_audit.specs.Lines.{Line}
use Rattle.eris_audit.specs.Tables.{place_in}
use Rattle.eris_audit.proofs.TableLines.{position-place, length-lines_from}
use Rattle.eris_audit.proofs.tables.LineTable.place_of.Goals as goal

pub returns-clause-place : goal.returns-clause-place
returns-clause-place c =
    let id = c.args.id.now in
    c.get_index_of.ensures.index ∙ position-place c.self.inside.outcomes.entries id ∙ ap (λ lines. place_in lines id) c.self.view_is

pub returns-clause-within : goal.returns-clause-within
returns-clause-within c =
    subst (λ (lines : List Line). IfSome c.get_index_of.result (λ place. place < length lines)) c.self.view_is
    (subst (λ n. IfSome c.get_index_of.result (λ place. place < n)) (sym (length-lines_from c.self.inside.outcomes.entries)) c.get_index_of.ensures.within)
