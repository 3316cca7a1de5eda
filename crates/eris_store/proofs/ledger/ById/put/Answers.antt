use Rattle.std.proofs.Common.{Some, if◌then◌else◌, ap, ◌∙◌}
use mathlib.Core.Path.{fun_ext}
use Rattle.eris_store.specs.Ledgers.{answer_in}
use Rattle.eris_store.proofs.Noted.{id_tie}
use Rattle.eris_store.proofs.ledger.ById.put.Goals as goal

pub returns : goal.returns
returns c =
    rw (← c.self.view_is)
    (fun_ext (λ other. c.in_ok-insert.ensures.updates.0 other ∙ ap (λ t. if t then Some c.args.answer else answer_in c.self.inside.entries.entries other) (id_tie c.args.id other)))
