use Rattle.std.proofs.Common.{ap, ◌∙◌}
use Rattle.std.specs.Borrow.{Bor}
use Rattle.std.specs.Option.{option_map}
use Rattle.eris_txn.specs.declared.txn.Txn.{Txn}
use Rattle.eris_audit.specs.Histories.{first_submit}
use Rattle.eris_audit.proofs.SubmitTable.{lookup-derived}
use Rattle.eris_audit.proofs.tables.SubmitTable.txn_of.Goals as goal

pub returns : goal.returns
returns c =
    let id = c.args.id.now in
    ap (option_map (λ (txn : Bor Txn). txn.now)) (c.copied.ensures ∙ c.get.ensures.value ∙ lookup-derived c.self.inside.txns.entries id)
    ∙ c.self.invariant id
    ∙ ap (λ history. first_submit history id) c.self.view_is
