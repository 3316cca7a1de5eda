use Rattle.std.proofs.Common.{◌≡◌, List, false, ap, sym, subst, ◌∙◌}
use Rattle.std.proofs.lemmas.Result.{IfOk-weaker}
use Rattle.eris_rules.specs.Reports.{all_lines}
use Rattle.eris_nodes.specs.MemberRows.{MembersValue}
use Rattle.eris_nodes.specs.ReplicaRows.{AreRows, ReplicasValue, any_spent, rows_of}
use Rattle.eris_nodes.proofs.replicas.Replicas.lines.Goals as goal

pub returns : goal.returns
returns c =
    let unspent : any_spent c.self.inside.rows.items ≡ false = ap (λ (v : ReplicasValue). v.spent) c.self.view_is ∙ c.requires in
    let whole = subst (λ (l : List MembersValue). AreRows c.self.inside.config 0 l) (sym c.as_slice.ensures.value) (c.self.invariant unspent) in
    λ world e. IfOk-weaker c.lines_of.result _ _
    (λ lines f. f ∙ ap (λ (l : List MembersValue). all_lines world 0 (rows_of l)) c.as_slice.ensures.value ∙ ap (λ (v : ReplicasValue). all_lines world 0 v.rows) c.self.view_is)
    (c.lines_of.ensures world e c.self.inside.config whole)
