use Rattle.std.proofs.Common.{◌≡◌, ◌<◌, ◌≤◌, true, false, List, length, ap, subst, ◌∙◌, arith}
use Rattle.std.specs.Prelude.{slice_set}
use Rattle.std.proofs.lemmas.List.{length-map}
use Rattle.std.proofs.lemmas.Result.{IfOk-weaker, on_err_weaker, on_ok_weaker}
use Rattle.eris_msg.specs.declared.outgoing.Outgoing.{Outgoing}
use Rattle.eris_nodes.specs.MemberRows.{MembersValue}
use Rattle.eris_nodes.specs.ReplicaRows.{ReplicasOut, ReplicasValue, any_spent, replicas_step, rows_of}
use Rattle.eris_nodes.proofs.ReplicaLaws.{replicas_step-at, replicas_step-past, row_at, rows_after, spent_after, value_after}
use Rattle.eris_nodes.proofs.replicas.Replicas.step.Goals as goal

pub returns-then-at-len-clause-ok : goal.returns-then-at-len-clause-ok
returns-then-at-len-clause-ok c =
    let past : length c.args.self.now.rows ≤ c.args.shard.0 =
    omega (arith, c.if-at-len.true, c.len.ensures, ap (λ (v : ReplicasValue). length v.rows) c.self.view_is, length-map c.self.inside.rows.items (λ (row : MembersValue). row.states)) in
    ap (λ sends. let out : ReplicasOut = record { rows = c.args.self.now.rows; sends = sends } in out) c.new.ensures
    ∙ replicas_step-past c.args.self.now.config c.args.self.now.rows c.args.shard c.args.replica c.args.input past

pub step-requires-clause-unspent : goal.step-requires-clause-unspent
step-requires-clause-unspent c =
    let unspent : any_spent c.self.inside.rows.items ≡ false = ap (λ (v : ReplicasValue). v.spent) c.self.view_is ∙ c.requires.unspent in
    let within : c.args.shard.0 < length c.self.inside.rows.items = omega (arith, c.if-at-len.false, c.len.ensures) in
    (row_at c.self.inside.config c.self.inside.rows.items c.args.shard.0 c.index_mut-row.result.now (c.self.invariant unspent) within c.index_mut-row.ensures.value).unspent

pub invariant_of-self : goal.invariant_of-self
invariant_of-self c =
    let unspent : any_spent c.self.inside.rows.items ≡ false = ap (λ (v : ReplicasValue). v.spent) c.self.view_is ∙ c.requires.unspent in
    let within : c.args.shard.0 < length c.self.inside.rows.items = omega (arith, c.if-at-len.false, c.len.ensures) in
    rows_after c.step.result c.self.inside.config c.self.inside.rows.items c.args.shard.0 c.index_mut-row.result.now c.step.new.self (c.self.invariant unspent) unspent within c.index_mut-row.ensures.value c.step.ensures.stays c.step.ensures.err

pub returns-clause-ok : goal.returns-clause-ok
returns-clause-ok c =
    let unspent : any_spent c.self.inside.rows.items ≡ false = ap (λ (v : ReplicasValue). v.spent) c.self.view_is ∙ c.requires.unspent in
    let within : c.args.shard.0 < length c.self.inside.rows.items = omega (arith, c.if-at-len.false, c.len.ensures) in
    IfOk-weaker c.step.result _ _
    (λ (sends : List Outgoing) made. subst (λ (v : ReplicasValue). let new : ReplicasOut = record { rows = rows_of (slice_set c.self.inside.rows.items c.args.shard.0 c.step.new.self); sends = sends } in
    new ≡ replicas_step v.config v.rows c.args.shard c.args.replica c.args.input) c.self.view_is
    (replicas_step-at c.self.inside.config c.self.inside.rows.items c.args.shard c.args.replica c.index_mut-row.result.now c.step.new.self sends c.args.input (c.self.invariant unspent) within c.index_mut-row.ensures.value made))
    c.step.ensures.ok

pub returns-clause-stays : goal.returns-clause-stays
returns-clause-stays c =
    let unspent : any_spent c.self.inside.rows.items ≡ false = ap (λ (v : ReplicasValue). v.spent) c.self.view_is ∙ c.requires.unspent in
    let within : c.args.shard.0 < length c.self.inside.rows.items = omega (arith, c.if-at-len.false, c.len.ensures) in
    on_ok_weaker c.step.result
    (λ (stays : c.step.new.self ≡ record c.index_mut-row.result.now { states = c.step.new.self.states }). value_after c.self.inside.config c.self.inside.rows.items c.args.self.now c.args.shard.0 c.index_mut-row.result.now c.step.new.self c.self.view_is
    (c.self.invariant unspent) unspent within c.index_mut-row.ensures.value stays) c.step.ensures.stays

pub returns-clause-err : goal.returns-clause-err
returns-clause-err c =
    let unspent : any_spent c.self.inside.rows.items ≡ false = ap (λ (v : ReplicasValue). v.spent) c.self.view_is ∙ c.requires.unspent in
    let within : c.args.shard.0 < length c.self.inside.rows.items = omega (arith, c.if-at-len.false, c.len.ensures) in
    on_err_weaker c.step.result (λ (spent : c.step.new.self.spent ≡ true). spent_after c.self.inside.rows.items c.args.shard.0 c.step.new.self unspent within ∙ spent) c.step.ensures.err
