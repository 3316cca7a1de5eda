use Rattle.std.proofs.Common.{◌≡◌, ◌<◌, ◌≤◌, true, false, List, length, ap, subst, ◌∙◌, arith}
use Rattle.std.specs.Prelude.{slice_set}
use Rattle.std.proofs.lemmas.List.{length-map}
use Rattle.std.proofs.lemmas.Result.{IfOk-weaker, on_err_weaker, on_ok_weaker}
use Rattle.eris_msg.specs.declared.outgoing.Outgoing.{Outgoing}
use Rattle.eris_replica.specs.ReplicaValues.{ReplicaValue}
use Rattle.eris_nodes.specs.MemberRows.{MembersOut, MembersValue, any_spent, identity, members_step, states_of}
use Rattle.eris_nodes.proofs.MemberLaws.{member_at, members_after, members_step-at, members_step-past, spent_after, value_after}
use Rattle.eris_nodes.proofs.members.Members.step.Goals as goal

pub returns-then-at-len-clause-ok : goal.returns-then-at-len-clause-ok
returns-then-at-len-clause-ok c =
    let past : length c.args.self.now.states ≤ c.args.replica.0 =
    omega (arith, c.if-at-len.true, c.len.ensures, ap (λ (v : MembersValue). length v.states) c.self.view_is, length-map c.self.inside.members.items (λ (one : ReplicaValue). one.state)) in
    ap (λ sends. let out : MembersOut = record { states = c.args.self.now.states; sends = sends } in out) c.new.ensures
    ∙ members_step-past (identity c.args.self.now.config c.args.self.now.shard c.args.replica.0) c.args.self.now.states c.args.input past

pub step-requires-clause-unspent : goal.step-requires-clause-unspent
step-requires-clause-unspent c =
    let unspent : any_spent c.self.inside.members.items ≡ false = ap (λ (v : MembersValue). v.spent) c.self.view_is ∙ c.requires.unspent in
    let within : c.args.replica.0 < length c.self.inside.members.items = omega (arith, c.if-at-len.false, c.len.ensures) in
    (member_at c.self.inside.config c.self.inside.shard c.self.inside.members.items c.args.replica.0 c.index_mut-member.result.now (c.self.invariant unspent) within c.index_mut-member.ensures.value).unspent

pub invariant_of-self : goal.invariant_of-self
invariant_of-self c =
    let unspent : any_spent c.self.inside.members.items ≡ false = ap (λ (v : MembersValue). v.spent) c.self.view_is ∙ c.requires.unspent in
    let within : c.args.replica.0 < length c.self.inside.members.items = omega (arith, c.if-at-len.false, c.len.ensures) in
    members_after c.step.result c.self.inside.config c.self.inside.shard c.self.inside.members.items c.args.replica.0 c.index_mut-member.result.now c.step.new.self (c.self.invariant unspent) unspent within c.index_mut-member.ensures.value
    c.step.ensures.stays c.step.ensures.err

pub returns-clause-ok : goal.returns-clause-ok
returns-clause-ok c =
    let unspent : any_spent c.self.inside.members.items ≡ false = ap (λ (v : MembersValue). v.spent) c.self.view_is ∙ c.requires.unspent in
    let within : c.args.replica.0 < length c.self.inside.members.items = omega (arith, c.if-at-len.false, c.len.ensures) in
    IfOk-weaker c.step.result _ _
    (λ (sends : List Outgoing) made. subst (λ (v : MembersValue). let new : MembersOut = record { states = states_of (slice_set c.self.inside.members.items c.args.replica.0 c.step.new.self); sends = sends } in
    new ≡ members_step (identity v.config v.shard c.args.replica.0) v.states c.args.input) c.self.view_is
    (members_step-at c.self.inside.config c.self.inside.shard c.self.inside.members.items c.args.replica.0 c.index_mut-member.result.now c.step.new.self sends c.args.input (c.self.invariant unspent) within c.index_mut-member.ensures.value made))
    c.step.ensures.ok

pub returns-clause-stays : goal.returns-clause-stays
returns-clause-stays c =
    let unspent : any_spent c.self.inside.members.items ≡ false = ap (λ (v : MembersValue). v.spent) c.self.view_is ∙ c.requires.unspent in
    let within : c.args.replica.0 < length c.self.inside.members.items = omega (arith, c.if-at-len.false, c.len.ensures) in
    on_ok_weaker c.step.result
    (λ (stays : c.step.new.self ≡ record c.index_mut-member.result.now { state = c.step.new.self.state }). value_after c.self.inside.config c.self.inside.shard c.self.inside.members.items c.args.self.now c.args.replica.0 c.index_mut-member.result.now c.step.new.self c.self.view_is
    (c.self.invariant unspent) unspent within c.index_mut-member.ensures.value stays) c.step.ensures.stays

pub returns-clause-err : goal.returns-clause-err
returns-clause-err c =
    let unspent : any_spent c.self.inside.members.items ≡ false = ap (λ (v : MembersValue). v.spent) c.self.view_is ∙ c.requires.unspent in
    let within : c.args.replica.0 < length c.self.inside.members.items = omega (arith, c.if-at-len.false, c.len.ensures) in
    on_err_weaker c.step.result (λ (spent : c.step.new.self.spent ≡ true). spent_after c.self.inside.members.items c.args.replica.0 c.step.new.self unspent within ∙ spent) c.step.ensures.err
