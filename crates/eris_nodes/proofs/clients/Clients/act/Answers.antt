use Rattle.std.proofs.Common.{◌≡◌, ◌<◌, ◌≤◌, None, false, List, length, Option, ap, sym, subst, ◌∙◌, arith}
use Rattle.std.specs.Prelude.{slice_set}
use Rattle.std.proofs.lemmas.List.{length-map}
use Rattle.std.proofs.lemmas.Result.{IfOk-weaker, on_err_weaker, on_ok_weaker}
use Rattle.eris_txn.specs.declared.history.HistoryEvent.{HistoryEvent}
use Rattle.eris_msg.specs.declared.outgoing.Outgoing.{Outgoing}
use Rattle.eris_client.specs.ClientValues.{ClientValue}
use Rattle.eris_rules.specs.ClientStates.{ClientIdentity}
use Rattle.eris_nodes.specs.Acts.{CanAct, acts}
use Rattle.eris_nodes.specs.Allowed.{CanActAt}
use Rattle.eris_nodes.specs.ClientRows.{ClientsOut, ClientsValue, any_spent, clients_act, states_of}
use Rattle.eris_nodes.proofs.ClientLaws.{client_at-is, clients_act-at, clients_act-past, clients_after, found_at, value_after, value_before}
use Rattle.eris_nodes.proofs.clients.Clients.act.Goals as goal

pub returns-then-at-len-clause-ok : goal.returns-then-at-len-clause-ok
returns-then-at-len-clause-ok c =
    let past : length c.args.self.now.states ≤ c.args.client.0 =
    omega (arith, c.if-at-len.true, c.len.ensures, ap (λ (v : ClientsValue). length v.states) c.self.view_is, length-map c.self.inside.clients.items (λ (one : ClientValue). one.state)) in
    ap (λ sends. let out : ClientsOut = record { states = c.args.self.now.states; sends = sends; event = None } in out) c.new.ensures
    ∙ clients_act-past c.args.self.now.config c.args.self.now.states c.args.client (acts c.args.act) past

pub perform-requires-clause-unspent : goal.perform-requires-clause-unspent
perform-requires-clause-unspent c =
    let unspent : any_spent c.self.inside.clients.items ≡ false = ap (λ (v : ClientsValue). v.spent) c.self.view_is ∙ c.requires.unspent in
    let within : c.args.client.0 < length c.self.inside.clients.items = omega (arith, c.if-at-len.false, c.len.ensures) in
    (client_at-is c.self.inside.config c.self.inside.clients.items c.args.client.0 c.index_mut-one.result.now (c.self.invariant unspent) within c.index_mut-one.ensures.value).unspent

pub perform-requires-clause-can : goal.perform-requires-clause-can
perform-requires-clause-can c =
    let unspent : any_spent c.self.inside.clients.items ≡ false = ap (λ (v : ClientsValue). v.spent) c.self.view_is ∙ c.requires.unspent in
    let within : c.args.client.0 < length c.self.inside.clients.items = omega (arith, c.if-at-len.false, c.len.ensures) in
    let can : CanActAt c.self.inside.config (states_of c.self.inside.clients.items) c.args.client c.args.act =
    subst (λ (v : ClientsValue). CanActAt v.config v.states c.args.client c.args.act) (sym c.self.view_is) c.requires.can in
    subst (λ (z : ClientIdentity). CanAct z c.index_mut-one.result.now.state c.args.act)
    (sym (client_at-is c.self.inside.config c.self.inside.clients.items c.args.client.0 c.index_mut-one.result.now (c.self.invariant unspent) within c.index_mut-one.ensures.value).me)
    (can c.index_mut-one.result.now.state (found_at c.self.inside.clients.items c.args.client c.index_mut-one.result.now within c.index_mut-one.ensures.value))

pub invariant_of-self : goal.invariant_of-self
invariant_of-self c =
    let unspent : any_spent c.self.inside.clients.items ≡ false = ap (λ (v : ClientsValue). v.spent) c.self.view_is ∙ c.requires.unspent in
    let within : c.args.client.0 < length c.self.inside.clients.items = omega (arith, c.if-at-len.false, c.len.ensures) in
    clients_after c.perform.result c.self.inside.config c.self.inside.clients.items c.args.client.0 c.index_mut-one.result.now c.perform.new.one (c.self.invariant unspent) unspent within c.index_mut-one.ensures.value c.perform.ensures.stays
    c.perform.ensures.err

pub returns-clause-ok : goal.returns-clause-ok
returns-clause-ok c =
    let unspent : any_spent c.self.inside.clients.items ≡ false = ap (λ (v : ClientsValue). v.spent) c.self.view_is ∙ c.requires.unspent in
    let within : c.args.client.0 < length c.self.inside.clients.items = omega (arith, c.if-at-len.false, c.len.ensures) in
    IfOk-weaker c.perform.result _ _
    (λ (told : List Outgoing × Option HistoryEvent) made. subst (λ (v : ClientsValue). let new : ClientsOut = record { states = states_of (slice_set c.self.inside.clients.items c.args.client.0 c.perform.new.one); sends = told.0; event = told.1 } in
    new ≡ clients_act v.config v.states c.args.client (acts c.args.act)) c.self.view_is
    (clients_act-at c.self.inside.config c.self.inside.clients.items c.args.client c.index_mut-one.result.now c.perform.new.one told.0 told.1 (acts c.args.act) (c.self.invariant unspent) within c.index_mut-one.ensures.value made))
    c.perform.ensures.ok

pub returns-clause-stays : goal.returns-clause-stays
returns-clause-stays c =
    let unspent : any_spent c.self.inside.clients.items ≡ false = ap (λ (v : ClientsValue). v.spent) c.self.view_is ∙ c.requires.unspent in
    let within : c.args.client.0 < length c.self.inside.clients.items = omega (arith, c.if-at-len.false, c.len.ensures) in
    on_ok_weaker c.perform.result
    (λ (stays : c.perform.new.one ≡ record c.index_mut-one.result.now { state = c.perform.new.one.state }). value_after c.self.inside.config c.self.inside.clients.items c.args.self.now c.args.client.0 c.index_mut-one.result.now c.perform.new.one c.self.view_is
    (c.self.invariant unspent) unspent within c.index_mut-one.ensures.value stays) c.perform.ensures.stays

pub returns-clause-err : goal.returns-clause-err
returns-clause-err c =
    let unspent : any_spent c.self.inside.clients.items ≡ false = ap (λ (v : ClientsValue). v.spent) c.self.view_is ∙ c.requires.unspent in
    let within : c.args.client.0 < length c.self.inside.clients.items = omega (arith, c.if-at-len.false, c.len.ensures) in
    on_err_weaker c.perform.result
    (λ (same : c.perform.new.one.spent ≡ false → c.perform.new.one ≡ c.index_mut-one.result.now). value_before c.self.inside.config c.self.inside.clients.items c.args.self.now c.args.client.0 c.index_mut-one.result.now c.perform.new.one c.self.view_is unspent within c.index_mut-one.ensures.value same)
    c.perform.ensures.err
