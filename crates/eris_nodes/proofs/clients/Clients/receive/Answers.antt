use Rattle.std.proofs.Common.{◌≡◌, ◌<◌, ◌≤◌, None, true, false, List, length, Option, ap, subst, ◌∙◌, arith}
use Rattle.std.specs.Prelude.{slice_set}
use Rattle.std.proofs.lemmas.List.{length-map}
use Rattle.std.proofs.lemmas.Result.{IfOk-weaker, on_err_weaker, on_ok_weaker}
use Rattle.eris_txn.specs.declared.history.HistoryEvent.{HistoryEvent}
use Rattle.eris_msg.specs.declared.outgoing.Outgoing.{Outgoing}
use Rattle.eris_client.specs.ClientValues.{ClientValue}
use Rattle.eris_rules.specs.Clients.{client_step}
use Rattle.eris_nodes.specs.ClientRows.{ClientsOut, ClientsValue, any_spent, clients_act, states_of}
use Rattle.eris_nodes.proofs.ClientLaws.{client_at-is, clients_act-at, clients_act-past, clients_after, clients_noise, spent_after, spent_alone, value_after}
use Rattle.eris_nodes.proofs.clients.Clients.receive.Goals as goal

pub returns-then-at-len-clause-message : goal.returns-then-at-len-clause-message
returns-then-at-len-clause-message c =
    let past : length c.args.self.now.states ≤ c.args.client.0 =
    omega (arith, c.if-at-len.true, c.len.ensures, ap (λ (v : ClientsValue). length v.states) c.self.view_is, length-map c.self.inside.clients.items (λ (one : ClientValue). one.state)) in
    λ message spelled. ap (λ sends. let out : ClientsOut = record { states = c.args.self.now.states; sends = sends; event = None } in out) c.new.ensures
    ∙ clients_act-past c.args.self.now.config c.args.self.now.states c.args.client (λ me state. client_step me state message) past

pub receive-requires : goal.receive-requires
receive-requires c =
    let unspent : any_spent c.self.inside.clients.items ≡ false = ap (λ (v : ClientsValue). v.spent) c.self.view_is ∙ c.requires in
    let within : c.args.client.0 < length c.self.inside.clients.items = omega (arith, c.if-at-len.false, c.len.ensures) in
    (client_at-is c.self.inside.config c.self.inside.clients.items c.args.client.0 c.index_mut-one.result.now (c.self.invariant unspent) within c.index_mut-one.ensures.value).unspent

pub invariant_of-self : goal.invariant_of-self
invariant_of-self c =
    let unspent : any_spent c.self.inside.clients.items ≡ false = ap (λ (v : ClientsValue). v.spent) c.self.view_is ∙ c.requires in
    let within : c.args.client.0 < length c.self.inside.clients.items = omega (arith, c.if-at-len.false, c.len.ensures) in
    clients_after c.receive.result c.self.inside.config c.self.inside.clients.items c.args.client.0 c.index_mut-one.result.now c.receive.new.self (c.self.invariant unspent) unspent within c.index_mut-one.ensures.value c.receive.ensures.stays
    (on_err_weaker c.receive.result (λ (spent : c.receive.new.self.spent ≡ true). spent_alone c.index_mut-one.result.now c.receive.new.self spent) c.receive.ensures.err)

pub returns-clause-message : goal.returns-clause-message
returns-clause-message c =
    let unspent : any_spent c.self.inside.clients.items ≡ false = ap (λ (v : ClientsValue). v.spent) c.self.view_is ∙ c.requires in
    let within : c.args.client.0 < length c.self.inside.clients.items = omega (arith, c.if-at-len.false, c.len.ensures) in
    λ message spelled. IfOk-weaker c.receive.result _ _
    (λ (told : List Outgoing × Option HistoryEvent) made. subst (λ (v : ClientsValue). let new : ClientsOut = record { states = states_of (slice_set c.self.inside.clients.items c.args.client.0 c.receive.new.self); sends = told.0; event = told.1 } in
    new ≡ clients_act v.config v.states c.args.client (λ me state. client_step me state message)) c.self.view_is
    (clients_act-at c.self.inside.config c.self.inside.clients.items c.args.client c.index_mut-one.result.now c.receive.new.self told.0 told.1 (λ me state. client_step me state message) (c.self.invariant unspent) within c.index_mut-one.ensures.value made))
    (c.receive.ensures.message message spelled)

pub returns-clause-noise : goal.returns-clause-noise
returns-clause-noise c = λ none.
    clients_noise c.receive.result c.self.inside.clients.items c.args.client.0 c.index_mut-one.result.now c.receive.new.self c.args.self.now.states c.index_mut-one.ensures.value (ap (λ (v : ClientsValue). v.states) c.self.view_is) (c.receive.ensures.noise none)

pub returns-clause-stays : goal.returns-clause-stays
returns-clause-stays c =
    let unspent : any_spent c.self.inside.clients.items ≡ false = ap (λ (v : ClientsValue). v.spent) c.self.view_is ∙ c.requires in
    let within : c.args.client.0 < length c.self.inside.clients.items = omega (arith, c.if-at-len.false, c.len.ensures) in
    on_ok_weaker c.receive.result
    (λ (stays : c.receive.new.self ≡ record c.index_mut-one.result.now { state = c.receive.new.self.state }). value_after c.self.inside.config c.self.inside.clients.items c.args.self.now c.args.client.0 c.index_mut-one.result.now c.receive.new.self c.self.view_is
    (c.self.invariant unspent) unspent within c.index_mut-one.ensures.value stays) c.receive.ensures.stays

pub returns-clause-err : goal.returns-clause-err
returns-clause-err c =
    let unspent : any_spent c.self.inside.clients.items ≡ false = ap (λ (v : ClientsValue). v.spent) c.self.view_is ∙ c.requires in
    let within : c.args.client.0 < length c.self.inside.clients.items = omega (arith, c.if-at-len.false, c.len.ensures) in
    on_err_weaker c.receive.result (λ (spent : c.receive.new.self.spent ≡ true). spent_after c.self.inside.clients.items c.args.client.0 c.receive.new.self unspent within ∙ spent) c.receive.ensures.err
