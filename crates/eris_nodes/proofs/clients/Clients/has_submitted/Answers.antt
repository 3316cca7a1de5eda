use Rattle.std.proofs.Common.{◌≡◌, ◌<◌, ◌≤◌, false, length, ap, sym, ◌∙◌, arith, Option}
use Rattle.std.specs.Prelude.{is_some}
use Rattle.std.proofs.lemmas.List.{length-map}
use Rattle.eris_client.specs.ClientValues.{ClientValue}
use Rattle.eris_rules.specs.declared.transaction.Transaction.{Transaction}
use Rattle.eris_nodes.specs.ClientRows.{ClientsValue, any_spent, transaction_in}
use Rattle.eris_nodes.proofs.ClientLaws.{transaction_in-at, transaction_in-past}
use Rattle.eris_nodes.proofs.clients.Clients.has_submitted.Goals as goal

pub returns-then-at-len : goal.returns-then-at-len
returns-then-at-len c =
    let past : length c.args.self.now.states ≤ c.args.id.client.0 =
    omega (arith, c.if-at-len.true, c.len.ensures, ap (λ (v : ClientsValue). length v.states) c.self.view_is, length-map c.self.inside.clients.items (λ (one : ClientValue). one.state)) in
    ap (λ (o : Option Transaction). is_some o) (sym (transaction_in-past c.args.self.now.states c.args.id past))

pub returns : goal.returns
returns c =
    let unspent : any_spent c.self.inside.clients.items ≡ false = ap (λ (v : ClientsValue). v.spent) c.self.view_is ∙ c.requires in
    let within : c.args.id.client.0 < length c.self.inside.clients.items = omega (arith, c.if-at-len.false, c.len.ensures) in
    c.has_submitted.ensures ∙ ap (λ (o : Option Transaction). is_some o)
    (transaction_in-at c.self.inside.config c.self.inside.clients.items c.args.id c.index-one.result.now (c.self.invariant unspent) within c.index-one.ensures
    ∙ ap (λ (v : ClientsValue). transaction_in v.states c.args.id) c.self.view_is)
