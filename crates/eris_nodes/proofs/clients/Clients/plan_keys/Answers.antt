use Rattle.std.proofs.Common.{◌≡◌, ◌<◌, ◌≤◌, true, false, length, ap, sym, subst, ◌∙◌, arith, Option}
use Rattle.std.proofs.lemmas.List.{length-map}
use Rattle.std.specs.Prelude.{IfSome}
use Rattle.std.proofs.lemmas.Result.{IfOk-weaker}
use Rattle.eris_base.specs.declared.ids.TxnId.{TxnId}
use Rattle.eris_codec.specs.Fields as f
use Rattle.eris_client.specs.ClientValues.{ClientValue}
use Rattle.eris_rules.specs.declared.transaction.Transaction.{Transaction}
use Rattle.eris_rules.specs.Happenings.{plan_of_transaction}
use Rattle.eris_nodes.specs.ClientRows.{ClientsValue, any_spent, keys_in, transaction_in}
use Rattle.eris_nodes.proofs.ClientLaws.{client_at-is, own_id-at, transaction_in-at, transaction_in-past}
use Rattle.eris_nodes.proofs.clients.Clients.plan_keys.Goals as goal

pub returns-then-at-len-clause-exact : goal.returns-then-at-len-clause-exact
returns-then-at-len-clause-exact c =
    let past : length c.args.self.now.states ≤ c.args.id.client.0 =
    omega (arith, c.if-at-len.true, c.len.ensures, ap (λ (v : ClientsValue). length v.states) c.self.view_is, length-map c.self.inside.clients.items (λ (one : ClientValue). one.state)) in
    ap (λ (o : Option Transaction). keys_in (plan_of_transaction o)) (sym (transaction_in-past c.args.self.now.states c.args.id past))

pub keys_of-requires : goal.keys_of-requires
keys_of-requires c =
    let unspent : any_spent c.self.inside.clients.items ≡ false = ap (λ (v : ClientsValue). v.spent) c.self.view_is ∙ c.requires in
    let within : c.args.id.client.0 < length c.self.inside.clients.items = omega (arith, c.if-at-len.false, c.len.ensures) in
    (client_at-is c.self.inside.config c.self.inside.clients.items c.args.id.client.0 c.index-one.result.now (c.self.invariant unspent) within c.index-one.ensures).unspent

pub returns-clause-exact : goal.returns-clause-exact
returns-clause-exact c =
    let unspent : any_spent c.self.inside.clients.items ≡ false = ap (λ (v : ClientsValue). v.spent) c.self.view_is ∙ c.requires in
    let within : c.args.id.client.0 < length c.self.inside.clients.items = omega (arith, c.if-at-len.false, c.len.ensures) in
    let same = transaction_in-at c.self.inside.config c.self.inside.clients.items c.args.id c.index-one.result.now (c.self.invariant unspent) within c.index-one.ensures
    ∙ ap (λ (v : ClientsValue). transaction_in v.states c.args.id) c.self.view_is in
    IfOk-weaker c.keys_of.result _ _ (λ found e. e ∙ ap (λ (o : Option Transaction). keys_in (plan_of_transaction o)) same) c.keys_of.ensures.exact

pub returns-clause-fits : goal.returns-clause-fits
returns-clause-fits c =
    let unspent : any_spent c.self.inside.clients.items ≡ false = ap (λ (v : ClientsValue). v.spent) c.self.view_is ∙ c.requires in
    let within : c.args.id.client.0 < length c.self.inside.clients.items = omega (arith, c.if-at-len.false, c.len.ensures) in
    let same = own_id-at c.self.inside.config c.self.inside.clients.items c.args.id c.index-one.result.now (c.self.invariant unspent) within c.index-one.ensures in
    IfOk-weaker c.keys_of.result _ _ (λ found k. subst (λ (z : TxnId). IfSome found (λ keys. (f.keys.fits keys ≡ true) × (f.id.fits z ≡ true))) same k) c.keys_of.ensures.fits
