-- All clients: how they are made, and what an act of one of them changes.
use Rattle.std.proofs.Common.{◌≡◌, ◌<◌, ◌≤◌, ◌||◌, ℕ, zero, suc, ◌+◌, Bool, true, false, List, [], ◌∷◌, ◌++◌, length, replicate, get_or, Option, Some, None, Result, Ok, Err, refl, ap, sym, subst, ◌∙◌, arith, add-one}
use Rattle.std.specs.Prelude.{slice_set, option_map, IfOk, OnErr, OnOk}
use Rattle.std.proofs.lemmas.Option.{slice_get-map, slice_get-get_or, slice_get_past}
use Rattle.std.proofs.lemmas.List.{map-append, set-get_or}
use Rattle.eris_base.specs.declared.ids.ClientId.{ClientId}
use Rattle.eris_base.specs.declared.ids.TxnId.{TxnId}
use Rattle.eris_base.specs.ConfigLimits.{ConfigValue}
use Rattle.eris_txn.specs.declared.history.HistoryEvent.{HistoryEvent}
use Rattle.eris_msg.specs.declared.outgoing.Outgoing.{Outgoing}
use Rattle.eris_client.specs.ClientValues.{ClientValue}
use Rattle.eris_rules.specs.ClientStates.{ClientIdentity, ClientOut, ClientState, first_client, transaction_at}
use Rattle.eris_rules.specs.Clients.{own_id}
use Rattle.eris_rules.specs.Happenings.{transaction_of}
use Rattle.eris_rules.specs.Worlds.{client_at}
use Rattle.eris_nodes.specs.ClientRows.{AreClients, ClientsOut, ClientsValue, IsClient, after_act, any_spent, client_of, clients_act, one_acts, states_of, transaction_in}
use Rattle.eris_nodes.proofs.AnyLaws.{any_set}
use Rattle.eris_nodes.proofs.MemberLaws.{replicate-more}

AreClients-more : (config : ConfigValue) (from : ℕ) (clients : List ClientValue) (one : ClientValue) → AreClients config from clients → IsClient config (from + length clients) one → AreClients config from (clients ++ one ∷ [])
AreClients-more config from [] one h k = (subst (λ n. IsClient config n one) (omega arith) k, tt)
AreClients-more config from (first ∷ clients) one h k = (h.0, AreClients-more config (from + 1) clients one h.1 (subst (λ n. IsClient config n one) (omega arith) k))

AreClients-at : (config : ConfigValue) (from : ℕ) (clients : List ClientValue) → AreClients config from clients → (i : ℕ) (d : ClientValue) → i < length clients → IsClient config (from + i) (get_or clients i d)
AreClients-at config from [] h i d lt = absurd (omega (arith, lt))
AreClients-at config from (one ∷ clients) h zero d lt = subst (λ n. IsClient config n one) (omega arith) h.0
AreClients-at config from (one ∷ clients) h (suc i) d lt = subst (λ n. IsClient config n (get_or clients i d)) (omega arith) (AreClients-at config (from + 1) clients h.1 i d (omega (arith, lt)))

pub AreClients-set : (config : ConfigValue) (from : ℕ) (clients : List ClientValue) → AreClients config from clients → (i : ℕ) (next : ClientValue) → IsClient config (from + i) next → AreClients config from (slice_set clients i next)
AreClients-set config from [] h i next k = h
AreClients-set config from (one ∷ clients) h zero next k = (subst (λ n. IsClient config n next) (omega arith) k, h.1)
AreClients-set config from (one ∷ clients) h (suc i) next k = (h.0, AreClients-set config (from + 1) clients h.1 i next (subst (λ n. IsClient config n next) (omega arith) k))

pub client_at-is : (config : ConfigValue) (clients : List ClientValue) (i : ℕ) (one : ClientValue) → AreClients config 0 clients → i < length clients → one ≡ get_or clients i one → IsClient config i one
client_at-is config clients i one h lt e =
    subst (λ (z : ClientValue). IsClient config i z) (sym e) (subst (λ n. IsClient config n (get_or clients i one)) (omega arith) (AreClients-at config 0 clients h i one lt))

pub is_client_after : (config : ConfigValue) (i : ℕ) (one next : ClientValue) → IsClient config i one → next ≡ record one { state = next.state } → IsClient config i next
is_client_after config i one next h e = record { me = ap (λ (z : ClientValue). z.me) e ∙ h.me; unspent = ap (λ (z : ClientValue). z.spent) e ∙ h.unspent }

states_of-set : (clients : List ClientValue) (i : ℕ) (next : ClientValue) → states_of (slice_set clients i next) ≡ slice_set (states_of clients) i next.state
states_of-set [] i next = refl
states_of-set (one ∷ clients) zero next = refl
states_of-set (one ∷ clients) (suc i) next = ap (λ (states : List ClientState). one.state ∷ states) (states_of-set clients i next)

-- where a client's state stays, all of them do
pub clients_stay : (clients : List ClientValue) (i : ℕ) (one next : ClientValue) → one ≡ get_or clients i one → next.state ≡ one.state → states_of (slice_set clients i next) ≡ states_of clients
clients_stay [] i one next e k = refl
clients_stay (first ∷ clients) zero one next e k = ap (λ (state : ClientState). state ∷ states_of clients) (k ∙ ap (λ (z : ClientValue). z.state) e)
clients_stay (first ∷ clients) (suc i) one next e k = ap (λ (states : List ClientState). first.state ∷ states) (clients_stay clients i one next e k)

pub clients_noise : {E : Type 0} (r : Result (List Outgoing × Option HistoryEvent) E) (clients : List ClientValue) (i : ℕ) (one next : ClientValue) (states : List ClientState) → one ≡ get_or clients i one
    → states_of clients ≡ states → IfOk r (λ out. (out.0 ≡ []) × (out.1 ≡ None) × (next.state ≡ one.state))
    → IfOk r (λ out. (out.0 ≡ []) × (out.1 ≡ None) × (states_of (slice_set clients i next) ≡ states))
clients_noise (Ok out) clients i one next states e view h = (h.0, h.1, clients_stay clients i one next e h.2 ∙ view)
clients_noise (Err fault) clients i one next states e view h = tt

pub found_at : (clients : List ClientValue) (client : ClientId) (one : ClientValue) → client.0 < length clients → one ≡ get_or clients client.0 one → client_at (states_of clients) client ≡ Some one.state
unfolding client_at
found_at clients client one lt e =
    slice_get-map (λ (one : ClientValue). one.state) clients client.0
    ∙ ap (λ (o : Option ClientValue). option_map (λ (one : ClientValue). one.state) o) (slice_get-get_or clients client.0 one lt) ∙ ap (λ (z : ClientValue). Some z.state) (sym e)

pub none_past : (states : List ClientState) (client : ClientId) → length states ≤ client.0 → client_at states client ≡ None
unfolding client_at
none_past states client past = slice_get_past states client.0 past

pub clients_act-at : (config : ConfigValue) (clients : List ClientValue) (client : ClientId) (one next : ClientValue) (sends : List Outgoing) (event : Option HistoryEvent) (act : ClientIdentity → ClientState → ClientOut)
    → AreClients config 0 clients → client.0 < length clients → one ≡ get_or clients client.0 one
    → ◌≡◌ {A = ClientOut} (record { state = next.state; sends = sends; event = event }) (act one.me one.state)
    → ◌≡◌ {A = ClientsOut} (record { states = states_of (slice_set clients client.0 next); sends = sends; event = event }) (clients_act config (states_of clients) client act)
unfolding clients_act
clients_act-at config clients client one next sends event act h lt e step =
    let me : one.me ≡ client_of config client.0 = (client_at-is config clients client.0 one h lt e).me in
    let made : ◌≡◌ {A = ClientOut} (record { state = next.state; sends = sends; event = event }) (act (client_of config client.0) one.state) =
    step ∙ ap (λ (z : ClientIdentity). act z one.state) me in
    ap (λ (states : List ClientState). let out : ClientsOut = record { states = states; sends = sends; event = event } in out) (states_of-set clients client.0 next)
    ∙ ap (λ (out : ClientOut). after_act (states_of clients) client out) made
    ∙ ap (λ (o : Option ClientState). one_acts config (states_of clients) client act o) (sym (found_at clients client one lt e))

pub clients_act-past : (config : ConfigValue) (states : List ClientState) (client : ClientId) (act : ClientIdentity → ClientState → ClientOut) → length states ≤ client.0
    → ◌≡◌ {A = ClientsOut} (record { states = states; sends = []; event = None }) (clients_act config states client act)
unfolding clients_act
clients_act-past config states client act past = ap (λ (o : Option ClientState). one_acts config states client act o) (sym (none_past states client past))

-- ---- what a client has
pub transaction_in-at : (config : ConfigValue) (clients : List ClientValue) (id : TxnId) (one : ClientValue) → AreClients config 0 clients → id.client.0 < length clients → one ≡ get_or clients id.client.0 one
    → transaction_at one.state (own_id one.me id.number) ≡ transaction_in (states_of clients) id
transaction_in-at config clients id one h lt e =
    ap (λ (z : ClientIdentity). transaction_at one.state (own_id z id.number)) (client_at-is config clients id.client.0 one h lt e).me
    ∙ ap (λ (o : Option ClientState). transaction_of o id) (sym (found_at clients id.client one lt e))

pub own_id-at : (config : ConfigValue) (clients : List ClientValue) (id : TxnId) (one : ClientValue) → AreClients config 0 clients → id.client.0 < length clients → one ≡ get_or clients id.client.0 one
    → own_id one.me id.number ≡ id
own_id-at config clients id one h lt e = ap (λ (z : ClientIdentity). own_id z id.number) (client_at-is config clients id.client.0 one h lt e).me

pub transaction_in-past : (states : List ClientState) (id : TxnId) → length states ≤ id.client.0 → transaction_in states id ≡ None
transaction_in-past states id past = ap (λ (o : Option ClientState). transaction_of o id) (none_past states id.client past)

-- ---- at their start
pub first_states-more : (clients items : List ClientValue) (one : ClientValue) (n : ℕ) → items ≡ clients ++ one ∷ [] → states_of clients ≡ replicate n first_client
    → one.state ≡ first_client → states_of items ≡ replicate (n + 1) first_client
first_states-more clients items one n e h k =
    ap states_of e ∙ map-append (λ (one : ClientValue). one.state) clients (one ∷ [])
    ∙ ap (λ (states : List ClientState). states ++ one.state ∷ []) h ∙ ap (λ (state : ClientState). replicate n first_client ++ state ∷ []) k
    ∙ sym (rw add-one (replicate-more n first_client))

pub first_clients-more : (config : ConfigValue) (clients items : List ClientValue) (one : ClientValue) (n : ℕ) → items ≡ clients ++ one ∷ [] → length clients ≡ n
    → AreClients config 0 clients → one ≡ record { me = client_of config n; state = first_client; spent = false } → AreClients config 0 items
first_clients-more config clients items one n e len h k =
    let is : IsClient config (0 + length clients) one =
    record { me = ap (λ (z : ClientValue). z.me) k ∙ ap (client_of config) (omega (arith, len)); unspent = ap (λ (z : ClientValue). z.spent) k } in
    subst (λ (z : List ClientValue). AreClients config 0 z) (sym e) (AreClients-more config 0 clients one h is)

pub clients_set : (config : ConfigValue) (clients : List ClientValue) → AreClients config 0 clients → (i : ℕ) (next : ClientValue) → IsClient config i next → AreClients config 0 (slice_set clients i next)
clients_set config clients h i next k = AreClients-set config 0 clients h i next (subst (λ n. IsClient config n next) (omega arith) k)

-- ---- which are spent
pub none_spent : (config : ConfigValue) (from : ℕ) (clients : List ClientValue) → AreClients config from clients → any_spent clients ≡ false
none_spent config from [] h = refl
none_spent config from (one ∷ clients) h = ap (λ (z : Bool). z || any_spent clients) h.0.unspent ∙ none_spent config (from + 1) clients h.1

pub spent_after : (clients : List ClientValue) (i : ℕ) (next : ClientValue) → any_spent clients ≡ false → i < length clients → any_spent (slice_set clients i next) ≡ next.spent
spent_after clients i next none lt = any_set (λ (one : ClientValue). one.spent) clients i next none lt

-- what is spent need not be as it was
pub spent_alone : (one next : ClientValue) → next.spent ≡ true → next.spent ≡ false → next ≡ one
spent_alone one next spent k = absurd cc

-- an act of one leaves them as they are to be, or that one spent
pub clients_after : {T E : Type 0} (r : Result T E) (config : ConfigValue) (clients : List ClientValue) (i : ℕ) (one next : ClientValue)
    → AreClients config 0 clients → any_spent clients ≡ false → i < length clients → one ≡ get_or clients i one
    → OnOk r (next ≡ record one { state = next.state }) → OnErr r (next.spent ≡ false → next ≡ one)
    → any_spent (slice_set clients i next) ≡ false → AreClients config 0 (slice_set clients i next)
clients_after (Ok done) config clients i one next h none lt e stays same k =
    clients_set config clients h i next (is_client_after config i one next (client_at-is config clients i one h lt e) stays)
clients_after (Err fault) config clients i one next h none lt e stays same k =
    clients_set config clients h i next
    (subst (λ (z : ClientValue). IsClient config i z) (sym (same (sym (spent_after clients i next none lt) ∙ k))) (client_at-is config clients i one h lt e))

-- what contracts see of them stays but for the states, unless that one is spent
pub value_after : (config : ConfigValue) (clients : List ClientValue) (old : ClientsValue) (i : ℕ) (one next : ClientValue)
    → ◌≡◌ {A = ClientsValue} (record { config = config; states = states_of clients; spent = any_spent clients }) old
    → AreClients config 0 clients → any_spent clients ≡ false → i < length clients → one ≡ get_or clients i one → next ≡ record one { state = next.state }
    → ◌≡◌ {A = ClientsValue} (record { config = config; states = states_of (slice_set clients i next); spent = any_spent (slice_set clients i next) })
    (record old { states = states_of (slice_set clients i next) })
value_after config clients old i one next view h none lt e stays =
    let same : any_spent (slice_set clients i next) ≡ any_spent clients =
    spent_after clients i next none lt ∙ (is_client_after config i one next (client_at-is config clients i one h lt e) stays).unspent ∙ sym none in
    ap (λ (z : Bool). let made : ClientsValue = record { config = config; states = states_of (slice_set clients i next); spent = z } in made) same
    ∙ ap (λ (v : ClientsValue). let made : ClientsValue = record v { states = states_of (slice_set clients i next) } in made) view

-- where one that isn't spent is as it was, all are
pub value_before : (config : ConfigValue) (clients : List ClientValue) (old : ClientsValue) (i : ℕ) (one next : ClientValue)
    → ◌≡◌ {A = ClientsValue} (record { config = config; states = states_of clients; spent = any_spent clients }) old
    → any_spent clients ≡ false → i < length clients → one ≡ get_or clients i one → (next.spent ≡ false → next ≡ one) → any_spent (slice_set clients i next) ≡ false
    → ◌≡◌ {A = ClientsValue} (record { config = config; states = states_of (slice_set clients i next); spent = any_spent (slice_set clients i next) }) old
value_before config clients old i one next view none lt e same k =
    let as_it_was : next ≡ one = same (sym (spent_after clients i next none lt) ∙ k) in
    let back : slice_set clients i next ≡ clients = ap (slice_set clients i) (as_it_was ∙ e) ∙ set-get_or clients i one in
    ap (λ (z : List ClientValue). let made : ClientsValue = record { config = config; states = states_of z; spent = any_spent z } in made) back ∙ view
