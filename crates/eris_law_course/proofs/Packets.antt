-- WHERE EACH STAMPED PACKET COMES FROM, in the words of evidence: its id was submitted, its stamp names the shards that
-- take part, its body is its transaction's, and a Commit's writes are made of a Read of the history.
use Rattle.std.proofs.Common.{◌≡◌, ◌⊎◌, inl, inr, ℕ, zero, suc, ◌≤◌, true, List, [], Option, Some, None, refl, sym, ap, ◌∙◌, subst, arith, unwrap_or, is_some}
use Rattle.std.specs.Prelude.{slice_get, IsTrue}
use Rattle.eris_base.specs.declared.ids.ClientId.{ClientId}
use Rattle.eris_base.specs.declared.ids.Node.TheVariants.{Sequencer}
use Rattle.eris_base.specs.declared.ids.ShardId.{ShardId}
use Rattle.eris_base.specs.declared.ids.TxnId.{TxnId}
use Rattle.eris_base.specs.ConfigLimits.{ConfigValue}
use Rattle.eris_txn.specs.declared.body.Body.{Body}
use Rattle.eris_txn.specs.declared.body.Body.TheVariants.{Independent, Prelim, Commit, Abort}
use Rattle.eris_txn.specs.declared.history.HistoryEvent.{HistoryEvent}
use Rattle.eris_txn.specs.declared.history.HistoryEvent.TheVariants.{Read}
use Rattle.eris_txn.specs.declared.key.Key.{Key}
use Rattle.eris_txn.specs.declared.packet.Packet.{Packet}
use Rattle.eris_txn.specs.declared.txn.Txn.{Txn}
use Rattle.eris_txn.specs.declared.txn.Txn.TheVariants.{Whole, General}
use Rattle.eris_txn.specs.Bodies.{any_on, has_shard, participants_of}
use Rattle.eris_txn.proofs.BodyLaws.{has_shard-participants}
use Rattle.eris_audit.specs.Histories.{first_submit, is_submitted, txn_of}
use Rattle.eris_locks.specs.Shards.{names_shard}
use Rattle.eris_event.specs.declared.event.Event.{Event}
use Rattle.eris_sequencer.specs.Sequencers.{first_stampings, new_stamping}
use Rattle.eris_sequencer.specs.Stamps.{next_packet}
use Rattle.eris_rules.specs.ClientStates.{ClientIdentity}
use Rattle.eris_rules.specs.WorldOrders.{stamping_list}
use Rattle.eris_rules.specs.Worlds.{WorldState, first_world}
use Rattle.eris_serial.specs.Evidence.{BodyOrigin, HasCommitOrigin}
use Rattle.eris_serial.specs.Transactions.{takes_part}
use Rattle.eris_law_epoch.specs.Members.{In}
use Rattle.eris_law_agreement.specs.WorldMoments.{moment_from, perhaps, world_at}
use Rattle.eris_law_client.specs.ClientRuns.{ClientInput, WasCalledToAbort, history_to}
use Rattle.eris_law_client.specs.Courses.{IsOwn}
use Rattle.eris_law_client.specs.Rests.{AskRests, AsksAbort, AsksAnothers, AsksCommit, AsksPrelim, AsksWhole}
use Rattle.eris_law_client.proofs.Asking.{named_shards}
use Rattle.eris_law_client.proofs.Growing.{event_stays, submit_stays}
use Rattle.eris_law_client.proofs.Origins.{ask_submitted, body_origin, commit_origin}
use Rattle.eris_law_course.specs.Accepted.{IsAccepted, IsThere}
use Rattle.eris_law_course.specs.Inputs.{identity, inputs_of}
use Rattle.eris_law_course.specs.Submitted.{HasAsked}
use Rattle.eris_law_course.specs.Asked.{WasAsked}
use Rattle.eris_law_course.proofs.Courses.{asked_by, event_to, submits_agree}
use Rattle.eris_law_course.proofs.Merged.{aborted_plan}
use Rattle.eris_law_course.proofs.NewStamps.{Adds, IsStampedNow, adds, next-names}

-- an Ask is of an own id, or it is the Abort that the client was called for
own_or_called : (me : ClientIdentity) (inputs : List ClientInput) (number : ℕ) (id : TxnId) (body : Body) → AskRests me inputs number id body
    → IsOwn me id ⊎ ((keys : List Key) × WasCalledToAbort inputs number id keys × (body ≡ Abort keys))
own_or_called me inputs number id body (AsksWhole operations own are is) = inl own
own_or_called me inputs number id body (AsksPrelim plan own are is) = inl own
own_or_called me inputs number id body (AsksCommit rests) = inl rests.own
own_or_called me inputs number id body (AsksAbort rests) = inl rests.own
own_or_called me inputs number id body (AsksAnothers keys another called is) = inr (keys, called, is)

found_submit : (history : List HistoryEvent) (id : TxnId) → is_submitted history id ≡ true → (txn : Txn) × (first_submit history id ≡ Some txn)
found_submit history id = by_found (first_submit history id)
  where
    by_found : (found : Option Txn) → is_some found ≡ true → (txn : Txn) × (found ≡ Some txn)
    by_found None h = absurd (cc)
    by_found (Some txn) h = (txn, refl)

module _ (config : ConfigValue) (events : List Event) (ok : IsAccepted config events) where
  abbrev at : ℕ → WorldState
  at k = world_at config events k

  abbrev me : ClientId → ClientIdentity
  me client = identity config client

  abbrev inputs : ClientId → List ClientInput
  inputs client = inputs_of config events client

  abbrev own : ClientId → ℕ → List HistoryEvent
  own client k = history_to (me client) (inputs client) k

  -- ---- EACH STAMPED PACKET WAS ASKED FOR
  asked_now : (k : ℕ) (packet : Packet) → IsStampedNow (at k).sent packet → WasAsked config events k packet
  unfolding next_packet
  asked_now k packet now =
      subst (WasAsked config events k) (sym now.is)
      (record { asker = now.asker; asked = asked_by config events ok k Sequencer now.asker now.id now.body now.asked; names = next-names now.sequencer now.id now.asker now.body })

  asked_later : (k : ℕ) (packet : Packet) → WasAsked config events k packet → WasAsked config events (suc k) packet
  asked_later k packet was =
      record { asker = was.asker; asked = record { there = was.asked.there; at = was.asked.at; before = omega (arith, was.asked.before); rests = was.asked.rests }; names = was.names }

  adds_perhaps : (k : ℕ) (found : Option Event) → Adds (at k).sent (at k).stampings (perhaps config (at k) found).stampings
  adds_perhaps k None = λ packet i. inl i
  adds_perhaps k (Some event) = adds config (at k) event

  none_stamped : (packet : Packet) → In packet (stamping_list (at 0).stampings) → ⊥
  unfolding moment_from first_world first_stampings new_stamping stamping_list
  none_stamped packet i = i

  pub was_asked : (k : ℕ) (packet : Packet) → In packet (stamping_list (at k).stampings) → WasAsked config events k packet
  unfolding moment_from
  was_asked zero packet i = absurd (none_stamped packet i)
  was_asked (suc k) packet i = elim (adds_perhaps k (slice_get events k) packet i) [
    | inl old ↦ asked_later k packet (was_asked k packet old)
    | inr now ↦ asked_later k packet (asked_now k packet now)
  ]

  -- ---- what is asked for is of a submitted transaction
  pub record IsOfSubmitted (k : ℕ) (id : TxnId) (body : Body) : Type 0 where
    pub txn : Txn
    pub submitted : first_submit (at k).history id ≡ Some txn
    pub shards : (shard : ShardId) → has_shard (participants_of body) shard ≡ takes_part shard txn
    pub origin : BodyOrigin txn body
    pub commit : HasCommitOrigin (at k).history id body

  by_some : (found : Option Txn) (txn : Txn) → found ≡ Some txn → unwrap_or found (Whole []) ≡ txn
  by_some found txn h = ap (λ (f : Option Txn). unwrap_or f (Whole [])) h

  -- a Commit's origin in the asker's history is one in the world's
  commit_there : (client : ClientId) → IsThere config client → (j k : ℕ) → j ≤ k → (id : TxnId) (txn : Txn) → first_submit (own client j) id ≡ Some txn → first_submit (at k).history id ≡ Some txn
      → (body : Body) → HasCommitOrigin (own client j) id body → HasCommitOrigin (at k).history id body
  commit_there client there j k le id txn early late (Independent operations) h = tt
  commit_there client there j k le id txn early late (Prelim locks) h = tt
  commit_there client there j k le id txn early late (Commit keys writes) h =
      record {
        values = h.values;
        read = event_to config events client there k (Read id h.values) (event_stays (me client) (inputs client) j k le (Read id h.values) h.read);
        plan = h.plan;
        is = by_some (first_submit (at k).history id) txn late ∙ (sym (by_some (first_submit (own client j) id) txn early) ∙ h.is);
        guards = h.guards;
        writes_are = h.writes_are;
      }
  commit_there client there j k le id txn early late (Abort keys) h = tt

  of_own : (k : ℕ) (client : ClientId) (id : TxnId) (body : Body) → (has : HasAsked config events k client id body) → IsOwn (me client) id → IsOfSubmitted k id body
  of_own k client id body has owner =
      let found = found_submit (own client has.at) id (ask_submitted (me client) (inputs client) has.at id body has.rests owner) in
      let late : first_submit (at k).history id ≡ Some found.0 =
      submits_agree config events ok id (subst (IsThere config) (sym owner) has.there) k
      ∙ (ap (λ (c : ClientId). first_submit (own c k) id) owner ∙ submit_stays (me client) (inputs client) has.at k has.before id found.0 found.1) in
      let is : txn_of (own client has.at) id ≡ found.0 = by_some (first_submit (own client has.at) id) found.0 found.1 in
      record {
        txn = found.0;
        submitted = late;
        shards = λ shard. named_shards (me client) (inputs client) has.at id body has.rests owner shard ∙ ap (takes_part shard) is;
        origin = subst (λ (t : Txn). BodyOrigin t body) is (body_origin (me client) (inputs client) has.at id body has.rests);
        commit = commit_there client has.there has.at k has.before id found.0 found.1 late body (commit_origin (me client) (inputs client) has.at id body has.rests);
      }

  of_called : (k : ℕ) (client : ClientId) (id : TxnId) (body : Body) → (has : HasAsked config events k client id body) → (keys : List Key) → WasCalledToAbort (inputs client) has.at id keys → body ≡ Abort keys → IsOfSubmitted k id body
  of_called k client id body has keys called is =
      let plan = aborted_plan config events ok client k id keys (record { at = called.at; before = omega (arith, called.before, has.before); called = called.called }) in
      subst (IsOfSubmitted k id) (sym is)
      (record {
        txn = General plan.plan;
        submitted = plan.submitted;
        shards = λ shard. has_shard-participants (Abort keys) shard ∙ ap (λ (l : List Key). any_on l shard) plan.keys_are;
        origin = tt;
        commit = tt;
      })

  of_asked : (k : ℕ) (client : ClientId) (id : TxnId) (body : Body) → HasAsked config events k client id body → IsOfSubmitted k id body
  of_asked k client id body has = elim (own_or_called (me client) (inputs client) has.at id body has.rests) [
    | inl owner ↦ of_own k client id body has owner
    | inr called ↦ of_called k client id body has called.0 called.1 called.2
  ]

  pub of_submitted : (k : ℕ) (packet : Packet) → WasAsked config events k packet → IsOfSubmitted k packet.id packet.body
  of_submitted k packet was = of_asked k was.asker packet.id packet.body was.asked

  -- ---- in the words of evidence
  pub packet_submitted : (k : ℕ) (packet : Packet) → WasAsked config events k packet → IsTrue (is_submitted (at k).history packet.id)
  packet_submitted k packet was = ap (λ (found : Option Txn). is_some found) (of_submitted k packet was).submitted

  txn_is : (k : ℕ) (packet : Packet) (was : WasAsked config events k packet) → txn_of (at k).history packet.id ≡ (of_submitted k packet was).txn
  txn_is k packet was = by_some (first_submit (at k).history packet.id) (of_submitted k packet was).txn (of_submitted k packet was).submitted

  pub packet_shards : (k : ℕ) (packet : Packet) → WasAsked config events k packet → (shard : ShardId) → names_shard shard packet ≡ takes_part shard (txn_of (at k).history packet.id)
  packet_shards k packet was shard = was.names shard ∙ ((of_submitted k packet was).shards shard ∙ ap (takes_part shard) (sym (txn_is k packet was)))

  pub packet_body : (k : ℕ) (packet : Packet) → WasAsked config events k packet → BodyOrigin (txn_of (at k).history packet.id) packet.body
  packet_body k packet was = subst (λ (t : Txn). BodyOrigin t packet.body) (sym (txn_is k packet was)) (of_submitted k packet was).origin

  pub packet_commit : (k : ℕ) (packet : Packet) → WasAsked config events k packet → HasCommitOrigin (at k).history packet.id packet.body
  packet_commit k packet was = (of_submitted k packet was).commit
