-- A CLIENT SUBMITS a transaction, and a replica crashes: what holds at every moment holds after it.
use Rattle.std.proofs.Common.{◌≡◌, ◌≤◌, ◌<◌, ◌+◌, ◌*◌, ◌⊎◌, inl, inr, ℕ, Bool, true, false, not, cond, ◌==◌, ◌||◌, ◌&&◌, nat_lt, Some, None, List, [], ◌∷◌, ◌++◌, map, length, refl, ap, sym, ◌∙◌, subst, arith, append-nil}
use Rattle.std.proofs.lemmas.Bool.{and_right, false_from_ne_true, ltb-true, ne_eqb, or_from, or_parts}
use Rattle.std.proofs.lemmas.List.{length-map}
use Rattle.std.specs.List.{list_all}
use Rattle.std.specs.Prelude.{slice_set}
use Rattle.eris_base.specs.declared.ids.ClientId.{ClientId}
use Rattle.eris_base.specs.declared.ids.ReplicaId.{ReplicaId}
use Rattle.eris_base.specs.declared.ids.ShardId.{ShardId}
use Rattle.eris_base.specs.declared.ids.TxnId.{TxnId}
use Rattle.eris_base.specs.ConfigLimits.{ConfigValue}
use Rattle.eris_base.specs.TxnIds.{same_id}
use Rattle.eris_base.proofs.Each.{Each-append}
use Rattle.eris_base.proofs.TxnIdLaws.{same_id-true}
use Rattle.eris_txn.specs.declared.body.Body.TheVariants.{Independent}
use Rattle.eris_txn.specs.declared.history.HistoryEvent.{HistoryEvent}
use Rattle.eris_txn.specs.declared.op.Op.{Op}
use Rattle.eris_txn.specs.declared.txn.Txn.{Txn}
use Rattle.eris_txn.specs.Bodies.{participants_of}
use Rattle.eris_txn.specs.Operations.{key_of}
use Rattle.eris_txn.proofs.BodyLaws.{shards_of-some}
use Rattle.eris_msg.specs.declared.outgoing.Outgoing.{Outgoing}
use Rattle.eris_event.specs.declared.refusal.Refusal.{Refusal}
use Rattle.eris_rules.specs.declared.transaction.Course.TheVariants.{Executing}
use Rattle.eris_rules.specs.declared.transaction.Transaction.{Transaction}
use Rattle.eris_rules.specs.Addressees.{replica_count}
use Rattle.eris_rules.specs.ClientStates.{ClientIdentity, ClientOut, ClientState, begun_half, next_id, transaction_at, with_transaction}
use Rattle.eris_rules.specs.Clients.{begins_half, submit}
use Rattle.eris_rules.specs.Happenings.{after_client, client_acts, client_acts_by}
use Rattle.eris_rules.specs.Known.{knows_client, knows_keys}
use Rattle.eris_rules.specs.Refusals.{submit_cause}
use Rattle.eris_rules.specs.Votes.{is_complete, is_counted}
use Rattle.eris_rules.specs.Worlds.{WorldState, client_at, with_sends}
use Rattle.eris_law_client.proofs.Entries.{found_other, found_put}
use Rattle.eris_law_epoch.specs.Members.{In}
use Rattle.eris_law_epoch.proofs.Members.{In-append, In-left, In-right}
use Rattle.eris_law_calm.specs.Calm.{Asks, Fine, IsCalmWorld, IsCell, IsJob, Job, NumberedFrom, Open, Submitted, Unstamped, asking, shards_of_ops}
use Rattle.eris_law_calm.specs.Carried.{coming}
use Rattle.eris_law_calm.specs.Crashes.{how_many_down, is_down, one_if}
use Rattle.eris_law_calm.proofs.Moving.{Keeps, all_fine, job_kept, lives_still, reads_itself, way_kept}
use Rattle.eris_law_calm.proofs.Queues.{queue_more}
use Rattle.eris_law_calm.proofs.Sending.{coming-append}
use Rattle.eris_law_calm_step.proofs.Answering.{client_put, clients_still, reads_past}
use Rattle.eris_law_calm_step.proofs.Stamping.{weigh-append}

-- ---- what is taken
record IsTaken (config : ConfigValue) (client : ClientId) (ops : List Op) : Type 0 where
  client_known : knows_client config client ≡ true
  keys_known : knows_keys config (map key_of ops) ≡ true

taken_by : (config : ConfigValue) (client : ClientId) (ops : List Op) → submit_cause config client (map key_of ops) ≡ None → IsTaken config client ops
unfolding submit_cause
taken_by config client ops h = by_tests (knows_client config client) refl (knows_keys config (map key_of ops)) refl h
  where
    by_tests : (b : Bool) → knows_client config client ≡ b → (c : Bool) → knows_keys config (map key_of ops) ≡ c → cond (not b) (Some Refusal.NoSuchClient) (cond (not c) (Some Refusal.NoSuchShard) None) ≡ None → IsTaken config client ops
    by_tests true e true d k = record { client_known = e; keys_known = d }
    by_tests true e false d k = absurd (cc)
    by_tests false e c d k = absurd (cc)

none_counted : (shards : List ShardId) → 0 < length shards → list_all (λ shard. is_counted [] shard) shards ≡ false
none_counted [] some = absurd (omega arith)
none_counted (shard ∷ shards) some = refl

module _ (config : ConfigValue) (limits : ShardId → ℕ) (budget : ℕ) (world : WorldState) (done rest : List Outgoing) (client : ClientId) (ops : List Op) (some : 0 < length ops) (cause : submit_cause config client (map key_of ops) ≡ None) (calm : IsCalmWorld config limits budget world done rest) where
  known : IsTaken config client ops
  known = taken_by config client ops cause

  pub client_is : (state : ClientState) × (client_at world.clients client ≡ Some state)
  client_is = calm.clients client known.client_known

  abbrev state : ClientState
  state = client_is.0

  abbrev me : ClientIdentity
  me = record { config = config; client = client }

  abbrev id : TxnId
  id = next_id me state

  abbrev pub out : ClientOut
  out = submit me state (Txn.Whole ops)

  abbrev event : HistoryEvent
  event = HistoryEvent.Submit id (Txn.Whole ops)

  abbrev history : List HistoryEvent
  history = world.history ++ event ∷ []

  abbrev clients : List ClientState
  clients = slice_set world.clients client.0 out.state

  abbrev next : List Outgoing
  next = rest ++ asking id ops ∷ []

  keeps : Keeps world.history history
  keeps one i = In-left one world.history (event ∷ []) i

  job : IsJob config history id ops
  job = record { submitted = In-right event world.history (event ∷ []) (inl refl); client = known.client_known; keys = known.keys_known; some = some }

  abbrev begins : Transaction
  begins = begun_half (Executing ops)

  incomplete : is_complete begins ≡ false
  unfolding is_complete begun_half
  incomplete = none_counted (shards_of_ops ops) (shards_of-some (map key_of ops) (let long = length-map ops key_of in omega (arith, long, some)))

  new_job : Job config history clients world.crashed next id ops
  unfolding submit begins_half begun_half with_transaction
  new_job = record {
    is_job = job;
    state = out.state;
    there = client_put world.clients client state out.state client_is.1;
    old = omega arith;
    transaction = begins;
    found = found_put (record state { submitted = state.submitted + 1 }) id begins;
    course = refl;
    progress = Open (record { unfinished = refl; incomplete = incomplete; counts = record { at = λ vote answer i made. absurd i } }) (Unstamped (In-right (asking id ops) rest (asking id ops ∷ []) (inl refl)));
  }

  -- an id that was submitted isn't the next one
  is_older : (other : TxnId) (others : List Op) → Job config world.history world.clients world.crashed rest other others → same_id other id ≡ false
  is_older other others was = false_from_ne_true (same_id other id) (λ same.
      let one = same_id-true other id same in
      let both : Some was.state ≡ Some state = sym was.there ∙ ap (λ (i : TxnId). client_at world.clients i.client) one ∙ client_is.1 in
      let states : was.state ≡ state = cc in
      let number = ap (λ (i : TxnId). i.number) one in
      let submitted = ap (λ (s : ClientState). s.submitted) states in
      omega (arith, was.old, number, submitted))

  reads_as : (other : TxnId) → same_id other id ≡ false → transaction_at out.state other ≡ transaction_at state other
  unfolding submit begins_half with_transaction transaction_at
  reads_as other apart = found_other (record state { submitted = state.submitted + 1 }) id begins other apart

  more_submitted : state.submitted ≤ out.state.submitted
  unfolding submit begins_half with_transaction
  more_submitted = omega arith

  old_job : (other : TxnId) (others : List Op) → Job config world.history world.clients world.crashed rest other others → Job config history clients world.crashed next other others
  old_job other others was =
      job_kept config world.history history keeps world.clients clients world.crashed world.crashed rest next other others
      (reads_past world.clients client state out.state other client_is.1 more_submitted (reads_as other (is_older other others was)))
      (way_kept config world.crashed world.crashed rest next other others (λ one i. In-left one rest (asking id ops ∷ []) i) (λ a b down. down)) was

  jobs_after : (other : TxnId) (others : List Op) → Submitted history other others → Job config history clients world.crashed next other others
  jobs_after other others submitted = by_time (In-append (HistoryEvent.Submit other (Txn.Whole others)) world.history (event ∷ []) submitted)
    where
      by_time : In (HistoryEvent.Submit other (Txn.Whole others)) world.history ⊎ In (HistoryEvent.Submit other (Txn.Whole others)) (event ∷ []) → Job config history clients world.crashed next other others
      by_time (inl old) = old_job other others (calm.jobs other others old)
      by_time (inr (inl now)) =
          let same : other ≡ id = cc in
          let equal : others ≡ ops = cc in
          subst (λ (i : TxnId). Job config history clients world.crashed next i others) (sym same) (subst (λ (l : List Op). Job config history clients world.crashed next id l) (sym equal) new_job)
      by_time (inr (inr none)) = absurd none

  none_asked : (shard : ShardId) (replica : ReplicaId) → coming shard replica next ≡ coming shard replica rest
  none_asked shard replica = coming-append shard replica rest (asking id ops ∷ []) ∙ append-nil (coming shard replica rest)

  cell_after : (shard : ShardId) (replica : ReplicaId) → IsCell world.crashed world.replicas world.history (length done) rest calm.stamping.sequencer.counters shard replica
      → IsCell world.crashed world.replicas history (length done) next calm.stamping.sequencer.counters shard replica
  cell_after shard replica cell = record {
    taken = cell.taken;
    low = cell.low;
    counter = (let same = ap length (none_asked shard replica) in omega (arith, cell.counter, same));
    numbered = subst (λ list. NumberedFrom shard cell.taken list) (sym (none_asked shard replica)) cell.numbered;
    lives = λ up. lives_still config world.history history keeps world.replicas shard replica cell.taken (cell.lives up);
  }

  whole_after : (other : TxnId) (txn : Txn) → In (HistoryEvent.Submit other txn) history → (others : List Op) × (txn ≡ Txn.Whole others)
  whole_after other txn i = by_time (In-append (HistoryEvent.Submit other txn) world.history (event ∷ []) i)
    where
      by_time : In (HistoryEvent.Submit other txn) world.history ⊎ In (HistoryEvent.Submit other txn) (event ∷ []) → (others : List Op) × (txn ≡ Txn.Whole others)
      by_time (inl old) = calm.whole other txn old
      by_time (inr (inl now)) = (ops, cc)
      by_time (inr (inr none)) = absurd none

  -- THE WORLD after the submission
  abbrev pub submitted_world : WorldState
  submitted_world = after_client world client out

  pub calm_submitted : length (world.sent ++ out.sends) ≤ 262144 → IsCalmWorld config limits (budget + (1 + length (participants_of (Independent ops)) * (2 * replica_count config))) submitted_world done next
  unfolding after_client with_sends submit begins_half
  calm_submitted few = record {
    queue = queue_more world.sent world.waiting done rest (asking id ops ∷ []) calm.queue;
    few_sent = few;
    weighs = (let both = weigh-append config rest (asking id ops ∷ []) in omega (arith, both, calm.weighs));
    stamping = calm.stamping;
    stampings = calm.stampings;
    epoch = calm.epoch;
    counters = calm.counters;
    fine = Each-append (Fine config history) rest (asking id ops ∷ []) (all_fine config world.history history keeps rest calm.fine) (Asks id ops job, tt);
    cells = λ shard replica low high. cell_after shard replica (calm.cells shard replica low high);
    few = calm.few;
    first_up = calm.first_up;
    clients = clients_still config world.clients client state out.state client_is.1 calm.clients;
    whole = whole_after;
    jobs = jobs_after;
  }

  pub takes_submission : client_acts config world client (λ me state. submit me state (Txn.Whole ops)) ≡ submitted_world
  unfolding client_acts
  takes_submission = ap (λ found. client_acts_by config world client (λ me state. submit me state (Txn.Whole ops)) found) client_is.1

-- ---- a crash
down_more : (down : List (ShardId × ReplicaId)) (pair : ShardId × ReplicaId) (shard replica : ℕ) → is_down (down ++ pair ∷ []) shard replica ≡ (is_down down shard replica || ((pair.0.0 == shard) && (pair.1.0 == replica)))
down_more [] pair shard replica = no_more ((pair.0.0 == shard) && (pair.1.0 == replica))
  where
    no_more : (b : Bool) → (b || false) ≡ b
    no_more true = refl
    no_more false = refl
down_more (first ∷ down) pair shard replica = by_test ((first.0.0 == shard) && (first.1.0 == replica)) (down_more down pair shard replica)
  where
    by_test : (b : Bool) → is_down (down ++ pair ∷ []) shard replica ≡ (is_down down shard replica || ((pair.0.0 == shard) && (pair.1.0 == replica)))
        → (b || is_down (down ++ pair ∷ []) shard replica) ≡ ((b || is_down down shard replica) || ((pair.0.0 == shard) && (pair.1.0 == replica)))
    by_test true rest = refl
    by_test false rest = rest

many_more : (down : List (ShardId × ReplicaId)) (pair : ShardId × ReplicaId) (shard : ℕ) → how_many_down (down ++ pair ∷ []) shard ≡ how_many_down down shard + one_if (pair.0.0 == shard)
many_more [] pair shard = omega arith
many_more (first ∷ down) pair shard = let rest = many_more down pair shard in omega (arith, rest)

module _ (config : ConfigValue) (limits : ShardId → ℕ) (budget : ℕ) (world : WorldState) (done rest : List Outgoing) (shard : ShardId) (replica : ReplicaId) (not_first : nat_lt 0 replica.0 ≡ true) (calm : IsCalmWorld config limits budget world done rest) where
  abbrev down : List (ShardId × ReplicaId)
  down = world.crashed ++ (shard, replica) ∷ []

  falls : (a b : ℕ) → is_down world.crashed a b ≡ true → is_down down a b ≡ true
  falls a b h = down_more world.crashed (shard, replica) a b ∙ ap (λ c. c || ((shard.0 == a) && (replica.0 == b))) h

  was_up : (a b : ℕ) → is_down down a b ≡ false → is_down world.crashed a b ≡ false
  was_up a b h = (or_parts _ _ (sym (down_more world.crashed (shard, replica) a b) ∙ h)).0

  -- THE WORLD after the crash
  abbrev pub crashed_world : WorldState
  crashed_world = record world { crashed = down }

  pub calm_crashed : IsCalmWorld config (λ other. limits other + one_if (shard.0 == other.0)) budget crashed_world done rest
  calm_crashed = record {
    queue = calm.queue;
    few_sent = calm.few_sent;
    weighs = calm.weighs;
    stamping = calm.stamping;
    stampings = calm.stampings;
    epoch = calm.epoch;
    counters = calm.counters;
    fine = calm.fine;
    cells = λ a b low high. (let cell = calm.cells a b low high in record { taken = cell.taken; low = cell.low; counter = cell.counter; numbered = cell.numbered; lives = λ up. cell.lives (was_up a.0 b.0 up) });
    few = λ other. (let was = calm.few other in let more = many_more world.crashed (shard, replica) other.0 in omega (arith, was, more));
    first_up = λ other. down_more world.crashed (shard, replica) other.0 0 ∙ or_from _ _ (calm.first_up other) (and_right _ _ (ne_eqb replica.0 0 (λ e. (let low = ltb-true 0 replica.0 not_first in omega arith))));
    clients = calm.clients;
    whole = calm.whole;
    jobs = λ other others submitted.
        job_kept config world.history world.history (λ event i. i) world.clients world.clients world.crashed down rest rest other others (reads_itself world.clients other)
        (way_kept config world.crashed down rest rest other others (λ one i. i) falls) (calm.jobs other others submitted);
  }
