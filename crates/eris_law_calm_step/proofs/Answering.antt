-- A VOTE COMES, in the world: what holds at every moment holds after it.
use Rattle.std.proofs.Common.{◌≡◌, ◌≤◌, ◌-◌, ◌⊎◌, inl, inr, ℕ, true, false, Option, Some, None, is_some, List, [], ◌∷◌, ◌++◌, length, refl, ap, sym, ◌∙◌, subst, arith, append-nil, length-append}
use Rattle.std.proofs.lemmas.Bool.{cases_Bool}
use Rattle.std.specs.Prelude.{slice_get, slice_set}
use Rattle.eris_base.specs.declared.ids.ClientId.{ClientId}
use Rattle.eris_base.specs.declared.ids.Node.TheVariants.{Client, Replica, Sequencer}
use Rattle.eris_base.specs.declared.ids.Phase.{Phase}
use Rattle.eris_base.specs.declared.ids.ReplicaId.{ReplicaId}
use Rattle.eris_base.specs.declared.ids.ShardId.{ShardId}
use Rattle.eris_base.specs.declared.ids.TxnId.{TxnId}
use Rattle.eris_base.specs.declared.stamp.Stamp.{Stamp}
use Rattle.eris_base.specs.ConfigLimits.{ConfigValue}
use Rattle.eris_base.specs.TxnIds.{same_id}
use Rattle.eris_base.proofs.TxnIdLaws.{same_id-true, same_id-refl}
use Rattle.eris_txn.specs.declared.answer.Answer.{Answer}
use Rattle.eris_txn.specs.declared.history.HistoryEvent.{HistoryEvent}
use Rattle.eris_txn.specs.declared.op.Op.{Op}
use Rattle.eris_txn.specs.declared.txn.Txn.{Txn}
use Rattle.eris_msg.specs.declared.outgoing.Outgoing.{Outgoing}
use Rattle.eris_rules.specs.declared.transaction.Vote.{Vote}
use Rattle.eris_rules.specs.ClientStates.{ClientIdentity, ClientOut, ClientState, transaction_at}
use Rattle.eris_rules.specs.Clients.{client_step}
use Rattle.eris_rules.specs.Happenings.{after_client, client_acts, client_acts_by}
use Rattle.eris_rules.specs.Known.{knows_client}
use Rattle.eris_rules.specs.Worlds.{WorldState, client_at, no_longer_waiting, with_event, with_sends}
use Rattle.eris_law_client.specs.Counts.{message_of}
use Rattle.eris_law_epoch.specs.Members.{In}
use Rattle.eris_law_epoch.proofs.Members.{In-left, In-right}
use Rattle.eris_law_epoch.proofs.Frame.{get-set, get-set_same}
use Rattle.eris_law_calm.specs.Calm.{Done, Heard, IsAnswered, IsCalmWorld, IsCell, IsJob, IsOpen, IsQueue, IsRight, Job, Open, Progress, Submitted, Way, voting}
use Rattle.eris_law_calm.specs.Noted.{CountsAll, HasVote, vote_by}
use Rattle.eris_law_calm.proofs.Moving.{Brings, Keeps, ReadsSame, all_fine, answered_still, job_kept, job_still, lives_still, one_transaction, way_next}
use Rattle.eris_law_calm.proofs.Queues.{queue_more, queue_next}
use Rattle.eris_law_calm_step.proofs.Counting.{Hears, heard, in_place_by, keeps_with, same_vote, submits_none}
use Rattle.eris_law_calm_step.proofs.Stamping.{weight-vote}

-- ---- a client is changed
-- what stands for a client after another is put
pub client_put : (clients : List ClientState) (client : ClientId) (old new : ClientState) → client_at clients client ≡ Some old → client_at (slice_set clients client.0 new) client ≡ Some new
unfolding client_at
client_put clients client old new h = get-set_same clients client.0 old new h

pub client_there : (clients : List ClientState) (client : ClientId) (old new : ClientState) → client_at clients client ≡ Some old → (other : ClientId)
    → ((other.0 ≡ client.0) × (client_at (slice_set clients client.0 new) other ≡ Some new)) ⊎ (client_at (slice_set clients client.0 new) other ≡ client_at clients other)
unfolding client_at
client_there clients client old new h other = get-set clients client.0 other.0 old new h

-- each client is still there
pub clients_still : (config : ConfigValue) (clients : List ClientState) (client : ClientId) (old new : ClientState) → client_at clients client ≡ Some old
    → ((other : ClientId) → knows_client config other ≡ true → (state : ClientState) × (client_at clients other ≡ Some state))
    → (other : ClientId) → knows_client config other ≡ true → (state : ClientState) × (client_at (slice_set clients client.0 new) other ≡ Some state)
clients_still config clients client old new h each other known = elim (client_there clients client old new h other) [
  | inl e ↦ (new, e.1)
  | inr e ↦ (let was = each other known in (was.0, e ∙ was.1))
]

-- another transaction reads as before
pub reads_past : (clients : List ClientState) (client : ClientId) (old new : ClientState) (other : TxnId) → client_at clients client ≡ Some old → old.submitted ≤ new.submitted
    → transaction_at new other ≡ transaction_at old other → ReadsSame clients (slice_set clients client.0 new) other
unfolding client_at
reads_past clients client old new other h more same = record { at = λ state there. by_client state there (client_there clients client old new h other.client) }
  where
    by_client : (state : ClientState) → client_at clients other.client ≡ Some state
        → ((other.client.0 ≡ client.0) × (client_at (slice_set clients client.0 new) other.client ≡ Some new)) ⊎ (client_at (slice_set clients client.0 new) other.client ≡ client_at clients other.client)
        → (next : ClientState) × (client_at (slice_set clients client.0 new) other.client ≡ Some next) × (state.submitted ≤ next.submitted) × (transaction_at next other ≡ transaction_at state other)
    by_client state there (inl e) =
        let both : Some state ≡ Some old = sym there ∙ ap (slice_get clients) e.0 ∙ h in
        let one : state ≡ old = cc in
        (new, e.1, subst (λ (s : ClientState). s.submitted ≤ new.submitted) (sym one) more, same ∙ ap (λ (s : ClientState). transaction_at s other) (sym one))
    by_client state there (inr e) = (state, e ∙ there, omega arith, refl)

module _ (config : ConfigValue) (limits : ShardId → ℕ) (budget : ℕ) (world : WorldState) (done rest : List Outgoing) (id : TxnId) (ops : List Op) (vote : Vote) (job : IsJob config world.history id ops) (right : IsRight config ops vote) (calm : IsCalmWorld config limits budget world done (voting id vote ∷ rest)) where
  abbrev one : Outgoing
  one = voting id vote

  pub own : Job config world.history world.clients world.crashed (one ∷ rest) id ops
  own = calm.jobs id ops job.submitted

  abbrev me : ClientIdentity
  me = record { config = config; client = id.client }

  abbrev pub out : ClientOut
  out = client_step me own.state (message_of vote id Phase.Whole)

  how : Progress config world.history world.crashed (one ∷ rest) id ops own.transaction → (own.transaction.finished ≡ true) ⊎ ((own.transaction.finished ≡ false) × CountsAll config.f own.transaction.votes own.transaction.counted)
  how (Done finished answered) = inl finished
  how (Open opened way) = inr (opened.unfinished, opened.counts)

  hears : Hears config.f own.state id own.transaction vote out
  hears = heard me own.state id ops own.transaction vote own.found own.course right.fits (in_place_by config ops id vote vote.answer job.client right) (how own.progress)

  abbrev history : List HistoryEvent
  history = with_event world.history out.event

  abbrev clients : List ClientState
  clients = slice_set world.clients id.client.0 out.state

  keeps : Keeps world.history history
  keeps = keeps_with world.history out.event

  event_is : (out.event ≡ None) ⊎ ((answer : Answer) × (out.event ≡ Some (HistoryEvent.Answer id answer)))
  event_is = elim hears.result [
    | inl rested ↦ inl rested.2
    | inr (inl answered) ↦ inr (answered.1, answered.2)
    | inr (inr opened) ↦ inl opened.3
  ]

  submits : (other : TxnId) (txn : Txn) → In (HistoryEvent.Submit other txn) history → In (HistoryEvent.Submit other txn) world.history
  submits = submits_none world.history out.event id event_is

  there : client_at clients id.client ≡ Some out.state
  there = client_put world.clients id.client own.state out.state own.there

  -- ---- its own transaction
  tells_own : (stamp : Stamp) (shard : ShardId) (replica : ℕ) (found : Option Answer) → (replica ≡ 0 → is_some found ≡ true) → voting id (vote_by shard (record { 0 = replica }) stamp found) ≡ one
      → HasVote (own.transaction.votes ++ vote ∷ []) shard (record { 0 = replica }) stamp
  tells_own stamp shard replica found learner e =
      let given = vote_by shard (record { 0 = replica }) stamp found in
      let same = same_vote given vote id id found vote.answer refl refl (ap (λ (o : Outgoing). o.message) e) in
      record { found = found; learner = learner; there = In-right given own.transaction.votes (vote ∷ []) (inl same.1) }

  brings_own : Brings config world.crashed one rest rest id ops own.transaction.votes (own.transaction.votes ++ vote ∷ [])
  brings_own = record {
    stays = λ other i. i;
    stamps = λ e. (let to : Sequencer ≡ Client id.client = ap (λ (o : Outgoing). o.to) e in absurd (cc));
    speaks = λ stamp shard replica e. (let to : Replica shard (record { 0 = replica }) ≡ Client id.client = ap (λ (o : Outgoing). o.to) e in absurd (cc));
    tells = λ stamp shard replica found learner e. Heard (tells_own stamp shard replica found learner e);
    keeps = λ stamp shard replica was. record { found = was.found; learner = was.learner; there = In-left _ own.transaction.votes (vote ∷ []) was.there };
  }

  answers_now : (answer : Answer) → out.event ≡ Some (HistoryEvent.Answer id answer) → IsAnswered id history
  answers_now answer is =
      (answer, subst (λ (e : Option HistoryEvent). In (HistoryEvent.Answer id answer) (with_event world.history e)) (sym is) (In-right (HistoryEvent.Answer id answer) world.history (HistoryEvent.Answer id answer ∷ []) (inl refl)))

  own_progress : Progress config world.history world.crashed (one ∷ rest) id ops own.transaction → Progress config history world.crashed rest id ops hears.after
  own_progress progress = by_result progress hears.result
    where
      by_result : Progress config world.history world.crashed (one ∷ rest) id ops own.transaction
          → ((own.transaction.finished ≡ true) × (hears.after.finished ≡ true) × (out.event ≡ None))
          ⊎ (((hears.after.finished ≡ true) × (answer : Answer) × (out.event ≡ Some (HistoryEvent.Answer id answer)))
          ⊎ ((own.transaction.finished ≡ false) × IsOpen config.f hears.after × (hears.after.votes ≡ own.transaction.votes ++ vote ∷ []) × (out.event ≡ None)))
          → Progress config history world.crashed rest id ops hears.after
      by_result (Done finished answered) (inl rested) = Done rested.1 (answered_still config world.history history keeps id answered)
      by_result (Open opened way) (inl rested) = let clash : true ≡ false = sym rested.0 ∙ opened.unfinished in absurd (cc)
      by_result progress (inr (inl answered)) = Done answered.0 (answers_now answered.1 answered.2)
      by_result (Done finished answered) (inr (inr opened)) = let clash : true ≡ false = sym finished ∙ opened.0 in absurd (cc)
      by_result (Open was way) (inr (inr opened)) =
          Open opened.1 (subst (λ (votes : List Vote). Way config world.crashed rest id ops votes) (sym opened.2)
          (way_next config world.crashed one rest rest id ops own.transaction.votes (own.transaction.votes ++ vote ∷ []) brings_own way))

  own_after : Job config history clients world.crashed rest id ops
  own_after = record {
    is_job = job_still config world.history history keeps id ops own.is_job;
    state = out.state;
    there = there;
    old = (let same = hears.submitted in omega (arith, own.old, same));
    transaction = hears.after;
    found = hears.here;
    course = hears.course ∙ own.course;
    progress = own_progress own.progress;
  }

  -- ---- the others
  apart_tells : (other : TxnId) → same_id other id ≡ false → (v : Vote) → voting other v ≡ one → ⊥
  apart_tells other apart v e =
      let same = same_vote v vote other id v.answer vote.answer refl refl (ap (λ (o : Outgoing). o.message) e) in
      let clash : true ≡ false = sym (same_id-refl id) ∙ ap (λ (i : TxnId). same_id i id) (sym same.0) ∙ apart in absurd (cc)

  other_after : (other : TxnId) (others : List Op) → same_id other id ≡ false → Job config world.history world.clients world.crashed (one ∷ rest) other others → Job config history clients world.crashed rest other others
  other_after other others apart was =
      job_kept config world.history history keeps world.clients clients world.crashed world.crashed (one ∷ rest) rest other others
      (reads_past world.clients id.client own.state out.state other own.there (let same = hears.submitted in omega (arith, same)) (hears.apart other apart))
      (λ votes. way_next config world.crashed one rest rest other others votes votes (record {
        stays = λ x i. i;
        stamps = λ e. (let to : Sequencer ≡ Client id.client = ap (λ (o : Outgoing). o.to) e in absurd (cc));
        speaks = λ stamp shard replica e. (let to : Replica shard (record { 0 = replica }) ≡ Client id.client = ap (λ (o : Outgoing). o.to) e in absurd (cc));
        tells = λ stamp shard replica found learner e. absurd (apart_tells other apart (vote_by shard (record { 0 = replica }) stamp found) e);
        keeps = λ stamp shard replica was. was;
      }))
      was

  jobs_after : (other : TxnId) (others : List Op) → Submitted world.history other others → Job config history clients world.crashed rest other others
  jobs_after other others submitted = elim (cases_Bool (same_id other id)) [
    | inr apart ↦ other_after other others apart (calm.jobs other others submitted)
    | inl same ↦
        let one_id = same_id-true other id same in
        let one_ops = one_transaction config world.history world.clients world.crashed (one ∷ rest) calm.jobs id others ops (subst (λ (i : TxnId). Submitted world.history i others) one_id submitted) job.submitted in
        subst (λ (i : TxnId). Job config history clients world.crashed rest i others) (sym one_id) (subst (λ (l : List Op). Job config history clients world.crashed rest id l) (sym one_ops) own_after)
  ]

  cell_after : (shard : ShardId) (replica : ReplicaId) → IsCell world.crashed world.replicas world.history (length done) (one ∷ rest) calm.stamping.sequencer.counters shard replica
      → IsCell world.crashed world.replicas history (length (done ++ one ∷ [])) rest calm.stamping.sequencer.counters shard replica
  cell_after shard replica cell = record {
    taken = cell.taken;
    low = (let long = length-append done (one ∷ []) in omega (arith, cell.low, long));
    counter = cell.counter;
    numbered = cell.numbered;
    lives = λ up. lives_still config world.history history keeps world.replicas shard replica cell.taken (cell.lives up);
  }

  -- THE WORLD after the vote
  abbrev pub answered_world : WorldState
  answered_world = after_client (no_longer_waiting world (length done)) id.client out

  no_more : rest ++ out.sends ≡ rest
  no_more = ap (λ (sends : List Outgoing). rest ++ sends) hears.sends ∙ append-nil rest

  pub calm_answered : length (world.sent ++ out.sends) ≤ 262144 → IsCalmWorld config limits (budget - 1) answered_world (done ++ one ∷ []) rest
  unfolding after_client with_sends no_longer_waiting
  calm_answered few = record {
    queue = subst (IsQueue (world.sent ++ out.sends) _ (done ++ one ∷ [])) no_more (queue_more world.sent _ (done ++ one ∷ []) rest out.sends (queue_next world.sent world.waiting done one rest calm.queue));
    few_sent = few;
    weighs = (let light = weight-vote config id vote in omega (arith, light, calm.weighs));
    stamping = calm.stamping;
    stampings = calm.stampings;
    epoch = calm.epoch;
    counters = calm.counters;
    fine = all_fine config world.history history keeps rest calm.fine.1;
    cells = λ shard replica low high. cell_after shard replica (calm.cells shard replica low high);
    few = calm.few;
    first_up = calm.first_up;
    clients = clients_still config world.clients id.client own.state out.state own.there calm.clients;
    whole = λ other txn i. calm.whole other txn (submits other txn i);
    jobs = λ other others i. jobs_after other others (submits other (Txn.Whole others) i);
  }

  -- what the message does in the world
  pub takes_vote : client_acts config (no_longer_waiting world (length done)) id.client (λ me state. client_step me state (message_of vote id Phase.Whole)) ≡ answered_world
  unfolding client_acts no_longer_waiting
  takes_vote = ap (λ found. client_acts_by config (no_longer_waiting world (length done)) id.client (λ me state. client_step me state (message_of vote id Phase.Whole)) found) own.there
