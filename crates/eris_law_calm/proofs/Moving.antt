-- WHAT A STEP LEAVES AS IT WAS: a transaction that the step doesn't touch keeps its place, and so does a replica.
use Rattle.std.proofs.Common.{◌≡◌, ◌≤◌, ◌+◌, inl, inr, ℕ, suc, true, Option, Some, is_some, List, [], ◌∷◌, ◌++◌, length, refl, ap, sym, ◌∙◌, subst, arith}
use Rattle.eris_base.specs.declared.ids.ReplicaId.{ReplicaId}
use Rattle.eris_base.specs.declared.ids.ShardId.{ShardId}
use Rattle.eris_base.specs.declared.ids.TxnId.{TxnId}
use Rattle.eris_base.specs.declared.stamp.Stamp.{Stamp}
use Rattle.eris_txn.specs.declared.answer.Answer.{Answer}
use Rattle.eris_base.specs.ConfigLimits.{ConfigValue}
use Rattle.eris_base.specs.Each.{Each}
use Rattle.eris_base.proofs.Each.{Each-weaker}
use Rattle.eris_txn.specs.declared.history.HistoryEvent.{HistoryEvent}
use Rattle.eris_txn.specs.declared.op.Op.{Op}
use Rattle.eris_txn.specs.declared.packet.Packet.{Packet}
use Rattle.eris_msg.specs.declared.outgoing.Outgoing.{Outgoing}
use Rattle.eris_rules.specs.declared.transaction.Course.TheVariants.{Executing}
use Rattle.eris_rules.specs.declared.transaction.Transaction.{Transaction}
use Rattle.eris_rules.specs.declared.transaction.Vote.{Vote}
use Rattle.eris_rules.specs.ClientStates.{ClientState, transaction_at}
use Rattle.eris_rules.specs.ReplicaStates.{ReplicaState}
use Rattle.eris_rules.specs.Worlds.{client_at}
use Rattle.eris_law_epoch.specs.Members.{In}
use Rattle.eris_law_calm.specs.Calm.{Asks, Carries, Coming, Done, Down, Fine, Heard, IsAnswered, IsJob, Job, Lives, NumberedFrom, Open, Progress, Said, Spread, Stage, Submitted, Unstamped, Votes, Way, asking, packet_of, voting}
use Rattle.eris_law_calm.specs.Carried.{carrying}
use Rattle.eris_law_calm.specs.Crashes.{is_down}
use Rattle.eris_law_calm.specs.Packets.{IsWhole}
use Rattle.eris_law_calm.specs.Noted.{HasVote, vote_by}

-- a history has what another one has
abbrev pub Keeps : List HistoryEvent → List HistoryEvent → Type 0
Keeps before after = (event : HistoryEvent) → In event before → In event after

-- what a client knows of a transaction is as before
pub record ReadsSame (before after : List ClientState) (id : TxnId) : Type 0 where
  pub at : (state : ClientState) → client_at before id.client ≡ Some state
      → (next : ClientState) × (client_at after id.client ≡ Some next) × (state.submitted ≤ next.submitted) × (transaction_at next id ≡ transaction_at state id)

pub reads_itself : (clients : List ClientState) (id : TxnId) → ReadsSame clients clients id
reads_itself clients id = record { at = λ state there. (state, there, omega arith, refl) }

module _ (config : ConfigValue) (before after : List HistoryEvent) (keeps : Keeps before after) where
  pub job_still : (id : TxnId) (ops : List Op) → IsJob config before id ops → IsJob config after id ops
  job_still id ops is = record { submitted = keeps _ is.submitted; client = is.client; keys = is.keys; some = is.some }

  pub fine_still : (one : Outgoing) → Fine config before one → Fine config after one
  fine_still _ (Asks id ops job) = Asks id ops (job_still id ops job)
  fine_still _ (Carries id ops stamp shard replica job carried) = Carries id ops stamp shard replica (job_still id ops job) carried
  fine_still _ (Votes id ops vote job right) = Votes id ops vote (job_still id ops job) right

  pub all_fine : (sent : List Outgoing) → Each (Fine config before) sent → Each (Fine config after) sent
  all_fine sent each = Each-weaker (Fine config before) (Fine config after) fine_still sent each

  whole_still : (packet : Packet) → IsWhole (Submitted before) packet → IsWhole (Submitted after) packet
  whole_still packet is = (is.0, record { body = is.1.body; known = keeps _ is.1.known })

  pub lives_still : (replicas : List (List ReplicaState)) (shard : ShardId) (replica : ReplicaId) (count : ℕ) → Lives replicas before shard replica count → Lives replicas after shard replica count
  lives_still replicas shard replica count lives =
      record { packets = lives.packets; at = lives.at; many = lives.many; whole = Each-weaker (IsWhole (Submitted before)) (IsWhole (Submitted after)) whole_still lives.packets lives.whole }

  pub answered_still : (id : TxnId) → IsAnswered id before → IsAnswered id after
  answered_still id is = (is.0, keeps _ is.1)

  -- A TRANSACTION that a step doesn't touch, where it is still on its way
  pub job_kept : (clients others : List ClientState) (crashed down : List (ShardId × ReplicaId)) (rest next : List Outgoing) (id : TxnId) (ops : List Op) → ReadsSame clients others id
      → ((votes : List Vote) → Way config crashed rest id ops votes → Way config down next id ops votes) → Job config before clients crashed rest id ops → Job config after others down next id ops
  job_kept clients others crashed down rest next id ops reads way job =
      let now = reads.at job.state job.there in
      record {
        is_job = job_still id ops job.is_job;
        state = now.0;
        there = now.1;
        old = omega (arith, job.old, now.2);
        transaction = job.transaction;
        found = now.3 ∙ job.found;
        course = job.course;
        progress = by_progress job.progress;
      }
    where
      by_progress : Progress config before crashed rest id ops job.transaction → Progress config after down next id ops job.transaction
      by_progress (Done finished answered) = Done finished (answered_still id answered)
      by_progress (Open opened on) = Open opened (way job.transaction.votes on)

-- what is on its way stays so where the messages stay and nobody comes up again
module _ (config : ConfigValue) (crashed down : List (ShardId × ReplicaId)) (rest next : List Outgoing) (id : TxnId) (ops : List Op) where
  pub way_kept : ((one : Outgoing) → In one rest → In one next) → ((shard replica : ℕ) → is_down crashed shard replica ≡ true → is_down down shard replica ≡ true)
      → (votes : List Vote) → Way config crashed rest id ops votes → Way config down next id ops votes
  way_kept stays falls votes (Unstamped i) = Unstamped (stays _ i)
  way_kept stays falls votes (Spread stamp each) = Spread stamp (λ shard replica named low. stage_kept shard replica (each shard replica named low))
    where
      stage_kept : (shard : ShardId) (replica : ℕ) → Stage crashed rest id ops stamp votes shard replica → Stage down next id ops stamp votes shard replica
      stage_kept shard replica (Coming i) = Coming (stays _ i)
      stage_kept shard replica (Down is) = Down (falls shard.0 replica is)
      stage_kept shard replica (Said found learner i) = Said found learner (stays _ i)
      stage_kept shard replica (Heard vote) = Heard vote

-- and where the first message is delivered, what it brings stands for it
module _ (config : ConfigValue) (crashed : List (ShardId × ReplicaId)) (one : Outgoing) (rest next : List Outgoing) (id : TxnId) (ops : List Op) (votes more : List Vote) where
  pub record Brings : Type 0 where
    pub stays : (other : Outgoing) → In other rest → In other next
    pub stamps : asking id ops ≡ one → Way config crashed next id ops more
    pub speaks : (stamp : Stamp) (shard : ShardId) (replica : ℕ) → carrying (packet_of id ops stamp) shard replica ≡ one → Stage crashed next id ops stamp more shard replica
    pub tells : (stamp : Stamp) (shard : ShardId) (replica : ℕ) (found : Option Answer) → (replica ≡ 0 → is_some found ≡ true) → voting id (vote_by shard (record { 0 = replica }) stamp found) ≡ one → Stage crashed next id ops stamp more shard replica
    pub keeps : (stamp : Stamp) (shard : ShardId) (replica : ℕ) → HasVote votes shard (record { 0 = replica }) stamp → HasVote more shard (record { 0 = replica }) stamp

  pub way_next : Brings → Way config crashed (one ∷ rest) id ops votes → Way config crashed next id ops more
  way_next brings (Unstamped (inl e)) = brings.stamps e
  way_next brings (Unstamped (inr i)) = Unstamped (brings.stays _ i)
  way_next brings (Spread stamp each) = Spread stamp (λ shard replica named low. stage_next shard replica (each shard replica named low))
    where
      stage_next : (shard : ShardId) (replica : ℕ) → Stage crashed (one ∷ rest) id ops stamp votes shard replica → Stage crashed next id ops stamp more shard replica
      stage_next shard replica (Coming (inl e)) = brings.speaks stamp shard replica e
      stage_next shard replica (Coming (inr i)) = Coming (brings.stays _ i)
      stage_next shard replica (Down is) = Down is
      stage_next shard replica (Said found learner (inl e)) = brings.tells stamp shard replica found learner e
      stage_next shard replica (Said found learner (inr i)) = Said found learner (brings.stays _ i)
      stage_next shard replica (Heard vote) = Heard (brings.keeps stamp shard replica vote)

-- AN ID HAS ONE TRANSACTION
module _ (config : ConfigValue) (history : List HistoryEvent) (clients : List ClientState) (crashed : List (ShardId × ReplicaId)) (rest : List Outgoing) (jobs : (id : TxnId) (ops : List Op) → Submitted history id ops → Job config history clients crashed rest id ops) where
  one_state : (id : TxnId) (some more : ClientState) → client_at clients id.client ≡ Some some → client_at clients id.client ≡ Some more → some ≡ more
  one_state id some more h k = let same : Some some ≡ Some more = sym h ∙ k in cc

  pub one_transaction : (id : TxnId) (some more : List Op) → Submitted history id some → Submitted history id more → some ≡ more
  one_transaction id some more h k =
      let first = jobs id some h in
      let second = jobs id more k in
      let states = one_state id first.state second.state first.there second.there in
      let found : Some first.transaction ≡ Some second.transaction = sym first.found ∙ ap (λ (s : ClientState). transaction_at s id) states ∙ second.found in
      let transactions : first.transaction ≡ second.transaction = cc in
      let courses : Executing some ≡ Executing more = sym first.course ∙ ap (λ (t : Transaction). t.course) transactions ∙ second.course in
      cc

-- ---- numbers
pub numbered_more : (shard : ShardId) (from : ℕ) (some more : List Packet) → NumberedFrom shard from some → NumberedFrom shard (from + length some) more → NumberedFrom shard from (some ++ more)
numbered_more shard from [] more h k = subst (λ (n : ℕ). NumberedFrom shard n more) (let here : from + 0 ≡ from = omega arith in here) k
numbered_more shard from (packet ∷ some) more h k =
    (h.0, numbered_more shard (from + 1) some more h.1 (subst (λ (n : ℕ). NumberedFrom shard n more) (let next : from + suc (length some) ≡ (from + 1) + length some = omega arith in next) k))
