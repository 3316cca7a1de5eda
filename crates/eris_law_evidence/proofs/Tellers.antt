-- What held of the replica that gave an answer, right after the step that gave it, in the whole run: the learner that
-- replied had no gap up to the packet, and its store gave the answer over its log; the learner that gave a late answer
-- had no gap up to its settled number, and its store gave it over its log up to there.
use Rattle.std.proofs.Common.{◌≡◌, ℕ, suc, ◌≤◌, List, refl, sym, subst, arith}
use Rattle.eris_base.specs.declared.ids.Node.{Node}
use Rattle.eris_base.specs.declared.ids.Phase.{Phase}
use Rattle.eris_base.specs.declared.ids.ReplicaId.{ReplicaId}
use Rattle.eris_base.specs.declared.ids.ShardId.{ShardId}
use Rattle.eris_base.specs.declared.ids.TxnId.{TxnId}
use Rattle.eris_base.specs.declared.ids.View.{View}
use Rattle.eris_base.specs.declared.stamp.Stamp.{Stamp}
use Rattle.eris_base.specs.ConfigLimits.{ConfigValue}
use Rattle.eris_txn.specs.declared.answer.Answer.{Answer}
use Rattle.eris_log.specs.Laws.Entries.{NoGap}
use Rattle.eris_locks.specs.declared.done.Done.{Done}
use Rattle.eris_msg.specs.declared.message.Message.{Message}
use Rattle.eris_event.specs.declared.event.Event.{Event}
use Rattle.eris_rules.specs.EpochMessages.{Responds, Response, Reply, Late}
use Rattle.eris_rules.specs.EpochReplicas.{epoch_step}
use Rattle.eris_rules.specs.ReplicaAnswers.{log_upto, late_answers}
use Rattle.eris_rules.specs.ReplicaStates.{Member, ReplicaState, EpochReplica, EpochOut}
use Rattle.eris_rules.specs.Replicas.{member}
use Rattle.eris_law_epoch.specs.Causes.{Says, Replied, GaveLate}
use Rattle.eris_law_epoch.specs.Members.{In}
use Rattle.eris_law_epoch.proofs.Grow.{right_step}
use Rattle.eris_law_epoch.proofs.Members.{OfMessage, Each-at}
use Rattle.eris_law_agreement.specs.Alone.{state_of}
use Rattle.eris_law_agreement.specs.EpochRuns.{servers_at}
use Rattle.eris_law_agreement.specs.Servers.{Servers}
use Rattle.eris_law_agreement.proofs.Moves.{me_at}
use Rattle.eris_law_evidence.proofs.Givers.{Gives, given}
use Rattle.eris_law_evidence.proofs.WholeLates.{IsWhole, whole_step}

-- the replica as a member of its shard, with the log of the epochs before that it has
abbrev pub member_with : ConfigValue → ShardId → ReplicaId → ReplicaState → Member
member_with config shard replica state = record { config = config; shard = shard; replica = replica; prior = state.prior }

-- in this state the replica replies
abbrev pub RepliesIn : ConfigValue → View → Stamp → TxnId → Phase → Answer → ShardId → ReplicaId → ShardId → ReplicaId → ReplicaState → Type 0
RepliesIn config view stamp id phase answer shard replica a b state =
    Replied (member_with config a b state) state.inner.view state.inner.status state.inner.part view shard replica stamp id phase answer

-- in this state it gives an answer late, over a log without a gap
pub record IsLateIn (shard : ShardId) (id : TxnId) (phase : Phase) (answer : Answer) (state : ReplicaState) : Type 0 where
  pub above : ℕ
  pub given : Done
  pub among : In given (late_answers shard state.inner.part.epoch (log_upto state.prior state.inner.part state.inner.settled) above)
  pub of_id : given.id ≡ id
  pub of_phase : given.phase ≡ phase
  pub is_answer : given.answer ≡ answer
  pub whole : NoGap state.inner.part state.inner.settled

module _ (config : ConfigValue) (events : List Event) (j : ℕ) where
  abbrev at : ℕ → Servers
  at k = servers_at config events k

  -- by moment j the replica replied
  pub record RepliedBy (view : View) (shard : ShardId) (replica : ReplicaId) (stamp : Stamp) (id : TxnId) (phase : Phase) (answer : Answer) : Type 0 where
    pub moment : ℕ
    pub by : moment ≤ j
    pub replied : RepliesIn config view stamp id phase answer shard replica shard replica (state_of (at moment).replicas shard replica)

  pub record LateBy (shard : ShardId) (id : TxnId) (phase : Phase) (answer : Answer) : Type 0 where
    pub moment : ℕ
    pub by : moment ≤ j
    pub replica : ReplicaId
    pub late : IsLateIn shard id phase answer (state_of (at moment).replicas shard replica)

  -- what a giver says of itself
  says : (now after : Servers) (to : Node) (response : Response) (gives : Gives config now after to response)
      → Says (member (me_at config gives.shard gives.replica) gives.state) gives.state.inner (epoch_step (member (me_at config gives.shard gives.replica) gives.state) gives.state.inner gives.input).state (Responds response)
  says now after to response gives =
      let me : Member = member (me_at config gives.shard gives.replica) gives.state in
      let out : EpochOut = epoch_step me gives.state.inner gives.input in
      Each-at (OfMessage (Says me gives.state.inner out.state)) out.sends (record { to = to; message = Responds response }) (right_step me gives.state.inner gives.input).says gives.sent

  whole : (now after : Servers) (to : Node) (response : Response) (gives : Gives config now after to response)
      → IsWhole (epoch_step (member (me_at config gives.shard gives.replica) gives.state) gives.state.inner gives.input).state.part
      (epoch_step (member (me_at config gives.shard gives.replica) gives.state) gives.state.inner gives.input).state.settled (Responds response)
  whole now after to response gives =
      let me : Member = member (me_at config gives.shard gives.replica) gives.state in
      let out : EpochOut = epoch_step me gives.state.inner gives.input in
      Each-at (OfMessage (IsWhole out.state.part out.state.settled)) out.sends (record { to = to; message = Responds response }) (whole_step me gives.state.inner gives.input) gives.sent

  -- ---- a reply
  own_reply : (m : ℕ) → m ≤ j → (view : View) (shard : ShardId) (replica : ReplicaId) (stamp : Stamp) (id : TxnId) (phase : Phase) (answer : Answer) (a : ShardId) (b : ReplicaId)
      → RepliesIn config view stamp id phase answer shard replica a b (state_of (at m).replicas a b) → RepliedBy view shard replica stamp id phase answer
  own_reply m le view shard replica stamp id phase answer a b replied = record {
    moment = m;
    by = le;
    replied = subst (λ z. RepliesIn config view stamp id phase answer shard replica shard z (state_of (at m).replicas shard z)) (sym replied.spoke.own)
        (subst (λ z. RepliesIn config view stamp id phase answer shard replica z b (state_of (at m).replicas z b)) (sym replied.spoke.own_shard) replied);
  }

  pub replied_by : (to : Node) (view : View) (shard : ShardId) (replica : ReplicaId) (stamp : Stamp) (id : TxnId) (phase : Phase) (answer : Answer)
      → In (record { to = to; message = Message.Reply view shard replica stamp id phase answer }) (at j).sent → RepliedBy view shard replica stamp id phase answer
  replied_by to view shard replica stamp id phase answer i =
      let response : Response = Reply view shard replica stamp id phase answer in
      let found = given config events to (Message.Reply view shard replica stamp id phase answer) response refl j i in
      let gives = found.2 in
      own_reply (suc found.0) (omega (arith, found.1)) view shard replica stamp id phase answer gives.shard gives.replica
      (subst (RepliesIn config view stamp id phase answer shard replica gives.shard gives.replica) (sym gives.made) (says (at found.0) (at (suc found.0)) to response gives))

  -- ---- a late answer
  late_in : (shard : ShardId) (replica : ReplicaId) (id : TxnId) (phase : Phase) (answer : Answer) (me : Member) (before : EpochReplica) (state : ReplicaState) → me.prior ≡ state.prior
      → GaveLate me before state.inner.view state.inner.status state.inner.part state.inner.settled shard replica id phase answer → NoGap state.inner.part state.inner.settled → IsLateIn me.shard id phase answer state
  late_in shard replica id phase answer me before state same gave whole = record {
    above = before.settled;
    given = gave.done;
    among = subst (λ prior. In gave.done (late_answers me.shard state.inner.part.epoch (log_upto prior state.inner.part state.inner.settled) before.settled)) same gave.among;
    of_id = gave.of_id;
    of_phase = gave.of_phase;
    is_answer = gave.is_answer;
    whole = whole;
  }

  pub late_by : (to : Node) (shard : ShardId) (replica : ReplicaId) (id : TxnId) (phase : Phase) (answer : Answer)
      → In (record { to = to; message = Message.Late shard replica id phase answer }) (at j).sent → LateBy shard id phase answer
  late_by to shard replica id phase answer i =
      let response : Response = Late shard replica id phase answer in
      let found = given config events to (Message.Late shard replica id phase answer) response refl j i in
      let gives = found.2 in
      let me : Member = member (me_at config gives.shard gives.replica) gives.state in
      let made : ReplicaState = record gives.state { inner = (epoch_step me gives.state.inner gives.input).state } in
      let gave : GaveLate me gives.state.inner made.inner.view made.inner.status made.inner.part made.inner.settled shard replica id phase answer = says (at found.0) (at (suc found.0)) to response gives in
      let late : IsLateIn gives.shard id phase answer made = late_in shard replica id phase answer me gives.state.inner made refl gave (whole (at found.0) (at (suc found.0)) to response gives) in
      record {
        moment = suc found.0;
        by = omega (arith, found.1);
        replica = gives.replica;
        late = subst (λ z. IsLateIn z id phase answer (state_of (at (suc found.0)).replicas z gives.replica)) (sym gave.own_shard)
            (subst (IsLateIn gives.shard id phase answer) (sym gives.made) late);
      }
