-- A PACKET COMES to a replica: one that is up holds it at its next number and votes for it, and one that is down does
-- nothing.
use Rattle.std.proofs.Common.{◌≡◌, ◌≤◌, ◌<◌, ◌+◌, ◌*◌, ◌-◌, ◌%◌, inl, inr, ℕ, Bool, true, false, cond, ◌==◌, Option, Some, None, is_some, List, [], ◌∷◌, ◌++◌, length, refl, ap, sym, ◌∙◌, subst, arith, append-nil, length-append}
use Rattle.std.proofs.lemmas.Bool.{and_from, and_parts, cond-false, cond-true, eq-eqb, eqb-true, false_from_ne_true, lt-ltb, ne_eqb, not_from_false}
use Rattle.eris_base.specs.declared.ids.Node.TheVariants.{Client, Replica, Sequencer}
use Rattle.eris_base.specs.declared.ids.ReplicaId.{ReplicaId}
use Rattle.eris_base.specs.declared.ids.ShardId.{ShardId}
use Rattle.eris_base.specs.declared.ids.TxnId.{TxnId}
use Rattle.eris_base.specs.declared.stamp.Stamp.{Stamp}
use Rattle.eris_base.specs.ConfigLimits.{ConfigValue}
use Rattle.eris_base.specs.Each.{Each}
use Rattle.eris_base.specs.Places.{number_in}
use Rattle.eris_base.specs.Quorums.{learner_of, same_replica}
use Rattle.eris_base.proofs.Each.{Each-append}
use Rattle.eris_base.proofs.IdLaws.{shard_equal}
use Rattle.eris_txn.specs.declared.answer.Answer.{Answer}
use Rattle.eris_txn.specs.declared.body.Body.TheVariants.{Independent}
use Rattle.eris_txn.specs.declared.op.Op.{Op}
use Rattle.eris_txn.specs.declared.packet.Packet.{Packet}
use Rattle.eris_msg.specs.declared.message.Message.{Message}
use Rattle.eris_msg.specs.declared.outgoing.Outgoing.{Outgoing}
use Rattle.eris_rules.specs.declared.replica_input.ReplicaInput.{ReplicaInput}
use Rattle.eris_rules.specs.declared.transaction.Vote.{Vote}
use Rattle.eris_rules.specs.Addressees.{replica_count}
use Rattle.eris_rules.specs.Happenings.{after_replica, replica_steps, replica_takes}
use Rattle.eris_rules.specs.InPlace.{all_name_participants, is_in_place_at_replica, is_sound}
use Rattle.eris_rules.specs.Known.{knows_all, knows_body, knows_packet}
use Rattle.eris_rules.specs.ReplicaAnswers.{answer_after, prompt_answer, store_after}
use Rattle.eris_rules.specs.ReplicaStates.{ReplicaState}
use Rattle.eris_rules.specs.Replicas.{replica_step}
use Rattle.eris_rules.specs.Votes.{role_fits, vote_fits}
use Rattle.eris_rules.specs.Worlds.{WorldState, has_crashed, no_longer_waiting, replica_at, with_replica, with_sends}
use Rattle.eris_law_epoch.specs.Members.{In}
use Rattle.eris_law_epoch.proofs.Members.{In-left, In-right}
use Rattle.eris_law_epoch.proofs.Frame.{replica_equal}
use Rattle.eris_law_agreement.proofs.Cells.{cell, cell-same, everywhere}
use Rattle.eris_law_calm.specs.Calm.{Down, Fine, IsCalmWorld, IsCarried, IsCell, IsJob, IsRight, Job, Lives, NumberedFrom, Said, Stage, Submitted, Votes, packet_of, voting}
use Rattle.eris_law_calm.specs.Carried.{carrying, coming, is_to}
use Rattle.eris_law_calm.specs.Crashes.{is_down}
use Rattle.eris_law_calm.specs.Packets.{IsWhole, ops_on}
use Rattle.eris_law_calm.specs.Received.{state_after}
use Rattle.eris_law_calm.specs.Noted.{vote_by}
use Rattle.eris_law_calm.proofs.Executing.{answered}
use Rattle.eris_law_calm.proofs.Moving.{Brings, job_kept, one_transaction, reads_itself, way_next}
use Rattle.eris_law_calm.proofs.Queues.{queue_more, queue_next}
use Rattle.eris_law_calm.proofs.Receiving.{replies, vouches}
use Rattle.eris_law_calm.proofs.Sending.{coming-append}
use Rattle.eris_law_calm_step.proofs.Stamping.{known_shard, weigh-append, weight-vote}

module _ (config : ConfigValue) (limits : ShardId → ℕ) (budget : ℕ) (world : WorldState) (done rest : List Outgoing) (id : TxnId) (ops : List Op) (stamp : Stamp) (shard : ShardId) (number : ℕ) (job : IsJob config world.history id ops) (carried : IsCarried config ops stamp shard number) (calm : IsCalmWorld config limits budget world done (carrying (packet_of id ops stamp) shard number ∷ rest)) where
  abbrev packet : Packet
  packet = packet_of id ops stamp

  abbrev one : Outgoing
  one = carrying packet shard number

  abbrev replica : ReplicaId
  replica = record { 0 = number }

  low_shard : shard.0 < config.shards
  low_shard = known_shard config ops shard job.keys carried.named

  pub own_cell : IsCell world.crashed world.replicas world.history (length done) (one ∷ rest) calm.stamping.sequencer.counters shard replica
  own_cell = calm.cells shard replica low_shard carried.low

  to_itself : is_to shard replica one.to ≡ true
  to_itself = and_from _ _ (eq-eqb shard.0 shard.0 refl) (eq-eqb number number refl)

  own_coming : coming shard replica (one ∷ rest) ≡ packet ∷ coming shard replica rest
  own_coming = ap (λ b. cond b (packet ∷ []) [] ++ coming shard replica rest) to_itself

  numbers : NumberedFrom shard own_cell.taken (packet ∷ coming shard replica rest)
  numbers = subst (λ (list : List Packet). NumberedFrom shard own_cell.taken list) own_coming own_cell.numbered

  -- ---- the cells after it
  module _ (replicas : List (List ReplicaState)) (next : List Outgoing) (same : (a : ShardId) (b : ReplicaId) → coming a b next ≡ coming a b rest) (others : (a : ShardId) (b : ReplicaId) → (a ≡ shard → b ≡ replica → ⊥) → replica_at replicas a b ≡ replica_at world.replicas a b) (lives : is_down world.crashed shard.0 number ≡ false → Lives replicas world.history shard replica (own_cell.taken + 1)) where
    abbrev NewCell : ShardId → ReplicaId → Type 0
    NewCell a b = IsCell world.crashed replicas world.history (length (done ++ one ∷ [])) next calm.stamping.sequencer.counters a b

    longer : length (done ++ one ∷ []) ≡ length done + 1
    longer = length-append done (one ∷ [])

    new_own : NewCell shard replica
    new_own = record {
      taken = own_cell.taken + 1;
      low = omega (arith, own_cell.low, longer);
      counter = (let all = ap length own_coming in let rest_same = ap length (same shard replica) in omega (arith, own_cell.counter, all, rest_same));
      numbered = subst (λ (list : List Packet). NumberedFrom shard (own_cell.taken + 1) list) (sym (same shard replica)) numbers.1;
      lives = lives;
    }

    not_to : (a : ShardId) (b : ReplicaId) → (a ≡ shard → b ≡ replica → ⊥) → is_to a b one.to ≡ false
    not_to a b apart = false_from_ne_true (is_to a b one.to)
        (λ h. let parts = and_parts (shard.0 == a.0) (number == b.0) h in apart (shard_equal a shard (sym (eqb-true shard.0 a.0 parts.0))) (replica_equal b replica (sym (eqb-true number b.0 parts.1))))

    new_other : (a : ShardId) (b : ReplicaId) → (a ≡ shard → b ≡ replica → ⊥) → IsCell world.crashed world.replicas world.history (length done) (one ∷ rest) calm.stamping.sequencer.counters a b → NewCell a b
    new_other a b apart old =
        let came : coming a b (one ∷ rest) ≡ coming a b rest = ap (λ c. cond c (packet ∷ []) [] ++ coming a b rest) (not_to a b apart) in
        let moved : coming a b (one ∷ rest) ≡ coming a b next = came ∙ sym (same a b) in record {
          taken = old.taken;
          low = omega (arith, old.low, longer);
          counter = (let all = ap length moved in omega (arith, old.counter, all));
          numbered = subst (λ (list : List Packet). NumberedFrom a old.taken list) moved old.numbered;
          lives = λ up. (let was = old.lives up in record { packets = was.packets; at = others a b apart ∙ was.at; many = was.many; whole = was.whole });
        }

    new_cells : (a : ShardId) (b : ReplicaId) → a.0 < config.shards → b.0 < replica_count config → NewCell a b
    new_cells = everywhere (λ a b. a.0 < config.shards → b.0 < replica_count config → NewCell a b) shard replica (λ low high. new_own) (λ a b apart low high. new_other a b apart (calm.cells a b low high))

  -- ---- the transactions after it
  module _ (next : List Outgoing) (stays : (other : Outgoing) → In other rest → In other next) (own : (votes : List Vote) → Stage world.crashed next id ops stamp votes shard number) where
    speaks_it : (other : TxnId) (others : List Op) (votes : List Vote) (st : Stamp) (a : ShardId) (n : ℕ) → carrying (packet_of other others st) a n ≡ one → Stage world.crashed next other others st votes a n
    speaks_it other others votes st a n e =
        let to : Replica a (record { 0 = n }) ≡ Replica shard (record { 0 = number }) = ap (λ (o : Outgoing). o.to) e in
        let message : Message.Txn (packet_of other others st) ≡ Message.Txn (packet_of id ops stamp) = ap (λ (o : Outgoing). o.message) e in
        let packets : packet_of other others st ≡ packet_of id ops stamp = cc in
        let same_shard : a ≡ shard = cc in
        let same_replica : ◌≡◌ {A = ReplicaId} (record { 0 = n }) (record { 0 = number }) = cc in
        let same_number : n ≡ number = ap (λ (r : ReplicaId). r.0) same_replica in
        let same_id : other ≡ id = ap (λ (p : Packet). p.id) packets in
        let same_stamp : st ≡ stamp = ap (λ (p : Packet). p.stamp) packets in
        let bodies : Independent others ≡ Independent ops = ap (λ (p : Packet). p.body) packets in
        let same_ops : others ≡ ops = cc in
        subst (λ (i : TxnId). Stage world.crashed next i others st votes a n) (sym same_id)
        (subst (λ (l : List Op). Stage world.crashed next id l st votes a n) (sym same_ops)
        (subst (λ (s : Stamp). Stage world.crashed next id ops s votes a n) (sym same_stamp)
        (subst (λ (s : ShardId). Stage world.crashed next id ops stamp votes s n) (sym same_shard)
        (subst (λ (r : ℕ). Stage world.crashed next id ops stamp votes shard r) (sym same_number) (own votes)))))

    brings : (other : TxnId) (others : List Op) (votes : List Vote) → Brings config world.crashed one rest next other others votes votes
    brings other others votes = record {
      stays = stays;
      stamps = λ e. (let to : Sequencer ≡ Replica shard replica = ap (λ (o : Outgoing). o.to) e in absurd (cc));
      speaks = λ st a n e. speaks_it other others votes st a n e;
      tells = λ st a n found learner e. (let to : Client other.client ≡ Replica shard replica = ap (λ (o : Outgoing). o.to) e in absurd (cc));
      keeps = λ st a n vote. vote;
    }

    new_jobs : (other : TxnId) (others : List Op) → Submitted world.history other others → Job config world.history world.clients world.crashed next other others
    new_jobs other others submitted =
        job_kept config world.history world.history (λ event i. i) world.clients world.clients world.crashed world.crashed (one ∷ rest) next other others
        (reads_itself world.clients other) (λ votes. way_next config world.crashed one rest next other others votes votes (brings other others votes)) (calm.jobs other others submitted)

  -- ---- A REPLICA THAT IS DOWN: it counts as delivered
  pub calm_lost : is_down world.crashed shard.0 number ≡ true → IsCalmWorld config limits (budget - 1) (no_longer_waiting world (length done)) (done ++ one ∷ []) rest
  unfolding no_longer_waiting
  calm_lost down = record {
    queue = queue_next world.sent world.waiting done one rest calm.queue;
    few_sent = calm.few_sent;
    weighs = omega (arith, calm.weighs);
    stamping = calm.stamping;
    stampings = calm.stampings;
    epoch = calm.epoch;
    counters = calm.counters;
    fine = calm.fine.1;
    cells = new_cells world.replicas rest (λ a b. refl) (λ a b apart. refl) (λ up. (let clash : true ≡ false = sym down ∙ up in absurd (cc)));
    few = calm.few;
    first_up = calm.first_up;
    clients = calm.clients;
    whole = calm.whole;
    jobs = new_jobs rest (λ other i. i) (λ votes. Down down);
  }

  -- ---- A REPLICA THAT IS UP
  -- the packet is in place
  in_place : is_in_place_at_replica config (Message.Txn packet) ≡ true
  unfolding is_in_place_at_replica is_sound knows_all knows_packet knows_body all_name_participants
  in_place =
      and_from _ _
      (and_from _ _ carried.known (and_from _ _ job.client (and_from _ _ job.client (and_from _ _ job.keys refl))))
      (and_from _ _ (and_from _ _ carried.names refl) refl)

  one_txn : (other : TxnId) (some more : List Op) → Submitted world.history other some → Submitted world.history other more → some ≡ more
  one_txn other some more h k = one_transaction config world.history world.clients world.crashed (one ∷ rest) calm.jobs other some more h k

  zero_learns : (f : ℕ) → 0 % (2 * f + 1) ≡ 0
  zero_learns f = omega arith

  -- what the replica does: it holds the packet and votes
  pub record Voted (packets : List Packet) : Type 0 where
    pub found : Option Answer
    pub learner : number ≡ 0 → is_some found ≡ true
    pub right : IsRight config ops (vote_by shard replica stamp found)
    pub does : replica_step (record { config = config; shard = shard; replica = replica }) (state_after shard packets) (ReplicaInput.Message (Message.Txn packet))
        ≡ record { state = state_after shard (packets ++ packet ∷ []); sends = voting id (vote_by shard replica stamp found) ∷ [] }

  right_vote : (found : Option Answer) → role_fits config.f (Independent ops) (vote_by shard replica stamp found) found ≡ true → IsRight config ops (vote_by shard replica stamp found)
  unfolding vote_fits
  right_vote found role = record {
    fits = and_from _ _ carried.named (and_from _ _ carried.names role);
    shard = lt-ltb _ _ low_shard;
    replica = lt-ltb _ _ carried.low;
    stamp = carried.known;
  }

  votes_so : (packets : List Packet) → length packets ≡ own_cell.taken → Each (IsWhole (Submitted world.history)) packets → Voted packets
  unfolding answer_after store_after prompt_answer
  votes_so packets many whole = by_number (number == 0) refl
    where
      named : number_in packet.stamp.places shard ≡ Some (length packets + 1)
      named = numbers.0 ∙ ap (λ n. Some (n + 1)) (sym many)

      by_number : (b : Bool) → (number == 0) ≡ b → Voted packets
      by_number true is =
          let zero_is : number ≡ 0 = eqb-true number 0 is in
          let given = answered shard (Submitted world.history) one_txn packets packet ops whole (record { body = refl; known = job.submitted }) in
          let learns : same_replica replica (learner_of (record { 0 = 0 }) config.f) ≡ true = eq-eqb number (0 % (2 * config.f + 1)) (zero_is ∙ sym (zero_learns config.f)) in
          let fits : (length given.2.items == ops_on shard ops) ≡ true = eq-eqb _ _ given.2.many in
          record {
            found = Some (Answer.Ops given.2.items);
            learner = λ h. refl;
            right = right_vote (Some (Answer.Ops given.2.items)) (and_from _ _ learns fits);
            does = replies config shard replica packets packet named carried.epoch in_place learns (Answer.Ops given.2.items) (given.1 ∙ ap Some given.2.is);
          }
      by_number false is =
          let other : same_replica replica (learner_of (record { 0 = 0 }) config.f) ≡ false = ne_eqb number (0 % (2 * config.f + 1)) (λ e. (let zero_is : number ≡ 0 = e ∙ zero_learns config.f in let clash : true ≡ false = sym (eq-eqb number 0 zero_is) ∙ is in absurd (cc))) in
          record {
            found = None;
            learner = λ zero_is. (let clash : true ≡ false = sym (eq-eqb number 0 zero_is) ∙ is in absurd (cc));
            right = right_vote None (not_from_false _ other);
            does = vouches config shard replica packets packet named carried.epoch in_place other;
          }

  module _ (up : is_down world.crashed shard.0 number ≡ false) where
    pub was : Lives world.replicas world.history shard replica own_cell.taken
    was = own_cell.lives up

    pub voted : Voted was.packets
    voted = votes_so was.packets was.many was.whole

    abbrev pub told : List Outgoing
    told = voting id (vote_by shard replica stamp voted.found) ∷ []

    -- THE WORLD after the packet
    abbrev pub voted_world : WorldState
    voted_world = after_replica (no_longer_waiting world (length done)) shard replica (record { state = state_after shard (was.packets ++ packet ∷ []); sends = told })

    none_told : (a : ShardId) (b : ReplicaId) → coming a b (rest ++ told) ≡ coming a b rest
    none_told a b = coming-append a b rest told ∙ append-nil (coming a b rest)

    pub calm_voted : length (world.sent ++ told) ≤ 262144 → IsCalmWorld config limits (budget - 1) voted_world (done ++ one ∷ []) (rest ++ told)
    unfolding after_replica with_sends no_longer_waiting
    calm_voted few = record {
      queue = queue_more world.sent _ (done ++ one ∷ []) rest told (queue_next world.sent world.waiting done one rest calm.queue);
      few_sent = few;
      weighs = (let both = weigh-append config rest told in let light = weight-vote config id (vote_by shard replica stamp voted.found) in omega (arith, both, light, calm.weighs));
      stamping = calm.stamping;
      stampings = calm.stampings;
      epoch = calm.epoch;
      counters = calm.counters;
      fine = Each-append (Fine config world.history) rest told calm.fine.1 (Votes id ops (vote_by shard replica stamp voted.found) job voted.right, tt);
      cells = new_cells (with_replica world.replicas shard replica (state_after shard (was.packets ++ packet ∷ []))) (rest ++ told) none_told
          (λ a b apart. elim (cell world.replicas shard replica (state_after shard was.packets) (state_after shard (was.packets ++ packet ∷ [])) was.at a b) [
            | inl e ↦ absurd (apart e.0 e.1)
            | inr e ↦ e
          ])
          (λ lives. record {
            packets = was.packets ++ packet ∷ [];
            at = cell-same world.replicas shard replica (state_after shard was.packets) (state_after shard (was.packets ++ packet ∷ [])) was.at;
            many = (let long = length-append was.packets (packet ∷ []) in omega (arith, long, was.many));
            whole = Each-append (IsWhole (Submitted world.history)) was.packets (packet ∷ []) was.whole ((ops, record { body = refl; known = job.submitted }), tt);
          });
      few = calm.few;
      first_up = calm.first_up;
      clients = calm.clients;
      whole = calm.whole;
      jobs = new_jobs (rest ++ told) (λ other i. In-left other rest told i) (λ votes. Said voted.found voted.learner (In-right _ rest told (inl refl)));
    }

    -- what the message does in the world
    pub takes_packet : replica_takes config (no_longer_waiting world (length done)) shard replica (ReplicaInput.Message (Message.Txn packet)) ≡ voted_world
    unfolding replica_takes has_crashed no_longer_waiting
    takes_packet =
        cond-false _ _ _ up
        ∙ ap (λ found. replica_steps config (no_longer_waiting world (length done)) shard replica (ReplicaInput.Message (Message.Txn packet)) found) was.at
        ∙ ap (λ out. after_replica (no_longer_waiting world (length done)) shard replica out) voted.does

  pub takes_none : is_down world.crashed shard.0 number ≡ true → replica_takes config (no_longer_waiting world (length done)) shard replica (ReplicaInput.Message (Message.Txn packet)) ≡ no_longer_waiting world (length done)
  unfolding replica_takes has_crashed no_longer_waiting
  takes_none down = cond-true _ _ _ down
