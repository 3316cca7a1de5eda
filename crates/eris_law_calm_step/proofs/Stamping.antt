-- AN ASK COMES to the sequencer: it stamps the transaction with the next numbers of its shards, and sends the packet to
-- each of their replicas.
use Rattle.std.proofs.Common.{◌≡◌, ◌≤◌, ◌<◌, ◌+◌, ◌*◌, ◌^◌, ◌-◌, inl, inr, ℕ, zero, suc, Bool, true, false, cond, ◌==◌, ◌||◌, nat_lt, Option, Some, None, List, [], ◌∷◌, ◌++◌, map, length, refl, ap, sym, ◌∙◌, subst, arith, length-append}
use Rattle.std.proofs.lemmas.List.{length-map}
use Rattle.std.proofs.Math.Nat.{suc-mul}
use Rattle.std.proofs.lemmas.Bool.{and_from, and_parts, cond-false, cond-true, eq-eqb, eqb-true, lt-ltb, ltb-true, ne_eqb, or_from}
use Rattle.std.specs.List.{flat_map, list_all, list_any, range_with_len}
use Rattle.eris_base.specs.declared.ids.Node.TheVariants.{Client, Replica, Sequencer}
use Rattle.eris_base.specs.declared.ids.Phase.{Phase}
use Rattle.eris_txn.specs.declared.answer.Answer.{Answer}
use Rattle.eris_base.specs.declared.ids.ReplicaId.{ReplicaId}
use Rattle.eris_base.specs.declared.ids.ShardId.{ShardId}
use Rattle.eris_base.specs.declared.ids.TxnId.{TxnId}
use Rattle.eris_base.specs.declared.stamp.Stamp.{Stamp}
use Rattle.eris_base.specs.ConfigLimits.{ConfigValue}
use Rattle.eris_base.specs.Each.{Each}
use Rattle.eris_base.proofs.Each.{Each-append}
use Rattle.eris_txn.specs.declared.body.Body.TheVariants.{Independent}
use Rattle.eris_txn.specs.declared.history.HistoryEvent.{HistoryEvent}
use Rattle.eris_txn.specs.declared.key.Key.{Key}
use Rattle.eris_txn.specs.declared.op.Op.{Op}
use Rattle.eris_txn.specs.declared.packet.Packet.{Packet}
use Rattle.eris_txn.specs.Bodies.{any_on, has_shard}
use Rattle.eris_txn.specs.Operations.{key_of}
use Rattle.eris_txn.proofs.BodyLaws.{has_shard-shards_of, shards_of-some}
use Rattle.eris_msg.specs.declared.message.Message.{Message}
use Rattle.eris_msg.specs.declared.outgoing.Outgoing.{Outgoing}
use Rattle.eris_sequencer.specs.declared.stamping.Stamping.{Stamping}
use Rattle.eris_sequencer.specs.Asks.{ask, asked_by, sends_of, sends_stamped, sends_to, stamp_message}
use Rattle.eris_sequencer.specs.Sequencers.{are_shards_of, is_in_place, stamp, stamp_at, stamp_by}
use Rattle.eris_sequencer.specs.Stamps.{AreRaised, after_stamp, counter_of, has_counters, is_full, next_packet, next_places, next_stamp, stamped_next, with_numbers}
use Rattle.eris_sequencer.proofs.StampLaws.{AreRaised-next}
use Rattle.eris_rules.specs.declared.transaction.Vote.{Vote}
use Rattle.eris_rules.specs.Addressees.{replica_count}
use Rattle.eris_rules.specs.Happenings.{after_sequencer}
use Rattle.eris_rules.specs.InPlace.{names_exactly}
use Rattle.eris_rules.specs.Known.{knows_keys, knows_pairs}
use Rattle.eris_rules.specs.Worlds.{WorldState, no_longer_waiting, with_sends}
use Rattle.eris_law_client.specs.Counts.{message_of, message_with}
use Rattle.eris_law_epoch.specs.Members.{In}
use Rattle.eris_law_epoch.proofs.Members.{Each-by_In, Each-flat_map, In-left, In-right, any_from}
use Rattle.eris_law_calm.specs.Calm.{Carries, Coming, Fine, IsCalmWorld, IsCarried, IsCell, IsJob, NumberedFrom, Spread, Way, asking, packet_of, shards_of_ops, weigh, weight}
use Rattle.eris_law_calm.specs.Carried.{carrying, coming, is_to, packet_in}
use Rattle.eris_law_calm.proofs.Moving.{Brings, job_kept, numbered_more, reads_itself, way_next}
use Rattle.eris_law_calm.proofs.Queues.{queue_more, queue_next}
use Rattle.eris_law_calm.proofs.Sending.{coming-append, coming_sent, next_known, next_names, next_number, sent_to}
use Rattle.eris_law_calm.proofs.Voting.{all_pass}

-- a transaction's shards are of the config
known_keys : (config : ConfigValue) (keys : List Key) (shard : ShardId) → knows_keys config keys ≡ true → any_on keys shard ≡ true → shard.0 < config.shards
unfolding knows_keys
known_keys config [] shard h on = absurd (cc)
known_keys config (key ∷ keys) shard h on = by_test (key.shard.0 == shard.0) refl on (and_parts _ _ h).0 (known_keys config keys shard (and_parts _ _ h).1)
  where
    by_test : (b : Bool) → (key.shard.0 == shard.0) ≡ b → (b || any_on keys shard) ≡ true → nat_lt key.shard.0 config.shards ≡ true → (any_on keys shard ≡ true → shard.0 < config.shards) → shard.0 < config.shards
    by_test true e k low rest = let same = eqb-true key.shard.0 shard.0 e in let lt = ltb-true key.shard.0 config.shards low in omega arith
    by_test false e k low rest = rest k

pub known_shard : (config : ConfigValue) (ops : List Op) (shard : ShardId) → knows_keys config (map key_of ops) ≡ true → has_shard (shards_of_ops ops) shard ≡ true → shard.0 < config.shards
known_shard config ops shard h named = known_keys config (map key_of ops) shard h (sym (has_shard-shards_of (map key_of ops) shard) ∙ named)

in_shards : (shards : List ShardId) (shard : ShardId) → In shard shards → has_shard shards shard ≡ true
in_shards shards shard i = any_from (λ (other : ShardId). other.0 == shard.0) shards shard i (eq-eqb shard.0 shard.0 refl)

pub all_shards_known : (config : ConfigValue) (ops : List Op) → knows_keys config (map key_of ops) ≡ true → list_all (λ (one : ShardId). nat_lt one.0 config.shards) (shards_of_ops ops) ≡ true
all_shards_known config ops h = all_pass _ (shards_of_ops ops) (λ shard i. lt-ltb _ _ (known_shard config ops shard h (in_shards (shards_of_ops ops) shard i)))

-- ---- how much the packets weigh
pub weigh-append : (config : ConfigValue) (some more : List Outgoing) → weigh config (some ++ more) ≡ weigh config some + weigh config more
weigh-append config [] more = let e : 0 + weigh config more ≡ weigh config more = omega arith in sym e
weigh-append config (one ∷ some) more = let rest = weigh-append config some more in omega (arith, rest)

weight-with : (config : ConfigValue) (id : TxnId) (vote : Vote) (found : Option Answer) → weight config (message_with vote id Phase.Whole found) ≡ 1
weight-with config id vote None = refl
weight-with config id vote (Some answer) = refl

pub weight-vote : (config : ConfigValue) (id : TxnId) (vote : Vote) → weight config (message_of vote id Phase.Whole) ≡ 1
weight-vote config id vote = weight-with config id vote vote.answer

weigh-range : (config : ConfigValue) (packet : Packet) (shard : ShardId) (from many : ℕ) → weigh config (map (λ r. carrying packet shard r) (range_with_len from many)) ≡ 2 * many
weigh-range config packet shard from zero = refl
weigh-range config packet shard from (suc many) = let rest = weigh-range config packet shard (from + 1) many in omega (arith, rest)

weigh-shards : (config : ConfigValue) (packet : Packet) (shards : List ShardId) → weigh config (flat_map (sends_to config.f packet) shards) ≡ length shards * (2 * replica_count config)
unfolding sends_to
weigh-shards config packet [] = let none : 0 * (2 * replica_count config) ≡ 0 = omega arith in sym none
weigh-shards config packet (shard ∷ shards) =
    let rest = weigh-shards config packet shards in
    let here = weigh-range config packet shard 0 (2 * config.f + 1) in
    let more = weigh-append config (map (λ r. carrying packet shard r) (range_with_len 0 (2 * config.f + 1))) (flat_map (sends_to config.f packet) shards) in
    let times = suc-mul (length shards) (2 * replica_count config) in
    omega (arith, rest, here, more, times)

-- ---- few were stamped, so no counter is full
few_in : (message : Message) → length (packet_in message) ≤ 1
few_in (Message.Txn packet) = omega arith
few_in message = omega arith

few_if : (b : Bool) (message : Message) → length (cond b (packet_in message) []) ≤ 1
few_if true message = few_in message
few_if false message = omega arith

few_coming : (shard : ShardId) (replica : ReplicaId) (rest : List Outgoing) → length (coming shard replica rest) ≤ length rest
few_coming shard replica [] = omega arith
few_coming shard replica (one ∷ rest) =
    let low = few_coming shard replica rest in
    let here = few_if (is_to shard replica one.to) one.message in
    let both = length-append (cond (is_to shard replica one.to) (packet_in one.message) []) (coming shard replica rest) in
    omega (arith, low, here, both)

none_of : {X : Type 0} (test : X → Bool) (xs : List X) → ((x : X) → In x xs → test x ≡ false) → list_any test xs ≡ false
none_of test [] h = refl
none_of test (x ∷ xs) h = or_from _ _ (h x (inl refl)) (none_of test xs (λ y i. h y (inr i)))

-- ---- one Ask
module _ (config : ConfigValue) (limits : ShardId → ℕ) (budget : ℕ) (world : WorldState) (done rest : List Outgoing) (id : TxnId) (ops : List Op) (job : IsJob config world.history id ops) (calm : IsCalmWorld config limits budget world done (asking id ops ∷ rest)) where
  abbrev shards : List ShardId
  shards = shards_of_ops ops

  abbrev before : List ℕ
  before = calm.stamping.sequencer.counters

  abbrev stamped : Stamp
  stamped = next_stamp calm.stamping.sequencer shards

  abbrev packet : Packet
  packet = packet_of id ops stamped

  abbrev pub sends : List Outgoing
  sends = sends_of config.f packet

  abbrev pub made : Stamping
  made = stamped_next calm.stamping id id.client (Independent ops)

  known : (shard : ShardId) → has_shard shards shard ≡ true → shard.0 < config.shards
  known shard named = known_shard config ops shard job.keys named

  low_counter : (shard : ShardId) → shard.0 < config.shards → counter_of before shard < 2 ^ 32 - 1
  low_counter shard low =
      let cell = calm.cells shard (record { 0 = 0 }) low (omega arith) in
      let few = few_coming shard (record { 0 = 0 }) rest in
      let all = ap length calm.queue.sent_is ∙ length-append done (asking id ops ∷ rest) in
      omega (arith, cell.counter, cell.low, few, all, calm.few_sent)

  not_full : is_full before shards ≡ false
  unfolding is_full
  not_full = none_of _ shards (λ shard i. let low = low_counter shard (known shard (in_shards shards shard i)) in ne_eqb _ _ (λ e. omega (arith, e, low)))

  some_shards : nat_lt 0 (length shards) ≡ true
  some_shards = lt-ltb _ _ (shards_of-some (map key_of ops) (let long = length-map ops key_of in omega (arith, long, job.some)))

  in_place : is_in_place config id.client id (Independent ops) ≡ true
  unfolding is_in_place are_shards_of
  in_place = and_from _ _ job.client (and_from _ _ job.client (and_from _ _ (and_from _ _ some_shards (all_shards_known config ops job.keys)) refl))

  -- THE SEQUENCER stamps it
  pub asked : ask config (calm.stamping ∷ []) (record { 0 = 0 }) (Message.Ask id.client id (Independent ops)) ≡ record { stampings = made ∷ []; sends = sends }
  unfolding ask asked_by stamp_message stamp stamp_by stamp_at next_packet sends_stamped
  asked =
      ap (asked_by config) (cond-true _ _ _ in_place ∙ cond-false _ _ _ not_full)

  has_all : has_counters before shards ≡ true
  unfolding has_counters
  has_all = ap (λ n. list_all (λ (one : ShardId). nat_lt one.0 n) shards) calm.counters ∙ all_shards_known config ops job.keys

  raised : AreRaised before (with_numbers before (next_places before shards)) shards
  raised = AreRaised-next before shards has_all

  carried : (shard : ShardId) (replica : ℕ) → has_shard shards shard ≡ true → replica < replica_count config → IsCarried config ops stamped shard replica
  unfolding next_stamp names_exactly knows_pairs
  carried shard replica named low = record {
    epoch = calm.epoch;
    named = named;
    names = next_names before shards;
    known = next_known config.shards before shards (all_shards_known config ops job.keys);
    low = low;
  }

  fine_some : (history : List HistoryEvent) (shard : ShardId) (from many : ℕ) → ((r : ℕ) → r < from + many → Fine config history (carrying packet shard r)) → Each (Fine config history) (map (λ r. carrying packet shard r) (range_with_len from many))
  fine_some history shard from zero each = tt
  fine_some history shard from (suc many) each = (each from (omega arith), fine_some history shard (from + 1) many (λ r low. each r (omega arith)))

  fine_sends : Each (Fine config world.history) sends
  unfolding sends_of sends_to
  fine_sends =
      Each-flat_map (Fine config world.history) (sends_to config.f packet) shards
      (Each-by_In _ shards (λ shard i. fine_some world.history shard 0 (2 * config.f + 1) (λ r low. Carries id ops stamped shard r job (carried shard r (in_shards shards shard i) (omega arith)))))

  -- a replica's cell
  abbrev after : List ℕ
  after = with_numbers before (next_places before shards)

  cell_with : (shard : ShardId) (replica : ReplicaId) (more : List Packet) → coming shard replica (rest ++ sends) ≡ coming shard replica rest ++ more → counter_of after shard ≡ counter_of before shard + length more
      → NumberedFrom shard (counter_of before shard) more → IsCell world.crashed world.replicas world.history (length done) (asking id ops ∷ rest) before shard replica
      → IsCell world.crashed world.replicas world.history (length (done ++ asking id ops ∷ [])) (rest ++ sends) after shard replica
  cell_with shard replica more are risen numbers cell = record {
    taken = cell.taken;
    low = (let long = length-append done (asking id ops ∷ []) in omega (arith, cell.low, long));
    counter = (let all = ap length are ∙ length-append (coming shard replica rest) more in omega (arith, all, risen, cell.counter));
    numbered = subst (λ (list : List Packet). NumberedFrom shard cell.taken list) (sym are)
        (numbered_more shard cell.taken (coming shard replica rest) more cell.numbered (subst (λ (n : ℕ). NumberedFrom shard n more) cell.counter numbers));
    lives = cell.lives;
  }

  coming_more : (shard : ShardId) (replica : ReplicaId) → replica.0 < replica_count config → (b : Bool) → has_shard shards shard ≡ b → coming shard replica (rest ++ sends) ≡ coming shard replica rest ++ cond b (packet ∷ []) []
  coming_more shard replica low b named =
      coming-append shard replica rest sends
      ∙ ap (λ (more : List Packet). coming shard replica rest ++ more) (coming_sent packet shard replica config.f low ∙ ap (λ c. cond c (packet ∷ []) []) named)

  cell_after : (shard : ShardId) (replica : ReplicaId) → replica.0 < replica_count config → IsCell world.crashed world.replicas world.history (length done) (asking id ops ∷ rest) before shard replica
      → IsCell world.crashed world.replicas world.history (length (done ++ asking id ops ∷ [])) (rest ++ sends) after shard replica
  unfolding next_stamp
  cell_after shard replica low cell = by_name (has_shard shards shard) refl
    where
      by_name : (b : Bool) → has_shard shards shard ≡ b → IsCell world.crashed world.replicas world.history (length (done ++ asking id ops ∷ [])) (rest ++ sends) after shard replica
      by_name true named =
          cell_with shard replica (packet ∷ []) (coming_more shard replica low true named) (raised.at shard ∙ ap (λ c. cond c (counter_of before shard + 1) (counter_of before shard)) named)
          (next_number before shards shard named, tt) cell
      by_name false named =
          let up = raised.at shard ∙ ap (λ c. cond c (counter_of before shard + 1) (counter_of before shard)) named in
          cell_with shard replica [] (coming_more shard replica low false named) (omega (arith, up)) tt cell

  -- a transaction's way
  abbrev Reaches : TxnId → List Op → List Vote → Type 0
  Reaches other others votes = Way config world.crashed (rest ++ sends) other others votes

  own_way : (votes : List Vote) → Reaches id ops votes
  own_way votes = Spread stamped (λ shard replica named low. Coming (In-right (carrying packet shard replica) rest sends (sent_to config.f packet shard replica named low)))

  stamps_it : (other : TxnId) (others : List Op) (votes : List Vote) → asking other others ≡ asking id ops → Reaches other others votes
  stamps_it other others votes e =
      let message : Message.Ask other.client other (Independent others) ≡ Message.Ask id.client id (Independent ops) = ap (λ (o : Outgoing). o.message) e in
      let same : other ≡ id = cc in
      let equal : others ≡ ops = cc in
      subst (λ (i : TxnId). Reaches i others votes) (sym same) (subst (λ (l : List Op). Reaches id l votes) (sym equal) (own_way votes))

  brings : (other : TxnId) (others : List Op) (votes : List Vote) → Brings config world.crashed (asking id ops) rest (rest ++ sends) other others votes votes
  brings other others votes = record {
    stays = λ one i. In-left one rest sends i;
    stamps = stamps_it other others votes;
    speaks = λ stamp shard replica e. (let to : Replica shard (record { 0 = replica }) ≡ Sequencer = ap (λ (o : Outgoing). o.to) e in absurd (cc));
    tells = λ stamp shard replica found learner e. (let to : Client other.client ≡ Sequencer = ap (λ (o : Outgoing). o.to) e in absurd (cc));
    keeps = λ stamp shard replica vote. vote;
  }

  -- THE WORLD after the Ask
  abbrev pub stamped_world : WorldState
  stamped_world = after_sequencer (no_longer_waiting world (length done)) (record { stampings = made ∷ []; sends = sends })

  lighter : weigh config (rest ++ sends) + 1 ≤ weigh config (asking id ops ∷ rest)
  unfolding sends_of
  lighter = let both = weigh-append config rest sends in let sent = weigh-shards config packet shards in omega (arith, both, sent)

  pub calm_stamped : length (world.sent ++ sends) ≤ 262144 → IsCalmWorld config limits (budget - 1) stamped_world (done ++ asking id ops ∷ []) (rest ++ sends)
  unfolding after_sequencer with_sends no_longer_waiting stamped_next after_stamp
  calm_stamped few = record {
    queue = queue_more world.sent _ (done ++ asking id ops ∷ []) rest sends (queue_next world.sent world.waiting done (asking id ops) rest calm.queue);
    few_sent = few;
    weighs = (let less = lighter in omega (arith, less, calm.weighs));
    stamping = made;
    stampings = refl;
    epoch = calm.epoch;
    counters = raised.length ∙ calm.counters;
    fine = Each-append (Fine config world.history) rest sends calm.fine.1 fine_sends;
    cells = λ shard replica low high. cell_after shard replica high (calm.cells shard replica low high);
    few = calm.few;
    first_up = calm.first_up;
    clients = calm.clients;
    whole = calm.whole;
    jobs = λ other others submitted.
        job_kept config world.history world.history (λ event i. i) world.clients world.clients world.crashed world.crashed (asking id ops ∷ rest) (rest ++ sends) other others
        (reads_itself world.clients other) (λ votes. way_next config world.crashed (asking id ops) rest (rest ++ sends) other others votes votes (brings other others votes)) (calm.jobs other others submitted);
  }
