-- THE REPORT OF A RUN is in range: its order by the stamped packets, its replica lines by what the replicas keep, its counts by what
-- was sent, and its history by the evidence for it and since it is serial.
use Rattle.std.proofs.Common.{◌≡◌, ◌<◌, ◌+◌, ◌&&◌, ◌^◌, ℕ, zero, suc, Bool, true, false, length, map, replicate, Option, Some, List, [], ◌∷◌, ◌++◌, Ok, refl, ap, sym, ◌∙◌, subst, arith}
use Rattle.std.specs.Prelude.{slice_get}
use Rattle.std.specs.List.{flat_map, list_all, range_with_len}
use Rattle.std.proofs.lemmas.Bool.{and_from, and_parts}
use Rattle.std.proofs.lemmas.List.{map-append}
use Rattle.eris_base.specs.declared.ids.ReplicaId.{ReplicaId}
use Rattle.eris_base.specs.declared.ids.ShardId.{ShardId}
use Rattle.eris_base.specs.declared.ids.TxnId.{TxnId}
use Rattle.eris_base.specs.ConfigLimits.{ConfigValue, IsConfig}
use Rattle.eris_base.specs.Each.{Each}
use Rattle.eris_base.specs.TxnIds.{is_among}
use Rattle.eris_base.proofs.Each.{Each-append, Each-filter, Each-weaker}
use Rattle.eris_txn.specs.declared.packet.Packet.{Packet}
use Rattle.eris_audit.specs.Lines.{lines_of}
use Rattle.eris_codec.specs.Fields as f
use Rattle.eris_codec.specs.Ranges.{stamp_fits}
use Rattle.eris_event.specs.declared.event.Event.{Event}
use Rattle.eris_event.specs.declared.report.ReplicaLine.{ReplicaLine}
use Rattle.eris_event.specs.EventRanges.{fits_count, fits_event}
use Rattle.eris_grammar.specs.Scripts.{Script, script}
use Rattle.eris_in_place.specs.MessageRanges.{PacketFits, PacketsFit}
use Rattle.eris_locks.specs.States.{is_conclusory}
use Rattle.eris_log.specs.Entries.{length_of}
use Rattle.eris_order.specs.Orders.{order_line, order_lines_from}
use Rattle.eris_report_range.specs.ReportRanges.{IsRangedReport, is_ranged_event, is_ranged_id, is_ranged_line, is_ranged_replica, replica_of, replicas_of}
use Rattle.eris_report_range.specs.ReportRanges.{replica_at as place_of}
use Rattle.eris_rules.specs.Addressees.{replica_count}
use Rattle.eris_rules.specs.ReplicaStates.{Identity, ReplicaState}
use Rattle.eris_rules.specs.Reports.{all_lines, replica_line, report_of, shard_lines}
use Rattle.eris_rules.specs.Runs.{run}
use Rattle.eris_rules.specs.WorldOrders.{lines_of_world, order, stamping_list, survives}
use Rattle.eris_rules.specs.Worlds.{WorldState, in_row, replica_at}
use Rattle.eris_sequencer.specs.declared.stamping.Stamping.{Stamping}
use Rattle.eris_serial.specs.Evidence.{Evidence}
use Rattle.eris_law_agreement.proofs.Moments.{run-moment}
use Rattle.eris_law_agreement.proofs.Moves.{me_at}
use Rattle.eris_law_course.specs.Accepted.{AreEventsFit}
use Rattle.eris_law_course.proofs.Calls.{accepted}
use Rattle.eris_law_good.proofs.Evident.{evidence}
use Rattle.eris_law_good.proofs.Goodness.{good_run}
use Rattle.eris_law_good.proofs.Ranged.{ranged_fits}
use Rattle.eris_law_range.specs.Fitting.{ReplicaFits}
use Rattle.eris_law_range.proofs.PartRanges.{length_of-below}
use Rattle.eris_law_report.specs.RangedRuns.{beginnings}
use Rattle.eris_law_report.proofs.Cells.{lengths}
use Rattle.eris_law_report.proofs.ClientEvents.{EventFits}
use Rattle.eris_law_report.proofs.Fields.{count_ranged, holds_few, id_ranged, stamp_ranged, stamp_test, word_ranged}
use Rattle.eris_law_report.proofs.Histories.{AskerFits, SubmitFits, history_fits}
use Rattle.eris_law_report.proofs.RangedEvents.{IsRangedEnd, run_ranged}
use Rattle.eris_law_report.proofs.RangedWorlds.{StampedFits}
use Rattle.eris_law_report.proofs.Scripts.{script_ranged}

-- ---- THE ORDER
all_stamped : (stampings : List Stamping) → Each StampedFits stampings → PacketsFit (stamping_list stampings)
unfolding stamping_list
all_stamped [] h = tt
all_stamped (stamping ∷ stampings) h = Each-append PacketFits stamping.stamped (flat_map (λ (one : Stamping). one.stamped) stampings) h.0 (all_stamped stampings h.1)

line_test : (packet : Packet) (decided : List TxnId) (later : List Packet) → PacketFits packet → is_ranged_line (order_line packet decided later) ≡ true
unfolding f.packet
line_test packet decided later h =
    let parts = and_parts (stamp_fits packet.stamp) (f.id.fits packet.id && (f.client.fits packet.asker && f.body.fits packet.body)) h in
    let id = (and_parts (f.id.fits packet.id) (f.client.fits packet.asker && f.body.fits packet.body) parts.1).0 in
    and_from (is_ranged_id packet.id) (stamp_test packet.stamp) (id_ranged packet.id id) (stamp_ranged packet.stamp parts.0)

lines_test : (seen decided : List TxnId) (packets : List Packet) → PacketsFit packets → list_all is_ranged_line (order_lines_from seen decided packets) ≡ true
lines_test seen decided [] h = refl
lines_test seen decided (packet ∷ packets) h =
    by_kind (is_conclusory packet.body) (is_among packet.id seen) (lines_test seen (packet.id ∷ decided) packets h.1) (lines_test seen decided packets h.1) (lines_test (packet.id ∷ seen) decided packets h.1)
  where
    by_kind : (conclusory among : Bool) → list_all is_ranged_line (order_lines_from seen (packet.id ∷ decided) packets) ≡ true → list_all is_ranged_line (order_lines_from seen decided packets) ≡ true
        → list_all is_ranged_line (order_lines_from (packet.id ∷ seen) decided packets) ≡ true
        → list_all is_ranged_line
        (elim conclusory [
          | true ↦ order_lines_from seen (packet.id ∷ decided) packets
          | false ↦ elim among [
            | true ↦ order_lines_from seen decided packets
            | false ↦ order_line packet decided packets ∷ order_lines_from (packet.id ∷ seen) decided packets
          ]
        ]) ≡ true
    by_kind true among one two three = one
    by_kind false true one two three = two
    by_kind false false one two three =
        and_from (is_ranged_line (order_line packet decided packets)) (list_all is_ranged_line (order_lines_from (packet.id ∷ seen) decided packets)) (line_test packet decided packets h.0) three

pub order_ranged : (world : WorldState) → Each StampedFits world.stampings → list_all is_ranged_line (lines_of_world world) ≡ true
unfolding lines_of_world order
order_ranged world h = lines_test [] [] (order world) (Each-filter PacketFits (survives world) (stamping_list world.stampings) (all_stamped world.stampings h))

-- ---- THE REPLICA LINES
replica_test : (world : WorldState) (shard : ShardId) (replica : ReplicaId) (me : Identity) (state : ReplicaState) → ReplicaFits me state → is_ranged_replica (replica_line world shard replica state) ≡ true
unfolding replica_line f.epoch f.view
replica_test world shard replica me state h =
    and_from (fits_count state.epoch.0) (fits_count state.inner.view.0 && (fits_count (length state.inner.part.held) && (fits_count (length_of state.inner.part) && fits_count state.inner.settled)))
    (word_ranged state.epoch.0 h.epoch)
    (and_from (fits_count state.inner.view.0) (fits_count (length state.inner.part.held) && (fits_count (length_of state.inner.part) && fits_count state.inner.settled))
    (word_ranged state.inner.view.0 h.inner.view)
    (and_from (fits_count (length state.inner.part.held)) (fits_count (length_of state.inner.part) && fits_count state.inner.settled)
    (count_ranged (length state.inner.part.held) (holds_few state.inner.part h.inner.part.fits))
    (and_from (fits_count (length_of state.inner.part)) (fits_count state.inner.settled)
    (count_ranged (length_of state.inner.part) (length_of-below state.inner.part h.inner.part.fits))
    (word_ranged state.inner.settled h.inner.settled))))

-- a state of some replica, in range
abbrev IsOfSome : ReplicaState → Type 0
IsOfSome state = (me : Identity) × ReplicaFits me state

tests_joined : (some more : List ReplicaLine) → list_all is_ranged_replica some ≡ true → list_all is_ranged_replica more ≡ true → list_all is_ranged_replica (some ++ more) ≡ true
tests_joined [] more h k = k
tests_joined (line ∷ some) more h k =
    let parts = and_parts (is_ranged_replica line) (list_all is_ranged_replica some) h in
    and_from (is_ranged_replica line) (list_all is_ranged_replica (some ++ more)) parts.0 (tests_joined some more parts.1 k)

shard_test : (world : WorldState) (shard : ShardId) (from : ℕ) (states : List ReplicaState) → ((at : ℕ) (state : ReplicaState) → slice_get states at ≡ Some state → IsOfSome state)
    → list_all is_ranged_replica (shard_lines world shard from states) ≡ true
unfolding shard_lines
shard_test world shard from [] h = refl
shard_test world shard from (state ∷ states) h =
    let some = h zero state refl in
    and_from (is_ranged_replica (replica_line world shard (record { 0 = from }) state)) (list_all is_ranged_replica (shard_lines world shard (from + 1) states))
    (replica_test world shard (record { 0 = from }) some.0 state some.1) (shard_test world shard (from + 1) states (λ at one is. h (suc at) one is))

rows_test : (world : WorldState) (from : ℕ) (rows : List (List ReplicaState))
    → ((number : ℕ) (row : List ReplicaState) → slice_get rows number ≡ Some row → (at : ℕ) (state : ReplicaState) → slice_get row at ≡ Some state → IsOfSome state)
    → list_all is_ranged_replica (all_lines world from rows) ≡ true
unfolding all_lines
rows_test world from [] h = refl
rows_test world from (row ∷ rows) h =
    tests_joined (shard_lines world (record { 0 = from }) 0 row) (all_lines world (from + 1) rows) (shard_test world (record { 0 = from }) 0 row (h zero row refl))
    (rows_test world (from + 1) rows (λ number one is. h (suc number) one is))

pub replicas_ranged : (config : ConfigValue) (world : WorldState)
    → ((shard : ShardId) (replica : ReplicaId) (state : ReplicaState) → replica_at world.replicas shard replica ≡ Some state → ReplicaFits (me_at config shard replica) state)
    → list_all is_ranged_replica (all_lines world 0 world.replicas) ≡ true
unfolding replica_at
replicas_ranged config world h =
    rows_test world 0 world.replicas
    (λ number row is at state there. (me_at config (record { 0 = number }) (record { 0 = at }), h (record { 0 = number }) (record { 0 = at }) state (ap (λ (found : Option (List ReplicaState)). in_row found at) is ∙ there)))

-- one line for each replica, by shard, then replica
shard_listed : (world : WorldState) (shard : ShardId) (from : ℕ) (states : List ReplicaState) → map replica_of (shard_lines world shard from states) ≡ map (place_of shard.0) (range_with_len from (length states))
unfolding shard_lines replica_line
shard_listed world shard from [] = refl
shard_listed world shard from (state ∷ states) = ap (λ (list : List (ShardId × ReplicaId)). place_of shard.0 from ∷ list) (shard_listed world shard (from + 1) states)

rows_listed : (world : WorldState) (from count width : ℕ) (rows : List (List ReplicaState)) → lengths rows ≡ replicate count width
    → map replica_of (all_lines world from rows) ≡ flat_map (λ shard. map (place_of shard) (range_with_len 0 width)) (range_with_len from count)
unfolding all_lines
rows_listed world from zero width [] h = refl
rows_listed world from (suc count) width [] h = absurd cc
rows_listed world from zero width (row ∷ rows) h = absurd cc
rows_listed world from (suc count) width (row ∷ rows) h =
    let same : length row ≡ width = cc in
    let more : lengths rows ≡ replicate count width = cc in
    let first = shard_listed world (record { 0 = from }) 0 row ∙ ap (λ (n : ℕ). map (place_of from) (range_with_len 0 n)) same in
    let rest = rows_listed world (from + 1) count width rows more in
    map-append replica_of (shard_lines world (record { 0 = from }) 0 row) (all_lines world (from + 1) rows) ∙ (λ i. first i ++ rest i)

pub replicas_listed : (config : ConfigValue) (world : WorldState) → lengths world.replicas ≡ replicate config.shards (replica_count config)
    → map replica_of (all_lines world 0 world.replicas) ≡ replicas_of config
replicas_listed config world h = rows_listed world 0 config.shards (replica_count config) world.replicas h

-- ---- THE SUM
pub world_reported : (config : ConfigValue) (limits : IsConfig config) (world : WorldState) → IsRangedEnd config world → list_all is_ranged_event world.history ≡ true → IsRangedReport (report_of config world)
unfolding report_of f.epoch
world_reported config limits world h history =
    let ranged = h.sent.ranged in
    record {
      config = limits;
      history = history;
      order = order_ranged world ranged.stamped;
      each_replica = replicas_listed config world ranged.rows;
      replicas = replicas_ranged config world ranged.replicas;
      current = word_ranged world.coordinator.current.0 ranged.coordinator.current;
      target = word_ranged world.coordinator.target.0 ranged.coordinator.target;
      found = count_ranged (length world.coordinator.inner.found) (omega (arith, ranged.decided, h.sent.few_sent));
      dropped = count_ranged (length world.coordinator.inner.dropped) (omega (arith, ranged.decided, h.sent.few_sent));
      sent = count_ranged (length world.sent) (omega (arith, h.sent.few_sent));
    }

-- ---- A RUN
events_fit : (version : ℕ) (events : List Event) → list_all (fits_event version) events ≡ true → AreEventsFit events
events_fit version [] h = tt
events_fit version (one ∷ events) h =
    let parts = and_parts (fits_event version one) (list_all (fits_event version) events) h in (ranged_fits version one parts.0, events_fit version events parts.1)

module _ (config : ConfigValue) (limits : IsConfig config) (version : ℕ) (events : List Event) (fits : list_all (fits_event version) events ≡ true) (few : beginnings events < 2 ^ 32)
    (world : WorldState) (ran : run config events ≡ Some world) where
  last_evidence : Evidence world.history (order world)
  last_evidence =
      subst (λ (last : WorldState). Evidence last.history (order last)) (sym (run-moment config events world ran))
      (evidence config events (accepted config events world ran) (events_fit version events fits) (length events))

  -- ITS HISTORY
  pub run_history : list_all is_ranged_event world.history ≡ true
  run_history =
      let ends = run_ranged config limits version events fits few world ran in
      let good = good_run config events (events_fit version events fits) world ran in
      history_fits world.history (order world) (lines_of (lines_of_world world))
      (Each-weaker EventFits SubmitFits (λ event h. h.0) world.history ends.sent.ranged.history)
      (Each-weaker EventFits AskerFits (λ event h. h.1) world.history ends.sent.ranged.history)
      last_evidence good.serial

  -- AND ALL OF ITS REPORT
  pub run_reported : IsRangedReport (report_of config world)
  run_reported = world_reported config limits world (run_ranged config limits version events fits few world ran) run_history

-- the same of a script
pub script_reported : (bytes : List ℕ) (whole : Script) (world : WorldState) → length bytes < 2 ^ 32 → script bytes ≡ Ok whole → run whole.config whole.events ≡ Some world → IsRangedReport (report_of whole.config world)
script_reported bytes whole world short is ran =
    let ranged = script_ranged bytes whole is in
    run_reported whole.config ranged.limits ranged.version whole.events ranged.events.fits (omega (arith, ranged.events.few, short)) world ran
