-- Of a run's world: settled logs begin its order, and what the order's packets come from is known. So a closed cut of
-- settled logs is a past of the order.
use Rattle.std.proofs.Common.{◌≡◌, ◌⊎◌, inl, inr, ◌<◌, ◌≤◌, ℕ, Bool, true, false, Option, Some, List, [], ◌∷◌, ◌++◌, length, map, refl, ap, sym, ◌∙◌, subst}
use Rattle.std.proofs.lemmas.Bool.{cases_lt}
use Rattle.std.proofs.lemmas.List.{get_or_past}
use Rattle.std.specs.List.{AllByRecursion, IsDistinct}
use Rattle.eris_base.specs.ConfigLimits.{ConfigValue}
use Rattle.eris_base.specs.Each.{Each}
use Rattle.eris_base.specs.declared.ids.ShardId.{ShardId}
use Rattle.eris_base.specs.declared.ids.TxnId.{TxnId}
use Rattle.eris_txn.specs.declared.answer.Answer.{Answer}
use Rattle.eris_txn.specs.declared.answer.Answer.TheVariants.{Aborted, Committed, Ops, Values}
use Rattle.eris_txn.specs.declared.history.HistoryEvent.TheVariants.{Answer as Answered, Read}
use Rattle.eris_txn.specs.declared.key.Key.{Key}
use Rattle.eris_txn.specs.declared.packet.Packet.{Packet}
use Rattle.eris_txn.specs.declared.txn.Txn.{Txn}
use Rattle.eris_txn.specs.declared.txn.Txn.TheVariants.{General, Whole}
use Rattle.eris_txn.specs.Keys.{no_values}
use Rattle.eris_locks.specs.declared.shard_packet.ShardPacket.{ShardPacket}
use Rattle.eris_locks.specs.LockTable.{run_state}
use Rattle.eris_locks.specs.Shards.{cut, is_on, on_shard}
use Rattle.eris_locks.specs.States.{empty}
use Rattle.eris_locks.specs.WellFormed.{WellFormed}
use Rattle.eris_epoch.specs.SamePackets.{same_packet}
use Rattle.eris_epoch.proofs.SameLaws.{same_packet-true}
use Rattle.eris_audit.specs.declared.outcome.Outcome.{Outcome}
use Rattle.eris_audit.specs.Histories.{txn_of}
use Rattle.eris_audit.specs.IsSerial.{EqualsRun, IsAnswer, IsOutcome}
use Rattle.eris_audit.specs.Lines.{Line, has_line, outcome_in}
use Rattle.eris_audit.specs.SerialRun.{result_in, values_after}
use Rattle.eris_order.specs.Orders.{lines, packets_on}
use Rattle.eris_serial.specs.Cuts.{IsClosedCut}
use Rattle.eris_serial.specs.Evidence.{IsIn, Origins}
use Rattle.eris_serial.proofs.Runnable.{Each-in}
use Rattle.eris_law_serial.proofs.OrderOrigins.{origins_of}
use Rattle.eris_law_serial.proofs.WellFormedOrder.{well_formed}
use Rattle.eris_event.specs.declared.event.Event.{Event}
use Rattle.eris_rules.specs.Good.{BeginsWith, Good}
use Rattle.eris_rules.specs.WorldOrders.{lines_of_world, order, order_on}
use Rattle.eris_rules.specs.Worlds.{WorldState}
use Rattle.eris_cut.specs.Cuts.{log_of, part_of, prefix_of}
use Rattle.eris_law_past.specs.Pasts.{AreBeginnings, IsPast}
use Rattle.eris_law_past.proofs.CutPasts.{part_on, part_past, prefix_on}
use Rattle.eris_law_past.proofs.Ends.{nothing_holds, nothing_waits}
use Rattle.eris_law_past.proofs.Standing.{lines_decided, lines_stand, outcomes_stand, part_origins, results_stand, shard_concluded, values_stand}
use Rattle.eris_law_agreement.specs.WorldMoments.{world_at}
use Rattle.eris_law_agreement.proofs.Moments.{run-moment}
use Rattle.eris_law_order.proofs.OrderMembers.{order_ascends}
use Rattle.eris_law_order.proofs.ShardLists.{Ascends, Before, before-not}
use Rattle.eris_law_course.proofs.Calls.{accepted}
use Rattle.eris_law_good.proofs.Evident.{evidence}
use Rattle.eris_law_good.proofs.Goodness.{good_run}
use Rattle.eris_law_cut.specs.SettledCuts.{IsSettledCut, IsSettledLog}

-- what strictly ascends has no packet twice
ascends-distinct : (shard : ShardId) (packets : List Packet) → Ascends shard packets → IsDistinct same_packet packets
unfolding IsDistinct
ascends-distinct shard [] ascends = tt
ascends-distinct shard (packet ∷ packets) ascends = (differs packets ascends.0, ascends-distinct shard packets ascends.1)
  where
    unlike : (other : Packet) → Before shard packet other → (b : Bool) → same_packet packet other ≡ b → same_packet packet other ≡ false
    unlike other before false e = e
    unlike other before true e =
        let is = same_packet-true packet other e in
        absurd (before-not shard packet packet (subst (λ (one : Packet). Before shard packet one) (sym is) before) (subst (λ (one : Packet). Before shard packet one) (sym is) before))

    differs : (others : List Packet) → Each (Before shard packet) others → AllByRecursion (λ other. same_packet packet other ≡ false) others
    differs [] each = tt
    differs (other ∷ others) each = (unlike other each.0 (same_packet packet other) refl, differs others each.1)

module _ (config : ConfigValue) (events : List Event) (world : WorldState) (logs : List (List Packet)) (lengths : List ℕ) (is : IsSettledCut config events world logs lengths) where
  moment : world ≡ world_at config events (length events)
  moment = run-moment config events world is.runs

  good : Good world
  good = good_run config events is.fit world is.runs

  abbrev txn : TxnId → Txn
  txn = txn_of world.history

  abbrev part : List Packet
  part = part_of (order world) logs lengths

  origins : Origins txn (order world)
  origins =
      subst (λ (w : WorldState). Origins (txn_of w.history) (order w)) (sym moment)
      (origins_of (world_at config events (length events)).history (order (world_at config events (length events)))
      (evidence config events (accepted config events world is.runs) is.fit (length events)))

  once : (shard : ShardId) → IsDistinct same_packet (packets_on shard (order world))
  unfolding order_on
  once shard =
      subst (λ (w : WorldState). IsDistinct same_packet (packets_on shard (order w))) (sym moment)
      (ascends-distinct shard (packets_on shard (order (world_at config events (length events)))) (order_ascends config events (length events) shard))

  begins_on : (shard : ShardId) → BeginsWith (packets_on shard (order world)) (log_of logs shard)
  unfolding order_on
  begins_on shard = by_size (cases_lt shard.0 (length logs))
    where
      settled : IsSettledLog world shard (log_of logs shard) → BeginsWith (packets_on shard (order world)) (log_of logs shard)
      settled log = subst (λ (list : List Packet). BeginsWith (packets_on shard (order world)) list) (sym log.is) (good.settled.at shard log.replica log.state log.there)

      by_size : (shard.0 < length logs) ⊎ (length logs ≤ shard.0) → BeginsWith (packets_on shard (order world)) (log_of logs shard)
      by_size (inl low) = settled (is.settled shard low)
      by_size (inr past) = record {
        rest = packets_on shard (order world);
        joined = ap (λ (log : List Packet). log ++ packets_on shard (order world)) (sym (get_or_past logs shard.0 [] past));
      }

  begin : AreBeginnings (order world) logs
  begin = record { once = once; rest = λ shard. (begins_on shard).rest; begins = λ shard. (begins_on shard).joined }

  -- A PAST OF THE ORDER
  pub cut_past : IsPast (order world) part
  cut_past = part_past (order world) logs lengths begin is.closed

  pub cut_closed : IsClosedCut (order world) part
  cut_closed = cut_past.closed

  pub cut_prefix : (shard : ShardId) → packets_on shard part ≡ prefix_of logs lengths shard
  cut_prefix shard = part_on (order world) logs lengths begin is.closed shard

  -- what a shard's store takes
  taken : (shard : ShardId) → on_shard shard part ≡ map (cut shard) (prefix_of logs lengths shard)
  taken shard = prefix_on (order world) logs lengths begin is.closed shard

  -- THE COPY
  pub copy_formed : (shard : ShardId) → WellFormed (map (cut shard) (prefix_of logs lengths shard))
  copy_formed shard = subst WellFormed (taken shard) (well_formed txn part (part_origins txn (order world) part origins cut_past) shard)

  pub copy_holding : (shard : ShardId) → (run_state empty (map (cut shard) (prefix_of logs lengths shard))).holding ≡ []
  copy_holding shard =
      subst (λ (list : List ShardPacket). (run_state empty list).holding ≡ []) (taken shard) (nothing_holds (on_shard shard part) (shard_concluded txn (order world) part origins cut_past shard))

  pub copy_waiting : (shard : ShardId) → (run_state empty (map (cut shard) (prefix_of logs lengths shard))).waiting ≡ []
  copy_waiting shard =
      subst (λ (list : List ShardPacket). (run_state empty list).waiting ≡ []) (taken shard) (nothing_waits (on_shard shard part) (shard_concluded txn (order world) part origins cut_past shard))

  pub copy_values : (shard : ShardId) (key : Key) → is_on shard key ≡ true → (run_state empty (map (cut shard) (prefix_of logs lengths shard))).values key ≡ values_after txn (lines part) no_values key
  copy_values shard key on =
      subst (λ (list : List ShardPacket). (run_state empty list).values key ≡ values_after txn (lines part) no_values key) (taken shard)
      (values_stand txn (order world) part origins cut_past shard key on)

  -- THE PAST STANDS
  pub past_lines : (line : Line) → IsIn line (lines part) → IsIn line (lines (order world))
  past_lines = lines_stand txn (order world) part origins cut_past

  pub past_decided : (line : Line) → IsIn line (lines part) → line.outcome ≡ Outcome.Pending → ⊥
  past_decided = lines_decided txn (order world) part origins cut_past

  pub past_results : (id : TxnId) → has_line (lines part) id ≡ true → result_in txn (lines part) no_values id ≡ result_in txn (lines (order world)) no_values id
  past_results = results_stand txn (order world) part origins cut_past

  past_outcomes : (id : TxnId) → has_line (lines part) id ≡ true → outcome_in (lines part) id ≡ outcome_in (lines (order world)) id
  past_outcomes = outcomes_stand txn (order world) part origins cut_past

  -- WHAT WAS READ OR ANSWERED is what the past gives
  equal : Each (EqualsRun world.history (lines (order world))) world.history
  unfolding lines_of_world
  equal = good.serial.equal

  pub past_reads : (id : TxnId) (values : List (Option ℕ)) → IsIn (Read id values) world.history → has_line (lines part) id ≡ true
      → result_in txn (lines part) no_values id ≡ Some (Answer.Values values)
  past_reads id values there has =
      past_results id has ∙ Each-in (EqualsRun world.history (lines (order world))) world.history (Read id values) equal there

  pub past_answers : (id : TxnId) (answer : Answer) → IsIn (Answered id answer) world.history → has_line (lines part) id ≡ true
      → IsAnswer world.history (lines part) id answer (txn id)
  past_answers id answer there has =
      by_txn (txn id) (Each-in (EqualsRun world.history (lines (order world))) world.history (Answered id answer) equal there)
    where
      by_answer : (one : Answer) → IsOutcome (lines (order world)) id one → IsOutcome (lines part) id one
      by_answer (Ops answers) is = absurd is
      by_answer (Values values) is = absurd is
      by_answer Committed is = past_outcomes id has ∙ is
      by_answer Aborted is = past_outcomes id has ∙ is

      by_txn : (one : Txn) → IsAnswer world.history (lines (order world)) id answer one → IsAnswer world.history (lines part) id answer one
      by_txn (Whole operations) is = past_results id has ∙ is
      by_txn (General plan) is = by_answer answer is
