-- A part, a replica and a message stay fine: by each call of a part, by each step of a replica, and as the epoch
-- comes to know more.
use Rattle.std.proofs.Common.{◌≡◌, ◌⊎◌, inl, inr, ℕ, ◌+◌, List, [], ◌∷◌, true, ◌&&◌, ◌==◌, Option, Some, None, refl, sym, ap, ◌∙◌, subst}
use Rattle.std.proofs.lemmas.Bool.{cond_both, or_cases, and_parts, eqb-true}
use Rattle.std.specs.List.{AllByRecursion}
use Rattle.std.specs.Prelude.{not, ⊤}
use Rattle.eris_base.specs.declared.ids.Epoch.{Epoch}
use Rattle.eris_base.specs.declared.ids.Place.{Place}
use Rattle.eris_base.specs.declared.ids.ReplicaId.{ReplicaId}
use Rattle.eris_base.specs.declared.ids.ShardId.{ShardId}
use Rattle.eris_base.specs.declared.ids.View.{View}
use Rattle.eris_base.specs.declared.ids.Phase.{Phase}
use Rattle.eris_base.specs.declared.ids.TxnId.{TxnId}
use Rattle.eris_base.specs.declared.stamp.Stamp.{Stamp}
use Rattle.eris_base.specs.Each.{Each}
use Rattle.eris_base.specs.StampPlaces.{is_number}
use Rattle.eris_base.proofs.Each.{Each-weaker}
use Rattle.eris_base.proofs.IdLaws.{epoch_equal}
use Rattle.eris_txn.specs.declared.packet.Packet.{Packet}
use Rattle.eris_log.specs.Entries.{length_of}
use Rattle.eris_log.specs.Growth.{HasAll}
use Rattle.eris_log.specs.Held.{packet_at}
use Rattle.eris_log.specs.Laws.Held.{all-packet_at}
use Rattle.eris_log.specs.Laws.Parts.{IsPart-empty_part, IsPart-hold, IsPart-mark_temp, IsPart-mark_found, IsPart-mark_dropped, IsPart-merge, IsWithin-hold, hold-others, all-hold, contains_place-mark_found, contains_place-mark_dropped, IsUnion-merge, all-merge}
use Rattle.eris_log.specs.Laws.Places.{AreMarks-with_places, contains_place-with_places, contains_place-places_of, same_place-true}
use Rattle.eris_log.specs.PartFacts.{AreMarks}
use Rattle.eris_log.specs.PartValues.{PartValue}
use Rattle.eris_log.specs.Parts.{empty_part, hold, mark_temp, mark_found, mark_dropped, merge}
use Rattle.eris_log.specs.Places.{contains_place, same_place, are_of_epoch}
use Rattle.eris_view.specs.ViewTallies.{union_of}
use Rattle.eris_rules.specs.EpochMessages.{EpochMessage, Stamped, Instructs, Notifies, Exchanges, Responds, Instruction, Request, Found, Dropped, Notice, Find, Has, TempDropped, Exchange, ViewChange, StartView, SyncAsk, Ack, Settled, Response, Vouch, Reply, Late}
use Rattle.eris_rules.specs.EpochReplicas.{EpochInput, Get, Probe, Suspect, Sync, holds_packet, gives_packet, drops_for_a_time, found_row, dropped_row, row, epoch_step}
use Rattle.eris_rules.specs.ReplicaStates.{Member, EpochReplica, EpochOut, is_normal, fresh}
use Rattle.eris_rules.specs.Settling.{settles, acknowledges, mark_all_dropped, also_asks}
use Rattle.eris_rules.specs.Speaking.{speaks_on, has_gap, asks_gap, asks_once, tail}
use Rattle.eris_rules.specs.Views.{shows_part, starts_view, became_normal, tells_view, takes_view}
use Rattle.eris_law_epoch.specs.Causes.{Says, Spoke}
use Rattle.eris_law_epoch.specs.Fine.{KnownLists, IsFinePacket, IsFineHeld, IsFine, IsFineNote, IsFineReplica, IsFineFound, IsFineDropped, AreFineDropped, IsFineInstruction, IsFineNotice, IsFineExchange, IsFineResponse, IsFineMessage}
use Rattle.eris_law_epoch.specs.Members.{In}
use Rattle.eris_law_epoch.proofs.Leaves.{IsChanging, IsCounting, ComesFrom, Leaf, Nothing, Holds, SpeaksAgain, Gives, Drops, Finds, Loses, Shows, Starts, Waits, Tells, Takes, Acknowledges, Settles, Counts, Hears, Learns, Repeats, AsksHowFar, AsksGap, leaf}
use Rattle.eris_law_epoch.proofs.Members.{Each-at, All-more}

-- more is known
pub record IsMore (some more : KnownLists) : Type 0 where
  pub stamped : (packet : Packet) → In packet some.stamped → In packet more.stamped
  pub found : (packet : Packet) → In packet some.found → In packet more.found
  pub dropped : HasAll some.dropped more.dropped

-- a marked place is of the epoch
pub marked-epoch : (epoch : Epoch) (places : List Place) (place : Place) → are_of_epoch epoch places ≡ true → contains_place places place ≡ true → place.epoch ≡ epoch
unfolding contains_place
marked-epoch epoch [] place h k = absurd (cc)
marked-epoch epoch (other ∷ places) place h k = by_test (or_cases _ _ k) (and_parts _ _ h).0 (marked-epoch epoch places place (and_parts _ _ h).1)
  where
    by_test : (same_place other place ≡ true) ⊎ (contains_place places place ≡ true) → (other.epoch.0 == epoch.0) ≡ true → (contains_place places place ≡ true → place.epoch ≡ epoch) → place.epoch ≡ epoch
    by_test (inl same) e rest = ap (λ (p : Place). p.epoch) (sym (same_place-true other place same)) ∙ epoch_equal other.epoch epoch (eqb-true _ _ e)
    by_test (inr later) e rest = rest later

module _ (epoch : Epoch) where
  -- ---- as more is known
  module _ (some more : KnownLists) (is_more : IsMore some more) where
    packet_more : (packet : Packet) → IsFinePacket epoch some packet → IsFinePacket epoch more packet
    packet_more packet f = record { of_epoch = f.of_epoch; stamped = is_more.stamped packet f.stamped }

    pub IsFine-more : (part : PartValue) → IsFine epoch some part → IsFine epoch more part
    IsFine-more part f = record {
      facts = f.facts;
      epoch_is = f.epoch_is;
      held = All-more _ _ part.held (λ pair h. record { packet = packet_more pair.1 h.packet; number = h.number }) f.held;
      fnd = λ place h. let g = f.fnd place h in record { packet = g.packet; found = is_more.found g.packet g.found; has = g.has };
      perm = record { at = λ place h. is_more.dropped.at place (f.perm.at place h) };
    }

    instruction_more : (instruction : Instruction) → IsFineInstruction epoch some instruction → IsFineInstruction epoch more instruction
    instruction_more (Request place) f = f
    instruction_more (Found packet) f = record { packet_is = packet_more packet f.packet_is; found = is_more.found packet f.found }
    instruction_more (Dropped place) f = record { epoch_is = f.epoch_is; dropped = is_more.dropped.at place f.dropped }

    notice_more : (notice : Notice) → IsFineNotice epoch some notice → IsFineNotice epoch more notice
    notice_more (Find replica place) f = f
    notice_more (Has packet) f = packet_more packet f
    notice_more (TempDropped place shard replica view) f = f

    exchange_more : (exchange : Exchange) → IsFineExchange epoch some exchange → IsFineExchange epoch more exchange
    exchange_more (ViewChange replica view part) f = IsFine-more part f
    exchange_more (StartView view part) f = IsFine-more part f
    exchange_more (SyncAsk view) f = f
    exchange_more (Ack replica view length) f = f
    exchange_more (Settled view number places) f = record { marks = f.marks; dropped = record { at = λ place h. is_more.dropped.at place (f.dropped.at place h) } }

    response_more : (response : Response) → IsFineResponse epoch some response → IsFineResponse epoch more response
    response_more (Vouch view shard replica stamp id phase) f = f
    response_more (Reply view shard replica stamp id phase answer) f = f
    response_more (Late shard replica id phase answer) f = f

    pub IsFineMessage-more : (message : EpochMessage) → IsFineMessage epoch some message → IsFineMessage epoch more message
    IsFineMessage-more (Stamped packet) f = packet_more packet f
    IsFineMessage-more (Instructs instruction) f = instruction_more instruction f
    IsFineMessage-more (Notifies notice) f = notice_more notice f
    IsFineMessage-more (Exchanges exchange) f = exchange_more exchange f
    IsFineMessage-more (Responds response) f = response_more response f

    pub IsFineReplica-more : (shard : ShardId) (state : EpochReplica) → IsFineReplica epoch some shard state → IsFineReplica epoch more shard state
    IsFineReplica-more shard state f = record {
      part = IsFine-more state.part f.part;
      own = f.own;
      noted = Each-weaker (IsFineNote epoch some shard) (IsFineNote epoch more shard) (λ one h. record { part = IsFine-more one.1 h.part; own = h.own }) state.noted f.noted;
    }

    pub packet-more : (packet : Packet) → IsFinePacket epoch some packet → IsFinePacket epoch more packet
    packet-more packet f = packet_more packet f

  -- ---- by the calls of a part
  module _ (known : KnownLists) where
    abbrev Fine : PartValue → Type 0
    Fine part = IsFine epoch known part

    fine_hold : (part : PartValue) (packet : Packet) → Fine part → IsFinePacket epoch known packet → Fine (hold part packet)
    fine_hold part packet f h =
        let others = hold-others part packet in
        record {
          facts = IsPart-hold part packet f.facts;
          epoch_is = ap (λ (p : PartValue). p.epoch) others ∙ f.epoch_is;
          held = subst (λ s. AllByRecursion (IsFineHeld epoch known s) (hold part packet).held) (sym (IsWithin-hold part packet).shard)
              (all-hold (IsFineHeld epoch known part.shard) part packet f.held (λ number given low. record { packet = h; number = given }));
          fnd = λ place k. f.fnd place (ap (λ (p : PartValue). contains_place p.fnd place) (sym others) ∙ k);
          perm = record { at = λ place k. f.perm.at place (ap (λ (p : PartValue). contains_place p.perm place) (sym others) ∙ k) };
        }

    fine_temp : (part : PartValue) (place : Place) → Fine part → place.epoch ≡ epoch → Fine (mark_temp part place)
    unfolding mark_temp
    fine_temp part place f e = record { facts = IsPart-mark_temp part place f.facts (e ∙ sym f.epoch_is); epoch_is = f.epoch_is; held = f.held; fnd = f.fnd; perm = f.perm }

    fine_found : (part : PartValue) (packet : Packet) → Fine part → IsFineFound epoch known packet → Fine (mark_found part packet.stamp)
    unfolding mark_found
    fine_found part packet f h = record {
      facts = IsPart-mark_found part packet.stamp f.facts (h.packet_is.of_epoch.epoch_is ∙ sym f.epoch_is) h.packet_is.of_epoch.places;
      epoch_is = f.epoch_is;
      held = f.held;
      fnd = λ place k. elim (or_cases _ _ (sym (contains_place-mark_found part packet.stamp place) ∙ k)) [
        | inl old ↦ f.fnd place old
        | inr new ↦ record { packet = packet; found = h.found; has = sym (contains_place-places_of packet.stamp place h.packet_is.of_epoch.places) ∙ new }
      ];
      perm = f.perm;
    }

    fine_dropped : (part : PartValue) (place : Place) → Fine part → IsFineDropped epoch known place → Fine (mark_dropped part place)
    unfolding mark_dropped
    fine_dropped part place f h = record {
      facts = IsPart-mark_dropped part place f.facts (h.epoch_is ∙ sym f.epoch_is);
      epoch_is = f.epoch_is;
      held = f.held;
      fnd = f.fnd;
      perm = record {
        at = λ other k. elim (or_cases _ _ (sym (contains_place-mark_dropped part place other) ∙ k)) [
          | inl old ↦ f.perm.at other old
          | inr same ↦ subst (λ p. contains_place known.dropped p ≡ true) (same_place-true place other same) h.dropped
        ];
      };
    }

    fine_all : (part : PartValue) (places : List Place) → Fine part → AreFineDropped epoch known places → Fine (mark_all_dropped part places)
    unfolding mark_all_dropped
    fine_all part places f h = record {
      facts = record { held = f.facts.held; temp = f.facts.temp; fnd = f.facts.fnd; perm = AreMarks-with_places part.epoch part.perm places f.facts.perm (subst (λ e. AreMarks e places) (sym f.epoch_is) h.marks) };
      epoch_is = f.epoch_is;
      held = f.held;
      fnd = f.fnd;
      perm = record { at = λ other k. elim (or_cases _ _ (sym (contains_place-with_places part.perm places other) ∙ k)) [ inl old ↦ f.perm.at other old | inr new ↦ h.dropped.at other new ] };
    }

    pub fine_merge : (some other : PartValue) → Fine some → Fine other → other.shard ≡ some.shard → Fine (merge some other)
    fine_merge some other f g own =
        let union = IsUnion-merge some other in
        record {
          facts = IsPart-merge some other f.facts g.facts (g.epoch_is ∙ sym f.epoch_is);
          epoch_is = union.epoch ∙ f.epoch_is;
          held = subst (λ s. AllByRecursion (IsFineHeld epoch known s) (merge some other).held) (sym union.shard)
              (all-merge (IsFineHeld epoch known some.shard) some other f.held (subst (λ s. AllByRecursion (IsFineHeld epoch known s) other.held) own g.held));
          fnd = λ place k. elim (or_cases _ _ (sym (union.fnd.at place) ∙ k)) [ inl one ↦ f.fnd place one | inr two ↦ g.fnd place two ];
          perm = record { at = λ place k. elim (or_cases _ _ (sym (union.perm.at place) ∙ k)) [ inl one ↦ f.perm.at place one | inr two ↦ g.perm.at place two ] };
        }

    pub fine_union : (noted : List (ReplicaId × PartValue)) (part : PartValue) (shard : ShardId) → Fine part → part.shard ≡ shard → Each (IsFineNote epoch known shard) noted → Fine (union_of noted part) × ((union_of noted part).shard ≡ shard)
    unfolding union_of
    fine_union [] part shard f own h = (f, own)
    fine_union (one ∷ noted) part shard f own h =
        fine_union noted (merge part one.1) shard (fine_merge part one.1 f h.0.part (h.0.own ∙ sym own)) ((IsUnion-merge part one.1).shard ∙ own) h.1

    fine_empty : (shard : ShardId) → Fine (empty_part epoch shard)
    unfolding empty_part contains_place
    fine_empty shard = record {
      facts = IsPart-empty_part epoch shard;
      epoch_is = refl;
      held = tt;
      fnd = λ place h. absurd (cc);
      perm = record { at = λ place h. absurd (cc) };
    }

    pub fine_fresh : (shard : ShardId) → IsFineReplica epoch known shard (fresh epoch shard)
    unfolding fresh empty_part
    fine_fresh shard = record { part = fine_empty shard; own = own; noted = tt }
      where
        own : (empty_part epoch shard).shard ≡ shard
        own = refl

    -- ---- by a step of a replica
    abbrev pub IsFineInput : EpochInput → Type 0
    IsFineInput (Get message) = IsFineMessage epoch known message
    IsFineInput Probe = ⊤
    IsFineInput Suspect = ⊤
    IsFineInput Sync = ⊤

    record IsFineOut (me : Member) (out : EpochOut) : Type 0 where
      state : IsFineReplica epoch known me.shard out.state

    with_part : (me : Member) (state : EpochReplica) (part : PartValue) → IsFineReplica epoch known me.shard state → Fine part → part.shard ≡ state.part.shard → IsFineReplica epoch known me.shard (record state { part = part })
    with_part me state part f h own = record { part = h; own = own ∙ f.own; noted = f.noted }

    comes_fine : (me : Member) (state : EpochReplica) (input : EpochInput) (view : View) (one : ReplicaId × PartValue) → IsFineReplica epoch known me.shard state → IsFineInput input → ComesFrom me state input view one → IsFineNote epoch known me.shard one
    comes_fine me state input view one f h (inl old) = Each-at _ state.noted one f.noted old.0
    comes_fine me state input view one f h (inr new) = record { part = subst IsFineInput new.0 h; own = new.1 }

    changing_fine : (me : Member) (state : EpochReplica) (input : EpochInput) (made : EpochReplica) → IsFineReplica epoch known me.shard state → IsFineInput input → IsChanging me state input made → IsFineReplica epoch known me.shard made
    changing_fine me state input made f h c = record {
      part = subst Fine (sym c.part) f.part;
      own = ap (λ (p : PartValue). p.shard) c.part ∙ f.own;
      noted = Each-weaker (ComesFrom me state input made.view) (IsFineNote epoch known me.shard) (λ one g. comes_fine me state input made.view one f h g) made.noted c.noted;
    }

    counting_fine : (me : Member) (state : EpochReplica) (input : EpochInput) (made : EpochReplica) → IsFineReplica epoch known me.shard state → IsCounting me state input made → IsFineReplica epoch known me.shard made
    counting_fine me state input made f c = record {
      part = subst Fine (sym c.part) f.part;
      own = ap (λ (p : PartValue). p.shard) c.part ∙ f.own;
      noted = subst (λ noted. Each (IsFineNote epoch known me.shard) noted) (sym c.noted) f.noted;
    }

    fine_starts : (me : Member) (made : EpochReplica) → IsFineReplica epoch known me.shard made → IsFineOut me (starts_view me made)
    unfolding starts_view became_normal
    fine_starts me made f = let union = fine_union made.noted made.part me.shard f.part f.own f.noted in record { state = record { part = union.0; own = union.1; noted = tt } }

    fine_gives : (me : Member) (state : EpochReplica) (packet : Option Packet) → IsFineReplica epoch known me.shard state → IsFineOut me (gives_packet state packet)
    fine_gives me state None f = record { state = f }
    fine_gives me state (Some packet) f = record { state = f }

    temp-shard : (part : PartValue) (place : Place) → (mark_temp part place).shard ≡ part.shard
    unfolding mark_temp
    temp-shard part place = refl

    found-shard : (part : PartValue) (packet : Packet) → (mark_found (hold part packet) packet.stamp).shard ≡ part.shard
    unfolding mark_found
    found-shard part packet = (IsWithin-hold part packet).shard

    dropped-shard : (part : PartValue) (place : Place) → (mark_dropped part place).shard ≡ part.shard
    unfolding mark_dropped
    dropped-shard part place = refl

    all-shard : (part : PartValue) (places : List Place) → (mark_all_dropped part places).shard ≡ part.shard
    unfolding mark_all_dropped
    all-shard part places = refl

    fine_leaf : (me : Member) (state : EpochReplica) (input : EpochInput) (out : EpochOut) → IsFineReplica epoch known me.shard state → IsFineInput input → Leaf me state input out → IsFineOut me out
    unfolding holds_packet drops_for_a_time found_row dropped_row shows_part tells_view takes_view became_normal acknowledges settles also_asks
    fine_leaf me state input _ f h (Nothing i) = record { state = f }
    fine_leaf me state _ _ f h (Holds packet) = record { state = with_part me state _ f (fine_hold state.part packet f.part h) (IsWithin-hold state.part packet).shard }
    fine_leaf me state _ _ f h (SpeaksAgain packet number k) = record { state = f }
    fine_leaf me state _ _ f h (Gives place number normal e) = fine_gives me state _ f
    fine_leaf me state _ _ f h (Drops place normal none) = record { state = with_part me state _ f (fine_temp state.part place f.part h) (temp-shard state.part place) }
    fine_leaf me state _ _ f h (Finds packet) = record { state = with_part me state _ f (fine_found _ packet (fine_hold state.part packet f.part h.packet_is) h) (found-shard state.part packet) }
    fine_leaf me state _ _ f h (Loses place) = record { state = with_part me state _ f (fine_dropped state.part place f.part h) (dropped-shard state.part place) }
    fine_leaf me state input _ f h (Shows i made c) = record { state = changing_fine me state input made f h c }
    fine_leaf me state input _ f h (Starts i made c learner ready) = fine_starts me made (changing_fine me state input made f h c)
    fine_leaf me state input _ f h (Waits i made c) = record { state = changing_fine me state input made f h c }
    fine_leaf me state input _ f h (Tells i replica normal learner) = record { state = f }
    fine_leaf me state _ _ f h (Takes view part le own follows) =
        record { state = record { part = fine_merge state.part part f.part h (own ∙ sym f.own); own = (IsUnion-merge state.part part).shard ∙ f.own; noted = tt } }
    fine_leaf me state input _ f h (Acknowledges i normal follows) = record { state = f }
    fine_leaf me state input _ f h (Settles i made c lt) = let g = counting_fine me state input made f c in record { state = record { part = g.part; own = g.own; noted = g.noted } }
    fine_leaf me state input _ f h (Counts i made c) = record { state = counting_fine me state input made f c }
    fine_leaf me state _ _ f h (Hears view number places) = record { state = with_part me state _ f (fine_all state.part places f.part h) (all-shard state.part places) }
    fine_leaf me state _ _ f h (Learns view number places e covered lt) =
        record { state = record { part = fine_all state.part places f.part h; own = all-shard state.part places ∙ f.own; noted = f.noted } }
    fine_leaf me state input _ f h (Repeats i normal learner) = record { state = f }
    fine_leaf me state input _ f h (AsksHowFar i out normal learner l) = record { state = (fine_leaf me state input out f h l).state }
    fine_leaf me state input _ f h (AsksGap i normal gap) = record { state = f }

    fine_speaks : (me : Member) (out : EpochOut) → IsFineOut me out → IsFineOut me (speaks_on me out)
    unfolding speaks_on
    fine_speaks me out f = record { state = record { part = f.state.part; own = f.state.own; noted = f.state.noted } }

    fine_asks : (me : Member) (out : EpochOut) → IsFineOut me out → IsFineOut me (asks_gap me out)
    unfolding asks_gap
    fine_asks me out f = record { state = record { part = f.state.part; own = f.state.own; noted = f.state.noted } }

    fine_once : (me : Member) (out : EpochOut) → IsFineOut me out → IsFineOut me (asks_once me out)
    unfolding asks_once
    fine_once me out f = cond_both (has_gap out.state.part && not (is_number out.state.asked (length_of out.state.part + 1))) _ _ (IsFineOut me) (λ h. fine_asks me out f) (λ h. f)

    fine_tail : (me : Member) (out : EpochOut) → IsFineOut me out → IsFineOut me (tail me out)
    unfolding tail
    fine_tail me out f = cond_both (is_normal out.state.status) _ _ (IsFineOut me) (λ h. fine_once me (speaks_on me out) (fine_speaks me out f)) (λ h. f)

    pub fine_step : (me : Member) (state : EpochReplica) (input : EpochInput) → IsFineReplica epoch known me.shard state → IsFineInput input → IsFineReplica epoch known me.shard (epoch_step me state input).state
    unfolding epoch_step
    fine_step me state input f h = (fine_tail me (row me state input) (fine_leaf me state input _ f h (leaf me state input))).state

    -- ---- what a fine replica says is fine
    pub held_fine : (part : PartValue) (number : ℕ) (packet : Packet) → Fine part → packet_at part.held number ≡ Some packet → IsFineHeld epoch known part.shard (number, packet)
    held_fine part number packet f h = all-packet_at (IsFineHeld epoch known part.shard) part.held number packet f.held h

    spoke_epoch : (me : Member) (state : EpochReplica) (view : View) (shard : ShardId) (replica : ReplicaId) (stamp : Stamp) (id : TxnId) (phase : Phase)
        → Fine state.part → Spoke me state.view state.status state.part view shard replica stamp id phase → stamp.epoch ≡ epoch
    spoke_epoch me state view shard replica stamp id phase f s =
        ap (λ (st : Stamp). st.epoch) (sym s.of_stamp) ∙ (held_fine state.part s.number s.packet f s.held).packet.of_epoch.epoch_is

    said_notice : (me : Member) (before after : EpochReplica) (notice : Notice) → Fine before.part → Fine after.part → Says me before after (Notifies notice) → IsFineNotice epoch known notice
    said_notice me before after (Find replica place) f g s = ap (λ (p : Place). p.epoch) s.behind ∙ g.epoch_is
    said_notice me before after (Has packet) f g s = (held_fine before.part s.number packet f s.held).packet
    said_notice me before after (TempDropped place shard replica view) f g s = marked-epoch after.part.epoch after.part.temp place g.facts.temp.of_epoch s.temp ∙ g.epoch_is

    said_exchange : (me : Member) (before after : EpochReplica) (exchange : Exchange) → Fine after.part → Says me before after (Exchanges exchange) → IsFineExchange epoch known exchange
    said_exchange me before after (ViewChange replica view part) g s = subst Fine (sym s.same) g
    said_exchange me before after (StartView view part) g s = subst Fine (sym s.same) g
    said_exchange me before after (SyncAsk view) g s = tt
    said_exchange me before after (Ack replica view length) g s = tt
    said_exchange me before after (Settled view number places) g s =
        subst (AreFineDropped epoch known) (sym s.are_perm) (record { marks = subst (λ e. AreMarks e after.part.perm) g.epoch_is g.facts.perm; dropped = g.perm })

    said_response : (me : Member) (before after : EpochReplica) (response : Response) → Fine after.part → Says me before after (Responds response) → IsFineResponse epoch known response
    said_response me before after (Vouch view shard replica stamp id phase) g s = spoke_epoch me after view shard replica stamp id phase g s.spoke
    said_response me before after (Reply view shard replica stamp id phase answer) g s = spoke_epoch me after view shard replica stamp id phase g s.spoke
    said_response me before after (Late shard replica id phase answer) g s = tt

    pub said_fine : (me : Member) (before after : EpochReplica) (message : EpochMessage) → Fine before.part → Fine after.part → Says me before after message → IsFineMessage epoch known message
    said_fine me before after (Stamped packet) f g s = absurd s
    said_fine me before after (Instructs instruction) f g s = absurd s
    said_fine me before after (Notifies notice) f g s = said_notice me before after notice f g s
    said_fine me before after (Exchanges exchange) f g s = said_exchange me before after exchange g s
    said_fine me before after (Responds response) f g s = said_response me before after response g s
