-- How a step changes a replica's view, its notes, its acknowledgements and its settled number: the skeleton of the
-- view change and of settling. The arguments on views and on settled numbers use these few cases only.
use Rattle.std.proofs.Common.{◌≡◌, ◌⊎◌, inl, inr, ℕ, ◌+◌, List, [], true, false, not, ◌&&◌, Option, Some, None, refl, ap, ◌∙◌}
use Rattle.std.proofs.lemmas.Bool.{cond_both, or_right}
use Rattle.eris_base.specs.declared.ids.Place.{Place}
use Rattle.eris_base.specs.declared.ids.ReplicaId.{ReplicaId}
use Rattle.eris_base.specs.declared.ids.View.{View}
use Rattle.eris_base.specs.Each.{Each}
use Rattle.eris_base.specs.StampPlaces.{is_number}
use Rattle.eris_txn.specs.declared.packet.Packet.{Packet}
use Rattle.eris_log.specs.Entries.{covers, length_of}
use Rattle.eris_log.specs.Growth.{HasAll}
use Rattle.eris_log.specs.Laws.Places.{contains_place-with_places}
use Rattle.eris_log.specs.PartValues.{PartValue}
use Rattle.eris_log.specs.Parts.{merge}
use Rattle.eris_view.specs.AckTallies.{settled}
use Rattle.eris_view.specs.ViewTallies.{is_ready, union_of}
use Rattle.eris_rules.specs.declared.replica_status.ReplicaStatus.{ReplicaStatus}
use Rattle.eris_rules.specs.EpochMessages.{Exchanges, StartView, Settled}
use Rattle.eris_rules.specs.EpochReplicas.{EpochInput, Get, holds_packet, gives_packet, drops_for_a_time, found_row, dropped_row, row, epoch_step}
use Rattle.eris_rules.specs.ReplicaStates.{Member, EpochReplica, EpochOut, is_normal, is_learner}
use Rattle.eris_rules.specs.Settling.{shared_number, settles, acknowledges, mark_all_dropped, also_asks}
use Rattle.eris_rules.specs.Speaking.{speaks_on, has_gap, asks_gap, asks_once, tail}
use Rattle.eris_rules.specs.Views.{shows_part, starts_view, became_normal, tells_view, takes_view}
use Rattle.eris_law_epoch.proofs.Leaves.{IsChanging, IsCounting, ComesFrom, AcksFrom, Leaf, Nothing, Holds, SpeaksAgain, Gives, Drops, Finds, Loses, Shows, Starts, Waits, Tells, Takes, Acknowledges, Settles, Counts, Hears, Learns, Repeats, AsksHowFar, AsksGap, leaf}

-- ---- views
pub data Turn (me : Member) (before : EpochReplica) (input : EpochInput) (view : View) (status : ReplicaStatus) (part : PartValue) (noted : List (ReplicaId × PartValue)) : Type 0 where
  Same : view ≡ before.view → is_normal status ≡ is_normal before.status → noted ≡ before.noted → Turn me before input view status part noted
  Stays : is_normal status ≡ false → Each (ComesFrom me before input view) noted → Turn me before input view status part noted
  Begins : (ones : List (ReplicaId × PartValue)) → Each (ComesFrom me before input view) ones → is_ready (record { view = view; f = me.config.f; noted = ones }) me.replica ≡ true
      → part ≡ union_of ones before.part → noted ≡ [] → Turn me before input view status part noted
  Joins : (other : PartValue) → input ≡ Get (Exchanges (StartView view other)) → other.shard ≡ me.shard → part ≡ merge before.part other → noted ≡ [] → Turn me before input view status part noted

-- ---- settling
-- the learner of a view settles what a quorum has
pub record Raised (me : Member) (view : View) (status : ReplicaStatus) (part : PartValue) (acks : List (ReplicaId × ℕ)) (number : ℕ) : Type 0 where
  pub normal : is_normal status ≡ true
  pub learner : is_learner me view ≡ true
  pub shared : number ≡ settled (record { f = me.config.f; acks = acks }) (length_of part)

-- another learns from it
pub record Learned (input : EpochInput) (view : View) (part : PartValue) (number : ℕ) : Type 0 where
  pub places : List Place
  pub came : input ≡ Get (Exchanges (Settled view number places))
  pub covered : covers part number ≡ true
  pub has : HasAll places part.perm

abbrev pub AcksTurn : Member → EpochReplica → EpochInput → View → List (ReplicaId × ℕ) → Type 0
AcksTurn me before input view acks = (acks ≡ []) ⊎ ((view ≡ before.view) × AcksFrom me before input acks)

pub record IsTurned (me : Member) (before : EpochReplica) (input : EpochInput) (after : EpochReplica) : Type 0 where
  pub turn : Turn me before input after.view after.status after.part after.noted
  pub acks : AcksTurn me before input after.view after.acks
  pub settled : (after.settled ≡ before.settled) ⊎ (Raised me after.view after.status after.part after.acks after.settled ⊎ Learned input after.view after.part after.settled)

record IsTurnedOut (me : Member) (before : EpochReplica) (input : EpochInput) (out : EpochOut) : Type 0 where
  turned : IsTurned me before input out.state

module _ (me : Member) (state : EpochReplica) where
  -- where the view, status, notes, acknowledgements and settled number stay
  stays : (input : EpochInput) (part : PartValue) → IsTurned me state input (record state { part = part })
  stays input part = record { turn = Same refl refl refl; acks = inr (refl, inl refl); settled = inl refl }

  stays_out : (input : EpochInput) → IsTurned me state input state
  stays_out input = record { turn = Same refl refl refl; acks = inr (refl, inl refl); settled = inl refl }

  changing-acks : (input : EpochInput) (made : EpochReplica) → IsChanging me state input made → AcksTurn me state input made.view made.acks
  changing-acks input made h = elim h.acks [ inl none ↦ inl none | inr kept ↦ inr (kept.1, inl kept.0) ]

  changing : (input : EpochInput) (made : EpochReplica) → IsChanging me state input made → IsTurned me state input made
  changing input made h = record { turn = Stays h.status h.noted; acks = changing-acks input made h; settled = inl h.settled }

  turned_starts : (input : EpochInput) (made : EpochReplica) → IsChanging me state input made → is_ready (record { view = made.view; f = me.config.f; noted = made.noted }) me.replica ≡ true
      → IsTurnedOut me state input (starts_view me made)
  unfolding starts_view became_normal
  turned_starts input made h ready = record { turned = record { turn = Begins made.noted h.noted ready (ap (union_of made.noted) h.part) refl; acks = inl refl; settled = inl h.settled } }

  counted : (input : EpochInput) (made : EpochReplica) → IsCounting me state input made → AcksTurn me state input made.view made.acks
  counted input made h = inr (h.view, h.acks)

  counting-same : (input : EpochInput) (made : EpochReplica) (part : PartValue) → IsCounting me state input made → Turn me state input made.view made.status part made.noted
  counting-same input made part h = Same h.view (ap is_normal h.status) h.noted

  turned_settles : (input : EpochInput) (made : EpochReplica) → IsCounting me state input made → IsTurnedOut me state input (settles me made (shared_number me made))
  unfolding settles shared_number
  turned_settles input made h = record {
    turned = record {
      turn = counting-same input made made.part h;
      acks = counted input made h;
      settled = inr (inl (record { normal = ap is_normal h.status ∙ h.normal; learner = ap (is_learner me) h.view ∙ h.learner; shared = refl }));
    };
  }

  has_all : (part : PartValue) (places : List Place) → HasAll places (mark_all_dropped part places).perm
  unfolding mark_all_dropped
  has_all part places = record { at = λ place h. contains_place-with_places part.perm places place ∙ or_right _ _ h }

  turned_gives : (input : EpochInput) (packet : Option Packet) → IsTurnedOut me state input (gives_packet state packet)
  turned_gives input None = record { turned = stays_out input }
  turned_gives input (Some packet) = record { turned = stays_out input }

  turned_leaf : (input : EpochInput) (out : EpochOut) → Leaf me state input out → IsTurnedOut me state input out
  unfolding holds_packet drops_for_a_time found_row dropped_row shows_part tells_view takes_view became_normal acknowledges also_asks
  turned_leaf input _ (Nothing i) = record { turned = stays_out input }
  turned_leaf _ _ (Holds packet) = record { turned = stays _ _ }
  turned_leaf _ _ (SpeaksAgain packet number h) = record { turned = stays_out _ }
  turned_leaf _ _ (Gives place number normal e) = turned_gives _ _
  turned_leaf _ _ (Drops place normal none) = record { turned = stays _ _ }
  turned_leaf _ _ (Finds packet) = record { turned = stays _ _ }
  turned_leaf _ _ (Loses place) = record { turned = stays _ _ }
  turned_leaf input _ (Shows i made h) = record { turned = changing input made h }
  turned_leaf input _ (Starts i made h learner ready) = turned_starts input made h ready
  turned_leaf input _ (Waits i made h) = record { turned = changing input made h }
  turned_leaf input _ (Tells i replica normal learner) = record { turned = stays_out input }
  turned_leaf _ _ (Takes view part le own follows) = record { turned = record { turn = Joins part refl own refl refl; acks = inl refl; settled = inl refl } }
  turned_leaf input _ (Acknowledges i normal follows) = record { turned = stays_out input }
  turned_leaf input _ (Settles i made h lt) = turned_settles input made h
  turned_leaf input _ (Counts i made h) = record { turned = record { turn = counting-same input made made.part h; acks = counted input made h; settled = inl h.settled } }
  turned_leaf _ _ (Hears view number places) = record { turned = stays _ _ }
  turned_leaf _ _ (Learns view number places e covered lt) = record {
    turned = record {
      turn = Same refl refl refl;
      acks = inr (refl, inl refl);
      settled = inr (inr (record { places = places; came = ap (λ v. Get (Exchanges (Settled v number places))) e; covered = covered; has = has_all state.part places }));
    };
  }
  turned_leaf input _ (Repeats i normal learner) = record { turned = stays_out input }
  turned_leaf input _ (AsksHowFar i out normal learner l) = record { turned = (turned_leaf input out l).turned }
  turned_leaf input _ (AsksGap i normal gap) = record { turned = stays_out input }

  turned_speaks : (input : EpochInput) (out : EpochOut) → IsTurnedOut me state input out → IsTurnedOut me state input (speaks_on me out)
  unfolding speaks_on
  turned_speaks input out h = record { turned = record { turn = h.turned.turn; acks = h.turned.acks; settled = h.turned.settled } }

  turned_asks : (input : EpochInput) (out : EpochOut) → IsTurnedOut me state input out → IsTurnedOut me state input (asks_gap me out)
  unfolding asks_gap
  turned_asks input out h = record { turned = record { turn = h.turned.turn; acks = h.turned.acks; settled = h.turned.settled } }

  turned_once : (input : EpochInput) (out : EpochOut) → IsTurnedOut me state input out → IsTurnedOut me state input (asks_once me out)
  unfolding asks_once
  turned_once input out h = cond_both (has_gap out.state.part && not (is_number out.state.asked (length_of out.state.part + 1))) _ _ (IsTurnedOut me state input) (λ k. turned_asks input out h) (λ k. h)

  turned_tail : (input : EpochInput) (out : EpochOut) → IsTurnedOut me state input out → IsTurnedOut me state input (tail me out)
  unfolding tail
  turned_tail input out h = cond_both (is_normal out.state.status) _ _ (IsTurnedOut me state input) (λ k. turned_once input (speaks_on me out) (turned_speaks input out h)) (λ k. h)

  -- how a step turns a replica
  pub turned : (input : EpochInput) → IsTurned me state input (epoch_step me state input).state
  unfolding epoch_step
  turned input = (turned_tail input (row me state input) (turned_leaf input _ (leaf me state input))).turned
