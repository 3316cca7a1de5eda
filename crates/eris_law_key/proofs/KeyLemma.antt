-- THE KEY LEMMA: where a quorum spoke past a number in a view, and the view's learner counted the packet there, the
-- packet is never dropped, on no shard. Suppose that its first place was dropped by a quorum of this shard in some
-- view. In the same view the learner is in both, and it can't have done both. In a higher one the learner's part
-- has the temporary drop of a replica of that quorum. In a lower one a replica of both had spoken before it
-- dropped, so it held the packet, or knew it to be dropped when nothing of it was.
use Rattle.std.proofs.Common.{◌≡◌, ◌⊎◌, inl, inr, ℕ, suc, ◌+◌, ◌*◌, ◌≤◌, ◌<◌, List, Bool, true, false, not, ◌||◌, Option, Some, None, refl, sym, ap, ◌∙◌, subst, arith}
use Rattle.std.proofs.lemmas.Bool.{or_cases, cases_Bool, cases_lt, cases_order, both_ways}
use Rattle.eris_base.specs.declared.ids.Place.{Place}
use Rattle.eris_base.specs.declared.ids.ReplicaId.{ReplicaId}
use Rattle.eris_base.specs.declared.ids.ShardId.{ShardId}
use Rattle.eris_base.specs.declared.ids.View.{View}
use Rattle.eris_base.specs.Quorums.{has_replica, learner_of}
use Rattle.eris_base.specs.StampPlaces.{has_place}
use Rattle.eris_txn.specs.declared.packet.Packet.{Packet}
use Rattle.eris_log.specs.declared.entry.Entry.{Entry}
use Rattle.eris_log.specs.Entries.{entry_of, holder_of, is_dropped, is_txn, is_gap, is_held_and, is_lost, own_place}
use Rattle.eris_log.specs.Held.{packet_at}
use Rattle.eris_log.specs.Laws.Entries.{any_among-from, any_among-within, all_found-at, HoldsTxn-is_txn, is_txn-entry_of, entry_of-txn, holder_of-none}
use Rattle.eris_log.specs.Laws.Places.{contains_place-places_of}
use Rattle.eris_log.specs.PartValues.{PartValue}
use Rattle.eris_log.specs.Places.{contains_place, places_of, any_among}
use Rattle.eris_drop.proofs.QuorumLaws.{quorums_meet, replica}
use Rattle.eris_rules.specs.ReplicaStates.{EpochReplica}
use Rattle.eris_law_epoch.specs.Causes.{IsLater}
use Rattle.eris_law_epoch.specs.EpochWorlds.{EpochSystem, EpochWorld, EpochEvent, moment}
use Rattle.eris_law_epoch.specs.Fine.{known_in, IsFine}
use Rattle.eris_law_epoch.specs.Members.{In}
use Rattle.eris_law_key.specs.Quorums.{IsQuorum, IsBacked, Reached, SpokePast, DroppedThen, IsAgreed}
use Rattle.eris_law_epoch.specs.Reading.{replica_then}
use Rattle.eris_law_epoch.specs.Stamped.{HasNumber, IsStampedIn}
use Rattle.eris_law_key.proofs.Drops.{number-place, first_dropped, has_first}
use Rattle.eris_law_epoch.proofs.FineParts.{held_fine}
use Rattle.eris_law_epoch.proofs.FineWorlds.{all_fine}
use Rattle.eris_law_epoch.proofs.Moments.{later}
use Rattle.eris_law_epoch.proofs.StampList.{stamps}
use Rattle.eris_law_key.proofs.Views.{sound}

-- an entry that is no gap is dropped or counts
pub no_gap : (part : PartValue) (number : ℕ) → is_gap part number ≡ false → (is_dropped part number ≡ true) ⊎ (entry_of part number ≡ Entry.Txn)
unfolding is_gap
no_gap part number h = elim (cases_Bool (is_dropped part number)) [
  | inl dropped ↦ inl dropped
  | inr kept ↦ inr (entry_of-txn part number kept (other (is_dropped part number) (is_txn part number) kept h))
]
  where
    other : (a b : Bool) → a ≡ false → not (a || b) ≡ false → b ≡ true
    other a b e k = grind arith

module _ (system : EpochSystem) (events : List EpochEvent) where
  abbrev at : ℕ → EpochWorld
  at k = moment system events k

  abbrev then : ℕ → ShardId → ReplicaId → EpochReplica
  then k shard x = replica_then system events k shard x

  pub grows : (i j : ℕ) (s : ShardId) (x : ReplicaId) → i ≤ j → IsLater (then i s x) (then j s x)
  grows i j s x le = (later system events i j le).replicas s x

  pub fine_part : (k : ℕ) (s : ShardId) (x : ReplicaId) → IsFine system.epoch (known_in (at k)) (then k s x).part
  fine_part k s x = ((all_fine system events k).replicas s x).part

  pub own_shard : (k : ℕ) (s : ShardId) (x : ReplicaId) → (then k s x).part.shard ≡ s
  own_shard k s x = ((all_fine system events k).replicas s x).own

  -- ---- one packet, stamped by moment k, with this number on the shard
  module _ (k : ℕ) (s : ShardId) (n : ℕ) (t : Packet) (stamped : In t (at k).stamping.stamped) (number : HasNumber t s n) where
    fits : IsStampedIn system.epoch t
    fits = (stamps system events k).each t stamped

    -- what is held at the number is the packet
    pub is_packet : (m : ℕ) (x : ReplicaId) (u : Packet) → m ≤ k → packet_at (then m s x).part.held n ≡ Some u → u ≡ t
    is_packet m x u le h =
        let f = held_fine system.epoch (known_in (at m)) (then m s x).part n u (fine_part m s x) h in
        (stamps system events k).one u t s n ((later system events m k le).stamped u f.packet.stamped) stamped (subst (λ shard. HasNumber u shard n) (own_shard m s x) f.number) number

    -- the place of the number on a part of the shard is the packet's
    pub own_place-packet : (m : ℕ) (x : ReplicaId) → contains_place (places_of t.stamp) (own_place (then m s x).part n) ≡ true
    own_place-packet m x =
        contains_place-places_of t.stamp (own_place (then m s x).part n) fits.places
        ∙ number-place t (then m s x).part.epoch (then m s x).part.shard n (fits.epoch_is ∙ sym (fine_part m s x).epoch_is) (subst (λ shard. HasNumber t shard n) (sym (own_shard m s x)) number)

    -- where the entry is dropped, a place of the packet is dropped for good there
    pub dropped_means : (m : ℕ) (x : ReplicaId) → m ≤ k → is_dropped (then m s x).part n ≡ true → any_among (then m s x).part.perm t.stamp ≡ true
    unfolding is_dropped
    dropped_means m x le h = elim (or_cases _ _ h) [
      | inl place ↦ any_among-from (then m s x).part.perm t.stamp (own_place (then m s x).part n) (own_place-packet m x) place
      | inr held ↦ by_held (packet_at (then m s x).part.held n) refl held
    ]
      where
        by_held : (found : Option Packet) → packet_at (then m s x).part.held n ≡ found → is_held_and (λ packet. is_lost (then m s x).part packet) found ≡ true → any_among (then m s x).part.perm t.stamp ≡ true
        by_held None e g = absurd (cc)
        by_held (Some u) e g = subst (λ (p : Packet). any_among (then m s x).part.perm p.stamp ≡ true) (is_packet m x u le e) g

    -- so it is dropped by the coordinator
    pub dropped_by : (m i : ℕ) (x : ReplicaId) → m ≤ i → m ≤ k → is_dropped (then m s x).part n ≡ true → any_among (at i).coordinator.dropped t.stamp ≡ true
    dropped_by m i x le lk h =
        any_among-within (at m).coordinator.dropped (at i).coordinator.dropped t.stamp (later system events m i le).coordinator.dropped
        (any_among-within (then m s x).part.perm (at m).coordinator.dropped t.stamp (fine_part m s x).perm (dropped_means m x lk h))

    -- ---- its first dropped place, dropped at moment j
    module _ (j : ℕ) (p : Place) (le : suc j ≤ k) (known_shard : s.0 < system.config.shards) (has : has_place t.stamp p ≡ true)
        (none : any_among (at j).coordinator.dropped t.stamp ≡ false) (dropped : contains_place (at (suc j)).coordinator.dropped p ≡ true) where
      -- who has the place among the temporary ones doesn't count the packet
      shut : (m : ℕ) (x : ReplicaId) → m ≤ k → contains_place (then m s x).part.temp p ≡ true → entry_of (then m s x).part n ≡ Entry.Txn → ⊥
      shut m x l d h =
          let o = HoldsTxn-is_txn (then m s x).part n (is_txn-entry_of _ n h).1 in
          let place : contains_place (places_of o.packet.stamp) p ≡ true = subst (λ (u : Packet). contains_place (places_of u.stamp) p ≡ true) (sym (is_packet m x o.packet l o.held)) (contains_place-places_of t.stamp p fits.places ∙ has) in
          let f = (fine_part m s x).fnd p (all_found-at _ _ o.packet.stamp p o.clear place d) in
          let found = (later system events m k l).coordinator.found f.packet f.found in
          let still = (later system events (suc j) k le).coordinator.dropped.at p dropped in
          both_ways _ ((all_fine system events k).apart.dropped p f.packet still found) f.has

      -- who counted the packet before didn't drop the place for a time
      held_none : (m i : ℕ) (x : ReplicaId) → m ≤ i → i ≤ k → entry_of (then m s x).part n ≡ Entry.Txn → holder_of (then i s x).part p ≡ None → ⊥
      held_none m i x l l' h without =
          let o = HoldsTxn-is_txn (then m s x).part n (is_txn-entry_of _ n h).1 in
          let held = (grows m i s x l).part.held.at n o.packet o.held in
          both_ways _ (holder_of-none (then i s x).part p n o.packet (fine_part i s x).facts without held)
          (subst (λ (u : Packet). has_place u.stamp p ≡ true) (sym (is_packet m x o.packet (omega arith) o.held)) has)

      a : IsAgreed system events j s p
      a = first_dropped system events j k s t p le stamped has none dropped known_shard

      share : (some others : List ReplicaId) → IsQuorum system.config.f some → IsQuorum system.config.f others → (x : ℕ) × (x < 2 * system.config.f + 1) × (has_replica some (replica x) ≡ true) × (has_replica others (replica x) ≡ true)
      share some others q r = quorums_meet system.config.f some others q.below r.below q.many r.many

      module _ (v : View) (past : SpokePast system events k s v n) (counts : entry_of (then past.learner.moment s (learner_of v system.config.f)).part n ≡ Entry.Txn) where
        abbrev w : Reached system events k s v n (learner_of v system.config.f)
        w = past.learner

        in_same : v.0 ≡ a.view.0 → ⊥
        in_same e =
            let same : a.view ≡ v = λ i. record { 0 = sym e i } in
            let d : DroppedThen system events j s v p (learner_of v system.config.f) = subst (λ u. DroppedThen system events j s u p (learner_of u system.config.f)) same (a.each _ a.learner) in
            let before = d.by in
            elim (cases_lt d.moment w.moment) [
              | inl after ↦ shut w.moment (learner_of v system.config.f) w.by ((grows (suc d.moment) w.moment s (learner_of v system.config.f) after).part.temp.at p d.dropped.temp) counts
              | inr first ↦ held_none w.moment d.moment (learner_of v system.config.f) first (omega arith) counts d.dropped.none
            ]

        in_higher : a.view.0 < v.0 → ⊥
        in_higher lt = elim ((sound system events w.moment s (learner_of v system.config.f)).normal w.normal) [
          | inl zero_view ↦ (let e : v.0 ≡ 0 = ap (λ (u : View). u.0) (sym w.in_view) ∙ zero_view in absurd (omega arith))
          | inr backed ↦ by_backed backed
        ]
          where
            by_backed : IsBacked system events w.moment s (then w.moment s (learner_of v system.config.f)).view (then w.moment s (learner_of v system.config.f)).part → ⊥
            by_backed b =
                let c = share a.who b.who a.quorum b.quorum in
                let h = b.each (replica c.0) c.3 in
                let d = a.each (replica c.0) c.2 in
                let there : (then h.moment s (replica c.0)).view.0 ≡ v.0 = ap (λ (u : View). u.0) (h.in_view ∙ w.in_view) in
                let dropping : a.view.0 ≡ (then d.moment s (replica c.0)).view.0 = ap (λ (u : View). u.0) d.dropped.in_view in
                let after : suc d.moment ≤ h.moment = elim (cases_lt d.moment h.moment) [ inl y ↦ y | inr y ↦ (let r = (grows h.moment d.moment s (replica c.0) y).view in absurd (omega arith)) ] in
                let temp = (grows (suc d.moment) h.moment s (replica c.0) after).part.temp.at p d.dropped.temp in
                shut w.moment (learner_of v system.config.f) w.by (h.within.temp.at p temp) counts

        in_lower : v.0 < a.view.0 → ⊥
        in_lower lt =
            let c = share a.who past.who a.quorum past.quorum in
            let d = a.each (replica c.0) c.2 in
            let o = past.each (replica c.0) c.3 in
            let speaking : (then o.moment s (replica c.0)).view.0 ≡ v.0 = ap (λ (u : View). u.0) o.in_view in
            let dropping : a.view.0 ≡ (then d.moment s (replica c.0)).view.0 = ap (λ (u : View). u.0) d.dropped.in_view in
            let before : o.moment ≤ d.moment = elim (cases_lt d.moment o.moment) [ inl y ↦ (let r = (grows d.moment o.moment s (replica c.0) (omega arith)).view in absurd (omega arith)) | inr y ↦ y ] in
            let by = d.by in
            let low = (stamps system events k).low t s n stamped number in
            elim (no_gap (then o.moment s (replica c.0)).part n (o.whole.at n low (omega arith))) [
              | inl lost ↦ both_ways _ none (dropped_by o.moment j (replica c.0) (omega arith) (omega arith) lost)
              | inr open' ↦ held_none o.moment d.moment (replica c.0) before (omega arith) open' d.dropped.none
            ]

        pub not_first : ⊥
        not_first = elim (cases_order v.0 a.view.0) [ inl e ↦ in_same e | inr o ↦ elim o [ inl lt ↦ in_lower lt | inr gt ↦ in_higher gt ] ]

    -- THE KEY LEMMA
    pub key : (v : View) (past : SpokePast system events k s v n) → entry_of (then past.learner.moment s (learner_of v system.config.f)).part n ≡ Entry.Txn
        → any_among (at k).coordinator.dropped t.stamp ≡ false
    key v past counts = elim (cases_Bool (any_among (at k).coordinator.dropped t.stamp)) [
      | inr never ↦ never
      | inl lost ↦ (let f = has_first system events k t lost in
          absurd (not_first f.moment_before f.place f.by ((stamps system events k).known t s n stamped number) (sym (contains_place-places_of t.stamp f.place fits.places) ∙ f.has) f.none f.dropped v past counts))
    ]
