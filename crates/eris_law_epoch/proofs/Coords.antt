-- The coordinator's step within an epoch: what it found and dropped stays; no found packet has a dropped place;
-- each thing that it says is so; and why a place is dropped: by notes of quorums of every shard, or with a packet
-- that has a dropped place already.
use Rattle.std.proofs.Common.{◌≡◌, ◌⊎◌, inl, inr, List, [], ◌∷◌, Bool, true, false, not, Option, Some, None, refl, sym, ap, ◌∙◌, subst}
use Rattle.std.specs.Prelude.{if◌then◌else◌}
use Rattle.std.specs.List.{filter}
use Rattle.std.proofs.lemmas.Bool.{cond_both, or_cases, or_left, or_right, cases_Bool, not-true, both_ways}
use Rattle.eris_base.specs.declared.ids.Place.{Place}
use Rattle.eris_base.specs.declared.ids.ReplicaId.{ReplicaId}
use Rattle.eris_base.specs.ConfigLimits.{ConfigValue}
use Rattle.eris_base.specs.Each.{Each}
use Rattle.eris_base.specs.Places.{are_stamp_places}
use Rattle.eris_base.specs.StampPlaces.{has_place}
use Rattle.eris_txn.specs.declared.packet.Packet.{Packet}
use Rattle.eris_log.specs.Laws.Entries.{any_among-none}
use Rattle.eris_log.specs.Laws.Parts.{HasAll-refl}
use Rattle.eris_log.specs.Laws.Places.{contains_place-with_place, contains_place-with_places, contains_place-places_of, same_place-true, same_place-refl}
use Rattle.eris_log.specs.Places.{contains_place, same_place, with_place, with_places, places_of, any_among}
use Rattle.eris_drop.specs.declared.drop_note.DropNote.{DropNote}
use Rattle.eris_drop.specs.Notes.{note, forget, decided}
use Rattle.eris_drop.proofs.DropLaws.{note-cases}
use Rattle.eris_rules.specs.CoordStates.{EpochCoord, EpochCoordOut, unmoved}
use Rattle.eris_rules.specs.EpochCoords.{finder_of, to_all, tells_found, tells_dropped, asks_all, asks_new, finds_lost, finds_by, find_row, places_had, places_not_had, forget_all, all_hear_dropped, keeps_found, drops_rest, has_wanted, has_row, drops_place, drops_decided, notes_drop, temp_dropped_row, nudge_row, notice_row, epoch_coord_step}
use Rattle.eris_rules.specs.EpochMessages.{EpochMessage, EpochSend, Stamped, Instructs, Notifies, Exchanges, Responds, Request, Found, Dropped, Notice, Find, Has, TempDropped}
use Rattle.eris_law_epoch.specs.Causes.{CoordSays, IsCoordLater}
use Rattle.eris_law_epoch.specs.Members.{In}
use Rattle.eris_law_epoch.proofs.Members.{OfMessage, Each-by_In, Each-flat_map, Each-told, In-append, In-left, In-right, In-filtered, In-filter, find-In, find-none, contained-In, In-contained}

pub IsCoordLater-refl : (state : EpochCoord) → IsCoordLater state state
IsCoordLater-refl state = record { found = λ packet i. i; dropped = HasAll-refl state.dropped }

pub IsCoordLater-trans : (some more all : EpochCoord) → IsCoordLater some more → IsCoordLater more all → IsCoordLater some all
IsCoordLater-trans some more all f g =
    record { found = λ packet i. g.found packet (f.found packet i); dropped = record { at = λ place h. g.dropped.at place (f.dropped.at place h) } }

-- FOUND AND DROPPED APART: no place that is asked for or dropped is of a found packet
pub record IsApart (state : EpochCoord) : Type 0 where
  pub asked : (place : Place) (packet : Packet) → contains_place state.asked place ≡ true → In packet state.found → has_place packet.stamp place ≡ false
  pub dropped : (place : Place) (packet : Packet) → contains_place state.dropped place ≡ true → In packet state.found → has_place packet.stamp place ≡ false

-- the notice that a note came by
abbrev pub told : DropNote → Notice
told one = TempDropped one.place one.shard one.replica one.view

-- a place is decided by notes of which each was kept or comes now
pub record IsByQuorums (config : ConfigValue) (state : EpochCoord) (notice : Option Notice) (place : Place) : Type 0 where
  pub notes : List DropNote
  pub known : (one : DropNote) → In one notes → In one state.notes ⊎ (notice ≡ Some (told one))
  pub is_decided : decided config notes place ≡ true

-- a packet with the place comes, and it has a dropped place
pub record IsWithPacket (state : EpochCoord) (notice : Option Notice) (place : Place) : Type 0 where
  pub packet : Packet
  pub comes : notice ≡ Some (Has packet)
  pub has : has_place packet.stamp place ≡ true
  pub lost : any_among state.dropped packet.stamp ≡ true

-- ALL THAT IS KEPT of a step's output, by a notice or by none
pub record IsCoordRight (config : ConfigValue) (notice : Option Notice) (state : EpochCoord) (out : EpochCoordOut) : Type 0 where
  pub later : IsCoordLater state out.state
  pub says : Each (OfMessage (CoordSays out.state)) out.sends
  pub new : (packet : Packet) → In packet out.state.found → In packet state.found ⊎ (notice ≡ Some (Has packet))
  pub asks : (place : Place) → contains_place out.state.asked place ≡ true → (contains_place state.asked place ≡ true) ⊎ ((replica : ReplicaId) × (notice ≡ Some (Find replica place)))
  pub notes : (one : DropNote) → In one out.state.notes → In one state.notes ⊎ (notice ≡ Some (told one))
  pub drops : (place : Place) → contains_place out.state.dropped place ≡ true → (contains_place state.dropped place ≡ true) ⊎ (IsByQuorums config state notice place ⊎ IsWithPacket state notice place)
  pub were_asked : (place : Place) → contains_place out.state.dropped place ≡ true → (contains_place state.dropped place ≡ true) ⊎ (contains_place state.asked place ≡ true)
  pub apart : ((packet : Packet) → notice ≡ Some (Has packet) → are_stamp_places packet.stamp.places ≡ true) → IsApart state → IsApart out.state

forgotten : (notes : List DropNote) (place : Place) (one : DropNote) → In one (forget notes place) → In one notes
unfolding forget
forgotten notes place one i = In-filter (λ other. not (same_place other.place place)) notes one i

all_forgotten : (notes : List DropNote) (places : List Place) (one : DropNote) → In one (forget_all notes places) → In one notes
all_forgotten notes [] one i = i
all_forgotten notes (place ∷ places) one i = forgotten notes place one (all_forgotten (forget notes place) places one i)

noted : (notes : List DropNote) (another one : DropNote) → In one (note notes another) → In one notes ⊎ (one ≡ another)
noted notes another one i = elim (note-cases notes another) [
  | inl same ↦ inl (subst (λ made. In one made) same i)
  | inr more ↦ elim (In-append one notes (another ∷ []) (subst (λ made. In one made) more i)) [ inl old ↦ inl old | inr new ↦ inr (elim new [ inl e ↦ e | inr e ↦ absurd e ]) ]
]

module _ (config : ConfigValue) (notice : Option Notice) (state : EpochCoord) where
  choose : (b : Bool) (x y : EpochCoordOut) → (b ≡ true → IsCoordRight config notice state x) → (b ≡ false → IsCoordRight config notice state y) → IsCoordRight config notice state (if b then x else y)
  choose b x y f g = cond_both b x y (IsCoordRight config notice state) f g

  -- only something is said
  says_only : (sends : List EpochSend) → Each (OfMessage (CoordSays state)) sends → IsCoordRight config notice state (record { state = state; sends = sends })
  says_only sends said = record {
    later = IsCoordLater-refl state;
    says = said;
    new = λ packet i. inl i;
    asks = λ place h. inl h;
    notes = λ one i. inl i;
    drops = λ place h. inl h;
    were_asked = λ place h. inl h;
    apart = λ fits h. h;
  }

  r_still : IsCoordRight config notice state (unmoved state)
  r_still = says_only [] tt

  -- ---- find
  r_found : (replica : ReplicaId) (place : Place) (packet : Packet) → finder_of state.found place ≡ Some packet → IsCoordRight config notice state (tells_found state replica place packet)
  unfolding tells_found finder_of
  r_found replica place packet h = says_only _ ((find-In (λ p. has_place p.stamp place) state.found packet h).0, tt)

  r_dropped : (replica : ReplicaId) (place : Place) → contains_place state.dropped place ≡ true → IsCoordRight config notice state (tells_dropped state replica place)
  unfolding tells_dropped
  r_dropped replica place h = says_only _ (h, tt)

  asked_more : (place other : Place) → contains_place (with_place state.asked place) other ≡ true → (contains_place state.asked other ≡ true) ⊎ (place ≡ other)
  asked_more place other h = elim (or_cases _ _ (sym (contains_place-with_place state.asked place other) ∙ h)) [ inl old ↦ inl old | inr new ↦ inr (same_place-true place other new) ]

  r_asks_all : (replica : ReplicaId) (place : Place) → notice ≡ Some (Find replica place) → finder_of state.found place ≡ None → IsCoordRight config notice state (asks_all config state place)
  unfolding asks_all finder_of
  r_asks_all replica place came none = record {
    later = record { found = λ packet i. i; dropped = HasAll-refl state.dropped };
    says = Each-told (CoordSays (record state { asked = with_place state.asked place })) _ (Instructs (Request place)) (contains_place-with_place state.asked place place ∙ or_right _ _ (same_place-refl place));
    new = λ packet i. inl i;
    asks = λ other h. elim (asked_more place other h) [ inl old ↦ inl old | inr same ↦ inr (replica, came ∙ ap (λ p. Some (Find replica p)) same) ];
    notes = λ one i. inl i;
    drops = λ other h. inl h;
    were_asked = λ other h. inl h;
    apart = λ fits h. record {
      asked = λ other packet k i. elim (asked_more place other k) [ inl old ↦ h.asked other packet old i | inr same ↦ ap (λ p. has_place packet.stamp p) (sym same) ∙ find-none (λ p. has_place p.stamp place) state.found packet none i ];
      dropped = λ other packet k i. h.dropped other packet k i;
    };
  }

  r_asks_new : (replica : ReplicaId) (place : Place) → notice ≡ Some (Find replica place) → finder_of state.found place ≡ None → IsCoordRight config notice state (asks_new config state place)
  unfolding asks_new
  r_asks_new replica place came none = choose _ _ _ (λ h. r_still) (λ h. r_asks_all replica place came none)

  r_lost : (replica : ReplicaId) (place : Place) → notice ≡ Some (Find replica place) → finder_of state.found place ≡ None → IsCoordRight config notice state (finds_lost config state replica place)
  unfolding finds_lost
  r_lost replica place came none = choose _ _ _ (λ h. r_dropped replica place h) (λ h. r_asks_new replica place came none)

  r_by : (replica : ReplicaId) (place : Place) (found : Option Packet) → notice ≡ Some (Find replica place) → finder_of state.found place ≡ found → IsCoordRight config notice state (finds_by config state replica place found)
  r_by replica place (Some packet) came e = r_found replica place packet e
  r_by replica place None came e = r_lost replica place came e

  r_find : (replica : ReplicaId) (place : Place) → notice ≡ Some (Find replica place) → IsCoordRight config notice state (find_row config state replica place)
  unfolding find_row
  r_find replica place came = r_by replica place _ came refl

  -- ---- has
  -- an asked place that stays asked isn't the packet's
  not_had : (packet : Packet) (place : Place) → contains_place (places_not_had state.asked packet) place ≡ true → (contains_place state.asked place ≡ true) × (has_place packet.stamp place ≡ false)
  not_had packet place h =
      let found = In-filtered (λ p. not (has_place packet.stamp p)) state.asked place (contained-In _ place h) in
      (In-contained state.asked place found.0, not-true _ found.1)

  had : (packet : Packet) (place : Place) → contains_place (places_had state.asked packet) place ≡ true → (contains_place state.asked place ≡ true) × (has_place packet.stamp place ≡ true)
  had packet place h =
      let found = In-filtered (λ p. has_place packet.stamp p) state.asked place (contained-In _ place h) in
      (In-contained state.asked place found.0, found.1)

  without_dropped : (packet : Packet) (place : Place) → are_stamp_places packet.stamp.places ≡ true → any_among state.dropped packet.stamp ≡ false → contains_place state.dropped place ≡ true → has_place packet.stamp place ≡ false
  without_dropped packet place fits none h = elim (cases_Bool (has_place packet.stamp place)) [
    | inr without ↦ without
    | inl has ↦ absurd (both_ways _ (any_among-none state.dropped packet.stamp place none (contains_place-places_of packet.stamp place fits ∙ has)) h)
  ]

  r_keeps : (packet : Packet) → notice ≡ Some (Has packet) → any_among state.dropped packet.stamp ≡ false → IsCoordRight config notice state (keeps_found config state packet)
  unfolding keeps_found
  r_keeps packet came none = record {
    later = record { found = λ other i. In-left other state.found (packet ∷ []) i; dropped = HasAll-refl state.dropped };
    says = Each-told (CoordSays (keeps_found config state packet).state) _ (Instructs (Found packet)) (In-right packet state.found (packet ∷ []) (inl refl));
    new = λ other i. elim (In-append other state.found (packet ∷ []) i) [ inl old ↦ inl old | inr new ↦ elim new [ inl e ↦ inr (came ∙ ap (λ p. Some (Has p)) (sym e)) | inr e ↦ absurd e ] ];
    asks = λ place h. inl (not_had packet place h).0;
    notes = λ one i. inl (all_forgotten state.notes (places_of packet.stamp) one i);
    drops = λ place h. inl h;
    were_asked = λ place h. inl h;
    apart = λ fits h. record {
      asked = λ place other k i. by_asked fits h place other k (In-append other state.found (packet ∷ []) i);
      dropped = λ place other k i. by_dropped fits h place other k (In-append other state.found (packet ∷ []) i);
    };
  }
    where
      by_asked : ((packet : Packet) → notice ≡ Some (Has packet) → are_stamp_places packet.stamp.places ≡ true) → IsApart state → (place : Place) (other : Packet)
          → contains_place (places_not_had state.asked packet) place ≡ true → In other state.found ⊎ In other (packet ∷ []) → has_place other.stamp place ≡ false
      by_asked fits h place other k (inl old) = h.asked place other (not_had packet place k).0 old
      by_asked fits h place other k (inr (inl e)) = ap (λ (p : Packet). has_place p.stamp place) e ∙ (not_had packet place k).1
      by_asked fits h place other k (inr (inr e)) = absurd e

      by_dropped : ((packet : Packet) → notice ≡ Some (Has packet) → are_stamp_places packet.stamp.places ≡ true) → IsApart state → (place : Place) (other : Packet)
          → contains_place state.dropped place ≡ true → In other state.found ⊎ In other (packet ∷ []) → has_place other.stamp place ≡ false
      by_dropped fits h place other k (inl old) = h.dropped place other k old
      by_dropped fits h place other k (inr (inl e)) = ap (λ (p : Packet). has_place p.stamp place) e ∙ without_dropped packet place (fits packet came) none k
      by_dropped fits h place other k (inr (inr e)) = absurd e

  dropped_more : (others : List Place) (place : Place) → contains_place (with_places state.dropped others) place ≡ true → (contains_place state.dropped place ≡ true) ⊎ (contains_place others place ≡ true)
  dropped_more others place h = or_cases _ _ (sym (contains_place-with_places state.dropped others place) ∙ h)

  r_drops_rest : (packet : Packet) → notice ≡ Some (Has packet) → any_among state.dropped packet.stamp ≡ true → IsCoordRight config notice state (drops_rest config state packet)
  unfolding drops_rest all_hear_dropped
  r_drops_rest packet came lost = record {
    later = record { found = λ other i. i; dropped = record { at = λ place h. contains_place-with_places state.dropped (places_had state.asked packet) place ∙ or_left _ _ h } };
    says = Each-flat_map (OfMessage (CoordSays (drops_rest config state packet).state)) (λ place. to_all config (Instructs (Dropped place))) (places_had state.asked packet)
        (Each-by_In _ _ (λ place i. Each-told (CoordSays (drops_rest config state packet).state) _ (Instructs (Dropped place))
        (contains_place-with_places state.dropped (places_had state.asked packet) place ∙ or_right _ _ (In-contained (places_had state.asked packet) place i))));
    new = λ other i. inl i;
    asks = λ place h. inl (not_had packet place h).0;
    notes = λ one i. inl (all_forgotten state.notes (places_had state.asked packet) one i);
    drops = λ place h. elim (dropped_more _ place h) [ inl old ↦ inl old | inr new ↦ inr (inr (record { packet = packet; comes = came; has = (had packet place new).1; lost = lost })) ];
    were_asked = λ place h. elim (dropped_more _ place h) [ inl old ↦ inl old | inr new ↦ inr (had packet place new).0 ];
    apart = λ fits h. record {
      asked = λ place other k i. h.asked place other (not_had packet place k).0 i;
      dropped = λ place other k i. elim (dropped_more _ place k) [ inl old ↦ h.dropped place other old i | inr new ↦ h.asked place other (had packet place new).0 i ];
    };
  }

  r_wanted : (packet : Packet) → notice ≡ Some (Has packet) → any_among state.dropped packet.stamp ≡ false → IsCoordRight config notice state (has_wanted config state packet)
  unfolding has_wanted
  r_wanted packet came none = choose _ _ _ (λ h. r_keeps packet came none) (λ h. r_still)

  r_has : (packet : Packet) → notice ≡ Some (Has packet) → IsCoordRight config notice state (has_row config state packet)
  unfolding has_row
  r_has packet came = choose _ _ _ (λ lost. r_drops_rest packet came lost) (λ none. r_wanted packet came none)

  -- ---- temp dropped
  with_note : (one other : DropNote) → notice ≡ Some (told one) → In other (note state.notes one) → In other state.notes ⊎ (notice ≡ Some (told other))
  with_note one other came i = elim (noted state.notes one other i) [ inl old ↦ inl old | inr same ↦ inr (came ∙ ap (λ n. Some (told n)) (sym same)) ]

  dropped_one : (place other : Place) → contains_place (with_place state.dropped place) other ≡ true → (contains_place state.dropped other ≡ true) ⊎ (place ≡ other)
  dropped_one place other h = elim (or_cases _ _ (sym (contains_place-with_place state.dropped place other) ∙ h)) [ inl old ↦ inl old | inr new ↦ inr (same_place-true place other new) ]

  still_asked : (place other : Place) → contains_place (filter (λ p. not (same_place p place)) state.asked) other ≡ true → contains_place state.asked other ≡ true
  still_asked place other h = In-contained state.asked other (In-filter (λ p. not (same_place p place)) state.asked other (contained-In _ other h))

  r_drops_place : (one : DropNote) → notice ≡ Some (told one) → contains_place state.asked one.place ≡ true → decided config (note state.notes one) one.place ≡ true
      → IsCoordRight config notice state (drops_place config (record state { notes = note state.notes one }) one.place)
  unfolding drops_place
  r_drops_place one came asked enough = record {
    later = record { found = λ other i. i; dropped = record { at = λ place h. contains_place-with_place state.dropped one.place place ∙ or_left _ _ h } };
    says = Each-told (CoordSays (drops_place config (record state { notes = note state.notes one }) one.place).state) _ (Instructs (Dropped one.place))
        (contains_place-with_place state.dropped one.place one.place ∙ or_right _ _ (same_place-refl one.place));
    new = λ other i. inl i;
    asks = λ place h. inl (still_asked one.place place h);
    notes = λ other i. with_note one other came (forgotten (note state.notes one) one.place other i);
    drops = λ place h. elim (dropped_one one.place place h) [
      | inl old ↦ inl old
      | inr same ↦ inr (inl (subst (IsByQuorums config state notice) same (record { notes = note state.notes one; known = λ other i. with_note one other came i; is_decided = enough })))
    ];
    were_asked = λ place h. elim (dropped_one one.place place h) [ inl old ↦ inl old | inr same ↦ inr (subst (λ p. contains_place state.asked p ≡ true) same asked) ];
    apart = λ fits h. record {
      asked = λ place other k i. h.asked place other (still_asked one.place place k) i;
      dropped = λ place other k i. elim (dropped_one one.place place k) [ inl old ↦ h.dropped place other old i | inr same ↦ h.asked place other (subst (λ p. contains_place state.asked p ≡ true) same asked) i ];
    };
  }

  r_only_notes : (one : DropNote) → notice ≡ Some (told one) → IsCoordRight config notice state (unmoved (record state { notes = note state.notes one }))
  r_only_notes one came = record {
    later = record { found = λ packet i. i; dropped = HasAll-refl state.dropped };
    says = tt;
    new = λ packet i. inl i;
    asks = λ place h. inl h;
    notes = λ other i. with_note one other came i;
    drops = λ place h. inl h;
    were_asked = λ place h. inl h;
    apart = λ fits h. record { asked = h.asked; dropped = h.dropped };
  }

  r_notes : (one : DropNote) → notice ≡ Some (told one) → contains_place state.asked one.place ≡ true → IsCoordRight config notice state (notes_drop config state one)
  unfolding notes_drop drops_decided
  r_notes one came asked = choose _ _ _ (λ enough. r_drops_place one came asked enough) (λ early. r_only_notes one came)

  r_temp : (one : DropNote) → notice ≡ Some (told one) → IsCoordRight config notice state (temp_dropped_row config state one)
  unfolding temp_dropped_row
  r_temp one came = choose _ _ _ (λ asked. r_notes one came asked) (λ h. r_still)

-- the notice in a message
abbrev pub notice_in : EpochMessage → Option Notice
notice_in (Stamped packet) = None
notice_in (Instructs instruction) = None
notice_in (Notifies notice) = Some notice
notice_in (Exchanges exchange) = None
notice_in (Responds response) = None

right_notice : (config : ConfigValue) (state : EpochCoord) (notice : Notice) → IsCoordRight config (Some notice) state (notice_row config state notice)
right_notice config state (Find replica place) = r_find config _ state replica place refl
right_notice config state (Has packet) = r_has config _ state packet refl
right_notice config state (TempDropped place shard replica view) = r_temp config _ state (record { place = place; shard = shard; replica = replica; view = view }) refl

pub right_coord : (config : ConfigValue) (state : EpochCoord) (message : EpochMessage) → IsCoordRight config (notice_in message) state (epoch_coord_step config state message)
right_coord config state (Stamped packet) = says_only config None state [] tt
right_coord config state (Instructs instruction) = says_only config None state [] tt
right_coord config state (Notifies notice) = right_notice config state notice
right_coord config state (Exchanges exchange) = says_only config None state [] tt
right_coord config state (Responds response) = says_only config None state [] tt

pub right_nudge : (config : ConfigValue) (state : EpochCoord) → IsCoordRight config None state (nudge_row config state)
unfolding nudge_row
right_nudge config state =
    says_only config None state _
    (Each-flat_map (OfMessage (CoordSays state)) (λ place. to_all config (Instructs (Request place))) state.asked
    (Each-by_In _ _ (λ place i. Each-told (CoordSays state) _ (Instructs (Request place)) (In-contained state.asked place i))))
