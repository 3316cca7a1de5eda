-- Parts and lists of places read what they spell, and nothing else.
use Rattle.std.proofs.Common.{◌≡◌, ℕ, true, ◌&&◌, ◌==◌, List, [], ◌∷◌, refl, ap, sym, ◌∙◌}
use Rattle.std.proofs.lemmas.Bool.{eqb-true, eq-eqb, and_from}
use Rattle.eris_base.specs.declared.ids.Epoch.{Epoch}
use Rattle.eris_base.specs.declared.ids.Place.{Place}
use Rattle.eris_base.specs.declared.ids.ShardId.{ShardId}
use Rattle.eris_base.proofs.Booleans.{left_of, right_of}
use Rattle.eris_txn.specs.declared.packet.Packet.{Packet}
use Rattle.eris_log.specs.PartValues.{PartValue}
use Rattle.eris_log.specs.Places.{are_of_epoch, pair_of, place_at}
use Rattle.eris_codec.specs.Codecs.{◌⊗◌}
use Rattle.eris_codec.specs.Fields as f
use Rattle.eris_codec.specs.Parts as p
use Rattle.eris_codec.proofs.BodyLaws.{is_packet}
use Rattle.eris_codec.proofs.FieldLaws.{is_word, is_number, is_shard, is_epoch}
use Rattle.eris_codec.proofs.Laws.{IsCodec, is_checked, is_pair, is_given, is_listed}

pub is_listed_place : (before : List (ShardId × ℕ)) → IsCodec (p.listed_place before)
unfolding p.listed_place
is_listed_place before = is_checked _ _ _ (is_pair _ _ is_shard is_number)

listed_place_spell : (before : List (ShardId × ℕ)) (q : ShardId × ℕ) → (p.listed_place before).spell q ≡ (f.shard ⊗ f.number).spell q
unfolding p.listed_place
listed_place_spell before q = refl

pub is_places : IsCodec p.places
unfolding p.places
is_places = is_listed p.listed_place _ listed_place_spell is_listed_place f.word is_word

pub is_held_packet : (before : List (ℕ × Packet)) → IsCodec (p.held_packet before)
unfolding p.held_packet
is_held_packet before = is_pair _ _ (is_checked _ _ f.number is_number) is_packet

held_packet_spell : (before : List (ℕ × Packet)) (h : ℕ × Packet) → (p.held_packet before).spell h ≡ (f.number ⊗ f.packet).spell h
unfolding p.held_packet
held_packet_spell before h = refl

pub is_held : IsCodec p.held
unfolding p.held
is_held = is_listed p.held_packet _ held_packet_spell is_held_packet f.word is_word

-- ---- places of an epoch
pub pairs_back : (e : Epoch) (pairs : List (ShardId × ℕ)) → p.pairs_of (p.places_at e pairs) ≡ pairs
unfolding p.pairs_of p.places_at
pairs_back e [] = refl
pairs_back e (q ∷ pairs) = ap (λ (z : List (ShardId × ℕ)). q ∷ z) (pairs_back e pairs)

pub at_epoch : (e : Epoch) (pairs : List (ShardId × ℕ)) → are_of_epoch e (p.places_at e pairs) ≡ true
unfolding p.places_at
at_epoch e [] = refl
at_epoch e (q ∷ pairs) = and_from (e.0 == e.0) (are_of_epoch e (p.places_at e pairs)) (eq-eqb e.0 e.0 refl) (at_epoch e pairs)

epoch_is : (e other : Epoch) → other.0 ≡ e.0 → e ≡ other
epoch_is e other h = ap (λ (n : ℕ). let made : Epoch = record { 0 = n } in made) (sym h)

pub places_back : (e : Epoch) (list : List Place) → are_of_epoch e list ≡ true → p.places_at e (p.pairs_of list) ≡ list
unfolding p.pairs_of p.places_at
places_back e [] h = refl
places_back e (place ∷ list) h =
    let one = left_of (place.epoch.0 == e.0) (are_of_epoch e list) h in
    let more = right_of (place.epoch.0 == e.0) (are_of_epoch e list) h in
    let here : place_at e (pair_of place) ≡ place = ap (λ (z : Epoch). place_at z (pair_of place)) (epoch_is e place.epoch (eqb-true place.epoch.0 e.0 one)) in
    ap (λ (z : Place). z ∷ p.places_at e (p.pairs_of list)) here ∙ ap (λ (z : List Place). place ∷ z) (places_back e list more)

part_there : (x : PartValue) → p.part_of_epoch x ≡ true
    → record x { temp = p.places_at x.epoch (p.pairs_of x.temp); fnd = p.places_at x.epoch (p.pairs_of x.fnd); perm = p.places_at x.epoch (p.pairs_of x.perm) } ≡ x
unfolding p.part_of_epoch
part_there x h =
    let more = left_of (are_of_epoch x.epoch x.temp && are_of_epoch x.epoch x.fnd) (are_of_epoch x.epoch x.perm) h in
    let temp = left_of (are_of_epoch x.epoch x.temp) (are_of_epoch x.epoch x.fnd) more in
    let fnd = right_of (are_of_epoch x.epoch x.temp) (are_of_epoch x.epoch x.fnd) more in
    let perm = right_of (are_of_epoch x.epoch x.temp && are_of_epoch x.epoch x.fnd) (are_of_epoch x.epoch x.perm) h in
    rw (places_back x.epoch x.temp temp, places_back x.epoch x.fnd fnd, places_back x.epoch x.perm perm) refl

pub is_part : IsCodec p.part
unfolding p.part p.part_of_epoch
is_part = is_given p.part_of_epoch _ _ _ part_there
    (λ q. rw (pairs_back q.1.0 q.1.1.1.0, pairs_back q.1.0 q.1.1.1.1.0, pairs_back q.1.0 q.1.1.1.1.1) refl)
    (λ q. rw (at_epoch q.1.0 q.1.1.1.0, at_epoch q.1.0 q.1.1.1.1.0, at_epoch q.1.0 q.1.1.1.1.1) refl)
    (is_pair _ _ is_shard (is_pair _ _ is_epoch (is_pair _ _ is_held (is_pair _ _ is_places (is_pair _ _ is_places is_places)))))
