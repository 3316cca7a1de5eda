-- The walk from place to place that looks for a node's next packet.
use Rattle.std.proofs.Common.{◌≡◌, ◌≢◌, ◌<◌, ◌≤◌, ℕ, ◌+◌, ◌-◌, List, length, get_or, refl, sym, ap, subst, ◌∙◌, arith, inl, inr, Option, Some, None, slice_get}
use Rattle.std.specs.Prelude.{option_map}
use Rattle.std.proofs.lemmas.Option.{same_Some, slice_get_cases}
use mathlib.Core.Logic.{dite}
use native.Mathlib.Decide.{ℕ_discrete}
use Rattle.eris_base.specs.declared.ids.Node.{Node}
use Rattle.eris_msg.specs.declared.outgoing.Outgoing.{Outgoing}
use Rattle.eris_msg.specs.Spellings.{IsSpelling}
use Rattle.eris_network.specs.Networks.{IsSpelledBy}
use Rattle.eris_network.specs.Limits.{packet_limit}
use Rattle.eris_law_live.specs.LiveNodes.{number_of}
use Rattle.eris_live_book.specs.declared.place.Place.{Place}
use Rattle.eris_live_book.specs.declared.post.Post.{Post}
use Rattle.eris_live_book.specs.Places.{IsNextPlace, IsPacketAt, IsPlaceIn, IsSpelledAt, NoneBetween, sent_by}
use Rattle.eris_live_book.proofs.PlaceLaws.{front_within, is_packet, offset_low, packet_there, past_post_is_place, place_ends}

-- whom the packet goes to
addressed : (found : Option Outgoing) (to : Node) → Some to ≡ option_map (λ one. one.to) found → (one : Outgoing) × (found ≡ Some one) × (one.to ≡ to)
addressed None to is = absurd (cc)
addressed (Some one) to is = (one, refl, sym (same_Some to one.to is))

nobody : (found : Option Outgoing) → None ≡ option_map (λ one. one.to) found → found ≡ None
nobody None is = refl
nobody (Some one) is = absurd (cc)

none_past : (sent : List Outgoing) (offset : ℕ) → slice_get sent offset ≡ None → length sent ≤ offset
none_past sent offset none = elim (slice_get_cases sent offset).1 [
  | inl there ↦ absurd (let e = sym none ∙ there.2 in cc)
  | inr past ↦ past.0
]

-- where the walk begins
pub begins : (posts : List Post) (node : ℕ) (from : Place) → NoneBetween (sent_by posts) node from.number from.number
begins posts node from = λ number one low high there to. absurd (omega (arith, low, high))

module _ (posts : List Post) (node : ℕ) (from place : Place) (is_place : IsPlaceIn posts place) (onward : from.number ≤ place.number)
    (passed : NoneBetween (sent_by posts) node from.number place.number) where
  -- at the end
  pub next_end : length posts ≤ place.post → IsNextPlace posts node from place
  next_end end = record {
    is_place = is_place;
    onward = onward;
    passed = passed;
    found = λ low. absurd (omega (arith, end, low));
    ends = λ last. place_ends posts place is_place last;
  }

  module _ (d : Post) (low : place.post < length posts) (is : d ≡ get_or posts place.post d) where
    -- at a packet
    module _ (to : Node) (there : ◌≡◌ {A = Option Node} (Some to) (option_map (λ one. one.to) (slice_get (get_or posts place.post d).sent place.offset))) where
      one : (one : Outgoing) × (slice_get d.sent place.offset ≡ Some one) × (one.to ≡ to)
      one = addressed (slice_get d.sent place.offset) to
          (subst (λ (post : Post). ◌≡◌ {A = Option Node} (Some to) (option_map (λ (one : Outgoing). one.to) (slice_get post.sent place.offset))) (sym is) there)

      pub packet_here : IsPacketAt posts place
      packet_here = is_packet posts place is_place d low is one.0 one.1

      pub next_found : number_of to ≡ node → IsNextPlace posts node from place
      next_found goes = record {
        is_place = is_place;
        onward = onward;
        passed = passed;
        found = λ under. (packet_here, (one.0, packet_there posts place is_place d low is one.0 one.1, ap number_of one.2 ∙ goes));
        ends = λ last. absurd (omega (arith, low, last));
      }

      pub passed_packet : number_of to ≢ node → NoneBetween (sent_by posts) node from.number (place.number + 1)
      passed_packet apart = λ number other above below at goes. dite (ℕ_discrete number place.number)
          (λ (here : number ≡ place.number).
          let same : one.0 ≡ other = same_Some one.0 other (sym (packet_there posts place is_place d low is one.0 one.1) ∙ ap (slice_get (sent_by posts)) (sym here) ∙ at) in
          apart (ap number_of (sym one.2) ∙ ap (λ (o : Outgoing). number_of o.to) same ∙ goes))
          (λ (before : number ≢ place.number). passed number other above (omega (arith, below, before)) at goes)

    -- behind a post's last packet
    pub past_post : ◌≡◌ {A = Option Node} None (option_map (λ one. one.to) (slice_get (get_or posts place.post d).sent place.offset)) → IsPlaceIn posts (record { number = place.number; post = place.post + 1; offset = 0 })
    past_post none = past_post_is_place posts place is_place d low is (none_past d.sent place.offset (nobody (slice_get d.sent place.offset)
        (subst (λ (post : Post). ◌≡◌ {A = Option Node} None (option_map (λ (one : Outgoing). one.to) (slice_get post.sent place.offset))) (sym is) none)))

  -- numbers of packets are few
  pub packet_few : length (sent_by posts) ≤ packet_limit → IsPacketAt posts place → (place.number < packet_limit) × (place.offset < packet_limit)
  packet_few few packet =
      let within = front_within posts (place.post + 1) in
      (omega (arith, few, within, packet.1), omega (arith, few, within, packet.1, is_place.reached))

-- ---- the bytes at a place
unspelled : (sent : List Outgoing) (offset : ℕ) (found : Option Outgoing) → slice_get sent offset ≡ found → offset < length sent → IsSpelledBy found None → ⊥
unspelled sent offset None is low h = let past = none_past sent offset is in absurd (omega (arith, low, past))
unspelled sent offset (Some other) is low h = h

module _ (posts : List Post) (place : Place) (is_place : IsPlaceIn posts place) (packet : IsPacketAt posts place) (d : Post) (is : d ≡ get_or posts place.post d) where
  pub has_bytes : IsSpelledBy (slice_get (get_or posts place.post d).sent place.offset) None → ⊥
  has_bytes h = unspelled d.sent place.offset (slice_get d.sent place.offset) refl (offset_low posts place is_place d packet.0 is packet)
      (subst (λ (post : Post). IsSpelledBy (slice_get post.sent place.offset) None) (sym is) h)

  spelled_as : (bytes : List ℕ) (found : Option Outgoing) → slice_get d.sent place.offset ≡ found → IsSpelledBy found (Some bytes) → IsSpelledAt posts place bytes
  spelled_as bytes None there h = absurd h
  spelled_as bytes (Some found) there h = λ other at.
      let same : found ≡ other = same_Some found other (sym (packet_there posts place is_place d packet.0 is found there) ∙ at) in
      subst (λ (o : Outgoing). IsSpelling o.message bytes) same h

  pub spelled_here : (bytes copy : List ℕ) → IsSpelledBy (slice_get (get_or posts place.post d).sent place.offset) (Some bytes) → copy ≡ bytes → IsSpelledAt posts place copy
  spelled_here bytes copy h same = subst (IsSpelledAt posts place) (sym same) (spelled_as bytes (slice_get d.sent place.offset) refl
      (subst (λ (post : Post). IsSpelledBy (slice_get post.sent place.offset) (Some bytes)) (sym is) h))

-- ---- the walk ends
pub packet_smaller : (sent posts number post offset : ℕ) (past : Place) → past ≡ record { number = number + 1; post = post; offset = offset } → number < sent → post ≤ posts
    → (sent + posts) - (past.number + past.post) < (sent + posts) - (number + post)
packet_smaller sent posts number post offset past is low within =
    let more : past.number ≡ number + 1 = ap (λ (p : Place). p.number) is in
    let same : past.post ≡ post = ap (λ (p : Place). p.post) is in
    omega (arith, more, same, low, within)

pub post_smaller : (sent posts number post : ℕ) → number ≤ sent → post < posts → (sent + posts) - (number + (post + 1)) < (sent + posts) - (number + post)
post_smaller sent posts number post within low = omega (arith, within, low)
