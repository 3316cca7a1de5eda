-- Places in a book's posts: what stands at one, and what follows it.
use Rattle.std.proofs.Common.{◌≡◌, ◌<◌, ◌≤◌, ℕ, zero, suc, ◌+◌, List, [], ◌∷◌, ◌++◌, length, take, drop, get_or, add-one, sym, ap, ◌∙◌, subst, arith, Some, slice_get, length-append, append-nil}
use Rattle.std.proofs.lemmas.Grind.{flat_map-append}
use Rattle.std.proofs.lemmas.List.{take_more, take-append-le, take-append-drop}
use Rattle.std.proofs.lemmas.List.Concat.{get_or-flat_map}
use Rattle.std.proofs.lemmas.Option.{slice_get_within, slice_get-get_or, get_or_from_slice_get}
use Rattle.std.proofs.Math.Seq.{take-length}
use Rattle.eris_msg.specs.declared.outgoing.Outgoing.{Outgoing}
use Rattle.eris_live_book.specs.declared.place.Place.{Place}
use Rattle.eris_live_book.specs.declared.post.Post.{Post}
use Rattle.eris_live_book.specs.Places.{IsPlaceIn, IsPacketAt, sent_by}

-- how many packets the first posts sent
abbrev pub front : List Post → ℕ → ℕ
front posts count = length (sent_by (take count posts))

pub sent_by-append : (posts more : List Post) → sent_by (posts ++ more) ≡ sent_by posts ++ sent_by more
sent_by-append posts more = flat_map-append (λ (post : Post). post.sent) posts more

pub sent_by-one : (post : Post) → sent_by (post ∷ []) ≡ post.sent
sent_by-one post = append-nil post.sent

pub sent_by-more : (posts : List Post) (post : Post) → sent_by (posts ++ post ∷ []) ≡ sent_by posts ++ post.sent
sent_by-more posts post = sent_by-append posts (post ∷ []) ∙ ap (λ (sent : List Outgoing). sent_by posts ++ sent) (sent_by-one post)

pub front_more : (posts : List Post) (count : ℕ) (d : Post) → count < length posts → d ≡ get_or posts count d → front posts (count + 1) ≡ front posts count + length d.sent
front_more posts count d low is =
    ap (λ (ps : List Post). length (sent_by ps)) (take_more posts count d low ∙ ap (λ (p : Post). take count posts ++ p ∷ []) (sym is))
    ∙ ap (λ (sent : List Outgoing). length sent) (sent_by-more (take count posts) d)
    ∙ length-append (sent_by (take count posts)) d.sent

pub front_within : (posts : List Post) (count : ℕ) → front posts count ≤ length (sent_by posts)
front_within posts count =
    let whole = ap (λ (ps : List Post). length (sent_by ps)) (take-append-drop count posts) in
    let parts = ap (λ (sent : List Outgoing). length sent) (sent_by-append (take count posts) (drop count posts)) in
    let sum = length-append (sent_by (take count posts)) (sent_by (drop count posts)) in
    omega (arith, whole, parts, sum)

rises : (posts : List Post) (count : ℕ) → front posts count ≤ front posts (suc count)
rises [] zero = omega arith
rises [] (suc count) = omega arith
rises (post ∷ posts) zero = omega arith
rises (post ∷ posts) (suc count) =
    let before = length-append post.sent (sent_by (take count posts)) in
    let after = length-append post.sent (sent_by (take (suc count) posts)) in
    let more = rises posts count in
    omega (arith, before, after, more)

pub front_rises : (posts : List Post) (count : ℕ) → front posts count ≤ front posts (count + 1)
front_rises posts count = subst (λ (n : ℕ). front posts count ≤ front posts n) (sym (add-one count)) (rises posts count)

-- behind more posts no front is shorter
pub front_longer : (posts more : List Post) (count : ℕ) → front posts count ≤ front (posts ++ more) count
front_longer [] more zero = omega arith
front_longer [] more (suc count) = omega arith
front_longer (post ∷ posts) more zero = omega arith
front_longer (post ∷ posts) more (suc count) =
    let before = length-append post.sent (sent_by (take count posts)) in
    let after = length-append post.sent (sent_by (take count (posts ++ more))) in
    let longer = front_longer posts more count in
    omega (arith, before, after, longer)

module _ (posts : List Post) (place : Place) (is_place : IsPlaceIn posts place) where
  pub place_within : place.number ≤ length (sent_by posts)
  place_within = let within = front_within posts (place.post + 1) in omega (arith, within, is_place.inside)

  -- at the end of the posts
  pub place_ends : length posts ≤ place.post → place.number ≡ length (sent_by posts)
  place_ends end =
      let last : place.post ≡ length posts = omega (arith, end, is_place.within) in
      let all : front posts place.post ≡ length (sent_by posts) = ap (front posts) last ∙ ap (λ (ps : List Post). length (sent_by ps)) (take-length posts) in
      let within = place_within in
      omega (arith, all, within, is_place.reached)

  module _ (d : Post) (low : place.post < length posts) (is : d ≡ get_or posts place.post d) where
    -- the packet that stands there
    pub packet_there : (one : Outgoing) → slice_get d.sent place.offset ≡ Some one → slice_get (sent_by posts) place.number ≡ Some one
    packet_there one there =
        let offset = slice_get_within d.sent place.offset one there in
        let more = front_more posts place.post d low is in
        let within = front_within posts (place.post + 1) in
        let under : front posts place.post + place.offset < length (sent_by posts) = omega (arith, offset, more, within) in
        let same : (get_or posts place.post d).sent ≡ d.sent = ap (λ (p : Post). p.sent) (sym is) in
        let inner : place.offset < length (get_or posts place.post d).sent = subst (λ (l : List Outgoing). place.offset < length l) (sym same) offset in
        ap (slice_get (sent_by posts)) is_place.reached
        ∙ slice_get-get_or (sent_by posts) (front posts place.post + place.offset) one under
        ∙ ap Some (get_or-flat_map (λ (post : Post). post.sent) posts place.post place.offset d one low inner ∙ ap (λ (l : List Outgoing). get_or l place.offset one) same ∙ get_or_from_slice_get d.sent place.offset one one there)

    pub is_packet : (one : Outgoing) → slice_get d.sent place.offset ≡ Some one → IsPacketAt posts place
    is_packet one there =
        let offset = slice_get_within d.sent place.offset one there in
        let more = front_more posts place.post d low is in
        let under : place.number < front posts (place.post + 1) = omega (arith, offset, more, is_place.reached) in
        (low, under)

    -- a packet's place has a packet of its post
    pub offset_low : IsPacketAt posts place → place.offset < length d.sent
    offset_low packet = let more = front_more posts place.post d low is in omega (arith, packet.1, more, is_place.reached)

    pub past_post_is_place : length d.sent ≤ place.offset → IsPlaceIn posts (record { number = place.number; post = place.post + 1; offset = 0 })
    past_post_is_place last =
        let more = front_more posts place.post d low is in
        let rise = front_rises posts (place.post + 1) in
        record {
          within = omega (arith, low);
          reached = omega (arith, is_place.reached, is_place.inside, more, last);
          inside = omega (arith, is_place.inside, rise);
        }

  pub past_packet_is_place : IsPacketAt posts place → IsPlaceIn posts (record { number = place.number + 1; post = place.post; offset = place.offset + 1 })
  past_packet_is_place packet =
      record {
        within = is_place.within;
        reached = omega (arith, is_place.reached);
        inside = omega (arith, packet.1);
      }

  -- one more post
  pub place_stays : (post : Post) → IsPlaceIn (posts ++ post ∷ []) place
  place_stays post =
      let longer = front_longer posts (post ∷ []) (place.post + 1) in
      let many = length-append posts (post ∷ []) in
      let same : front (posts ++ post ∷ []) place.post ≡ front posts place.post = ap (λ (ps : List Post). length (sent_by ps)) (take-append-le place.post posts (post ∷ []) is_place.within) in
      record {
        within = omega (arith, is_place.within, many);
        reached = omega (arith, is_place.reached, same);
        inside = omega (arith, is_place.inside, longer);
      }

pub first_place : IsPlaceIn [] (record { number = 0; post = 0; offset = 0 })
first_place = record { within = omega arith; reached = omega arith; inside = omega arith }
