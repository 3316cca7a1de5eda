-- A kept book finds what is pending for a node, and stays right: after a packet was fetched, where none was, and
-- behind one more post.
use Rattle.std.proofs.Common.{◌≡◌, ◌≢◌, ◌⊎◌, ◌<◌, ◌≤◌, ◌&&◌, ℕ, zero, suc, ◌+◌, ◌*◌, nat_lt, Bool, true, false, cond, List, [], ◌∷◌, ◌++◌, map, length, get_or, set, length-set, lt_of_not-le, inl, inr, ⊎_elim, refl, sym, ap, ◌∙◌, subst, arith, Option, Some, None, slice_get, length-append}
use Rattle.std.specs.Prelude.{option_map}
use Rattle.std.proofs.lemmas.Bool.{ltb-true}
use Rattle.std.proofs.lemmas.List.{map-append}
use Rattle.std.proofs.lemmas.List.Sums.{sum_by-append}
use Rattle.std.proofs.lemmas.Option.{slice_get-get_or, slice_get-map, slice_get_within, same_Some}
use native.Mathlib.Decide.{dec_le}
use mathlib.Core.Logic.{dite}
use Rattle.eris_base.specs.declared.ids.Node.{Node}
use Rattle.eris_base.specs.declared.ids.Node.TheVariants.{Sequencer, Coordinator, Replica, Client}
use Rattle.eris_base.specs.Each.{Each}
use Rattle.eris_base.proofs.Each.{Each-append, Each-weaker}
use Rattle.eris_msg.specs.declared.outgoing.Outgoing.{Outgoing}
use Rattle.eris_msg.specs.Spellings.{spelling}
use Rattle.eris_network.specs.Limits.{byte_limit, packet_limit}
use Rattle.eris_network.specs.declared.sent_counts.SentCounts.{SentCounts}
use Rattle.eris_rules.specs.Refusals.{frame_size, frame_sizes}
use Rattle.eris_journal.specs.Lists.{own}
use Rattle.eris_journal.specs.Packets.{Packet, is_fetched, pending, pending_from, sent}
use Rattle.eris_journal.specs.declared.fetched.Fetched.{Fetched}
use Rattle.eris_journal.proofs.Lists.{own_here, own_else}
use Rattle.eris_journal.proofs.Pending.{nothing_is_pending, least_is_pending}
use Rattle.eris_law_live.specs.LiveBooks.{WasSent, all_sent, live_sends, packet_of}
use Rattle.eris_law_live.specs.LiveNodes.{number_of}
use Rattle.eris_law_live.proofs.Growing.{packets_sent}
use Rattle.eris_live_book.specs.declared.fetch.Fetch.{Fetch}
use Rattle.eris_live_book.specs.declared.place.Place.{Place}
use Rattle.eris_live_book.specs.declared.post.Post.{Post}
use Rattle.eris_live_book.specs.LiveBookValues.{AreFirst, IsKeptBook, bytes_of, entries_of, fetched_of, fetches_of}
use Rattle.eris_live_book.specs.Places.{IsNextPlace, IsPacketAt, IsPlaceIn, IsSpelledAt, sent_by}
use Rattle.eris_live_book.proofs.FetchedLaws.{fetched_last, fetched_more, not_fetched}
use Rattle.eris_live_book.proofs.PlaceLaws.{first_place, past_packet_is_place, place_stays, place_within, sent_by-more}

-- ---- lists
none_there : {A : Type 0} (x : A) → None ≡ Some x → ⊥
none_there x e = absurd (cc)

front_same : {A : Type 0} (xs ys : List A) (k : ℕ) → k < length xs → slice_get (xs ++ ys) k ≡ slice_get xs k
front_same [] ys k low = absurd (omega (arith, low))
front_same (x ∷ xs) ys zero low = refl
front_same (x ∷ xs) ys (suc k) low = front_same xs ys k (omega (arith, low))

set_at : {A : Type 0} (xs : List A) (i : ℕ) (y : A) (j : ℕ) (z : A) → slice_get (set xs i y) j ≡ Some z
    → ((j ≡ i) × (y ≡ z)) ⊎ ((j ≢ i) × (slice_get xs j ≡ Some z))
set_at [] i y j z e = absurd (none_there z e)
set_at (x ∷ xs) zero y zero z e = inl (refl, same_Some y z e)
set_at (x ∷ xs) zero y (suc j) z e = inr ((λ is. absurd (omega (arith, is))), e)
set_at (x ∷ xs) (suc i) y zero z e = inr ((λ is. absurd (omega (arith, is))), e)
set_at (x ∷ xs) (suc i) y (suc j) z e = ⊎_elim
    (λ (t : (j ≡ i) × (y ≡ z)). inl (ap suc t.0, t.1))
    (λ (t : (j ≢ i) × (slice_get xs j ≡ Some z)). inr ((λ is. t.0 (omega (arith, is))), t.1))
    (set_at xs i y j z e)

pub frame_sizes-append : (all more : List Outgoing) → frame_sizes (all ++ more) ≡ frame_sizes all + frame_sizes more
unfolding frame_sizes
frame_sizes-append all more = sum_by-append (λ one. frame_size one.message) all more

-- ---- the posts as a journal's entries
pub all_sent_posts : (posts : List Post) → all_sent (entries_of posts) ≡ sent_by posts
unfolding all_sent
all_sent_posts [] = refl
all_sent_posts (post ∷ posts) = ap (λ (l : List Outgoing). post.sent ++ l) (all_sent_posts posts)

pub packets_posts : (posts : List Post) → sent live_sends (entries_of posts) ≡ map packet_of (sent_by posts)
packets_posts posts = packets_sent (entries_of posts) ∙ ap (map packet_of) (all_sent_posts posts)

packet_at : (all : List Outgoing) (number : ℕ) (one : Outgoing) → slice_get all number ≡ Some one → slice_get (map packet_of all) number ≡ Some (packet_of one)
packet_at all number one there = slice_get-map packet_of all number ∙ ap (option_map packet_of) there

one_of : (all : List Outgoing) (number : ℕ) (packet : Packet) → slice_get (map packet_of all) number ≡ Some packet
    → (one : Outgoing) × (slice_get all number ≡ Some one) × (packet_of one ≡ packet)
one_of [] number packet e = absurd (none_there packet e)
one_of (one ∷ all) zero packet e = (one, refl, same_Some (packet_of one) packet e)
one_of (one ∷ all) (suc number) packet e = one_of all number packet e

-- ---- numbers that packets go to
replica_few : (shard replica : ℕ) (two three : Bool) → nat_lt shard 2 ≡ two → nat_lt replica 3 ≡ three → cond (two && three) (2 + 3 * shard + replica) 10 < 11
replica_few shard replica true true e f = let low = ltb-true shard 2 e in let few = ltb-true replica 3 f in omega (arith, low, few)
replica_few shard replica true false e f = omega arith
replica_few shard replica false three e f = omega arith

client_few : (client : ℕ) (two : Bool) → nat_lt client 2 ≡ two → cond two (8 + client) 10 < 11
client_few client true e = let low = ltb-true client 2 e in omega (arith, low)
client_few client false e = omega arith

pub number_few : (node : Node) → number_of node < 11
unfolding number_of
number_few Sequencer = omega arith
number_few Coordinator = omega arith
number_few (Replica shard replica) = replica_few shard.0 replica.0 (nat_lt shard.0 2) (nat_lt replica.0 3) refl refl
number_few (Client client) = client_few client.0 (nat_lt client.0 2) refl

-- ---- fetched packets, behind more that was sent
fetched_same : (all more : List Outgoing) (fetched : List Fetch) → Each (λ fetch. fetch.number < length all) fetched → fetches_of (all ++ more) fetched ≡ fetches_of all fetched
fetched_same all more [] each = refl
fetched_same all more (fetch ∷ fetched) each =
    let here : fetched_of (all ++ more) fetch ≡ fetched_of all fetch = ap (λ (one : Option Outgoing). let made : ℕ × Fetched = (fetch.node, record { number = fetch.number; message = bytes_of one }) in made) (front_same all more fetch.number each.0) in
    λ i. here i ∷ fetched_same all more fetched each.1 i

pub fetches_stay : (posts : List Post) (post : Post) (counts : SentCounts) (fetched : List Fetch) (places : List Place) → IsKeptBook posts counts fetched places
    → fetches_of (sent_by (posts ++ post ∷ [])) fetched ≡ fetches_of (sent_by posts) fetched
fetches_stay posts post counts fetched places kept =
    ap (λ (all : List Outgoing). fetches_of all fetched) (sent_by-more posts post) ∙ fetched_same (sent_by posts) post.sent fetched kept.were_sent

-- ---- from a node's place on
module _ (posts : List Post) (node : ℕ) (fetched : List Fetched) (from place : Place) (first : AreFirst (sent_by posts) node from.number fetched) (next : IsNextPlace posts node from place) where
  below_place : (number : ℕ) (one : Outgoing) → number < place.number → slice_get (sent_by posts) number ≡ Some one → number_of one.to ≡ node → is_fetched number fetched ≡ true
  below_place number one under there to = dite (dec_le from.number number)
      (λ (above : from.number ≤ number). absurd (next.passed number one above under there to))
      (λ (not : from.number ≤ number → ⊥). first.below number one (lt_of_not-le not) there to)

  above_place : Each (λ packet. packet.number < place.number) fetched
  above_place = Each-weaker (λ (packet : Fetched). packet.number < from.number) (λ (packet : Fetched). packet.number < place.number)
      (λ packet under. let onward = next.onward in omega (arith, under, onward)) fetched first.above

  -- nothing is pending, and the place is the node's
  nothing_pends : length posts ≤ place.post → pending_from node 0 (map packet_of (sent_by posts)) fetched ≡ None
  nothing_pends end = nothing_is_pending node (map packet_of (sent_by posts)) fetched
      (λ number packet there goes.
      let found = one_of (sent_by posts) number packet there in
      let last = next.ends end in
      let low = slice_get_within (sent_by posts) number found.0 found.1 in
      below_place number found.0 (omega (arith, last, low)) found.1 (ap (λ (p : Packet). p.0) found.2 ∙ goes))

  first_here : AreFirst (sent_by posts) node place.number fetched
  first_here = record { below = below_place; above = above_place }

  -- the packet at the place is pending, and the place behind it is the node's once it was fetched
  packet_pends : place.post < length posts → pending_from node 0 (map packet_of (sent_by posts)) fetched ≡ Some place.number
  packet_pends low =
      let found = (next.found low).1 in
      least_is_pending node (map packet_of (sent_by posts)) fetched place.number (
        (spelling found.0.message, packet_at (sent_by posts) place.number found.0 found.1 ∙ (λ i. Some (found.2 i, spelling found.0.message))),
        not_fetched place.number fetched above_place,
        (λ other packet under there goes.
            let one = one_of (sent_by posts) other packet there in
            below_place other one.0 under one.1 (ap (λ (p : Packet). p.0) one.2 ∙ goes)),
      )

  first_past : (packet : Fetched) → packet.number ≡ place.number → AreFirst (sent_by posts) node (place.number + 1) (fetched ++ packet ∷ [])
  first_past packet is = record {
    below = λ number one under there to. dite (dec_le place.number number)
        (λ (above : place.number ≤ number). fetched_last number fetched packet (omega (arith, is, above, under)))
        (λ (not : place.number ≤ number → ⊥). fetched_more number fetched packet (below_place number one (lt_of_not-le not) there to));
    above = Each-append (λ (p : Fetched). p.number < place.number + 1) fetched (packet ∷ [])
        (Each-weaker (λ (p : Fetched). p.number < place.number) (λ (p : Fetched). p.number < place.number + 1) (λ p under. omega (arith, under)) fetched above_place)
        (omega (arith, is), tt);
  }

-- ---- a kept book
module _ (posts : List Post) (counts : SentCounts) (fetched : List Fetch) (places : List Place) (kept : IsKeptBook posts counts fetched places) where
  abbrev all : List Outgoing
  all = sent_by posts

  pub few_sent : length all ≤ packet_limit
  few_sent = let few = kept.few in omega (arith, kept.counted.0, few)

  pub place_at : (node : ℕ) (d : Place) → node < 11 → slice_get places node ≡ Some (get_or places node d)
  place_at node d low = slice_get-get_or places node d (omega (arith, low, kept.sized))

  pending_is : (node : ℕ) → pending live_sends (entries_of posts) (fetches_of all fetched) node ≡ pending_from node 0 (map packet_of all) (own node (fetches_of all fetched))
  pending_is node = ap (λ (packets : List Packet). pending_from node 0 packets (own node (fetches_of all fetched))) (packets_posts posts)

  -- nothing goes to another number
  pub none_outside : (node : ℕ) → 11 ≤ node → pending live_sends (entries_of posts) (fetches_of all fetched) node ≡ None
  none_outside node above = pending_is node ∙ nothing_is_pending node (map packet_of all) (own node (fetches_of all fetched))
      (λ number packet there goes.
      let found = one_of all number packet there in
      let few = number_few found.0.to in
      absurd (let to = ap (λ (p : Packet). p.0) found.2 ∙ goes in omega (arith, few, to, above)))

  module _ (node : ℕ) (from place : Place) (at : slice_get places node ≡ Some from) (next : IsNextPlace posts node from place) where
    pub none_pending : length posts ≤ place.post → pending live_sends (entries_of posts) (fetches_of all fetched) node ≡ None
    none_pending end = pending_is node ∙ nothing_pends posts node (own node (fetches_of all fetched)) from place (kept.placed node from at).1 next end

    pub one_pending : place.post < length posts → pending live_sends (entries_of posts) (fetches_of all fetched) node ≡ Some place.number
    one_pending low = pending_is node ∙ packet_pends posts node (own node (fetches_of all fetched)) from place (kept.placed node from at).1 next low

    -- nothing was pending
    pub kept_passed : IsKeptBook posts counts fetched (set places node place)
    kept_passed = record {
      counted = kept.counted;
      few = kept.few;
      small = kept.small;
      were_sent = kept.were_sent;
      sized = length-set places node place ∙ kept.sized;
      placed = λ other there is. ⊎_elim
          (λ (t : (other ≡ node) × (place ≡ there)). subst (λ (x : ℕ × Place). IsPlaceIn posts x.1 × AreFirst all x.0 x.1.number (own x.0 (fetches_of all fetched))) (λ i. (sym t.0 i, t.1 i))
          (next.is_place, first_here posts node (own node (fetches_of all fetched)) from place (kept.placed node from at).1 next))
          (λ (t : (other ≢ node) × (slice_get places other ≡ Some there)). kept.placed other there t.1)
          (set_at places node place other there is);
    }

    -- the packet at the place was fetched
    module _ (packet : IsPacketAt posts place) where
      abbrev fetch : Fetch
      fetch = record { node = node; number = place.number }

      abbrev past : Place
      past = record { number = place.number + 1; post = place.post; offset = place.offset + 1 }

      pub fetches_more : fetches_of all (fetched ++ fetch ∷ []) ≡ fetches_of all fetched ++ fetched_of all fetch ∷ []
      fetches_more = map-append (fetched_of all) fetched (fetch ∷ [])

      own_more : own node (fetches_of all (fetched ++ fetch ∷ [])) ≡ own node (fetches_of all fetched) ++ (fetched_of all fetch).1 ∷ []
      own_more = ap (own node) fetches_more ∙ own_here node node (fetched_of all fetch).1 (fetches_of all fetched) refl

      others_same : (other : ℕ) → other ≢ node → own other (fetches_of all (fetched ++ fetch ∷ [])) ≡ own other (fetches_of all fetched)
      others_same other apart = ap (own other) fetches_more ∙ own_else other node (fetched_of all fetch).1 (fetches_of all fetched) (λ e. apart (sym e))

      mine : AreFirst all node (place.number + 1) (own node (fetches_of all (fetched ++ fetch ∷ [])))
      mine = subst (AreFirst all node (place.number + 1)) (sym own_more)
          (first_past posts node (own node (fetches_of all fetched)) from place (kept.placed node from at).1 next (fetched_of all fetch).1 refl)

      pub kept_fetched : IsKeptBook posts counts (fetched ++ fetch ∷ []) (set places node past)
      kept_fetched = record {
        counted = kept.counted;
        few = kept.few;
        small = kept.small;
        were_sent = Each-append (λ (f : Fetch). f.number < length all) fetched (fetch ∷ []) kept.were_sent
            ((let found = (next.found packet.0).1 in slice_get_within all place.number found.0 found.1), tt);
        sized = length-set places node past ∙ kept.sized;
        placed = λ other there is. ⊎_elim
            (λ (t : (other ≡ node) × (past ≡ there)). subst (λ (x : ℕ × Place). IsPlaceIn posts x.1 × AreFirst all x.0 x.1.number (own x.0 (fetches_of all (fetched ++ fetch ∷ [])))) (λ i. (sym t.0 i, t.1 i))
            (past_packet_is_place posts place next.is_place packet, mine))
            (λ (t : (other ≢ node) × (slice_get places other ≡ Some there)).
            let was = kept.placed other there t.1 in
            (was.0, subst (AreFirst all other there.number) (sym (others_same other t.0)) was.1))
            (set_at places node past other there is);
      }

      -- its bytes are the packet's
      module _ (bytes : List ℕ) (spelled : IsSpelledAt posts place bytes) where
        one : (found : Outgoing) × (slice_get all place.number ≡ Some found) × (number_of found.to ≡ node)
        one = (next.found packet.0).1

        pub fetched_is : fetched_of all fetch ≡ (node, record { number = place.number; message = bytes })
        fetched_is =
            let same : bytes_of (slice_get all place.number) ≡ bytes = ap bytes_of one.1 ∙ sym (spelled one.0 one.1).spelled in
            λ i. (node, record { number = place.number; message = same i })

        pub bytes_sent : slice_get (sent live_sends (entries_of posts)) place.number ≡ Some (node, bytes)
        bytes_sent =
            ap (λ (packets : List Packet). slice_get packets place.number) (packets_posts posts)
            ∙ packet_at all place.number one.0 one.1
            ∙ (λ i. Some (one.2 i, sym (spelled one.0 one.1).spelled i))

        pub was_sent : WasSent (all_sent (entries_of posts)) (node, record { number = place.number; message = bytes })
        was_sent = record {
          one = one.0;
          found = ap (λ (l : List Outgoing). slice_get l place.number) (all_sent_posts posts) ∙ one.1;
          to = one.2;
          spelled = spelled one.0 one.1;
        }

  -- one more post
  pub kept_posted : (post : Post) (more : SentCounts) → more.packets ≡ counts.packets + length post.sent → more.bytes ≡ counts.bytes + frame_sizes post.sent
      → more.packets ≤ packet_limit → more.bytes ≤ byte_limit → IsKeptBook (posts ++ post ∷ []) more fetched places
  kept_posted post more packets bytes few small = record {
    counted = (
      omega (arith, packets, kept.counted.0, ap (λ (l : List Outgoing). length l) (sent_by-more posts post), length-append all post.sent),
      omega (arith, bytes, kept.counted.1, ap frame_sizes (sent_by-more posts post), frame_sizes-append all post.sent),
    );
    few = few;
    small = small;
    were_sent = Each-weaker (λ (f : Fetch). f.number < length all) (λ (f : Fetch). f.number < length (sent_by (posts ++ post ∷ [])))
        (λ f under. omega (arith, under, ap (λ (l : List Outgoing). length l) (sent_by-more posts post), length-append all post.sent)) fetched kept.were_sent;
    sized = kept.sized;
    placed = λ node place is.
        let was = kept.placed node place is in (
          place_stays posts place was.0 post,
          subst (λ (x : List Outgoing × List (ℕ × Fetched)). AreFirst x.0 node place.number (own node x.1)) (λ i. (sym (sent_by-more posts post) i, sym (fetches_stay posts post counts fetched places kept) i)) (record {
            below = λ number one under there to.
                let within = place_within posts place was.0 in
                was.1.below number one under (sym (front_same all post.sent number (omega (arith, under, within))) ∙ there) to;
            above = was.1.above;
          }),
        );
  }

-- ---- the empty book
abbrev start : Place
start = record { number = 0; post = 0; offset = 0 }

abbrev first_places : List Place
first_places = start ∷ start ∷ start ∷ start ∷ start ∷ start ∷ start ∷ start ∷ start ∷ start ∷ start ∷ []

all_start : (places : List Place) → Each (λ place. place ≡ start) places → (node : ℕ) (place : Place) → slice_get places node ≡ Some place → place ≡ start
all_start [] each node place e = absurd (none_there place e)
all_start (first ∷ places) each zero place e = sym (same_Some first place e) ∙ each.0
all_start (first ∷ places) each (suc node) place e = all_start places each.1 node place e

starts : (node : ℕ) (place : Place) → slice_get first_places node ≡ Some place → place ≡ start
starts = all_start first_places (refl, (refl, (refl, (refl, (refl, (refl, (refl, (refl, (refl, (refl, (refl, tt)))))))))))

nothing_sized : 0 ≡ frame_sizes []
unfolding frame_sizes
nothing_sized = refl

empty_kept : IsKeptBook [] (record { packets = 0; bytes = 0 }) [] first_places
empty_kept = record {
  counted = (refl, nothing_sized);
  few = omega arith;
  small = omega arith;
  were_sent = tt;
  sized = refl;
  placed = λ node place is.
      subst (λ (p : Place). IsPlaceIn [] p × AreFirst [] node p.number []) (sym (starts node place is))
      (first_place, record { below = λ number one low there to. absurd (omega (arith, low)); above = tt });
}

pub new_kept : (posts : List Post) (fetched : List Fetch) → posts ≡ [] → fetched ≡ [] → IsKeptBook posts (record { packets = 0; bytes = 0 }) fetched first_places
new_kept posts fetched none nothing =
    subst (λ (x : List Post × List Fetch). IsKeptBook x.0 (record { packets = 0; bytes = 0 }) x.1 first_places) (λ i. (sym none i, sym nothing i)) empty_kept
