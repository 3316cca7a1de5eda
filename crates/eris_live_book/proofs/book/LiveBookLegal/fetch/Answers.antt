use Rattle.std.proofs.Common.{rules, arith, ◌≡◌, ◌≤◌, ◌<◌, ◌+◌, ◌++◌, ◌∷◌, [], None, Some, List, length, set, sym, subst, slice_get, slice_index_or}
use Rattle.eris_journal.specs.Packets.{pending, sent}
use Rattle.eris_law_live.specs.LiveBooks.{live_sends}
use Rattle.eris_live_book.specs.declared.fetch.Fetch.{Fetch}
use Rattle.eris_live_book.specs.declared.place.Place.{Place}
use Rattle.eris_live_book.specs.declared.post.Post.{Post}
use Rattle.eris_live_book.specs.LiveBookValues.{IsKeptBook}
use Rattle.eris_live_book.specs.Places.{IsNextPlace, IsPlaceIn, IsSpelledAt}
use Rattle.eris_live_book.proofs.KeptLaws.{bytes_sent, few_sent, kept_fetched, kept_passed, none_outside, none_pending, one_pending, place_at}
use Rattle.eris_live_book.proofs.LegalLaws.{fetched_legal, fetched_value}
use Rattle.eris_live_book.proofs.PlaceLaws.{front_within}
use Rattle.eris_live_book.proofs.book.LiveBookLegal.fetch.Goals as goal

pub returns-then-node-ge-ADDRESSEES-clause-pending : goal.returns-then-node-ge-ADDRESSEES-clause-pending
returns-then-node-ge-ADDRESSEES-clause-pending c =
    let i = c.self.inside in
    let above : 11 ≤ c.args.node = search rules in
    subst (λ v. pending live_sends v.entries v.fetches c.args.node ≡ None) c.self.view_is (none_outside i.posts i.counts i.fetched i.places c.self.invariant c.args.node above)

pub next-place-requires-clause-from : goal.next-place-requires-clause-from
next-place-requires-clause-from c =
    let i = c.self.inside in
    let low : c.args.node < 11 = search rules in
    let from : Place = slice_index_or i.places c.args.node (record { number = 0; post = 0; offset = 0 }) in
    subst (λ (posts : List Post). IsPlaceIn posts from) (sym c.as_slice.ensures)
    (c.self.invariant.placed c.args.node from (place_at i.posts i.counts i.fetched i.places c.self.invariant c.args.node (record { number = 0; post = 0; offset = 0 }) low)).0

pub invariant_of-self : goal.invariant_of-self
invariant_of-self c =
    let i = c.self.inside in
    let low : c.args.node < 11 = search rules in
    let from : Place = slice_index_or i.places c.args.node (record { number = 0; post = 0; offset = 0 }) in
    let at = place_at i.posts i.counts i.fetched i.places c.self.invariant c.args.node (record { number = 0; post = 0; offset = 0 }) low in
    let next : IsNextPlace i.posts c.args.node from c.next-place.result = subst (λ (posts : List Post). IsNextPlace posts c.args.node from c.next-place.result) c.as_slice.ensures c.next-place.ensures in
    kept_passed i.posts i.counts i.fetched i.places c.self.invariant c.args.node from c.next-place.result at next

pub returns-then-place-end-clause-pending : goal.returns-then-place-end-clause-pending
returns-then-place-end-clause-pending c =
    let i = c.self.inside in
    let low : c.args.node < 11 = search rules in
    let from : Place = slice_index_or i.places c.args.node (record { number = 0; post = 0; offset = 0 }) in
    let at = place_at i.posts i.counts i.fetched i.places c.self.invariant c.args.node (record { number = 0; post = 0; offset = 0 }) low in
    let next : IsNextPlace i.posts c.args.node from c.next-place.result = subst (λ (posts : List Post). IsNextPlace posts c.args.node from c.next-place.result) c.as_slice.ensures c.next-place.ensures in
    let end : length i.posts ≤ c.next-place.result.post = search rules in
    subst (λ v. pending live_sends v.entries v.fetches c.args.node ≡ None) c.self.view_is (none_pending i.posts i.counts i.fetched i.places c.self.invariant c.args.node from c.next-place.result at next end)

pub past_packet-requires-clause-number : goal.past_packet-requires-clause-number
past_packet-requires-clause-number c =
    let i = c.self.inside in
    let low : c.args.node < 11 = search rules in
    let from : Place = slice_index_or i.places c.args.node (record { number = 0; post = 0; offset = 0 }) in
    let at = place_at i.posts i.counts i.fetched i.places c.self.invariant c.args.node (record { number = 0; post = 0; offset = 0 }) low in
    let next : IsNextPlace i.posts c.args.node from c.next-place.result = subst (λ (posts : List Post). IsNextPlace posts c.args.node from c.next-place.result) c.as_slice.ensures c.next-place.ensures in
    let there : c.next-place.result.post < length i.posts = search rules in
    let packet = (next.found there).0 in
    let few = few_sent i.posts i.counts i.fetched i.places c.self.invariant in
    let within = front_within i.posts (c.next-place.result.post + 1) in
    omega (arith, few, within, packet.1)

pub past_packet-requires-clause-offset : goal.past_packet-requires-clause-offset
past_packet-requires-clause-offset c =
    let i = c.self.inside in
    let low : c.args.node < 11 = search rules in
    let from : Place = slice_index_or i.places c.args.node (record { number = 0; post = 0; offset = 0 }) in
    let at = place_at i.posts i.counts i.fetched i.places c.self.invariant c.args.node (record { number = 0; post = 0; offset = 0 }) low in
    let next : IsNextPlace i.posts c.args.node from c.next-place.result = subst (λ (posts : List Post). IsNextPlace posts c.args.node from c.next-place.result) c.as_slice.ensures c.next-place.ensures in
    let there : c.next-place.result.post < length i.posts = search rules in
    let packet = (next.found there).0 in
    let few = few_sent i.posts i.counts i.fetched i.places c.self.invariant in
    let within = front_within i.posts (c.next-place.result.post + 1) in
    omega (arith, few, within, packet.1, next.is_place.reached)

pub invariant_of-self-2 : goal.invariant_of-self-2
invariant_of-self-2 c =
    let i = c.self.inside in
    let low : c.args.node < 11 = search rules in
    let from : Place = slice_index_or i.places c.args.node (record { number = 0; post = 0; offset = 0 }) in
    let at = place_at i.posts i.counts i.fetched i.places c.self.invariant c.args.node (record { number = 0; post = 0; offset = 0 }) low in
    let next : IsNextPlace i.posts c.args.node from c.next-place.result = subst (λ (posts : List Post). IsNextPlace posts c.args.node from c.next-place.result) c.as_slice.ensures c.next-place.ensures in
    let there : c.next-place.result.post < length i.posts = search rules in
    let packet = (next.found there).0 in
    let is : c.push.new.self ≡ i.fetched ++ record { node = c.args.node; number = c.next-place.result.number } ∷ [] = search rules in
    subst (λ (x : List Fetch × Place). IsKeptBook i.posts i.counts x.0 (set i.places c.args.node x.1)) (λ k. (sym is k, sym c.past_packet.ensures k))
    (kept_fetched i.posts i.counts i.fetched i.places c.self.invariant c.args.node from c.next-place.result at next packet)

pub returns-clause-legal : goal.returns-clause-legal
returns-clause-legal c =
    let i = c.self.inside in
    let low : c.args.node < 11 = search rules in
    let from : Place = slice_index_or i.places c.args.node (record { number = 0; post = 0; offset = 0 }) in
    let at = place_at i.posts i.counts i.fetched i.places c.self.invariant c.args.node (record { number = 0; post = 0; offset = 0 }) low in
    let next : IsNextPlace i.posts c.args.node from c.next-place.result = subst (λ (posts : List Post). IsNextPlace posts c.args.node from c.next-place.result) c.as_slice.ensures c.next-place.ensures in
    let there : c.next-place.result.post < length i.posts = search rules in
    let packet = (next.found there).0 in
    let spelled : IsSpelledAt i.posts c.next-place.result c.in_ok-message.message = subst (λ (posts : List Post). IsSpelledAt posts c.next-place.result c.in_ok-message.message) c.as_slice-2.ensures c.in_ok-message.ensures in
    let is : c.push.new.self ≡ i.fetched ++ record { node = c.args.node; number = c.next-place.result.number } ∷ [] = search rules in
    fetched_legal i.posts i.counts i.fetched i.places c.self.invariant i.refused c.args.self.now c.self.view_is c.args.node from c.next-place.result at next packet c.in_ok-message.message spelled c.push.new.self is c.requires

pub returns-clause-pending : goal.returns-clause-pending
returns-clause-pending c =
    let i = c.self.inside in
    let low : c.args.node < 11 = search rules in
    let from : Place = slice_index_or i.places c.args.node (record { number = 0; post = 0; offset = 0 }) in
    let at = place_at i.posts i.counts i.fetched i.places c.self.invariant c.args.node (record { number = 0; post = 0; offset = 0 }) low in
    let next : IsNextPlace i.posts c.args.node from c.next-place.result = subst (λ (posts : List Post). IsNextPlace posts c.args.node from c.next-place.result) c.as_slice.ensures c.next-place.ensures in
    let there : c.next-place.result.post < length i.posts = search rules in
    let packet = (next.found there).0 in
    subst (λ v. pending live_sends v.entries v.fetches c.args.node ≡ Some c.next-place.result.number) c.self.view_is (one_pending i.posts i.counts i.fetched i.places c.self.invariant c.args.node from c.next-place.result at next there)

pub returns-clause-bytes : goal.returns-clause-bytes
returns-clause-bytes c =
    let i = c.self.inside in
    let low : c.args.node < 11 = search rules in
    let from : Place = slice_index_or i.places c.args.node (record { number = 0; post = 0; offset = 0 }) in
    let at = place_at i.posts i.counts i.fetched i.places c.self.invariant c.args.node (record { number = 0; post = 0; offset = 0 }) low in
    let next : IsNextPlace i.posts c.args.node from c.next-place.result = subst (λ (posts : List Post). IsNextPlace posts c.args.node from c.next-place.result) c.as_slice.ensures c.next-place.ensures in
    let there : c.next-place.result.post < length i.posts = search rules in
    let packet = (next.found there).0 in
    let spelled : IsSpelledAt i.posts c.next-place.result c.in_ok-message.message = subst (λ (posts : List Post). IsSpelledAt posts c.next-place.result c.in_ok-message.message) c.as_slice-2.ensures c.in_ok-message.ensures in
    subst (λ v. slice_get (sent live_sends v.entries) c.next-place.result.number ≡ Some (c.args.node, c.in_ok-message.message)) c.self.view_is
    (bytes_sent i.posts i.counts i.fetched i.places c.self.invariant c.args.node from c.next-place.result at next packet c.in_ok-message.message spelled)

pub returns-clause-fetched : goal.returns-clause-fetched
returns-clause-fetched c =
    let i = c.self.inside in
    let low : c.args.node < 11 = search rules in
    let from : Place = slice_index_or i.places c.args.node (record { number = 0; post = 0; offset = 0 }) in
    let at = place_at i.posts i.counts i.fetched i.places c.self.invariant c.args.node (record { number = 0; post = 0; offset = 0 }) low in
    let next : IsNextPlace i.posts c.args.node from c.next-place.result = subst (λ (posts : List Post). IsNextPlace posts c.args.node from c.next-place.result) c.as_slice.ensures c.next-place.ensures in
    let there : c.next-place.result.post < length i.posts = search rules in
    let packet = (next.found there).0 in
    let spelled : IsSpelledAt i.posts c.next-place.result c.in_ok-message.message = subst (λ (posts : List Post). IsSpelledAt posts c.next-place.result c.in_ok-message.message) c.as_slice-2.ensures c.in_ok-message.ensures in
    let is : c.push.new.self ≡ i.fetched ++ record { node = c.args.node; number = c.next-place.result.number } ∷ [] = search rules in
    fetched_value i.posts i.counts i.fetched i.places c.self.invariant i.refused c.args.self.now c.self.view_is c.args.node from c.next-place.result at next packet c.in_ok-message.message spelled c.push.new.self is
