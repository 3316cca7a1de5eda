use Rattle.std.proofs.Common.{rules, ◌≡◌, ◌≤◌, ◌<◌, None, Some, Option, ℕ, List, length, sym, subst, slice_index_or}
use Rattle.eris_journal.specs.Packets.{pending}
use Rattle.eris_law_live.specs.LiveBooks.{live_sends}
use Rattle.eris_live_book.specs.declared.place.Place.{Place}
use Rattle.eris_live_book.specs.declared.post.Post.{Post}
use Rattle.eris_live_book.specs.Places.{IsNextPlace, IsPlaceIn}
use Rattle.eris_live_book.proofs.KeptLaws.{none_outside, none_pending, one_pending, place_at}
use Rattle.eris_live_book.proofs.book.LiveBookLegal.pending.Goals as goal

pub returns-then-node-ge-ADDRESSEES : goal.returns-then-node-ge-ADDRESSEES
returns-then-node-ge-ADDRESSEES c =
    let i = c.self.inside in
    let above : 11 ≤ c.args.node = search rules in
    subst (λ v. ◌≡◌ {A = Option ℕ} None (pending live_sends v.entries v.fetches c.args.node)) c.self.view_is
    (sym (none_outside i.posts i.counts i.fetched i.places c.self.invariant c.args.node above))

pub next-place-requires-clause-from : goal.next-place-requires-clause-from
next-place-requires-clause-from c =
    let i = c.self.inside in
    let low : c.args.node < 11 = search rules in
    let from : Place = slice_index_or i.places c.args.node (record { number = 0; post = 0; offset = 0 }) in
    subst (λ (posts : List Post). IsPlaceIn posts from) (sym c.as_slice-posts.ensures)
    (c.self.invariant.placed c.args.node from (place_at i.posts i.counts i.fetched i.places c.self.invariant c.args.node (record { number = 0; post = 0; offset = 0 }) low)).0

pub returns-then-place-posts : goal.returns-then-place-posts
returns-then-place-posts c =
    let i = c.self.inside in
    let low : c.args.node < 11 = search rules in
    let from : Place = slice_index_or i.places c.args.node (record { number = 0; post = 0; offset = 0 }) in
    let at = place_at i.posts i.counts i.fetched i.places c.self.invariant c.args.node (record { number = 0; post = 0; offset = 0 }) low in
    let next : IsNextPlace i.posts c.args.node from c.next-place.result = subst (λ (posts : List Post). IsNextPlace posts c.args.node from c.next-place.result) c.as_slice-posts.ensures c.next-place.ensures in
    let there : c.next-place.result.post < length i.posts = search rules in
    subst (λ v. ◌≡◌ {A = Option ℕ} (Some c.next-place.result.number) (pending live_sends v.entries v.fetches c.args.node)) c.self.view_is
    (sym (one_pending i.posts i.counts i.fetched i.places c.self.invariant c.args.node from c.next-place.result at next there))

pub returns-else-place-posts : goal.returns-else-place-posts
returns-else-place-posts c =
    let i = c.self.inside in
    let low : c.args.node < 11 = search rules in
    let from : Place = slice_index_or i.places c.args.node (record { number = 0; post = 0; offset = 0 }) in
    let at = place_at i.posts i.counts i.fetched i.places c.self.invariant c.args.node (record { number = 0; post = 0; offset = 0 }) low in
    let next : IsNextPlace i.posts c.args.node from c.next-place.result = subst (λ (posts : List Post). IsNextPlace posts c.args.node from c.next-place.result) c.as_slice-posts.ensures c.next-place.ensures in
    let end : length i.posts ≤ c.next-place.result.post = search rules in
    subst (λ v. ◌≡◌ {A = Option ℕ} None (pending live_sends v.entries v.fetches c.args.node)) c.self.view_is
    (sym (none_pending i.posts i.counts i.fetched i.places c.self.invariant c.args.node from c.next-place.result at next end))
