use Rattle.std.proofs.Common.{rules, arith, ◌≤◌, ◌<◌, ◌+◌, length, sym, ◌∙◌, subst}
use Rattle.eris_live_book.specs.declared.place.Place.{Place}
use Rattle.eris_live_book.specs.Places.{IsPlaceIn, NoneBetween, sent_by}
use Rattle.eris_live_book.proofs.NextLaws.{next_end, next_found, packet_few, packet_here, packet_smaller, passed_packet, past_post, post_smaller}
use Rattle.eris_live_book.proofs.PlaceLaws.{front_within, past_packet_is_place, place_within}
use Rattle.eris_live_book.proofs.place.next.Goals as goal

pub returns-then-number_of-node : goal.returns-then-number_of-node
returns-then-number_of-node c =
    let i = c.loop-place.invariant in
    let low : c.loop-place.place.post < length c.args.posts.now = search rules in
    next_found c.args.posts.now c.args.node c.args.from c.loop-place.place i.0 i.1 i.2 c.index-posts-place.result low c.index-posts-place.is c.in-Some.to c.in-Some.ensures
    (sym c.number_of.ensures ∙ c.if-number_of-node.true)

pub past_packet-place-requires-clause-number : goal.past_packet-place-requires-clause-number
past_packet-place-requires-clause-number c =
    let i = c.loop-place.invariant in
    let low : c.loop-place.place.post < length c.args.posts.now = search rules in
    (packet_few c.args.posts.now c.args.node c.args.from c.loop-place.place i.0 i.1 i.2 c.requires.few
    (packet_here c.args.posts.now c.args.node c.args.from c.loop-place.place i.0 i.1 i.2 c.index-posts-place.result low c.index-posts-place.is c.in-Some.to c.in-Some.ensures)).0

pub past_packet-place-requires-clause-offset : goal.past_packet-place-requires-clause-offset
past_packet-place-requires-clause-offset c =
    let i = c.loop-place.invariant in
    let low : c.loop-place.place.post < length c.args.posts.now = search rules in
    (packet_few c.args.posts.now c.args.node c.args.from c.loop-place.place i.0 i.1 i.2 c.requires.few
    (packet_here c.args.posts.now c.args.node c.args.from c.loop-place.place i.0 i.1 i.2 c.index-posts-place.result low c.index-posts-place.is c.in-Some.to c.in-Some.ensures)).1

pub loop-place-smaller-in-Some : goal.loop-place-smaller-in-Some
loop-place-smaller-in-Some c =
    let i = c.loop-place.invariant in
    let low : c.loop-place.place.post < length c.args.posts.now = search rules in
    let packet = packet_here c.args.posts.now c.args.node c.args.from c.loop-place.place i.0 i.1 i.2 c.index-posts-place.result low c.index-posts-place.is c.in-Some.to c.in-Some.ensures in
    let within = front_within c.args.posts.now (c.loop-place.place.post + 1) in
    packet_smaller (length (sent_by c.args.posts.now)) (length c.args.posts.now) c.loop-place.place.number c.loop-place.place.post (c.loop-place.place.offset + 1) c.past_packet-place.result c.past_packet-place.ensures
    (omega (arith, packet.1, within)) (omega (arith, low))

pub loop-place-preserved-in-Some : goal.loop-place-preserved-in-Some
loop-place-preserved-in-Some c =
    let i = c.loop-place.invariant in
    let low : c.loop-place.place.post < length c.args.posts.now = search rules in
    let packet = packet_here c.args.posts.now c.args.node c.args.from c.loop-place.place i.0 i.1 i.2 c.index-posts-place.result low c.index-posts-place.is c.in-Some.to c.in-Some.ensures in
    let on : c.args.from.number ≤ c.loop-place.place.number + 1 = omega (arith, i.1) in
    subst (λ (r : Place). IsPlaceIn c.args.posts.now r × (c.args.from.number ≤ r.number) × NoneBetween (sent_by c.args.posts.now) c.args.node c.args.from.number r.number) (sym c.past_packet-place.ensures) (
      past_packet_is_place c.args.posts.now c.loop-place.place i.0 packet,
      on,
      passed_packet c.args.posts.now c.args.node c.args.from c.loop-place.place i.0 i.1 i.2 c.index-posts-place.result low c.index-posts-place.is c.in-Some.to c.in-Some.ensures
          (λ e. c.if-number_of-node.false (c.number_of.ensures ∙ e)),
    )

pub loop-place-smaller : goal.loop-place-smaller
loop-place-smaller c =
    let i = c.loop-place.invariant in
    let low : c.loop-place.place.post < length c.args.posts.now = search rules in
    post_smaller (length (sent_by c.args.posts.now)) (length c.args.posts.now) c.loop-place.place.number c.loop-place.place.post (place_within c.args.posts.now c.loop-place.place i.0) low

pub loop-place-preserved : goal.loop-place-preserved
loop-place-preserved c =
    let i = c.loop-place.invariant in
    let low : c.loop-place.place.post < length c.args.posts.now = search rules in
    (past_post c.args.posts.now c.args.node c.args.from c.loop-place.place i.0 i.1 i.2 c.index-posts-place.result low c.index-posts-place.is c.in-None.ensures, i.1, i.2)

pub returns : goal.returns
returns c =
    let i = c.loop-place.invariant in
    let end : length c.args.posts.now ≤ c.loop-place.place.post = search rules in
    next_end c.args.posts.now c.args.node c.args.from c.loop-place.place i.0 i.1 i.2 end
