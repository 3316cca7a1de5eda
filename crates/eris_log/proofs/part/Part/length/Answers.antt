use Rattle.std.proofs.Common.{◌+◌, is_some, cond, drop, length, arith, refl, sym, ap, ◌∙◌, subst}
use Rattle.eris_base.specs.declared.ids.Place.{Place}
use Rattle.eris_log.specs.Entries.{IsLength, own_place, length_of}
use Rattle.eris_log.specs.Laws.Entries.{IsLength-length_of}
use Rattle.eris_log.specs.PartFacts.{IsPart}
use Rattle.eris_log.specs.PartValues.{PartValue}
use Rattle.eris_log.specs.Places.{place_cmp}
use Rattle.eris_log.specs.Sorted.{head_at, items_from}
use Rattle.eris_log.proofs.Walks.{IsWalk, IsWalk-same, IsWalk-start, tested, walk_ends, walk_more, walk_shorter}
use Rattle.eris_log.proofs.part.Part.length.Goals as goal

pub loop-held-init : goal.loop-held-init
loop-held-init c =
    let part = c.args.self.now in
    let facts = subst IsPart c.self.view_is c.self.invariant in
    IsWalk-same part 0 part.held _ _ _
    (IsWalk-start part (items_from (λ (place : Place). place) place_cmp part.perm (own_place part 1)) facts refl)
    (c.as_slice-held.ensures ∙ ap (λ (p : PartValue). p.held) c.self.view_is)
    (c.from_key-dropped.ensures
    ∙ ap (λ places. items_from (λ (place : Place). place) place_cmp places c.own_place.result) (c.as_slice.ensures ∙ ap (λ (p : PartValue). p.perm) c.self.view_is)
    ∙ ap (λ place. items_from (λ (p : Place). p) place_cmp part.perm place) c.own_place.ensures)

pub returns-then-is_gap-clause-exact : goal.returns-then-is_gap-clause-exact
returns-then-is_gap-clause-exact c =
    let part = c.args.self.now in
    let facts = subst IsPart c.self.view_is c.self.invariant in
    let n = c.loop-held.length in
    walk_ends part n _ _ facts c.loop-held.invariant
    (tested part n _ _ facts c.loop-held.invariant _ _ _
    (c.is_first-is_dropped.ensures.first ∙ ap (λ (p : PartValue). is_some (head_at (λ (place : Place). place) place_cmp c.loop-held.dropped.now (own_place p (n + 1)))) c.self.view_is)
    c.first_packet-packet.ensures.packet
    c.is_gap.ensures
    ∙ c.if-is_gap.true)

pub loop-held-preserved : goal.loop-held-preserved
loop-held-preserved c =
    let part = c.args.self.now in
    let facts = subst IsPart c.self.view_is c.self.invariant in
    let n = c.loop-held.length in
    let first = c.is_first-is_dropped.ensures.first ∙ ap (λ (p : PartValue). is_some (head_at (λ (place : Place). place) place_cmp c.loop-held.dropped.now (own_place p (n + 1)))) c.self.view_is in
    IsWalk-same part (n + 1) _ _ _ _
    (walk_more part n _ _ facts c.loop-held.invariant
    (tested part n _ _ facts c.loop-held.invariant _ _ _ first c.first_packet-packet.ensures.packet c.is_gap.ensures ∙ c.if-is_gap.false))
    (c.behind-held.ensures ∙ ap (λ b. cond b (drop 1 c.loop-held.held.now) c.loop-held.held.now) (c.is_some.ensures ∙ c.first_packet-packet.ensures.taken))
    (c.behind-dropped.ensures ∙ ap (λ b. cond b (drop 1 c.loop-held.dropped.now) c.loop-held.dropped.now) first)

pub loop-held-smaller : goal.loop-held-smaller
loop-held-smaller c =
    let part = c.args.self.now in
    let facts = subst IsPart c.self.view_is c.self.invariant in
    let n = c.loop-held.length in
    let first = c.is_first-is_dropped.ensures.first ∙ ap (λ (p : PartValue). is_some (head_at (λ (place : Place). place) place_cmp c.loop-held.dropped.now (own_place p (n + 1)))) c.self.view_is in
    let fewer =
    walk_shorter part n _ _ facts c.loop-held.invariant
    (tested part n _ _ facts c.loop-held.invariant _ _ _ first c.first_packet-packet.ensures.packet c.is_gap.ensures ∙ c.if-is_gap.false) in
    let held = ap length (c.behind-held.ensures ∙ ap (λ b. cond b (drop 1 c.loop-held.held.now) c.loop-held.held.now) (c.is_some.ensures ∙ c.first_packet-packet.ensures.taken)) in
    let dropped = ap length (c.behind-dropped.ensures ∙ ap (λ b. cond b (drop 1 c.loop-held.dropped.now) c.loop-held.dropped.now) first) in
    omega (arith, fewer, held, dropped)

pub returns-then-is_gap-clause-greatest : goal.returns-then-is_gap-clause-greatest
returns-then-is_gap-clause-greatest c =
    subst (λ n. IsLength c.args.self.now n) (sym (returns-then-is_gap-clause-exact c)) (IsLength-length_of c.args.self.now)
