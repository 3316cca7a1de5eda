use Rattle.std.proofs.Common.{◌<◌, ◌≤◌, ◌+◌, ◌++◌, ◌∷◌, [], List, sym, ap, subst, length, arith}
use Rattle.std.proofs.lemmas.List.{length-map}
use Rattle.eris_msg.specs.declared.outgoing.Outgoing.{Outgoing}
use Rattle.eris_rules.specs.Refusals.{frame_sizes}
use Rattle.eris_network.specs.KeptFrames.{outgoing_of, sent_of, AreFrames}
use Rattle.eris_network.specs.Limits.{byte_limit, packet_limit}
use Rattle.eris_network.proofs.KeptLaws.{frames_past, frames_more, frames_within}
use Rattle.eris_network.proofs.frames.Frames.keep.Goals as goal

pub overflow_sub-room : goal.overflow_sub-room
overflow_sub-room c = omega (arith, c.self.invariant.counted, ap frame_sizes c.self.view_is, c.requires.room.0)

pub returns-then-more-room-clause-err : goal.returns-then-more-room-clause-err
returns-then-more-room-clause-err c =
    subst (λ (sent : List Outgoing). c.args.room < frame_sizes (sent ++ outgoing_of c.args.kept ∷ [])) c.self.view_is
    (frames_past c.args.room c.self.inside.kept c.self.inside.bytes c.args.kept c.self.invariant c.requires.kept
    (omega (arith, ap frame_sizes c.self.view_is, c.requires.room.0)) (omega (arith, c.if-more-room.true, c.len-more.ensures)))

pub invariant_of-self : goal.invariant_of-self
invariant_of-self c =
    let few : length c.self.inside.kept < packet_limit = omega (arith, c.requires.few, ap length c.self.view_is, length-map c.self.inside.kept outgoing_of) in
    let within : c.self.inside.bytes + length c.args.kept.frame ≤ c.args.room = omega (arith, c.if-more-room.false, c.len-more.ensures, c.self.invariant.counted, ap frame_sizes c.self.view_is, c.requires.room.0) in
    let small : c.self.inside.bytes + length c.args.kept.frame ≤ byte_limit = omega (arith, within, c.requires.room.1) in
    subst (λ kept. AreFrames kept (c.self.inside.bytes + c.len-more.result)) (sym c.in-Ok.ensures.ok)
    (subst (λ more. AreFrames (c.self.inside.kept ++ c.args.kept ∷ []) (c.self.inside.bytes + more)) (sym c.len-more.ensures)
    (frames_more c.self.inside.kept c.self.inside.bytes c.args.kept c.self.invariant c.requires.kept few small))

pub returns-in-Ok-clause-within : goal.returns-in-Ok-clause-within
returns-in-Ok-clause-within c =
    let within : c.self.inside.bytes + length c.args.kept.frame ≤ c.args.room = omega (arith, c.if-more-room.false, c.len-more.ensures, c.self.invariant.counted, ap frame_sizes c.self.view_is, c.requires.room.0) in
    subst (λ kept. frame_sizes (sent_of kept) ≤ c.args.room) (sym c.in-Ok.ensures.ok) (frames_within c.args.room c.self.inside.kept c.self.inside.bytes c.args.kept c.self.invariant c.requires.kept within)
