use Rattle.std.proofs.Common.{sym}
use Rattle.eris_network.proofs.CountedLaws.{fits_whole, too_long}
use Rattle.eris_network.proofs.KeptLaws.{is_kept, outgoing_kept}
use Rattle.eris_network.proofs.frames.kept_of.Goals as goal

pub returns-then-not-is_counted-clause-err : goal.returns-then-not-is_counted-clause-err
returns-then-not-is_counted-clause-err c = too_long c.args.one.now.message (sym c.if-not-is_counted.ensures)

pub frame_of-requires : goal.frame_of-requires
frame_of-requires c = fits_whole c.args.one.now.message c.requires (sym c.if-not-is_counted.ensures)

pub returns-in-Ok-clause-kept : goal.returns-in-Ok-clause-kept
returns-in-Ok-clause-kept c =
    is_kept c.args.one.now.to c.args.one.now.message c.in-Ok.frame (fits_whole c.args.one.now.message c.requires (sym c.if-not-is_counted.ensures)) c.in-Ok.ensures.ok

pub returns-in-Ok-clause-ok : goal.returns-in-Ok-clause-ok
returns-in-Ok-clause-ok c =
    outgoing_kept c.args.one.now.to c.args.one.now.message c.in-Ok.frame (fits_whole c.args.one.now.message c.requires (sym c.if-not-is_counted.ensures)) c.in-Ok.ensures.ok
