use Rattle.std.proofs.lemmas.Result.{IfOk-weaker}
use Rattle.eris_live_book.proofs.NextLaws.{has_bytes, spelled_here}
use Rattle.eris_live_book.proofs.place.bytes_at.Goals as goal

pub unreachable-requires : goal.unreachable-requires
unreachable-requires c = has_bytes c.args.posts.now c.args.place c.requires.place c.requires.packet c.index-posts-place.result c.index-posts-place.is c.in-None.ensures

pub returns : goal.returns
returns c =
    IfOk-weaker c.copied.result _ _
    (λ row same. spelled_here c.args.posts.now c.args.place c.requires.place c.requires.packet c.index-posts-place.result c.index-posts-place.is c.in-Some.bytes.now row c.in-Some.ensures same) c.copied.ensures
