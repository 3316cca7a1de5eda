use Rattle.std.proofs.Common.{◌≡◌, List, ℕ, sym, subst}
use Rattle.eris_frame.specs.Frames.{kept}
use Rattle.eris_frame.proofs.Cuts.{long_fed, tells_fed}
use Rattle.eris_frame.proofs.Streams.{kept-kept}
use Rattle.eris_frame.proofs.feed.FrameFeed.feed.Goals as goal

pub returns-then-is_long : goal.returns-then-is_long
returns-then-is_long c = long_fed c.args.self.now c.self.inside.rest c.as_slice.result.now c.args.piece.now c.is_long.result (sym c.self.view_is) c.as_slice.ensures c.self.invariant c.is_long.ensures c.if-is_long.true

pub invariant_of-self-2 : goal.invariant_of-self-2
invariant_of-self-2 c = subst (λ (z : List ℕ). kept z ≡ z) (sym c.in_ok-keep.ensures.ok) (kept-kept _)

pub returns : goal.returns
returns c = tells_fed c.args.self.now c.self.inside.rest _ _ c.args.piece.now _ c.in_ok-cut.cut.at _ _ _ (sym c.self.view_is) c.as_slice-2.ensures c.as_slice-3.ensures c.in_ok-cut.ensures c.in_ok-keep.ensures.ok c.is_long_from-long.ensures c.told.ensures
