use Rattle.std.proofs.Common.{◌++◌, ◌∷◌, [], List, ℕ, sym, ap, subst, ◌∙◌, arith}
use Rattle.std.specs.List.{flat_map, AllByRecursion}
use Rattle.eris_frame.specs.Frames.{frame, is_message}
use Rattle.eris_frame.proofs.Cuts.{cut_more, cut_done}
use Rattle.eris_frame.proofs.FrameLaws.{both_bytes}
use Rattle.eris_frame.proofs.feed.cut_frames.Goals as goal

pub returns-in-None : goal.returns-in-None
returns-in-None c =
    let so_far = c.loop-messages.invariant in
    cut_done _ c.loop-messages.messages c.loop-messages.at so_far.within so_far.front so_far.each (sym c.in-None.ensures.exact)

pub loop-messages-smaller : goal.loop-messages-smaller
loop-messages-smaller c =
    let so_far = c.loop-messages.invariant in
    let fine = both_bytes c.args.front.now c.args.piece.now (λ i. omega (arith, c.type_inv.front i)) (λ i. omega (arith, c.type_inv.piece i)) in
    let more = cut_more _ c.loop-messages.messages c.loop-messages.at c.in-Some.end fine so_far.within so_far.front so_far.each (sym c.in-Some.ensures.exact) in
    omega (arith, more.later, more.within)

pub loop-messages-preserved : goal.loop-messages-preserved
loop-messages-preserved c =
    let so_far = c.loop-messages.invariant in
    let fine = both_bytes c.args.front.now c.args.piece.now (λ i. omega (arith, c.type_inv.front i)) (λ i. omega (arith, c.type_inv.piece i)) in
    let more = cut_more _ c.loop-messages.messages c.loop-messages.at c.in-Some.end fine so_far.within so_far.front so_far.each (sym c.in-Some.ensures.exact) in
    let pushed = c.in_ok-push-in-Some.ensures.ok ∙ ap (λ (message : List ℕ). c.loop-messages.messages ++ message ∷ []) c.in_ok-window_of-in-Some.ensures in
    record {
      within = more.within;
      front = more.front ∙ ap (λ (messages : List (List ℕ)). flat_map frame messages) (sym pushed);
      each = subst (λ (messages : List (List ℕ)). AllByRecursion is_message messages) (sym pushed) more.each;
    }
