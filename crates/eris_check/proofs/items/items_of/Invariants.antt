use Rattle.std.proofs.Common.{◌≡◌, length}
use Rattle.eris_words.proofs.FormLaws.{with_front}
use Rattle.eris_check.specs.ReportFields.{items}
use Rattle.eris_check.proofs.items.items_of.Given as goal

abbrev pub invariant-loop-word : goal.invariant-loop-word
invariant-loop-word g l = with_front l.items (items g.T.Item.said l.words) ≡ items g.T.Item.said l.fn.words

abbrev pub decreases-loop-word : goal.decreases-loop-word
decreases-loop-word g l = length l.words
