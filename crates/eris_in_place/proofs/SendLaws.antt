-- What is sent to each of some nodes is in its ranges.
use Rattle.std.proofs.Common.{List, [], ◌∷◌}
use Rattle.eris_base.specs.declared.ids.Epoch.{Epoch}
use Rattle.eris_base.specs.declared.ids.Node.{Node}
use Rattle.eris_rules.specs.EpochMessages.{EpochMessage, send_each}
use Rattle.eris_rules.specs.Outer.{outer, outer_sends}
use Rattle.eris_in_place.specs.MessageRanges.{MessageFits, SendsFit}

pub each_sent : (epoch : Epoch) (nodes : List Node) (message : EpochMessage) → MessageFits (outer epoch message) → SendsFit (outer_sends epoch (send_each nodes message))
each_sent epoch [] message h = tt
each_sent epoch (node ∷ nodes) message h = (h, each_sent epoch nodes message h)
