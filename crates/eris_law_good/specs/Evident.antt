-- THE EVIDENCE OF A RUN: that of the history of a moment, by the order of that moment.
use Rattle.std.specs.Prelude.{ℕ, List}
use Rattle.eris_base.specs.ConfigLimits.{ConfigValue}
use Rattle.eris_event.specs.declared.event.Event.{Event}
use Rattle.eris_rules.specs.WorldOrders.{order}
use Rattle.eris_law_agreement.specs.WorldMoments.{world_at}
use Rattle.eris_serial.specs.Evidence.{Evidence}

abbrev pub HasEvidence : ConfigValue → List Event → ℕ → Type 0
HasEvidence config events k = Evidence (world_at config events k).history (order (world_at config events k))
