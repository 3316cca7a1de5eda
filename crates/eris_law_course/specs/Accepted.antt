-- What is asked of a list of events: that none is refused, and that what is submitted can be run.
use Rattle.std.specs.Prelude.{◌≡◌, ℕ, None, Some, List, ⊤, slice_get}
use Rattle.eris_base.specs.declared.ids.ClientId.{ClientId}
use Rattle.eris_base.specs.ConfigLimits.{ConfigValue}
use Rattle.eris_base.specs.Each.{Each}
use Rattle.eris_txn.specs.declared.txn.Txn.TheVariants.{Whole, General}
use Rattle.eris_event.specs.declared.event.Event.{Event}
use Rattle.eris_rules.specs.ClientStates.{first_client}
use Rattle.eris_rules.specs.Refusals.{cause}
use Rattle.eris_rules.specs.Worlds.{client_at, first_world}
use Rattle.eris_law_agreement.specs.WorldMoments.{world_at}
use Rattle.eris_serial.specs.Transactions.{CanRun}

-- NO EVENT IS REFUSED for its cause (the limits of what may be sent are of no concern here)
abbrev pub IsAccepted : ConfigValue → List Event → Type 0
IsAccepted config events = (k : ℕ) (event : Event) → slice_get events k ≡ Some event → cause config (world_at config events k) event ≡ None

-- what an event submits can be run: it has some operation; or its plan locks some key, sets none twice, and speaks
-- only of keys that it locks
abbrev pub IsEventFit : Event → Type 0
IsEventFit (Event.Submit client ops) = CanRun (Whole ops)
IsEventFit (Event.General client plan) = CanRun (General plan)
IsEventFit event = ⊤

abbrev pub AreEventsFit : List Event → Type 0
AreEventsFit events = Each IsEventFit events

-- the client is one of the world's
abbrev pub IsThere : ConfigValue → ClientId → Type 0
IsThere config client = client_at (first_world config).clients client ≡ Some first_client
