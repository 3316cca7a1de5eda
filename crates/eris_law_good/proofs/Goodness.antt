-- EVERY RUN IS GOOD, at each of its moments: where there is evidence the history is serial, and what was settled begins the
-- order.
use Rattle.std.proofs.Common.{◌≡◌, ℕ, List, ◌++◌, length, Some, sym, subst}
use Rattle.eris_base.specs.ConfigLimits.{ConfigValue}
use Rattle.eris_base.proofs.Each.{Each-left}
use Rattle.eris_event.specs.declared.event.Event.{Event}
use Rattle.eris_rules.specs.Good.{Good}
use Rattle.eris_rules.specs.Reports.{report_of}
use Rattle.eris_rules.specs.Runs.{run}
use Rattle.eris_rules.specs.WorldOrders.{lines_of_world, order}
use Rattle.eris_rules.specs.Worlds.{WorldState}
use Rattle.eris_law_agreement.specs.WorldMoments.{world_at}
use Rattle.eris_law_agreement.proofs.Moments.{front_accepted, run-moment}
use Rattle.eris_audit.specs.IsSerial.{IsSerial}
use Rattle.eris_audit.specs.Lines.{lines_of}
use Rattle.eris_law_order.proofs.SettledFronts.{settled_right}
use Rattle.eris_law_serial.proofs.Rules.{serial_order}
use Rattle.eris_law_course.specs.Accepted.{AreEventsFit, IsAccepted, IsEventFit}
use Rattle.eris_law_course.proofs.Calls.{accepted}
use Rattle.eris_law_good.proofs.Evident.{evidence}

-- at every moment
pub good_at : (config : ConfigValue) (events : List Event) → IsAccepted config events → AreEventsFit events → (k : ℕ) → Good (world_at config events k)
unfolding lines_of_world
good_at config events ok fit k =
    record {
      serial = serial_order (world_at config events k).history (order (world_at config events k)) (evidence config events ok fit k);
      settled = settled_right config events k;
    }

-- THE HEADLINE
pub good_run : (config : ConfigValue) (events : List Event) → AreEventsFit events → (world : WorldState) → run config events ≡ Some world → Good world
good_run config events fit world h =
    subst Good (sym (run-moment config events world h)) (good_at config events (accepted config events world h) fit (length events))

-- so it is after any first events of an accepted list, which are accepted
pub good_front : (config : ConfigValue) (front back : List Event) → AreEventsFit (front ++ back) → (world : WorldState) → run config (front ++ back) ≡ Some world
    → (middle : WorldState) × (run config front ≡ Some middle) × Good middle
good_front config front back fit world h =
    let middle = front_accepted config front back world h in
    (middle.0, middle.1, good_run config front (Each-left IsEventFit front back fit) middle.0 middle.1)

-- AND WHAT IS REPORTED of a good world is serial in what is reported of its order
pub reported_serial : (config : ConfigValue) (world : WorldState) → Good world → IsSerial (report_of config world).history (lines_of (report_of config world).order)
unfolding report_of
reported_serial config world good = good.serial
