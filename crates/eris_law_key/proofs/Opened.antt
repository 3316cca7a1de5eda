-- All definitions that an example of one epoch computes with.
use Rattle.std.specs.Prelude.{ℕ}
use Rattle.eris_law_epoch.specs.EpochWorlds as epoch_worlds
use Rattle.eris_law_epoch.specs.Reading as reading
use Rattle.eris_rules.proofs.Opened.{of_drop, of_epoch_rules, of_locks, of_log, of_stamps, of_view}
use Rattle.eris_view.specs.AckCells as view_ack_cells
use Rattle.eris_view.specs.Holders as view_holders

unfoldable pub of_holders : ℕ
unfolding view_ack_cells.acks_from view_ack_cells.offered view_holders.holders
of_holders = 0

unfoldable pub of_epoch_law : ℕ
unfolding epoch_worlds.fresh_replicas epoch_worlds.first_epoch_world epoch_worlds.packet_sends epoch_worlds.after_stamping epoch_worlds.asks_stamp epoch_worlds.after_replica epoch_worlds.replica_steps epoch_worlds.replica_takes epoch_worlds.after_coordinator epoch_worlds.happens epoch_worlds.moment reading.read
of_epoch_law = 0

unfoldable pub all_definitions : ℕ
unfolding of_log of_locks of_drop of_view of_holders of_stamps of_epoch_rules of_epoch_law
all_definitions = 0
