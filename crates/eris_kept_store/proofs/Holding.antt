-- A part that holds one packet more is open as before below the packet's number.
use Rattle.std.proofs.Common.{◌≡◌, ◌<◌, ◌==◌, ℕ, Bool, false, not, ◌&&◌, ◌||◌, cond, unwrap_or, Option, Some, None, List, refl, ap, sym, ◌∙◌, subst, arith}
use Rattle.std.proofs.lemmas.Bool.{cond_both, ne_eqb}
use Rattle.std.specs.Option.{option_or}
use Rattle.eris_base.specs.declared.ids.ShardId.{ShardId}
use Rattle.eris_base.specs.Places.{number_in}
use Rattle.eris_txn.specs.declared.packet.Packet.{Packet}
use Rattle.eris_log.specs.declared.entry.Entry.TheVariants.{Dropped, Txn, Gap}
use Rattle.eris_log.specs.Entries.{entry_of, is_dropped, is_txn, is_held_and, is_lost, is_clear, own_place}
use Rattle.eris_log.specs.Held.{packet_at, with_packet}
use Rattle.eris_log.specs.Laws.Held.{packet_at-with_packet}
use Rattle.eris_log.specs.PartValues.{PartValue}
use Rattle.eris_log.specs.Parts.{hold, hold_at}
use Rattle.eris_log.specs.Places.{contains_place}
use Rattle.eris_rules.specs.ReplicaAnswers.{is_open, open_packet, open_at}
use Rattle.eris_kept_store.specs.KeptStores.{AreSameBelow}

-- what stands open at a number where this packet is held
open_by : PartValue → ℕ → Option Packet → List Packet
open_by part number found =
    open_packet
    (is_open (cond (contains_place part.perm (own_place part number) || is_held_and (λ packet. is_lost part packet) found) Dropped
    (cond (is_held_and (λ packet. not (is_lost part packet) && is_clear part packet) found) Txn Gap)))
    found

open_is : (part : PartValue) (number : ℕ) → open_at part number ≡ open_by part number (packet_at part.held number)
unfolding open_at entry_of is_dropped is_txn open_by
open_is part number = refl

open_with : (part : PartValue) (number : ℕ) (packet : Packet) (other : ℕ)
    → open_at (record part { held = with_packet part.held number packet }) other ≡ open_by part other (packet_at (with_packet part.held number packet) other)
unfolding open_at entry_of is_dropped is_txn open_by
open_with part number packet other = refl

or_none : (found : Option Packet) → option_or found None ≡ found
or_none None = refl
or_none (Some packet) = refl

-- another number has the packet that it had
other_at : (part : PartValue) (number : ℕ) (packet : Packet) (other : ℕ) → number == other ≡ false
    → packet_at (with_packet part.held number packet) other ≡ packet_at part.held other
other_at part number packet other differ =
    packet_at-with_packet part.held number packet other
    ∙ ap (λ (same : Bool). option_or (packet_at part.held other) (cond same (Some packet) None)) differ
    ∙ or_none (packet_at part.held other)

other_open : (part : PartValue) (number : ℕ) (packet : Packet) (other : ℕ) → number == other ≡ false
    → open_at (record part { held = with_packet part.held number packet }) other ≡ open_at part other
other_open part number packet other differ =
    open_with part number packet other
    ∙ ap (λ (found : Option Packet). open_by part other found) (other_at part number packet other differ)
    ∙ sym (open_is part other)

hold_at_above : (part : PartValue) (number : ℕ) (packet : Packet) (below : ℕ) → below < number → open_at (hold_at part (Some number) packet) below ≡ open_at part below
unfolding hold_at
hold_at_above part number packet below lower =
    cond_both (number == 0) part (record part { held = with_packet part.held number packet }) (λ made. open_at made below ≡ open_at part below)
    (λ zero. refl)
    (λ counts. other_open part number packet below (ne_eqb number below (λ e. absurd (omega arith))))

-- the number that the packet has on the part's shard, or 0
pub holds_above : (part : PartValue) (shard : ShardId) (packet : Packet) → part.shard ≡ shard
    → AreSameBelow (unwrap_or (number_in packet.stamp.places shard) 0) part (hold part packet)
unfolding hold
holds_above part shard packet same below lower =
    by_number (number_in packet.stamp.places part.shard)
    (subst (λ (on : ShardId). below < unwrap_or (number_in packet.stamp.places on) 0) (sym same) lower)
  where
    by_number : (number : Option ℕ) → below < unwrap_or number 0 → open_at (hold_at part number packet) below ≡ open_at part below
    by_number None under = absurd (omega arith)
    by_number (Some number) under = hold_at_above part number packet below under
