-- What the lines of a report behind its config say, how they are written, and in which ranges they are.
use Rattle.std.specs.Prelude.{ℕ, ◌&&◌, nat_le, Bool, true, List, [], ◌∷◌, codes}
use Rattle.eris_event.specs.declared.report.ReplicaLine.{ReplicaLine}
use Rattle.eris_event.specs.EventRanges.{fits_count}
use Rattle.eris_report.specs.HistoryText.{event_words}
use Rattle.eris_report.specs.OrderText.{order_words}
use Rattle.eris_report.specs.ReplicaText.{replica_words}
use Rattle.eris_report_range.specs.ReportRanges.{is_ranged_event, is_ranged_line, is_ranged_replica}
use Rattle.eris_words.specs.Decimal.{decimal}
use Rattle.eris_check.specs.declared.report_line.Counts.{Counts}
use Rattle.eris_check.specs.declared.report_line.ReportLine.{ReportLine}
use Rattle.eris_check.specs.declared.report_line.ReportLine.TheVariants as line

abbrev pub counts_words : Counts → List (List ℕ)
counts_words c =
    codes "coordinator" ∷ codes "epoch" ∷ decimal c.current.0 ∷ codes "target" ∷ decimal c.target.0 ∷ codes "found" ∷ decimal c.found
    ∷ codes "dropped" ∷ decimal c.dropped ∷ []

abbrev pub line_words : ReportLine → List (List ℕ)
line_words (line.Event e) = event_words e
line_words (line.Order entry) = order_words entry
line_words (line.Replica r) = replica_words r
line_words (line.Coordinator c) = counts_words c
line_words (line.Sent n) = codes "sent" ∷ decimal n ∷ []
line_words line.End = codes "end" ∷ []

abbrev pub fits_counts : Counts → Bool
fits_counts c = fits_count c.current.0 && (fits_count c.target.0 && (fits_count c.found && fits_count c.dropped))

abbrev pub fits_replica_line : ReplicaLine → Bool
fits_replica_line r = nat_le r.shard.0 255 && (nat_le r.replica.0 255 && is_ranged_replica r)

abbrev pub fits_line : ReportLine → Bool
fits_line (line.Event e) = is_ranged_event e
fits_line (line.Order entry) = is_ranged_line entry
fits_line (line.Replica r) = fits_replica_line r
fits_line (line.Coordinator c) = fits_counts c
fits_line (line.Sent n) = fits_count n
fits_line line.End = true
