-- A report of which the lines up to some line were read, and what the next line adds to it.
use Rattle.std.specs.Prelude.{ℕ, ◌==◌, ◌&&◌, Bool, true, false, Option, Some, None, Result, Ok, Err, [], ◌∷◌, ◌++◌, length, if◌then◌else◌}
use Rattle.std.specs.List.{slice_get}
use Rattle.eris_audit.specs.declared.order_line.OrderLine.{OrderLine}
use Rattle.eris_base.specs.declared.ids.ReplicaId.{ReplicaId}
use Rattle.eris_base.specs.declared.ids.ShardId.{ShardId}
use Rattle.eris_base.specs.ConfigLimits.{ConfigValue}
use Rattle.eris_event.specs.declared.report.ReplicaLine.{ReplicaLine}
use Rattle.eris_event.specs.declared.report.Report.{Report}
use Rattle.eris_report_range.specs.ReportRanges.{replicas_of}
use Rattle.eris_txn.specs.declared.history.HistoryEvent.{HistoryEvent}
use Rattle.eris_words.specs.declared.reason.Reason.{Reason}
use Rattle.eris_words.specs.declared.reason.Reason.TheVariants.{Word}
use Rattle.eris_check.specs.declared.draft.Draft.{Draft}
use Rattle.eris_check.specs.declared.draft.Stage.{Stage}
use Rattle.eris_check.specs.declared.draft.Stage.TheVariants as stage
use Rattle.eris_check.specs.declared.report_line.Counts.{Counts}
use Rattle.eris_check.specs.declared.report_line.ReportLine.{ReportLine}
use Rattle.eris_check.specs.declared.report_line.ReportLine.TheVariants as line

-- a report of which only the config was read
abbrev pub begun : ConfigValue → Draft
begun config = record {
  stage = stage.History;
  due = replicas_of config;
  report = record {
    config = config;
    history = [];
    order = [];
    replicas = [];
    current = record { 0 = 0 };
    target = record { 0 = 0 };
    found = 0;
    dropped = 0;
    sent = 0;
  };
}

-- ONE MORE LINE

abbrev pub plus_event : Report → HistoryEvent → Report
plus_event r e = record r { history = r.history ++ e ∷ [] }

abbrev pub plus_order : Report → OrderLine → Report
plus_order r entry = record r { order = r.order ++ entry ∷ [] }

abbrev pub plus_replica : Report → ReplicaLine → Report
plus_replica r replica = record r { replicas = r.replicas ++ replica ∷ [] }

abbrev pub plus_counts : Report → Counts → Report
plus_counts r c = record r { current = c.current; target = c.target; found = c.found; dropped = c.dropped }

abbrev pub plus_sent : Report → ℕ → Report
plus_sent r n = record r { sent = n }

-- history behind the order doesn't fit
abbrev pub takes_event : Stage → Bool
takes_event stage.History = true
takes_event stage.Order = false
takes_event stage.Replicas = false
takes_event stage.Coordinator = false
takes_event stage.Sent = false
takes_event stage.End = false

abbrev pub takes_order : Stage → Bool
takes_order stage.History = true
takes_order stage.Order = true
takes_order stage.Replicas = false
takes_order stage.Coordinator = false
takes_order stage.Sent = false
takes_order stage.End = false

abbrev pub takes_replica : Stage → Bool
takes_replica stage.History = true
takes_replica stage.Order = true
takes_replica stage.Replicas = true
takes_replica stage.Coordinator = false
takes_replica stage.Sent = false
takes_replica stage.End = false

abbrev pub takes_sent : Stage → Bool
takes_sent stage.History = false
takes_sent stage.Order = false
takes_sent stage.Replicas = false
takes_sent stage.Coordinator = true
takes_sent stage.Sent = false
takes_sent stage.End = false

abbrev pub takes_end : Stage → Bool
takes_end stage.History = false
takes_end stage.Order = false
takes_end stage.Replicas = false
takes_end stage.Coordinator = false
takes_end stage.Sent = true
takes_end stage.End = false

abbrev pub is_whole : Stage → Bool
is_whole stage.History = false
is_whole stage.Order = false
is_whole stage.Replicas = false
is_whole stage.Coordinator = false
is_whole stage.Sent = false
is_whole stage.End = true

-- the line is that of the replica whose turn it is
abbrev pub is_due : Option (ShardId × ReplicaId) → ReplicaLine → Bool
is_due None r = false
is_due (Some name) r = name.0.0 == r.shard.0 && name.1.0 == r.replica.0

abbrev pub due_next : Draft → Option (ShardId × ReplicaId)
due_next draft = slice_get draft.due (length draft.report.replicas)

unfoldable pub with_event : Draft → HistoryEvent → Result Draft Reason
with_event draft e =
    if takes_event draft.stage then Ok (record draft { report = plus_event draft.report e }) else Err Word

unfoldable pub with_order : Draft → OrderLine → Result Draft Reason
with_order draft entry =
    if takes_order draft.stage then Ok (record draft { stage = stage.Order; report = plus_order draft.report entry }) else Err Word

unfoldable pub with_replica : Draft → ReplicaLine → Result Draft Reason
with_replica draft r =
    if takes_replica draft.stage && is_due (due_next draft) r
    then Ok (record draft { stage = stage.Replicas; report = plus_replica draft.report r })
    else Err Word

-- the coordinator's line follows the last replica's
unfoldable pub with_counts : Draft → Counts → Result Draft Reason
with_counts draft c =
    if takes_replica draft.stage && length draft.report.replicas == length draft.due
    then Ok (record draft { stage = stage.Coordinator; report = plus_counts draft.report c })
    else Err Word

unfoldable pub with_sent : Draft → ℕ → Result Draft Reason
with_sent draft n =
    if takes_sent draft.stage then Ok (record draft { stage = stage.Sent; report = plus_sent draft.report n }) else Err Word

unfoldable pub with_end : Draft → Result Draft Reason
with_end draft = if takes_end draft.stage then Ok (record draft { stage = stage.End }) else Err Word

abbrev pub with_line : Draft → ReportLine → Result Draft Reason
with_line draft (line.Event e) = with_event draft e
with_line draft (line.Order entry) = with_order draft entry
with_line draft (line.Replica r) = with_replica draft r
with_line draft (line.Coordinator c) = with_counts draft c
with_line draft (line.Sent n) = with_sent draft n
with_line draft line.End = with_end draft
