use Rattle.std.specs.Prelude.{ℕ, List, ◌∷◌, [], ◌++◌, map, codes}
use Rattle.std.specs.List.{flat_map}
use Rattle.eris_base.specs.declared.config.Config.{Config}
use Rattle.eris_event.specs.declared.report.Report.{Report}
use Rattle.eris_words.specs.Decimal.{decimal}
use Rattle.eris_report.specs.HistoryText.{event_words}
use Rattle.eris_report.specs.OrderText.{order_words}
use Rattle.eris_report.specs.ReplicaText.{replica_words}
use Rattle.eris_words.specs.Words.{line}

-- `eris report 1`
unfoldable pub title_words : List (List ℕ)
title_words = codes "eris" ∷ codes "report" ∷ codes "1" ∷ []

-- `config S F C`
unfoldable pub config_words : Config → List (List ℕ)
config_words config = codes "config" ∷ decimal config.shards ∷ decimal config.f ∷ decimal config.clients ∷ []

-- `coordinator epoch E target T found N dropped N`
unfoldable pub coordinator_words : Report → List (List ℕ)
coordinator_words report =
    codes "coordinator" ∷ codes "epoch" ∷ decimal report.current.0 ∷ codes "target" ∷ decimal report.target.0
    ∷ codes "found" ∷ decimal report.found ∷ codes "dropped" ∷ decimal report.dropped ∷ []

-- the lines before those of the history
unfoldable pub head_lines : Config → List (List (List ℕ))
head_lines config = title_words ∷ config_words config ∷ []

-- the lines behind those of the replicas: the coordinator's, `sent N` and `end`
unfoldable pub foot_lines : Report → List (List (List ℕ))
foot_lines report = coordinator_words report ∷ (codes "sent" ∷ decimal report.sent ∷ []) ∷ (codes "end" ∷ []) ∷ []

-- the words of each line of a report
abbrev pub report_lines : Report → List (List (List ℕ))
report_lines report =
    head_lines report.config ++ map event_words report.history ++ map order_words report.order
    ++ map replica_words report.replicas ++ foot_lines report

-- the lines, one after another
abbrev pub report_text : Report → List ℕ
report_text report = flat_map line (report_lines report)
