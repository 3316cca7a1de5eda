-- A report's text is at least as long as its history, and as its order, since each event and each
-- line of the order has a line of its own.
use Rattle.std.proofs.Common.{◌≡◌, ℕ, ◌+◌, ◌<◌, ◌≤◌, List, [], ◌∷◌, ◌++◌, length, map, arith, subst}
use Rattle.std.specs.List.{flat_map, join_with_byte}
use Rattle.std.proofs.lemmas.List.{length-append, length-map}
use Rattle.eris_check.specs.ReportTexts.{IsTextOf}
use Rattle.eris_event.specs.declared.report.Report.{Report}
use Rattle.eris_report.specs.HistoryText.{event_words}
use Rattle.eris_report.specs.OrderText.{order_words}
use Rattle.eris_report.specs.ReplicaText.{replica_words}
use Rattle.eris_report.specs.ReportText.{foot_lines, head_lines, report_lines}
use Rattle.eris_words.specs.Words.{line}
use Rattle.eris_check_run.specs.Checks.{check_limit}

-- a line has its LF at least
line_long : (words : List (List ℕ)) → 1 ≤ length (line words)
line_long words = let long = length-append (join_with_byte 32 words) (10 ∷ []) in omega (arith, long)

lines_long : (lines : List (List (List ℕ))) → length lines ≤ length (flat_map line lines)
lines_long [] = omega arith
lines_long (words ∷ lines) =
    let long = length-append (line words) (flat_map line lines) in
    let one = line_long words in
    let more = lines_long lines in
    omega (arith, long, one, more)

module _ (report : Report) where
  history_lines : length report.history ≤ length (report_lines report)
  history_lines =
      let head = head_lines report.config in
      let events = map event_words report.history in
      let orders = map order_words report.order in
      let replicas = map replica_words report.replicas in
      let whole : length (report_lines report) ≡ length (head ++ events ++ orders ++ replicas) + length (foot_lines report) = length-append (head ++ events ++ orders ++ replicas) (foot_lines report) in
      let fourth = length-append (head ++ events ++ orders) replicas in
      let third = length-append (head ++ events) orders in
      let second = length-append head events in
      let same = length-map report.history event_words in
      omega (arith, whole, fourth, third, second, same)

  order_lines : length report.order ≤ length (report_lines report)
  order_lines =
      let front = head_lines report.config ++ map event_words report.history in
      let orders = map order_words report.order in
      let replicas = map replica_words report.replicas in
      let whole : length (report_lines report) ≡ length (front ++ orders ++ replicas) + length (foot_lines report) = length-append (front ++ orders ++ replicas) (foot_lines report) in
      let third = length-append (front ++ orders) replicas in
      let second = length-append front orders in
      let same = length-map report.order order_words in
      omega (arith, whole, third, second, same)

  pub few_events : (bytes : List ℕ) → IsTextOf report bytes → length bytes ≤ check_limit → length report.history < 4294967296
  few_events bytes is within =
      let text = subst (λ (some : List ℕ). length some ≤ check_limit) is.text within in
      let long = lines_long (report_lines report) in
      let some = history_lines in
      omega (arith, text, long, some)

  pub few_lines : (bytes : List ℕ) → IsTextOf report bytes → length bytes ≤ check_limit → length report.order < 4294967296
  few_lines bytes is within =
      let text = subst (λ (some : List ℕ). length some ≤ check_limit) is.text within in
      let long = lines_long (report_lines report) in
      let some = order_lines in
      omega (arith, text, long, some)
