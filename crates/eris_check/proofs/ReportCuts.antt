-- The lines that a report says, and that the text of one in range is cut into just these.
use Rattle.std.proofs.Common.{◌≡◌, ℕ, zero, suc, ◌+◌, ◌*◌, ◌≤◌, ◌&&◌, nat_le, Bool, true, List, [], ◌∷◌, ◌++◌, map, codes, refl, sym, ap, ◌∙◌, append_assoc, append-nil, arith, le-leb}
use Rattle.std.specs.List.{flat_map, list_all, range_with_len}
use Rattle.std.proofs.lemmas.Bool.{and_from}
use Rattle.std.proofs.lemmas.List.Folds.{list_all-append}
use Rattle.eris_base.proofs.Booleans.{left_of, right_of}
use Rattle.eris_base.specs.declared.ids.ReplicaId.{ReplicaId}
use Rattle.eris_base.specs.declared.ids.ShardId.{ShardId}
use Rattle.eris_base.specs.ConfigLimits.{ConfigValue, IsConfig}
use Rattle.eris_event.specs.declared.report.ReplicaLine.{ReplicaLine}
use Rattle.eris_event.specs.declared.report.Report.{Report}
use Rattle.eris_event.specs.EventRanges.{fits_count}
use Rattle.eris_report.specs.HistoryText.{event_words}
use Rattle.eris_report.specs.OrderText.{order_words}
use Rattle.eris_report.specs.ReplicaText.{replica_words}
use Rattle.eris_report.specs.ReportText.{config_words, coordinator_words, foot_lines, head_lines, report_text, title_words}
use Rattle.eris_report_range.specs.ReportRanges.{IsRangedReport, is_ranged_event, is_ranged_line, is_ranged_replica, replica_at, replica_of, replicas_of}
use Rattle.eris_words.specs.Words.{line}
use Rattle.eris_check.specs.declared.report_line.Counts.{Counts}
use Rattle.eris_check.specs.declared.report_line.ReportLine.{ReportLine}
use Rattle.eris_check.specs.declared.report_line.ReportLine.TheVariants as says
use Rattle.eris_check.specs.FullLines.{full_lines}
use Rattle.eris_check.specs.ReportForms.{is_config}
use Rattle.eris_check.specs.ReportLines.{fits_counts, fits_line, fits_replica_line, line_words}
use Rattle.eris_check.proofs.ConfigSteps.{in_limits}
use Rattle.eris_check.proofs.FullLineLaws.{full_text, no_lines}
use Rattle.eris_check.proofs.LineLaws.{config_cut, line_cut}

-- what the coordinator's line of a report says
abbrev pub counts_of : Report → Counts
counts_of r = record { current = r.current; target = r.target; found = r.found; dropped = r.dropped }

-- the last lines of a report
abbrev pub foot : Report → List ReportLine
foot r = says.Coordinator (counts_of r) ∷ says.Sent r.sent ∷ says.End ∷ []

-- the lines of a report behind its config
abbrev pub said_by : Report → List ReportLine
said_by r =
    map (λ e. says.Event e) r.history ++ (map (λ entry. says.Order entry) r.order ++ (map (λ p. says.Replica p) r.replicas ++ foot r))

abbrev pub text_line : ReportLine → List ℕ
text_line v = line (line_words v)

abbrev pub title : List ℕ
title = codes "eris report 1\n"

-- the lines of a report, each with its LF
abbrev pub lines_of : Report → List (List ℕ)
lines_of r = title ∷ line (config_words r.config) ∷ map text_line (said_by r)

-- WORDS

made_words : {X : Type 0} (made : X → ReportLine) (spell : X → List (List ℕ)) (xs : List X) (rest : List ReportLine) → ((x : X) → line_words (made x) ≡ spell x) →
    map line_words (map made xs ++ rest) ≡ map spell xs ++ map line_words rest
made_words made spell [] rest same = refl
made_words made spell (x ∷ xs) rest same =
    ap (λ (first : List (List ℕ)). first ∷ map line_words (map made xs ++ rest)) (same x)
    ∙ ap (λ (z : List (List (List ℕ))). spell x ∷ z) (made_words made spell xs rest same)

words_said : (r : Report) → map line_words (said_by r) ≡ map event_words r.history ++ (map order_words r.order ++ (map replica_words r.replicas ++ foot_lines r))
unfolding foot_lines coordinator_words
words_said r =
    made_words (λ e. says.Event e) event_words r.history (map (λ entry. says.Order entry) r.order ++ (map (λ p. says.Replica p) r.replicas ++ foot r)) (λ e. refl)
    ∙ ap (λ (z : List (List (List ℕ))). map event_words r.history ++ z) (
    made_words (λ entry. says.Order entry) order_words r.order (map (λ p. says.Replica p) r.replicas ++ foot r) (λ entry. refl)
    ∙ ap (λ (z : List (List (List ℕ))). map order_words r.order ++ z) (made_words (λ p. says.Replica p) replica_words r.replicas (foot r) (λ p. refl)))

-- CUTS

abbrev body_text : List ReportLine → List ℕ
body_text vs = flat_map line (map line_words vs)

cut_each : (vs : List ReportLine) (rest : List ℕ) → list_all fits_line vs ≡ true → full_lines (body_text vs ++ rest) ≡ map text_line vs ++ full_lines rest
cut_each [] rest fits = refl
cut_each (v ∷ vs) rest fits =
    ap full_lines (append_assoc (text_line v) (body_text vs) rest)
    ∙ line_cut v (body_text vs ++ rest) (left_of (fits_line v) (list_all fits_line vs) fits)
    ∙ ap (λ (z : List (List ℕ)). text_line v ∷ z) (cut_each vs rest (right_of (fits_line v) (list_all fits_line vs) fits))

body_cut : (vs : List ReportLine) → list_all fits_line vs ≡ true → full_lines (body_text vs) ≡ map text_line vs
body_cut vs fits =
    ap full_lines (sym (append-nil (body_text vs))) ∙ cut_each vs [] fits ∙ ap (λ (z : List (List ℕ)). map text_line vs ++ z) no_lines
    ∙ append-nil (map text_line vs)

to_the_right : {X : Type 0} (a b c d e : List X) → a ++ b ++ c ++ d ++ e ≡ a ++ (b ++ (c ++ (d ++ e)))
to_the_right a b c d e = append_assoc (a ++ b ++ c) d e ∙ append_assoc (a ++ b) c (d ++ e) ∙ append_assoc a b (c ++ (d ++ e))

whole_text : (r : Report) → report_text r ≡ title ++ (line (config_words r.config) ++ body_text (said_by r))
unfolding title_words head_lines
whole_text r =
    ap (flat_map line) (to_the_right (head_lines r.config) (map event_words r.history) (map order_words r.order) (map replica_words r.replicas) (foot_lines r))
    ∙ ap (λ (z : List (List (List ℕ))). title ++ (line (config_words r.config) ++ flat_map line z)) (sym (words_said r))

lines_cut : (r : Report) → is_config r.config ≡ true → list_all fits_line (said_by r) ≡ true → full_lines (report_text r) ≡ lines_of r
lines_cut r config fits =
    ap full_lines (whole_text r)
    ∙ full_text (codes "eris report 1") (line (config_words r.config) ++ body_text (said_by r)) refl
    ∙ ap (λ (z : List (List ℕ)). title ∷ z) (
    config_cut r.config (body_text (said_by r)) config ∙ ap (λ (z : List (List ℕ)). line (config_words r.config) ∷ z) (body_cut (said_by r) fits))

-- RANGES

abbrev is_small : ShardId × ReplicaId → Bool
is_small name = nat_le name.0.0 255 && nat_le name.1.0 255

shard_small : (shard start n : ℕ) → shard ≤ 255 → start + n ≤ 256 → list_all is_small (map (replica_at shard) (range_with_len start n)) ≡ true
shard_small shard start zero low few = refl
shard_small shard start (suc n) low few =
    and_from (is_small (replica_at shard start)) (list_all is_small (map (replica_at shard) (range_with_len (start + 1) n)))
    (and_from (nat_le shard 255) (nat_le start 255) (le-leb shard 255 low) (le-leb start 255 (omega (arith, few))))
    (shard_small shard (start + 1) n low (omega (arith, few)))

abbrev names_in : ℕ → ℕ → List (ShardId × ReplicaId)
names_in count shard = map (replica_at shard) (range_with_len 0 count)

shards_small : (count start n : ℕ) → count ≤ 256 → start + n ≤ 256 → list_all is_small (flat_map (names_in count) (range_with_len start n)) ≡ true
shards_small count start zero few low = refl
shards_small count start (suc n) few low =
    list_all-append is_small (names_in count start) (flat_map (names_in count) (range_with_len (start + 1) n))
    ∙ and_from (list_all is_small (names_in count start)) (list_all is_small (flat_map (names_in count) (range_with_len (start + 1) n)))
    (shard_small start 0 count (omega (arith, low)) (omega (arith, few)))
    (shards_small count (start + 1) n few (omega (arith, low)))

all_small : (c : ConfigValue) → IsConfig c → list_all is_small (replicas_of c) ≡ true
all_small c is = shards_small (2 * c.f + 1) 0 c.shards (omega (arith, is.few_faults)) (omega (arith, is.few_shards))

each_fits : (rs : List ReplicaLine) → list_all is_small (map replica_of rs) ≡ true → list_all is_ranged_replica rs ≡ true → list_all fits_replica_line rs ≡ true
each_fits [] small ranged = refl
each_fits (r ∷ rs) small ranged =
    let name = left_of (is_small (replica_of r)) (list_all is_small (map replica_of rs)) small in
    and_from (fits_replica_line r) (list_all fits_replica_line rs)
    (and_from (nat_le r.shard.0 255) (nat_le r.replica.0 255 && is_ranged_replica r) (left_of (nat_le r.shard.0 255) (nat_le r.replica.0 255) name)
    (and_from (nat_le r.replica.0 255) (is_ranged_replica r) (right_of (nat_le r.shard.0 255) (nat_le r.replica.0 255) name)
    (left_of (is_ranged_replica r) (list_all is_ranged_replica rs) ranged)))
    (each_fits rs (right_of (is_small (replica_of r)) (list_all is_small (map replica_of rs)) small) (right_of (is_ranged_replica r) (list_all is_ranged_replica rs) ranged))

pub replicas_fit : (r : Report) → IsRangedReport r → list_all fits_replica_line r.replicas ≡ true
replicas_fit r h = each_fits r.replicas (ap (list_all is_small) h.each_replica ∙ all_small r.config h.config) h.replicas

pub counts_fit : (r : Report) → IsRangedReport r → fits_counts (counts_of r) ≡ true
counts_fit r h =
    and_from (fits_count r.current.0) (fits_count r.target.0 && (fits_count r.found && fits_count r.dropped)) h.current
    (and_from (fits_count r.target.0) (fits_count r.found && fits_count r.dropped) h.target
    (and_from (fits_count r.found) (fits_count r.dropped) h.found h.dropped))

made_fit : {X : Type 0} (made : X → ReportLine) (fits : X → Bool) (xs : List X) (rest : List ReportLine) → ((x : X) → fits_line (made x) ≡ fits x) → list_all fits xs ≡ true →
    list_all fits_line rest ≡ true → list_all fits_line (map made xs ++ rest) ≡ true
made_fit made fits [] rest same all more = more
made_fit made fits (x ∷ xs) rest same all more =
    and_from (fits_line (made x)) (list_all fits_line (map made xs ++ rest)) (same x ∙ left_of (fits x) (list_all fits xs) all)
    (made_fit made fits xs rest same (right_of (fits x) (list_all fits xs) all) more)

said_fit : (r : Report) → IsRangedReport r → list_all fits_line (said_by r) ≡ true
said_fit r h =
    made_fit (λ e. says.Event e) is_ranged_event r.history (map (λ entry. says.Order entry) r.order ++ (map (λ p. says.Replica p) r.replicas ++ foot r)) (λ e. refl) h.history
    (made_fit (λ entry. says.Order entry) is_ranged_line r.order (map (λ p. says.Replica p) r.replicas ++ foot r) (λ entry. refl) h.order
    (made_fit (λ p. says.Replica p) fits_replica_line r.replicas (foot r) (λ p. refl) (replicas_fit r h)
    (and_from (fits_counts (counts_of r)) (fits_count r.sent && true) (counts_fit r h) (and_from (fits_count r.sent) true h.sent refl))))

-- THE TEXT of a report in range is cut into its lines
pub report_cut : (r : Report) → IsRangedReport r → full_lines (report_text r) ≡ lines_of r
report_cut r h = lines_cut r (in_limits r.config h.config) (said_fit r h)
