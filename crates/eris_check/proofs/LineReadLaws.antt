-- The words of a line are read exactly where they are those of something that it says, in range.
use Rattle.std.proofs.Common.{◌≡◌, ◌∙◌, ◌&&◌, ℕ, Bool, true, nat_le, codes, Ok, List, [], ◌∷◌, length, map, refl, sym, ap, subst, lit<}
use Rattle.std.specs.List.{list_all}
use Rattle.eris_audit.specs.declared.order_line.OrderLine.{OrderLine}
use Rattle.eris_audit.specs.declared.outcome.Outcome.{Outcome}
use Rattle.eris_audit.specs.declared.outcome.Outcome.TheVariants as outcome
use Rattle.eris_base.proofs.Booleans.{left_of, right_of}
use Rattle.eris_base.specs.Places.{are_stamp_places}
use Rattle.eris_event.specs.declared.report.ReplicaLine.{ReplicaLine}
use Rattle.eris_event.specs.declared.report.ReplicaState.{ReplicaState}
use Rattle.eris_event.specs.declared.report.ReplicaState.TheVariants as state
use Rattle.eris_event.specs.EventRanges.{are_ops, fits_count, is_plan}
use Rattle.eris_report.specs.HistoryText.{answer_words, event_words, op_answer_word, value_word}
use Rattle.eris_report.specs.OrderText.{order_words, outcome_word}
use Rattle.eris_report.specs.ReplicaText.{progress_words, replica_words, state_word}
use Rattle.eris_report_range.specs.ReportRanges.{is_ranged_answer, is_ranged_client, is_ranged_event, is_ranged_id, is_ranged_length, is_ranged_line, is_ranged_op_answer, is_ranged_outcome, is_ranged_place, is_ranged_replica, is_ranged_value}
use Rattle.eris_txn.specs.declared.answer.Answer.{Answer}
use Rattle.eris_txn.specs.declared.answer.Answer.TheVariants as answer
use Rattle.eris_txn.specs.declared.history.HistoryEvent.{HistoryEvent}
use Rattle.eris_txn.specs.declared.history.HistoryEvent.TheVariants as event
use Rattle.eris_txn.specs.declared.txn.Txn.TheVariants.{Whole, General}
use Rattle.eris_words.specs.Decimal.{decimal}
use Rattle.eris_words.specs.Forms.{◌>>=◌}
use Rattle.eris_words.specs.OpText.{ops_words}
use Rattle.eris_words.specs.PlanText.{plan_words}
use Rattle.eris_words.specs.Words.{id_word, place_word}
use Rattle.eris_words.proofs.FormLaws.{bind_ok}
use Rattle.eris_check.specs.declared.fixed_words.LineWord.{LineWord}
use Rattle.eris_check.specs.declared.fixed_words.LineWord.TheVariants as w
use Rattle.eris_check.specs.declared.report_line.Counts.{Counts}
use Rattle.eris_check.specs.declared.report_line.ReportLine.{ReportLine}
use Rattle.eris_check.specs.declared.report_line.ReportLine.TheVariants as line
use Rattle.eris_check.specs.ReportForms.{line_behind, line_of}
use Rattle.eris_check.specs.ReportLines.{counts_words, fits_counts, fits_line, fits_replica_line, line_words}
use Rattle.eris_check.specs.ReportWords.{line_word, line_word_text}
use Rattle.eris_check.proofs.HistoryLineLaws.{answered_again, answered_takes, general_again, general_takes, read_again, read_takes, submit_again, submit_takes, told_again, told_takes}
use Rattle.eris_check.proofs.LineFieldLaws.{Said, client_visible, id_visible, op_answer_seen, place_visible, value_seen}
use Rattle.eris_check.proofs.OrderLineLaws.{coordinator_again, coordinator_takes, end_again, end_takes, order_again, order_takes, replica_again, replica_takes, sent_again, sent_takes}
use Rattle.eris_check.proofs.VisibleLaws.{all_visible, count_visible, map_visible, more_visible, number_visible, one_visible, ops_visible, plan_visible, visible}
use Rattle.eris_check.proofs.WordLaws.{is_line_word}

-- WHAT IS READ

behind_takes : (word : LineWord) (words : List (List ℕ)) (v : ReportLine) → line_behind (line_word_text word ∷ words) word words ≡ Ok v →
    Said (line_word_text word ∷ words) v
unfolding line_behind
behind_takes w.Submit words v read = submit_takes words v read
behind_takes w.General words v read = general_takes words v read
behind_takes w.Read words v read = read_takes words v read
behind_takes w.Answer words v read = answered_takes words v read
behind_takes w.Told words v read = told_takes words v read
behind_takes w.Order words v read = order_takes words v read
behind_takes w.Replica words v read = replica_takes words v read
behind_takes w.Coordinator words v read = coordinator_takes words v read
behind_takes w.Sent words v read = sent_takes words v read
behind_takes w.End words v read = end_takes words v read

pub line_takes : (words : List (List ℕ)) (v : ReportLine) → line_of words ≡ Ok v → Said words v
unfolding line_of line_word
line_takes words v read =
    let a = bind_ok (line_word.read words) (λ asked. line_behind words asked.0 asked.1) v read in
    let t = is_line_word.takes words a.0.0 a.0.1 a.1 in
    let spelled : words ≡ line_word_text a.0.0 ∷ a.0.1 = t.parts in
    subst (λ (z : List (List ℕ)). Said z v) (sym spelled)
    (behind_takes a.0.0 a.0.1 v (ap (λ (z : List (List ℕ)). line_behind z a.0.0 a.0.1) (sym spelled) ∙ a.2))

-- AND BACK

asked : (word : LineWord) (behind : List (List ℕ)) (v : ReportLine) → line_behind (line_word_text word ∷ behind) word behind ≡ Ok v →
    line_of (line_word_text word ∷ behind) ≡ Ok v
unfolding line_of line_word
asked word behind v says =
    ap (λ r. ◌>>=◌ {B = ReportLine} r (λ found. line_behind (line_word_text word ∷ behind) found.0 found.1)) (is_line_word.again word behind refl) ∙ says

event_again : (e : HistoryEvent) → is_ranged_event e ≡ true → line_of (event_words e) ≡ Ok (line.Event e)
unfolding line_behind
event_again (event.Submit i (Whole ops)) fits = asked w.Submit (id_word i ∷ ops_words ops) _ (submit_again i ops fits)
event_again (event.Submit i (General plan)) fits = asked w.General (id_word i ∷ plan_words plan) _ (general_again i plan fits)
event_again (event.Read i values) fits = asked w.Read (id_word i ∷ map value_word values) _ (read_again i values fits)
event_again (event.Answer i a) fits = asked w.Answer (id_word i ∷ answer_words a) _ (answered_again i a fits)
event_again (event.Told c i a) fits = asked w.Told (decimal c.0 ∷ id_word i ∷ answer_words a) _ (told_again c i a fits)

pub line_again : (v : ReportLine) → fits_line v ≡ true → line_of (line_words v) ≡ Ok v
unfolding line_behind
line_again (line.Event e) fits = event_again e fits
line_again (line.Order entry) fits =
    asked w.Order (id_word entry.id ∷ outcome_word entry.outcome ∷ decimal entry.stamp.epoch.0 ∷ map place_word entry.stamp.places) _
    (order_again entry.id entry.outcome entry.stamp fits)
line_again (line.Replica r) fits = asked w.Replica (decimal r.shard.0 ∷ decimal r.replica.0 ∷ state_word r.state ∷ progress_words r) _ (replica_again r fits)
line_again (line.Coordinator c) fits =
    asked w.Coordinator (codes "epoch" ∷ decimal c.current.0 ∷ codes "target" ∷ decimal c.target.0 ∷ codes "found" ∷ decimal c.found
    ∷ codes "dropped" ∷ decimal c.dropped ∷ []) _ (coordinator_again c fits)
line_again (line.Sent n) fits = asked w.Sent (decimal n ∷ []) _ (sent_again n fits)
line_again line.End fits = asked w.End [] line.End end_again

-- NO WORD HAS A SPACE OR LF

answer_visible : (a : Answer) → is_ranged_answer a ≡ true → all_visible (answer_words a) ≡ true
answer_visible (answer.Ops answers) fits =
    map_visible op_answer_word is_ranged_op_answer op_answer_seen answers (right_of (is_ranged_length (length answers)) (list_all is_ranged_op_answer answers) fits)
answer_visible (answer.Values values) fits = absurd cc
answer_visible answer.Committed fits = refl
answer_visible answer.Aborted fits = refl

outcome_visible : (a : Answer) → is_ranged_outcome a ≡ true → all_visible (answer_words a) ≡ true
outcome_visible (answer.Ops answers) fits = absurd cc
outcome_visible (answer.Values values) fits = absurd cc
outcome_visible answer.Committed fits = refl
outcome_visible answer.Aborted fits = refl

event_visible : (e : HistoryEvent) → is_ranged_event e ≡ true → all_visible (event_words e) ≡ true
event_visible (event.Submit i (Whole ops)) fits =
    more_visible (id_word i) (ops_words ops) (id_visible i (left_of (is_ranged_id i) (are_ops 2 ops) fits)) (ops_visible ops (right_of (is_ranged_id i) (are_ops 2 ops) fits))
event_visible (event.Submit i (General plan)) fits =
    more_visible (id_word i) (plan_words plan) (id_visible i (left_of (is_ranged_id i) (is_plan 2 plan) fits)) (plan_visible plan (right_of (is_ranged_id i) (is_plan 2 plan) fits))
event_visible (event.Read i values) fits =
    let few = right_of (is_ranged_id i) (is_ranged_length (length values) && list_all is_ranged_value values) fits in
    more_visible (id_word i) (map value_word values) (id_visible i (left_of (is_ranged_id i) (is_ranged_length (length values) && list_all is_ranged_value values) fits))
    (map_visible value_word is_ranged_value value_seen values (right_of (is_ranged_length (length values)) (list_all is_ranged_value values) few))
event_visible (event.Answer i a) fits =
    more_visible (id_word i) (answer_words a) (id_visible i (left_of (is_ranged_id i) (is_ranged_answer a) fits)) (answer_visible a (right_of (is_ranged_id i) (is_ranged_answer a) fits))
event_visible (event.Told c i a) fits =
    let more = right_of (is_ranged_client c) (is_ranged_id i && is_ranged_outcome a) fits in
    more_visible (decimal c.0) (id_word i ∷ answer_words a) (client_visible c (left_of (is_ranged_client c) (is_ranged_id i && is_ranged_outcome a) fits))
    (more_visible (id_word i) (answer_words a) (id_visible i (left_of (is_ranged_id i) (is_ranged_outcome a) more)) (outcome_visible a (right_of (is_ranged_id i) (is_ranged_outcome a) more)))

outcome_seen : (o : Outcome) → visible (outcome_word o) ≡ true
outcome_seen outcome.Done = refl
outcome_seen outcome.Committed = refl
outcome_seen outcome.Aborted = refl
outcome_seen outcome.Pending = refl

order_visible : (entry : OrderLine) → is_ranged_line entry ≡ true → all_visible (order_words entry) ≡ true
order_visible entry fits =
    let stamp = right_of (is_ranged_id entry.id) (fits_count entry.stamp.epoch.0 && (are_stamp_places entry.stamp.places && list_all is_ranged_place entry.stamp.places)) fits in
    let places = right_of (fits_count entry.stamp.epoch.0) (are_stamp_places entry.stamp.places && list_all is_ranged_place entry.stamp.places) stamp in
    more_visible (id_word entry.id) (outcome_word entry.outcome ∷ decimal entry.stamp.epoch.0 ∷ map place_word entry.stamp.places)
    (id_visible entry.id (left_of (is_ranged_id entry.id) (fits_count entry.stamp.epoch.0 && (are_stamp_places entry.stamp.places && list_all is_ranged_place entry.stamp.places)) fits))
    (more_visible (outcome_word entry.outcome) (decimal entry.stamp.epoch.0 ∷ map place_word entry.stamp.places) (outcome_seen entry.outcome)
    (more_visible (decimal entry.stamp.epoch.0) (map place_word entry.stamp.places)
    (count_visible entry.stamp.epoch.0 (left_of (fits_count entry.stamp.epoch.0) (are_stamp_places entry.stamp.places && list_all is_ranged_place entry.stamp.places) stamp))
    (map_visible place_word is_ranged_place place_visible entry.stamp.places (right_of (are_stamp_places entry.stamp.places) (list_all is_ranged_place entry.stamp.places) places))))

state_seen : (s : ReplicaState) → visible (state_word s) ≡ true
state_seen state.Crashed = refl
state_seen state.Stopped = refl
state_seen state.Normal = refl
state_seen state.Changing = refl

-- a count, before other words
count_more : (n : ℕ) (rest : Bool) (words : List (List ℕ)) → (fits_count n && rest) ≡ true → (rest ≡ true → all_visible words ≡ true) → all_visible (decimal n ∷ words) ≡ true
count_more n rest words fits more = more_visible (decimal n) words (count_visible n (left_of (fits_count n) rest fits)) (more (right_of (fits_count n) rest fits))

count_last : (n : ℕ) → fits_count n ≡ true → all_visible (decimal n ∷ []) ≡ true
count_last n fits = one_visible (decimal n) (count_visible n fits)

progress_visible : (r : ReplicaLine) → is_ranged_replica r ≡ true → all_visible (progress_words r) ≡ true
progress_visible r fits =
    count_more r.epoch.0 (fits_count r.view.0 && (fits_count r.held && (fits_count r.length && fits_count r.settled)))
    (codes "view" ∷ decimal r.view.0 ∷ codes "held" ∷ decimal r.held ∷ codes "length" ∷ decimal r.length ∷ codes "settled" ∷ decimal r.settled ∷ []) fits
    (λ b. count_more r.view.0 (fits_count r.held && (fits_count r.length && fits_count r.settled))
    (codes "held" ∷ decimal r.held ∷ codes "length" ∷ decimal r.length ∷ codes "settled" ∷ decimal r.settled ∷ []) b
    (λ c. count_more r.held (fits_count r.length && fits_count r.settled) (codes "length" ∷ decimal r.length ∷ codes "settled" ∷ decimal r.settled ∷ []) c
    (λ d. count_more r.length (fits_count r.settled) (codes "settled" ∷ decimal r.settled ∷ []) d (λ e. count_last r.settled e))))

replica_visible : (r : ReplicaLine) → fits_replica_line r ≡ true → all_visible (replica_words r) ≡ true
replica_visible r fits =
    let more = right_of (nat_le r.shard.0 255) (nat_le r.replica.0 255 && is_ranged_replica r) fits in
    more_visible (decimal r.shard.0) (decimal r.replica.0 ∷ state_word r.state ∷ progress_words r)
    (number_visible 255 r.shard.0 (lit< tt) (left_of (nat_le r.shard.0 255) (nat_le r.replica.0 255 && is_ranged_replica r) fits))
    (more_visible (decimal r.replica.0) (state_word r.state ∷ progress_words r) (number_visible 255 r.replica.0 (lit< tt) (left_of (nat_le r.replica.0 255) (is_ranged_replica r) more))
    (more_visible (state_word r.state) (progress_words r) (state_seen r.state) (progress_visible r (right_of (nat_le r.replica.0 255) (is_ranged_replica r) more))))

counts_visible : (c : Counts) → fits_counts c ≡ true → all_visible (counts_words c) ≡ true
counts_visible c fits =
    count_more c.current.0 (fits_count c.target.0 && (fits_count c.found && fits_count c.dropped))
    (codes "target" ∷ decimal c.target.0 ∷ codes "found" ∷ decimal c.found ∷ codes "dropped" ∷ decimal c.dropped ∷ []) fits
    (λ b. count_more c.target.0 (fits_count c.found && fits_count c.dropped) (codes "found" ∷ decimal c.found ∷ codes "dropped" ∷ decimal c.dropped ∷ []) b
    (λ d. count_more c.found (fits_count c.dropped) (codes "dropped" ∷ decimal c.dropped ∷ []) d (λ e. count_last c.dropped e)))

pub line_visible : (v : ReportLine) → fits_line v ≡ true → all_visible (line_words v) ≡ true
line_visible (line.Event e) fits = event_visible e fits
line_visible (line.Order entry) fits = order_visible entry fits
line_visible (line.Replica r) fits = replica_visible r fits
line_visible (line.Coordinator c) fits = counts_visible c fits
line_visible (line.Sent n) fits = count_last n fits
line_visible line.End fits = refl
