-- Lines are read as a report exactly where they are those of one in range; else reading is left at a line, and then it is left there
-- whatever lines follow.
use Rattle.std.proofs.Common.{◌≡◌, ℕ, ◌+◌, ◌==◌, ◌&&◌, Bool, true, false, cond, Some, Result, Ok, Err, List, [], ◌∷◌, ◌++◌, length, map, refl, sym, ap, subst, ◌∙◌, append_assoc, append-nil, arith}
use Rattle.std.specs.List.{list_all, slice_get}
use Rattle.std.proofs.lemmas.Bool.{and_from}
use Rattle.std.proofs.lemmas.List.{length-map}
use Rattle.eris_audit.specs.declared.order_line.OrderLine.{OrderLine}
use Rattle.eris_base.proofs.Booleans.{left_of, number_self, right_of}
use Rattle.eris_base.specs.declared.ids.ReplicaId.{ReplicaId}
use Rattle.eris_base.specs.declared.ids.ShardId.{ShardId}
use Rattle.eris_base.specs.ConfigLimits.{ConfigValue}
use Rattle.eris_event.specs.declared.report.ReplicaLine.{ReplicaLine}
use Rattle.eris_event.specs.declared.report.Report.{Report}
use Rattle.eris_event.specs.EventRanges.{fits_count}
use Rattle.eris_report_range.specs.ReportRanges.{IsRangedReport, is_ranged_event, is_ranged_line, replica_of, replicas_of}
use Rattle.eris_txn.specs.declared.history.HistoryEvent.{HistoryEvent}
use Rattle.eris_words.specs.declared.reason.Reason.{Reason}
use Rattle.eris_words.specs.declared.reason.Reason.TheVariants.{Word}
use Rattle.eris_words.specs.Forms.{◌>>=◌}
use Rattle.eris_words.proofs.FormLaws.{bind_ok}
use Rattle.eris_check.specs.declared.draft.Draft.{Draft}
use Rattle.eris_check.specs.declared.draft.Stage.{Stage}
use Rattle.eris_check.specs.declared.draft.Stage.TheVariants as stage
use Rattle.eris_check.specs.declared.report_line.ReportLine.{ReportLine}
use Rattle.eris_check.specs.declared.report_line.ReportLine.TheVariants as says
use Rattle.eris_check.specs.Drafts.{begun, is_due, is_whole, takes_order, takes_replica, with_counts, with_end, with_event, with_line, with_order, with_replica, with_sent}
use Rattle.eris_check.specs.FullLines.{text_of}
use Rattle.eris_check.specs.ReportForms.{line_of}
use Rattle.eris_check.specs.ReportLines.{fits_counts, fits_line, fits_replica_line}
use Rattle.eris_check.specs.TextReading.{body_read, draft_with, words_of}
use Rattle.eris_check.proofs.BodySteps.{body_goes_on, body_refused}
use Rattle.eris_check.proofs.DraftLaws.{IsDraft, one_more_line, order_then_replica}
use Rattle.eris_check.proofs.LineLaws.{line_complete, line_sound}
use Rattle.eris_check.proofs.ReportCuts.{counts_fit, counts_of, foot, replicas_fit, said_by, text_line}

-- A LINE, READ

record IsTaken (d next : Draft) (bytes : List ℕ) : Type 0 where
  said : ReportLine
  fits : fits_line said ≡ true
  text : bytes ≡ text_line said
  added : with_line d said ≡ Ok next

line_taken : (d next : Draft) (bytes : List ℕ) → draft_with d bytes ≡ Ok next → IsTaken d next bytes
line_taken d next bytes read =
    let a = bind_ok (words_of (text_of bytes)) (λ words. line_of words >>= with_line d) next read in
    let b = bind_ok (line_of a.0) (with_line d) next a.2 in
    let s = line_sound bytes b.0 (ap (λ (r : Result (List (List ℕ)) Reason). r >>= line_of) a.1 ∙ b.1) in
    record { said = b.0; fits = s.0; text = s.1; added = b.2 }

line_again : (d : Draft) (v : ReportLine) → fits_line v ≡ true → draft_with d (text_line v) ≡ with_line d v
line_again d v fits =
    let a = bind_ok (words_of (text_of (text_line v))) line_of v (line_complete v fits) in
    ap (λ (r : Result (List (List ℕ)) Reason). ◌>>=◌ {B = Draft} r (λ words. line_of words >>= with_line d)) a.1
    ∙ ap (λ (r : Result ReportLine Reason). r >>= with_line d) a.2

body_step : (n : ℕ) (d next : Draft) (v : ReportLine) (lines : List (List ℕ)) → fits_line v ≡ true → with_line d v ≡ Ok next →
    body_read n d (text_line v ∷ lines) ≡ body_read (n + 1) next lines
body_step n d next v lines fits added =
    sym (body_goes_on n d next (text_line v ∷ lines) lines (text_line v) (body_read n d (text_line v ∷ lines)) refl (line_again d v fits ∙ added) refl)

-- THE LINES OF A REPORT IN RANGE ARE READ AS IT

abbrev ReadsAs : Draft → List ReportLine → Report → Type 0
ReadsAs d vs r = (n : ℕ) → body_read n d (map text_line vs) ≡ Ok r

reads_on : (d next : Draft) (v : ReportLine) (vs : List ReportLine) (r : Report) → fits_line v ≡ true → with_line d v ≡ Ok next → ReadsAs next vs r → ReadsAs d (v ∷ vs) r
reads_on d next v vs r fits added more n = body_step n d next v (map text_line vs) fits added ∙ more (n + 1)

-- a report of which these parts were read
abbrev part : ConfigValue → List HistoryEvent → List OrderLine → List ReplicaLine → Report
part config history order replicas = record {
  config = config;
  history = history;
  order = order;
  replicas = replicas;
  current = record { 0 = 0 };
  target = record { 0 = 0 };
  found = 0;
  dropped = 0;
  sent = 0;
}

abbrev at : Stage → Report → Draft
at s r = record { stage = s; due = replicas_of r.config; report = r }

history_read : (config : ConfigValue) (history more : List HistoryEvent) (vs : List ReportLine) (r : Report) → list_all is_ranged_event more ≡ true →
    ReadsAs (at stage.History (part config (history ++ more) [] [])) vs r → ReadsAs (at stage.History (part config history [] [])) (map (λ e. says.Event e) more ++ vs) r
unfolding with_event
history_read config history [] vs r fits rest =
    subst (λ (z : List HistoryEvent). ReadsAs (at stage.History (part config z [] [])) vs r) (append-nil history) rest
history_read config history (e ∷ more) vs r fits rest =
    reads_on (at stage.History (part config history [] [])) (at stage.History (part config (history ++ e ∷ []) [] [])) (says.Event e) (map (λ e. says.Event e) more ++ vs) r
    (left_of (is_ranged_event e) (list_all is_ranged_event more) fits) refl
    (history_read config (history ++ e ∷ []) more vs r (right_of (is_ranged_event e) (list_all is_ranged_event more) fits)
    (subst (λ (z : List HistoryEvent). ReadsAs (at stage.History (part config z [] [])) vs r) (sym (append_assoc history (e ∷ []) more)) rest))

if_so : (test : Bool) (d : Draft) → test ≡ true → ◌≡◌ {A = Result Draft Reason} (cond test (Ok d) (Err Word)) (Ok d)
if_so test d is = ap (λ (z : Bool). ◌>>=◌ {A = Bool} {B = Draft} (Ok z) (λ z. cond z (Ok d) (Err Word))) is

order_read : (config : ConfigValue) (history : List HistoryEvent) (s : Stage) (order more : List OrderLine) (vs : List ReportLine) (r : Report) → takes_order s ≡ true →
    list_all is_ranged_line more ≡ true → ((s : Stage) → takes_replica s ≡ true → ReadsAs (at s (part config history (order ++ more) [])) vs r) →
    ReadsAs (at s (part config history order [])) (map (λ entry. says.Order entry) more ++ vs) r
unfolding with_order
order_read config history s order [] vs r takes fits rest =
    subst (λ (z : List OrderLine). ReadsAs (at s (part config history z [])) vs r) (append-nil order) (rest s (order_then_replica s takes))
order_read config history s order (entry ∷ more) vs r takes fits rest =
    reads_on (at s (part config history order [])) (at stage.Order (part config history (order ++ entry ∷ []) [])) (says.Order entry) (map (λ entry. says.Order entry) more ++ vs) r
    (left_of (is_ranged_line entry) (list_all is_ranged_line more) fits)
    (if_so (takes_order s) (at stage.Order (part config history (order ++ entry ∷ []) [])) takes)
    (order_read config history stage.Order (order ++ entry ∷ []) more vs r refl (right_of (is_ranged_line entry) (list_all is_ranged_line more) fits)
    (λ s late. subst (λ (z : List OrderLine). ReadsAs (at s (part config history z [])) vs r) (sym (append_assoc order (entry ∷ []) more)) (rest s late)))

turn_comes : (before : List ReplicaLine) (p : ReplicaLine) (behind : List ReplicaLine) →
    slice_get (map replica_of (before ++ p ∷ behind)) (length before) ≡ Some (replica_of p)
turn_comes [] p behind = refl
turn_comes (one ∷ before) p behind = turn_comes before p behind

is_its_turn : (config : ConfigValue) (before : List ReplicaLine) (p : ReplicaLine) (behind : List ReplicaLine) → map replica_of (before ++ p ∷ behind) ≡ replicas_of config →
    is_due (slice_get (replicas_of config) (length before)) p ≡ true
is_its_turn config before p behind names =
    ap (λ (z : List (ShardId × ReplicaId)). is_due (slice_get z (length before)) p) (sym names)
    ∙ ap (λ found. is_due found p) (turn_comes before p behind)
    ∙ and_from (p.shard.0 == p.shard.0) (p.replica.0 == p.replica.0) (number_self p.shard.0) (number_self p.replica.0)

replicas_read : (config : ConfigValue) (history : List HistoryEvent) (order : List OrderLine) (s : Stage) (replicas more : List ReplicaLine) (vs : List ReportLine) (r : Report) →
    takes_replica s ≡ true → list_all fits_replica_line more ≡ true → map replica_of (replicas ++ more) ≡ replicas_of config →
    ((s : Stage) → takes_replica s ≡ true → ReadsAs (at s (part config history order (replicas ++ more))) vs r) →
    ReadsAs (at s (part config history order replicas)) (map (λ p. says.Replica p) more ++ vs) r
unfolding with_replica
replicas_read config history order s replicas [] vs r takes fits names rest =
    subst (λ (z : List ReplicaLine). ReadsAs (at s (part config history order z)) vs r) (append-nil replicas) (rest s takes)
replicas_read config history order s replicas (p ∷ more) vs r takes fits names rest =
    let turn = is_its_turn config replicas p more names in
    reads_on (at s (part config history order replicas)) (at stage.Replicas (part config history order (replicas ++ p ∷ []))) (says.Replica p) (map (λ p. says.Replica p) more ++ vs) r
    (left_of (fits_replica_line p) (list_all fits_replica_line more) fits)
    (if_so (takes_replica s && is_due (slice_get (replicas_of config) (length replicas)) p) (at stage.Replicas (part config history order (replicas ++ p ∷ [])))
    (and_from (takes_replica s) (is_due (slice_get (replicas_of config) (length replicas)) p) takes turn))
    (replicas_read config history order stage.Replicas (replicas ++ p ∷ []) more vs r refl (right_of (fits_replica_line p) (list_all fits_replica_line more) fits)
    (ap (map replica_of) (append_assoc replicas (p ∷ []) more) ∙ names)
    (λ s late. subst (λ (z : List ReplicaLine). ReadsAs (at s (part config history order z)) vs r) (sym (append_assoc replicas (p ∷ []) more)) (rest s late)))

nothing_more : (r : Report) → ReadsAs (at stage.End r) [] r
unfolding body_read
nothing_more r n = refl

-- the report but for how many packets were sent
abbrev unsent : Report → Report
unsent r = record r { sent = 0 }

foot_read : (r : Report) (s : Stage) → takes_replica s ≡ true → length r.replicas ≡ length (replicas_of r.config) → fits_counts (counts_of r) ≡ true → fits_count r.sent ≡ true →
    ReadsAs (at s (part r.config r.history r.order r.replicas)) (foot r) r
unfolding with_counts with_sent with_end
foot_read r s takes all counts sent =
    let last = nothing_more r in
    reads_on (at s (part r.config r.history r.order r.replicas)) (at stage.Coordinator (unsent r)) (says.Coordinator (counts_of r)) (says.Sent r.sent ∷ says.End ∷ []) r counts
    (if_so (takes_replica s && length r.replicas == length (replicas_of r.config)) (at stage.Coordinator (unsent r))
    (and_from (takes_replica s) (length r.replicas == length (replicas_of r.config)) takes
    (ap (λ (k : ℕ). length r.replicas == k) (sym all) ∙ number_self (length r.replicas))))
    (reads_on (at stage.Coordinator (unsent r)) (at stage.Sent r) (says.Sent r.sent) (says.End ∷ []) r sent refl
    (reads_on (at stage.Sent r) (at stage.End r) says.End [] r refl refl last))

pub body_complete : (r : Report) → IsRangedReport r → (n : ℕ) → body_read n (begun r.config) (map text_line (said_by r)) ≡ Ok r
body_complete r h =
    let all : length r.replicas ≡ length (replicas_of r.config) = sym (length-map r.replicas replica_of) ∙ ap length h.each_replica in
    history_read r.config [] r.history (map (λ entry. says.Order entry) r.order ++ (map (λ p. says.Replica p) r.replicas ++ foot r)) r h.history
    (order_read r.config r.history stage.History [] r.order (map (λ p. says.Replica p) r.replicas ++ foot r) r refl h.order
    (λ s late. replicas_read r.config r.history r.order s [] r.replicas (foot r) r late (replicas_fit r h) h.each_replica
    (λ s late. foot_read r s late all (counts_fit r h) h.sent)))

-- LINES THAT ARE READ AS A REPORT

pub record IsBody (config : ConfigValue) (said : List ReportLine) (lines : List (List ℕ)) (r : Report) : Type 0 where
  pub more : List ReportLine
  pub last : Draft
  pub drafted : IsDraft config last (said ++ more)
  pub whole : is_whole last.stage ≡ true
  pub same : last.report ≡ r
  pub text : lines ≡ map text_line more

ended_so : (test : Bool) (r made : Report) (n : ℕ) → ◌≡◌ {A = Result Report ℕ} (cond test (Ok made) (Err n)) (Ok r) → (test ≡ true) × (made ≡ r)
ended_so true r made n read = (refl, cc)
ended_so false r made n read = absurd cc

abbrev by_draft : ℕ → List (List ℕ) → Result Draft Reason → Result Report ℕ
by_draft n lines found = elim found [
  | Ok next ↦ body_read (n + 1) next lines
  | Err why ↦ Err n
]

sound_step : (config : ConfigValue) (bytes : List ℕ) (lines : List (List ℕ)) (n : ℕ) (d : Draft) (said : List ReportLine) (r : Report) →
    ((next : Draft) (said : List ReportLine) → IsDraft config next said → body_read (n + 1) next lines ≡ Ok r → IsBody config said lines r) →
    IsDraft config d said → (found : Result Draft Reason) → found ≡ draft_with d bytes → by_draft n lines found ≡ Ok r → IsBody config said (bytes ∷ lines) r
sound_step config bytes lines n d said r behind h (Ok next) is read =
    let t = line_taken d next bytes (sym is) in
    let b = behind next (said ++ t.said ∷ []) (one_more_line config d next said t.said t.fits t.added h) read in
    record {
      more = t.said ∷ b.more;
      last = b.last;
      drafted = subst (λ (z : List ReportLine). IsDraft config b.last z) (append_assoc said (t.said ∷ []) b.more) b.drafted;
      whole = b.whole;
      same = b.same;
      text = ap (λ (z : List ℕ). z ∷ lines) t.text ∙ ap (λ (z : List (List ℕ)). text_line t.said ∷ z) b.text;
    }
sound_step config bytes lines n d said r behind h (Err why) is read = absurd cc

pub body_sound : (config : ConfigValue) (lines : List (List ℕ)) (n : ℕ) (d : Draft) (said : List ReportLine) (r : Report) → IsDraft config d said →
    body_read n d lines ≡ Ok r → IsBody config said lines r
unfolding body_read
body_sound config [] n d said r h read =
    let e = ended_so (is_whole d.stage) r d.report n read in
    record {
      more = [];
      last = d;
      drafted = subst (λ (z : List ReportLine). IsDraft config d z) (sym (append-nil said)) h;
      whole = e.0;
      same = e.1;
      text = refl;
    }
body_sound config (bytes ∷ lines) n d said r h read =
    sound_step config bytes lines n d said r (λ next more. body_sound config lines (n + 1) next more r) h (draft_with d bytes) refl read

-- LINES AT WHICH READING IS LEFT

pub record IsLeft (config : ConfigValue) (said : List ReportLine) (n : ℕ) (d : Draft) (lines : List (List ℕ)) (place : ℕ) : Type 0 where
  pub good : List ReportLine
  pub last : Draft
  pub drafted : IsDraft config last (said ++ good)
  pub counted : place ≡ n + length good
  pub rest : List (List ℕ)
  pub text : lines ≡ map text_line good ++ rest
  pub refused : (bad : List ℕ) (more others : List (List ℕ)) → rest ≡ bad ∷ more → body_read n d (map text_line good ++ bad ∷ others) ≡ Err place

ended_short : (test : Bool) (made : Report) (n place : ℕ) → ◌≡◌ {A = Result Report ℕ} (cond test (Ok made) (Err n)) (Err place) → place ≡ n
ended_short true made n place read = absurd cc
ended_short false made n place read = cc

left_step : (config : ConfigValue) (bytes : List ℕ) (lines : List (List ℕ)) (n : ℕ) (d : Draft) (said : List ReportLine) (place : ℕ) →
    ((next : Draft) (said : List ReportLine) → IsDraft config next said → body_read (n + 1) next lines ≡ Err place → IsLeft config said (n + 1) next lines place) →
    IsDraft config d said → (found : Result Draft Reason) → found ≡ draft_with d bytes → by_draft n lines found ≡ Err place → IsLeft config said n d (bytes ∷ lines) place
left_step config bytes lines n d said place behind h (Ok next) is read =
    let t = line_taken d next bytes (sym is) in
    let b = behind next (said ++ t.said ∷ []) (one_more_line config d next said t.said t.fits t.added h) read in
    record {
      good = t.said ∷ b.good;
      last = b.last;
      drafted = subst (λ (z : List ReportLine). IsDraft config b.last z) (append_assoc said (t.said ∷ []) b.good) b.drafted;
      counted = omega (arith, b.counted);
      rest = b.rest;
      text = ap (λ (z : List ℕ). z ∷ lines) t.text ∙ ap (λ (z : List (List ℕ)). text_line t.said ∷ z) b.text;
      refused = λ bad more others is.
          body_step n d next t.said (map text_line b.good ++ bad ∷ others) t.fits t.added ∙ b.refused bad more others is;
    }
left_step config bytes lines n d said place behind h (Err why) is read =
    let here : place ≡ n = cc in
    record {
      good = [];
      last = d;
      drafted = subst (λ (z : List ReportLine). IsDraft config d z) (sym (append-nil said)) h;
      counted = omega (arith, here);
      rest = bytes ∷ lines;
      text = refl;
      refused = λ bad more others same.
          let first : bytes ≡ bad = cc in
          body_refused n d (bad ∷ others) others bad why (body_read n d (bad ∷ others)) refl (ap (draft_with d) (sym first) ∙ sym is) refl
          ∙ ap (λ (k : ℕ). Err k) (sym here);
    }

pub body_left : (config : ConfigValue) (lines : List (List ℕ)) (n : ℕ) (d : Draft) (said : List ReportLine) (place : ℕ) → IsDraft config d said →
    body_read n d lines ≡ Err place → IsLeft config said n d lines place
unfolding body_read
body_left config [] n d said place h read =
    let here = ended_short (is_whole d.stage) d.report n place read in
    record {
      good = [];
      last = d;
      drafted = subst (λ (z : List ReportLine). IsDraft config d z) (sym (append-nil said)) h;
      counted = omega (arith, here);
      rest = [];
      text = refl;
      refused = λ bad more others same. absurd cc;
    }
body_left config (bytes ∷ lines) n d said place h read =
    left_step config bytes lines n d said place (λ next more. body_left config lines (n + 1) next more place) h (draft_with d bytes) refl read
