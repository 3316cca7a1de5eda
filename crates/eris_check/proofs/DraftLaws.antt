-- A draft holds just the lines that were read: they are in range, they follow one another as those of a report do, and some report
-- in range begins with them.
use Rattle.std.proofs.Common.{◌≡◌, ℕ, ◌<◌, ◌==◌, ◌&&◌, nat_le, length-append, Bool, true, false, cond, Option, Some, None, Result, Ok, Err, List, [], ◌∷◌, ◌++◌, length, map, take, drop, get_or, refl, sym, ap, subst, ◌∙◌, append_assoc, append-nil, take-append-drop, arith}
use Rattle.std.specs.List.{list_all, slice_get}
use Rattle.std.proofs.lemmas.Bool.{and_from, eqb-true}
use Rattle.std.proofs.lemmas.List.{map-append, take_all, take_more}
use Rattle.std.proofs.lemmas.List.Folds.{list_all-append}
use Rattle.std.proofs.lemmas.Option.{get_or_from_slice_get, slice_get_within}
use Rattle.std.proofs.Math.ListN.{drop_of_length-le}
use Rattle.eris_audit.specs.declared.order_line.OrderLine.{OrderLine}
use Rattle.eris_base.proofs.Booleans.{left_of, right_of}
use Rattle.eris_base.specs.declared.ids.ReplicaId.{ReplicaId}
use Rattle.eris_base.specs.declared.ids.ShardId.{ShardId}
use Rattle.eris_base.specs.ConfigLimits.{ConfigValue, IsConfig}
use Rattle.eris_event.specs.declared.report.ReplicaLine.{ReplicaLine}
use Rattle.eris_event.specs.declared.report.ReplicaState.TheVariants.{Normal}
use Rattle.eris_event.specs.declared.report.Report.{Report}
use Rattle.eris_event.specs.EventRanges.{fits_count}
use Rattle.eris_report_range.specs.ReportRanges.{IsRangedReport, is_ranged_event, is_ranged_line, is_ranged_replica, replica_of, replicas_of}
use Rattle.eris_txn.specs.declared.history.HistoryEvent.{HistoryEvent}
use Rattle.eris_words.specs.declared.reason.Reason.{Reason}
use Rattle.eris_words.specs.declared.reason.Reason.TheVariants.{Word}
use Rattle.eris_check.specs.declared.draft.Draft.{Draft}
use Rattle.eris_check.specs.declared.draft.Stage.{Stage}
use Rattle.eris_check.specs.declared.draft.Stage.TheVariants as stage
use Rattle.eris_check.specs.declared.report_line.Counts.{Counts}
use Rattle.eris_check.specs.declared.report_line.ReportLine.{ReportLine}
use Rattle.eris_check.specs.declared.report_line.ReportLine.TheVariants as says
use Rattle.eris_check.specs.Drafts.{begun, due_next, is_due, is_whole, plus_counts, plus_event, plus_order, plus_replica, plus_sent, takes_end, takes_event, takes_order, takes_replica, takes_sent, with_counts, with_end, with_event, with_line, with_order, with_replica, with_sent}
use Rattle.eris_check.specs.ReportLines.{fits_counts, fits_line}
use Rattle.eris_check.proofs.ReportCuts.{counts_of, foot, said_by}

-- THE LINES OF A DRAFT

abbrev pub joined : List HistoryEvent → List OrderLine → List ReplicaLine → List ReportLine → List ReportLine
joined history order replicas others =
    map (λ e. says.Event e) history ++ (map (λ entry. says.Order entry) order ++ (map (λ p. says.Replica p) replicas ++ others))

-- the lines behind the replicas that were read
abbrev pub foot_so_far : Stage → Report → List ReportLine
foot_so_far stage.History r = []
foot_so_far stage.Order r = []
foot_so_far stage.Replicas r = []
foot_so_far stage.Coordinator r = says.Coordinator (counts_of r) ∷ []
foot_so_far stage.Sent r = says.Coordinator (counts_of r) ∷ says.Sent r.sent ∷ []
foot_so_far stage.End r = foot r

abbrev pub drafted : Draft → List ReportLine
drafted d = joined d.report.history d.report.order d.report.replicas (foot_so_far d.stage d.report)

-- what a draft is that was begun with a config and has read these lines
pub record IsDraft (config : ConfigValue) (d : Draft) (said : List ReportLine) : Type 0 where
  pub limits : IsConfig config
  pub same_config : d.report.config ≡ config
  pub due : d.due ≡ replicas_of config
  pub history : list_all is_ranged_event d.report.history ≡ true
  pub order : list_all is_ranged_line d.report.order ≡ true
  pub replicas : list_all is_ranged_replica d.report.replicas ≡ true
  pub in_turn : map replica_of d.report.replicas ≡ take (length d.report.replicas) d.due
  pub counts : fits_counts (counts_of d.report) ≡ true
  pub sent : fits_count d.report.sent ≡ true
  pub no_order : takes_event d.stage ≡ true → d.report.order ≡ []
  pub no_replica : takes_order d.stage ≡ true → d.report.replicas ≡ []
  pub none_lacking : takes_replica d.stage ≡ false → length d.report.replicas ≡ length d.due
  pub lines : said ≡ drafted d

pub begun_draft : (config : ConfigValue) → IsConfig config → IsDraft config (begun config) []
begun_draft config limits = record {
  limits = limits;
  same_config = refl;
  due = refl;
  history = refl;
  order = refl;
  replicas = refl;
  in_turn = refl;
  counts = refl;
  sent = refl;
  no_order = λ takes. refl;
  no_replica = λ takes. refl;
  none_lacking = λ takes. absurd cc;
  lines = refl;
}

-- STAGES

pub event_then_order : (s : Stage) → takes_event s ≡ true → takes_order s ≡ true
event_then_order stage.History takes = refl
event_then_order stage.Order takes = absurd cc
event_then_order stage.Replicas takes = absurd cc
event_then_order stage.Coordinator takes = absurd cc
event_then_order stage.Sent takes = absurd cc
event_then_order stage.End takes = absurd cc

pub order_then_replica : (s : Stage) → takes_order s ≡ true → takes_replica s ≡ true
order_then_replica stage.History takes = refl
order_then_replica stage.Order takes = refl
order_then_replica stage.Replicas takes = absurd cc
order_then_replica stage.Coordinator takes = absurd cc
order_then_replica stage.Sent takes = absurd cc
order_then_replica stage.End takes = absurd cc

no_foot : (s : Stage) (r : Report) → takes_replica s ≡ true → foot_so_far s r ≡ []
no_foot stage.History r takes = refl
no_foot stage.Order r takes = refl
no_foot stage.Replicas r takes = refl
no_foot stage.Coordinator r takes = absurd cc
no_foot stage.Sent r takes = absurd cc
no_foot stage.End r takes = absurd cc

still_none : (s : Stage) (some other : Report) → takes_replica s ≡ true → foot_so_far s some ≡ foot_so_far s other
still_none s some other takes = no_foot s some takes ∙ sym (no_foot s other takes)

sent_foot : (s : Stage) (r : Report) (n : ℕ) → takes_sent s ≡ true → foot_so_far s r ++ says.Sent n ∷ [] ≡ foot_so_far stage.Sent (plus_sent r n)
sent_foot stage.History r n takes = absurd cc
sent_foot stage.Order r n takes = absurd cc
sent_foot stage.Replicas r n takes = absurd cc
sent_foot stage.Coordinator r n takes = refl
sent_foot stage.Sent r n takes = absurd cc
sent_foot stage.End r n takes = absurd cc

end_foot : (s : Stage) (r : Report) → takes_end s ≡ true → foot_so_far s r ++ says.End ∷ [] ≡ foot r
end_foot stage.History r takes = absurd cc
end_foot stage.Order r takes = absurd cc
end_foot stage.Replicas r takes = absurd cc
end_foot stage.Coordinator r takes = absurd cc
end_foot stage.Sent r takes = refl
end_foot stage.End r takes = absurd cc

sent_is_late : (s : Stage) → takes_sent s ≡ true → takes_replica s ≡ false
sent_is_late stage.History takes = absurd cc
sent_is_late stage.Order takes = absurd cc
sent_is_late stage.Replicas takes = absurd cc
sent_is_late stage.Coordinator takes = refl
sent_is_late stage.Sent takes = absurd cc
sent_is_late stage.End takes = absurd cc

end_is_late : (s : Stage) → takes_end s ≡ true → takes_replica s ≡ false
end_is_late stage.History takes = absurd cc
end_is_late stage.Order takes = absurd cc
end_is_late stage.Replicas takes = absurd cc
end_is_late stage.Coordinator takes = absurd cc
end_is_late stage.Sent takes = refl
end_is_late stage.End takes = absurd cc

-- ONE MORE LINE, behind those of its kind

one_more_event : (said : List ReportLine) (history : List HistoryEvent) (order : List OrderLine) (replicas : List ReplicaLine) (others : List ReportLine) (e : HistoryEvent) →
    order ≡ [] → replicas ≡ [] → others ≡ [] → said ≡ joined history order replicas others → said ++ says.Event e ∷ [] ≡ joined (history ++ e ∷ []) order replicas others
one_more_event said history [] [] [] e a b c is =
    ap (λ (z : List ReportLine). z ++ says.Event e ∷ []) (is ∙ append-nil (map (λ e. says.Event e) history))
    ∙ sym (map-append (λ e. says.Event e) history (e ∷ []))
    ∙ sym (append-nil (map (λ e. says.Event e) (history ++ e ∷ [])))
one_more_event said history (x ∷ order) replicas others e a b c is = absurd cc
one_more_event said history [] (x ∷ replicas) others e a b c is = absurd cc
one_more_event said history [] [] (x ∷ others) e a b c is = absurd cc

one_more_entry : (said : List ReportLine) (history : List HistoryEvent) (order : List OrderLine) (replicas : List ReplicaLine) (others : List ReportLine) (entry : OrderLine) →
    replicas ≡ [] → others ≡ [] → said ≡ joined history order replicas others → said ++ says.Order entry ∷ [] ≡ joined history (order ++ entry ∷ []) replicas others
one_more_entry said history order [] [] entry a b is =
    ap (λ (z : List ReportLine). z ++ says.Order entry ∷ []) (is ∙ ap (λ (z : List ReportLine). map (λ e. says.Event e) history ++ z) (append-nil (map (λ entry. says.Order entry) order)))
    ∙ append_assoc (map (λ e. says.Event e) history) (map (λ entry. says.Order entry) order) (says.Order entry ∷ [])
    ∙ ap (λ (z : List ReportLine). map (λ e. says.Event e) history ++ z)
    (sym (map-append (λ entry. says.Order entry) order (entry ∷ [])) ∙ sym (append-nil (map (λ entry. says.Order entry) (order ++ entry ∷ []))))
one_more_entry said history order (x ∷ replicas) others entry a b is = absurd cc
one_more_entry said history order [] (x ∷ others) entry a b is = absurd cc

one_more_foot : (said : List ReportLine) (history : List HistoryEvent) (order : List OrderLine) (replicas : List ReplicaLine) (others : List ReportLine) (v : ReportLine) →
    said ≡ joined history order replicas others → said ++ v ∷ [] ≡ joined history order replicas (others ++ v ∷ [])
one_more_foot said history order replicas others v is =
    ap (λ (z : List ReportLine). z ++ v ∷ []) is
    ∙ append_assoc (map (λ e. says.Event e) history) (map (λ entry. says.Order entry) order ++ (map (λ p. says.Replica p) replicas ++ others)) (v ∷ [])
    ∙ ap (λ (z : List ReportLine). map (λ e. says.Event e) history ++ z) (
    append_assoc (map (λ entry. says.Order entry) order) (map (λ p. says.Replica p) replicas ++ others) (v ∷ [])
    ∙ ap (λ (z : List ReportLine). map (λ entry. says.Order entry) order ++ z) (append_assoc (map (λ p. says.Replica p) replicas) others (v ∷ [])))

one_more_replica : (said : List ReportLine) (history : List HistoryEvent) (order : List OrderLine) (replicas : List ReplicaLine) (others : List ReportLine) (p : ReplicaLine) →
    others ≡ [] → said ≡ joined history order replicas others → said ++ says.Replica p ∷ [] ≡ joined history order (replicas ++ p ∷ []) others
one_more_replica said history order replicas [] p a is =
    one_more_foot said history order replicas [] (says.Replica p) is
    ∙ ap (λ (z : List ReportLine). map (λ e. says.Event e) history ++ (map (λ entry. says.Order entry) order ++ z))
    (sym (map-append (λ p. says.Replica p) replicas (p ∷ [])) ∙ sym (append-nil (map (λ p. says.Replica p) (replicas ++ p ∷ []))))
one_more_replica said history order replicas (x ∷ others) p a is = absurd cc

all_more : {X : Type 0} (test : X → Bool) (xs : List X) (x : X) → list_all test xs ≡ true → test x ≡ true → list_all test (xs ++ x ∷ []) ≡ true
all_more test xs x all fits = list_all-append test xs (x ∷ []) ∙ and_from (list_all test xs) (test x && true) all (and_from (test x) true fits refl)

-- the replica whose turn it is
due_is : (found : Option (ShardId × ReplicaId)) (p : ReplicaLine) → is_due found p ≡ true → found ≡ Some (replica_of p)
due_is None p due = absurd cc
due_is (Some name) p due =
    let shard : name.0.0 ≡ p.shard.0 = eqb-true name.0.0 p.shard.0 (left_of (name.0.0 == p.shard.0) (name.1.0 == p.replica.0) due) in
    let replica : name.1.0 ≡ p.replica.0 = eqb-true name.1.0 p.replica.0 (right_of (name.0.0 == p.shard.0) (name.1.0 == p.replica.0) due) in
    ap (λ (n : ℕ). Some (record { 0 = n }, name.1)) shard ∙ ap (λ (n : ℕ). Some (p.shard, record { 0 = n })) replica

next_in_turn : (replicas : List ReplicaLine) (due : List (ShardId × ReplicaId)) (p : ReplicaLine) → map replica_of replicas ≡ take (length replicas) due →
    slice_get due (length replicas) ≡ Some (replica_of p) → map replica_of (replicas ++ p ∷ []) ≡ take (length (replicas ++ p ∷ [])) due
next_in_turn replicas due p in_turn found =
    let within : length replicas < length due = slice_get_within due (length replicas) (replica_of p) found in
    let here : get_or due (length replicas) (replica_of p) ≡ replica_of p = get_or_from_slice_get due (length replicas) (replica_of p) (replica_of p) found in
    map-append replica_of replicas (p ∷ [])
    ∙ ap (λ (z : List (ShardId × ReplicaId)). z ++ replica_of p ∷ []) in_turn
    ∙ ap (λ (name : ShardId × ReplicaId). take (length replicas) due ++ name ∷ []) (sym here)
    ∙ sym (take_more due (length replicas) (replica_of p) within)
    ∙ ap (λ (n : ℕ). take n due) (sym (length-append replicas (p ∷ [])))

-- WHAT A LINE ADDS

abbrev Adds : ConfigValue → Draft → List ReportLine → ReportLine → Draft → Type 0
Adds config d said v next = IsDraft config d said → IsDraft config next (said ++ v ∷ [])

adds_event : (config : ConfigValue) (d : Draft) (said : List ReportLine) (e : HistoryEvent) → takes_event d.stage ≡ true → is_ranged_event e ≡ true →
    Adds config d said (says.Event e) (record d { report = plus_event d.report e })
adds_event config d said e takes fits h =
    let order = event_then_order d.stage takes in
    let replica = order_then_replica d.stage order in
    record {
      limits = h.limits;
      same_config = h.same_config;
      due = h.due;
      history = all_more is_ranged_event d.report.history e h.history fits;
      order = h.order;
      replicas = h.replicas;
      in_turn = h.in_turn;
      counts = h.counts;
      sent = h.sent;
      no_order = h.no_order;
      no_replica = h.no_replica;
      none_lacking = h.none_lacking;
      lines = one_more_event said d.report.history d.report.order d.report.replicas (foot_so_far d.stage d.report) e (h.no_order takes) (h.no_replica order) (no_foot d.stage d.report replica) h.lines
          ∙ ap (joined (d.report.history ++ e ∷ []) d.report.order d.report.replicas) (still_none d.stage d.report (plus_event d.report e) replica);
    }

adds_order : (config : ConfigValue) (d : Draft) (said : List ReportLine) (entry : OrderLine) → takes_order d.stage ≡ true → is_ranged_line entry ≡ true →
    Adds config d said (says.Order entry) (record d { stage = stage.Order; report = plus_order d.report entry })
adds_order config d said entry takes fits h =
    let none = no_foot d.stage d.report (order_then_replica d.stage takes) in
    record {
      limits = h.limits;
      same_config = h.same_config;
      due = h.due;
      history = h.history;
      order = all_more is_ranged_line d.report.order entry h.order fits;
      replicas = h.replicas;
      in_turn = h.in_turn;
      counts = h.counts;
      sent = h.sent;
      no_order = λ takes. absurd cc;
      no_replica = λ _. h.no_replica takes;
      none_lacking = λ takes. absurd cc;
      lines = one_more_entry said d.report.history d.report.order d.report.replicas (foot_so_far d.stage d.report) entry (h.no_replica takes) none h.lines
          ∙ ap (joined d.report.history (d.report.order ++ entry ∷ []) d.report.replicas) none;
    }

adds_replica : (config : ConfigValue) (d : Draft) (said : List ReportLine) (p : ReplicaLine) → takes_replica d.stage ≡ true → is_due (due_next d) p ≡ true → is_ranged_replica p ≡ true →
    Adds config d said (says.Replica p) (record d { stage = stage.Replicas; report = plus_replica d.report p })
adds_replica config d said p takes due fits h =
    let none = no_foot d.stage d.report takes in
    record {
      limits = h.limits;
      same_config = h.same_config;
      due = h.due;
      history = h.history;
      order = h.order;
      replicas = all_more is_ranged_replica d.report.replicas p h.replicas fits;
      in_turn = next_in_turn d.report.replicas d.due p h.in_turn (due_is (due_next d) p due);
      counts = h.counts;
      sent = h.sent;
      no_order = λ takes. absurd cc;
      no_replica = λ takes. absurd cc;
      none_lacking = λ takes. absurd cc;
      lines = one_more_replica said d.report.history d.report.order d.report.replicas (foot_so_far d.stage d.report) p none h.lines
          ∙ ap (joined d.report.history d.report.order (d.report.replicas ++ p ∷ [])) none;
    }

adds_counts : (config : ConfigValue) (d : Draft) (said : List ReportLine) (c : Counts) → takes_replica d.stage ≡ true → length d.report.replicas ≡ length d.due → fits_counts c ≡ true →
    Adds config d said (says.Coordinator c) (record d { stage = stage.Coordinator; report = plus_counts d.report c })
adds_counts config d said c takes all fits h = record {
  limits = h.limits;
  same_config = h.same_config;
  due = h.due;
  history = h.history;
  order = h.order;
  replicas = h.replicas;
  in_turn = h.in_turn;
  counts = fits;
  sent = h.sent;
  no_order = λ takes. absurd cc;
  no_replica = λ takes. absurd cc;
  none_lacking = λ _. all;
  lines = one_more_foot said d.report.history d.report.order d.report.replicas [] (says.Coordinator c)
      (h.lines ∙ ap (joined d.report.history d.report.order d.report.replicas) (no_foot d.stage d.report takes));
}

adds_sent : (config : ConfigValue) (d : Draft) (said : List ReportLine) (n : ℕ) → takes_sent d.stage ≡ true → fits_count n ≡ true →
    Adds config d said (says.Sent n) (record d { stage = stage.Sent; report = plus_sent d.report n })
adds_sent config d said n takes fits h = record {
  limits = h.limits;
  same_config = h.same_config;
  due = h.due;
  history = h.history;
  order = h.order;
  replicas = h.replicas;
  in_turn = h.in_turn;
  counts = h.counts;
  sent = fits;
  no_order = λ takes. absurd cc;
  no_replica = λ takes. absurd cc;
  none_lacking = λ _. h.none_lacking (sent_is_late d.stage takes);
  lines = one_more_foot said d.report.history d.report.order d.report.replicas (foot_so_far d.stage d.report) (says.Sent n) h.lines
      ∙ ap (joined d.report.history d.report.order d.report.replicas) (sent_foot d.stage d.report n takes);
}

adds_end : (config : ConfigValue) (d : Draft) (said : List ReportLine) → takes_end d.stage ≡ true → Adds config d said says.End (record d { stage = stage.End })
adds_end config d said takes h = record {
  limits = h.limits;
  same_config = h.same_config;
  due = h.due;
  history = h.history;
  order = h.order;
  replicas = h.replicas;
  in_turn = h.in_turn;
  counts = h.counts;
  sent = h.sent;
  no_order = λ takes. absurd cc;
  no_replica = λ takes. absurd cc;
  none_lacking = λ _. h.none_lacking (end_is_late d.stage takes);
  lines = one_more_foot said d.report.history d.report.order d.report.replicas (foot_so_far d.stage d.report) says.End h.lines
      ∙ ap (joined d.report.history d.report.order d.report.replicas) (end_foot d.stage d.report takes);
}

taken : (test : Bool) (made next : Draft) → ◌≡◌ {A = Result Draft Reason} (cond test (Ok made) (Err Word)) (Ok next) → (test ≡ true) × (made ≡ next)
taken true made next read = (refl, cc)
taken false made next read = absurd cc

-- A LINE THAT A DRAFT TAKES is one more of its lines
pub one_more_line : (config : ConfigValue) (d next : Draft) (said : List ReportLine) (v : ReportLine) → fits_line v ≡ true → with_line d v ≡ Ok next →
    IsDraft config d said → IsDraft config next (said ++ v ∷ [])
unfolding with_event with_order with_replica with_counts with_sent with_end
one_more_line config d next said (says.Event e) fits read h =
    let t = taken (takes_event d.stage) (record d { report = plus_event d.report e }) next read in
    subst (λ (z : Draft). IsDraft config z (said ++ says.Event e ∷ [])) t.1 (adds_event config d said e t.0 fits h)
one_more_line config d next said (says.Order entry) fits read h =
    let t = taken (takes_order d.stage) (record d { stage = stage.Order; report = plus_order d.report entry }) next read in
    subst (λ (z : Draft). IsDraft config z (said ++ says.Order entry ∷ [])) t.1 (adds_order config d said entry t.0 fits h)
one_more_line config d next said (says.Replica p) fits read h =
    let t = taken (takes_replica d.stage && is_due (due_next d) p) (record d { stage = stage.Replicas; report = plus_replica d.report p }) next read in
    let ranged = right_of (nat_le p.replica.0 255) (is_ranged_replica p) (right_of (nat_le p.shard.0 255) (nat_le p.replica.0 255 && is_ranged_replica p) fits) in
    subst (λ (z : Draft). IsDraft config z (said ++ says.Replica p ∷ [])) t.1 (
    adds_replica config d said p (left_of (takes_replica d.stage) (is_due (due_next d) p) t.0) (right_of (takes_replica d.stage) (is_due (due_next d) p) t.0) ranged h)
one_more_line config d next said (says.Coordinator c) fits read h =
    let t = taken (takes_replica d.stage && length d.report.replicas == length d.due) (record d { stage = stage.Coordinator; report = plus_counts d.report c }) next read in
    let all = eqb-true (length d.report.replicas) (length d.due) (right_of (takes_replica d.stage) (length d.report.replicas == length d.due) t.0) in
    subst (λ (z : Draft). IsDraft config z (said ++ says.Coordinator c ∷ [])) t.1 (
    adds_counts config d said c (left_of (takes_replica d.stage) (length d.report.replicas == length d.due) t.0) all fits h)
one_more_line config d next said (says.Sent n) fits read h =
    let t = taken (takes_sent d.stage) (record d { stage = stage.Sent; report = plus_sent d.report n }) next read in
    subst (λ (z : Draft). IsDraft config z (said ++ says.Sent n ∷ [])) t.1 (adds_sent config d said n t.0 fits h)
one_more_line config d next said says.End fits read h =
    let t = taken (takes_end d.stage) (record d { stage = stage.End }) next read in
    subst (λ (z : Draft). IsDraft config z (said ++ says.End ∷ [])) t.1 (adds_end config d said t.0 h)

-- A WHOLE DRAFT is a report in range, and its lines are that report's

whole_is_late : (s : Stage) → is_whole s ≡ true → takes_replica s ≡ false
whole_is_late stage.History whole = absurd cc
whole_is_late stage.Order whole = absurd cc
whole_is_late stage.Replicas whole = absurd cc
whole_is_late stage.Coordinator whole = absurd cc
whole_is_late stage.Sent whole = absurd cc
whole_is_late stage.End whole = refl

whole_foot : (s : Stage) (r : Report) → is_whole s ≡ true → foot_so_far s r ≡ foot r
whole_foot stage.History r whole = absurd cc
whole_foot stage.Order r whole = absurd cc
whole_foot stage.Replicas r whole = absurd cc
whole_foot stage.Coordinator r whole = absurd cc
whole_foot stage.Sent r whole = absurd cc
whole_foot stage.End r whole = refl

-- ranged, given that each replica has its line
ranged_with : (config : ConfigValue) (d : Draft) (said : List ReportLine) (more : List ReplicaLine) → IsDraft config d said → list_all is_ranged_replica more ≡ true →
    map replica_of (d.report.replicas ++ more) ≡ replicas_of config → IsRangedReport (record d.report { replicas = d.report.replicas ++ more })
ranged_with config d said more h ranged names =
    let c = d.report in
    let behind_current = right_of (fits_count c.current.0) (fits_count c.target.0 && (fits_count c.found && fits_count c.dropped)) h.counts in
    let behind_target = right_of (fits_count c.target.0) (fits_count c.found && fits_count c.dropped) behind_current in
    record {
      config = subst (λ (z : ConfigValue). IsConfig z) (sym h.same_config) h.limits;
      history = h.history;
      order = h.order;
      each_replica = names ∙ ap replicas_of (sym h.same_config);
      replicas = list_all-append is_ranged_replica d.report.replicas more ∙ and_from (list_all is_ranged_replica d.report.replicas) (list_all is_ranged_replica more) h.replicas ranged;
      current = left_of (fits_count c.current.0) (fits_count c.target.0 && (fits_count c.found && fits_count c.dropped)) h.counts;
      target = left_of (fits_count c.target.0) (fits_count c.found && fits_count c.dropped) behind_current;
      found = left_of (fits_count c.found) (fits_count c.dropped) behind_target;
      dropped = right_of (fits_count c.found) (fits_count c.dropped) behind_target;
      sent = h.sent;
    }

pub whole_ranged : (config : ConfigValue) (d : Draft) (said : List ReportLine) → is_whole d.stage ≡ true → IsDraft config d said → IsRangedReport d.report
whole_ranged config d said whole h =
    let all = h.none_lacking (whole_is_late d.stage whole) in
    let names : map replica_of d.report.replicas ≡ replicas_of config =
    h.in_turn ∙ take_all (length d.report.replicas) d.due (omega (arith, all)) ∙ h.due in
    subst (λ (z : List ReplicaLine). IsRangedReport (record d.report { replicas = z })) (append-nil d.report.replicas)
    (ranged_with config d said [] h refl (ap (map replica_of) (append-nil d.report.replicas) ∙ names))

pub whole_said : (config : ConfigValue) (d : Draft) (said : List ReportLine) → is_whole d.stage ≡ true → IsDraft config d said → said ≡ said_by d.report
whole_said config d said whole h = h.lines ∙ ap (joined d.report.history d.report.order d.report.replicas) (whole_foot d.stage d.report whole)

-- ANY DRAFT BEGINS A REPORT: the replicas that lack a line get one

-- a replica that has done nothing
abbrev idle : ShardId × ReplicaId → ReplicaLine
idle name = record {
  shard = name.0;
  replica = name.1;
  state = Normal;
  epoch = record { 0 = 0 };
  view = record { 0 = 0 };
  held = 0;
  length = 0;
  settled = 0;
}

idle_names : (names : List (ShardId × ReplicaId)) → map replica_of (map idle names) ≡ names
idle_names [] = refl
idle_names (name ∷ names) = ap (λ (z : List (ShardId × ReplicaId)). name ∷ z) (idle_names names)

idle_ranged : (names : List (ShardId × ReplicaId)) → list_all is_ranged_replica (map idle names) ≡ true
idle_ranged [] = refl
idle_ranged (name ∷ names) = idle_ranged names

abbrev lacking : Draft → List ReplicaLine
lacking d = map idle (drop (length d.report.replicas) d.due)

abbrev pub completed : Draft → Report
completed d = record d.report { replicas = d.report.replicas ++ lacking d }

pub completed_ranged : (config : ConfigValue) (d : Draft) (said : List ReportLine) → IsDraft config d said → IsRangedReport (completed d)
completed_ranged config d said h =
    ranged_with config d said (lacking d) h (idle_ranged (drop (length d.report.replicas) d.due)) (
    map-append replica_of d.report.replicas (lacking d)
    ∙ ap (λ (z : List (ShardId × ReplicaId)). z ++ map replica_of (lacking d)) h.in_turn
    ∙ ap (λ (z : List (ShardId × ReplicaId)). take (length d.report.replicas) d.due ++ z) (idle_names (drop (length d.report.replicas) d.due))
    ∙ take-append-drop (length d.report.replicas) d.due ∙ h.due)

-- what is behind the lines of a stage
behind_stage : (s : Stage) (r : Report) (names : List (ShardId × ReplicaId)) → (takes_replica s ≡ false → names ≡ []) →
    (others : List ReportLine) × (map (λ p. says.Replica p) (map idle names) ++ foot r ≡ foot_so_far s r ++ others)
behind_stage stage.History r names none = (map (λ p. says.Replica p) (map idle names) ++ foot r, refl)
behind_stage stage.Order r names none = (map (λ p. says.Replica p) (map idle names) ++ foot r, refl)
behind_stage stage.Replicas r names none = (map (λ p. says.Replica p) (map idle names) ++ foot r, refl)
behind_stage stage.Coordinator r names none =
    (says.Sent r.sent ∷ says.End ∷ [], ap (λ (z : List (ShardId × ReplicaId)). map (λ p. says.Replica p) (map idle z) ++ foot r) (none refl))
behind_stage stage.Sent r names none = (says.End ∷ [], ap (λ (z : List (ShardId × ReplicaId)). map (λ p. says.Replica p) (map idle z) ++ foot r) (none refl))
behind_stage stage.End r names none = ([], ap (λ (z : List (ShardId × ReplicaId)). map (λ p. says.Replica p) (map idle z) ++ foot r) (none refl))

regroup : (history : List HistoryEvent) (order : List OrderLine) (replicas more : List ReplicaLine) (last others rest : List ReportLine) →
    map (λ p. says.Replica p) more ++ last ≡ others ++ rest → joined history order (replicas ++ more) last ≡ joined history order replicas others ++ rest
regroup history order replicas more last others rest same =
    let all_events : List ReportLine = map (λ e. says.Event e) history in
    let all_order : List ReportLine = map (λ entry. says.Order entry) order in
    let all_replicas : List ReportLine = map (λ p. says.Replica p) replicas in
    let inner : map (λ p. says.Replica p) (replicas ++ more) ++ last ≡ (all_replicas ++ others) ++ rest =
    ap (λ (z : List ReportLine). z ++ last) (map-append (λ p. says.Replica p) replicas more) ∙ append_assoc all_replicas (map (λ p. says.Replica p) more) last
    ∙ ap (λ (z : List ReportLine). all_replicas ++ z) same ∙ sym (append_assoc all_replicas others rest) in
    ap (λ (z : List ReportLine). all_events ++ (all_order ++ z)) inner
    ∙ ap (λ (z : List ReportLine). all_events ++ z) (sym (append_assoc all_order (all_replicas ++ others) rest))
    ∙ sym (append_assoc all_events (all_order ++ (all_replicas ++ others)) rest)

pub completed_begins : (config : ConfigValue) (d : Draft) (said : List ReportLine) → IsDraft config d said → (others : List ReportLine) × (said_by (completed d) ≡ said ++ others)
completed_begins config d said h =
    let b = behind_stage d.stage d.report (drop (length d.report.replicas) d.due) (λ late. drop_of_length-le d.due (omega (arith, h.none_lacking late))) in
    (b.0, regroup d.report.history d.report.order d.report.replicas (lacking d) (foot d.report) (foot_so_far d.stage d.report) b.0 b.1 ∙ ap (λ (z : List ReportLine). z ++ b.0) (sym h.lines))
