-- The lines of the order, of replicas and of the coordinator, and the last two, are read as just
-- what they spell.
use Rattle.std.proofs.Common.{◌≡◌, ◌∙◌, ◌&&◌, ℕ, Bool, true, false, cond, nat_le, codes, Ok, Err, List, [], ◌∷◌, map, refl, sym, ap, subst, lit<}
use Rattle.std.specs.List.{list_all}
use Rattle.std.proofs.lemmas.Bool.{and_from}
use Rattle.eris_audit.specs.declared.outcome.Outcome.{Outcome}
use Rattle.eris_base.proofs.Booleans.{left_of, right_of}
use Rattle.eris_base.specs.declared.ids.ShardId.{ShardId}
use Rattle.eris_base.specs.declared.ids.TxnId.{TxnId}
use Rattle.eris_base.specs.Places.{are_stamp_places}
use Rattle.eris_base.specs.Stamps.{StampValue}
use Rattle.eris_event.specs.declared.report.ReplicaLine.{ReplicaLine}
use Rattle.eris_event.specs.declared.report.ReplicaState.{ReplicaState}
use Rattle.eris_event.specs.EventRanges.{fits_count}
use Rattle.eris_grammar.specs.Fields.{count, number}
use Rattle.eris_grammar.proofs.FieldLaws.{is_count, is_number}
use Rattle.eris_report.specs.OrderText.{outcome_word}
use Rattle.eris_report.specs.ReplicaText.{progress_words, state_word}
use Rattle.eris_report_range.specs.ReportRanges.{is_ranged_id, is_ranged_place, is_ranged_replica}
use Rattle.eris_words.specs.declared.reason.Reason.TheVariants as reason
use Rattle.eris_words.specs.Decimal.{decimal}
use Rattle.eris_words.specs.Forms.{◌>>=◌, pair, whole}
use Rattle.eris_words.specs.Words.{id_word, place_word}
use Rattle.eris_words.proofs.FormLaws.{IsForm, bind_ok, is_pair, ok_is, whole_again, whole_takes}
use Rattle.eris_check.specs.declared.report_line.Counts.{Counts}
use Rattle.eris_check.specs.declared.report_line.ReportLine.{ReportLine}
use Rattle.eris_check.specs.declared.report_line.ReportLine.TheVariants as line
use Rattle.eris_check.specs.ReportFields.{id, items, labelled, read_place}
use Rattle.eris_check.specs.ReportForms.{coordinator_of, counts, end_of, id_and_outcome, if_stamp, order_of, places_of, progress, replica_and_state, replica_of, sent_of, stamp_of}
use Rattle.eris_check.specs.ReportLines.{fits_counts, fits_replica_line}
use Rattle.eris_check.specs.ReportWords.{outcome, state}
use Rattle.eris_check.proofs.FieldLaws.{is_labelled, items_again, items_take, place_item}
use Rattle.eris_check.proofs.LineFieldLaws.{Said, id_again, id_taken}
use Rattle.eris_check.proofs.WordLaws.{is_outcome, is_state}

-- STAMPS

abbrev are_places : List (ShardId × ℕ) → Bool
are_places places = are_stamp_places places && list_all is_ranged_place places

places_take : (words : List (List ℕ)) (places : List (ShardId × ℕ)) → places_of words ≡ Ok places → (words ≡ map place_word places) × (are_places places ≡ true)
places_take words places read =
    let a = bind_ok (items read_place words) if_stamp places read in
    let t = items_take place_word read_place is_ranged_place place_item words a.0 a.1 in
    let s = of_test a.0 (are_stamp_places a.0) refl a.2 in
    let made : (words ≡ map place_word a.0) × (are_places a.0 ≡ true) = (t.parts, and_from (are_stamp_places a.0) (list_all is_ranged_place a.0) s.1 t.fine) in
    subst (λ (z : List (ShardId × ℕ)). (words ≡ map place_word z) × (are_places z ≡ true)) s.0 made
  where
    of_test : (found : List (ShardId × ℕ)) (test : Bool) → test ≡ are_stamp_places found → cond test (Ok found) (Err reason.Number) ≡ Ok places →
        (found ≡ places) × (are_stamp_places found ≡ true)
    of_test found true is same = (ok_is found places same, sym is)
    of_test found false is same = absurd cc

places_again : (places : List (ShardId × ℕ)) → are_places places ≡ true → places_of (map place_word places) ≡ Ok places
places_again places fits =
    ap (λ r. r >>= if_stamp) (items_again place_word read_place is_ranged_place place_item places (right_of (are_stamp_places places) (list_all is_ranged_place places) fits))
    ∙ ap (λ test. cond test (Ok places) (Err reason.Number)) (left_of (are_stamp_places places) (list_all is_ranged_place places) fits)

abbrev stamp_words : StampValue → List (List ℕ)
stamp_words stamp = decimal stamp.epoch.0 ∷ map place_word stamp.places

abbrev fits_stamp : StampValue → Bool
fits_stamp stamp = fits_count stamp.epoch.0 && are_places stamp.places

abbrev stamped : ℕ → List (ShardId × ℕ) → StampValue
stamped epoch places = record { epoch = record { 0 = epoch }; places = places }

stamp_takes : (words : List (List ℕ)) (stamp : StampValue) → stamp_of words ≡ Ok stamp → (words ≡ stamp_words stamp) × (fits_stamp stamp ≡ true)
unfolding stamp_of count number
stamp_takes words stamp read =
    let a = bind_ok (count.read words) (λ e. places_of e.1 >>= λ places. Ok (stamped e.0 places)) stamp read in
    let b = bind_ok (places_of a.0.1) (λ places. Ok (stamped a.0.0 places)) stamp a.2 in
    let t = is_count.takes words a.0.0 a.0.1 a.1 in
    let u = places_take a.0.1 b.0 b.1 in
    let made : (words ≡ stamp_words (stamped a.0.0 b.0)) × (fits_stamp (stamped a.0.0 b.0) ≡ true) = (
      t.parts ∙ ap (λ (z : List (List ℕ)). decimal a.0.0 ∷ z) u.0,
      and_from (fits_count a.0.0) (are_places b.0) t.fits u.1,
    ) in
    subst (λ (z : StampValue). (words ≡ stamp_words z) × (fits_stamp z ≡ true)) (ok_is (stamped a.0.0 b.0) stamp b.2) made

stamp_again : (stamp : StampValue) → fits_stamp stamp ≡ true → stamp_of (stamp_words stamp) ≡ Ok stamp
unfolding stamp_of count number
stamp_again stamp fits =
    ap (λ r. ◌>>=◌ {B = StampValue} r (λ e. places_of e.1 >>= λ places. Ok (stamped e.0 places)))
    (is_count.again stamp.epoch.0 (map place_word stamp.places) (left_of (fits_count stamp.epoch.0) (are_places stamp.places) fits))
    ∙ ap (λ r. ◌>>=◌ {B = StampValue} r (λ places. Ok (stamped stamp.epoch.0 places))) (places_again stamp.places (right_of (fits_count stamp.epoch.0) (are_places stamp.places) fits))

-- `order I OUTCOME E S:N S:N`

record PairTaken (words : List (List ℕ)) (i : TxnId) (o : Outcome) (rest : List (List ℕ)) : Type 0 where
  spelled : words ≡ id_word i ∷ outcome_word o ∷ rest
  fits : is_ranged_id i ≡ true

pair_taken : (words : List (List ℕ)) (i : TxnId) (o : Outcome) (rest : List (List ℕ)) → id_and_outcome.read words ≡ Ok ((i, o), rest) → PairTaken words i o rest
unfolding id_and_outcome outcome
pair_taken words i o rest read =
    let a = bind_ok (id.read words) (λ x. outcome.read x.1 >>= λ y. Ok ((x.0, y.0), y.1)) ((i, o), rest) read in
    let b = bind_ok (outcome.read a.0.1) (λ y. Ok ((a.0.0, y.0), y.1)) ((i, o), rest) a.2 in
    let t = id_taken words a.0.0 a.0.1 a.1 in
    let u = is_outcome.takes a.0.1 b.0.0 b.0.1 b.1 in
    let made : PairTaken words a.0.0 b.0.0 b.0.1 = record { spelled = t.0 ∙ ap (λ (z : List (List ℕ)). id_word a.0.0 ∷ z) u.parts; fits = t.1 } in
    subst (λ (z : (TxnId × Outcome) × List (List ℕ)). PairTaken words z.0.0 z.0.1 z.1) (ok_is ((a.0.0, b.0.0), b.0.1) ((i, o), rest) b.2) made

pair_again : (i : TxnId) (o : Outcome) (rest : List (List ℕ)) → is_ranged_id i ≡ true → id_and_outcome.read (id_word i ∷ outcome_word o ∷ rest) ≡ Ok ((i, o), rest)
unfolding id_and_outcome outcome
pair_again i o rest fits =
    ap (λ r. ◌>>=◌ {B = (TxnId × Outcome) × List (List ℕ)} r (λ x. outcome.read x.1 >>= λ y. Ok ((x.0, y.0), y.1))) (id_again i (outcome_word o ∷ rest) fits)
    ∙ ap (λ r. ◌>>=◌ {B = (TxnId × Outcome) × List (List ℕ)} r (λ y. Ok ((i, y.0), y.1))) (is_outcome.again o rest refl)

abbrev ordered : TxnId → Outcome → StampValue → ReportLine
ordered i o stamp = line.Order (record { id = i; outcome = o; stamp = stamp })

pub order_takes : (words : List (List ℕ)) (v : ReportLine) → order_of words ≡ Ok v → Said (codes "order" ∷ words) v
unfolding order_of
order_takes words v read =
    let a = bind_ok (id_and_outcome.read words) (λ p. stamp_of p.1 >>= λ s. Ok (ordered p.0.0 p.0.1 s)) v read in
    let b = bind_ok (stamp_of a.0.1) (λ s. Ok (ordered a.0.0.0 a.0.0.1 s)) v a.2 in
    let t = pair_taken words a.0.0.0 a.0.0.1 a.0.1 a.1 in
    let u = stamp_takes a.0.1 b.0 b.1 in
    let made : Said (codes "order" ∷ words) (ordered a.0.0.0 a.0.0.1 b.0) = record {
      spelled = ap (λ (z : List (List ℕ)). codes "order" ∷ z) (t.spelled ∙ ap (λ (z : List (List ℕ)). id_word a.0.0.0 ∷ outcome_word a.0.0.1 ∷ z) u.0);
      fits = and_from (is_ranged_id a.0.0.0) (fits_stamp b.0) t.fits u.1;
    } in
    subst (λ (z : ReportLine). Said (codes "order" ∷ words) z) (ok_is (ordered a.0.0.0 a.0.0.1 b.0) v b.2) made

pub order_again : (i : TxnId) (o : Outcome) (stamp : StampValue) → (is_ranged_id i && fits_stamp stamp) ≡ true →
    order_of (id_word i ∷ outcome_word o ∷ stamp_words stamp) ≡ Ok (ordered i o stamp)
unfolding order_of
order_again i o stamp fits =
    ap (λ r. ◌>>=◌ {B = ReportLine} r (λ p. stamp_of p.1 >>= λ s. Ok (ordered p.0.0 p.0.1 s))) (pair_again i o (stamp_words stamp) (left_of (is_ranged_id i) (fits_stamp stamp) fits))
    ∙ ap (λ r. ◌>>=◌ {B = ReportLine} r (λ s. Ok (ordered i o s))) (stamp_again stamp (right_of (is_ranged_id i) (fits_stamp stamp) fits))

-- REPLICAS

is_replica_and_state : IsForm replica_and_state
unfolding replica_and_state
is_replica_and_state =
    is_pair (number 255) (pair (number 255) state) (is_number 255 (lit< tt)) (is_pair (number 255) state (is_number 255 (lit< tt)) is_state)

is_progress : IsForm progress
unfolding progress
is_progress =
    let epoch = is_labelled (codes "epoch") refl in
    let view = is_labelled (codes "view") refl in
    let held = is_labelled (codes "held") refl in
    let long = is_labelled (codes "length") refl in
    let settled = is_labelled (codes "settled") refl in
    is_pair (labelled (codes "epoch")) _ epoch
    (is_pair (labelled (codes "view")) _ view (is_pair (labelled (codes "held")) _ held (is_pair (labelled (codes "length")) (labelled (codes "settled")) long settled)))

abbrev Told : Type 0
Told = (ℕ × (ℕ × ReplicaState)) × (ℕ × (ℕ × (ℕ × (ℕ × ℕ))))

abbrev replica_line : Told → ReplicaLine
replica_line p = record {
  shard = record { 0 = p.0.0 };
  replica = record { 0 = p.0.1.0 };
  state = p.0.1.1;
  epoch = record { 0 = p.1.0 };
  view = record { 0 = p.1.1.0 };
  held = p.1.1.1.0;
  length = p.1.1.1.1.0;
  settled = p.1.1.1.1.1;
}

abbrev told_of_replica : ReplicaLine → Told
told_of_replica r = ((r.shard.0, (r.replica.0, r.state)), (r.epoch.0, (r.view.0, (r.held, (r.length, r.settled)))))

regrouped : (a b c : Bool) → ((a && (b && true)) && c) ≡ true → (a && (b && c)) ≡ true
regrouped true true c all = all
regrouped true false c all = all
regrouped false b c all = all

grouped_back : (a b c : Bool) → (a && (b && c)) ≡ true → ((a && (b && true)) && c) ≡ true
grouped_back true true c all = all
grouped_back true false c all = all
grouped_back false b c all = all

pub replica_takes : (words : List (List ℕ)) (v : ReportLine) → replica_of words ≡ Ok v → Said (codes "replica" ∷ words) v
unfolding replica_of replica_and_state progress number state labelled
replica_takes words v read =
    let a = bind_ok (whole (pair replica_and_state progress) words) (λ p. Ok (line.Replica (replica_line p))) v read in
    let t = whole_takes (pair replica_and_state progress) (is_pair replica_and_state progress is_replica_and_state is_progress) words a.0 a.1 in
    let made : Said (codes "replica" ∷ words) (line.Replica (replica_line a.0)) = record {
      spelled = ap (λ (z : List (List ℕ)). codes "replica" ∷ z) t.0;
      fits = regrouped (nat_le a.0.0.0 255) (nat_le a.0.0.1.0 255) (is_ranged_replica (replica_line a.0)) t.1;
    } in
    subst (λ (z : ReportLine). Said (codes "replica" ∷ words) z) (ok_is (line.Replica (replica_line a.0)) v a.2) made

abbrev behind_replica : ReplicaLine → List (List ℕ)
behind_replica r = decimal r.shard.0 ∷ decimal r.replica.0 ∷ state_word r.state ∷ progress_words r

pub replica_again : (r : ReplicaLine) → fits_replica_line r ≡ true → replica_of (behind_replica r) ≡ Ok (line.Replica r)
unfolding replica_of replica_and_state progress number state labelled
replica_again r fits =
    ap (λ read. ◌>>=◌ {B = ReportLine} read (λ p. Ok (line.Replica (replica_line p))))
    (whole_again (pair replica_and_state progress) (is_pair replica_and_state progress is_replica_and_state is_progress) (told_of_replica r)
    (grouped_back (nat_le r.shard.0 255) (nat_le r.replica.0 255) (is_ranged_replica r) fits))

-- THE COORDINATOR AND THE END

is_counts : IsForm counts
unfolding counts
is_counts =
    let epoch = is_labelled (codes "epoch") refl in
    let target = is_labelled (codes "target") refl in
    let found = is_labelled (codes "found") refl in
    let dropped = is_labelled (codes "dropped") refl in
    is_pair (labelled (codes "epoch")) _ epoch (is_pair (labelled (codes "target")) _ target (is_pair (labelled (codes "found")) (labelled (codes "dropped")) found dropped))

abbrev counted : ℕ × (ℕ × (ℕ × ℕ)) → Counts
counted c = record { current = record { 0 = c.0 }; target = record { 0 = c.1.0 }; found = c.1.1.0; dropped = c.1.1.1 }

pub coordinator_takes : (words : List (List ℕ)) (v : ReportLine) → coordinator_of words ≡ Ok v → Said (codes "coordinator" ∷ words) v
unfolding coordinator_of counts labelled
coordinator_takes words v read =
    let a = bind_ok (whole counts words) (λ c. Ok (line.Coordinator (counted c))) v read in
    let t = whole_takes counts is_counts words a.0 a.1 in
    let made : Said (codes "coordinator" ∷ words) (line.Coordinator (counted a.0)) = record {
      spelled = ap (λ (z : List (List ℕ)). codes "coordinator" ∷ z) t.0;
      fits = t.1;
    } in
    subst (λ (z : ReportLine). Said (codes "coordinator" ∷ words) z) (ok_is (line.Coordinator (counted a.0)) v a.2) made

abbrev behind_coordinator : Counts → List (List ℕ)
behind_coordinator c =
    codes "epoch" ∷ decimal c.current.0 ∷ codes "target" ∷ decimal c.target.0 ∷ codes "found" ∷ decimal c.found
    ∷ codes "dropped" ∷ decimal c.dropped ∷ []

pub coordinator_again : (c : Counts) → fits_counts c ≡ true → coordinator_of (behind_coordinator c) ≡ Ok (line.Coordinator c)
unfolding coordinator_of counts labelled
coordinator_again c fits =
    ap (λ read. ◌>>=◌ {B = ReportLine} read (λ n. Ok (line.Coordinator (counted n)))) (whole_again counts is_counts (c.current.0, (c.target.0, (c.found, c.dropped))) fits)

pub sent_takes : (words : List (List ℕ)) (v : ReportLine) → sent_of words ≡ Ok v → Said (codes "sent" ∷ words) v
unfolding sent_of count number
sent_takes words v read =
    let a = bind_ok (whole count words) (λ n. Ok (line.Sent n)) v read in
    let t = whole_takes count is_count words a.0 a.1 in
    let made : Said (codes "sent" ∷ words) (line.Sent a.0) = record { spelled = ap (λ (z : List (List ℕ)). codes "sent" ∷ z) t.0; fits = t.1 } in
    subst (λ (z : ReportLine). Said (codes "sent" ∷ words) z) (ok_is (line.Sent a.0) v a.2) made

pub sent_again : (n : ℕ) → fits_count n ≡ true → sent_of (decimal n ∷ []) ≡ Ok (line.Sent n)
unfolding sent_of count number
sent_again n fits = ap (λ read. ◌>>=◌ {B = ReportLine} read (λ n. Ok (line.Sent n))) (whole_again count is_count n fits)

pub end_takes : (words : List (List ℕ)) (v : ReportLine) → end_of words ≡ Ok v → Said (codes "end" ∷ words) v
unfolding end_of
end_takes [] v read = subst (λ (z : ReportLine). Said (codes "end" ∷ []) z) (ok_is line.End v read) (record { spelled = refl; fits = refl })
end_takes (word ∷ words) v read = absurd cc

pub end_again : end_of [] ≡ Ok line.End
unfolding end_of
end_again = refl
