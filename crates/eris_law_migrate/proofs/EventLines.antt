-- An event's line, migrated, is that event's line of version 2.
use Rattle.std.proofs.Common.{◌≡◌, ◌<◌, ◌≤◌, ◌+◌, ◌-◌, ◌^◌, ℕ, Bool, true, false, cond, nat_le, drop, Option, Some, None, Result, Ok, Err, List, [], ◌∷◌, ◌++◌, length, refl, sym, ap, subst, ◌∙◌, append_assoc, length-append, arith, codes, lit<, IsTrue, leb-true, lt_of_le_of_lt}
use Rattle.std.specs.List.{join_with_byte, list_all}
use Rattle.std.proofs.lemmas.Bool.{and_from}
use Rattle.eris_base.proofs.Booleans.{left_of, right_of}
use Rattle.eris_base.specs.declared.ids.Epoch.{Epoch}
use Rattle.eris_base.specs.declared.ids.Node.{Node}
use Rattle.eris_base.specs.declared.ids.Node.TheVariants as node
use Rattle.eris_event.specs.declared.event.Event.{Event}
use Rattle.eris_event.specs.declared.event.Event.TheVariants as event
use Rattle.eris_base.specs.declared.ids.ClientId.{ClientId}
use Rattle.eris_base.specs.declared.ids.ReplicaId.{ReplicaId}
use Rattle.eris_base.specs.declared.ids.ShardId.{ShardId}
use Rattle.eris_base.specs.declared.ids.TxnId.{TxnId}
use Rattle.std.proofs.lemmas.Bool.Decides.{nat_tests}
use Rattle.eris_event.specs.EventRanges.{are_noise, are_ops, fits_client, fits_count, fits_event, fits_node, fits_replica, fits_txn, is_plan}
use Rattle.eris_txn.specs.declared.op.Op.{Op}
use Rattle.eris_txn.specs.PlanValues.{PlanValue}
use Rattle.eris_grammar.proofs.FieldLaws.{decimal_lacks}
use Rattle.eris_grammar.specs.declared.line.Line.{Line}
use Rattle.eris_grammar.specs.declared.line.Line.TheVariants as line
use Rattle.eris_grammar.specs.EventText.{epoch_words, event_text, event_words, node_words}
use Rattle.eris_grammar.specs.Fields.{hex_word}
use Rattle.eris_grammar.specs.LineForms.{line_of}
use Rattle.eris_grammar.specs.Spelling.{IsReadAsSpelled, Says, SaysTimes, Spells}
use Rattle.eris_grammar.proofs.SpellingLaws.{event_back, event_read, read_as_spelled}
use Rattle.eris_migrate.specs.Migrated.{first_dotted, joins_last, joins_third, last_dotted, migrated_line}
use Rattle.eris_words.specs.Cuts.{is_skipped, words}
use Rattle.eris_words.specs.Decimal.{decimal}
use Rattle.eris_words.proofs.FormLaws.{is_plain}
use Rattle.eris_law_lines.proofs.Ink.{are_ink, are_inked, count_ink, event_ink, inked-more, inked-one, line_ink, small_ink, words_ink}
use Rattle.eris_law_migrate.proofs.ClauseBytes.{spelled_plan_ink}
use Rattle.eris_law_migrate.proofs.LineTexts.{first_cut, joined_words, last_cut}
use Rattle.eris_law_migrate.proofs.Widening.{widened}

-- a line that says something: version 2 reads the same in it, migrated; it has bytes that stand in a line alone; and it is as long as
-- before
pub record Kept (text : List ℕ) (said : Line) : Type 0 where
  pub reads : line_of 2 (migrated_line text) ≡ Ok said
  pub stand : are_ink (migrated_line text) ≡ true
  pub long : length (migrated_line text) ≡ length text

-- ---- lines that stay
stays : (text : List ℕ) (said : Line) → migrated_line text ≡ text → are_inked (words text) ≡ true → line_of 2 text ≡ Ok said → Kept text said
stays text said same seen reads = record {
  reads = ap (line_of 2) same ∙ reads;
  stand = ap are_ink same ∙ ap are_ink (sym (joined_words text)) ∙ line_ink (words text) seen;
  long = ap length same;
}

-- a text of these words
of_words : (text : List ℕ) (spelled : List (List ℕ)) → words text ≡ spelled → text ≡ join_with_byte 32 spelled
of_words text spelled is = sym (joined_words text) ∙ ap (join_with_byte 32) is

-- the line of these words stays
stay_so : (text : List ℕ) (spelled : List (List ℕ)) → words text ≡ spelled → migrated_line (join_with_byte 32 spelled) ≡ join_with_byte 32 spelled → migrated_line text ≡ text
stay_so text spelled is same = rw (of_words text spelled is) same

-- ---- lines that change
changes : (text : List ℕ) (e : Event) (spelled : List (List ℕ)) → words text ≡ spelled → migrated_line (join_with_byte 32 spelled) ≡ event_text 2 e
    → IsTrue (fits_event 2 e) → line_of 2 (event_text 2 e) ≡ Ok (line.One e) → length (event_text 2 e) ≡ length (join_with_byte 32 spelled) → Kept text (line.One e)
changes text e spelled is same fine reads long =
    let here : migrated_line text ≡ event_text 2 e = ap migrated_line (of_words text spelled is) ∙ same in
    record {
      reads = ap (line_of 2) here ∙ reads;
      stand = ap are_ink here ∙ event_ink 2 e fine;
      long = ap length here ∙ long ∙ ap length (sym (of_words text spelled is));
    }

-- ---- two numbers at the end of a line
long_at : (front xs ys : List ℕ) → length xs ≡ length ys → length (front ++ xs) ≡ length (front ++ ys)
long_at front xs ys same = length-append front xs ∙ ap (λ (n : ℕ). length front + n) same ∙ sym (length-append front ys)

last_joined : (text : List ℕ) → joins_last text ≡ true → migrated_line text ≡ last_dotted text
unfolding migrated_line
last_joined text joins =
    ap (λ (test : Bool). cond test (last_dotted text) (cond (joins_third text) (codes "noise rep " ++ first_dotted (drop 10 text)) text)) joins

module _ (front : List ℕ) (a b : ℕ) (plain : is_plain (decimal b) ≡ true) where
  two_dotted : joins_last (front ++ (decimal a ++ 32 ∷ decimal b)) ≡ true
      → migrated_line (front ++ (decimal a ++ 32 ∷ decimal b)) ≡ front ++ (decimal a ++ codes "." ++ decimal b)
  two_dotted joins =
      last_joined (front ++ (decimal a ++ 32 ∷ decimal b)) joins
      ∙ ap last_dotted (sym (append_assoc front (decimal a) (32 ∷ decimal b)))
      ∙ last_cut (front ++ decimal a) (decimal b) plain
      ∙ ap (λ (z : List ℕ). z ++ decimal b) (append_assoc front (decimal a) (codes "."))
      ∙ append_assoc front (decimal a ++ codes ".") (decimal b)

  two_long : length (front ++ (decimal a ++ codes "." ++ decimal b)) ≡ length (front ++ (decimal a ++ 32 ∷ decimal b))
  two_long =
      long_at front (decimal a ++ codes "." ++ decimal b) (decimal a ++ 32 ∷ decimal b)
      (ap length (append_assoc (decimal a) (codes ".") (decimal b)) ∙ long_at (decimal a) (46 ∷ decimal b) (32 ∷ decimal b) refl)

number_plain : (limit n : ℕ) → limit < 2 ^ 64 → nat_le n limit ≡ true → is_plain (decimal n) ≡ true
number_plain limit n small low = decimal_lacks 32 n refl (lt_of_le_of_lt (leb-true n limit low) small)

-- `retry C T`
retry_kept : (text : List ℕ) (c : ClientId) (n : ℕ) → Says 1 (words text) (event.Retry c n) → Kept text (line.One (event.Retry c n))
retry_kept text c n says =
    let fine = widened (event.Retry c n) says.fits in
    let low_n = number_plain (2 ^ 32 - 1) n (lit< tt) (right_of (nat_le c.0 255) (fits_count n) fine) in
    changes text (event.Retry c n) (event_words 1 (event.Retry c n)) says.spelled (two_dotted (codes "retry ") c.0 n low_n refl)
    fine (event_back 2 (event.Retry c n) fine) (two_long (codes "retry ") c.0 n low_n)

-- `abort D C T`
asked_by : (d c n : ℕ) → codes "abort " ++ (decimal d ++ 32 ∷ (decimal c ++ 32 ∷ decimal n)) ≡ (codes "abort " ++ (decimal d ++ 32 ∷ [])) ++ (decimal c ++ 32 ∷ decimal n)
asked_by d c n = ap (λ (z : List ℕ). codes "abort " ++ z) (sym (append_assoc (decimal d) (32 ∷ []) (decimal c ++ 32 ∷ decimal n)))

asked_dotted : (d c n : ℕ) → (codes "abort " ++ (decimal d ++ 32 ∷ [])) ++ (decimal c ++ codes "." ++ decimal n) ≡ codes "abort " ++ (decimal d ++ 32 ∷ (decimal c ++ codes "." ++ decimal n))
asked_dotted d c n = ap (λ (z : List ℕ). codes "abort " ++ z) (append_assoc (decimal d) (32 ∷ []) (decimal c ++ codes "." ++ decimal n))

abort_kept : (text : List ℕ) (asker : ClientId) (id : TxnId) → Says 1 (words text) (event.Abort asker id) → Kept text (line.One (event.Abort asker id))
abort_kept text asker id says =
    let fine = widened (event.Abort asker id) says.fits in
    let both = right_of (fits_client asker) (fits_txn id) fine in
    let low_n = number_plain (2 ^ 32 - 1) id.number (lit< tt) (right_of (nat_le id.client.0 255) (fits_count id.number) both) in
    let front = codes "abort " ++ (decimal asker.0 ++ 32 ∷ []) in
    changes text (event.Abort asker id) (event_words 1 (event.Abort asker id)) says.spelled
    (ap migrated_line (asked_by asker.0 id.client.0 id.number) ∙ two_dotted front id.client.0 id.number low_n refl ∙ asked_dotted asker.0 id.client.0 id.number)
    fine
    (event_back 2 (event.Abort asker id) fine)
    (ap length (sym (asked_dotted asker.0 id.client.0 id.number)) ∙ two_long front id.client.0 id.number low_n ∙ ap length (sym (asked_by asker.0 id.client.0 id.number)))

-- `probe S R` and its like
replica_low : (s : ShardId) (r : ReplicaId) → fits_replica s r ≡ true → (is_plain (decimal s.0) ≡ true) × (is_plain (decimal r.0) ≡ true)
replica_low s r fine = (number_plain 255 s.0 (lit< tt) (left_of (nat_le s.0 255) (nat_le r.0 255) fine), number_plain 255 r.0 (lit< tt) (right_of (nat_le s.0 255) (nat_le r.0 255) fine))

probe_kept : (text : List ℕ) (s : ShardId) (r : ReplicaId) → Says 1 (words text) (event.Probe s r) → Kept text (line.One (event.Probe s r))
probe_kept text s r says =
    let fine = widened (event.Probe s r) says.fits in
    let low = replica_low s r fine in
    changes text (event.Probe s r) (event_words 1 (event.Probe s r)) says.spelled (two_dotted (codes "probe ") s.0 r.0 low.1 refl)
    fine (event_back 2 (event.Probe s r) fine) (two_long (codes "probe ") s.0 r.0 low.1)

suspect_kept : (text : List ℕ) (s : ShardId) (r : ReplicaId) → Says 1 (words text) (event.Suspect s r) → Kept text (line.One (event.Suspect s r))
suspect_kept text s r says =
    let fine = widened (event.Suspect s r) says.fits in
    let low = replica_low s r fine in
    changes text (event.Suspect s r) (event_words 1 (event.Suspect s r)) says.spelled (two_dotted (codes "suspect ") s.0 r.0 low.1 refl)
    fine (event_back 2 (event.Suspect s r) fine) (two_long (codes "suspect ") s.0 r.0 low.1)

sync_kept : (text : List ℕ) (s : ShardId) (r : ReplicaId) → Says 1 (words text) (event.Sync s r) → Kept text (line.One (event.Sync s r))
sync_kept text s r says =
    let fine = widened (event.Sync s r) says.fits in
    let low = replica_low s r fine in
    changes text (event.Sync s r) (event_words 1 (event.Sync s r)) says.spelled (two_dotted (codes "sync ") s.0 r.0 low.1 refl)
    fine (event_back 2 (event.Sync s r) fine) (two_long (codes "sync ") s.0 r.0 low.1)

crash_kept : (text : List ℕ) (s : ShardId) (r : ReplicaId) → Says 1 (words text) (event.Crash s r) → Kept text (line.One (event.Crash s r))
crash_kept text s r says =
    let fine = widened (event.Crash s r) says.fits in
    let low = replica_low s r fine in
    changes text (event.Crash s r) (event_words 1 (event.Crash s r)) says.spelled (two_dotted (codes "crash ") s.0 r.0 low.1 refl)
    fine (event_back 2 (event.Crash s r) fine) (two_long (codes "crash ") s.0 r.0 low.1)

-- `noise rep S R H`
third_joined : (rest : List ℕ) → migrated_line (codes "noise rep " ++ rest) ≡ codes "noise rep " ++ first_dotted rest
unfolding migrated_line
third_joined rest = refl

noise_dotted : (s r : ℕ) (h : List ℕ) → (decimal s ++ codes "." ++ decimal r) ++ 32 ∷ h ≡ decimal s ++ codes "." ++ (decimal r ++ 32 ∷ h)
noise_dotted s r h = append_assoc (decimal s ++ codes ".") (decimal r) (32 ∷ h)

noise_long : (s r : ℕ) (h : List ℕ) → length (codes "noise rep " ++ ((decimal s ++ codes "." ++ decimal r) ++ 32 ∷ h)) ≡ length (codes "noise rep " ++ (decimal s ++ 32 ∷ (decimal r ++ 32 ∷ h)))
noise_long s r h =
    long_at (codes "noise rep ") ((decimal s ++ codes "." ++ decimal r) ++ 32 ∷ h) (decimal s ++ 32 ∷ (decimal r ++ 32 ∷ h))
    (ap length (noise_dotted s r h) ∙ ap length (append_assoc (decimal s) (codes ".") (decimal r ++ 32 ∷ h))
    ∙ long_at (decimal s) (46 ∷ (decimal r ++ 32 ∷ h)) (32 ∷ (decimal r ++ 32 ∷ h)) refl)

replica_noise_kept : (text : List ℕ) (s : ShardId) (r : ReplicaId) (bytes : List ℕ) → Says 1 (words text) (event.Noise (node.Replica s r) bytes)
    → Kept text (line.One (event.Noise (node.Replica s r) bytes))
replica_noise_kept text s r bytes says =
    let e = event.Noise (node.Replica s r) bytes in
    let fine = widened e says.fits in
    let low = replica_low s r (left_of (fits_replica s r) (are_noise bytes) fine) in
    changes text e (event_words 1 e) says.spelled
    (third_joined (decimal s.0 ++ 32 ∷ (decimal r.0 ++ 32 ∷ hex_word bytes))
    ∙ ap (λ (z : List ℕ). codes "noise rep " ++ z) (first_cut (decimal s.0) (decimal r.0 ++ 32 ∷ hex_word bytes) low.0 ∙ sym (noise_dotted s.0 r.0 (hex_word bytes))))
    fine (event_back 2 e fine) (noise_long s.0 r.0 (hex_word bytes))

-- ---- events whose lines stay
module _ (text : List ℕ) where
  read_again : (e : Event) → Says 2 (words text) e → line_of 2 text ≡ Ok (line.One e)
  read_again e says = event_read 2 text e says

  submit_kept : (c : ClientId) (ops : List Op) → Says 1 (words text) (event.Submit c ops) → Kept text (line.One (event.Submit c ops))
  unfolding migrated_line
  submit_kept c ops says =
      let fine = widened (event.Submit c ops) says.fits in
      let seen = words_ink 1 (event.Submit c ops) says.fits in
      stays text (line.One (event.Submit c ops)) (stay_so text (event_words 1 (event.Submit c ops)) says.spelled refl) (ap are_inked says.spelled ∙ seen)
      (read_again (event.Submit c ops) (record { spelled = says.spelled; fits = fine }))

  general_kept : (c : ClientId) (plan : PlanValue) → Says 1 (words text) (event.General c plan) → Kept text (line.One (event.General c plan))
  unfolding migrated_line
  general_kept c plan says =
      let fine = widened (event.General c plan) says.fits in
      let spelled = says.spelled in
      let seen = inked-more (codes "general") (decimal c.0 ∷ spelled.behind) refl
      (inked-more (decimal c.0) spelled.behind (small_ink c.0 (left_of (fits_client c) (is_plan 1 plan) says.fits))
      (spelled_plan_ink spelled.behind plan spelled.planned (right_of (fits_client c) (is_plan 1 plan) says.fits))) in
      stays text (line.One (event.General c plan)) (stay_so text (codes "general" ∷ decimal c.0 ∷ spelled.behind) spelled.spelled refl) (ap are_inked spelled.spelled ∙ seen)
      (read_again (event.General c plan) (record { spelled = spelled; fits = fine }))

  deliver_kept : (packet : ℕ) (named : Option Epoch) → Says 1 (words text) (event.Deliver packet named) → Kept text (line.One (event.Deliver packet named))
  unfolding migrated_line
  deliver_kept packet None says =
      let seen = words_ink 1 (event.Deliver packet None) says.fits in
      stays text (line.One (event.Deliver packet None)) (stay_so text (event_words 1 (event.Deliver packet None)) says.spelled refl) (ap are_inked says.spelled ∙ seen)
      (read_again (event.Deliver packet None) (record { spelled = says.spelled; fits = says.fits }))
  deliver_kept packet (Some e) says =
      let seen = words_ink 1 (event.Deliver packet (Some e)) says.fits in
      stays text (line.One (event.Deliver packet (Some e))) (stay_so text (event_words 1 (event.Deliver packet (Some e))) says.spelled refl) (ap are_inked says.spelled ∙ seen)
      (read_again (event.Deliver packet (Some e)) (record { spelled = says.spelled; fits = says.fits }))

  nudge_kept : Says 1 (words text) event.Nudge → Kept text (line.One event.Nudge)
  unfolding migrated_line
  nudge_kept says =
      stays text (line.One event.Nudge) (stay_so text (event_words 1 event.Nudge) says.spelled refl) (ap are_inked says.spelled ∙ refl)
      (read_again event.Nudge (record { spelled = says.spelled; fits = refl }))

  replace_kept : Says 1 (words text) event.Replace → Kept text (line.One event.Replace)
  unfolding migrated_line
  replace_kept says =
      stays text (line.One event.Replace) (stay_so text (event_words 1 event.Replace) says.spelled refl) (ap are_inked says.spelled ∙ refl)
      (read_again event.Replace (record { spelled = says.spelled; fits = refl }))

  noise_kept : (to : Node) (bytes : List ℕ) → Says 1 (words text) (event.Noise to bytes) → Kept text (line.One (event.Noise to bytes))
  unfolding migrated_line
  noise_kept node.Sequencer bytes says =
      let e = event.Noise node.Sequencer bytes in
      let seen = words_ink 1 e says.fits in
      stays text (line.One e) (stay_so text (event_words 1 e) says.spelled refl) (ap are_inked says.spelled ∙ seen) (read_again e (record { spelled = says.spelled; fits = says.fits }))
  noise_kept node.Coordinator bytes says =
      let e = event.Noise node.Coordinator bytes in
      let seen = words_ink 1 e says.fits in
      stays text (line.One e) (stay_so text (event_words 1 e) says.spelled refl) (ap are_inked says.spelled ∙ seen) (read_again e (record { spelled = says.spelled; fits = says.fits }))
  noise_kept (node.Replica s r) bytes says = replica_noise_kept text s r bytes says
  noise_kept (node.Client c) bytes says =
      let e = event.Noise (node.Client c) bytes in
      let seen = words_ink 1 e says.fits in
      stays text (line.One e) (stay_so text (event_words 1 e) says.spelled refl) (ap are_inked says.spelled ∙ seen) (read_again e (record { spelled = says.spelled; fits = says.fits }))

  -- ---- counts
  few : (times : ℕ) → times < 2 ^ 32 → fits_count times ≡ true
  few times small = grind (arith, nat_tests)

  flow_kept : (times : ℕ) → SaysTimes (words text) (codes "flow") times → Kept text (line.Flow times)
  unfolding migrated_line
  flow_kept times says =
      let seen = inked-more (codes "flow") (decimal times ∷ []) refl (inked-one (decimal times) (count_ink times (few times says.fits))) in
      stays text (line.Flow times) (stay_so text (codes "flow" ∷ decimal times ∷ []) says.spelled refl) (ap are_inked says.spelled ∙ seen) (((read_as_spelled 2 text).flows times).1 says)

  lose_kept : (times : ℕ) → SaysTimes (words text) (codes "lose") times → Kept text (line.Lose times)
  unfolding migrated_line
  lose_kept times says =
      let seen = inked-more (codes "lose") (decimal times ∷ []) refl (inked-one (decimal times) (count_ink times (few times says.fits))) in
      stays text (line.Lose times) (stay_so text (codes "lose" ∷ decimal times ∷ []) says.spelled refl) (ap are_inked says.spelled ∙ seen) (((read_as_spelled 2 text).loses times).1 says)

  event_kept : (e : Event) → Says 1 (words text) e → Kept text (line.One e)
  event_kept (event.Submit c ops) says = submit_kept c ops says
  event_kept (event.General c plan) says = general_kept c plan says
  event_kept (event.Retry c n) says = retry_kept text c n says
  event_kept (event.Abort asker id) says = abort_kept text asker id says
  event_kept (event.Deliver packet named) says = deliver_kept packet named says
  event_kept event.Flow says = absurd says.spelled
  event_kept event.Lose says = absurd says.spelled
  event_kept (event.Probe s r) says = probe_kept text s r says
  event_kept (event.Suspect s r) says = suspect_kept text s r says
  event_kept (event.Sync s r) says = sync_kept text s r says
  event_kept (event.Crash s r) says = crash_kept text s r says
  event_kept event.Nudge says = nudge_kept says
  event_kept event.Replace says = replace_kept says
  event_kept (event.Noise to bytes) says = noise_kept to bytes says

  -- A LINE THAT SAYS SOMETHING IS KEPT, migrated
  pub kept : (said : Line) → line_of 1 text ≡ Ok said → (said ≡ line.Skip → ⊥) → Kept text said
  kept line.Skip read other = absurd (other refl)
  kept (line.One e) read other = event_kept e (((read_as_spelled 1 text).events e).0 read)
  kept (line.Flow n) read other = flow_kept n (((read_as_spelled 1 text).flows n).0 read)
  kept (line.Lose n) read other = lose_kept n (((read_as_spelled 1 text).loses n).0 read)
