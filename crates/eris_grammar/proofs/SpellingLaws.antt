-- What a line says is what it spells, and an event that is printed is read back.
use Rattle.std.proofs.Common.{◌≡◌, ℕ, Bool, true, false, cond, codes, IsTrue, Option, Some, None, Result, Ok, List, [], ◌∷◌, ◌++◌, refl, sym, ap, subst, ◌∙◌, lit<}
use Rattle.std.proofs.lemmas.Fmt.{decimal_digit}
use Rattle.eris_base.specs.declared.ids.Epoch.{Epoch}
use Rattle.eris_base.proofs.Booleans.{left_of, right_of}
use Rattle.eris_event.specs.declared.event.Event.{Event}
use Rattle.eris_event.specs.declared.event.Event.TheVariants as event
use Rattle.eris_grammar.specs.declared.fixed_words.LineWord.{LineWord}
use Rattle.eris_grammar.specs.declared.fixed_words.LineWord.TheVariants as w
use Rattle.eris_grammar.specs.declared.line.Line.{Line}
use Rattle.eris_grammar.specs.declared.line.Line.TheVariants as line
use Rattle.eris_words.specs.declared.reason.Reason.{Reason}
use Rattle.eris_words.specs.Cuts.{is_skipped, words}
use Rattle.eris_words.specs.Decimal.{decimal}
use Rattle.eris_grammar.specs.EventText.{epoch_words, event_text, event_words, node_words}
use Rattle.eris_grammar.specs.Fields.{client, count, hex, hex_word, number, pair_words, replica, two_numbers, txn}
use Rattle.eris_grammar.specs.FixedWords.{line_word, line_word_text}
use Rattle.eris_words.specs.Forms.{◌>>=◌, ended, whole}
use Rattle.eris_grammar.specs.LineForms.{epoch, line_behind, line_of, line_saying, node_form, one, said_by}
use Rattle.eris_event.specs.EventRanges.{fits_event, fits_node, are_ops, is_plan, fits_count, fits_client, fits_txn, are_noise}
use Rattle.eris_words.specs.OpText.{ops_words}
use Rattle.eris_words.specs.PlanText.{plan_words}
use Rattle.eris_grammar.specs.Spelling.{IsReadAsSpelled, Says, SaysTimes}
use Rattle.eris_grammar.proofs.FieldLaws.{is_client, is_count, is_replica, is_txn}
use Rattle.eris_words.proofs.FormLaws.{are_plain, bind_ok, ok_is, plain-append}
use Rattle.eris_grammar.proofs.HexLaws.{is_hex}
use Rattle.eris_grammar.proofs.LineLaws.{abort_again, abort_takes, at_again, at_takes, deliver_again, deliver_takes, general_again, general_takes, noise_again, noise_takes, retry_again, retry_takes, submit_again, submit_takes, times_again, times_take}
use Rattle.eris_grammar.proofs.NodeLaws.{is_node}
use Rattle.eris_grammar.proofs.OpListLaws.{ops_plain}
use Rattle.eris_grammar.proofs.PlanLaws.{plan_plain, plan_printed}
use Rattle.eris_words.proofs.SplitLaws.{begins_with, words_joined}
use Rattle.eris_grammar.proofs.TableLaws.{is_line_word}

-- what a line that isn't skipped spells
abbrev Said : ℕ → List (List ℕ) → Line → Type 0
Said version words line.Skip = ⊥
Said version words (line.One e) = Says version words e
Said version words (line.Flow n) = SaysTimes words (codes "flow") n
Said version words (line.Lose n) = SaysTimes words (codes "lose") n

one_takes : (version : ℕ) (words : List (List ℕ)) (read : Result Event Reason) (l : Line) → ((e : Event) → read ≡ Ok e → Says version words e) → one read ≡ Ok l → Said version words l
one_takes version words read l takes found =
    let a = bind_ok read (λ e. Ok (line.One e)) l found in
    subst (λ (z : Line). Said version words z) (ok_is (line.One a.0) l a.2) (takes a.0 a.1)

times_said : (version : ℕ) (words behind : List (List ℕ)) (made : ℕ → Line) (l : Line) → ((n : ℕ) → whole count behind ≡ Ok n → Said version words (made n)) →
    (whole count behind >>= λ n. Ok (made n)) ≡ Ok l → Said version words l
times_said version words behind made l takes found =
    let a = bind_ok (whole count behind) (λ n. Ok (made n)) l found in
    subst (λ (z : Line). Said version words z) (ok_is (made a.0) l a.2) (takes a.0 a.1)

alone_takes : (version : ℕ) (e : Event) (text : List ℕ) (behind : List (List ℕ)) (other : Event) → Says version (text ∷ []) e → ended (e, behind) ≡ Ok other →
    Says version (text ∷ behind) other
alone_takes version e text [] other says found = subst (λ (z : Event). Says version (text ∷ []) z) (ok_is e other found) says
alone_takes version e text (word ∷ behind) other says found = absurd cc

behind_takes : (version : ℕ) (word : LineWord) (words : List (List ℕ)) (l : Line) → line_behind version word words ≡ Ok l → Said version (line_word_text word ∷ words) l
unfolding line_behind
behind_takes version w.Submit words l = one_takes version (codes "submit" ∷ words) _ l (submit_takes version words)
behind_takes version w.General words l = one_takes version (codes "general" ∷ words) _ l (general_takes version words)
behind_takes version w.Retry words l = one_takes version (codes "retry" ∷ words) _ l (retry_takes version words)
behind_takes version w.Abort words l = one_takes version (codes "abort" ∷ words) _ l (abort_takes version words)
behind_takes version w.Deliver words l = one_takes version (codes "deliver" ∷ words) _ l (deliver_takes version words)
behind_takes version w.Flow words l = times_said version (codes "flow" ∷ words) words line.Flow l (times_take words (codes "flow"))
behind_takes version w.Lose words l = times_said version (codes "lose" ∷ words) words line.Lose l (times_take words (codes "lose"))
behind_takes version w.Probe words l = one_takes version (codes "probe" ∷ words) _ l
    (λ e. at_takes version event.Probe words e (Says version (codes "probe" ∷ words))
    (λ s r parts fine. record { spelled = ap (λ (z : List (List ℕ)). codes "probe" ∷ z) parts; fits = fine }))
behind_takes version w.Suspect words l = one_takes version (codes "suspect" ∷ words) _ l
    (λ e. at_takes version event.Suspect words e (Says version (codes "suspect" ∷ words))
    (λ s r parts fine. record { spelled = ap (λ (z : List (List ℕ)). codes "suspect" ∷ z) parts; fits = fine }))
behind_takes version w.Sync words l = one_takes version (codes "sync" ∷ words) _ l
    (λ e. at_takes version event.Sync words e (Says version (codes "sync" ∷ words))
    (λ s r parts fine. record { spelled = ap (λ (z : List (List ℕ)). codes "sync" ∷ z) parts; fits = fine }))
behind_takes version w.Crash words l = one_takes version (codes "crash" ∷ words) _ l
    (λ e. at_takes version event.Crash words e (Says version (codes "crash" ∷ words))
    (λ s r parts fine. record { spelled = ap (λ (z : List (List ℕ)). codes "crash" ∷ z) parts; fits = fine }))
behind_takes version w.Nudge words l = one_takes version (codes "nudge" ∷ words) _ l
    (λ e. alone_takes version event.Nudge (codes "nudge") words e (record { spelled = refl; fits = refl }))
behind_takes version w.Replace words l = one_takes version (codes "replace" ∷ words) _ l
    (λ e. alone_takes version event.Replace (codes "replace") words e (record { spelled = refl; fits = refl }))
behind_takes version w.Noise words l = one_takes version (codes "noise" ∷ words) _ l (noise_takes version words)

said_takes : (version : ℕ) (words : List (List ℕ)) (l : Line) → said_by version words ≡ Ok l → Said version words l
unfolding said_by line_word
said_takes version words l read =
    let a = bind_ok (line_word.read words) (λ asked. line_behind version asked.0 asked.1) l read in
    let t = is_line_word.takes words a.0.0 a.0.1 a.1 in
    subst (λ (z : List (List ℕ)). Said version z l) (sym t.parts) (behind_takes version a.0.0 a.0.1 l a.2)

-- AND BACK

-- a word of a line, and what stands behind it
said_of : (version : ℕ) (word : LineWord) (behind : List (List ℕ)) → said_by version (line_word_text word ∷ behind) ≡ line_behind version word behind
unfolding said_by line_word
said_of version word behind = ap (λ r. r >>= λ asked. line_behind version asked.0 asked.1) (is_line_word.again word behind refl)

-- a line that begins with such a word isn't skipped
asks : (word : LineWord) → is_skipped (line_word_text word) ≡ false
asks w.Submit = refl
asks w.General = refl
asks w.Retry = refl
asks w.Abort = refl
asks w.Deliver = refl
asks w.Flow = refl
asks w.Lose = refl
asks w.Probe = refl
asks w.Suspect = refl
asks w.Sync = refl
asks w.Crash = refl
asks w.Nudge = refl
asks w.Replace = refl
asks w.Noise = refl

line_behind_word : (version : ℕ) (text : List ℕ) (word : LineWord) (behind : List (List ℕ)) (l : Line) → words text ≡ line_word_text word ∷ behind →
    line_behind version word behind ≡ Ok l → line_of version text ≡ Ok l
unfolding line_of
line_behind_word version text word behind l spelled says =
    rw (begins_with text (line_word_text word) behind spelled (asks word))
    (ap (said_by version) spelled ∙ said_of version word behind ∙ says)

one_read : (read : Result Event Reason) (e : Event) → read ≡ Ok e → one read ≡ Ok (line.One e)
one_read read e found = ap (λ r. r >>= λ e. Ok (line.One e)) found

epoch_fits : (packet : ℕ) (named : Option Epoch) (version : ℕ) → fits_event version (event.Deliver packet named) ≡ true →
    (fits_count packet ≡ true) × ((e : Epoch) → named ≡ Some e → fits_count e.0 ≡ true)
unfolding epoch
epoch_fits packet None version fine = (fine, λ e same. absurd cc)
epoch_fits packet (Some named) version fine =
    (left_of (fits_count packet) (fits_count named.0) fine, λ e same. subst (λ (z : Epoch). fits_count z.0 ≡ true) (same_epoch e same) (right_of (fits_count packet) (fits_count named.0) fine))
  where
    same_epoch : (e : Epoch) → Some named ≡ Some e → named ≡ e
    same_epoch e same = cc

-- a line that spells an event says it
pub event_read : (version : ℕ) (text : List ℕ) (e : Event) → Says version (words text) e → line_of version text ≡ Ok (line.One e)
unfolding line_behind
event_read version text (event.Submit c ops) says =
    line_behind_word version text w.Submit (decimal c.0 ∷ ops_words ops) (line.One (event.Submit c ops)) says.spelled
    (one_read _ (event.Submit c ops) (submit_again version c ops (left_of (fits_client c) (are_ops version ops) says.fits) (right_of (fits_client c) (are_ops version ops) says.fits)))
event_read version text (event.General c plan) says =
    let spelled = says.spelled in
    line_behind_word version text w.General (decimal c.0 ∷ spelled.behind) (line.One (event.General c plan)) spelled.spelled
    (one_read _ (event.General c plan)
    (general_again version c spelled.behind plan (left_of (fits_client c) (is_plan version plan) says.fits) spelled.planned (right_of (fits_client c) (is_plan version plan) says.fits)))
event_read version text (event.Retry c n) says =
    line_behind_word version text w.Retry (pair_words version c.0 n) (line.One (event.Retry c n)) says.spelled
    (one_read _ (event.Retry c n) (retry_again version (record { client = c; number = n }) says.fits))
event_read version text (event.Abort asker id) says =
    line_behind_word version text w.Abort (decimal asker.0 ∷ pair_words version id.client.0 id.number) (line.One (event.Abort asker id)) says.spelled
    (one_read _ (event.Abort asker id) (abort_again version asker id says.fits))
event_read version text (event.Deliver packet named) says =
    let fine = epoch_fits packet named version says.fits in
    line_behind_word version text w.Deliver (decimal packet ∷ epoch_words named) (line.One (event.Deliver packet named)) says.spelled
    (one_read _ (event.Deliver packet named) (deliver_again packet named fine.0 fine.1))
event_read version text event.Flow says = absurd says.spelled
event_read version text event.Lose says = absurd says.spelled
event_read version text (event.Probe s r) says =
    line_behind_word version text w.Probe (pair_words version s.0 r.0) (line.One (event.Probe s r)) says.spelled
    (one_read _ (event.Probe s r) (at_again version event.Probe s r says.fits))
event_read version text (event.Suspect s r) says =
    line_behind_word version text w.Suspect (pair_words version s.0 r.0) (line.One (event.Suspect s r)) says.spelled
    (one_read _ (event.Suspect s r) (at_again version event.Suspect s r says.fits))
event_read version text (event.Sync s r) says =
    line_behind_word version text w.Sync (pair_words version s.0 r.0) (line.One (event.Sync s r)) says.spelled
    (one_read _ (event.Sync s r) (at_again version event.Sync s r says.fits))
event_read version text (event.Crash s r) says =
    line_behind_word version text w.Crash (pair_words version s.0 r.0) (line.One (event.Crash s r)) says.spelled
    (one_read _ (event.Crash s r) (at_again version event.Crash s r says.fits))
event_read version text event.Nudge says = line_behind_word version text w.Nudge [] (line.One event.Nudge) says.spelled refl
event_read version text event.Replace says = line_behind_word version text w.Replace [] (line.One event.Replace) says.spelled refl
event_read version text (event.Noise to bytes) says =
    line_behind_word version text w.Noise (node_words version to ++ hex_word bytes ∷ []) (line.One (event.Noise to bytes)) says.spelled
    (one_read _ (event.Noise to bytes) (noise_again version to bytes says.fits))

flow_read : (version : ℕ) (text : List ℕ) (n : ℕ) → SaysTimes (words text) (codes "flow") n → line_of version text ≡ Ok (line.Flow n)
unfolding line_behind
flow_read version text n says = line_behind_word version text w.Flow (decimal n ∷ []) (line.Flow n) says.spelled (ap (λ r. r >>= λ n. Ok (line.Flow n)) (times_again n says.fits))

lose_read : (version : ℕ) (text : List ℕ) (n : ℕ) → SaysTimes (words text) (codes "lose") n → line_of version text ≡ Ok (line.Lose n)
unfolding line_behind
lose_read version text n says = line_behind_word version text w.Lose (decimal n ∷ []) (line.Lose n) says.spelled (ap (λ r. r >>= λ n. Ok (line.Lose n)) (times_again n says.fits))

-- a line that isn't skipped says what its words say
asked : (version : ℕ) (text : List ℕ) (l : Line) → line_of version text ≡ Ok l → (l ≡ line.Skip → ⊥) → Said version (words text) l
unfolding line_of
asked version text l read other = of_test (is_skipped text) read
  where
    of_test : (test : Bool) → cond test (Ok line.Skip) (said_by version (words text)) ≡ Ok l → Said version (words text) l
    of_test true found = absurd (other (sym (ok_is line.Skip l found)))
    of_test false found = said_takes version (words text) l found

skip_only : (version : ℕ) (text : List ℕ) → line_of version text ≡ Ok line.Skip → IsTrue (is_skipped text)
unfolding line_of
skip_only version text read = of_test (is_skipped text) read
  where
    of_test : (test : Bool) → cond test (Ok line.Skip) (said_by version (words text)) ≡ Ok line.Skip → test ≡ true
    of_test true found = refl
    of_test false found = absurd (said_takes version (words text) line.Skip found)

skip_read : (version : ℕ) (text : List ℕ) → IsTrue (is_skipped text) → line_of version text ≡ Ok line.Skip
unfolding line_of
skip_read version text skipped = rw skipped refl

pub read_as_spelled : (version : ℕ) (text : List ℕ) → IsReadAsSpelled version text
read_as_spelled version text = record {
  skips = (skip_only version text, skip_read version text);
  events = λ e. (λ read. asked version text (line.One e) read (λ same. cc), event_read version text e);
  flows = λ n. (λ read. asked version text (line.Flow n) read (λ same. cc), flow_read version text n);
  loses = λ n. (λ read. asked version text (line.Lose n) read (λ same. cc), lose_read version text n);
}

-- WHAT IS PRINTED IS READ BACK

deliver_plain : (packet : ℕ) (named : Option Epoch) → fits_count packet ≡ true → ((e : Epoch) → named ≡ Some e → fits_count e.0 ≡ true) →
    are_plain (decimal packet ∷ epoch_words named) ≡ true
unfolding count number
deliver_plain packet None fine e = is_count.plain packet fine
deliver_plain packet (Some named) fine e =
    plain-append (decimal packet ∷ []) (decimal named.0 ∷ []) (is_count.plain packet fine) (is_count.plain named.0 (e named refl))

event_plain : (version : ℕ) (e : Event) → fits_event version e ≡ true → are_plain (event_words version e) ≡ true
unfolding client number txn replica two_numbers node_form hex
event_plain version (event.Submit c ops) fine =
    plain-append (decimal c.0 ∷ []) (ops_words ops) (is_client.plain c (left_of (fits_client c) (are_ops version ops) fine)) (ops_plain version ops (right_of (fits_client c) (are_ops version ops) fine))
event_plain version (event.General c plan) fine =
    plain-append (decimal c.0 ∷ []) (plan_words plan) (is_client.plain c (left_of (fits_client c) (is_plan version plan) fine))
    (plan_plain version (plan_words plan) plan (plan_printed plan) (right_of (fits_client c) (is_plan version plan) fine))
event_plain version (event.Retry c n) fine = (is_txn version).plain (record { client = c; number = n }) fine
event_plain version (event.Abort asker id) fine =
    plain-append (decimal asker.0 ∷ []) (pair_words version id.client.0 id.number) (is_client.plain asker (left_of (fits_client asker) (fits_txn id) fine))
    ((is_txn version).plain id (right_of (fits_client asker) (fits_txn id) fine))
event_plain version (event.Deliver packet named) fine = let parts = epoch_fits packet named version fine in deliver_plain packet named parts.0 parts.1
event_plain version event.Flow fine = refl
event_plain version event.Lose fine = refl
event_plain version (event.Probe s r) fine = (is_replica version).plain (s, r) fine
event_plain version (event.Suspect s r) fine = (is_replica version).plain (s, r) fine
event_plain version (event.Sync s r) fine = (is_replica version).plain (s, r) fine
event_plain version (event.Crash s r) fine = (is_replica version).plain (s, r) fine
event_plain version event.Nudge fine = refl
event_plain version event.Replace fine = refl
event_plain version (event.Noise to bytes) fine =
    plain-append (node_words version to) (hex_word bytes ∷ []) ((is_node version).plain to (left_of (fits_node to) (are_noise bytes) fine))
    (is_hex.plain bytes (right_of (fits_node to) (are_noise bytes) fine))

once : codes "flow" ∷ codes "1" ∷ [] ≡ codes "flow" ∷ decimal 1 ∷ []
once = ap (λ (digit : List ℕ). codes "flow" ∷ digit ∷ []) (sym (decimal_digit 1 (lit< tt)))

lost_once : codes "lose" ∷ codes "1" ∷ [] ≡ codes "lose" ∷ decimal 1 ∷ []
lost_once = ap (λ (digit : List ℕ). codes "lose" ∷ digit ∷ []) (sym (decimal_digit 1 (lit< tt)))

pub event_back : (version : ℕ) (e : Event) → IsTrue (fits_event version e) → line_of version (event_text version e) ≡ Ok (line_saying e)
event_back version (event.Submit c ops) fine =
    event_read version _ (event.Submit c ops) (record { spelled = words_joined (codes "submit") (decimal c.0 ∷ ops_words ops) (event_plain version (event.Submit c ops) fine); fits = fine })
event_back version (event.General c plan) fine =
    event_read version _ (event.General c plan) (record {
      spelled = record {
        behind = plan_words plan;
        spelled = words_joined (codes "general") (decimal c.0 ∷ plan_words plan) (event_plain version (event.General c plan) fine);
        planned = plan_printed plan;
      };
      fits = fine;
    })
event_back version (event.Retry c n) fine =
    event_read version _ (event.Retry c n) (record { spelled = words_joined (codes "retry") (pair_words version c.0 n) (event_plain version (event.Retry c n) fine); fits = fine })
event_back version (event.Abort asker id) fine =
    event_read version _ (event.Abort asker id) (record {
      spelled = words_joined (codes "abort") (decimal asker.0 ∷ pair_words version id.client.0 id.number) (event_plain version (event.Abort asker id) fine);
      fits = fine;
    })
event_back version (event.Deliver packet named) fine =
    event_read version _ (event.Deliver packet named) (record {
      spelled = words_joined (codes "deliver") (decimal packet ∷ epoch_words named) (event_plain version (event.Deliver packet named) fine);
      fits = fine;
    })
event_back version event.Flow fine = flow_read version _ 1 (record { spelled = words_joined (codes "flow") (codes "1" ∷ []) refl ∙ once; fits = lit< tt })
event_back version event.Lose fine = lose_read version _ 1 (record { spelled = words_joined (codes "lose") (codes "1" ∷ []) refl ∙ lost_once; fits = lit< tt })
event_back version (event.Probe s r) fine =
    event_read version _ (event.Probe s r) (record { spelled = words_joined (codes "probe") (pair_words version s.0 r.0) (event_plain version (event.Probe s r) fine); fits = fine })
event_back version (event.Suspect s r) fine =
    event_read version _ (event.Suspect s r) (record { spelled = words_joined (codes "suspect") (pair_words version s.0 r.0) (event_plain version (event.Suspect s r) fine); fits = fine })
event_back version (event.Sync s r) fine =
    event_read version _ (event.Sync s r) (record { spelled = words_joined (codes "sync") (pair_words version s.0 r.0) (event_plain version (event.Sync s r) fine); fits = fine })
event_back version (event.Crash s r) fine =
    event_read version _ (event.Crash s r) (record { spelled = words_joined (codes "crash") (pair_words version s.0 r.0) (event_plain version (event.Crash s r) fine); fits = fine })
event_back version event.Nudge fine = event_read version _ event.Nudge (record { spelled = words_joined (codes "nudge") [] refl; fits = fine })
event_back version event.Replace fine = event_read version _ event.Replace (record { spelled = words_joined (codes "replace") [] refl; fits = fine })
event_back version (event.Noise to bytes) fine =
    event_read version _ (event.Noise to bytes) (record {
      spelled = words_joined (codes "noise") (node_words version to ++ hex_word bytes ∷ []) (event_plain version (event.Noise to bytes) fine);
      fits = fine;
    })
