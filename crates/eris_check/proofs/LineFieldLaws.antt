-- Ids, clients and outcomes at the front of words, and what a line says.
use Rattle.std.proofs.Common.{◌≡◌, ◌<◌, ◌^◌, ℕ, true, nat_le, nat_lt, codes, Option, Some, None, Ok, List, [], ◌∷◌, ◌++◌, refl, arith, lit<}
use Rattle.std.proofs.lemmas.Bool.Decides.{nat_tests}
use Rattle.eris_base.proofs.Booleans.{left_of, right_of}
use Rattle.eris_base.specs.declared.ids.ClientId.{ClientId}
use Rattle.eris_base.specs.declared.ids.ShardId.{ShardId}
use Rattle.eris_base.specs.declared.ids.TxnId.{TxnId}
use Rattle.eris_txn.specs.declared.answer.Answer.{Answer}
use Rattle.eris_txn.specs.declared.answer.Answer.TheVariants.{Ops, Values, Committed, Aborted}
use Rattle.eris_txn.specs.declared.op.OpAnswer.{OpAnswer}
use Rattle.eris_txn.specs.declared.op.OpAnswer.TheVariants.{Value, Absent, Done, Yes, No}
use Rattle.eris_event.specs.EventRanges.{fits_count}
use Rattle.eris_grammar.specs.Fields.{number}
use Rattle.eris_report.specs.HistoryText.{answer_words, op_answer_word, value_word}
use Rattle.eris_report_range.specs.ReportRanges.{is_ranged_client, is_ranged_id, is_ranged_number, is_ranged_op_answer, is_ranged_outcome, is_ranged_place, is_ranged_value}
use Rattle.eris_words.specs.Decimal.{decimal}
use Rattle.eris_words.specs.Forms.{whole}
use Rattle.eris_words.specs.Words.{id_word, place_word}
use Rattle.eris_words.proofs.FormLaws.{whole_again, whole_takes}
use Rattle.eris_check.specs.declared.report_line.ReportLine.{ReportLine}
use Rattle.eris_check.specs.ReportFields.{asker, id, joined, told, told_word}
use Rattle.eris_check.specs.ReportLines.{fits_line, line_words}
use Rattle.eris_check.proofs.FieldLaws.{begins_digit, begins_more, decimal_begins, is_asker, is_id, is_told}
use Rattle.eris_check.proofs.VisibleLaws.{count_visible, joined_visible, number_visible, value_visible, visible}

-- the words are those of what the line says, and it is in range
pub record Said (words : List (List ℕ)) (v : ReportLine) : Type 0 where
  pub spelled : words ≡ line_words v
  pub fits : fits_line v ≡ true

-- CLIENTS

pub client_fits : (n : ℕ) → nat_le n 127 ≡ true → nat_lt n 128 ≡ true
client_fits n low = grind (arith, nat_tests)

client_low : (n : ℕ) → nat_lt n 128 ≡ true → nat_le n 127 ≡ true
client_low n fits = grind (arith, nat_tests)

client_small : (n : ℕ) → nat_lt n 128 ≡ true → n < 2 ^ 64
client_small n fits = grind (arith, nat_tests)

pub client_visible : (c : ClientId) → is_ranged_client c ≡ true → visible (decimal c.0) ≡ true
client_visible c fits = number_visible 127 c.0 (lit< tt) (client_low c.0 fits)

pub asker_taken : (words : List (List ℕ)) (c : ClientId) (rest : List (List ℕ)) → asker.read words ≡ Ok (c, rest) → (words ≡ decimal c.0 ∷ rest) × (is_ranged_client c ≡ true)
unfolding asker number
asker_taken words c rest read = let t = is_asker.takes words c rest read in (t.parts, client_fits c.0 t.fits)

pub asker_again : (c : ClientId) (rest : List (List ℕ)) → is_ranged_client c ≡ true → asker.read (decimal c.0 ∷ rest) ≡ Ok (c, rest)
unfolding asker number
asker_again c rest fits = is_asker.again c rest (client_low c.0 fits)

-- IDS

pub id_taken : (words : List (List ℕ)) (i : TxnId) (rest : List (List ℕ)) → id.read words ≡ Ok (i, rest) → (words ≡ id_word i ∷ rest) × (is_ranged_id i ≡ true)
unfolding id joined
id_taken words i rest read = let t = is_id.takes words i rest read in (t.parts, t.fits)

pub id_again : (i : TxnId) (rest : List (List ℕ)) → is_ranged_id i ≡ true → id.read (id_word i ∷ rest) ≡ Ok (i, rest)
unfolding id joined
id_again i rest fits = is_id.again i rest fits

pub number_seen : (n : ℕ) → is_ranged_number n ≡ true → visible (decimal n) ≡ true
number_seen n fits = count_visible n (right_of (nat_lt 0 n) (fits_count n) fits)

pub id_visible : (i : TxnId) → is_ranged_id i ≡ true → visible (id_word i) ≡ true
id_visible i fits =
    joined_visible i.client.0 46 i.number refl (client_visible i.client (left_of (is_ranged_client i.client) (is_ranged_number i.number) fits))
    (number_seen i.number (right_of (is_ranged_client i.client) (is_ranged_number i.number) fits))

pub id_begins : (i : TxnId) → is_ranged_id i ≡ true → begins_digit (id_word i) ≡ true
id_begins i fits =
    let client = decimal_begins i.client.0 (client_small i.client.0 (left_of (is_ranged_client i.client) (is_ranged_number i.number) fits)) in
    begins_more (decimal i.client.0 ++ codes ".") (decimal i.number) (begins_more (decimal i.client.0) (codes ".") client)

-- PLACES, VALUES AND ANSWERS

shard_low : (n : ℕ) → nat_lt n 64 ≡ true → nat_le n 63 ≡ true
shard_low n fits = grind (arith, nat_tests)

pub place_visible : (place : ShardId × ℕ) → is_ranged_place place ≡ true → visible (place_word place) ≡ true
place_visible place fits =
    joined_visible place.0.0 58 place.1 refl (number_visible 63 place.0.0 (lit< tt) (shard_low place.0.0 (left_of (nat_lt place.0.0 64) (is_ranged_number place.1) fits)))
    (number_seen place.1 (right_of (nat_lt place.0.0 64) (is_ranged_number place.1) fits))

pub value_seen : (value : Option ℕ) → is_ranged_value value ≡ true → visible (value_word value) ≡ true
value_seen (Some n) fits = value_visible n fits
value_seen None fits = refl

pub op_answer_seen : (answer : OpAnswer) → is_ranged_op_answer answer ≡ true → visible (op_answer_word answer) ≡ true
op_answer_seen (Value n) fits = value_visible n fits
op_answer_seen Absent fits = refl
op_answer_seen Done fits = refl
op_answer_seen Yes fits = refl
op_answer_seen No fits = refl

-- OUTCOMES

outcome_words : (words : List (List ℕ)) (a : Answer) → words ≡ told_word a ∷ [] → is_ranged_outcome a ≡ true → words ≡ answer_words a
outcome_words words (Ops answers) spelled fits = absurd cc
outcome_words words (Values values) spelled fits = absurd cc
outcome_words words Committed spelled fits = spelled
outcome_words words Aborted spelled fits = spelled

pub outcome_taken : (words : List (List ℕ)) (a : Answer) → whole told words ≡ Ok a → (words ≡ answer_words a) × (is_ranged_outcome a ≡ true)
unfolding told
outcome_taken words a read = let t = whole_takes told is_told words a read in (outcome_words words a t.0 t.1, t.1)

pub outcome_again : (a : Answer) → is_ranged_outcome a ≡ true → whole told (answer_words a) ≡ Ok a
unfolding told
outcome_again (Ops answers) fits = absurd cc
outcome_again (Values values) fits = absurd cc
outcome_again Committed fits = whole_again told is_told Committed refl
outcome_again Aborted fits = whole_again told is_told Aborted refl
