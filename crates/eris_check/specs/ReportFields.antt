-- What the words of a report's lines say: ids, places, values and answers, and counts behind their names.
use Rattle.std.specs.Prelude.{ℕ, ◌+◌, ◌-◌, ◌^◌, ◌==◌, ◌&&◌, nat_lt, Bool, Option, Some, None, option_map, Result, Ok, Err, List, [], ◌∷◌, ◌++◌, length, bytes_eq, codes, if◌then◌else◌}
use Rattle.std.specs.List.{before_first, after_first}
use Rattle.eris_base.specs.declared.ids.ClientId.{ClientId}
use Rattle.eris_base.specs.declared.ids.ShardId.{ShardId}
use Rattle.eris_base.specs.declared.ids.TxnId.{TxnId}
use Rattle.eris_txn.specs.declared.answer.Answer.{Answer}
use Rattle.eris_txn.specs.declared.answer.Answer.TheVariants.{Ops, Values, Committed, Aborted}
use Rattle.eris_txn.specs.declared.op.OpAnswer.{OpAnswer}
use Rattle.eris_txn.specs.declared.op.OpAnswer.TheVariants.{Value, Absent, Done, Yes, No}
use Rattle.eris_words.specs.declared.reason.Reason.{Reason}
use Rattle.eris_words.specs.declared.reason.Reason.TheVariants as reason
use Rattle.eris_words.specs.Decimal.{decimal, read_decimal}
use Rattle.eris_words.specs.Forms.{Form, ◌>>=◌, expect, named, one_word, said}
use Rattle.eris_event.specs.EventRanges.{fits_count}
use Rattle.eris_grammar.specs.Fields.{both_of, count, number}
use Rattle.eris_report_range.specs.ReportRanges.{is_ranged_length, is_ranged_number, is_ranged_outcome}

-- TWO NUMBERS WITH A BYTE BETWEEN THEM, the second at least 1

abbrev pub from_one : Option ℕ → Option ℕ
from_one None = None
from_one (Some n) = if nat_lt 0 n then Some n else None

abbrev pub is_byte : ℕ → ℕ → Bool
is_byte at byte = byte == at

abbrev pub joined_word : ℕ → ℕ × ℕ → List ℕ
joined_word at p = decimal p.0 ++ (at ∷ []) ++ decimal p.1

abbrev pub read_joined : ℕ → ℕ → List ℕ → Option (ℕ × ℕ)
read_joined at limit word =
    both_of (read_decimal limit (before_first (is_byte at) word)) (from_one (read_decimal (2 ^ 32 - 1) (after_first (is_byte at) word)))

abbrev pub fits_joined : ℕ → ℕ × ℕ → Bool
fits_joined limit p = nat_lt p.0 (limit + 1) && is_ranged_number p.1

unfoldable pub joined : ℕ → ℕ → Form (ℕ × ℕ)
joined at limit = one_word reason.Number (joined_word at) (read_joined at limit) (fits_joined limit)

-- `C.N`: the client, 0 to 127, and the number of its transaction
unfoldable pub id : Form TxnId
id = named (λ p. record { client = record { 0 = p.0 }; number = p.1 }) (λ id. (id.client.0, id.number)) (joined 46 127)

-- `S:N`: a shard, 0 to 63, and the number that a stamp gives it
abbrev pub read_place : List ℕ → Option (ShardId × ℕ)
read_place word = option_map (λ p. (record { 0 = p.0 }, p.1)) (read_joined 58 63 word)

-- CLIENTS, AND COUNTS BEHIND THEIR NAMES

unfoldable pub asker : Form ClientId
asker = named (λ n. record { 0 = n }) (λ c. c.0) (number 127)

unfoldable pub labelled : List ℕ → Form ℕ
labelled name = record {
  spell = λ n. name ∷ decimal n ∷ [];
  read = λ words. expect name words >>= λ behind. count.read behind;
  fits = λ n. fits_count n;
}

-- VALUES AND ANSWERS

-- a key's value, `-` where it has none
abbrev pub read_value : List ℕ → Option (Option ℕ)
read_value word = if bytes_eq word (codes "-") then Some None else option_map (λ n. Some n) (read_decimal (2 ^ 64 - 1) word)

abbrev pub read_op_answer : List ℕ → Option OpAnswer
read_op_answer word =
    if bytes_eq word (codes "-") then Some Absent
    else if bytes_eq word (codes "ok") then Some Done
    else if bytes_eq word (codes "yes") then Some Yes
    else if bytes_eq word (codes "no") then Some No
    else option_map (λ n. Value n) (read_decimal (2 ^ 64 - 1) word)

-- an outcome as it is told
abbrev pub told_word : Answer → List ℕ
told_word (Ops answers) = []
told_word (Values values) = []
told_word Committed = codes "committed"
told_word Aborted = codes "aborted"

abbrev pub read_told : List ℕ → Option Answer
read_told word =
    if bytes_eq word (codes "committed") then Some Committed else if bytes_eq word (codes "aborted") then Some Aborted else None

unfoldable pub told : Form Answer
told = one_word reason.Word told_word read_told is_ranged_outcome

-- ITEMS, a word each, to the end of the line

unfoldable pub items : {X : Type 0} → (List ℕ → Option X) → List (List ℕ) → Result (List X) Reason
items value [] = Ok []
items value (word ∷ words) = said (value word) reason.Word >>= λ x. items value words >>= λ xs. Ok (x ∷ xs)

-- 1 to 32 of them
abbrev pub if_few : {X : Type 0} → List X → Result (List X) Reason
if_few xs = if is_ranged_length (length xs) then Ok xs else Err reason.TooMany

abbrev pub few_items : {X : Type 0} → (List ℕ → Option X) → List (List ℕ) → Result (List X) Reason
few_items value words = items value words >>= if_few
