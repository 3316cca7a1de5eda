use Rattle.std.specs.Prelude.{Option, List}
use Rattle.std.specs.BTreeMap.{is_at}
use Rattle.std.specs.Map.{lookup}
use Rattle.std.specs.Ordering.{nat_cmp, ordering_then}
use Rattle.std.specs.declared.cmp.Ordering.{Ordering}
use Rattle.eris_base.specs.declared.ids.Phase.{Phase}
use Rattle.eris_base.specs.declared.ids.TxnId.{TxnId}
use Rattle.eris_txn.specs.declared.answer.Answer.{Answer}

-- the order of ids: by client, then by number
abbrev pub id_cmp : TxnId → TxnId → Ordering
id_cmp some other = ordering_then (nat_cmp some.client.0 other.client.0) (nat_cmp some.number other.number)

-- the answer of each id
abbrev pub answer_in : List (TxnId × Answer) → TxnId → Option Answer
answer_in entries = λ id. lookup (is_at (id_cmp id)) entries

-- answers by id, for each phase
pub record AnswersValue : Type 0 where
  pub whole : List (TxnId × Answer)
  pub prelim : List (TxnId × Answer)
  pub conclude : List (TxnId × Answer)

-- those of a phase
abbrev pub of_phase : AnswersValue → Phase → List (TxnId × Answer)
of_phase answers Phase.Whole = answers.whole
of_phase answers Phase.Prelim = answers.prelim
of_phase answers Phase.Conclude = answers.conclude

-- the answer of each id and phase
abbrev pub recorded_in : AnswersValue → TxnId → Phase → Option Answer
recorded_in answers = λ id phase. answer_in (of_phase answers phase) id
