use Rattle.std.proofs.Common.{◌≡◌, List, [], ◌∷◌, ◌++◌, refl, ap, sym, ◌∙◌, append_assoc}
use Rattle.std.specs.Prelude.{IsTrue}
use Rattle.eris_base.specs.declared.ids.TxnId.{TxnId}
use Rattle.eris_txn.specs.declared.answer.Answer.{Answer}
use Rattle.eris_txn.specs.declared.history.HistoryEvent.{HistoryEvent}
use Rattle.eris_txn.specs.declared.history.HistoryEvent.TheVariants.{Submit, Read, Answer as Answered, Told}
use Rattle.eris_txn.specs.declared.txn.Txn.{Txn}
use Rattle.eris_base.specs.Each.{EachAfter}
use Rattle.eris_audit.specs.IsSerial.{AnsweredStandsBefore, FollowsAnswered}
use Rattle.eris_audit.specs.Lines.{Line, has_line, stands_before}
use Rattle.eris_audit.proofs.Places.{Each-at, Each-from, EachAfter-at, EachAfter-from}

-- rule 4, of an answer and a submit anywhere behind it in the history
abbrev pub FollowsAnswer : List HistoryEvent → List Line → Type 0
FollowsAnswer history lines =
    (before between after : List HistoryEvent) (answered submitted : TxnId) (answer : Answer) (txn : Txn)
    → history ≡ before ++ Answered answered answer ∷ (between ++ Submit submitted txn ∷ after)
    → IsTrue (has_line lines answered) → IsTrue (has_line lines submitted) → IsTrue (stands_before lines answered submitted)

pub follows_from : (history : List HistoryEvent) (lines : List Line) → FollowsAnswer history lines → EachAfter (FollowsAnswered lines) [] history
follows_from history lines follows = EachAfter-from (FollowsAnswered lines) [] history at_event
  where
    at_answer : (front back : List HistoryEvent) (submitted : TxnId) (txn : Txn) → history ≡ front ++ Submit submitted txn ∷ back
        → (before between : List HistoryEvent) (event : HistoryEvent) → front ≡ before ++ event ∷ between → AnsweredStandsBefore lines submitted event
    at_answer front back submitted txn split before between (Answered answered answer) inner = follows before between back answered submitted answer txn (split ∙ ap (λ l. l ++ Submit submitted txn ∷ back) inner ∙ append_assoc before (Answered answered answer ∷ between) (Submit submitted txn ∷ back))
    at_answer front back submitted txn split before between (Submit id other) inner = tt
    at_answer front back submitted txn split before between (Read id values) inner = tt
    at_answer front back submitted txn split before between (Told asker id answer) inner = tt

    at_event : (front back : List HistoryEvent) (event : HistoryEvent) → history ≡ front ++ event ∷ back → FollowsAnswered lines front event
    at_event front back (Submit id txn) split = Each-from (AnsweredStandsBefore lines id) front (at_answer front back id txn split)
    at_event front back (Read id values) split = tt
    at_event front back (Answered id answer) split = tt
    at_event front back (Told asker id answer) split = tt

pub follows_at : (history : List HistoryEvent) (lines : List Line) → EachAfter (FollowsAnswered lines) [] history → FollowsAnswer history lines
follows_at history lines follows before between after answered submitted answer txn split =
    let at_submit = EachAfter-at (FollowsAnswered lines) [] history follows (before ++ Answered answered answer ∷ between) after (Submit submitted txn) (split ∙ sym (append_assoc before (Answered answered answer ∷ between) (Submit submitted txn ∷ after))) in
    Each-at (AnsweredStandsBefore lines submitted) (before ++ Answered answered answer ∷ between) at_submit before between (Answered answered answer) refl
