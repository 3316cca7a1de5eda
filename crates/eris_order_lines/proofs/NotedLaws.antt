-- What is noted of an id is what its first conclusory packet says.
use Rattle.std.proofs.Common.{◌≡◌, Bool, true, false, cond, Option, Some, None, is_some, if◌then◌else◌, refl, ap, sym, ◌∙◌}
use Rattle.std.specs.BTreeMap.{is_at}
use Rattle.std.specs.Option.{option_or, unwrap_or}
use Rattle.eris_base.proofs.Booleans.{none_from}
use Rattle.eris_base.proofs.TxnIdLaws.{same_id-true, same_id-turned}
use Rattle.eris_base.specs.declared.ids.TxnId.{TxnId}
use Rattle.eris_base.specs.TxnIds.{same_id}
use Rattle.eris_txn.specs.declared.answer.Answer.{Answer}
use Rattle.eris_audit.specs.declared.outcome.Outcome.{Outcome}
use Rattle.eris_order.specs.Orders.{outcome_from}
use Rattle.eris_order_lines.specs.Noted.{id_cmp, with_first}
use Rattle.eris_order_lines.proofs.AmongIds.{id_tie}

or_nothing : (noted : Option Outcome) → noted ≡ option_or noted None
or_nothing None = refl
or_nothing (Some outcome) = refl

or_more : (noted more : Option Outcome) → is_some noted ≡ true → noted ≡ option_or noted more
or_more None more there = cc
or_more (Some outcome) more there = refl

-- an id of which an outcome is noted keeps it
pub first_stays : (noted : TxnId → Option Outcome) (id : TxnId) (outcome : Outcome) → is_some (noted id) ≡ true
    → (other : TxnId) → noted other ≡ with_first noted id outcome other
first_stays noted id outcome there other = by_test (same_id other id) refl
  where
    by_test : (t : Bool) → same_id other id ≡ t → noted other ≡ option_or (noted other) (if t then Some outcome else None)
    by_test true is = or_more (noted other) (Some outcome) (ap (λ (it : TxnId). is_some (noted it)) (same_id-true other id is) ∙ there)
    by_test false is = or_nothing (noted other)

-- another one gets it
pub first_put : (old new : TxnId → Option Outcome) (id : TxnId) (outcome : Outcome) → is_some (old id) ≡ false
    → ((other : TxnId) → new other ≡ cond (is_at (id_cmp id) other) (Some outcome) (old other))
    → (other : TxnId) → new other ≡ with_first old id outcome other
first_put old new id outcome none puts other =
    puts other
    ∙ ap (λ t. cond t (Some outcome) (old other)) (id_tie id other ∙ same_id-turned id other)
    ∙ by_test (same_id other id) refl
  where
    by_test : (t : Bool) → same_id other id ≡ t → cond t (Some outcome) (old other) ≡ option_or (old other) (if t then Some outcome else None)
    by_test true is = ap (λ (noted : Option Outcome). option_or noted (Some outcome)) (sym (none_from (old other) (ap (λ (it : TxnId). is_some (old it)) (same_id-true other id is) ∙ none)))
    by_test false is = or_nothing (old other)

-- a Commit and an Abort, noted behind what was noted before
pub commit_noted : (noted : Option Outcome) (here : Bool) (later : Option Answer)
    → unwrap_or (option_or noted (if here then Some Outcome.Committed else None)) (outcome_from later)
    ≡ unwrap_or noted (outcome_from (if here then Some Answer.Committed else later))
commit_noted (Some outcome) here later = refl
commit_noted None true later = refl
commit_noted None false later = refl

pub abort_noted : (noted : Option Outcome) (here : Bool) (later : Option Answer)
    → unwrap_or (option_or noted (if here then Some Outcome.Aborted else None)) (outcome_from later)
    ≡ unwrap_or noted (outcome_from (if here then Some Answer.Aborted else later))
abort_noted (Some outcome) here later = refl
abort_noted None true later = refl
abort_noted None false later = refl
