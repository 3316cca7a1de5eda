use mathlib.Core.Path.{fun_ext}
use Rattle.std.proofs.Common.{◌≡◌, ◌⊎◌, Bool, true, false, cond, Option, Some, None, List, [], ◌∷◌, ◌++◌, is_some, refl, sym, ap, ◌∙◌, inl, inr}
use Rattle.std.proofs.lemmas.Bool.{cases_Bool}
use Rattle.std.specs.Borrow.{Bor}
use Rattle.std.specs.Map.{lookup}
use Rattle.std.specs.Option.{option_map, option_or}
use Rattle.eris_base.specs.contracts.ids.TxnIdPartialEq.TheImpl as derived
use Rattle.eris_base.specs.declared.ids.TxnId.{TxnId}
use Rattle.eris_txn.specs.declared.history.HistoryEvent.{HistoryEvent}
use Rattle.eris_txn.specs.declared.history.HistoryEvent.TheVariants.{Submit, Read, Answer as Answered, Told}
use Rattle.eris_txn.specs.declared.txn.Txn.{Txn}
use Rattle.eris_audit.specs.Histories.{first_submit}
use Rattle.eris_audit.specs.Tables.{AreSubmits}
use Rattle.eris_base.specs.TxnIds.{same_id}
use Rattle.eris_base.proofs.TxnIdLaws.{same_id-true}
use Rattle.eris_audit.proofs.TableLines.{derived-line}

-- The table of the transactions that a history submits.

or-none : {X : Type 0} (found : Option X) → option_or found None ≡ found
or-none None = refl
or-none (Some x) = refl

or-some : {X : Type 0} (found more : Option X) → is_some found ≡ true → option_or found more ≡ found
or-some None more h = cc
or-some (Some x) more h = refl

map-or : {X Y : Type 0} (f : X → Y) (found more : Option X) → option_map f (option_or found more) ≡ option_or (option_map f found) (option_map f more)
map-or f None more = refl
map-or f (Some x) more = refl

pub is_some-map : {X Y : Type 0} (f : X → Y) (found : Option X) → is_some (option_map f found) ≡ is_some found
is_some-map f None = refl
is_some-map f (Some x) = refl

pub lookup-derived : {X : Type 0} (entries : List (TxnId × X)) (id : TxnId) → lookup (derived.eq-value.it id) entries ≡ lookup (λ other. same_id other id) entries
lookup-derived entries id = ap (λ test. lookup test entries) (fun_ext (derived-line id))

lookup-append : {K X : Type 0} (test : K → Bool) (entries : List (K × X)) (entry : K × X) → lookup test (entries ++ entry ∷ []) ≡ option_or (lookup test entries) (lookup test (entry ∷ []))
lookup-append test [] entry = refl
lookup-append test (first ∷ entries) entry = by_test (test first.0) (lookup-append test entries entry)
  where
    by_test : (found : Bool) → lookup test (entries ++ entry ∷ []) ≡ option_or (lookup test entries) (lookup test (entry ∷ []))
        → cond found (Some first.1) (lookup test (entries ++ entry ∷ [])) ≡ option_or (cond found (Some first.1) (lookup test entries)) (lookup test (entry ∷ []))
    by_test true rest = refl
    by_test false rest = rest

first_submit-append : (before : List HistoryEvent) (event : HistoryEvent) (id : TxnId) → first_submit (before ++ event ∷ []) id ≡ option_or (first_submit before id) (first_submit (event ∷ []) id)
first_submit-append [] event id = refl
first_submit-append (Submit other txn ∷ before) event id = by_test (same_id other id) (first_submit-append before event id)
  where
    by_test : (found : Bool) → first_submit (before ++ event ∷ []) id ≡ option_or (first_submit before id) (first_submit (event ∷ []) id)
        → cond found (Some txn) (first_submit (before ++ event ∷ []) id) ≡ option_or (cond found (Some txn) (first_submit before id)) (first_submit (event ∷ []) id)
    by_test true rest = refl
    by_test false rest = rest
first_submit-append (Read other values ∷ before) event id = first_submit-append before event id
first_submit-append (Answered other answer ∷ before) event id = first_submit-append before event id
first_submit-append (Told asker other answer ∷ before) event id = first_submit-append before event id

-- an event that is no submit
pub other_event : (before : List HistoryEvent) (event : HistoryEvent) (id : TxnId) → ((other : TxnId) (txn : Txn) → event ≡ Submit other txn → ⊥)
    → first_submit before id ≡ first_submit (before ++ event ∷ []) id
other_event before event id other_kind = sym (first_submit-append before event id ∙ ap (option_or (first_submit before id)) (none event other_kind) ∙ or-none (first_submit before id))
  where
    none : (event : HistoryEvent) → ((other : TxnId) (txn : Txn) → event ≡ Submit other txn → ⊥) → first_submit (event ∷ []) id ≡ None
    none (Submit other txn) other_kind = absurd (other_kind other txn refl)
    none (Read other values) other_kind = refl
    none (Answered other answer) other_kind = refl
    none (Told asker other answer) other_kind = refl

-- an id that was submitted before
pub later_submit : (before : List HistoryEvent) (id : TxnId) (txn : Txn) → is_some (first_submit before id) ≡ true
    → (asked : TxnId) → first_submit before asked ≡ first_submit (before ++ Submit id txn ∷ []) asked
later_submit before id txn known asked = sym (first_submit-append before (Submit id txn) asked ∙ by_test (cases_Bool (same_id id asked)))
  where
    by_test : ((same_id id asked ≡ true) ⊎ (same_id id asked ≡ false)) → option_or (first_submit before asked) (first_submit (Submit id txn ∷ []) asked) ≡ first_submit before asked
    by_test (inl same) = or-some _ _ (ap (λ other. is_some (first_submit before other)) (sym (same_id-true id asked same)) ∙ known)
    by_test (inr apart) = ap (λ test. option_or (first_submit before asked) (cond test (Some txn) None)) apart ∙ or-none (first_submit before asked)

new_entry : (before : List HistoryEvent) (entries : List (TxnId × Bor Txn)) (id : TxnId) (txn : Bor Txn)
    → AreSubmits before entries → AreSubmits (before ++ Submit id txn.now ∷ []) (entries ++ (id, txn) ∷ [])
new_entry before entries id txn are asked =
    ap (option_map now) (lookup-append test entries (id, txn))
    ∙ map-or now (lookup test entries) (lookup test ((id, txn) ∷ []))
    ∙ ap (λ found. option_or found (option_map now (lookup test ((id, txn) ∷ [])))) (are asked)
    ∙ ap (option_or (first_submit before asked)) (by_test (same_id id asked))
    ∙ sym (first_submit-append before (Submit id txn.now) asked)
  where
    now : Bor Txn → Txn
    now txn = txn.now

    test : TxnId → Bool
    test other = same_id other asked

    by_test : (found : Bool) → option_map now (cond found (Some txn) None) ≡ cond found (Some txn.now) None
    by_test true = refl
    by_test false = refl

-- an id that wasn't
pub new_submit : (before : List HistoryEvent) (event : HistoryEvent) (entries left : List (TxnId × Bor Txn)) (id : TxnId) (txn : Bor Txn)
    → event ≡ Submit id txn.now → left ≡ entries ++ (id, txn) ∷ [] → AreSubmits before entries → AreSubmits (before ++ event ∷ []) left
new_submit before event entries left id txn is added are asked =
    ap (λ table. option_map (λ (submitted : Bor Txn). submitted.now) (lookup (λ other. same_id other asked) table)) added
    ∙ new_entry before entries id txn are asked
    ∙ ap (λ last. first_submit (before ++ last ∷ []) asked) (sym is)

-- what the table finds was submitted
pub found_submit : (before : List HistoryEvent) (entries : List (TxnId × Bor Txn)) (id : TxnId) → AreSubmits before entries
    → is_some (lookup (derived.eq-value.it id) entries) ≡ is_some (first_submit before id)
found_submit before entries id are =
    ap is_some (lookup-derived entries id) ∙ sym (is_some-map (λ (txn : Bor Txn). txn.now) _) ∙ ap is_some (are id)
