-- Values with one of them changed, and operations one after the other.
use Rattle.std.proofs.Common.{◌≡◌, ℕ, suc, true, false, Option, List, [], ◌∷◌, ◌++◌, length, refl, ap, ◌∙◌, ◌⊎◌, inl, inr}
use Rattle.std.proofs.lemmas.Bool.{cases_Bool, cond-true, cond-false}
use mathlib.Core.Path.{fun_ext}
use Rattle.eris_txn.specs.declared.key.Key.{Key}
use Rattle.eris_txn.specs.declared.op.Op.{Op}
use Rattle.eris_txn.specs.Keys.{same_key, Values, with_value}
use Rattle.eris_txn.specs.Operations.{key_of, left_by, answered, after, after_all, answers}
use Rattle.eris_txn.proofs.KeyLaws.{same_key-true, same_key-refl}

pub with_value-same : (key : Key) (value : Option ℕ) (values : Values) → with_value key value values key ≡ value
with_value-same key value values = cond-true (same_key key key) value (values key) (same_key-refl key)

pub with_value-other : (key : Key) (value : Option ℕ) (values : Values) (other : Key) → same_key key other ≡ false → with_value key value values other ≡ values other
with_value-other key value values other apart = cond-false (same_key key other) value (values other) apart

-- putting back what is there changes nothing
pub with_value-kept : (key : Key) (values : Values) → with_value key (values key) values ≡ values
with_value-kept key values = fun_ext (λ other. by_test other (cases_Bool (same_key key other)))
  where
    by_test : (other : Key) → ((same_key key other ≡ true) ⊎ (same_key key other ≡ false)) → with_value key (values key) values other ≡ values other
    by_test other (inl same) = cond-true (same_key key other) (values key) (values other) same ∙ ap values (same_key-true key other same)
    by_test other (inr apart) = cond-false (same_key key other) (values key) (values other) apart

-- an operation that leaves its key's value changes nothing
pub after-kept : (op : Op) (values : Values) → left_by op (values (key_of op)) ≡ values (key_of op) → after op values ≡ values
after-kept op values kept = ap (λ value. with_value (key_of op) value values) kept ∙ with_value-kept (key_of op) values

pub after_all-append : (some others : List Op) (values : Values) → after_all (some ++ others) values ≡ after_all others (after_all some values)
after_all-append [] others values = refl
after_all-append (op ∷ some) others values = after_all-append some others (after op values)

pub answers-append : (some others : List Op) (values : Values) → answers (some ++ others) values ≡ answers some values ++ answers others (after_all some values)
answers-append [] others values = refl
answers-append (op ∷ some) others values = ap (λ more. answered op (values (key_of op)) ∷ more) (answers-append some others (after op values))

-- one answer for each operation
pub length-answers : (ops : List Op) (values : Values) → length (answers ops values) ≡ length ops
length-answers [] values = refl
length-answers (op ∷ ops) values = ap (λ n. suc n) (length-answers ops (after op values))
