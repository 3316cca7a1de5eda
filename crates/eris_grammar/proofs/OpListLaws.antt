-- The operations of an independent transaction are read as just what they spell.
use Rattle.std.proofs.Common.{◌≡◌, ℕ, ◌≤◌, Bool, true, false, cond, ◌&&◌, nat_le, nat_lt, Ok, Err, List, [], ◌∷◌, ◌++◌, length, refl, sym, ap, subst, ◌∙◌, arith}
use Rattle.std.specs.List.{flat_map, list_all}
use Rattle.std.proofs.lemmas.Bool.Decides.{nat_tests}
use Rattle.std.proofs.lemmas.Bool.{and_from, leb-true, le-leb}
use Rattle.eris_base.proofs.Booleans.{left_of, right_of}
use Rattle.eris_txn.specs.declared.op.Op.{Op}
use Rattle.eris_words.specs.declared.reason.Reason.TheVariants as reason
use Rattle.eris_words.specs.Forms.{◌>>=◌, more}
use Rattle.eris_grammar.specs.OpForms.{all_ops, few_ops, op, ops_of}
use Rattle.eris_event.specs.EventRanges.{are_ops, fits_op, most}
use Rattle.eris_words.specs.OpText.{next_op_words, op_words, ops_words}
use Rattle.eris_words.proofs.FormLaws.{are_plain, bind_ok, each_plain, more_again, more_takes, ok_is, plain-append}
use Rattle.eris_grammar.proofs.OpLaws.{is_op}

few_is : (version : ℕ) (ops taken : List Op) → few_ops version ops ≡ Ok taken → (ops ≡ taken) × (length ops ≤ most version)
few_is version ops taken read = of_test (nat_lt (most version) (length ops)) refl read
  where
    of_test : (test : Bool) → test ≡ nat_lt (most version) (length ops) → cond test (Err reason.TooMany) (Ok ops) ≡ Ok taken → (ops ≡ taken) × (length ops ≤ most version)
    of_test true is read = absurd cc
    of_test false is read = (ok_is ops taken read, grind (arith, nat_tests))

pub record OpsTaken (version : ℕ) (words : List (List ℕ)) (ops : List Op) : Type 0 where
  pub parts : words ≡ ops_words ops
  pub fits : are_ops version ops ≡ true

pub ops_take : (version : ℕ) (words : List (List ℕ)) (ops : List Op) → ops_of version words ≡ Ok ops → OpsTaken version words ops
unfolding ops_of all_ops op
ops_take version words ops read =
    let a = bind_ok (all_ops version words) (few_ops version) ops read in
    let b = bind_ok ((op version).read words) (λ first. more (op version) first.1 >>= λ others. Ok (first.0 ∷ others)) a.0 a.1 in
    let c = bind_ok (more (op version) b.0.1) (λ others. Ok (b.0.0 ∷ others)) a.0 b.2 in
    let t = (is_op version).takes words b.0.0 b.0.1 b.1 in
    let u = more_takes (op version) (is_op version) (length b.0.1) b.0.1 c.0 c.1 in
    let few = few_is version a.0 ops a.2 in
    let same : b.0.0 ∷ c.0 ≡ ops = ok_is (b.0.0 ∷ c.0) a.0 c.2 ∙ few.0 in
    let size : length (b.0.0 ∷ c.0) ≤ most version = subst (λ (z : List Op). length z ≤ most version) (sym (ok_is (b.0.0 ∷ c.0) a.0 c.2)) few.1 in
    let made : OpsTaken version words (b.0.0 ∷ c.0) = record {
      parts = t.parts ∙ ap (λ (z : List (List ℕ)). op_words b.0.0 ++ z) u.parts;
      fits = and_from (nat_lt 0 (length (b.0.0 ∷ c.0)) && nat_le (length (b.0.0 ∷ c.0)) (most version)) (list_all (fits_op version) (b.0.0 ∷ c.0))
          (and_from (nat_lt 0 (length (b.0.0 ∷ c.0))) (nat_le (length (b.0.0 ∷ c.0)) (most version)) (grind (arith, nat_tests)) (le-leb (length (b.0.0 ∷ c.0)) (most version) size))
          (and_from (fits_op version b.0.0) (list_all (fits_op version) c.0) t.fits u.fits);
    } in
    subst (λ (z : List Op). OpsTaken version words z) same made

pub ops_again : (version : ℕ) (ops : List Op) → are_ops version ops ≡ true → ops_of version (ops_words ops) ≡ Ok ops
unfolding ops_of all_ops op
ops_again version [] fine = absurd cc
ops_again version (first ∷ others) fine =
    let sized = left_of (nat_lt 0 (length (first ∷ others)) && nat_le (length (first ∷ others)) (most version)) (list_all (fits_op version) (first ∷ others)) fine in
    let few = leb-true (length (first ∷ others)) (most version) (right_of (nat_lt 0 (length (first ∷ others))) (nat_le (length (first ∷ others)) (most version)) sized) in
    let all = right_of (nat_lt 0 (length (first ∷ others)) && nat_le (length (first ∷ others)) (most version)) (list_all (fits_op version) (first ∷ others)) fine in
    let here = left_of (fits_op version first) (list_all (fits_op version) others) all in
    let rest = right_of (fits_op version first) (list_all (fits_op version) others) all in
    let small : nat_lt (most version) (length (first ∷ others)) ≡ false = grind (arith, nat_tests) in
    ap (λ r. r >>= (λ x. more (op version) x.1 >>= λ others. Ok (x.0 ∷ others)) >>= few_ops version) ((is_op version).again first (flat_map next_op_words others) here)
    ∙ ap (λ r. r >>= (λ others. Ok (first ∷ others)) >>= few_ops version) (more_again (op version) (is_op version) others rest)
    ∙ ap (λ test. cond test (Err reason.TooMany) (Ok (first ∷ others))) small

pub ops_plain : (version : ℕ) (ops : List Op) → are_ops version ops ≡ true → are_plain (ops_words ops) ≡ true
unfolding op
ops_plain version [] fine = refl
ops_plain version (first ∷ others) fine =
    let all = right_of (nat_lt 0 (length (first ∷ others)) && nat_le (length (first ∷ others)) (most version)) (list_all (fits_op version) (first ∷ others)) fine in
    let here = left_of (fits_op version first) (list_all (fits_op version) others) all in
    let rest = right_of (fits_op version first) (list_all (fits_op version) others) all in
    plain-append (op_words first) (flat_map next_op_words others) ((is_op version).plain first here) (each_plain (op version) (is_op version) others rest)
