-- A client keeps only answers that its halves can have got, so what a complete first half read has a value for each
-- key of its plan. Used where answers are noted, and where the second half is made.
use Rattle.std.proofs.Common.{◌≡◌, ◌<◌, ◌≤◌, ◌==◌, ◌||◌, ℕ, zero, suc, Bool, true, false, cond, Option, Some, None, List, [], ◌∷◌, ◌++◌, length, map, slice_get, find, append_assoc, IfSome, refl, ap, sym, subst, ◌∙◌, arith}
use Rattle.std.specs.BTreeMap.{is_at, insert_entry}
use Rattle.std.specs.List.{cons_option, list_all, list_any}
use Rattle.std.specs.Map.{lookup, remove_entry}
use Rattle.std.specs.Option.{option_map, option_or}
use Rattle.std.specs.Ordering.{is_eq, match_ordering}
use Rattle.std.specs.declared.cmp.Ordering.{Ordering}
use Rattle.std.specs.declared.cmp.Ordering.TheVariants.{Less, Equal, Greater}
use Rattle.std.proofs.lemmas.Bool.{and_parts, both_ways, cond_both, eq-eqb, eqb-true}
use Rattle.std.proofs.lemmas.List.{length-map}
use Rattle.std.proofs.lemmas.List.Sums.{sum_by-append, sum_by-cons}
use Rattle.eris_base.specs.declared.ids.ShardId.{ShardId}
use Rattle.eris_base.specs.declared.ids.TxnId.{TxnId}
use Rattle.eris_base.specs.Each.{Each}
use Rattle.eris_base.specs.Quorums.{are_quorum}
use Rattle.eris_base.proofs.IdLaws.{shard_by_test}
use Rattle.eris_txn.specs.declared.answer.Answer.{Answer}
use Rattle.eris_txn.specs.declared.body.Body.{Body}
use Rattle.eris_txn.specs.declared.body.Body.TheVariants.{Prelim}
use Rattle.eris_txn.specs.declared.lock.Lock.{Lock}
use Rattle.eris_txn.specs.PlanValues.{PlanValue}
use Rattle.eris_txn.specs.Plans.{locks_of}
use Rattle.eris_general.specs.Outcomes.{is_aborted}
use Rattle.eris_rules.specs.declared.transaction.Course.{Course}
use Rattle.eris_rules.specs.declared.transaction.Course.TheVariants.{Reading}
use Rattle.eris_rules.specs.declared.transaction.Transaction.{Transaction}
use Rattle.eris_rules.specs.declared.transaction.Vote.{Vote}
use Rattle.eris_rules.specs.Assembling.{assemble}
use Rattle.eris_rules.specs.ClientStates.{begun_half, body_of, txn_id_cmp}
use Rattle.eris_rules.specs.Clients.{answer_of_shard, answers_counted, item_shards, values_in}
use Rattle.eris_rules.specs.Votes.{agrees_with, answer_by_votes, answer_fits, first_answer, is_complete, is_counted, items_on, late_fits, role_fits, vote_fits, votes_with, with_answer, with_counted, with_late, with_vote}
use Rattle.eris_client.specs.Answered.{Answers, IsAnswered}
use Rattle.eris_client.specs.Assembled.{assembled, count_of}
use Rattle.eris_client.proofs.ItemByItem.{assembled_is}
use Rattle.eris_client.proofs.ItemShards.{all_items, items_are, plan_shards}

each_and : {X : Type 0} (P : X → Type 0) (xs : List X) (x : X) → Each P xs → P x → Each P (xs ++ x ∷ [])
each_and P [] x h k = (k, tt)
each_and P (first ∷ xs) x h k = (h.0, each_and P xs x h.1 k)

-- ---- one more vote, and one more counted shard
pub begun_is_answered : (course : Course) → IsAnswered (begun_half course)
unfolding begun_half
begun_is_answered course = record { votes = tt; counted = tt }

either_answers : (body : Body) (shard : ShardId) (one other : Option Answer) → Answers body shard one → Answers body shard other → Answers body shard (option_or one other)
either_answers body shard None other h k = k
either_answers body shard (Some answer) other h k = h

first_answers : (body : Body) (vote : Vote) (votes : List Vote) → Each (λ (one : Vote). Answers body one.shard one.answer) votes → Answers body vote.shard (first_answer (votes_with votes vote))
unfolding agrees_with
first_answers body vote [] h = tt
first_answers body vote (one ∷ votes) h = by_test (agrees_with vote one) refl (first_answers body vote votes h.1)
  where
    by_test : (t : Bool) → agrees_with vote one ≡ t → Answers body vote.shard (first_answer (votes_with votes vote))
        → Answers body vote.shard (first_answer (cond t (one ∷ votes_with votes vote) (votes_with votes vote)))
    by_test true same rest =
        let here : one.shard ≡ vote.shard = shard_by_test one.shard vote.shard (and_parts _ _ same).0 in
        either_answers body vote.shard one.answer (first_answer (votes_with votes vote)) (subst (λ (shard : ShardId). Answers body shard one.answer) here h.0) rest
    by_test false apart rest = rest

votes_answer : (f : ℕ) (body : Body) (vote : Vote) (votes : List Vote) → Each (λ (one : Vote). Answers body one.shard one.answer) votes → Answers body vote.shard (answer_by_votes f (votes_with votes vote))
unfolding answer_by_votes
votes_answer f body vote votes h =
    cond_both (are_quorum (map (λ (one : Vote). one.replica) (votes_with votes vote)) f) (first_answer (votes_with votes vote)) None (Answers body vote.shard)
    (λ _. first_answers body vote votes h) (λ _. tt)

module _ (body : Body) where
  abbrev AreCounted : List (ShardId × Answer) → Type 0
  AreCounted counted = Each (λ (pair : ShardId × Answer). answer_fits body pair.0 pair.1 ≡ true) counted

  one_counted : (counted : List (ShardId × Answer)) (shard : ShardId) (answer : Answer) → AreCounted counted → answer_fits body shard answer ≡ true → AreCounted (with_counted counted shard answer)
  unfolding with_counted
  one_counted counted shard answer h k =
      cond_both (is_counted counted shard) counted (counted ++ (shard, answer) ∷ []) AreCounted
      (λ _. h) (λ _. each_and (λ (pair : ShardId × Answer). answer_fits body pair.0 pair.1 ≡ true) counted (shard, answer) h k)

  maybe_counted : (counted : List (ShardId × Answer)) (shard : ShardId) (found : Option Answer) → AreCounted counted → Answers body shard found → AreCounted (with_answer counted shard found)
  maybe_counted counted shard None h k = h
  maybe_counted counted shard (Some answer) h k = one_counted counted shard answer h k

role_answers : (f : ℕ) (body : Body) (vote : Vote) (answer : Option Answer) → role_fits f body vote answer ≡ true → Answers body vote.shard answer
role_answers f body vote None h = tt
role_answers f body vote (Some answer) h = (and_parts _ _ h).1

pub vote_is_answered : (f : ℕ) (transaction : Transaction) (vote : Vote) → IsAnswered transaction → vote_fits f (body_of transaction.course) vote ≡ true → IsAnswered (with_vote f transaction vote)
unfolding with_vote vote_fits
vote_is_answered f transaction vote h fits =
    let body : Body = body_of transaction.course in
    let told : Answers body vote.shard vote.answer = role_answers f body vote vote.answer (and_parts _ _ (and_parts _ _ fits).1).1 in
    let votes : Each (λ (one : Vote). Answers body one.shard one.answer) (transaction.votes ++ vote ∷ []) =
    each_and (λ (one : Vote). Answers body one.shard one.answer) transaction.votes vote h.votes told in
    record {
      votes = votes;
      counted = maybe_counted body transaction.counted vote.shard (answer_by_votes f (votes_with (transaction.votes ++ vote ∷ []) vote)) h.counted
          (votes_answer f body vote (transaction.votes ++ vote ∷ []) votes);
    }

pub late_is_answered : (transaction : Transaction) (shard : ShardId) (answer : Answer) → IsAnswered transaction → late_fits (body_of transaction.course) shard answer ≡ true → IsAnswered (with_late transaction shard answer)
unfolding with_late late_fits
late_is_answered transaction shard answer h fits =
    record { votes = h.votes; counted = one_counted (body_of transaction.course) transaction.counted shard answer h.counted (and_parts _ _ fits).1 }

pub finished_is_answered : (transaction : Transaction) → IsAnswered transaction → IsAnswered (record transaction { finished = true })
finished_is_answered transaction h = record { votes = h.votes; counted = h.counted }

-- ---- all transactions of a client
abbrev Entries : Type 0
Entries = List (TxnId × Transaction)

abbrev AreAnswered : TxnId × Transaction → Type 0
AreAnswered entry = IsAnswered entry.1

pub put_is_answered : (entries : Entries) (id : TxnId) (transaction : Transaction) → Each AreAnswered entries → IsAnswered transaction → Each AreAnswered (insert_entry txn_id_cmp entries id transaction)
put_is_answered [] id transaction h k = (k, tt)
put_is_answered (entry ∷ entries) id transaction h k = by_order (txn_id_cmp id entry.0) (put_is_answered entries id transaction h.1 k)
  where
    by_order : (order : Ordering) → Each AreAnswered (insert_entry txn_id_cmp entries id transaction)
        → Each AreAnswered (match_ordering order ((id, transaction) ∷ entry ∷ entries) ((entry.0, transaction) ∷ entries) (entry ∷ insert_entry txn_id_cmp entries id transaction))
    by_order Less rest = (k, h)
    by_order Equal rest = (k, h.1)
    by_order Greater rest = (h.0, rest)

pub rest_is_answered : (entries : Entries) (id : TxnId) → Each AreAnswered entries → Each AreAnswered (remove_entry (is_at (txn_id_cmp id)) entries)
rest_is_answered [] id h = tt
rest_is_answered (entry ∷ entries) id h = by_test (is_eq (txn_id_cmp id entry.0)) (rest_is_answered entries id h.1)
  where
    by_test : (t : Bool) → Each AreAnswered (remove_entry (is_at (txn_id_cmp id)) entries) → Each AreAnswered (cond t entries (entry ∷ remove_entry (is_at (txn_id_cmp id)) entries))
    by_test true rest = h.1
    by_test false rest = (h.0, rest)

found_is_answered : (entries : Entries) (id : TxnId) (transaction : Transaction) → Each AreAnswered entries → lookup (is_at (txn_id_cmp id)) entries ≡ Some transaction → IsAnswered transaction
found_is_answered [] id transaction h is = absurd (cc)
found_is_answered (entry ∷ entries) id transaction h is = by_test (is_eq (txn_id_cmp id entry.0)) is (λ later. found_is_answered entries id transaction h.1 later)
  where
    by_test : (t : Bool) → cond t (Some entry.1) (lookup (is_at (txn_id_cmp id)) entries) ≡ Some transaction
        → (lookup (is_at (txn_id_cmp id)) entries ≡ Some transaction → IsAnswered transaction) → IsAnswered transaction
    by_test true here rest =
        let own : entry.1 ≡ transaction = cc in
        subst IsAnswered own h.0
    by_test false here rest = rest here

pub taken_is_answered : (entries : Entries) (id : TxnId) (found : Option Transaction) → Each AreAnswered entries → found ≡ lookup (is_at (txn_id_cmp id)) entries → IfSome found IsAnswered
taken_is_answered entries id None h is = tt
taken_is_answered entries id (Some transaction) h is = found_is_answered entries id transaction h (sym is)

-- ---- the values that a first half read
module _ (locks : List Lock) where
  values_of : (shard : ShardId) (answer : Answer) → answer_fits (Prelim locks) shard answer ≡ true → is_aborted answer ≡ false → length (values_in (Some answer)) ≡ items_on (Prelim locks) shard
  values_of shard (Answer.Values values) fits kept = eqb-true (length values) (items_on (Prelim locks) shard) fits
  values_of shard (Answer.Ops answers) fits kept = absurd (cc)
  values_of shard Answer.Committed fits kept = absurd (cc)
  values_of shard Answer.Aborted fits kept = absurd (cc)

  not_first : (a b : Bool) → (a || b) ≡ false → a ≡ false
  not_first true b h = absurd (cc)
  not_first false b h = refl

  not_second : (a b : Bool) → (a || b) ≡ false → b ≡ false
  not_second true b h = absurd (cc)
  not_second false b h = h

  values_counted : (counted : List (ShardId × Answer)) (shard : ShardId) → AreCounted (Prelim locks) counted → list_any is_aborted (map (λ pair. pair.1) counted) ≡ false → is_counted counted shard ≡ true
      → length (values_in (answer_of_shard counted shard)) ≡ items_on (Prelim locks) shard
  values_counted [] shard h kept there = absurd (both_ways _ refl there)
  values_counted (pair ∷ counted) shard h kept there =
      by_test (pair.0.0 == shard.0) refl there
      (λ later. values_counted counted shard h.1 (not_second (is_aborted pair.1) (list_any is_aborted (map (λ pair. pair.1) counted)) kept) later)
    where
      by_test : (t : Bool) → (pair.0.0 == shard.0) ≡ t → (t || is_counted counted shard) ≡ true
          → (is_counted counted shard ≡ true → length (values_in (answer_of_shard counted shard)) ≡ items_on (Prelim locks) shard)
          → length (values_in (option_map (λ (pair : ShardId × Answer). pair.1) (cond t (Some pair) (find (λ pair. pair.0.0 == shard.0) counted)))) ≡ items_on (Prelim locks) shard
      by_test true same _ rest =
          let here : pair.0 ≡ shard = shard_by_test pair.0 shard same in
          values_of pair.0 pair.1 h.0 (not_first (is_aborted pair.1) (list_any is_aborted (map (λ pair. pair.1) counted)) kept)
          ∙ ap (λ (one : ShardId). items_on (Prelim locks) one) here
      by_test false apart later rest = rest later

-- ---- an item for each shard in turn
given : {A : Type 0} (items : List A) (n : ℕ) (rest : List A) → n < length items → length (cons_option (slice_get items n) rest) ≡ suc (length rest)
given [] n rest lt = absurd (omega (arith, lt))
given (item ∷ items) zero rest lt = refl
given (item ∷ items) (suc n) rest lt = given items n rest (omega (arith, lt))

counts_itself : (before shards : List ShardId) (shard : ShardId) → count_of before shard < count_of (before ++ shard ∷ shards) shard
counts_itself before shards shard =
    let test : ShardId → ℕ = λ one. cond (one.0 == shard.0) 1 0 in
    let itself : ◌≡◌ {A = ℕ} (cond (shard.0 == shard.0) 1 0) 1 = ap (λ (t : Bool). cond t 1 0) (eq-eqb shard.0 shard.0 refl) in
    omega (arith, itself, sum_by-append test before (shard ∷ shards), sum_by-cons test shard shards)

all_given : {A : Type 0} (lists : ShardId → List A) (shards before : List ShardId) → Each (λ (shard : ShardId). count_of (before ++ shards) shard ≤ length (lists shard)) shards
    → length (assembled before shards lists) ≡ length shards
all_given lists [] before h = refl
all_given lists (shard ∷ shards) before h =
    given (lists shard) (count_of before shard) (assembled (before ++ shard ∷ []) shards lists) (omega (arith, counts_itself before shards shard, h.0))
    ∙ ap suc
    (all_given lists shards (before ++ shard ∷ [])
    (subst (λ (all : List ShardId). Each (λ (one : ShardId). count_of all one ≤ length (lists one)) shards) (sym (append_assoc before (shard ∷ []) shards)) h.1))

each_tested : (test : ShardId → Bool) (P : ShardId → Type 0) (shards : List ShardId) → ((shard : ShardId) → test shard ≡ true → P shard) → list_all test shards ≡ true → Each P shards
each_tested test P [] f h = tt
each_tested test P (shard ∷ shards) f h =
    let parts = and_parts (test shard) (list_all test shards) h in
    (f shard parts.0, each_tested test P shards f parts.1)

-- AS MANY VALUES AS KEYS, where the half is complete and no shard aborted it
pub as_many_values : (transaction : Transaction) (plan : PlanValue) (values : List (Option ℕ)) → transaction.course ≡ Reading plan → is_complete transaction ≡ true → IsAnswered transaction
    → list_any is_aborted (answers_counted transaction) ≡ false
    → values ≡ assemble (item_shards (body_of transaction.course)) (λ shard. values_in (answer_of_shard transaction.counted shard)) → length values ≡ length plan.keys
unfolding is_complete
as_many_values transaction plan values course complete answered kept made =
    let body : Body = body_of transaction.course in
    let lists : ShardId → List (Option ℕ) = λ shard. values_in (answer_of_shard transaction.counted shard) in
    let shards : List ShardId = item_shards body in
    let here : body ≡ Prelim (locks_of plan) = ap body_of course in
    let counted : AreCounted (Prelim (locks_of plan)) transaction.counted = subst (λ (one : Body). AreCounted one transaction.counted) here answered.counted in
    let enough : (shard : ShardId) → is_counted transaction.counted shard ≡ true → count_of shards shard ≤ length (lists shard) = λ shard there.
    let found : length (lists shard) ≡ items_on (Prelim (locks_of plan)) shard = values_counted (locks_of plan) transaction.counted shard counted kept there in
    let asked : items_on (Prelim (locks_of plan)) shard ≡ count_of shards shard = ap (λ (one : Body). items_on one shard) (sym here) ∙ items_are body shard in
    omega (arith, found, asked) in
    let each : Each (λ (shard : ShardId). count_of shards shard ≤ length (lists shard)) shards =
    each_tested (λ shard. is_counted transaction.counted shard) (λ (shard : ShardId). count_of shards shard ≤ length (lists shard)) shards enough
    (sym (all_items body (λ shard. is_counted transaction.counted shard)) ∙ complete) in
    ap length made ∙ ap length (sym (assembled_is lists shards)) ∙ all_given lists shards [] each
    ∙ ap (λ (one : Body). length (item_shards one)) here ∙ ap length (plan_shards plan) ∙ length-map plan.keys _
