-- A CLIENT COUNTS A SHARD as soon as its votes make an answer, and a majority's votes for one stamp in view 0, the
-- learner's answer among them, make one. Used where votes come, and where all have come.
use Rattle.std.proofs.Common.{◌≡◌, ◌≤◌, ◌<◌, ◌+◌, ◌*◌, ◌⊎◌, inl, inr, ℕ, Bool, true, false, cond, ◌==◌, ◌&&◌, Option, Some, None, is_some, List, [], ◌∷◌, ◌++◌, map, refl, ap, sym, ◌∙◌, subst, arith}
use Rattle.std.proofs.lemmas.Bool.{and_parts, and_from, cond_both, cond-true, eq-eqb, eqb-true, lt-ltb, or_cases, or_left, or_right}
use Rattle.std.specs.List.{filter, list_all, list_any}
use Rattle.std.specs.Option.{option_or}
use Rattle.eris_base.specs.declared.ids.ReplicaId.{ReplicaId}
use Rattle.eris_base.specs.declared.ids.ShardId.{ShardId}
use Rattle.eris_base.specs.declared.ids.View.{View}
use Rattle.eris_base.specs.declared.stamp.Stamp.{Stamp}
use Rattle.eris_base.specs.Quorums.{same_replica}
use Rattle.eris_txn.specs.declared.answer.Answer.{Answer}
use Rattle.eris_epoch.specs.SamePackets.{same_stamp}
use Rattle.eris_epoch.proofs.SameLaws.{same_stamp-refl, same_stamp-true}
use Rattle.eris_rules.specs.declared.transaction.Transaction.{Transaction}
use Rattle.eris_rules.specs.declared.transaction.Vote.{Vote}
use Rattle.eris_rules.specs.Votes.{agrees_with, answer_by_votes, first_answer, is_counted, votes_with, with_answer, with_counted, with_vote}
use Rattle.eris_law_epoch.specs.Members.{In}
use Rattle.eris_law_epoch.proofs.Members.{In-append, any_from, filtered-In}
use Rattle.eris_law_calm.specs.Crashes.{how_many_down, is_down}
use Rattle.eris_law_calm.specs.Noted.{CountsAll, HasVote, vote_by}
use Rattle.eris_law_calm.proofs.Majorities.{majority}

-- ---- lists
any_last : {X : Type 0} (test : X → Bool) (xs : List X) (x : X) → test x ≡ true → list_any test (xs ++ x ∷ []) ≡ true
any_last test [] x h = or_left _ _ h
any_last test (y ∷ xs) x h = or_right (test y) _ (any_last test xs x h)

any_front : {X : Type 0} (test : X → Bool) (xs : List X) (x : X) → list_any test xs ≡ true → list_any test (xs ++ x ∷ []) ≡ true
any_front test [] x h = absurd (cc)
any_front test (y ∷ xs) x h = elim (or_cases (test y) (list_any test xs) h) [ inl here ↦ or_left _ _ here | inr more ↦ or_right (test y) _ (any_front test xs x more) ]

without_last : {X : Type 0} (test : X → Bool) (xs : List X) (x : X) → test x ≡ false → filter test (xs ++ x ∷ []) ≡ filter test xs
without_last test [] x h = ap (λ b. cond b (x ∷ []) []) h
without_last test (y ∷ xs) x h = ap (λ rest. cond (test y) (y ∷ rest) rest) (without_last test xs x h)

pub all_pass : {X : Type 0} (test : X → Bool) (xs : List X) → ((x : X) → In x xs → test x ≡ true) → list_all test xs ≡ true
all_pass test [] h = refl
all_pass test (x ∷ xs) h = and_from _ _ (h x (inl refl)) (all_pass test xs (λ y i. h y (inr i)))

-- ---- counted shards
counted_now : (counted : List (ShardId × Answer)) (shard : ShardId) (answer : Answer) → is_counted (with_counted counted shard answer) shard ≡ true
unfolding with_counted
counted_now counted shard answer =
    cond_both (is_counted counted shard) counted (counted ++ (shard, answer) ∷ []) (λ made. is_counted made shard ≡ true) (λ h. h)
    (λ h. any_last (λ (pair : ShardId × Answer). pair.0.0 == shard.0) counted (shard, answer) (eq-eqb shard.0 shard.0 refl))

counted_still : (counted : List (ShardId × Answer)) (shard : ShardId) (answer : Answer) (other : ShardId) → is_counted counted other ≡ true → is_counted (with_counted counted shard answer) other ≡ true
unfolding with_counted
counted_still counted shard answer other there =
    cond_both (is_counted counted shard) counted (counted ++ (shard, answer) ∷ []) (λ made. is_counted made other ≡ true) (λ h. there)
    (λ h. any_front (λ (pair : ShardId × Answer). pair.0.0 == other.0) counted (shard, answer) there)

counted_kept : (counted : List (ShardId × Answer)) (shard : ShardId) (found : Option Answer) (other : ShardId) → is_counted counted other ≡ true → is_counted (with_answer counted shard found) other ≡ true
counted_kept counted shard None other there = there
counted_kept counted shard (Some answer) other there = counted_still counted shard answer other there

-- ---- votes that agree
agrees_itself : (vote : Vote) → agrees_with vote vote ≡ true
unfolding agrees_with
agrees_itself vote = and_from _ _ (eq-eqb vote.shard.0 vote.shard.0 refl) (and_from _ _ (eq-eqb vote.view.0 vote.view.0 refl) (same_stamp-refl vote.stamp))

record AreOfOne (vote other : Vote) : Type 0 where
  shard_is : other.shard ≡ vote.shard
  view_is : other.view ≡ vote.view
  stamp_is : other.stamp ≡ vote.stamp

of_one : (vote other : Vote) → agrees_with vote other ≡ true → AreOfOne vote other
unfolding agrees_with
of_one vote other h =
    let parts = and_parts (other.shard.0 == vote.shard.0) ((other.view.0 == vote.view.0) && same_stamp other.stamp vote.stamp) h in
    let more = and_parts (other.view.0 == vote.view.0) (same_stamp other.stamp vote.stamp) parts.1 in
    record {
      shard_is = λ i. record { 0 = eqb-true other.shard.0 vote.shard.0 parts.0 i };
      view_is = λ i. record { 0 = eqb-true other.view.0 vote.view.0 more.0 i };
      stamp_is = same_stamp-true other.stamp vote.stamp more.1;
    }

-- the votes of a shard, view and stamp
abbrev votes_of : List Vote → ShardId → View → Stamp → List Vote
votes_of votes shard view stamp = filter (λ (other : Vote). (other.shard.0 == shard.0) && ((other.view.0 == view.0) && same_stamp other.stamp stamp)) votes

same_votes : (votes : List Vote) (vote other : Vote) → AreOfOne vote other → votes_with votes other ≡ votes_with votes vote
unfolding agrees_with
same_votes votes vote other one =
    ap (λ (s : ShardId). votes_of votes s other.view other.stamp) one.shard_is
    ∙ ap (λ (v : View). votes_of votes vote.shard v other.stamp) one.view_is
    ∙ ap (λ (s : Stamp). votes_of votes vote.shard vote.view s) one.stamp_is

-- ONE MORE VOTE
module _ (f : ℕ) (transaction : Transaction) (vote : Vote) (counts : CountsAll f transaction.votes transaction.counted) where
  abbrev votes : List Vote
  votes = transaction.votes ++ vote ∷ []

  abbrev counted : List (ShardId × Answer)
  counted = with_answer transaction.counted vote.shard (answer_by_votes f (votes_with votes vote))

  old : (other : Vote) (answer : Answer) → agrees_with other vote ≡ false → In other transaction.votes ⊎ In other (vote ∷ []) → answer_by_votes f (votes_with votes other) ≡ Some answer → is_counted counted other.shard ≡ true
  old other answer apart (inl i) made =
      counted_kept transaction.counted vote.shard (answer_by_votes f (votes_with votes vote)) other.shard
      (counts.at other answer i (ap (answer_by_votes f) (sym (without_last (agrees_with other) transaction.votes vote apart)) ∙ made))
  old other answer apart (inr (inl same)) made =
      let clash : true ≡ false = sym (agrees_itself vote) ∙ ap (λ (v : Vote). agrees_with v vote) (sym same) ∙ apart in absurd (cc)
  old other answer apart (inr (inr none)) made = absurd none

  by_test : (other : Vote) (answer : Answer) → In other votes → answer_by_votes f (votes_with votes other) ≡ Some answer → (b : Bool) → agrees_with other vote ≡ b → is_counted counted other.shard ≡ true
  by_test other answer i made true together =
      let one = of_one other vote together in
      let now : answer_by_votes f (votes_with votes vote) ≡ Some answer = ap (answer_by_votes f) (same_votes votes other vote one) ∙ made in
      subst (λ (s : ShardId). is_counted counted s ≡ true) one.shard_is
      (subst (λ (found : Option Answer). is_counted (with_answer transaction.counted vote.shard found) vote.shard ≡ true) (sym now) (counted_now transaction.counted vote.shard answer))
  by_test other answer i made false apart = old other answer apart (In-append other transaction.votes (vote ∷ []) i) made

  pub counts_more : CountsAll f (with_vote f transaction vote).votes (with_vote f transaction vote).counted
  unfolding with_vote
  counts_more = record { at = λ other answer i made. by_test other answer i made (agrees_with other vote) refl }

-- ---- a majority
some_first : (votes : List Vote) (vote : Vote) → In vote votes → is_some vote.answer ≡ true → (answer : Answer) × (first_answer votes ≡ Some answer)
some_first [] vote i some = absurd i
some_first (one ∷ votes) vote i some = by_answer one.answer refl i (λ later. some_first votes vote later some)
  where
    by_answer : (found : Option Answer) → one.answer ≡ found → (vote ≡ one) ⊎ In vote votes → (In vote votes → (answer : Answer) × (first_answer votes ≡ Some answer)) → (answer : Answer) × (option_or found (first_answer votes) ≡ Some answer)
    by_answer (Some answer) e j rest = (answer, refl)
    by_answer None e (inl same) rest = let clash : true ≡ false = sym some ∙ ap (λ (v : Vote). is_some v.answer) same ∙ ap is_some e in absurd (cc)
    by_answer None e (inr later) rest = rest later

mapped : (votes : List Vote) (vote : Vote) → In vote votes → In vote.replica (map (λ (v : Vote). v.replica) votes)
mapped [] vote i = absurd i
mapped (one ∷ more) vote (inl same) = inl (ap (λ (v : Vote). v.replica) same)
mapped (one ∷ more) vote (inr later) = inr (mapped more vote later)

agree : (shard : ShardId) (stamp : Stamp) (r : ℕ) (found first : Option Answer) → agrees_with (vote_by shard (record { 0 = 0 }) stamp first) (vote_by shard (record { 0 = r }) stamp found) ≡ true
unfolding agrees_with
agree shard stamp r found first = and_from _ _ (eq-eqb shard.0 shard.0 refl) (same_stamp-refl stamp)

-- A MAJORITY'S VOTES count the shard
pub majority_counts : (f : ℕ) (votes : List Vote) (counted : List (ShardId × Answer)) (shard : ShardId) (stamp : Stamp) (down : List (ShardId × ReplicaId)) → CountsAll f votes counted
    → how_many_down down shard.0 ≤ f → is_down down shard.0 0 ≡ false
    → ((r : ℕ) → r < 2 * f + 1 → is_down down shard.0 r ≡ false → HasVote votes shard (record { 0 = r }) stamp) → is_counted counted shard ≡ true
unfolding answer_by_votes
majority_counts f votes counted shard stamp down counts few up each =
    let first = each 0 (omega arith) up in
    let learners = vote_by shard (record { 0 = 0 }) stamp first.found in
    let among = λ (r : ℕ) (low : r < 2 * f + 1) (lives : is_down down shard.0 r ≡ false).
    let one = each r low lives in
    any_from (same_replica (record { 0 = r })) (map (λ (v : Vote). v.replica) (votes_with votes learners)) (record { 0 = r })
    (mapped (votes_with votes learners) (vote_by shard (record { 0 = r }) stamp one.found) (filtered-In (agrees_with learners) votes _ one.there (agree shard stamp r one.found first.found)))
    (eq-eqb r r refl) in
    let most = majority down shard.0 f (map (λ (v : Vote). v.replica) (votes_with votes learners)) few among in
    let made = some_first (votes_with votes learners) learners (filtered-In (agrees_with learners) votes learners first.there (agrees_itself learners)) (first.learner refl) in
    counts.at learners made.0 first.there (cond-true _ _ _ (lt-ltb f _ most) ∙ made.1)
