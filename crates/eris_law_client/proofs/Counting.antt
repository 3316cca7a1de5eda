-- What a client's votes and counted shards rest on, before a message and after it. Used wherever a transaction
-- hears a message.
use Rattle.std.proofs.Common.{◌≡◌, ℕ, suc, Bool, true, false, cond, ◌&&◌, ◌==◌, Option, Some, None, List, [], ◌∷◌, ◌++◌, map, refl, ap, ◌∙◌, subst, arith, inl, inr}
use Rattle.std.specs.List.{filter}
use Rattle.std.specs.Option.{option_or}
use Rattle.std.proofs.lemmas.Bool.{cond_both, and_parts, eqb-true}
use Rattle.eris_base.specs.declared.ids.ShardId.{ShardId}
use Rattle.eris_base.specs.declared.ids.TxnId.{TxnId}
use Rattle.eris_base.specs.declared.ids.View.{View}
use Rattle.eris_base.specs.Each.{Each}
use Rattle.eris_base.specs.Quorums.{are_quorum, learner_of, same_replica}
use Rattle.eris_base.proofs.Each.{Each-append, Each-filter, Each-weaker}
use Rattle.eris_txn.specs.declared.answer.Answer.{Answer}
use Rattle.eris_txn.specs.declared.body.Body.{Body}
use Rattle.eris_txn.specs.Bodies.{has_shard, participants_of}
use Rattle.eris_epoch.specs.SamePackets.{same_stamp}
use Rattle.eris_epoch.proofs.SameLaws.{same_stamp-true}
use Rattle.eris_msg.specs.declared.message.Message.{Message}
use Rattle.eris_rules.specs.declared.transaction.Transaction.{Transaction}
use Rattle.eris_rules.specs.declared.transaction.Vote.{Vote}
use Rattle.eris_rules.specs.ClientStates.{ClientIdentity, body_of}
use Rattle.eris_rules.specs.InPlace.{names_exactly}
use Rattle.eris_rules.specs.Votes.{agrees_with, answer_by_votes, answer_fits, first_answer, late_fits, role_fits, vote_fits, votes_with, with_answer, with_counted, with_late, with_vote}
use Rattle.eris_serial.specs.Evidence.{IsIn}
use Rattle.eris_serial.proofs.Runnable.{Each-in}
use Rattle.eris_law_client.specs.ClientRuns.{ClientInput}
use Rattle.eris_law_client.specs.Counts.{ByLate, ByVotes, CameFor, CountedOn, IsCounted, IsVoteFor, IsVoteOf, message_of}
use Rattle.eris_law_client.proofs.Steps.{Hears, Lates, Votes}

-- ---- what came stays come
module _ (me : ClientIdentity) (inputs : List ClientInput) (number : ℕ) (id : TxnId) (body : Body) where
  pub came_later : (message : Message) → CameFor me inputs number id body message → CameFor me inputs (suc number) id body message
  came_later message came =
      record {
        at = came.at;
        before = omega (arith, came.before);
        given = came.given;
        in_place = came.in_place;
        transaction = came.transaction;
        waited = came.waited;
        unfinished = came.unfinished;
        same_half = came.same_half;
      }

  pub vote_later : (vote : Vote) → IsVoteFor me inputs number id body vote → IsVoteFor me inputs (suc number) id body vote
  vote_later vote is = record { came = came_later (message_of vote id _) is.came; fits = is.fits }

  is_counted_later : (shard : ShardId) (answer : Answer) → IsCounted me inputs number id body shard answer → IsCounted me inputs (suc number) id body shard answer
  is_counted_later shard answer (ByVotes by) =
      ByVotes (record {
        view = by.view;
        stamp = by.stamp;
        votes = by.votes;
        each = Each-weaker (IsVoteFor me inputs number id body) (IsVoteFor me inputs (suc number) id body) vote_later by.votes by.each;
        of_one = by.of_one;
        quorum = by.quorum;
        reply = by.reply;
        among = by.among;
        answered = by.answered;
        learner = by.learner;
        names = by.names;
      })
  is_counted_later shard answer (ByLate by) = ByLate (record { replica = by.replica; came = came_later _ by.came })

  pub counted_later : (shard : ShardId) (answer : Answer) → CountedOn me inputs number id body shard answer → CountedOn me inputs (suc number) id body shard answer
  counted_later shard answer on = record { counted = is_counted_later shard answer on.counted; part = on.part; fits = on.fits }

-- ---- votes that agree
module _ (me : ClientIdentity) (inputs : List ClientInput) (number : ℕ) (id : TxnId) (body : Body) where
  agreeing : (vote other : Vote) → agrees_with vote other ≡ true → IsVoteOf vote.shard vote.view vote.stamp other
  unfolding agrees_with
  agreeing vote other h =
      let parts = and_parts (other.shard.0 == vote.shard.0) ((other.view.0 == vote.view.0) && same_stamp other.stamp vote.stamp) h in
      let more = and_parts (other.view.0 == vote.view.0) (same_stamp other.stamp vote.stamp) parts.1 in
      record {
        shard_is = λ i. record { 0 = eqb-true other.shard.0 vote.shard.0 parts.0 i };
        view_is = λ i. record { 0 = eqb-true other.view.0 vote.view.0 more.0 i };
        stamp_is = same_stamp-true other.stamp vote.stamp more.1;
      }

  each_passes : (test : Vote → Bool) (P : Vote → Type 0) → ((vote : Vote) → test vote ≡ true → P vote) → (votes : List Vote) → Each P (filter test votes)
  each_passes test P all [] = tt
  each_passes test P all (vote ∷ votes) = by_test (test vote) refl (each_passes test P all votes)
    where
      by_test : (t : Bool) → test vote ≡ t → Each P (filter test votes) → Each P (cond t (vote ∷ filter test votes) (filter test votes))
      by_test true h rest = (all vote h, rest)
      by_test false h rest = rest

  -- the first answer among votes is one vote's
  answering : (votes : List Vote) (answer : Answer) → first_answer votes ≡ Some answer → (reply : Vote) × IsIn reply votes × (reply.answer ≡ Some answer)
  answering [] answer h = absurd (cc)
  answering (vote ∷ votes) answer h = by_answer vote.answer refl h (answering votes answer)
    where
      by_answer : (found : Option Answer) → vote.answer ≡ found → option_or found (first_answer votes) ≡ Some answer
          → (first_answer votes ≡ Some answer → (reply : Vote) × IsIn reply votes × (reply.answer ≡ Some answer)) → (reply : Vote) × IsIn reply (vote ∷ votes) × (reply.answer ≡ Some answer)
      by_answer None is k rest = let found = rest k in (found.0, inr found.1, found.2)
      by_answer (Some own) is k rest = (vote, inl refl, is ∙ k)

  -- WHAT A FITTING VOTE IS: from a shard that takes part, by a stamp that names those that do
  pub fitting : (vote : Vote) → vote_fits me.config.f body vote ≡ true
      → (has_shard (participants_of body) vote.shard ≡ true) × (names_exactly vote.stamp (participants_of body) ≡ true) × (role_fits me.config.f body vote vote.answer ≡ true)
  unfolding vote_fits
  fitting vote h =
      let parts = and_parts (has_shard (participants_of body) vote.shard) (names_exactly vote.stamp (participants_of body) && role_fits me.config.f body vote vote.answer) h in
      let more = and_parts (names_exactly vote.stamp (participants_of body)) (role_fits me.config.f body vote vote.answer) parts.1 in
      (parts.0, more.0, more.1)

  -- a Reply's replica is the learner of its view, and its answer one that the shard can give
  pub fitting_reply : (vote : Vote) (answer : Answer) → vote.answer ≡ Some answer → vote_fits me.config.f body vote ≡ true
      → (vote.replica ≡ learner_of vote.view me.config.f) × (answer_fits body vote.shard answer ≡ true)
  fitting_reply vote answer is h =
      let role : role_fits me.config.f body vote (Some answer) ≡ true = subst (λ (found : Option Answer). role_fits me.config.f body vote found ≡ true) is (fitting vote h).2 in
      let parts = and_parts (same_replica vote.replica (learner_of vote.view me.config.f)) (answer_fits body vote.shard answer) role in
      ((λ i. record { 0 = eqb-true vote.replica.0 (learner_of vote.view me.config.f).0 parts.0 i }), parts.1)

  of_quorum : (test : Bool) (found : Option Answer) (answer : Answer) → cond test found None ≡ Some answer → (test ≡ true) × (found ≡ Some answer)
  of_quorum true found answer h = (refl, h)
  of_quorum false found answer h = cc

  quorum_of : (votes : List Vote) (answer : Answer) → answer_by_votes me.config.f votes ≡ Some answer → (are_quorum (map (λ vote. vote.replica) votes) me.config.f ≡ true) × (first_answer votes ≡ Some answer)
  unfolding answer_by_votes
  quorum_of votes answer h = of_quorum (are_quorum (map (λ vote. vote.replica) votes) me.config.f) (first_answer votes) answer h

  -- VOTES THAT MAKE AN ANSWER count the shard
  counted_by_votes : (votes : List Vote) (vote : Vote) (answer : Answer) → Each (IsVoteFor me inputs number id body) votes → IsVoteFor me inputs number id body vote
      → answer_by_votes me.config.f (votes_with votes vote) ≡ Some answer → CountedOn me inputs number id body vote.shard answer
  counted_by_votes votes vote answer each is made =
      let quorum = quorum_of (votes_with votes vote) answer made in
      let found = answering (votes_with votes vote) answer quorum.1 in
      let fitting_each = Each-filter (IsVoteFor me inputs number id body) (agrees_with vote) votes each in
      let of_one = each_passes (agrees_with vote) (IsVoteOf vote.shard vote.view vote.stamp) (agreeing vote) votes in
      let reply_is = Each-in (IsVoteFor me inputs number id body) (votes_with votes vote) found.0 fitting_each found.1 in
      let reply_of = Each-in (IsVoteOf vote.shard vote.view vote.stamp) (votes_with votes vote) found.0 of_one found.1 in
      let reply_fits = fitting_reply found.0 answer found.2 reply_is.fits in
      record {
        counted = ByVotes (record {
          view = vote.view;
          stamp = vote.stamp;
          votes = votes_with votes vote;
          each = fitting_each;
          of_one = of_one;
          quorum = quorum.0;
          reply = found.0;
          among = found.1;
          answered = found.2;
          learner = reply_fits.0 ∙ ap (λ (v : View). learner_of v me.config.f) reply_of.view_is;
          names = (fitting vote is.fits).1;
        });
        part = (fitting vote is.fits).0;
        fits = subst (λ (s : ShardId). answer_fits body s answer ≡ true) reply_of.shard_is reply_fits.1;
      }

  each_with_counted : (counted : List (ShardId × Answer)) (shard : ShardId) (answer : Answer) → Each (λ pair. CountedOn me inputs number id body pair.0 pair.1) counted
      → CountedOn me inputs number id body shard answer → Each (λ pair. CountedOn me inputs number id body pair.0 pair.1) (with_counted counted shard answer)
  unfolding with_counted
  each_with_counted counted shard answer each on =
      cond_both _ _ _ (Each (λ pair. CountedOn me inputs number id body pair.0 pair.1)) (λ h. each)
      (λ h. Each-append (λ pair. CountedOn me inputs number id body pair.0 pair.1) counted ((shard, answer) ∷ []) each (on, tt))

  each_with_answer : (counted : List (ShardId × Answer)) (shard : ShardId) (found : Option Answer) → Each (λ pair. CountedOn me inputs number id body pair.0 pair.1) counted
      → ((answer : Answer) → found ≡ Some answer → CountedOn me inputs number id body shard answer) → Each (λ pair. CountedOn me inputs number id body pair.0 pair.1) (with_answer counted shard found)
  each_with_answer counted shard None each on = each
  each_with_answer counted shard (Some answer) each on = each_with_counted counted shard answer each (on answer refl)

-- A TRANSACTION THAT HEARD A MESSAGE: nothing but its votes and counted shards changed, and these rest on messages
pub record StillOpen (me : ClientIdentity) (inputs : List ClientInput) (number : ℕ) (id : TxnId) (before after : Transaction) : Type 0 where
  pub course_is : after.course ≡ before.course
  pub finished_is : after.finished ≡ before.finished
  pub votes : Each (IsVoteFor me inputs number id (body_of before.course)) after.votes
  pub counted : Each (λ pair. CountedOn me inputs number id (body_of before.course) pair.0 pair.1) after.counted

pub heard : (me : ClientIdentity) (inputs : List ClientInput) (number : ℕ) (id : TxnId) (before : Transaction) (message : Message) (after : Transaction)
    → CameFor me inputs number id (body_of before.course) message → Each (IsVoteFor me inputs number id (body_of before.course)) before.votes
    → Each (λ pair. CountedOn me inputs number id (body_of before.course) pair.0 pair.1) before.counted → Hears me id before message after → StillOpen me inputs number id before after
unfolding with_vote with_late late_fits
heard me inputs number id before message _ came votes counted (Votes vote is fits) =
    let own : IsVoteFor me inputs number id (body_of before.course) vote =
    record { came = subst (CameFor me inputs number id (body_of before.course)) is came; fits = fits } in
    let all = Each-append (IsVoteFor me inputs number id (body_of before.course)) before.votes (vote ∷ []) votes (own, tt) in
    record {
      course_is = refl;
      finished_is = refl;
      votes = all;
      counted = each_with_answer me inputs number id (body_of before.course) before.counted vote.shard _ counted
          (λ answer made. counted_by_votes me inputs number id (body_of before.course) (before.votes ++ vote ∷ []) vote answer all own made);
    }
heard me inputs number id before message _ came votes counted (Lates shard replica answer is fits) =
    let parts = and_parts (has_shard (participants_of (body_of before.course)) shard) (answer_fits (body_of before.course) shard answer) fits in
    record {
      course_is = refl;
      finished_is = refl;
      votes = votes;
      counted = each_with_counted me inputs number id (body_of before.course) before.counted shard answer counted
          (record {
            counted = ByLate (record { replica = replica; came = subst (CameFor me inputs number id (body_of before.course)) is came });
            part = parts.0;
            fits = parts.1;
          });
    }

-- the test of a vote that fits, written out
pub fitting_test : (me : ClientIdentity) (body : Body) (vote : Vote) → vote_fits me.config.f body vote ≡ true
    → (has_shard (participants_of body) vote.shard && (names_exactly vote.stamp (participants_of body) && role_fits me.config.f body vote vote.answer)) ≡ true
unfolding vote_fits
fitting_test me body vote h = h
