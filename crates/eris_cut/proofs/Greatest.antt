-- The cut that takes nothing is closed, and of two closed cuts the greater is closed; so no two cuts are greatest.
use Rattle.std.proofs.Common.{◌≡◌, ◌≤◌, ◌<◌, ◌⊎◌, inl, inr, ℕ, true, List, length, take, get_or, refl, sym, ◌∙◌, subst, arith}
use Rattle.std.proofs.lemmas.Bool.{both_ways}
use Rattle.std.proofs.lemmas.Grind.{same_number_lists}
use Rattle.std.specs.List.{list_any}
use Rattle.eris_base.specs.declared.ids.ShardId.{ShardId}
use Rattle.eris_base.specs.declared.ids.TxnId.{TxnId}
use Rattle.eris_txn.specs.declared.packet.Packet.{Packet}
use Rattle.eris_locks.specs.Shards.{names_shard}
use Rattle.eris_locks.specs.States.{is_prelim}
use Rattle.eris_epoch.specs.SamePackets.{is_listed, same_packet}
use Rattle.eris_cut.specs.Cuts.{IsClosed, IsConcluded, IsGreatest, greater, length_of, log_of, prefix_of, zeros}
use Rattle.eris_cut.proofs.Lengths.{greater_takes_one, length-greater, length-zeros, taken_more, zeros-at}

-- what a cut has on a shard, one that takes at least as much has too
pub listed_more : (logs : List (List Packet)) (some others : List ℕ) (shard : ShardId) (packet : Packet) → length_of some shard ≤ length_of others shard
    → is_listed (prefix_of logs some shard) packet ≡ true → is_listed (prefix_of logs others shard) packet ≡ true
unfolding is_listed
listed_more logs some others shard packet less there =
    taken_more (λ other. same_packet packet other) (log_of logs shard) (length_of some shard) (length_of others shard) less there

pub concluded_more : (logs : List (List Packet)) (some others : List ℕ) (id : TxnId) → ((shard : ShardId) → length_of some shard ≤ length_of others shard)
    → IsConcluded logs some id → IsConcluded logs others id
concluded_more logs some others id less is = record {
  shard = is.shard;
  conclusory = is.conclusory;
  there = listed_more logs some others is.shard is.conclusory (less is.shard) is.there;
  of_id = is.of_id;
  concludes = is.concludes;
}

nothing_listed : (logs : List (List Packet)) (shard : ShardId) (packet : Packet) → is_listed (prefix_of logs (zeros logs) shard) packet ≡ true → ⊥
unfolding is_listed
nothing_listed logs shard packet there =
    both_ways _ refl (subst (λ (n : ℕ). list_any (λ other. same_packet packet other) (take n (log_of logs shard)) ≡ true) (zeros-at logs shard.0) there)

pub zeros_closed : (logs : List (List Packet)) → IsClosed logs (zeros logs)
zeros_closed logs = record {
  one_each = length-zeros logs;
  within = λ shard. let none = zeros-at logs shard.0 in omega (arith, none);
  whole = λ shard other packet there named. absurd (nothing_listed logs shard packet there);
  concluded = λ shard packet there prelim. absurd (nothing_listed logs shard packet there);
}

module _ (logs : List (List Packet)) (some others : List ℕ) (mine : IsClosed logs some) (yours : IsClosed logs others) where
  abbrev both : List ℕ
  both = greater some others

  more : (shard : ShardId) → length_of some shard ≤ length_of both shard
  more shard = (greater_takes_one some others shard).mine_least

  more_too : (shard : ShardId) → length_of others shard ≤ length_of both shard
  more_too shard = (greater_takes_one some others shard).yours_least

  -- what stands in the greater cut stands in one of the two
  in_one : (shard : ShardId) (packet : Packet) → is_listed (prefix_of logs both shard) packet ≡ true
      → (is_listed (prefix_of logs some shard) packet ≡ true) ⊎ (is_listed (prefix_of logs others shard) packet ≡ true)
  in_one shard packet there = by_length (greater_takes_one some others shard).is
    where
      by_length : ((length_of both shard ≡ length_of some shard) ⊎ (length_of both shard ≡ length_of others shard))
          → (is_listed (prefix_of logs some shard) packet ≡ true) ⊎ (is_listed (prefix_of logs others shard) packet ≡ true)
      by_length (inl is) = inl (subst (λ (n : ℕ). is_listed (take n (log_of logs shard)) packet ≡ true) is there)
      by_length (inr is) = inr (subst (λ (n : ℕ). is_listed (take n (log_of logs shard)) packet ≡ true) is there)

  within_both : (shard : ShardId) → length_of both shard ≤ length (log_of logs shard)
  within_both shard = by_length (greater_takes_one some others shard).is
    where
      by_length : ((length_of both shard ≡ length_of some shard) ⊎ (length_of both shard ≡ length_of others shard)) → length_of both shard ≤ length (log_of logs shard)
      by_length (inl is) = let most = mine.within shard in omega (arith, is, most)
      by_length (inr is) = let most = yours.within shard in omega (arith, is, most)

  whole_both : (shard other : ShardId) (packet : Packet) → is_listed (prefix_of logs both shard) packet ≡ true → names_shard other packet ≡ true
      → is_listed (prefix_of logs both other) packet ≡ true
  whole_both shard other packet there named = by_place (in_one shard packet there)
    where
      by_place : ((is_listed (prefix_of logs some shard) packet ≡ true) ⊎ (is_listed (prefix_of logs others shard) packet ≡ true))
          → is_listed (prefix_of logs both other) packet ≡ true
      by_place (inl here) = listed_more logs some both other packet (more other) (mine.whole shard other packet here named)
      by_place (inr here) = listed_more logs others both other packet (more_too other) (yours.whole shard other packet here named)

  concluded_both : (shard : ShardId) (packet : Packet) → is_listed (prefix_of logs both shard) packet ≡ true → is_prelim packet.body ≡ true → IsConcluded logs both packet.id
  concluded_both shard packet there prelim = by_place (in_one shard packet there)
    where
      by_place : ((is_listed (prefix_of logs some shard) packet ≡ true) ⊎ (is_listed (prefix_of logs others shard) packet ≡ true))
          → IsConcluded logs both packet.id
      by_place (inl here) = concluded_more logs some both packet.id more (mine.concluded shard packet here prelim)
      by_place (inr here) = concluded_more logs others both packet.id more_too (yours.concluded shard packet here prelim)

  pub greater_closed : IsClosed logs (greater some others)
  greater_closed = record {
    one_each = length-greater some others (length logs) mine.one_each yours.one_each;
    within = within_both;
    whole = whole_both;
    concluded = concluded_both;
  }

-- NO TWO ARE GREATEST
pub one_greatest : (logs : List (List Packet)) (some others : List ℕ) → IsGreatest logs some → IsGreatest logs others → some ≡ others
one_greatest logs some others mine yours =
    same_number_lists some others (mine.closed.one_each ∙ sym yours.closed.one_each) each
  where
    each : (k : ℕ) → k < length some → get_or some k 0 ≡ get_or others k 0
    each k inside =
        let up : get_or some k 0 ≤ get_or others k 0 = yours.greatest some mine.closed (record { 0 = k }) in
        let down : get_or others k 0 ≤ get_or some k 0 = mine.greatest others yours.closed (record { 0 = k }) in
        omega (arith, up, down)
