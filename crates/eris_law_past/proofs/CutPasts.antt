-- A closed cut of lists that begin an order on its shards is a past of the order, and its part on a shard is the prefix
-- there. Since the cut is closed, a packet within it stands in the prefix of each shard that it names; and it stands in
-- the order once, so behind the prefix there is none.
use Rattle.std.proofs.Common.{◌≡◌, ◌⊎◌, inl, inr, ℕ, Bool, true, false, cond, List, [], ◌∷◌, ◌++◌, map, drop, refl, ap, sym, ◌∙◌, subst, append_assoc}
use Rattle.std.proofs.lemmas.Bool.{both_ways, or_cases, or_left, or_right}
use Rattle.std.proofs.lemmas.List.{append-nil, take-append-drop}
use Rattle.std.proofs.lemmas.List.Elements.{filter-append}
use Rattle.std.specs.List.{AllByRecursion, IsDistinct, filter, list_any}
use Rattle.eris_base.specs.declared.ids.ShardId.{ShardId}
use Rattle.eris_base.specs.declared.ids.TxnId.{TxnId}
use Rattle.eris_txn.specs.declared.packet.Packet.{Packet}
use Rattle.eris_locks.specs.declared.shard_packet.ShardPacket.{ShardPacket}
use Rattle.eris_locks.specs.Shards.{cut, names_shard, on_shard}
use Rattle.eris_locks.specs.States.{is_conclusory}
use Rattle.eris_epoch.specs.SamePackets.{is_listed, same_packet}
use Rattle.eris_epoch.proofs.SameLaws.{same_packet-refl, same_packet-true}
use Rattle.eris_order.specs.Orders.{packets_on}
use Rattle.eris_serial.specs.Cuts.{IsClosedCut}
use Rattle.eris_serial.specs.Evidence.{IsIn}
use Rattle.eris_serial.proofs.SaidByLogs.{on_shard-packets_on}
use Rattle.eris_cut.specs.Cuts.{IsClosed, IsConcluded, is_within, length_of, log_of, part_of, prefix_of}
use Rattle.eris_cut.proofs.Stamps.{within_from, within_where}
use Rattle.eris_law_past.specs.Pasts.{AreBeginnings, HasConclusory, IsPast}

-- ---- members and what is listed
listed_in : (packets : List Packet) (packet : Packet) → is_listed packets packet ≡ true → IsIn packet packets
unfolding is_listed
listed_in [] packet there = absurd (both_ways _ refl there)
listed_in (other ∷ packets) packet there = by_place (or_cases _ _ there) (listed_in packets packet)
  where
    by_place : ((same_packet packet other ≡ true) ⊎ (list_any (λ one. same_packet packet one) packets ≡ true)) → (list_any (λ one. same_packet packet one) packets ≡ true → IsIn packet packets)
        → IsIn packet (other ∷ packets)
    by_place (inl here) rest = inl (sym (same_packet-true packet other here))
    by_place (inr later) rest = inr (rest later)

in_listed : (packets : List Packet) (packet : Packet) → IsIn packet packets → is_listed packets packet ≡ true
unfolding is_listed
in_listed [] packet there = absurd there
in_listed (other ∷ packets) packet (inl is) = or_left _ _ (ap (same_packet packet) is ∙ same_packet-refl packet)
in_listed (other ∷ packets) packet (inr there) = or_right _ _ (in_listed packets packet there)

in_left : (packet : Packet) (some others : List Packet) → IsIn packet some → IsIn packet (some ++ others)
in_left packet [] others there = absurd there
in_left packet (other ∷ some) others (inl is) = inl is
in_left packet (other ∷ some) others (inr there) = inr (in_left packet some others there)

in_right : (packet : Packet) (some others : List Packet) → IsIn packet others → IsIn packet (some ++ others)
in_right packet [] others there = there
in_right packet (other ∷ some) others there = inr (in_right packet some others there)

-- what a test keeps
in_kept : (test : Packet → Bool) (packets : List Packet) (packet : Packet) → IsIn packet (filter test packets) → IsIn packet packets × (test packet ≡ true)
in_kept test [] packet = λ there. absurd there
in_kept test (other ∷ packets) packet = by_test (test other) refl (in_kept test packets packet)
  where
    by_test : (b : Bool) → test other ≡ b → (IsIn packet (filter test packets) → IsIn packet packets × (test packet ≡ true))
        → IsIn packet (cond b (other ∷ filter test packets) (filter test packets)) → IsIn packet (other ∷ packets) × (test packet ≡ true)
    by_test true e rest (inl is) = (inl is, ap test (sym is) ∙ e)
    by_test true e rest (inr there) = let later = rest there in (inr later.0, later.1)
    by_test false e rest there = let later = rest there in (inr later.0, later.1)

kept_in : (test : Packet → Bool) (packets : List Packet) (packet : Packet) → IsIn packet packets → test packet ≡ true → IsIn packet (filter test packets)
kept_in test [] packet there passes = absurd there
kept_in test (other ∷ packets) packet there passes = by_test (test other) refl there (λ later. kept_in test packets packet later passes)
  where
    by_test : (b : Bool) → test other ≡ b → ((other ≡ packet) ⊎ IsIn packet packets) → (IsIn packet packets → IsIn packet (filter test packets))
        → IsIn packet (cond b (other ∷ filter test packets) (filter test packets))
    by_test true e (inl is) rest = inl is
    by_test true e (inr later) rest = inr (rest later)
    by_test false e (inl is) rest = absurd (both_ways _ e (ap test is ∙ passes))
    by_test false e (inr later) rest = rest later

-- a test that all pass keeps all, and one that none passes keeps none
all_kept : (test : Packet → Bool) (packets : List Packet) → ((packet : Packet) → IsIn packet packets → test packet ≡ true) → filter test packets ≡ packets
all_kept test [] passes = refl
all_kept test (packet ∷ packets) passes = by_test (test packet) (passes packet (inl refl)) (all_kept test packets (λ one there. passes one (inr there)))
  where
    by_test : (b : Bool) → b ≡ true → filter test packets ≡ packets → cond b (packet ∷ filter test packets) (filter test packets) ≡ packet ∷ packets
    by_test true e rest = ap (λ (l : List Packet). packet ∷ l) rest
    by_test false e rest = absurd (both_ways _ refl e)

none_kept : (test : Packet → Bool) (packets : List Packet) → ((packet : Packet) → IsIn packet packets → test packet ≡ true → ⊥) → filter test packets ≡ []
none_kept test [] fails = refl
none_kept test (packet ∷ packets) fails = by_test (test packet) refl (none_kept test packets (λ one there. fails one (inr there)))
  where
    by_test : (b : Bool) → test packet ≡ b → filter test packets ≡ [] → cond b (packet ∷ filter test packets) (filter test packets) ≡ []
    by_test true e rest = absurd (fails packet (inl refl) e)
    by_test false e rest = rest

-- two tests, in either order
kept_twice : (some other : Packet → Bool) (packets : List Packet) → filter some (filter other packets) ≡ filter other (filter some packets)
kept_twice some other [] = refl
kept_twice some other (packet ∷ packets) = by_tests (some packet) (other packet) refl refl (kept_twice some other packets)
  where
    by_tests : (b c : Bool) → some packet ≡ b → other packet ≡ c → filter some (filter other packets) ≡ filter other (filter some packets)
        → filter some (cond c (packet ∷ filter other packets) (filter other packets)) ≡ filter other (cond b (packet ∷ filter some packets) (filter some packets))
    by_tests true true e f rest = first e ∙ (ap (λ (l : List Packet). packet ∷ l) rest ∙ sym (second f))
      where
        first : some packet ≡ true → cond (some packet) (packet ∷ filter some (filter other packets)) (filter some (filter other packets)) ≡ packet ∷ filter some (filter other packets)
        first is = ap (λ b. cond b (packet ∷ filter some (filter other packets)) (filter some (filter other packets))) is

        second : other packet ≡ true → cond (other packet) (packet ∷ filter other (filter some packets)) (filter other (filter some packets)) ≡ packet ∷ filter other (filter some packets)
        second is = ap (λ b. cond b (packet ∷ filter other (filter some packets)) (filter other (filter some packets))) is
    by_tests true false e f rest = rest ∙ sym (ap (λ b. cond b (packet ∷ filter other (filter some packets)) (filter other (filter some packets))) f)
    by_tests false true e f rest = ap (λ b. cond b (packet ∷ filter some (filter other packets)) (filter some (filter other packets))) e ∙ rest
    by_tests false false e f rest = rest

-- no packet stands in two parts of a list in which each stands once
apart : (some others : List Packet) (packet : Packet) → IsDistinct same_packet (some ++ others) → IsIn packet some → IsIn packet others → ⊥
unfolding IsDistinct
apart [] others packet once here there = here
apart (other ∷ some) others packet once (inl is) there = differs (some ++ others) once.0 (in_right packet some others there)
  where
    differs : (packets : List Packet) → AllByRecursion (λ one. same_packet other one ≡ false) packets → IsIn packet packets → ⊥
    differs [] all found = found
    differs (one ∷ packets) all (inl same) = both_ways _ all.0 (ap (same_packet other) (same ∙ sym is) ∙ same_packet-refl other)
    differs (one ∷ packets) all (inr later) = differs packets all.1 later
apart (other ∷ some) others packet once (inr here) there = apart some others packet once.1 here there

module _ (order : List Packet) (logs : List (List Packet)) (lengths : List ℕ) (begin : AreBeginnings order logs) (closed : IsClosed logs lengths) where
  abbrev part : List Packet
  part = part_of order logs lengths

  abbrev prefix : ShardId → List Packet
  prefix shard = prefix_of logs lengths shard

  -- what stands on a shard behind its prefix
  abbrev behind : ShardId → List Packet
  behind shard = drop (length_of lengths shard) (log_of logs shard) ++ begin.rest shard

  joined : (shard : ShardId) → packets_on shard order ≡ prefix shard ++ behind shard
  joined shard =
      begin.begins shard
      ∙ (ap (λ (log : List Packet). log ++ begin.rest shard) (sym (take-append-drop (length_of lengths shard) (log_of logs shard)))
      ∙ append_assoc (prefix shard) (drop (length_of lengths shard) (log_of logs shard)) (begin.rest shard))

  -- a packet of a prefix is of the order, and names the shard
  of_order : (shard : ShardId) (packet : Packet) → IsIn packet (prefix shard) → IsIn packet order × (names_shard shard packet ≡ true)
  of_order shard packet there =
      in_kept (λ one. names_shard shard one) order packet (subst (λ (list : List Packet). IsIn packet list) (sym (joined shard)) (in_left packet (prefix shard) (behind shard) there))

  -- a packet within the cut stands in the prefix of each shard that it names
  in_prefix : (shard : ShardId) (packet : Packet) → is_within logs lengths packet ≡ true → names_shard shard packet ≡ true → IsIn packet (prefix shard)
  in_prefix shard packet within named =
      let where_ = within_where logs lengths packet within in
      listed_in (prefix shard) packet (closed.whole where_.shard shard packet where_.passes named)

  within_prefix : (shard : ShardId) (packet : Packet) → IsIn packet (prefix shard) → is_within logs lengths packet ≡ true
  within_prefix shard packet there = within_from logs lengths shard packet (of_order shard packet there).1 (in_listed (prefix shard) packet there)

  not_behind : (shard : ShardId) (packet : Packet) → IsIn packet (behind shard) → is_within logs lengths packet ≡ true → ⊥
  not_behind shard packet there within =
      let all = subst (λ (list : List Packet). IsIn packet list) (sym (joined shard)) (in_right packet (prefix shard) (behind shard) there) in
      let named = (in_kept (λ one. names_shard shard one) order packet all).1 in
      apart (prefix shard) (behind shard) packet (subst (IsDistinct same_packet) (joined shard) (begin.once shard)) (in_prefix shard packet within named) there

  -- ON EACH SHARD the part is the prefix
  pub part_on : (shard : ShardId) → packets_on shard part ≡ prefix shard
  part_on shard =
      kept_twice (λ one. names_shard shard one) (λ one. is_within logs lengths one) order
      ∙ (ap (filter (λ one. is_within logs lengths one)) (joined shard)
      ∙ (filter-append (λ one. is_within logs lengths one) (prefix shard) (behind shard)
      ∙ (ap (λ (list : List Packet). filter (λ one. is_within logs lengths one) (prefix shard) ++ list) (none_kept (λ one. is_within logs lengths one) (behind shard) (not_behind shard))
      ∙ (append-nil _ ∙ all_kept (λ one. is_within logs lengths one) (prefix shard) (within_prefix shard)))))

  map-append : (shard : ShardId) (some others : List Packet) → map (cut shard) (some ++ others) ≡ map (cut shard) some ++ map (cut shard) others
  map-append shard [] others = refl
  map-append shard (packet ∷ some) others = ap (λ (l : List ShardPacket). cut shard packet ∷ l) (map-append shard some others)

  pub part_closed : IsClosedCut order part
  part_closed = record {
    inside = λ packet there. (in_kept (λ one. is_within logs lengths one) order packet there).0;
    rest = λ shard. map (cut shard) (behind shard);
    begins = λ shard.
        on_shard-packets_on shard order
        ∙ (ap (map (cut shard)) (joined shard)
        ∙ (map-append shard (prefix shard) (behind shard)
        ∙ ap (λ (list : List ShardPacket). list ++ map (cut shard) (behind shard)) (ap (map (cut shard)) (sym (part_on shard)) ∙ sym (on_shard-packets_on shard part))));
  }

  conclusory_in : (packets : List Packet) (packet : Packet) (id : TxnId) → IsIn packet packets → packet.id ≡ id → is_conclusory packet.body ≡ true → HasConclusory id packets
  conclusory_in [] packet id there of_id concludes = absurd there
  conclusory_in (other ∷ packets) packet id (inl is) of_id concludes = inl (ap (λ (one : Packet). one.id) is ∙ of_id, ap (λ (one : Packet). is_conclusory one.body) is ∙ concludes)
  conclusory_in (other ∷ packets) packet id (inr there) of_id concludes = inr (conclusory_in packets packet id there of_id concludes)

  concluded_in : (id : TxnId) → IsConcluded logs lengths id → HasConclusory id part
  concluded_in id is =
      let there = listed_in (prefix is.shard) is.conclusory is.there in
      conclusory_in part is.conclusory id
      (kept_in (λ one. is_within logs lengths one) order is.conclusory (of_order is.shard is.conclusory there).0 (within_prefix is.shard is.conclusory there)) is.of_id is.concludes

  -- IT IS A PAST
  pub part_past : IsPast order part
  part_past = record {
    closed = part_closed;
    concluded = λ packet there prelim.
        let within = (in_kept (λ one. is_within logs lengths one) order packet there).1 in
        let where_ = within_where logs lengths packet within in
        concluded_in packet.id (closed.concluded where_.shard packet where_.passes prelim);
  }

  -- what a shard's store takes
  pub prefix_on : (shard : ShardId) → on_shard shard part ≡ map (cut shard) (prefix shard)
  prefix_on shard = on_shard-packets_on shard part ∙ ap (map (cut shard)) (part_on shard)
