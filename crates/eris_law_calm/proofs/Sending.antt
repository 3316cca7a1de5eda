-- THE PACKETS ON THEIR WAY TO A REPLICA, in the order in which they were sent: one stamping sends its packet once to
-- each replica of each participant, with the shard's next number. Used where the sequencer stamps.
use Rattle.std.proofs.Common.{◌≡◌, ◌≤◌, ◌<◌, ◌+◌, ◌*◌, inl, inr, ℕ, zero, suc, Bool, true, false, cond, ◌==◌, ◌||◌, ◌&&◌, nat_lt, Option, Some, None, List, [], ◌∷◌, ◌++◌, map, refl, ap, sym, ◌∙◌, subst, arith, append_assoc}
use Rattle.std.proofs.lemmas.Bool.{and_from, and_parts, cases_lt, cases_eq, eq-eqb, eqb-true, ltb-true, ne_eqb, or_cases}
use Rattle.std.specs.List.{flat_map, list_all, range_with_len}
use Rattle.std.specs.Option.{option_map}
use Rattle.std.specs.Prelude.{find, slice_index}
use Rattle.eris_base.specs.declared.ids.ReplicaId.{ReplicaId}
use Rattle.eris_base.specs.declared.ids.ShardId.{ShardId}
use Rattle.eris_base.specs.Places.{number_in}
use Rattle.eris_base.proofs.IdLaws.{shard_equal}
use Rattle.eris_txn.specs.declared.packet.Packet.{Packet}
use Rattle.eris_txn.specs.Bodies.{ascends_from, has_shard, participants_of}
use Rattle.eris_txn.proofs.BodyLaws.{participants-ascend}
use Rattle.eris_epoch.specs.SamePackets.{same_list}
use Rattle.eris_msg.specs.declared.outgoing.Outgoing.{Outgoing}
use Rattle.eris_law_calm.specs.Carried.{carrying, coming, is_to, packet_in}
use Rattle.eris_sequencer.specs.Asks.{sends_of, sends_to}
use Rattle.eris_sequencer.specs.Stamps.{counter_of, next_places}
use Rattle.eris_law_epoch.specs.Members.{In}
use Rattle.eris_law_epoch.proofs.Members.{In-left, In-right}

pub coming-append : (shard : ShardId) (replica : ReplicaId) (some more : List Outgoing) → coming shard replica (some ++ more) ≡ coming shard replica some ++ coming shard replica more
coming-append shard replica [] more = refl
coming-append shard replica (one ∷ some) more =
    ap (λ (rest : List Packet). cond (is_to shard replica one.to) (packet_in one.message) [] ++ rest) (coming-append shard replica some more)
    ∙ sym (append_assoc (cond (is_to shard replica one.to) (packet_in one.message) []) (coming shard replica some) (coming shard replica more))

module _ (packet : Packet) (shard : ShardId) (replica : ReplicaId) where
  -- to the replicas of a shard from one on
  abbrev to_some : ShardId → ℕ → ℕ → List Outgoing
  to_some other from many = map (λ r. carrying packet other r) (range_with_len from many)

  none_elsewhere : (other : ShardId) (from many : ℕ) → (other.0 == shard.0) ≡ false → coming shard replica (to_some other from many) ≡ []
  none_elsewhere other from zero apart = refl
  none_elsewhere other from (suc many) apart =
      ap (λ b. cond (b && (from == replica.0)) (packet ∷ []) [] ++ coming shard replica (to_some other (from + 1) many)) apart ∙ none_elsewhere other (from + 1) many apart

  none_later : (other : ShardId) (from many : ℕ) → replica.0 < from → coming shard replica (to_some other from many) ≡ []
  none_later other from zero high = refl
  none_later other from (suc many) high = by_shard (other.0 == shard.0) (ne_eqb from replica.0 (λ e. omega (arith, e))) (none_later other (from + 1) many (omega arith))
    where
      by_shard : (b : Bool) → (from == replica.0) ≡ false → coming shard replica (to_some other (from + 1) many) ≡ [] → cond (b && (from == replica.0)) (packet ∷ []) [] ++ coming shard replica (to_some other (from + 1) many) ≡ []
      by_shard true apart rest = ap (λ c. cond c (packet ∷ []) [] ++ coming shard replica (to_some other (from + 1) many)) apart ∙ rest
      by_shard false apart rest = rest

  once_here : (other : ShardId) (from many : ℕ) → (other.0 == shard.0) ≡ true → from ≤ replica.0 → replica.0 < from + many → coming shard replica (to_some other from many) ≡ packet ∷ []
  once_here other from zero same low high = absurd (omega arith)
  once_here other from (suc many) same low high = elim (cases_eq from replica.0) [
    | inl here ↦
        ap (λ b. cond (b && (from == replica.0)) (packet ∷ []) [] ++ coming shard replica (to_some other (from + 1) many)) same
        ∙ ap (λ c. cond c (packet ∷ []) [] ++ coming shard replica (to_some other (from + 1) many)) (eq-eqb from replica.0 here)
        ∙ ap (λ rest. packet ∷ rest) (none_later other (from + 1) many (omega (arith, here)))
    | inr later ↦
        ap (λ b. cond (b && (from == replica.0)) (packet ∷ []) [] ++ coming shard replica (to_some other (from + 1) many)) same
        ∙ ap (λ c. cond c (packet ∷ []) [] ++ coming shard replica (to_some other (from + 1) many)) (ne_eqb from replica.0 later)
        ∙ once_here other (from + 1) many same (omega (arith, ne_low later)) (omega arith)
  ]
    where
      ne_low : (from ≡ replica.0 → ⊥) → from + 1 ≤ replica.0
      ne_low apart = elim (cases_lt from replica.0) [ inl lt ↦ omega arith | inr le ↦ absurd (apart (omega arith)) ]

  not_among : (before : ShardId) (shards : List ShardId) → ascends_from (Some before) shards ≡ true → shard.0 ≤ before.0 → has_shard shards shard ≡ false
  not_among before [] h low = refl
  not_among before (one ∷ shards) h low =
      let parts = and_parts (nat_lt before.0 one.0) (ascends_from (Some one) shards) h in
      let up = ltb-true before.0 one.0 parts.0 in
      ap (λ b. b || has_shard shards shard) (ne_eqb one.0 shard.0 (λ e. omega (arith, e, up, low))) ∙ not_among one shards parts.1 (omega arith)

  to_all : (f : ℕ) (before : Option ShardId) (shards : List ShardId) → ascends_from before shards ≡ true → replica.0 < 2 * f + 1
      → coming shard replica (flat_map (sends_to f packet) shards) ≡ cond (has_shard shards shard) (packet ∷ []) []
  unfolding sends_to
  to_all f before [] h low = refl
  to_all f before (one ∷ shards) h low =
      coming-append shard replica (to_some one 0 (2 * f + 1)) (flat_map (sends_to f packet) shards)
      ∙ by_test (one.0 == shard.0) refl (to_all f (Some one) shards (and_parts _ _ h).1 low)
    where
      by_test : (b : Bool) → (one.0 == shard.0) ≡ b → coming shard replica (flat_map (sends_to f packet) shards) ≡ cond (has_shard shards shard) (packet ∷ []) []
          → coming shard replica (to_some one 0 (2 * f + 1)) ++ coming shard replica (flat_map (sends_to f packet) shards) ≡ cond (b || has_shard shards shard) (packet ∷ []) []
      by_test true e rest =
          ap (λ some. some ++ coming shard replica (flat_map (sends_to f packet) shards)) (once_here one 0 (2 * f + 1) e (omega arith) (omega arith))
          ∙ ap (λ more. packet ∷ more) (rest ∙ ap (λ b. cond b (packet ∷ []) []) (not_among one shards (and_parts _ _ h).1 (let same = eqb-true one.0 shard.0 e in omega arith)))
      by_test false e rest = ap (λ some. some ++ coming shard replica (flat_map (sends_to f packet) shards)) (none_elsewhere one 0 (2 * f + 1) e) ∙ rest

  -- ONE STAMPING sends the packet once to a replica of a participant, and to no other
  pub coming_sent : (f : ℕ) → replica.0 < 2 * f + 1 → coming shard replica (sends_of f packet) ≡ cond (has_shard (participants_of packet.body) shard) (packet ∷ []) []
  unfolding sends_of
  coming_sent f low = to_all f None (participants_of packet.body) (participants-ascend packet.body) low

-- ---- and the message to it is there
sent_some : (packet : Packet) (shard : ShardId) (replica from many : ℕ) → from ≤ replica → replica < from + many → In (carrying packet shard replica) (map (λ r. carrying packet shard r) (range_with_len from many))
sent_some packet shard replica from zero low high = absurd (omega arith)
sent_some packet shard replica from (suc many) low high = elim (cases_lt from replica) [
  | inl later ↦ inr (sent_some packet shard replica (from + 1) many (omega arith) (omega arith))
  | inr here ↦ inl (let same : replica ≡ from = omega arith in ap (λ (r : ℕ). carrying packet shard r) same)
]

sent_each : (f : ℕ) (packet : Packet) (shards : List ShardId) (shard : ShardId) (replica : ℕ) → has_shard shards shard ≡ true → replica < 2 * f + 1 → In (carrying packet shard replica) (flat_map (sends_to f packet) shards)
unfolding sends_to
sent_each f packet [] shard replica h low = absurd (cc)
sent_each f packet (one ∷ shards) shard replica h low = elim (or_cases (one.0 == shard.0) (has_shard shards shard) h) [
  | inl here ↦
      In-left (carrying packet shard replica) (map (λ r. carrying packet one r) (range_with_len 0 (2 * f + 1))) (flat_map (sends_to f packet) shards)
      (subst (λ (s : ShardId). In (carrying packet shard replica) (map (λ r. carrying packet s r) (range_with_len 0 (2 * f + 1)))) (shard_equal shard one (sym (eqb-true one.0 shard.0 here)))
      (sent_some packet shard replica 0 (2 * f + 1) (omega arith) (omega arith)))
  | inr later ↦ In-right (carrying packet shard replica) (map (λ r. carrying packet one r) (range_with_len 0 (2 * f + 1))) (flat_map (sends_to f packet) shards) (sent_each f packet shards shard replica later low)
]

pub sent_to : (f : ℕ) (packet : Packet) (shard : ShardId) (replica : ℕ) → has_shard (participants_of packet.body) shard ≡ true → replica < 2 * f + 1 → In (carrying packet shard replica) (sends_of f packet)
unfolding sends_of
sent_to f packet shard replica h low = sent_each f packet (participants_of packet.body) shard replica h low

-- ---- the stamp
-- it gives each participant its next number
pub next_number : (counters : List ℕ) (shards : List ShardId) (shard : ShardId) → has_shard shards shard ≡ true → number_in (next_places counters shards) shard ≡ Some (counter_of counters shard + 1)
unfolding next_places counter_of
next_number counters [] shard h = absurd (cc)
next_number counters (one ∷ shards) shard h = by_test (one.0 == shard.0) refl h (λ later. next_number counters shards shard later)
  where
    by_test : (b : Bool) → (one.0 == shard.0) ≡ b → (b || has_shard shards shard) ≡ true → (has_shard shards shard ≡ true → number_in (next_places counters shards) shard ≡ Some (slice_index counters shard.0 + 1))
        → option_map (λ (place : ShardId × ℕ). place.1) (cond b (Some (one, slice_index counters one.0 + 1)) (find (λ place. place.0.0 == shard.0) (next_places counters shards)))
        ≡ Some (slice_index counters shard.0 + 1)
    by_test true e k rest = ap (λ n. Some (slice_index counters n + 1)) (eqb-true one.0 shard.0 e)
    by_test false e k rest = rest k

-- and names exactly the participants
pub next_names : (counters : List ℕ) (shards : List ShardId) → same_list (λ (some other : ShardId). some.0 == other.0) (map (λ (place : ShardId × ℕ). place.0) (next_places counters shards)) shards ≡ true
unfolding next_places same_list
next_names counters [] = refl
next_names counters (one ∷ shards) = and_from _ _ (eq-eqb one.0 one.0 refl) (next_names counters shards)

-- whose shards are known
pub next_known : (shards : ℕ) (counters : List ℕ) (named : List ShardId) → list_all (λ one. nat_lt one.0 shards) named ≡ true → list_all (λ (pair : ShardId × ℕ). nat_lt pair.0.0 shards) (next_places counters named) ≡ true
unfolding next_places
next_known shards counters [] h = refl
next_known shards counters (one ∷ named) h = let parts = and_parts (nat_lt one.0 shards) (list_all (λ one. nat_lt one.0 shards) named) h in and_from _ _ parts.0 (next_known shards counters named parts.1)
