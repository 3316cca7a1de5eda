-- Which shards a stamp names: those of its places.
use Rattle.std.proofs.Common.{◌≡◌, ◌⊎◌, inl, inr, ℕ, Bool, true, false, cond, Option, Some, is_some, List, [], ◌∷◌, ◌==◌, refl, ap, ◌∙◌}
use Rattle.std.specs.Prelude.{find}
use Rattle.std.specs.Option.{option_map}
use Rattle.std.specs.List.{list_any}
use Rattle.std.proofs.lemmas.Bool.{both_ways, eq-eqb, eqb-true, or_cases, or_left, or_right}
use Rattle.eris_base.specs.declared.ids.ShardId.{ShardId}
use Rattle.eris_base.specs.Places.{number_in}
use Rattle.eris_txn.specs.declared.packet.Packet.{Packet}
use Rattle.eris_locks.specs.Shards.{names_shard}
use Rattle.eris_epoch.specs.SamePackets.{is_listed}
use Rattle.eris_cut.specs.Cuts.{is_within, prefix_of}

abbrev Place : Type 0
Place = ShardId × ℕ

abbrev found_number : ShardId → List Place → Option ℕ
found_number shard places = option_map (λ (place : Place). place.1) (find (λ (place : Place). place.0.0 == shard.0) places)

-- a test that looks at the shard alone, of a shard that is named
pub any_named : (test : ShardId → Bool) (shard : ShardId) (places : List (ShardId × ℕ)) → is_some (number_in places shard) ≡ true → test shard ≡ true
    → list_any (λ (place : ShardId × ℕ). test place.0) places ≡ true
any_named test shard [] named yes_there = absurd (both_ways _ refl named)
any_named test shard (place ∷ places) named passes = by_test (place.0.0 == shard.0) refl named (λ there. any_named test shard places there passes)
  where
    by_test : (b : Bool) → place.0.0 == shard.0 ≡ b → is_some (option_map (λ (p : Place). p.1) (cond b (Some place) (find (λ (p : Place). p.0.0 == shard.0) places))) ≡ true
        → (is_some (number_in places shard) ≡ true → list_any (λ (p : ShardId × ℕ). test p.0) places ≡ true)
        → list_any (λ (p : ShardId × ℕ). test p.0) (place ∷ places) ≡ true
    by_test true e h rest =
        let same : place.0 ≡ shard = λ i. record { 0 = eqb-true place.0.0 shard.0 e i } in
        or_left _ _ (ap test same ∙ passes)
    by_test false e h rest = or_right _ _ (rest h)

-- and the other way: some shard that is named passes it
pub record Named (test : ShardId → Bool) (places : List (ShardId × ℕ)) : Type 0 where
  pub shard : ShardId
  pub named : is_some (number_in places shard) ≡ true
  pub passes : test shard ≡ true

named_more : (place : ShardId × ℕ) (places : List (ShardId × ℕ)) (shard : ShardId) → is_some (number_in places shard) ≡ true → is_some (number_in (place ∷ places) shard) ≡ true
named_more place places shard named = by_test (place.0.0 == shard.0)
  where
    by_test : (b : Bool) → is_some (option_map (λ (p : Place). p.1) (cond b (Some place) (find (λ (p : Place). p.0.0 == shard.0) places))) ≡ true
    by_test true = refl
    by_test false = named

named_first : (place : ShardId × ℕ) (places : List (ShardId × ℕ)) → is_some (number_in (place ∷ places) place.0) ≡ true
named_first place places = by_test (place.0.0 == place.0.0) (eq-eqb place.0.0 place.0.0 refl)
  where
    by_test : (b : Bool) → b ≡ true → is_some (option_map (λ (p : Place). p.1) (cond b (Some place) (find (λ (p : Place). p.0.0 == place.0.0) places))) ≡ true
    by_test true e = refl
    by_test false e = absurd (both_ways _ refl e)

pub named_any : (test : ShardId → Bool) (places : List (ShardId × ℕ)) → list_any (λ (place : ShardId × ℕ). test place.0) places ≡ true → Named test places
named_any test [] found = absurd (both_ways _ refl found)
named_any test (place ∷ places) found = by_place (or_cases _ _ found) (named_any test places)
  where
    by_place : ((test place.0 ≡ true) ⊎ (list_any (λ (p : ShardId × ℕ). test p.0) places ≡ true))
        → (list_any (λ (p : ShardId × ℕ). test p.0) places ≡ true → Named test places) → Named test (place ∷ places)
    by_place (inl here) rest = record { shard = place.0; named = named_first place places; passes = here }
    by_place (inr there) rest =
        let later = rest there in
        record { shard = later.shard; named = named_more place places later.shard later.named; passes = later.passes }

-- A PACKET IS WITHIN A CUT where it stands in the prefix of a shard that it names
pub within_from : (logs : List (List Packet)) (lengths : List ℕ) (shard : ShardId) (packet : Packet) → names_shard shard packet ≡ true
    → is_listed (prefix_of logs lengths shard) packet ≡ true → is_within logs lengths packet ≡ true
within_from logs lengths shard packet named there = any_named (λ one. is_listed (prefix_of logs lengths one) packet) shard packet.stamp.places named there

pub within_where : (logs : List (List Packet)) (lengths : List ℕ) (packet : Packet) → is_within logs lengths packet ≡ true
    → Named (λ one. is_listed (prefix_of logs lengths one) packet) packet.stamp.places
within_where logs lengths packet within = named_any (λ one. is_listed (prefix_of logs lengths one) packet) packet.stamp.places within
