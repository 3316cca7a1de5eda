-- The places of a stamp that was read ascend.
use Rattle.std.proofs.Common.{◌≡◌, ℕ, zero, suc, ◌<◌, true, List, [], ◌∷◌, ◌++◌, length, Option, Some, Ok, refl, sym, ap, subst, ◌-◌, ◌+◌, arith}
use Rattle.std.proofs.lemmas.Bool.{lt-ltb, and_from}
use Rattle.eris_base.specs.declared.ids.ShardId.{ShardId}
use Rattle.eris_base.specs.Places.{is_later, ascends_from, are_stamp_places}
use Rattle.eris_codec.specs.declared.fault.DecodeReason.TheVariants.{Order}
use Rattle.eris_codec.specs.Codecs.{checked, read_items}
use Rattle.eris_codec.specs.Fields as f
use Rattle.eris_codec.proofs.Laws.{ok_is, checked_holds, pair_reads, items_reads}
use Rattle.eris_codec.proofs.RangeLaws.{next_shard}

pub record Ascends (before : Option ShardId) (n : ℕ) (xs : List (ShardId × ℕ)) : Type 0 where
  pub count : length xs ≡ n
  pub order : ascends_from before xs ≡ true

place_is_later : (before : List (ShardId × ℕ)) (bytes : List ℕ) (x : ShardId × ℕ) (rest : List ℕ) → (f.stamp_place before).read bytes ≡ Ok (x, rest) → is_later (f.shard_before before) x.0 ≡ true
unfolding f.stamp_place
place_is_later before bytes x rest e =
    let r = pair_reads (checked (λ s. is_later (f.shard_before before) s) Order f.shard) f.number bytes x rest e in
    checked_holds (λ s. is_later (f.shard_before before) s) Order f.shard bytes x.0 r.middle r.first

read_ascends : (n : ℕ) (before : List (ShardId × ℕ)) (bytes : List ℕ) (xs : List (ShardId × ℕ)) (rest : List ℕ) → read_items f.stamp_place before n bytes ≡ Ok (xs, rest) → Ascends (f.shard_before before) n xs
read_ascends zero before bytes xs rest e =
    subst (λ (z : List (ShardId × ℕ) × List ℕ). Ascends (f.shard_before before) 0 z.0) (ok_is ([], bytes) (xs, rest) e) (record { count = refl; order = refl })
read_ascends (suc n) before bytes xs rest e =
    let r = items_reads f.stamp_place before n bytes xs rest e in
    let more = read_ascends n (before ++ r.first ∷ []) r.middle r.more rest r.then in
    let later = place_is_later before bytes r.first r.middle r.read in
    let order : ascends_from (Some r.first.0) r.more ≡ true = subst (λ (z : Option ShardId). ascends_from z r.more ≡ true) (next_shard before r.first) more.order in
    let found : Ascends (f.shard_before before) (suc n) (r.first ∷ r.more) = record { count = ap suc more.count; order = and_from _ _ later order } in
    subst (λ (z : List (ShardId × ℕ)). Ascends (f.shard_before before) (suc n) z) (sym r.is) found

pub stamp_places_read : (n : ℕ) (bytes : List ℕ) (xs : List (ShardId × ℕ)) (rest : List ℕ) → 0 < n → read_items f.stamp_place [] n bytes ≡ Ok (xs, rest) → are_stamp_places xs ≡ true
unfolding f.shard_before
stamp_places_read n bytes xs rest some e =
    let r = read_ascends n [] bytes xs rest e in
    and_from _ _ (lt-ltb _ _ (omega (arith, r.count))) r.order
