-- What a list that fits has: its size, and items that fit.
use Rattle.std.proofs.Common.{◌≡◌, ℕ, suc, ◌^◌, ◌<◌, ◌≤◌, ◌&&◌, Bool, true, List, [], ◌∷◌, ◌++◌, length, map, refl, ap, arith}
use Rattle.std.specs.Prelude.{All}
use Rattle.std.specs.List.{flat_map, AllByRecursion}
use Rattle.std.proofs.lemmas.Bool.{ltb-true}
use Rattle.std.proofs.lemmas.List.Elements.{All-from_recursion}
use Rattle.std.proofs.lemmas.List.Folds.{flat_map-map}
use Rattle.eris_base.specs.declared.ids.Place.{Place}
use Rattle.eris_base.specs.declared.ids.ShardId.{ShardId}
use Rattle.eris_base.specs.Stamps.{StampValue}
use Rattle.eris_base.proofs.Booleans.{left_of, right_of}
use Rattle.eris_txn.specs.declared.key.Key.{Key}
use Rattle.eris_txn.specs.declared.lock.Lock.{Lock}
use Rattle.eris_txn.specs.declared.op.Op.{Op}
use Rattle.eris_txn.specs.declared.op.OpAnswer.{OpAnswer}
use Rattle.eris_txn.specs.declared.packet.Packet.{Packet}
use Rattle.eris_txn.specs.declared.plan.Write.{Write}
use Rattle.std.specs.Prelude.{Option}
use Rattle.eris_log.specs.Places.{pair_of}
use Rattle.eris_codec.specs.Codecs.{Codec, ◌⊗◌, items_fit}
use Rattle.eris_codec.specs.Fields as f
use Rattle.eris_codec.specs.Parts as p
use Rattle.eris_codec.proofs.FieldLaws.{at_most}

few : (most n : ℕ) (rest : Bool) → most < 256 → ((f.from_to 1 most).fits n && rest) ≡ true → n < 256
few most n rest small h = let le : n ≤ most = at_most 1 most n (left_of ((f.from_to 1 most).fits n) rest h) in omega arith

pub few_ops : (list : List Op) → f.ops.fits list ≡ true → length list < 2 ^ 8
unfolding f.ops
few_ops list h = few 32 (length list) _ (omega arith) h

pub few_locks : (list : List Lock) → f.locks.fits list ≡ true → length list < 2 ^ 8
unfolding f.locks
few_locks list h = few 32 (length list) _ (omega arith) h

pub few_keys : (list : List Key) → f.keys.fits list ≡ true → length list < 2 ^ 8
unfolding f.keys
few_keys list h = few 32 (length list) _ (omega arith) h

pub few_writes : (list : List Write) → f.writes.fits list ≡ true → length list < 2 ^ 8
unfolding f.writes
few_writes list h =
    let le : length list ≤ 32 = at_most 0 32 (length list) (left_of ((f.from_to 0 32).fits (length list)) _ h) in
    omega arith

pub few_op_answers : (list : List OpAnswer) → f.op_answers.fits list ≡ true → length list < 2 ^ 8
unfolding f.op_answers
few_op_answers list h = few 32 (length list) _ (omega arith) h

pub few_values : (list : List (Option ℕ)) → f.values.fits list ≡ true → length list < 2 ^ 8
unfolding f.values
few_values list h = few 32 (length list) _ (omega arith) h

pub few_places : (s : StampValue) → f.stamp.fits s ≡ true → length s.places < 2 ^ 8
unfolding f.stamp
few_places s h = few 64 (length s.places) _ (omega arith) (right_of (f.epoch.fits s.epoch) _ h)

pub word_below : (n : ℕ) → f.word.fits n ≡ true → n < 2 ^ 32
unfolding f.word
word_below n h = ltb-true _ _ h

pub many_places : (list : List (ShardId × ℕ)) → p.places.fits list ≡ true → length list < 2 ^ 32
unfolding p.places
many_places list h = word_below (length list) (left_of (f.word.fits (length list)) _ h)

pub pairs_length : (list : List Place) → length (p.pairs_of list) ≡ length list
unfolding p.pairs_of
pairs_length [] = refl
pairs_length (place ∷ list) = ap suc (pairs_length list)

pub many_marks : (list : List Place) → p.places.fits (p.pairs_of list) ≡ true → length list < 2 ^ 32
many_marks list h = let lt = many_places (p.pairs_of list) h in omega (arith, pairs_length list)

marks_flat : (list : List Place) → flat_map (f.shard ⊗ f.number).spell (p.pairs_of list) ≡ flat_map (λ place. (f.shard ⊗ f.number).spell (pair_of place)) list
unfolding p.pairs_of
marks_flat list = flat_map-map (f.shard ⊗ f.number).spell pair_of list

-- places of an epoch are spelled by their shards and numbers
pub marks_spell : (list : List Place) → p.places.spell (p.pairs_of list) ≡ f.word.spell (length list) ++ flat_map (λ place. (f.shard ⊗ f.number).spell (pair_of place)) list
unfolding p.places
marks_spell list = rw (pairs_length list, marks_flat list) refl

pub items_have : {X : Type 0} (item : List X → Codec X) (P : X → Type 0) → ((before : List X) (x : X) → (item before).fits x ≡ true → P x)
    → (before : List X) (xs : List X) → items_fit item before xs ≡ true → AllByRecursion P xs
items_have item P one before [] h = tt
items_have item P one before (x ∷ xs) h =
    let here = one before x (left_of ((item before).fits x) (items_fit item (before ++ x ∷ []) xs) h) in
    let more = items_have item P one (before ++ x ∷ []) xs (right_of ((item before).fits x) (items_fit item (before ++ x ∷ []) xs) h) in
    (here, more)

pub packets_many : (list : List Packet) → f.packets.fits list ≡ true → length list < 2 ^ 32
unfolding f.packets
packets_many list h = word_below (length list) (left_of (f.word.fits (length list)) _ h)

pub packets_fit : (list : List Packet) → f.packets.fits list ≡ true → All (λ packet. f.packet.fits packet ≡ true) list
unfolding f.packets
packets_fit list h = All-from_recursion _ list (items_have (λ _. f.packet) _ (λ _ _ fine. fine) [] list (right_of (f.word.fits (length list)) (items_fit (λ _. f.packet) [] list) h))

held_packet_fits : (before : List (ℕ × Packet)) (x : ℕ × Packet) → (p.held_packet before).fits x ≡ true → f.packet.fits x.1 ≡ true
unfolding p.held_packet
held_packet_fits before x h = right_of _ (f.packet.fits x.1) h

pub held_many : (list : List (ℕ × Packet)) → p.held.fits list ≡ true → length list < 2 ^ 32
unfolding p.held
held_many list h = word_below (length list) (left_of (f.word.fits (length list)) _ h)

pub held_fit : (list : List (ℕ × Packet)) → p.held.fits list ≡ true → All (λ pair. f.packet.fits pair.1 ≡ true) list
unfolding p.held
held_fit list h = All-from_recursion _ list (items_have p.held_packet _ held_packet_fits [] list (right_of (f.word.fits (length list)) (items_fit p.held_packet [] list) h))
