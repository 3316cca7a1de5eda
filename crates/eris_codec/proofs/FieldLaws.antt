-- Each of the fields below bodies reads what it spells, and nothing else.
use Rattle.std.proofs.Common.{◌≡◌, ℕ, zero, suc, ◌^◌, ◌<◌, ◌≤◌, ◌&&◌, Bool, true, nat_lt, nat_le, List, [], ◌∷◌, length, get_or, refl, ap, ◌%◌, arith}
use Rattle.std.specs.Int.{w8, w32, w64, from_be_bytes, to_be_bytes}
use Rattle.std.proofs.lemmas.Bool.{ltb-true, lt-ltb}
use Rattle.std.proofs.lemmas.Bool.Decides.{nat_tests}
use Rattle.std.proofs.lemmas.Nat.{be_bytes_4, be_bytes_8, from_be_bytes-to_be_bytes_4, from_be_bytes-to_be_bytes_8}
use Rattle.eris_base.specs.declared.ids.Phase.{Phase}
use Rattle.eris_base.specs.declared.ids.Phase.TheVariants.{Whole, Prelim, Conclude}
use Rattle.eris_base.specs.declared.ids.ShardId.{ShardId}
use Rattle.eris_base.proofs.Booleans.{left_of, right_of}
use Rattle.eris_txn.specs.declared.lock.Mode.{Mode}
use Rattle.eris_txn.specs.declared.lock.Mode.TheVariants.{Shared, Exclusive}
use Rattle.eris_codec.specs.Codecs.{Codec, ◌⊗◌, listed}
use Rattle.eris_codec.specs.Fields as f
use Rattle.eris_codec.proofs.Laws.{IsWide, IsCodec, is_plain, is_checked, is_pair, is_named, is_listed}

-- ---- numbers
wide32 : IsWide w32 (2 ^ 32)
wide32 = record {
  len = λ n. refl;
  back = λ bytes len fits. be_bytes_4 bytes _ len fits refl;
  again = λ n lt. from_be_bytes-to_be_bytes_4 n lt;
  below = λ bytes fits. omega (arith, fits 0, fits 1, fits 2, fits 3);
}

wide64 : IsWide w64 (2 ^ 64)
wide64 = record {
  len = λ n. refl;
  back = λ bytes len fits. be_bytes_8 bytes _ len fits refl;
  again = λ n lt. from_be_bytes-to_be_bytes_8 n lt;
  below = λ bytes fits. omega (arith, fits 0, fits 1, fits 2, fits 3, fits 4, fits 5, fits 6, fits 7);
}

be_bytes_1 : (bytes : List ℕ) → length bytes ≡ 1 → ((i : ℕ) → get_or bytes i 0 < 256) → to_be_bytes w8 (from_be_bytes w8 bytes) ≡ bytes
be_bytes_1 [] len fits = absurd cc
be_bytes_1 (b ∷ []) len fits =
    let e : b % 256 ≡ b = omega (arith, fits 0) in
    ap (λ (n : ℕ). n ∷ []) e
be_bytes_1 (b ∷ c ∷ bytes) len fits = absurd (omega arith)

wide8 : IsWide w8 (2 ^ 8)
wide8 = record {
  len = λ n. refl;
  back = λ bytes len fits. be_bytes_1 bytes len fits;
  again = λ n lt. omega arith;
  below = λ bytes fits. omega (arith, fits 0);
}

pub is_byte : IsCodec f.byte
unfolding f.byte
is_byte = is_plain w8 (2 ^ 8) wide8

pub is_word : IsCodec f.word
unfolding f.word
is_word = is_plain w32 (2 ^ 32) wide32

pub is_value : IsCodec f.value
unfolding f.value
is_value = is_plain w64 (2 ^ 64) wide64

pub is_from_to : (least most : ℕ) → IsCodec (f.from_to least most)
unfolding f.from_to
is_from_to least most = is_checked _ _ f.byte is_byte

pub is_number : IsCodec f.number
unfolding f.number
is_number = is_checked _ _ f.word is_word

-- ---- a byte as a tag
pub byte_single : (n : ℕ) → n < 256 → f.byte.spell n ≡ n ∷ []
unfolding f.byte
byte_single n h =
    let e : n % 256 ≡ n = omega arith in
    ap (λ (k : ℕ). k ∷ []) e

byte_below : (n : ℕ) → f.byte.fits n ≡ true → n < 256
unfolding f.byte
byte_below n h = ltb-true _ _ h

byte_fits : (n : ℕ) → n < 256 → f.byte.fits n ≡ true
unfolding f.byte
byte_fits n h = lt-ltb _ _ h

pub checked_single : (ok : ℕ → Bool) (n : ℕ) → (f.byte.fits n && ok n) ≡ true → f.byte.spell n ≡ n ∷ []
checked_single ok n h = byte_single n (byte_below n (left_of (f.byte.fits n) (ok n) h))

pub tag_fits : (t : ℕ) → nat_lt t 256 ≡ true → f.byte.fits t ≡ true
tag_fits t h = byte_fits t (ltb-true _ _ h)

pub tag_single : (least most : ℕ) (t : ℕ) → (f.from_to least most).fits t ≡ true → (f.from_to least most).spell t ≡ t ∷ []
unfolding f.from_to
tag_single least most t h = checked_single (λ n. nat_le least n && nat_le n most) t h

pub tag_is : (least most t : ℕ) → nat_lt t 256 ≡ true → (nat_le least t && nat_le t most) ≡ true → (f.from_to least most).fits t ≡ true
unfolding f.from_to
tag_is least most t small h = rw (tag_fits t small) h

-- a byte of a range that was read is in it
pub at_least : (least most n : ℕ) → (f.from_to least most).fits n ≡ true → least ≤ n
unfolding f.from_to
at_least least most n h =
    let k = left_of (nat_le least n) (nat_le n most) (right_of (f.byte.fits n) (nat_le least n && nat_le n most) h) in
    grind (arith, nat_tests)

pub at_most : (least most n : ℕ) → (f.from_to least most).fits n ≡ true → n ≤ most
unfolding f.from_to
at_most least most n h =
    let k = right_of (nat_le least n) (nat_le n most) (right_of (f.byte.fits n) (nat_le least n && nat_le n most) h) in
    grind (arith, nat_tests)

-- ---- names of nodes, times and places
pub is_shard : IsCodec f.shard
unfolding f.shard
is_shard = is_named _ _ _ (λ _. refl) (λ _ _. refl) (is_from_to 0 63)

pub is_replica : IsCodec f.replica
unfolding f.replica
is_replica = is_named _ _ _ (λ _. refl) (λ _ _. refl) (is_from_to 0 6)

pub is_client : IsCodec f.client
unfolding f.client
is_client = is_named _ _ _ (λ _. refl) (λ _ _. refl) (is_from_to 0 127)

pub is_epoch : IsCodec f.epoch
unfolding f.epoch
is_epoch = is_named _ _ _ (λ _. refl) (λ _ _. refl) is_word

pub is_view : IsCodec f.view
unfolding f.view
is_view = is_named _ _ _ (λ _. refl) (λ _ _. refl) is_word

phase_there : (phase : Phase) → f.phase_of (f.phase_number phase) ≡ phase
phase_there Whole = refl
phase_there Prelim = refl
phase_there Conclude = refl

phase_back : (n : ℕ) → n ≤ 2 → f.phase_number (f.phase_of n) ≡ n
phase_back zero h = refl
phase_back (suc zero) h = refl
phase_back (suc (suc zero)) h = refl
phase_back (suc (suc (suc n))) h = absurd (omega arith)

pub is_phase : IsCodec f.phase
unfolding f.phase
is_phase = is_named _ _ _ phase_there (λ n h. phase_back n (at_most 0 2 n h)) (is_from_to 0 2)

pub is_id : IsCodec f.id
unfolding f.id
is_id = is_named _ _ _ (λ _. refl) (λ _ _. refl) (is_pair _ _ is_client is_number)

pub is_place : IsCodec f.place
unfolding f.place
is_place = is_named _ _ _ (λ _. refl) (λ _ _. refl) (is_pair _ _ is_epoch (is_pair _ _ is_shard is_number))

-- ---- stamps and keys
pub is_stamp_place : (before : List (ShardId × ℕ)) → IsCodec (f.stamp_place before)
unfolding f.stamp_place
is_stamp_place before = is_pair _ _ (is_checked _ _ f.shard is_shard) is_number

stamp_place_spell : (before : List (ShardId × ℕ)) (p : ShardId × ℕ) → (f.stamp_place before).spell p ≡ (f.shard ⊗ f.number).spell p
unfolding f.stamp_place
stamp_place_spell before p = refl

pub is_stamp : IsCodec f.stamp
unfolding f.stamp
is_stamp = is_named _ _ _ (λ _. refl) (λ _ _. refl) (is_pair _ _ is_epoch (is_listed f.stamp_place _ stamp_place_spell is_stamp_place (f.from_to 1 64) (is_from_to 1 64)))

pub is_name : IsCodec f.name
unfolding f.name
is_name = is_listed _ _ (λ _ _. refl) (λ _. is_checked _ _ f.byte is_byte) (f.from_to 1 16) (is_from_to 1 16)

pub is_key : IsCodec f.key
unfolding f.key
is_key = is_named _ _ _ (λ _. refl) (λ _ _. refl) (is_pair _ _ is_shard is_name)

mode_there : (mode : Mode) → f.mode_of (f.mode_number mode) ≡ mode
mode_there Shared = refl
mode_there Exclusive = refl

mode_back : (n : ℕ) → n ≤ 1 → f.mode_number (f.mode_of n) ≡ n
mode_back zero h = refl
mode_back (suc zero) h = refl
mode_back (suc (suc n)) h = absurd (omega arith)

pub is_mode : IsCodec f.mode
unfolding f.mode
is_mode = is_named _ _ _ mode_there (λ n h. mode_back n (at_most 0 1 n h)) (is_from_to 0 1)

pub is_lock : IsCodec f.lock
unfolding f.lock
is_lock = is_named _ _ _ (λ _. refl) (λ _ _. refl) (is_pair _ _ is_key is_mode)

pub is_write : IsCodec f.write
unfolding f.write
is_write = is_named _ _ _ (λ _. refl) (λ _ _. refl) (is_pair _ _ is_key is_value)

-- a list of items none of which depends on the others
pub is_list : {X : Type 0} (count : Codec ℕ) (c : Codec X) → IsCodec count → IsCodec c → IsCodec (listed count c.spell (λ _. c))
is_list count c k h = is_listed (λ _. c) c.spell (λ _ _. refl) (λ _. h) count k

pub is_keys : IsCodec f.keys
unfolding f.keys
is_keys = is_list _ f.key (is_from_to 1 32) is_key

pub is_locks : IsCodec f.locks
unfolding f.locks
is_locks = is_list _ f.lock (is_from_to 1 32) is_lock

pub is_writes : IsCodec f.writes
unfolding f.writes
is_writes = is_list _ f.write (is_from_to 0 32) is_write
