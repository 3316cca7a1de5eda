-- What one or two words say: numbers, nodes, transactions, keys, and bytes.
use Rattle.std.specs.Prelude.{ℕ, ◌+◌, ◌*◌, ◌-◌, ◌/◌, ◌%◌, ◌^◌, ◌==◌, ◌&&◌, ◌||◌, nat_le, nat_lt, Bool, Option, Some, None, option_map, List, [], ◌∷◌, ◌++◌, length, bytes_eq, codes, if◌then◌else◌}
use Rattle.std.specs.List.{before_first, after_first, flat_map}
use Rattle.eris_base.specs.declared.ids.ClientId.{ClientId}
use Rattle.eris_base.specs.declared.ids.ReplicaId.{ReplicaId}
use Rattle.eris_base.specs.declared.ids.ShardId.{ShardId}
use Rattle.eris_base.specs.declared.ids.TxnId.{TxnId}
use Rattle.eris_txn.specs.declared.key.Key.{Key}
use Rattle.eris_txn.specs.Names.{is_name}
use Rattle.eris_words.specs.declared.reason.Reason.TheVariants as reason
use Rattle.eris_words.specs.Decimal.{decimal, read_decimal}
use Rattle.eris_words.specs.Forms.{Form, one_word, pair, named}
use Rattle.eris_words.specs.Words.{key_word}
use Rattle.eris_event.specs.EventRanges.{are_noise, last_shard, fits_key}

-- NUMBERS

unfoldable pub number : ℕ → Form ℕ
number limit = one_word reason.Number decimal (read_decimal limit) (λ n. nat_le n limit)

-- packets, numbers of transactions, epochs, and how often something is done
unfoldable pub count : Form ℕ
count = number (2 ^ 32 - 1)

unfoldable pub value : Form ℕ
value = number (2 ^ 64 - 1)

unfoldable pub client : Form ClientId
client = named (λ n. record { 0 = n }) (λ c. c.0) (number 255)

-- TWO NUMBERS

abbrev pub is_dot : ℕ → Bool
is_dot byte = byte == 46

-- `A.B`
abbrev pub dotted_word : ℕ × ℕ → List ℕ
dotted_word p = decimal p.0 ++ codes "." ++ decimal p.1

abbrev pub both_of : Option ℕ → Option ℕ → Option (ℕ × ℕ)
both_of (Some a) (Some b) = Some (a, b)
both_of (Some a) None = None
both_of None b = None

abbrev pub read_dotted : ℕ → ℕ → List ℕ → Option (ℕ × ℕ)
read_dotted first second word =
    both_of (read_decimal first (before_first is_dot word)) (read_decimal second (after_first is_dot word))

-- two numbers are two words in version 1, and one word with a dot between them in version 2
unfoldable pub two_words : ℕ → ℕ → Form (ℕ × ℕ)
two_words first second = pair (number first) (number second)

unfoldable pub dotted : ℕ → ℕ → Form (ℕ × ℕ)
dotted first second =
    one_word reason.Number dotted_word (read_dotted first second) (λ p. nat_le p.0 first && nat_le p.1 second)

abbrev pub pair_words : ℕ → ℕ → ℕ → List (List ℕ)
pair_words version a b = if version == 1 then decimal a ∷ decimal b ∷ [] else dotted_word (a, b) ∷ []

unfoldable pub two_numbers : ℕ → ℕ → ℕ → Form (ℕ × ℕ)
two_numbers version first second = record {
  spell = λ p. pair_words version p.0 p.1;
  read = λ words. if version == 1 then (two_words first second).read words else (dotted first second).read words;
  fits = λ p. nat_le p.0 first && nat_le p.1 second;
}

-- the identity of a transaction: its client, and its number there
unfoldable pub txn : ℕ → Form TxnId
txn version = named (λ p. record { client = record { 0 = p.0 }; number = p.1 }) (λ id. (id.client.0, id.number))
    (two_numbers version 255 (2 ^ 32 - 1))

-- a replica: its shard, and its number there
unfoldable pub replica : ℕ → Form (ShardId × ReplicaId)
replica version = named (λ p. (record { 0 = p.0 }, record { 0 = p.1 })) (λ r. (r.0.0, r.1.0)) (two_numbers version 255 255)

-- KEYS

abbrev pub is_slash : ℕ → Bool
is_slash byte = byte == 47

abbrev pub key_in : Option ℕ → List ℕ → Option Key
key_in (Some shard) name = if is_name name then Some (record { shard = record { 0 = shard }; name = name }) else None
key_in None name = None

-- `S/NAME`
abbrev pub read_key : ℕ → List ℕ → Option Key
read_key version word = key_in (read_decimal (last_shard version) (before_first is_slash word)) (after_first is_slash word)

unfoldable pub key : ℕ → Form Key
key version =
    one_word reason.Key key_word (read_key version) (fits_key version)

-- BYTES

-- `0` to `9`, then `a` to `f`
abbrev pub hex_digit : ℕ → ℕ
hex_digit n = if nat_lt n 10 then 48 + n else 87 + n

abbrev pub hex_value : ℕ → Option ℕ
hex_value digit =
    if nat_le 48 digit && nat_le digit 57 then Some (digit - 48)
    else if nat_le 97 digit && nat_le digit 102 then Some (digit - 87)
    else None

-- a byte as two digits, the high one first
abbrev pub hex_pair : ℕ → List ℕ
hex_pair byte = hex_digit (byte / 16) ∷ hex_digit (byte % 16) ∷ []

-- bytes as pairs of digits; `-` where there is none
abbrev pub hex_word : List ℕ → List ℕ
hex_word [] = codes "-"
hex_word (byte ∷ bytes) = flat_map hex_pair (byte ∷ bytes)

abbrev pub byte_of : Option ℕ → Option ℕ → Option ℕ
byte_of (Some high) (Some low) = Some (high * 16 + low)
byte_of (Some high) None = None
byte_of None low = None

abbrev pub onto : Option ℕ → Option (List ℕ) → Option (List ℕ)
onto (Some byte) bytes = option_map (λ more. byte ∷ more) bytes
onto None bytes = None

abbrev pub read_pairs : List ℕ → Option (List ℕ)
read_pairs [] = Some []
read_pairs (digit ∷ []) = None
read_pairs (high ∷ low ∷ digits) = onto (byte_of (hex_value high) (hex_value low)) (read_pairs digits)

-- 1 to 256 bytes, or none
abbrev pub read_hex : List ℕ → Option (List ℕ)
read_hex word =
    if bytes_eq word (codes "-") then Some []
    else if length word == 0 || nat_lt 512 (length word) then None
    else read_pairs word

unfoldable pub hex : Form (List ℕ)
hex = one_word reason.Hex hex_word read_hex are_noise
