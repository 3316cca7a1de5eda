use Rattle.std.specs.Prelude.{ℕ, List, ◌∷◌, [], ◌++◌, codes}
use Rattle.std.specs.List.{flat_map, join_with_byte}
use Rattle.eris_base.specs.declared.ids.ShardId.{ShardId}
use Rattle.eris_base.specs.declared.ids.TxnId.{TxnId}
use Rattle.eris_txn.specs.declared.key.Key.{Key}
use Rattle.eris_words.specs.Decimal.{decimal}

-- a line: its words with a space between each two, and LF
abbrev pub line : List (List ℕ) → List ℕ
line words = join_with_byte 32 words ++ 10 ∷ []

-- words that go on a line, a space before each
abbrev pub spaced : List (List ℕ) → List ℕ
spaced words = flat_map (λ word. 32 ∷ word) words

-- `C.N`: the client, and the number of its transaction
abbrev pub id_word : TxnId → List ℕ
id_word id = decimal id.client.0 ++ codes "." ++ decimal id.number

-- `S/NAME`: the shard, and the name in it
abbrev pub key_word : Key → List ℕ
key_word key = decimal key.shard.0 ++ codes "/" ++ key.name

-- `S:N`: the shard, and the number that a stamp gives it
abbrev pub place_word : ShardId × ℕ → List ℕ
place_word place = decimal place.0.0 ++ codes ":" ++ decimal place.1
