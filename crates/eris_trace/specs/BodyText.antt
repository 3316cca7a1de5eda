-- How bodies, stamps and packets are told.
use Rattle.std.specs.Prelude.{ℕ, List, [], ◌∷◌, ◌++◌, map, codes}
use Rattle.std.specs.List.{flat_map}
use Rattle.eris_base.specs.declared.ids.ClientId.{ClientId}
use Rattle.eris_base.specs.Stamps.{StampValue}
use Rattle.eris_txn.specs.declared.body.Body.{Body}
use Rattle.eris_txn.specs.declared.body.Body.TheVariants.{Independent, Prelim, Commit, Abort}
use Rattle.eris_txn.specs.declared.lock.Lock.{Lock}
use Rattle.eris_txn.specs.declared.packet.Packet.{Packet}
use Rattle.eris_txn.specs.declared.plan.Write.{Write}
use Rattle.eris_words.specs.Decimal.{decimal}
use Rattle.eris_words.specs.OpText.{ops_words}
use Rattle.eris_words.specs.Words.{id_word, key_word, place_word}

abbrev pub lock_word : Lock → List ℕ
lock_word lock = key_word lock.key

-- a write, after the `;` that sets it off
abbrev pub write_words : Write → List (List ℕ)
write_words write = codes ";" ∷ codes "set" ∷ key_word write.key ∷ decimal write.value ∷ []

-- `OP ; OP`, `lock K K`, `commit K K ; set K N`, `abort K K`
abbrev pub body_words : Body → List (List ℕ)
body_words (Independent ops) = ops_words ops
body_words (Prelim locks) = codes "lock" ∷ map lock_word locks
body_words (Commit keys writes) = codes "commit" ∷ map key_word keys ++ flat_map write_words writes
body_words (Abort keys) = codes "abort" ∷ map key_word keys

-- `stamp E S:N S:N`
abbrev pub stamp_words : StampValue → List (List ℕ)
stamp_words stamp = codes "stamp" ∷ decimal stamp.epoch.0 ∷ map place_word stamp.places

-- `asker C`
abbrev pub asker_words : ClientId → List (List ℕ)
asker_words asker = codes "asker" ∷ decimal asker.0 ∷ []

-- a packet: `stamp E S:N id I asker C body ..`
unfoldable pub packet_words : Packet → List (List ℕ)
packet_words packet =
    stamp_words packet.stamp ++ codes "id" ∷ id_word packet.id ∷ asker_words packet.asker ++ codes "body" ∷ body_words packet.body
