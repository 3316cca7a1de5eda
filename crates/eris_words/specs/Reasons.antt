use Rattle.std.specs.Prelude.{ℕ, List, codes}
use Rattle.eris_words.specs.declared.reason.Reason.{Reason}
use Rattle.eris_words.specs.declared.reason.Reason.TheVariants.{Header, Word, Number, Key, Hex, End, TooMany, RepeatedKey, UnlockedKey, NoSuchClient, NoSuchShard, NoSuchTxn, OwnTxn, NotGeneral, NoSuchPacket, NoSuchSequencer, NoSuchReplica, Crashed, IsMessage}

-- a reason as it is written
abbrev pub reason_name : Reason → List ℕ
reason_name Header = codes "Header"
reason_name Word = codes "Word"
reason_name Number = codes "Number"
reason_name Key = codes "Key"
reason_name Hex = codes "Hex"
reason_name End = codes "End"
reason_name TooMany = codes "TooMany"
reason_name RepeatedKey = codes "RepeatedKey"
reason_name UnlockedKey = codes "UnlockedKey"
reason_name NoSuchClient = codes "NoSuchClient"
reason_name NoSuchShard = codes "NoSuchShard"
reason_name NoSuchTxn = codes "NoSuchTxn"
reason_name OwnTxn = codes "OwnTxn"
reason_name NotGeneral = codes "NotGeneral"
reason_name NoSuchPacket = codes "NoSuchPacket"
reason_name NoSuchSequencer = codes "NoSuchSequencer"
reason_name NoSuchReplica = codes "NoSuchReplica"
reason_name Crashed = codes "Crashed"
reason_name IsMessage = codes "IsMessage"
