-- The fields of messages. All numbers are big-endian.
use Rattle.std.specs.Prelude.{ℕ, ◌^◌, Bool, true, ◌&&◌, ◌==◌, nat_lt, nat_le, List, [], ◌∷◌, Option, Some, None, if◌then◌else◌}
use Rattle.std.specs.Int.{w8, w32, w64}
use Rattle.std.specs.Option.{option_map}
use Rattle.eris_base.specs.declared.ids.ClientId.{ClientId}
use Rattle.eris_base.specs.declared.ids.Epoch.{Epoch}
use Rattle.eris_base.specs.declared.ids.Phase.{Phase}
use Rattle.eris_base.specs.declared.ids.Phase.TheVariants.{Whole, Prelim, Conclude}
use Rattle.eris_base.specs.declared.ids.Place.{Place}
use Rattle.eris_base.specs.declared.ids.ReplicaId.{ReplicaId}
use Rattle.eris_base.specs.declared.ids.ShardId.{ShardId}
use Rattle.eris_base.specs.declared.ids.TxnId.{TxnId}
use Rattle.eris_base.specs.declared.ids.View.{View}
use Rattle.eris_base.specs.Places.{is_later}
use Rattle.eris_base.specs.Stamps.{StampValue}
use Rattle.eris_txn.specs.declared.answer.Answer.{Answer}
use Rattle.eris_txn.specs.declared.answer.Answer.TheVariants as answers
use Rattle.eris_txn.specs.declared.body.Body.{Body}
use Rattle.eris_txn.specs.declared.body.Body.TheVariants as bodies
use Rattle.eris_txn.specs.declared.key.Key.{Key}
use Rattle.eris_txn.specs.declared.lock.Lock.{Lock}
use Rattle.eris_txn.specs.declared.lock.Mode.{Mode}
use Rattle.eris_txn.specs.declared.lock.Mode.TheVariants.{Shared, Exclusive}
use Rattle.eris_txn.specs.declared.op.Op.{Op}
use Rattle.eris_txn.specs.declared.op.Op.TheVariants.{Get, Put, Del, Add, Cas}
use Rattle.eris_txn.specs.declared.op.OpAnswer.{OpAnswer}
use Rattle.eris_txn.specs.declared.op.OpAnswer.TheVariants.{Value, Absent, Done, Yes, No}
use Rattle.eris_txn.specs.declared.packet.Packet.{Packet}
use Rattle.eris_txn.specs.declared.plan.Write.{Write}
use Rattle.eris_txn.specs.Names.{is_name_byte}
use Rattle.eris_codec.specs.declared.fault.DecodeReason.TheVariants.{Order, Range}
use Rattle.eris_codec.specs.Codecs.{Codec, Read, bad, plain, nothing, checked, ◌⊗◌, named, last_of, listed, tagged, arm}

-- ---- numbers of one, four and eight bytes
unfoldable pub byte : Codec ℕ
byte = plain w8 (2 ^ 8)

unfoldable pub word : Codec ℕ
word = plain w32 (2 ^ 32)

unfoldable pub value : Codec ℕ
value = plain w64 (2 ^ 64)

-- a byte of a range
unfoldable pub from_to : ℕ → ℕ → Codec ℕ
from_to least most = checked (λ n. nat_le least n && nat_le n most) Range byte

unfoldable pub number : Codec ℕ
number = checked (λ n. nat_lt 0 n) Range word

-- ---- names of nodes, times and places
unfoldable pub shard : Codec ShardId
shard = named (λ n. record { 0 = n }) (λ s. s.0) (from_to 0 63)

unfoldable pub replica : Codec ReplicaId
replica = named (λ n. record { 0 = n }) (λ r. r.0) (from_to 0 6)

unfoldable pub client : Codec ClientId
client = named (λ n. record { 0 = n }) (λ c. c.0) (from_to 0 127)

unfoldable pub epoch : Codec Epoch
epoch = named (λ n. record { 0 = n }) (λ e. e.0) word

unfoldable pub view : Codec View
view = named (λ n. record { 0 = n }) (λ v. v.0) word

abbrev pub phase_of : ℕ → Phase
phase_of n = if n == 0 then Whole else if n == 1 then Prelim else Conclude

abbrev pub phase_number : Phase → ℕ
phase_number Whole = 0
phase_number Prelim = 1
phase_number Conclude = 2

unfoldable pub phase : Codec Phase
phase = named phase_of phase_number (from_to 0 2)

unfoldable pub id : Codec TxnId
id = named (λ p. record { client = p.0; number = p.1 }) (λ t. (t.client, t.number)) (client ⊗ number)

unfoldable pub place : Codec Place
place = named (λ p. record { epoch = p.0; shard = p.1.0; number = p.1.1 }) (λ t. (t.epoch, (t.shard, t.number))) (epoch ⊗ shard ⊗ number)

-- ---- stamps: each shard is greater than the one before
unfoldable pub shard_before : List (ShardId × ℕ) → Option ShardId
shard_before before = option_map (λ p. p.0) (last_of before)

unfoldable pub stamp_place : List (ShardId × ℕ) → Codec (ShardId × ℕ)
stamp_place before = checked (λ s. is_later (shard_before before) s) Order shard ⊗ number

unfoldable pub stamp : Codec StampValue
stamp = named (λ p. record { epoch = p.0; places = p.1 }) (λ s. (s.epoch, s.places)) (epoch ⊗ listed (from_to 1 64) (shard ⊗ number).spell stamp_place)

-- ---- keys and what is done to them
unfoldable pub name : Codec (List ℕ)
name = listed (from_to 1 16) byte.spell (λ _. checked is_name_byte Range byte)

unfoldable pub key : Codec Key
key = named (λ p. record { shard = p.0; name = p.1 }) (λ k. (k.shard, k.name)) (shard ⊗ name)

unfoldable pub spell_op : Op → List ℕ
spell_op (Get k) = 1 ∷ key.spell k
spell_op (Put k n) = 2 ∷ (key ⊗ value).spell (k, n)
spell_op (Del k) = 3 ∷ key.spell k
spell_op (Add k n) = 4 ∷ (key ⊗ value).spell (k, n)
spell_op (Cas k e n) = 5 ∷ (key ⊗ value ⊗ value).spell (k, (e, n))

unfoldable pub op_fits : Op → Bool
op_fits (Get k) = key.fits k
op_fits (Put k n) = (key ⊗ value).fits (k, n)
op_fits (Del k) = key.fits k
op_fits (Add k n) = (key ⊗ value).fits (k, n)
op_fits (Cas k e n) = (key ⊗ value ⊗ value).fits (k, (e, n))

unfoldable pub op_behind : ℕ → List ℕ → Read Op
op_behind t bytes =
    if t == 1 then arm Get key bytes
    else if t == 2 then arm (λ p. Put p.0 p.1) (key ⊗ value) bytes
    else if t == 3 then arm Del key bytes
    else if t == 4 then arm (λ p. Add p.0 p.1) (key ⊗ value) bytes
    else if t == 5 then arm (λ p. Cas p.0 p.1.0 p.1.1) (key ⊗ value ⊗ value) bytes
    else bad 0 Range

unfoldable pub op : Codec Op
op = tagged (from_to 1 5) spell_op op_fits op_behind

unfoldable pub ops : Codec (List Op)
ops = listed (from_to 1 32) op.spell (λ _. op)

unfoldable pub keys : Codec (List Key)
keys = listed (from_to 1 32) key.spell (λ _. key)

abbrev pub mode_of : ℕ → Mode
mode_of n = if n == 0 then Shared else Exclusive

abbrev pub mode_number : Mode → ℕ
mode_number Shared = 0
mode_number Exclusive = 1

unfoldable pub mode : Codec Mode
mode = named mode_of mode_number (from_to 0 1)

unfoldable pub lock : Codec Lock
lock = named (λ p. record { key = p.0; mode = p.1 }) (λ l. (l.key, l.mode)) (key ⊗ mode)

unfoldable pub locks : Codec (List Lock)
locks = listed (from_to 1 32) lock.spell (λ _. lock)

unfoldable pub write : Codec Write
write = named (λ p. record { key = p.0; value = p.1 }) (λ w. (w.key, w.value)) (key ⊗ value)

unfoldable pub writes : Codec (List Write)
writes = listed (from_to 0 32) write.spell (λ _. write)

-- ---- bodies and packets
unfoldable pub spell_body : Body → List ℕ
spell_body (bodies.Independent list) = 1 ∷ ops.spell list
spell_body (bodies.Prelim list) = 2 ∷ locks.spell list
spell_body (bodies.Commit list made) = 3 ∷ (keys ⊗ writes).spell (list, made)
spell_body (bodies.Abort list) = 4 ∷ keys.spell list

unfoldable pub body_fits : Body → Bool
body_fits (bodies.Independent list) = ops.fits list
body_fits (bodies.Prelim list) = locks.fits list
body_fits (bodies.Commit list made) = (keys ⊗ writes).fits (list, made)
body_fits (bodies.Abort list) = keys.fits list

unfoldable pub body_behind : ℕ → List ℕ → Read Body
body_behind t bytes =
    if t == 1 then arm bodies.Independent ops bytes
    else if t == 2 then arm bodies.Prelim locks bytes
    else if t == 3 then arm (λ p. bodies.Commit p.0 p.1) (keys ⊗ writes) bytes
    else if t == 4 then arm bodies.Abort keys bytes
    else bad 0 Range

unfoldable pub body : Codec Body
body = tagged (from_to 1 4) spell_body body_fits body_behind

unfoldable pub packet : Codec Packet
packet = named (λ p. record { stamp = p.0; id = p.1.0; asker = p.1.1.0; body = p.1.1.1 }) (λ k. (k.stamp, (k.id, (k.asker, k.body)))) (stamp ⊗ id ⊗ client ⊗ body)

unfoldable pub packets : Codec (List Packet)
packets = listed word packet.spell (λ _. packet)

-- ---- answers
unfoldable pub spell_op_answer : OpAnswer → List ℕ
spell_op_answer (Value n) = 1 ∷ value.spell n
spell_op_answer Absent = 2 ∷ []
spell_op_answer Done = 3 ∷ []
spell_op_answer Yes = 4 ∷ []
spell_op_answer No = 5 ∷ []

unfoldable pub op_answer_fits : OpAnswer → Bool
op_answer_fits (Value n) = value.fits n
op_answer_fits Absent = true
op_answer_fits Done = true
op_answer_fits Yes = true
op_answer_fits No = true

unfoldable pub op_answer_behind : ℕ → List ℕ → Read OpAnswer
op_answer_behind t bytes =
    if t == 1 then arm Value value bytes
    else if t == 2 then arm (λ _. Absent) nothing bytes
    else if t == 3 then arm (λ _. Done) nothing bytes
    else if t == 4 then arm (λ _. Yes) nothing bytes
    else if t == 5 then arm (λ _. No) nothing bytes
    else bad 0 Range

unfoldable pub op_answer : Codec OpAnswer
op_answer = tagged (from_to 1 5) spell_op_answer op_answer_fits op_answer_behind

unfoldable pub op_answers : Codec (List OpAnswer)
op_answers = listed (from_to 1 32) op_answer.spell (λ _. op_answer)

-- a value that may be absent
unfoldable pub spell_found : Option ℕ → List ℕ
spell_found None = 0 ∷ []
spell_found (Some n) = 1 ∷ value.spell n

unfoldable pub found_fits : Option ℕ → Bool
found_fits None = true
found_fits (Some n) = value.fits n

unfoldable pub found_behind : ℕ → List ℕ → Read (Option ℕ)
found_behind t bytes =
    if t == 0 then arm (λ _. None) nothing bytes
    else if t == 1 then arm Some value bytes
    else bad 0 Range

unfoldable pub found : Codec (Option ℕ)
found = tagged (from_to 0 1) spell_found found_fits found_behind

unfoldable pub values : Codec (List (Option ℕ))
values = listed (from_to 1 32) found.spell (λ _. found)

unfoldable pub spell_answer : Answer → List ℕ
spell_answer (answers.Ops list) = 1 ∷ op_answers.spell list
spell_answer (answers.Values list) = 2 ∷ values.spell list
spell_answer answers.Committed = 3 ∷ []
spell_answer answers.Aborted = 4 ∷ []

unfoldable pub answer_fits : Answer → Bool
answer_fits (answers.Ops list) = op_answers.fits list
answer_fits (answers.Values list) = values.fits list
answer_fits answers.Committed = true
answer_fits answers.Aborted = true

unfoldable pub answer_behind : ℕ → List ℕ → Read Answer
answer_behind t bytes =
    if t == 1 then arm answers.Ops op_answers bytes
    else if t == 2 then arm answers.Values values bytes
    else if t == 3 then arm (λ _. answers.Committed) nothing bytes
    else if t == 4 then arm (λ _. answers.Aborted) nothing bytes
    else bad 0 Range

unfoldable pub answer : Codec Answer
answer = tagged (from_to 1 4) spell_answer answer_fits answer_behind
