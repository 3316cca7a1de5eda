-- What a line behind a script's header says.
use Rattle.std.specs.Prelude.{ℕ, Option, Some, None, Result, Ok, List, [], ◌∷◌, if◌then◌else◌}
use Rattle.eris_base.specs.declared.ids.Epoch.{Epoch}
use Rattle.eris_base.specs.declared.ids.Node.{Node}
use Rattle.eris_base.specs.declared.ids.Node.TheVariants as node
use Rattle.eris_base.specs.declared.ids.ReplicaId.{ReplicaId}
use Rattle.eris_base.specs.declared.ids.ShardId.{ShardId}
use Rattle.eris_event.specs.declared.event.Event.{Event}
use Rattle.eris_event.specs.declared.event.Event.TheVariants as event
use Rattle.eris_grammar.specs.declared.fixed_words.LineWord.{LineWord}
use Rattle.eris_grammar.specs.declared.fixed_words.LineWord.TheVariants as w
use Rattle.eris_grammar.specs.declared.fixed_words.NodeWord.{NodeWord}
use Rattle.eris_grammar.specs.declared.fixed_words.NodeWord.TheVariants as n
use Rattle.eris_grammar.specs.declared.line.Line.{Line}
use Rattle.eris_grammar.specs.declared.line.Line.TheVariants as line
use Rattle.eris_words.specs.declared.reason.Reason.{Reason}
use Rattle.eris_words.specs.Cuts.{is_skipped, words}
use Rattle.eris_grammar.specs.EventText.{node_words}
use Rattle.eris_grammar.specs.Fields.{client, count, hex, replica, txn}
use Rattle.eris_grammar.specs.FixedWords.{line_word, node_word}
use Rattle.eris_words.specs.Forms.{Form, Read, ◌>>=◌, arm, ended, led, named, pair, whole}
use Rattle.eris_grammar.specs.OpForms.{ops_of}
use Rattle.eris_grammar.specs.PlanForms.{plan_of}
use Rattle.eris_event.specs.EventRanges.{fits_node}

-- NODES AND EPOCHS

-- `seq`, `coord`, `rep` and a replica, `cli C`
unfoldable pub node_behind : ℕ → NodeWord → List (List ℕ) → Read Node
node_behind version n.Sequencer words = Ok (node.Sequencer, words)
node_behind version n.Coordinator words = Ok (node.Coordinator, words)
node_behind version n.Replica words = arm (λ r. node.Replica r.0 r.1) (replica version) words
node_behind version n.Client words = arm node.Client client words

unfoldable pub node_form : ℕ → Form Node
node_form version = led node_word (node_behind version) (node_words version) (fits_node)

unfoldable pub epoch : Form Epoch
epoch = named (λ n. record { 0 = n }) (λ e. e.0) count

-- an epoch, or nothing, to the end of the line
abbrev pub epoch_of : List (List ℕ) → Result (Option Epoch) Reason
epoch_of [] = Ok None
epoch_of (word ∷ words) = whole epoch (word ∷ words) >>= λ e. Ok (Some e)

-- LINES

unfoldable pub submit_of : ℕ → List (List ℕ) → Result Event Reason
submit_of version words = client.read words >>= λ c. ops_of version c.1 >>= λ ops. Ok (event.Submit c.0 ops)

unfoldable pub general_of : ℕ → List (List ℕ) → Result Event Reason
general_of version words = client.read words >>= λ c. plan_of version c.1 >>= λ plan. Ok (event.General c.0 plan)

unfoldable pub retry_of : ℕ → List (List ℕ) → Result Event Reason
retry_of version words = whole (txn version) words >>= λ id. Ok (event.Retry id.client id.number)

unfoldable pub abort_of : ℕ → List (List ℕ) → Result Event Reason
abort_of version words = whole (pair client (txn version)) words >>= λ asked. Ok (event.Abort asked.0 asked.1)

unfoldable pub deliver_of : List (List ℕ) → Result Event Reason
deliver_of words = count.read words >>= λ packet. epoch_of packet.1 >>= λ e. Ok (event.Deliver packet.0 e)

-- a replica's timer, or its end
abbrev pub at_replica : (ShardId → ReplicaId → Event) → ℕ → List (List ℕ) → Result Event Reason
at_replica made version words = whole (replica version) words >>= λ r. Ok (made r.0 r.1)

unfoldable pub noise_of : ℕ → List (List ℕ) → Result Event Reason
noise_of version words = whole (pair (node_form version) hex) words >>= λ noise. Ok (event.Noise noise.0 noise.1)

abbrev pub one : Result Event Reason → Result Line Reason
one read = read >>= λ e. Ok (line.One e)

-- what a line says behind its first word
unfoldable pub line_behind : ℕ → LineWord → List (List ℕ) → Result Line Reason
line_behind version w.Submit words = one (submit_of version words)
line_behind version w.General words = one (general_of version words)
line_behind version w.Retry words = one (retry_of version words)
line_behind version w.Abort words = one (abort_of version words)
line_behind version w.Deliver words = one (deliver_of words)
line_behind version w.Flow words = whole count words >>= λ n. Ok (line.Flow n)
line_behind version w.Lose words = whole count words >>= λ n. Ok (line.Lose n)
line_behind version w.Probe words = one (at_replica event.Probe version words)
line_behind version w.Suspect words = one (at_replica event.Suspect version words)
line_behind version w.Sync words = one (at_replica event.Sync version words)
line_behind version w.Crash words = one (at_replica event.Crash version words)
line_behind version w.Nudge words = one (ended (event.Nudge, words))
line_behind version w.Replace words = one (ended (event.Replace, words))
line_behind version w.Noise words = one (noise_of version words)

unfoldable pub said_by : ℕ → List (List ℕ) → Result Line Reason
said_by version words = line_word.read words >>= λ asked. line_behind version asked.0 asked.1

-- what a line says; else what is wrong with the first word that doesn't fit, or with the transaction that its words make
unfoldable pub line_of : ℕ → List ℕ → Result Line Reason
line_of version text = if is_skipped text then Ok line.Skip else said_by version (words text)

-- the line of an event
abbrev pub line_saying : Event → Line
line_saying event.Flow = line.Flow 1
line_saying event.Lose = line.Lose 1
line_saying (event.Submit c ops) = line.One (event.Submit c ops)
line_saying (event.General c plan) = line.One (event.General c plan)
line_saying (event.Retry c number) = line.One (event.Retry c number)
line_saying (event.Abort asker id) = line.One (event.Abort asker id)
line_saying (event.Deliver packet e) = line.One (event.Deliver packet e)
line_saying (event.Probe s r) = line.One (event.Probe s r)
line_saying (event.Suspect s r) = line.One (event.Suspect s r)
line_saying (event.Sync s r) = line.One (event.Sync s r)
line_saying (event.Crash s r) = line.One (event.Crash s r)
line_saying event.Nudge = line.One event.Nudge
line_saying event.Replace = line.One event.Replace
line_saying (event.Noise to bytes) = line.One (event.Noise to bytes)
