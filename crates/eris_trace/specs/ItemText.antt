-- How the items of a trace are written: a line of the script at the margin, a step under it, and what the step did under that.
use Rattle.std.specs.Prelude.{ℕ, Bool, List, [], ◌∷◌, ◌++◌, codes, if◌then◌else◌}
use Rattle.eris_base.specs.declared.ids.Node.{Node}
use Rattle.eris_base.specs.declared.config.Config.{Config}
use Rattle.eris_txn.specs.declared.history.HistoryEvent.{HistoryEvent}
use Rattle.eris_msg.specs.declared.message.Message.{Message}
use Rattle.eris_msg.specs.Spellings.{spelling}
use Rattle.eris_frame.specs.Frames.{frame}
use Rattle.eris_grammar.specs.EventText.{node_words}
use Rattle.eris_grammar.specs.Fields.{hex_word}
use Rattle.eris_report.specs.HistoryText.{event_words}
use Rattle.eris_report.specs.ReportText.{config_words}
use Rattle.eris_words.specs.Decimal.{decimal}
use Rattle.eris_words.specs.Words.{line}
use Rattle.eris_trace.specs.declared.action.Action.{Action}
use Rattle.eris_trace.specs.declared.action.Action.TheVariants.{Delivers, Loses, Calls, Nothing}
use Rattle.eris_trace.specs.ChangeText.{changes_text}
use Rattle.eris_trace.specs.Items.{Item}
use Rattle.eris_trace.specs.Items as items
use Rattle.eris_trace.specs.MessageText.{message_words}

-- `eris trace 1`, and the sizes of the system
unfoldable pub head_text : Config → List ℕ
head_text config = line (codes "eris" ∷ codes "trace" ∷ codes "1" ∷ []) ++ line (config_words config)

-- `line L` and the line's words as they are spelled
unfoldable pub said_text : ℕ → List ℕ → List ℕ
said_text number text = line (codes "line" ∷ decimal number ∷ text ∷ [])

-- a packet, and the node that it goes to
abbrev pub packet_words : ℕ → Node → List (List ℕ)
packet_words number node = decimal number ∷ codes "to" ∷ node_words 2 node

-- `deliver P to NODE`, `lose P to NODE`, `at NODE`
abbrev pub action_words : Action → List (List ℕ)
action_words (Delivers number node) = codes "deliver" ∷ packet_words number node
action_words (Loses number node) = codes "lose" ∷ packet_words number node
action_words (Calls node) = codes "at" ∷ node_words 2 node
action_words Nothing = codes "nothing" ∷ []

-- `step N ..`
unfoldable pub step_text : ℕ → Action → List ℕ
step_text number action = codes "  " ++ line (codes "step" ∷ decimal number ∷ action_words action)

-- `NODE to NODE`
unfoldable pub route_words : Node → Node → List (List ℕ)
route_words from to = node_words 2 from ++ codes "to" ∷ node_words 2 to

-- `sent P NODE to NODE KIND FIELDS`
unfoldable pub sent_text : ℕ → Node → Node → Message → List ℕ
sent_text number from to message =
    codes "    " ++ line (codes "sent" ∷ decimal number ∷ route_words from to ++ message_words message)

-- `frame H`
unfoldable pub frame_text : List ℕ → List ℕ
frame_text bytes = codes "      frame " ++ hex_word bytes ++ 10 ∷ []

-- a line of a report's history
abbrev pub happened_text : HistoryEvent → List ℕ
happened_text event = codes "    " ++ line (event_words event)

-- `waits P to NODE`
unfoldable pub waiting_text : ℕ → Node → List ℕ
waiting_text number node = line (codes "waits" ∷ packet_words number node)

-- `lost P to NODE`
unfoldable pub lost_text : ℕ → Node → List ℕ
lost_text number node = line (codes "lost" ∷ packet_words number node)

unfoldable pub end_text : List ℕ
end_text = line (codes "end" ∷ [])

-- THE TEXT OF AN ITEM, of a packet with its frame or without
unfoldable pub item_text : Bool → Item → List ℕ
item_text frames (items.Said number text) = said_text number text
item_text frames (items.Stepped number action) = step_text number action
item_text frames (items.Sent number from one) =
    sent_text number from one.to one.message ++ (if frames then frame_text (frame (spelling one.message)) else [])
item_text frames (items.Happened event) = happened_text event
item_text frames (items.Changed old new) = changes_text old new
item_text frames (items.Waiting number node) = waiting_text number node
item_text frames (items.Lost number node) = lost_text number node
