use Rattle.std.specs.Prelude.{ℕ, List, ◌∷◌, map, codes}
use Rattle.eris_audit.specs.declared.order_line.OrderLine.{OrderLine}
use Rattle.eris_audit.specs.declared.outcome.Outcome.{Outcome}
use Rattle.eris_audit.specs.declared.outcome.Outcome.TheVariants.{Done, Committed, Aborted, Pending}
use Rattle.eris_words.specs.Decimal.{decimal}
use Rattle.eris_words.specs.Words.{id_word, place_word}

-- what became of a transaction; `open` is one that isn't decided yet
abbrev pub outcome_word : Outcome → List ℕ
outcome_word Done = codes "done"
outcome_word Committed = codes "committed"
outcome_word Aborted = codes "aborted"
outcome_word Pending = codes "open"

-- `order I OUTCOME E S:N S:N`
abbrev pub order_words : OrderLine → List (List ℕ)
order_words entry =
    codes "order" ∷ id_word entry.id ∷ outcome_word entry.outcome ∷ decimal entry.stamp.epoch.0
    ∷ map place_word entry.stamp.places
