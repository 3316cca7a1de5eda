-- What is told of a replica and of the coordinator where a step changed them.
use Rattle.std.specs.Prelude.{ℕ, ◌==◌, List, [], ◌∷◌, ◌++◌, bytes_eq, codes, if◌then◌else◌}
use Rattle.eris_event.specs.declared.report.ReplicaLine.{ReplicaLine}
use Rattle.eris_grammar.specs.Fields.{dotted_word}
use Rattle.eris_report.specs.ReplicaText.{state_word}
use Rattle.eris_words.specs.Decimal.{decimal}
use Rattle.eris_words.specs.Words.{spaced}
use Rattle.eris_trace.specs.declared.standing.Standing.{Standing}

-- `NAME OLD to NEW`, where they differ
abbrev pub count_change : List ℕ → ℕ → ℕ → List (List ℕ)
count_change name old new = if old == new then [] else name ∷ decimal old ∷ codes "to" ∷ decimal new ∷ []

-- `OLD to NEW`, where a replica does another thing than before
abbrev pub state_change : List ℕ → List ℕ → List (List ℕ)
state_change old new = if bytes_eq old new then [] else old ∷ codes "to" ∷ new ∷ []

unfoldable pub replica_change : ReplicaLine → ReplicaLine → List (List ℕ)
replica_change old new =
    state_change (state_word old.state) (state_word new.state) ++ count_change (codes "epoch") old.epoch.0 new.epoch.0
    ++ count_change (codes "view") old.view.0 new.view.0 ++ count_change (codes "held") old.held new.held
    ++ count_change (codes "length") old.length new.length ++ count_change (codes "settled") old.settled new.settled

unfoldable pub coordinator_change : Standing → Standing → List (List ℕ)
coordinator_change old new =
    count_change (codes "epoch") old.current.0 new.current.0 ++ count_change (codes "target") old.target.0 new.target.0
    ++ count_change (codes "found") old.found new.found ++ count_change (codes "dropped") old.dropped new.dropped

-- a line of what changed at a node, where something did
abbrev pub changed_line : List ℕ → List ℕ → List ℕ
changed_line node [] = []
changed_line node (byte ∷ bytes) = codes "    " ++ node ++ (byte ∷ bytes) ++ 10 ∷ []

-- `rep S.R ..`
abbrev pub replica_name : ReplicaLine → List ℕ
replica_name one = codes "rep " ++ dotted_word (one.shard.0, one.replica.0)

unfoldable pub replica_changes : ReplicaLine → ReplicaLine → List ℕ
replica_changes old new = changed_line (replica_name old) (spaced (replica_change old new))

-- lines of the same replicas, in the same order
abbrev pub all_replica_changes : List ReplicaLine → List ReplicaLine → List ℕ
all_replica_changes [] news = []
all_replica_changes (old ∷ olds) [] = []
all_replica_changes (old ∷ olds) (new ∷ news) = replica_changes old new ++ all_replica_changes olds news

unfoldable pub coordinator_changes : Standing → Standing → List ℕ
coordinator_changes old new = changed_line (codes "coord") (spaced (coordinator_change old new))

-- WHAT A STEP CHANGED at the replicas and the coordinator, in the words of a report
unfoldable pub changes_text : Standing → Standing → List ℕ
changes_text old new = all_replica_changes old.replicas new.replicas ++ coordinator_changes old new
