use Rattle.std.specs.Prelude.{ℕ, List, ◌∷◌, [], codes}
use Rattle.eris_event.specs.declared.report.ReplicaLine.{ReplicaLine}
use Rattle.eris_event.specs.declared.report.ReplicaState.{ReplicaState}
use Rattle.eris_event.specs.declared.report.ReplicaState.TheVariants.{Crashed, Stopped, Normal, Changing}
use Rattle.eris_words.specs.Decimal.{decimal}

-- what a replica is doing
abbrev pub state_word : ReplicaState → List ℕ
state_word Crashed = codes "crashed"
state_word Stopped = codes "stopped"
state_word Normal = codes "normal"
state_word Changing = codes "changing"

-- what it knows and how far it is: `epoch E view V held H length L settled M`
abbrev pub progress_words : ReplicaLine → List (List ℕ)
progress_words r =
    codes "epoch" ∷ decimal r.epoch.0 ∷ codes "view" ∷ decimal r.view.0 ∷ codes "held" ∷ decimal r.held
    ∷ codes "length" ∷ decimal r.length ∷ codes "settled" ∷ decimal r.settled ∷ []

-- `replica S R STATE`, and then its progress
abbrev pub replica_words : ReplicaLine → List (List ℕ)
replica_words r =
    codes "replica" ∷ decimal r.shard.0 ∷ decimal r.replica.0 ∷ state_word r.state ∷ progress_words r
