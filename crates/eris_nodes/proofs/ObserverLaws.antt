-- What is seen of all replicas: settled logs, packets that are held, and lines of a report.
use Rattle.std.proofs.Common.{◌≡◌, ◌<◌, ◌≤◌, ℕ, zero, suc, ◌+◌, ◌||◌, Bool, List, [], ◌∷◌, ◌++◌, length, map, get_or, take, Option, Some, refl, ap, sym, ◌∙◌, arith}
use Rattle.std.specs.Prelude.{slice_get, option_map}
use Rattle.std.specs.List.{list_any}
use Rattle.std.proofs.lemmas.Option.{slice_get-map, slice_get-get_or, slice_get_past}
use Rattle.std.proofs.lemmas.List.{append-nil, append_assoc, length-map, length-take, map-append, take_more}
use Rattle.eris_base.specs.declared.ids.Epoch.{Epoch}
use Rattle.eris_base.specs.declared.ids.ReplicaId.{ReplicaId}
use Rattle.eris_base.specs.declared.ids.ShardId.{ShardId}
use Rattle.eris_base.specs.ConfigLimits.{ConfigValue}
use Rattle.eris_txn.specs.declared.packet.Packet.{Packet}
use Rattle.eris_replica.specs.ReplicaValues.{ReplicaValue}
use Rattle.eris_rules.specs.Reports.{all_lines, replica_line, shard_lines}
use Rattle.eris_rules.specs.ReplicaStates.{ReplicaState}
use Rattle.eris_rules.specs.WorldOrders.{is_held_by, is_held_in}
use Rattle.eris_rules.specs.Worlds.{WorldState, in_row, replica_at}
use Rattle.eris_event.specs.declared.report.ReplicaLine.{ReplicaLine}
use Rattle.eris_nodes.specs.MemberRows.{MembersValue, states_of}
use Rattle.eris_nodes.specs.ReplicaRows.{AreRows, log_of, rows_of}

pub state_at : (members : List ReplicaValue) (i : ℕ) (one : ReplicaValue) → i < length members → one ≡ get_or members i one → Some one.state ≡ slice_get (states_of members) i
state_at members i one lt e =
    sym (slice_get-map (λ (one : ReplicaValue). one.state) members i ∙ ap (λ (o : Option ReplicaValue). option_map (λ (one : ReplicaValue). one.state) o) (slice_get-get_or members i one lt)
    ∙ ap (λ (z : ReplicaValue). Some z.state) (sym e))

pub row_states_at : (rows : List MembersValue) (shard : ShardId) (replica : ReplicaId) (row : MembersValue) → shard.0 < length rows → row ≡ get_or rows shard.0 row
    → slice_get row.states replica.0 ≡ replica_at (rows_of rows) shard replica
unfolding replica_at
row_states_at rows shard replica row lt e =
    sym (ap (λ (o : Option (List ReplicaState)). in_row o replica.0)
    (slice_get-map (λ (row : MembersValue). row.states) rows shard.0 ∙ ap (λ (o : Option MembersValue). option_map (λ (row : MembersValue). row.states) o) (slice_get-get_or rows shard.0 row lt)
    ∙ ap (λ (z : MembersValue). Some z.states) (sym e)))

pub no_log : (states : List ReplicaState) (i : ℕ) → length states ≤ i → [] ≡ log_of (slice_get states i)
no_log states i past = ap log_of (sym (slice_get_past states i past))

pub no_row_log : (rows : List (List ReplicaState)) (shard : ShardId) (replica : ReplicaId) → length rows ≤ shard.0 → [] ≡ log_of (replica_at rows shard replica)
unfolding replica_at
no_row_log rows shard replica past = ap (λ (o : Option (List ReplicaState)). log_of (in_row o replica.0)) (sym (slice_get_past rows shard.0 past))

pub any_state : (test : ReplicaState → Bool) (members : List ReplicaValue) → list_any (λ one. test one.state) members ≡ list_any test (states_of members)
any_state test [] = refl
any_state test (one ∷ members) = ap (λ z. test one.state || z) (any_state test members)

any_states : (test : ReplicaState → Bool) (rows : List MembersValue) → list_any (λ row. list_any test row.states) rows ≡ list_any (λ row. list_any test row) (rows_of rows)
any_states test [] = refl
any_states test (row ∷ rows) = ap (λ z. list_any test row.states || z) (any_states test rows)

pub held_in : (epoch : Epoch) (packet : Packet) (rows : List MembersValue) → list_any (λ row. list_any (is_held_by epoch packet) row.states) rows ≡ is_held_in epoch (rows_of rows) packet
unfolding is_held_in
held_in epoch packet rows = any_states (is_held_by epoch packet) rows

shard_lines-append : (world : WorldState) (shard : ShardId) (n : ℕ) (states : List ReplicaState) (state : ReplicaState)
    → shard_lines world shard n (states ++ state ∷ []) ≡ shard_lines world shard n states ++ replica_line world shard (record { 0 = n + length states }) state ∷ []
unfolding shard_lines
shard_lines-append world shard n [] state = ap (λ (m : ℕ). replica_line world shard (record { 0 = m }) state ∷ []) (omega arith)
shard_lines-append world shard n (first ∷ states) state =
    ap (λ (lines : List ReplicaLine). replica_line world shard (record { 0 = n }) first ∷ lines)
    (shard_lines-append world shard (n + 1) states state ∙ ap (λ (m : ℕ). shard_lines world shard (n + 1) states ++ replica_line world shard (record { 0 = m }) state ∷ []) (omega arith))

pub shard_lines-more : (world : WorldState) (shard : ShardId) (members : List ReplicaValue) (i : ℕ) (one : ReplicaValue) → i < length members → one ≡ get_or members i one
    → shard_lines world shard 0 (states_of (take (i + 1) members)) ≡ shard_lines world shard 0 (states_of (take i members)) ++ replica_line world shard (record { 0 = i }) one.state ∷ []
shard_lines-more world shard members i one lt e =
    ap (λ (z : List ReplicaValue). shard_lines world shard 0 (states_of z)) (take_more members i one lt ∙ ap (λ (o : ReplicaValue). take i members ++ o ∷ []) (sym e))
    ∙ ap (shard_lines world shard 0) (map-append (λ (one : ReplicaValue). one.state) (take i members) (one ∷ []))
    ∙ shard_lines-append world shard 0 (states_of (take i members)) one.state
    ∙ ap (λ (m : ℕ). shard_lines world shard 0 (states_of (take i members)) ++ replica_line world shard (record { 0 = m }) one.state ∷ [])
    (omega (arith, lt, length-map (take i members) (λ (one : ReplicaValue). one.state), length-take i members))

pub no_lines : (world : WorldState) (shard : ShardId) (before : List ReplicaLine) → before ≡ before ++ shard_lines world shard 0 []
unfolding shard_lines
no_lines world shard before = sym (append-nil before)

-- the lines so far and that of one more
pub lines-more : (world : WorldState) (shard : ShardId) (members : List ReplicaValue) (i : ℕ) (one : ReplicaValue) (before lines next : List ReplicaLine) (line : ReplicaLine) → i < length members → one ≡ get_or members i one
    → lines ≡ before ++ shard_lines world shard 0 (states_of (take i members)) → next ≡ lines ++ line ∷ [] → line ≡ replica_line world shard (record { 0 = i }) one.state
    → next ≡ before ++ shard_lines world shard 0 (states_of (take (i + 1) members))
lines-more world shard members i one before lines next line lt e so_far added told =
    added
    ∙ ap (λ (l : ReplicaLine). lines ++ l ∷ []) told
    ∙ ap (λ (l : List ReplicaLine). l ++ replica_line world shard (record { 0 = i }) one.state ∷ []) so_far
    ∙ append_assoc before (shard_lines world shard 0 (states_of (take i members))) (replica_line world shard (record { 0 = i }) one.state ∷ [])
    ∙ ap (λ (l : List ReplicaLine). before ++ l) (sym (shard_lines-more world shard members i one lt e))

-- ---- and those of all shards
all_lines-append : (world : WorldState) (n : ℕ) (rows : List (List ReplicaState)) (row : List ReplicaState)
    → all_lines world n (rows ++ row ∷ []) ≡ all_lines world n rows ++ shard_lines world (record { 0 = n + length rows }) 0 row
unfolding all_lines
all_lines-append world n [] row =
    append-nil (shard_lines world (record { 0 = n }) 0 row) ∙ ap (λ (m : ℕ). shard_lines world (record { 0 = m }) 0 row) (omega arith)
all_lines-append world n (first ∷ rows) row =
    ap (λ (lines : List ReplicaLine). shard_lines world (record { 0 = n }) 0 first ++ lines)
    (all_lines-append world (n + 1) rows row ∙ ap (λ (m : ℕ). all_lines world (n + 1) rows ++ shard_lines world (record { 0 = m }) 0 row) (omega arith))
    ∙ sym (append_assoc (shard_lines world (record { 0 = n }) 0 first) (all_lines world (n + 1) rows) (shard_lines world (record { 0 = n + suc (length rows) }) 0 row))

AreRows-shard : (config : ConfigValue) (from : ℕ) (rows : List MembersValue) → AreRows config from rows → (i : ℕ) (d : MembersValue) → i < length rows → (get_or rows i d).shard ≡ record { 0 = from + i }
AreRows-shard config from [] h i d lt = absurd (omega (arith, lt))
AreRows-shard config from (row ∷ rows) h zero d lt = h.0.shard ∙ ap (λ (n : ℕ). record { 0 = n }) (omega arith)
AreRows-shard config from (row ∷ rows) h (suc i) d lt = AreRows-shard config (from + 1) rows h.1 i d (omega (arith, lt)) ∙ ap (λ (n : ℕ). record { 0 = n }) (omega arith)

pub no_row_lines : (world : WorldState) → [] ≡ all_lines world 0 []
unfolding all_lines
no_row_lines world = refl

-- the lines so far and those of one more row
pub row_lines-more : (world : WorldState) (config : ConfigValue) (rows : List MembersValue) → AreRows config 0 rows → (i : ℕ) (row : MembersValue) (lines next : List ReplicaLine) → i < length rows → row ≡ get_or rows i row
    → lines ≡ all_lines world 0 (rows_of (take i rows)) → next ≡ lines ++ shard_lines world row.shard 0 row.states
    → next ≡ all_lines world 0 (rows_of (take (i + 1) rows))
row_lines-more world config rows h i row lines next lt e so_far added =
    let at : row.shard ≡ record { 0 = i } = ap (λ (r : MembersValue). r.shard) e ∙ AreRows-shard config 0 rows h i row lt ∙ ap (λ (n : ℕ). record { 0 = n }) (omega arith) in
    added
    ∙ ap (λ (l : List ReplicaLine). l ++ shard_lines world row.shard 0 row.states) so_far
    ∙ ap (λ (s : ShardId). all_lines world 0 (rows_of (take i rows)) ++ shard_lines world s 0 row.states) at
    ∙ ap (λ (m : ℕ). all_lines world 0 (rows_of (take i rows)) ++ shard_lines world (record { 0 = m }) 0 row.states)
    (omega (arith, lt, length-map (take i rows) (λ (one : MembersValue). one.states), length-take i rows))
    ∙ sym (all_lines-append world 0 (rows_of (take i rows)) row.states)
    ∙ ap (all_lines world 0) (sym (map-append (λ (one : MembersValue). one.states) (take i rows) (row ∷ [])))
    ∙ ap (λ (z : List MembersValue). all_lines world 0 (rows_of z)) (sym (take_more rows i row lt ∙ ap (λ (o : MembersValue). take i rows ++ o ∷ []) (sym e)))
