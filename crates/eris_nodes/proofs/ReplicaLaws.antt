-- The replicas of all shards: how they are made, and what a step of one of them changes.
use Rattle.std.proofs.Common.{◌≡◌, ◌<◌, ◌≤◌, ◌||◌, ℕ, zero, suc, ◌+◌, Bool, true, false, List, [], ◌∷◌, ◌++◌, length, map, get_or, Option, Some, None, Result, Ok, Err, refl, ap, sym, subst, ◌∙◌, arith}
use Rattle.std.specs.Prelude.{slice_get, slice_set, option_map, IfOk, OnErr, OnOk}
use Rattle.std.specs.List.{range_with_len}
use Rattle.std.proofs.lemmas.Option.{slice_get-map, slice_get-get_or, slice_get_past}
use Rattle.std.proofs.lemmas.List.{map-append}
use Rattle.std.proofs.lemmas.List.FromFn.{map-range_with_len_more}
use Rattle.eris_base.specs.declared.ids.ReplicaId.{ReplicaId}
use Rattle.eris_base.specs.declared.ids.ShardId.{ShardId}
use Rattle.eris_base.specs.ConfigLimits.{ConfigValue}
use Rattle.eris_msg.specs.declared.outgoing.Outgoing.{Outgoing}
use Rattle.eris_rules.specs.declared.replica_input.ReplicaInput.{ReplicaInput}
use Rattle.eris_rules.specs.Replicas.{replica_step}
use Rattle.eris_rules.specs.ReplicaStates.{ReplicaState, ReplicaOut}
use Rattle.eris_rules.specs.Worlds.{first_replicas, in_row, replica_at, with_in_row, with_replica}
use Rattle.eris_nodes.specs.MemberRows.{MembersOut, MembersValue, identity, members_step, one_steps}
use Rattle.eris_nodes.specs.ReplicaRows.{AreRows, IsRow, ReplicasOut, ReplicasValue, any_spent, one_of_all_steps, replicas_step, row_of_shard, rows_of}
use Rattle.eris_nodes.proofs.AnyLaws.{any_set}

AreRows-more : (config : ConfigValue) (from : ℕ) (rows : List MembersValue) (row : MembersValue) → AreRows config from rows → IsRow config (from + length rows) row → AreRows config from (rows ++ row ∷ [])
AreRows-more config from [] row h k = (subst (λ n. IsRow config n row) (omega arith) k, tt)
AreRows-more config from (first ∷ rows) row h k = (h.0, AreRows-more config (from + 1) rows row h.1 (subst (λ n. IsRow config n row) (omega arith) k))

AreRows-at : (config : ConfigValue) (from : ℕ) (rows : List MembersValue) → AreRows config from rows → (i : ℕ) (d : MembersValue) → i < length rows → IsRow config (from + i) (get_or rows i d)
AreRows-at config from [] h i d lt = absurd (omega (arith, lt))
AreRows-at config from (row ∷ rows) h zero d lt = subst (λ n. IsRow config n row) (omega arith) h.0
AreRows-at config from (row ∷ rows) h (suc i) d lt = subst (λ n. IsRow config n (get_or rows i d)) (omega arith) (AreRows-at config (from + 1) rows h.1 i d (omega (arith, lt)))

pub AreRows-set : (config : ConfigValue) (from : ℕ) (rows : List MembersValue) → AreRows config from rows → (i : ℕ) (next : MembersValue) → IsRow config (from + i) next → AreRows config from (slice_set rows i next)
AreRows-set config from [] h i next k = h
AreRows-set config from (row ∷ rows) h zero next k = (subst (λ n. IsRow config n next) (omega arith) k, h.1)
AreRows-set config from (row ∷ rows) h (suc i) next k = (h.0, AreRows-set config (from + 1) rows h.1 i next (subst (λ n. IsRow config n next) (omega arith) k))

pub row_at : (config : ConfigValue) (rows : List MembersValue) (i : ℕ) (row : MembersValue) → AreRows config 0 rows → i < length rows → row ≡ get_or rows i row → IsRow config i row
row_at config rows i row h lt e =
    subst (λ (z : MembersValue). IsRow config i z) (sym e) (subst (λ n. IsRow config n (get_or rows i row)) (omega arith) (AreRows-at config 0 rows h i row lt))

pub is_row_after : (config : ConfigValue) (i : ℕ) (row next : MembersValue) → IsRow config i row → next ≡ record row { states = next.states } → IsRow config i next
is_row_after config i row next h e =
    record {
      system = ap (λ (z : MembersValue). z.config) e ∙ h.system;
      shard = ap (λ (z : MembersValue). z.shard) e ∙ h.shard;
      unspent = ap (λ (z : MembersValue). z.spent) e ∙ h.unspent;
    }

rows_of-set : (rows : List MembersValue) (i : ℕ) (next : MembersValue) → rows_of (slice_set rows i next) ≡ slice_set (rows_of rows) i next.states
rows_of-set [] i next = refl
rows_of-set (row ∷ rows) zero next = refl
rows_of-set (row ∷ rows) (suc i) next = ap (λ (states : List (List ReplicaState)). row.states ∷ states) (rows_of-set rows i next)

-- where the states of a shard's replicas stay, all do
pub rows_stay : (rows : List MembersValue) (i : ℕ) (row next : MembersValue) → row ≡ get_or rows i row → next.states ≡ row.states → rows_of (slice_set rows i next) ≡ rows_of rows
rows_stay [] i row next e k = refl
rows_stay (first ∷ rows) zero row next e k = ap (λ (states : List ReplicaState). states ∷ rows_of rows) (k ∙ ap (λ (z : MembersValue). z.states) e)
rows_stay (first ∷ rows) (suc i) row next e k = ap (λ (states : List (List ReplicaState)). first.states ∷ states) (rows_stay rows i row next e k)

pub rows_noise : {E : Type 0} (r : Result (List Outgoing) E) (rows : List MembersValue) (i : ℕ) (row next : MembersValue) (states : List (List ReplicaState)) → row ≡ get_or rows i row
    → rows_of rows ≡ states → IfOk r (λ sends. (sends ≡ []) × (next.states ≡ row.states)) → IfOk r (λ sends. (sends ≡ []) × (rows_of (slice_set rows i next) ≡ states))
rows_noise (Ok sends) rows i row next states e view h = (h.0, rows_stay rows i row next e h.1 ∙ view)
rows_noise (Err fault) rows i row next states e view h = tt

set_same : (rows : List (List ReplicaState)) (i : ℕ) (states : List ReplicaState) → slice_get rows i ≡ Some states → slice_set rows i states ≡ rows
set_same [] i states h = refl
set_same (row ∷ rows) zero states h = let same : row ≡ states = cc in ap (λ (z : List ReplicaState). z ∷ rows) (sym same)
set_same (row ∷ rows) (suc i) states h = ap (λ (z : List (List ReplicaState)). row ∷ z) (set_same rows i states h)

-- a step in a shard is one of the replicas of all shards
in_shard : (config : ConfigValue) (rows : List (List ReplicaState)) (shard : ShardId) (replica : ReplicaId) (input : ReplicaInput) (states next : List ReplicaState) (sends : List Outgoing) (o : Option ReplicaState)
    → slice_get rows shard.0 ≡ Some states
    → ◌≡◌ {A = MembersOut} (record { states = next; sends = sends }) (one_steps (record { config = config; shard = shard; replica = replica }) states input o)
    → ◌≡◌ {A = ReplicasOut} (record { rows = slice_set rows shard.0 next; sends = sends }) (one_of_all_steps config rows shard replica input o)
unfolding with_replica
in_shard config rows shard replica input states next sends None found e =
    ap (λ (out : MembersOut). let made : ReplicasOut = record { rows = slice_set rows shard.0 out.states; sends = out.sends } in made) e
    ∙ ap (λ (z : List (List ReplicaState)). let made : ReplicasOut = record { rows = z; sends = [] } in made) (set_same rows shard.0 states found)
in_shard config rows shard replica input states next sends (Some state) found e =
    let out : ReplicaOut = replica_step (record { config = config; shard = shard; replica = replica }) state input in
    ap (λ (out : MembersOut). let made : ReplicasOut = record { rows = slice_set rows shard.0 out.states; sends = out.sends } in made) e
    ∙ ap (λ (o : Option (List ReplicaState)). let made : ReplicasOut = record { rows = with_in_row rows shard.0 o replica.0 out.state; sends = out.sends } in made) (sym found)

pub replicas_step-at : (config : ConfigValue) (rows : List MembersValue) (shard : ShardId) (replica : ReplicaId) (row next : MembersValue) (sends : List Outgoing) (input : ReplicaInput)
    → AreRows config 0 rows → shard.0 < length rows → row ≡ get_or rows shard.0 row
    → ◌≡◌ {A = MembersOut} (record { states = next.states; sends = sends }) (members_step (identity row.config row.shard replica.0) row.states input)
    → ◌≡◌ {A = ReplicasOut} (record { rows = rows_of (slice_set rows shard.0 next); sends = sends }) (replicas_step config (rows_of rows) shard replica input)
unfolding members_step replicas_step replica_at
replicas_step-at config rows shard replica row next sends input h lt e step =
    let is : IsRow config shard.0 row = row_at config rows shard.0 row h lt e in
    let found : slice_get (rows_of rows) shard.0 ≡ Some row.states =
    slice_get-map (λ (row : MembersValue). row.states) rows shard.0 ∙ ap (λ (o : Option MembersValue). option_map (λ (row : MembersValue). row.states) o) (slice_get-get_or rows shard.0 row lt)
    ∙ ap (λ (z : MembersValue). Some z.states) (sym e) in
    let made : ◌≡◌ {A = MembersOut} (record { states = next.states; sends = sends }) (one_steps (identity config shard replica.0) row.states input (slice_get row.states replica.0)) =
    step ∙ ap (λ (z : ConfigValue). one_steps (identity z row.shard replica.0) row.states input (slice_get row.states replica.0)) is.system
    ∙ ap (λ (z : ShardId). one_steps (identity config z replica.0) row.states input (slice_get row.states replica.0)) is.shard in
    ap (λ (z : List (List ReplicaState)). let out : ReplicasOut = record { rows = z; sends = sends } in out) (rows_of-set rows shard.0 next)
    ∙ in_shard config (rows_of rows) shard replica input row.states next.states sends (slice_get row.states replica.0) found made
    ∙ ap (λ (o : Option (List ReplicaState)). one_of_all_steps config (rows_of rows) shard replica input (in_row o replica.0)) (sym found)

pub replicas_step-past : (config : ConfigValue) (rows : List (List ReplicaState)) (shard : ShardId) (replica : ReplicaId) (input : ReplicaInput) → length rows ≤ shard.0
    → ◌≡◌ {A = ReplicasOut} (record { rows = rows; sends = [] }) (replicas_step config rows shard replica input)
unfolding replicas_step replica_at
replicas_step-past config rows shard replica input past =
    ap (λ (o : Option (List ReplicaState)). one_of_all_steps config rows shard replica input (in_row o replica.0)) (sym (slice_get_past rows shard.0 past))

-- ---- at their start
pub first_rows-more : (config : ConfigValue) (rows items : List MembersValue) (row : MembersValue) (n : ℕ) → items ≡ rows ++ row ∷ [] → rows_of rows ≡ map (row_of_shard config) (range_with_len 0 n)
    → row ≡ record { config = config; shard = record { 0 = n }; states = first_replicas config (record { 0 = n }); spent = false } → rows_of items ≡ map (row_of_shard config) (range_with_len 0 (n + 1))
first_rows-more config rows items row n e h k =
    ap rows_of e ∙ map-append (λ (row : MembersValue). row.states) rows (row ∷ [])
    ∙ ap (λ (z : List (List ReplicaState)). z ++ row.states ∷ []) h
    ∙ ap (λ (z : MembersValue). map (row_of_shard config) (range_with_len 0 n) ++ z.states ∷ []) k
    ∙ sym (map-range_with_len_more (row_of_shard config) 0 n n (omega arith))

pub are_rows-more : (config : ConfigValue) (rows items : List MembersValue) (row : MembersValue) (n : ℕ) → items ≡ rows ++ row ∷ [] → length rows ≡ n → AreRows config 0 rows
    → row ≡ record { config = config; shard = record { 0 = n }; states = first_replicas config (record { 0 = n }); spent = false } → AreRows config 0 items
are_rows-more config rows items row n e len h k =
    let is : IsRow config (0 + length rows) row =
    record {
      system = ap (λ (z : MembersValue). z.config) k;
      shard = ap (λ (z : MembersValue). z.shard) k ∙ ap (λ (z : ℕ). let made : ShardId = record { 0 = z } in made) (omega (arith, len));
      unspent = ap (λ (z : MembersValue). z.spent) k;
    } in
    subst (λ (z : List MembersValue). AreRows config 0 z) (sym e) (AreRows-more config 0 rows row h is)

pub rows_set : (config : ConfigValue) (rows : List MembersValue) → AreRows config 0 rows → (i : ℕ) (next : MembersValue) → IsRow config i next → AreRows config 0 (slice_set rows i next)
rows_set config rows h i next k = AreRows-set config 0 rows h i next (subst (λ n. IsRow config n next) (omega arith) k)

-- ---- which are spent
pub none_spent : (config : ConfigValue) (from : ℕ) (rows : List MembersValue) → AreRows config from rows → any_spent rows ≡ false
none_spent config from [] h = refl
none_spent config from (row ∷ rows) h = ap (λ (z : Bool). z || any_spent rows) h.0.unspent ∙ none_spent config (from + 1) rows h.1

pub spent_after : (rows : List MembersValue) (i : ℕ) (next : MembersValue) → any_spent rows ≡ false → i < length rows → any_spent (slice_set rows i next) ≡ next.spent
spent_after rows i next none lt = any_set (λ (row : MembersValue). row.spent) rows i next none lt

-- a step in a shard leaves them as they are to be, or that shard's spent
pub rows_after : {T E : Type 0} (r : Result T E) (config : ConfigValue) (rows : List MembersValue) (i : ℕ) (row next : MembersValue)
    → AreRows config 0 rows → any_spent rows ≡ false → i < length rows → row ≡ get_or rows i row
    → OnOk r (next ≡ record row { states = next.states }) → OnErr r (next.spent ≡ true)
    → any_spent (slice_set rows i next) ≡ false → AreRows config 0 (slice_set rows i next)
rows_after (Ok done) config rows i row next h none lt e stays spent k =
    rows_set config rows h i next (is_row_after config i row next (row_at config rows i row h lt e) stays)
rows_after (Err fault) config rows i row next h none lt e stays spent k =
    let same : any_spent (slice_set rows i next) ≡ next.spent = spent_after rows i next none lt in
    absurd cc

-- what contracts see of them stays but for the states, unless that shard's are spent
pub value_after : (config : ConfigValue) (rows : List MembersValue) (old : ReplicasValue) (i : ℕ) (row next : MembersValue)
    → ◌≡◌ {A = ReplicasValue} (record { config = config; rows = rows_of rows; spent = any_spent rows }) old
    → AreRows config 0 rows → any_spent rows ≡ false → i < length rows → row ≡ get_or rows i row → next ≡ record row { states = next.states }
    → ◌≡◌ {A = ReplicasValue} (record { config = config; rows = rows_of (slice_set rows i next); spent = any_spent (slice_set rows i next) }) (record old { rows = rows_of (slice_set rows i next) })
value_after config rows old i row next view h none lt e stays =
    let same : any_spent (slice_set rows i next) ≡ any_spent rows =
    spent_after rows i next none lt ∙ (is_row_after config i row next (row_at config rows i row h lt e) stays).unspent ∙ sym none in
    ap (λ (z : Bool). let made : ReplicasValue = record { config = config; rows = rows_of (slice_set rows i next); spent = z } in made) same
    ∙ ap (λ (v : ReplicasValue). let made : ReplicasValue = record v { rows = rows_of (slice_set rows i next) } in made) view
