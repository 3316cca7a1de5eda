-- The replicas of one shard: how they are made, and what a step of one of them changes.
use Rattle.std.proofs.Common.{◌≡◌, ◌<◌, ◌≤◌, ◌||◌, ℕ, zero, suc, ◌+◌, Bool, true, false, List, [], ◌∷◌, ◌++◌, length, replicate, get_or, Option, Some, Result, Ok, Err, refl, ap, sym, subst, ◌∙◌, arith, add-one}
use Rattle.std.specs.Prelude.{slice_get, slice_set, option_map, IfOk, OnErr, OnOk}
use Rattle.std.proofs.lemmas.Option.{slice_get-map, slice_get-get_or, slice_get_past}
use Rattle.std.proofs.lemmas.List.{map-append}
use Rattle.eris_base.specs.declared.ids.ShardId.{ShardId}
use Rattle.eris_base.specs.ConfigLimits.{ConfigValue}
use Rattle.eris_msg.specs.declared.outgoing.Outgoing.{Outgoing}
use Rattle.eris_replica.specs.ReplicaValues.{ReplicaValue}
use Rattle.eris_rules.specs.declared.replica_input.ReplicaInput.{ReplicaInput}
use Rattle.eris_rules.specs.Replicas.{replica_step}
use Rattle.eris_rules.specs.ReplicaStates.{Identity, ReplicaState, ReplicaOut, first_state}
use Rattle.eris_nodes.specs.MemberRows.{MembersOut, MembersValue, AreMembers, IsMember, after_one, any_spent, identity, members_step, one_steps, states_of}
use Rattle.eris_nodes.proofs.AnyLaws.{any_set}

pub replicate-more : {X : Type 0} (n : ℕ) (x : X) → replicate (suc n) x ≡ replicate n x ++ x ∷ []
replicate-more zero x = refl
replicate-more (suc n) x = ap (λ (xs : List _). x ∷ xs) (replicate-more n x)

pub AreMembers-more : (config : ConfigValue) (shard : ShardId) (from : ℕ) (members : List ReplicaValue) (one : ReplicaValue)
    → AreMembers config shard from members → IsMember config shard (from + length members) one → AreMembers config shard from (members ++ one ∷ [])
AreMembers-more config shard from [] one h k = (subst (λ n. IsMember config shard n one) (omega arith) k, tt)
AreMembers-more config shard from (first ∷ members) one h k =
    (h.0, AreMembers-more config shard (from + 1) members one h.1 (subst (λ n. IsMember config shard n one) (omega arith) k))

pub AreMembers-at : (config : ConfigValue) (shard : ShardId) (from : ℕ) (members : List ReplicaValue) → AreMembers config shard from members
    → (i : ℕ) (d : ReplicaValue) → i < length members → IsMember config shard (from + i) (get_or members i d)
AreMembers-at config shard from [] h i d lt = absurd (omega (arith, lt))
AreMembers-at config shard from (one ∷ members) h zero d lt = subst (λ n. IsMember config shard n one) (omega arith) h.0
AreMembers-at config shard from (one ∷ members) h (suc i) d lt =
    subst (λ n. IsMember config shard n (get_or members i d)) (omega arith) (AreMembers-at config shard (from + 1) members h.1 i d (omega (arith, lt)))

pub AreMembers-set : (config : ConfigValue) (shard : ShardId) (from : ℕ) (members : List ReplicaValue) → AreMembers config shard from members
    → (i : ℕ) (next : ReplicaValue) → IsMember config shard (from + i) next → AreMembers config shard from (slice_set members i next)
AreMembers-set config shard from [] h i next k = h
AreMembers-set config shard from (one ∷ members) h zero next k = (subst (λ n. IsMember config shard n next) (omega arith) k, h.1)
AreMembers-set config shard from (one ∷ members) h (suc i) next k =
    (h.0, AreMembers-set config shard (from + 1) members h.1 i next (subst (λ n. IsMember config shard n next) (omega arith) k))

pub states_of-set : (members : List ReplicaValue) (i : ℕ) (next : ReplicaValue) → states_of (slice_set members i next) ≡ slice_set (states_of members) i next.state
states_of-set [] i next = refl
states_of-set (one ∷ members) zero next = refl
states_of-set (one ∷ members) (suc i) next = ap (λ states. one.state ∷ states) (states_of-set members i next)

-- where a replica's state stays, all of them do
pub members_stay : (members : List ReplicaValue) (i : ℕ) (one next : ReplicaValue) → one ≡ get_or members i one → next.state ≡ one.state → states_of (slice_set members i next) ≡ states_of members
members_stay [] i one next e k = refl
members_stay (first ∷ members) zero one next e k = ap (λ state. state ∷ states_of members) (k ∙ ap (λ (z : ReplicaValue). z.state) e)
members_stay (first ∷ members) (suc i) one next e k = ap (λ states. first.state ∷ states) (members_stay members i one next e k)

pub members_noise : {E : Type 0} (r : Result (List Outgoing) E) (members : List ReplicaValue) (i : ℕ) (one next : ReplicaValue) (states : List ReplicaState) → one ≡ get_or members i one
    → states_of members ≡ states → IfOk r (λ sends. (sends ≡ []) × (next.state ≡ one.state)) → IfOk r (λ sends. (sends ≡ []) × (states_of (slice_set members i next) ≡ states))
members_noise (Ok sends) members i one next states e view h = (h.0, members_stay members i one next e h.1 ∙ view)
members_noise (Err fault) members i one next states e view h = tt

-- the member of an index is itself, and unspent
pub member_at : (config : ConfigValue) (shard : ShardId) (members : List ReplicaValue) (i : ℕ) (one : ReplicaValue) → AreMembers config shard 0 members
    → i < length members → one ≡ get_or members i one → IsMember config shard i one
member_at config shard members i one h lt e =
    subst (λ (z : ReplicaValue). IsMember config shard i z) (sym e) (subst (λ n. IsMember config shard n (get_or members i one)) (omega arith) (AreMembers-at config shard 0 members h i one lt))

pub members_step-at : (config : ConfigValue) (shard : ShardId) (members : List ReplicaValue) (i : ℕ) (one next : ReplicaValue) (sends : List Outgoing) (input : ReplicaInput)
    → AreMembers config shard 0 members → i < length members → one ≡ get_or members i one
    → ◌≡◌ {A = ReplicaOut} (record { state = next.state; sends = sends }) (replica_step one.me one.state input)
    → ◌≡◌ {A = MembersOut} (record { states = states_of (slice_set members i next); sends = sends }) (members_step (identity config shard i) (states_of members) input)
unfolding members_step
members_step-at config shard members i one next sends input h lt e step =
    let found : slice_get (states_of members) i ≡ Some one.state =
    slice_get-map (λ (one : ReplicaValue). one.state) members i ∙ ap (λ o. option_state o) (slice_get-get_or members i one lt ∙ ap some_value (sym e)) in
    let me : one.me ≡ identity config shard i = (member_at config shard members i one h lt e).me in
    let made : ◌≡◌ {A = ReplicaOut} (record { state = next.state; sends = sends }) (replica_step (identity config shard i) one.state input) =
    step ∙ ap (λ (z : Identity). replica_step z one.state input) me in
    ap (λ (states : List ReplicaState). let out : MembersOut = record { states = states; sends = sends } in out) (states_of-set members i next)
    ∙ ap (λ (out : ReplicaOut). after_one (states_of members) i out) made
    ∙ ap (λ (o : Option ReplicaState). one_steps (identity config shard i) (states_of members) input o) (sym found)
  where
    option_state : Option ReplicaValue → Option ReplicaState
    option_state o = option_map (λ (one : ReplicaValue). one.state) o

    some_value : ReplicaValue → Option ReplicaValue
    some_value one = Some one

pub members_step-past : (me : Identity) (states : List ReplicaState) (input : ReplicaInput) → length states ≤ me.replica.0
    → ◌≡◌ {A = MembersOut} (record { states = states; sends = [] }) (members_step me states input)
unfolding members_step
members_step-past me states input past =
    ap (λ (o : Option ReplicaState). one_steps me states input o) (sym (slice_get_past states me.replica.0 past))

pub is_member_after : (config : ConfigValue) (shard : ShardId) (i : ℕ) (one next : ReplicaValue) → IsMember config shard i one → next ≡ record one { state = next.state } → IsMember config shard i next
is_member_after config shard i one next h e = record { me = ap (λ (z : ReplicaValue). z.me) e ∙ h.me; unspent = ap (λ (z : ReplicaValue). z.spent) e ∙ h.unspent }

-- ---- at their start
pub first_states-more : (shard : ShardId) (members items : List ReplicaValue) (one : ReplicaValue) (n : ℕ) → items ≡ members ++ one ∷ [] → states_of members ≡ replicate n (first_state shard)
    → one.state ≡ first_state shard → states_of items ≡ replicate (n + 1) (first_state shard)
first_states-more shard members items one n e h k =
    ap states_of e ∙ map-append (λ (one : ReplicaValue). one.state) members (one ∷ [])
    ∙ ap (λ (states : List ReplicaState). states ++ one.state ∷ []) h ∙ ap (λ (state : ReplicaState). replicate n (first_state shard) ++ state ∷ []) k
    ∙ sym (rw add-one (replicate-more n (first_state shard)))

pub first_members-more : (config : ConfigValue) (shard : ShardId) (members items : List ReplicaValue) (one : ReplicaValue) (n : ℕ) → items ≡ members ++ one ∷ [] → length members ≡ n
    → AreMembers config shard 0 members → one ≡ record { me = identity config shard n; state = first_state shard; spent = false } → AreMembers config shard 0 items
first_members-more config shard members items one n e len h k =
    let is : IsMember config shard (0 + length members) one =
    record {
      me = ap (λ (z : ReplicaValue). z.me) k ∙ ap (identity config shard) (omega (arith, len));
      unspent = ap (λ (z : ReplicaValue). z.spent) k;
    } in
    subst (λ (z : List ReplicaValue). AreMembers config shard 0 z) (sym e) (AreMembers-more config shard 0 members one h is)

pub members_set : (config : ConfigValue) (shard : ShardId) (members : List ReplicaValue) → AreMembers config shard 0 members → (i : ℕ) (next : ReplicaValue)
    → IsMember config shard i next → AreMembers config shard 0 (slice_set members i next)
members_set config shard members h i next k = AreMembers-set config shard 0 members h i next (subst (λ n. IsMember config shard n next) (omega arith) k)

-- ---- which are spent
pub none_spent : (config : ConfigValue) (shard : ShardId) (from : ℕ) (members : List ReplicaValue) → AreMembers config shard from members → any_spent members ≡ false
none_spent config shard from [] h = refl
none_spent config shard from (one ∷ members) h = ap (λ (z : Bool). z || any_spent members) h.0.unspent ∙ none_spent config shard (from + 1) members h.1

pub spent_after : (members : List ReplicaValue) (i : ℕ) (next : ReplicaValue) → any_spent members ≡ false → i < length members → any_spent (slice_set members i next) ≡ next.spent
spent_after members i next none lt = any_set (λ (one : ReplicaValue). one.spent) members i next none lt

-- a step of one leaves them as they are to be, or that one spent
pub members_after : {T E : Type 0} (r : Result T E) (config : ConfigValue) (shard : ShardId) (members : List ReplicaValue) (i : ℕ) (one next : ReplicaValue)
    → AreMembers config shard 0 members → any_spent members ≡ false → i < length members → one ≡ get_or members i one
    → OnOk r (next ≡ record one { state = next.state }) → OnErr r (next.spent ≡ true)
    → any_spent (slice_set members i next) ≡ false → AreMembers config shard 0 (slice_set members i next)
members_after (Ok done) config shard members i one next h none lt e stays spent k =
    members_set config shard members h i next (is_member_after config shard i one next (member_at config shard members i one h lt e) stays)
members_after (Err fault) config shard members i one next h none lt e stays spent k =
    let same : any_spent (slice_set members i next) ≡ next.spent = spent_after members i next none lt in
    absurd cc

-- what contracts see of them stays but for the states, unless that one is spent
pub value_after : (config : ConfigValue) (shard : ShardId) (members : List ReplicaValue) (old : MembersValue) (i : ℕ) (one next : ReplicaValue)
    → ◌≡◌ {A = MembersValue} (record { config = config; shard = shard; states = states_of members; spent = any_spent members }) old
    → AreMembers config shard 0 members → any_spent members ≡ false → i < length members → one ≡ get_or members i one → next ≡ record one { state = next.state }
    → ◌≡◌ {A = MembersValue} (record { config = config; shard = shard; states = states_of (slice_set members i next); spent = any_spent (slice_set members i next) })
    (record old { states = states_of (slice_set members i next) })
value_after config shard members old i one next view h none lt e stays =
    let same : any_spent (slice_set members i next) ≡ any_spent members =
    spent_after members i next none lt ∙ (is_member_after config shard i one next (member_at config shard members i one h lt e) stays).unspent ∙ sym none in
    ap (λ (z : Bool). let made : MembersValue = record { config = config; shard = shard; states = states_of (slice_set members i next); spent = z } in made) same
    ∙ ap (λ (v : MembersValue). let made : MembersValue = record v { states = states_of (slice_set members i next) } in made) view
