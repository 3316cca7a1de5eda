-- The ten nodes and their numbers.
use Rattle.std.proofs.Common.{◌≡◌, ◌<◌, ◌+◌, ◌*◌, ℕ, zero, suc, Bool, true, false, cond, ◌&&◌, nat_lt, List, [], ◌∷◌, length, Some, refl, sym, ap, ◌∙◌, subst, arith, le-ltb}
use Rattle.std.specs.Prelude.{⊤, slice_get}
use Rattle.std.proofs.lemmas.Option.{same_Some, slice_get_within}
use Rattle.eris_base.specs.declared.ids.Node.{Node}
use Rattle.eris_base.specs.declared.ids.Node.TheVariants.{Sequencer, Coordinator, Replica, Client}
use Rattle.eris_base.specs.Each.{Each}
use Rattle.eris_rules.specs.Known.{knows_client, knows_replica, knows_shard}
use Rattle.eris_rules.specs.Worlds.{client_at, first_replicas, first_world, replica_at}
use Rattle.eris_law_live.specs.LiveNodes.{client_of, live_config, live_nodes, node_of, number_of, replica_of}
use Rattle.eris_law_live.specs.OwnStates.{first_own, own_state}

each-at : {X : Type 0} (P : X → Type 0) (xs : List X) (at : ℕ) (x : X) → Each P xs → slice_get xs at ≡ Some x → P x
each-at P [] at x h e = absurd (cc)
each-at P (y ∷ xs) zero x h e = subst P (same_Some y x e) h.0
each-at P (y ∷ xs) (suc at) x h e = each-at P xs at x h.1 e

-- ---- the numbers are the places
AreNumbered : ℕ → List Node → Type 0
AreNumbered first [] = ⊤
AreNumbered first (node ∷ nodes) = (number_of node ≡ first) × AreNumbered (suc first) nodes

numbered-at : (first : ℕ) (nodes : List Node) (at : ℕ) (node : Node) → AreNumbered first nodes → slice_get nodes at ≡ Some node → number_of node ≡ first + at
unfolding AreNumbered
numbered-at first [] at node h e = absurd (cc)
numbered-at first (other ∷ nodes) zero node h e = ap number_of (sym (same_Some other node e)) ∙ h.0 ∙ omega arith
numbered-at first (other ∷ nodes) (suc at) node h e = numbered-at (suc first) nodes at node h.1 e ∙ omega arith

all_numbered : AreNumbered 0 live_nodes
unfolding AreNumbered live_nodes number_of
all_numbered = (refl, (refl, (refl, (refl, (refl, (refl, (refl, (refl, (refl, (refl, tt))))))))))

ten : length live_nodes ≡ 10
unfolding live_nodes
ten = refl

pub number_back : (number : ℕ) (node : Node) → node_of number ≡ Some node → (number_of node ≡ number) × (number < 10)
number_back number node h = (
  numbered-at 0 live_nodes number node all_numbered h ∙ omega arith,
  subst (λ (few : ℕ). number < few) ten (slice_get_within live_nodes number node h),
)

-- ---- a number below 10 is a node's
no_node : 10 < 10 → ⊥
no_node h = omega (arith, h)

replica_there : (shard replica : ℕ) → number_of (replica_of shard replica) < 10 → node_of (number_of (replica_of shard replica)) ≡ Some (replica_of shard replica)
unfolding number_of live_nodes
replica_there zero zero h = refl
replica_there zero (suc zero) h = refl
replica_there zero (suc (suc zero)) h = refl
replica_there zero (suc (suc (suc replica))) h =
    let past : nat_lt (suc (suc (suc replica))) 3 ≡ false = le-ltb _ 3 (omega arith) in
    absurd (no_node (subst (λ (test : Bool). cond test (2 + 3 * 0 + suc (suc (suc replica))) 10 < 10) past h))
replica_there (suc zero) zero h = refl
replica_there (suc zero) (suc zero) h = refl
replica_there (suc zero) (suc (suc zero)) h = refl
replica_there (suc zero) (suc (suc (suc replica))) h =
    let past : nat_lt (suc (suc (suc replica))) 3 ≡ false = le-ltb _ 3 (omega arith) in
    absurd (no_node (subst (λ (test : Bool). cond test (2 + 3 * 1 + suc (suc (suc replica))) 10 < 10) past h))
replica_there (suc (suc shard)) replica h =
    let past : nat_lt (suc (suc shard)) 2 ≡ false = le-ltb _ 2 (omega arith) in
    absurd (no_node (subst (λ (test : Bool). cond (test && nat_lt replica 3) (2 + 3 * suc (suc shard) + replica) 10 < 10) past h))

client_there : (client : ℕ) → number_of (client_of client) < 10 → node_of (number_of (client_of client)) ≡ Some (client_of client)
unfolding number_of live_nodes
client_there zero h = refl
client_there (suc zero) h = refl
client_there (suc (suc client)) h =
    let past : nat_lt (suc (suc client)) 2 ≡ false = le-ltb _ 2 (omega arith) in
    absurd (no_node (subst (λ (test : Bool). cond test (8 + suc (suc client)) 10 < 10) past h))

pub node_there : (node : Node) → number_of node < 10 → node_of (number_of node) ≡ Some node
unfolding number_of live_nodes
node_there Sequencer h = refl
node_there Coordinator h = refl
node_there (Replica shard replica) h = replica_there shard.0 replica.0 h
node_there (Client client) h = client_there client.0 h

-- so a node is the one of its number
pub node_by_number : (number : ℕ) (node other : Node) → node_of number ≡ Some node → number_of other ≡ number → other ≡ node
node_by_number number node other h e =
    let low : number_of other < 10 = subst (λ (n : ℕ). n < 10) (sym e) (number_back number node h).1 in
    same_Some other node (sym (node_there other low) ∙ ap node_of e ∙ h)

-- ---- each is of the config
unfoldable pub IsOfSystem : Node → Type 0
IsOfSystem Sequencer = ⊤
IsOfSystem Coordinator = ⊤
IsOfSystem (Replica shard replica) = (knows_shard live_config shard ≡ true) × (knows_replica live_config replica ≡ true)
IsOfSystem (Client client) = knows_client live_config client ≡ true

all_known : Each IsOfSystem live_nodes
unfolding IsOfSystem live_nodes
all_known = (tt, (tt, ((refl, refl), ((refl, refl), ((refl, refl), ((refl, refl), ((refl, refl), ((refl, refl), (refl, (refl, tt))))))))))

pub node_known : (number : ℕ) (node : Node) → node_of number ≡ Some node → IsOfSystem node
node_known number node h = each-at IsOfSystem live_nodes number node all_known h

-- ---- and begins as it does in the first world
BeginsRight : Node → Type 0
BeginsRight node = own_state (first_world live_config) node ≡ Some (first_own node)

all_begin : Each BeginsRight live_nodes
unfolding BeginsRight live_nodes own_state first_own first_world first_replicas replica_at client_at
all_begin = (refl, (refl, (refl, (refl, (refl, (refl, (refl, (refl, (refl, (refl, tt))))))))))

pub node_begins : (number : ℕ) (node : Node) → node_of number ≡ Some node → own_state (first_world live_config) node ≡ Some (first_own node)
unfolding BeginsRight
node_begins number node h = each-at BeginsRight live_nodes number node all_begin h
