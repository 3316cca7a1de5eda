-- The shards of a body's items, which a client holds for a message: those that take part are exactly they. Used
-- where a vote, an answer or a whole half is looked at.
use Rattle.std.proofs.Common.{◌≡◌, ℕ, ◌+◌, Bool, true, cond, ◌&&◌, ◌==◌, is_some, List, [], ◌∷◌, map, sum_by, IsTrue, refl, ap, sym, ◌∙◌}
use Rattle.std.specs.Cmp.{both_ways as either_way}
use Rattle.std.specs.List.{list_all}
use Rattle.std.proofs.lemmas.List.Folds.{list_all-map}
use Rattle.std.proofs.lemmas.List.Sums.{sum_by-cons}
use Rattle.eris_base.specs.declared.ids.ShardId.{ShardId}
use Rattle.eris_base.specs.declared.stamp.Stamp.{Stamp}
use Rattle.eris_base.specs.Places.{are_stamp_places, number_in}
use Rattle.eris_txn.specs.declared.answer.Answer.{Answer}
use Rattle.eris_txn.specs.declared.body.Body.{Body}
use Rattle.eris_txn.specs.declared.body.Body.TheVariants.{Independent, Prelim, Commit, Abort}
use Rattle.eris_txn.specs.declared.key.Key.{Key}
use Rattle.eris_txn.specs.Bodies.{any_on, has_shard, keys_of, participants_of}
use Rattle.eris_txn.specs.PlanValues.{PlanValue}
use Rattle.eris_txn.specs.Plans.{locks_of}
use Rattle.eris_txn.proofs.BodyLaws.{has_shard-participants}
use Rattle.eris_txn.proofs.PlanLaws.{locked_keys}
use Rattle.eris_locks.specs.States.{phase_of}
use Rattle.eris_rules.specs.Clients.{item_shards}
use Rattle.eris_rules.specs.InPlace.{names_exactly}
use Rattle.eris_rules.specs.Votes.{answer_fits, items_on}
use Rattle.eris_in_place.proofs.ExactShards.{exactly, list_any-map, each_passes, all_pass}
use Rattle.eris_client.specs.Assembled.{count_of}
use Rattle.eris_client.specs.Halves.{fits_half}

abbrev shard_of : Key → ShardId
shard_of key = key.shard

pub plan_shards : (plan : PlanValue) → item_shards (Prelim (locks_of plan)) ≡ map shard_of plan.keys
plan_shards plan = ap (map shard_of) (locked_keys plan.settings plan.keys)

pub ruleset shards_of_plan = (plan_shards)

-- some key is of a shard that stands among the keys' shards
on_shards : (keys : List Key) (one : ShardId) → any_on keys one ≡ has_shard (map shard_of keys) one
on_shards keys one = sym (list_any-map (λ (other : ShardId). other.0 == one.0) shard_of keys)

-- WHAT TAKES PART
pub takes_part : (body : Body) (one : ShardId) → has_shard (participants_of body) one ≡ has_shard (item_shards body) one
takes_part body one = has_shard-participants body one ∙ on_shards (keys_of body) one

-- A STAMP NAMES EXACTLY THE PARTICIPANTS
pub names_items : (body : Body) (stamp : Stamp) → IsTrue (are_stamp_places stamp.places)
    → names_exactly stamp (participants_of body)
    ≡ (list_all (λ place. has_shard (item_shards body) place.0) stamp.places && list_all (λ shard. is_some (number_in stamp.places shard)) (item_shards body))
names_items body stamp h =
    exactly stamp (keys_of body) h
    ∙ (λ i. list_all (λ place. on_shards (keys_of body) place.0 i) stamp.places
    && sym (list_all-map (λ (shard : ShardId). is_some (number_in stamp.places shard)) shard_of (keys_of body)) i)

-- how many items are on a shard
count_of-map : (keys : List Key) (shard : ShardId) → sum_by (λ (key : Key). cond (key.shard.0 == shard.0) 1 0) keys ≡ count_of (map shard_of keys) shard
count_of-map [] shard = refl
count_of-map (key ∷ keys) shard =
    sum_by-cons (λ (one : Key). cond (one.shard.0 == shard.0) 1 0) key keys
    ∙ ap (λ (n : ℕ). cond (key.shard.0 == shard.0) 1 0 + n) (count_of-map keys shard)
    ∙ sym (sum_by-cons (λ (one : ShardId). cond (one.0 == shard.0) 1 0) key.shard (map shard_of keys))

pub items_are : (body : Body) (shard : ShardId) → items_on body shard ≡ count_of (item_shards body) shard
items_are body shard = count_of-map (keys_of body) shard

-- AN ANSWER FITS by the half's phase and the number of items
half_fits : (body : Body) (shard : ShardId) (answer : Answer) → answer_fits body shard answer ≡ fits_half (phase_of body) (items_on body shard) answer
half_fits (Independent ops) shard (Answer.Ops answers) = refl
half_fits (Independent ops) shard (Answer.Values values) = refl
half_fits (Independent ops) shard Answer.Committed = refl
half_fits (Independent ops) shard Answer.Aborted = refl
half_fits (Prelim locks) shard (Answer.Ops answers) = refl
half_fits (Prelim locks) shard (Answer.Values values) = refl
half_fits (Prelim locks) shard Answer.Committed = refl
half_fits (Prelim locks) shard Answer.Aborted = refl
half_fits (Commit keys writes) shard (Answer.Ops answers) = refl
half_fits (Commit keys writes) shard (Answer.Values values) = refl
half_fits (Commit keys writes) shard Answer.Committed = refl
half_fits (Commit keys writes) shard Answer.Aborted = refl
half_fits (Abort keys) shard (Answer.Ops answers) = refl
half_fits (Abort keys) shard (Answer.Values values) = refl
half_fits (Abort keys) shard Answer.Committed = refl
half_fits (Abort keys) shard Answer.Aborted = refl

pub fits_by_items : (body : Body) (shard : ShardId) (answer : Answer) → answer_fits body shard answer ≡ fits_half (phase_of body) (count_of (item_shards body) shard) answer
fits_by_items body shard answer = half_fits body shard answer ∙ ap (λ n. fits_half (phase_of body) n answer) (items_are body shard)

-- ---- a test of each shard, by which shards there are
same_shards_pass : (test : ShardId → Bool) (shards others : List ShardId) → ((one : ShardId) → has_shard others one ≡ has_shard shards one) → list_all test shards ≡ true → list_all test others ≡ true
same_shards_pass test shards others same h = all_pass test others (λ one is. each_passes test shards h one (sym (same one) ∙ is))

-- ALL PARTICIPANTS pass a test where the shards of all items do
pub all_items : (body : Body) (test : ShardId → Bool) → list_all test (participants_of body) ≡ list_all test (item_shards body)
all_items body test =
    either_way (list_all test (participants_of body)) (list_all test (item_shards body))
    (same_shards_pass test (participants_of body) (item_shards body) (λ one. sym (takes_part body one)))
    (same_shards_pass test (item_shards body) (participants_of body) (takes_part body))
