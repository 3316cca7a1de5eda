-- THE LIVE LIST: what each client of a live run submits, in order. Each submission takes one draw
-- below 2 from the client's own generator.
use Rattle.std.specs.Prelude.{ℕ, zero, suc, ◌%◌, ◌==◌, List, [], ◌∷◌, if◌then◌else◌}
use Rattle.rand_pcg.specs.Lcg.{Lcg, advance, increment_of, started}
use Rattle.rand_pcg.specs.Pcg.{multiplier_64, pcg32}
use Rattle.eris_base.specs.declared.ids.ClientId.{ClientId}
use Rattle.eris_txn.specs.declared.key.Key.{Key}
use Rattle.eris_txn.specs.declared.op.Op.{Op}
use Rattle.eris_txn.specs.declared.op.Op.TheVariants.{Add}
use Rattle.eris_txn.specs.declared.plan.How.TheVariants.{Plus}
use Rattle.eris_txn.specs.PlanValues.{PlanValue}
use Rattle.eris_event.specs.declared.event.Event.{Event}

-- ---- draws
-- the generator of a client: the seed is the run's, and the client's number chooses the stream
unfoldable pub draws_of : ℕ → ClientId → Lcg
draws_of seed client = started 64 multiplier_64 seed (increment_of 64 client.0)

-- a generator after so many words
unfoldable pub after_words : ℕ → Lcg → Lcg
after_words words from = advance 64 multiplier_64 words from

-- its next word, below a bound
abbrev pub draw : ℕ → Lcg → ℕ
draw below from = (pcg32 from).0 % below

-- ---- submissions
-- a key whose name is one letter
unfoldable pub key_of : ℕ → ℕ → Key
key_of shard letter = record { shard = record { 0 = shard }; name = letter ∷ [] }

-- `add 0/x 1 ; add 1/x 1`
unfoldable pub increments : List Op
increments = Add (key_of 0 120) 1 ∷ Add (key_of 1 120) 1 ∷ []

-- `lock 0/x 1/y ; plus 0/x 1 ; plus 1/y 1`
unfoldable pub transfer : PlanValue
transfer = record {
  keys = key_of 0 120 ∷ key_of 1 121 ∷ [];
  guards = [];
  settings = record { key = key_of 0 120; how = Plus 1 } ∷ record { key = key_of 1 121; how = Plus 1 } ∷ [];
}

-- what a client submits at a draw
unfoldable pub submission : ClientId → ℕ → Event
submission client drawn = if drawn == 0 then Event.Submit client increments else Event.General client transfer

-- so many submissions, by draws from a generator on
unfoldable pub submissions_from : ClientId → Lcg → ℕ → List Event
submissions_from client from zero = []
submissions_from client from (suc count) = submission client (draw 2 from) ∷ submissions_from client (after_words 1 from) count

-- THE LIVE LIST of a client in a run of a seed and so many rounds
unfoldable pub live_list : ℕ → ClientId → ℕ → List Event
live_list seed client rounds = submissions_from client (draws_of seed client) rounds
