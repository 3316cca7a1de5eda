-- What a packet of the order is, where the shards' plain runs are known; and that an id's outcome and its writes on a
-- shard that takes part are those of the order. Used shard by shard, and for outcomes.
use Rattle.std.proofs.Common.{◌≡◌, ℕ, Bool, true, false, Option, Some, None, List, [], ◌∷◌, refl, ap, sym, ◌∙◌, subst, ◌⊎◌, inl, inr}
use Rattle.std.proofs.lemmas.Bool.{cases_Bool, both_ways}
use Rattle.std.specs.List.{filter}
use Rattle.eris_base.specs.declared.ids.ShardId.{ShardId}
use Rattle.eris_base.specs.declared.ids.TxnId.{TxnId}
use Rattle.eris_base.specs.Each.{Each}
use Rattle.eris_base.specs.TxnIds.{same_id, is_among}
use Rattle.eris_base.proofs.TxnIdLaws.{same_id-true}
use Rattle.eris_txn.specs.declared.answer.Answer.{Answer}
use Rattle.eris_txn.specs.declared.answer.Answer.TheVariants.{Ops, Committed, Aborted}
use Rattle.eris_txn.specs.declared.body.Body.{Body}
use Rattle.eris_txn.specs.declared.body.Body.TheVariants.{Independent, Prelim, Commit, Abort}
use Rattle.eris_txn.specs.declared.lock.Lock.{Lock}
use Rattle.eris_txn.specs.declared.packet.Packet.{Packet}
use Rattle.eris_txn.specs.declared.plan.Write.{Write}
use Rattle.eris_txn.specs.declared.txn.Txn.{Txn}
use Rattle.eris_txn.specs.declared.txn.Txn.TheVariants.{Whole, General}
use Rattle.eris_txn.specs.Keys.{Values}
use Rattle.eris_txn.specs.PlanValues.{PlanValue}
use Rattle.eris_txn.specs.Plans.{guards_hold, locks_of, value_in, writes_from}
use Rattle.eris_locks.specs.declared.shard_packet.ShardPacket.{ShardPacket}
use Rattle.eris_locks.specs.Law.{StandsIn}
use Rattle.eris_locks.specs.LockTable.{answer_of}
use Rattle.eris_locks.specs.ShardRun.{Served, left_after, outcome_by, outcome_in, plain_run, plain_values, writes_at, writes_by, writes_in}
use Rattle.eris_locks.specs.Shards.{cut, cut_body, is_on, names_shard, on_shard}
use Rattle.eris_locks.specs.States.{is_conclusory}
use Rattle.eris_law_lock.proofs.Once.{answer_to}
use Rattle.eris_audit.specs.declared.outcome.Outcome.{Outcome}
use Rattle.eris_order.specs.Orders.{outcome_at, outcome_from}
use Rattle.eris_serial.specs.Shares.{share, OneForEach}
use Rattle.eris_serial.specs.Transactions.{takes_part, CanRun}
use Rattle.eris_law_serial.proofs.AtShard.{write_on}

-- a Commit's writes are the plan's, of values that the plain run of each shard that takes part answers
pub record CommitSound (txn : TxnId → Txn) (runs : ShardId → List Served) (id : TxnId) (writes : List Write) : Type 0 where
  pub plan : PlanValue
  pub is : txn id ≡ General plan
  pub values : List (Option ℕ)
  pub each : OneForEach plan.keys values
  pub guards : guards_hold plan.guards (value_in plan.keys values) ≡ true
  pub writes_are : writes ≡ writes_from plan.settings (value_in plan.keys values)
  pub answered : (shard : ShardId) → takes_part shard (txn id) ≡ true
      → StandsIn (answer_to id (Answer.Values (share (is_on shard) plan.keys values))) (runs shard)

pub record PrelimSound (txn : TxnId → Txn) (id : TxnId) (locks : List Lock) : Type 0 where
  pub plan : PlanValue
  pub is : txn id ≡ General plan
  pub locks_are : locks ≡ locks_of plan

abbrev pub BodySound : (TxnId → Txn) → (ShardId → List Served) → TxnId → Body → Type 0
BodySound txn runs id (Independent ops) = txn id ≡ Whole ops
BodySound txn runs id (Prelim locks) = PrelimSound txn id locks
BodySound txn runs id (Commit keys writes) = CommitSound txn runs id writes
BodySound txn runs id (Abort keys) = Unit {0}

pub record Sound (txn : TxnId → Txn) (runs : ShardId → List Served) (packet : Packet) : Type 0 where
  pub shards : (shard : ShardId) → names_shard shard packet ≡ takes_part shard (txn packet.id)
  pub can_run : CanRun (txn packet.id)
  pub body : BodySound txn runs packet.id packet.body

-- the writes of an id's first conclusory packet in an order
abbrev pub writes_to_come : TxnId → List Packet → List Write
writes_to_come id [] = []
writes_to_come id (packet ∷ packets) = writes_by packet.body (same_id id packet.id) (writes_to_come id packets)

-- what a body says of its id's outcome and writes is the same when it is cut to a shard
outcome-cut : (shard : ShardId) (body : Body) (here : Bool) (later : Option Answer) → outcome_by (cut_body shard body) here later ≡ outcome_by body here later
outcome-cut shard (Independent ops) here later = refl
outcome-cut shard (Prelim locks) here later = refl
outcome-cut shard (Commit keys writes) here later = refl
outcome-cut shard (Abort keys) here later = refl

writes-cut : (shard : ShardId) (body : Body) (here : Bool) (later : List Write)
    → writes_by (cut_body shard body) here (filter (write_on shard) later) ≡ filter (write_on shard) (writes_by body here later)
writes-cut shard (Independent ops) here later = refl
writes-cut shard (Prelim locks) here later = refl
writes-cut shard (Commit keys writes) true later = refl
writes-cut shard (Commit keys writes) false later = refl
writes-cut shard (Abort keys) true later = refl
writes-cut shard (Abort keys) false later = refl

-- and nothing for another id
pub outcome-other : (body : Body) (here : Bool) (later : Option Answer) → here ≡ false → outcome_by body here later ≡ later
outcome-other (Independent ops) here later other = refl
outcome-other (Prelim locks) here later other = refl
outcome-other (Commit keys writes) here later other = rw other
outcome-other (Abort keys) here later other = rw other

writes-other : (body : Body) (here : Bool) (later : List Write) → here ≡ false → writes_by body here later ≡ later
writes-other (Independent ops) here later other = refl
writes-other (Prelim locks) here later other = refl
writes-other (Commit keys writes) here later other = rw other
writes-other (Abort keys) here later other = rw other

pub conclusory-cut : (shard : ShardId) (body : Body) → is_conclusory (cut_body shard body) ≡ is_conclusory body
conclusory-cut shard (Independent ops) = refl
conclusory-cut shard (Prelim locks) = refl
conclusory-cut shard (Commit keys writes) = refl
conclusory-cut shard (Abort keys) = refl

module _ (txn : TxnId → Txn) (runs : ShardId → List Served) where
  -- a packet that doesn't name a shard has another id than the shard's transactions
  pub other_id : (shard : ShardId) (id : TxnId) (packet : Packet) → Sound txn runs packet → names_shard shard packet ≡ false
      → takes_part shard (txn id) ≡ true → same_id id packet.id ≡ false
  other_id shard id packet sound unnamed part = by_test (cases_Bool (same_id id packet.id))
    where
      by_test : ((same_id id packet.id ≡ true) ⊎ (same_id id packet.id ≡ false)) → same_id id packet.id ≡ false
      by_test (inl same) = absurd (both_ways _ unnamed (sound.shards shard ∙ (ap (λ i. takes_part shard (txn i)) (sym (same_id-true id packet.id same)) ∙ part)))
      by_test (inr apart) = apart

  -- THE OUTCOME of an id is the same on each shard that takes part
  pub outcome-on_shard : (shard : ShardId) (id : TxnId) (packets : List Packet) → Each (Sound txn runs) packets → takes_part shard (txn id) ≡ true
      → outcome_in id (on_shard shard packets) ≡ outcome_at id packets
  outcome-on_shard shard id [] sound part = refl
  outcome-on_shard shard id (packet ∷ packets) sound part = by_test (names_shard shard packet) refl (outcome-on_shard shard id packets sound.1 part)
    where
      by_test : (named : Bool) → names_shard shard packet ≡ named → outcome_in id (on_shard shard packets) ≡ outcome_at id packets
          → outcome_in id (elim named [ true ↦ cut shard packet ∷ on_shard shard packets | false ↦ on_shard shard packets ])
          ≡ outcome_by packet.body (same_id id packet.id) (outcome_at id packets)
      by_test true named rest =
          outcome-cut shard packet.body (same_id id packet.id) (outcome_in id (on_shard shard packets))
          ∙ ap (outcome_by packet.body (same_id id packet.id)) rest
      by_test false unnamed rest =
          rest ∙ sym (outcome-other packet.body (same_id id packet.id) (outcome_at id packets) (other_id shard id packet sound.0 unnamed part))

  -- AND SO ARE ITS WRITES, but for those on other shards' keys
  pub writes-on_shard : (shard : ShardId) (id : TxnId) (packets : List Packet) → Each (Sound txn runs) packets → takes_part shard (txn id) ≡ true
      → writes_in id (on_shard shard packets) ≡ filter (write_on shard) (writes_to_come id packets)
  writes-on_shard shard id [] sound part = refl
  writes-on_shard shard id (packet ∷ packets) sound part = by_test (names_shard shard packet) refl (writes-on_shard shard id packets sound.1 part)
    where
      by_test : (named : Bool) → names_shard shard packet ≡ named → writes_in id (on_shard shard packets) ≡ filter (write_on shard) (writes_to_come id packets)
          → writes_in id (elim named [ true ↦ cut shard packet ∷ on_shard shard packets | false ↦ on_shard shard packets ])
          ≡ filter (write_on shard) (writes_by packet.body (same_id id packet.id) (writes_to_come id packets))
      by_test true named rest =
          ap (writes_by (cut_body shard packet.body) (same_id id packet.id)) rest
          ∙ writes-cut shard packet.body (same_id id packet.id) (writes_to_come id packets)
      by_test false unnamed rest =
          rest
          ∙ ap (filter (write_on shard)) (sym (writes-other packet.body (same_id id packet.id) (writes_to_come id packets) (other_id shard id packet sound.0 unnamed part)))

  committed_head : (id other : TxnId) (body : Body) (here : Bool) (later : Option Answer) (writes : List Write) → same_id id other ≡ here
      → BodySound txn runs other body → outcome_by body here later ≡ Some Committed
      → (later ≡ Some Committed → CommitSound txn runs id writes) → CommitSound txn runs id (writes_by body here writes)
  committed_head id other (Independent ops) here later writes is sound outcome rest = rest outcome
  committed_head id other (Prelim locks) here later writes is sound outcome rest = rest outcome
  committed_head id other (Commit keys chosen) true later writes is sound outcome rest =
      subst (λ i. CommitSound txn runs i chosen) (sym (same_id-true id other is)) sound
  committed_head id other (Commit keys chosen) false later writes is sound outcome rest = rest outcome
  committed_head id other (Abort keys) true later writes is sound outcome rest = absurd (clash outcome)
    where
      clash : Some Aborted ≡ Some Committed → ⊥
      clash equal = cc
  committed_head id other (Abort keys) false later writes is sound outcome rest = rest outcome

  -- where the first conclusory packet is a Commit, its writes are the plan's
  pub committed : (id : TxnId) (packets : List Packet) → Each (Sound txn runs) packets → outcome_at id packets ≡ Some Committed
      → CommitSound txn runs id (writes_to_come id packets)
  committed id [] sound outcome = absurd (clash outcome)
    where
      clash : None ≡ Some Committed → ⊥
      clash equal = cc
  committed id (packet ∷ packets) sound outcome =
      committed_head id packet.id packet.body (same_id id packet.id) (outcome_at id packets) (writes_to_come id packets) refl sound.0.body outcome (committed id packets sound.1)

pub is_committed : (said : Option Answer) → outcome_from said ≡ Outcome.Committed → said ≡ Some Committed
is_committed None is = cc
is_committed (Some (Ops answers)) is = cc
is_committed (Some (Answer.Values values)) is = cc
is_committed (Some Committed) is = refl
is_committed (Some Aborted) is = cc

uncommitted_head : (body : Body) (here : Bool) (later : Option Answer) (writes : List Write) → (outcome_from (outcome_by body here later) ≡ Outcome.Committed → ⊥)
    → ((outcome_from later ≡ Outcome.Committed → ⊥) → writes ≡ []) → writes_by body here writes ≡ []
uncommitted_head (Independent ops) here later writes not_so rest = rest not_so
uncommitted_head (Prelim locks) here later writes not_so rest = rest not_so
uncommitted_head (Commit keys chosen) true later writes not_so rest = absurd (not_so refl)
uncommitted_head (Commit keys chosen) false later writes not_so rest = rest not_so
uncommitted_head (Abort keys) true later writes not_so rest = refl
uncommitted_head (Abort keys) false later writes not_so rest = rest not_so

-- and where it isn't, there are none
pub uncommitted : (id : TxnId) (packets : List Packet) → (outcome_from (outcome_at id packets) ≡ Outcome.Committed → ⊥) → writes_to_come id packets ≡ []
uncommitted id [] not_so = refl
uncommitted id (packet ∷ packets) not_so =
    uncommitted_head packet.body (same_id id packet.id) (outcome_at id packets) (writes_to_come id packets) not_so (uncommitted id packets)

-- THE STEPS of a shard's plain run: of its answers, and of its values
pub run-conclusory : (values : Values) (seen decided : List TxnId) (packet : ShardPacket) (packets : List ShardPacket) → is_conclusory packet.body ≡ true
    → plain_run values seen decided (packet ∷ packets) ≡ plain_run values seen (packet.id ∷ decided) packets
run-conclusory values seen decided packet packets concludes = rw (concludes, plain_run)

pub run-repeated : (values : Values) (seen decided : List TxnId) (packet : ShardPacket) (packets : List ShardPacket) → is_conclusory packet.body ≡ false
    → is_among packet.id seen ≡ true → plain_run values seen decided (packet ∷ packets) ≡ plain_run values seen decided packets
run-repeated values seen decided packet packets own again = rw (own, again, plain_run)

pub run-acts : (values : Values) (seen decided : List TxnId) (packet : ShardPacket) (packets : List ShardPacket) → is_conclusory packet.body ≡ false
    → is_among packet.id seen ≡ false
    → plain_run values seen decided (packet ∷ packets)
    ≡ answer_to packet.id (answer_of packet.body values) ∷ plain_run (left_after packet.body (writes_at packet.id decided packets) values) (packet.id ∷ seen) decided packets
run-acts values seen decided packet packets own new = rw (own, new, plain_run)

pub values-conclusory : (values : Values) (seen decided : List TxnId) (packet : ShardPacket) (packets : List ShardPacket) → is_conclusory packet.body ≡ true
    → plain_values values seen decided (packet ∷ packets) ≡ plain_values values seen (packet.id ∷ decided) packets
values-conclusory values seen decided packet packets concludes = rw (concludes, plain_values)

pub values-repeated : (values : Values) (seen decided : List TxnId) (packet : ShardPacket) (packets : List ShardPacket) → is_conclusory packet.body ≡ false
    → is_among packet.id seen ≡ true → plain_values values seen decided (packet ∷ packets) ≡ plain_values values seen decided packets
values-repeated values seen decided packet packets own again = rw (own, again, plain_values)

pub values-acts : (values : Values) (seen decided : List TxnId) (packet : ShardPacket) (packets : List ShardPacket) → is_conclusory packet.body ≡ false
    → is_among packet.id seen ≡ false
    → plain_values values seen decided (packet ∷ packets)
    ≡ plain_values (left_after packet.body (writes_at packet.id decided packets) values) (packet.id ∷ seen) decided packets
values-acts values seen decided packet packets own new = rw (own, new, plain_values)
