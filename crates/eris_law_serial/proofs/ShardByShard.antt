-- Shard by shard: the serial run over an order's lines, cut to a shard, is the plain run of that shard. Along the
-- order, the serial map agrees at each shard's keys with that shard's map. The one step that joins shards is a
-- preliminary that commits: its writes are made of values which every shard that takes part has answered, and so they
-- are the plan's writes over the serial map. Used by `OneMap`.
use Rattle.std.proofs.Common.{◌≡◌, ℕ, Bool, true, false, cond, ◌||◌, Option, List, [], ◌∷◌, map, refl, ap, sym, ◌∙◌, subst, map-id, inl, inr}
use Rattle.std.proofs.lemmas.Bool.{both_ways, and_parts}
use Rattle.std.specs.List.{filter, list_all}
use Rattle.std.specs.Prelude.{⊤}
use Rattle.eris_base.specs.declared.ids.ShardId.{ShardId}
use Rattle.eris_base.specs.declared.ids.TxnId.{TxnId}
use Rattle.eris_base.specs.Each.{Each}
use Rattle.eris_base.specs.TxnIds.{same_id, is_among}
use Rattle.eris_txn.specs.declared.answer.Answer.{Answer}
use Rattle.eris_txn.specs.declared.answer.Answer.TheVariants.{Ops}
use Rattle.eris_txn.specs.declared.body.Body.{Body}
use Rattle.eris_txn.specs.declared.body.Body.TheVariants.{Independent, Prelim, Commit, Abort}
use Rattle.eris_txn.specs.declared.lock.Lock.{Lock}
use Rattle.eris_txn.specs.declared.op.Op.{Op}
use Rattle.eris_txn.specs.declared.packet.Packet.{Packet}
use Rattle.eris_txn.specs.declared.plan.Write.{Write}
use Rattle.eris_txn.specs.declared.txn.Txn.{Txn}
use Rattle.eris_txn.specs.declared.txn.Txn.TheVariants.{Whole, General}
use Rattle.eris_txn.specs.Bodies.{any_on}
use Rattle.eris_txn.specs.Keys.{Values}
use Rattle.eris_txn.specs.Operations.{after_all, answers}
use Rattle.eris_txn.specs.PlanFaults.{is_among as is_among_keys}
use Rattle.eris_txn.specs.PlanValues.{PlanValue}
use Rattle.eris_txn.specs.Plans.{guards_hold, value_in, writes_from, written}
use Rattle.eris_txn.proofs.PlanLaws.{guards_hold-map, settled-written, writes_from-map}
use Rattle.eris_locks.specs.declared.shard_packet.ShardPacket.{ShardPacket}
use Rattle.eris_locks.specs.Law.{StandsIn}
use Rattle.eris_locks.specs.LockTable.{answer_of}
use Rattle.eris_locks.specs.ShardRun.{Served, left_after, plain_run, plain_values, writes_at, writes_in}
use Rattle.eris_locks.specs.Shards.{cut, cut_body, is_on, names_shard, on_shard}
use Rattle.eris_locks.specs.States.{is_conclusory}
use Rattle.eris_law_lock.proofs.Once.{answer_to}
use Rattle.eris_audit.specs.declared.outcome.Outcome.{Outcome}
use Rattle.eris_audit.specs.Lines.{Line}
use Rattle.eris_audit.specs.SerialRun.{guards_of, left_by_txn}
use Rattle.eris_order.specs.Orders.{outcome_at, outcome_from, outcome_of}
use Rattle.eris_serial.specs.Shares.{share, OneForEach}
use Rattle.eris_serial.specs.Transactions.{takes_part, CanRun, CanRunPlan}
use Rattle.eris_law_serial.proofs.AtShard.{AgreeOn, after_all-share, answers-share, lock_on, op_on, ops-off, reads-share, write_on, writes-off, written-share}
use Rattle.eris_law_serial.proofs.LineSteps.{first_line}
use Rattle.eris_law_serial.proofs.Parts.{shares_decide, values-one_each}
use Rattle.eris_law_serial.proofs.Sound.{BodySound, CommitSound, Sound, committed, conclusory-cut, is_committed, other_id, run-acts, run-conclusory, run-repeated, uncommitted, values-acts, values-conclusory, values-repeated, writes-on_shard, writes_to_come}

-- what a shard answers of a transaction, where the serial map is this one
abbrev pub shard_answer : ShardId → Txn → Values → Answer
shard_answer shard (Whole ops) values = Ops (share (op_on shard) ops (answers ops values))
shard_answer shard (General plan) values = Answer.Values (share (is_on shard) plan.keys (map values plan.keys))

-- a point of a shard's plain run
pub record Point : Type 0 where
  pub values : Values
  pub seen : List TxnId
  pub decided : List TxnId

-- A SHARD'S POINT MEETS THE ORDER'S: the serial map and the shard's agree there, as do the ids that came and those
-- decided; what the shard's run still answers is of its whole run, and it ends where that ends
pub record Meets (txn : TxnId → Txn) (run : List Served) (last : Values) (shard : ShardId) (values : Values) (seen decided : List TxnId) (point : Point) (rest : List ShardPacket) : Type 0 where
  pub agree : AgreeOn shard values point.values
  pub seen_is : (id : TxnId) → takes_part shard (txn id) ≡ true → is_among id seen ≡ is_among id point.seen
  pub decided_is : (id : TxnId) → takes_part shard (txn id) ≡ true → is_among id decided ≡ is_among id point.decided
  pub inside : (served : Served) → StandsIn served (plain_run point.values point.seen point.decided rest) → StandsIn served run
  pub ends : plain_values point.values point.seen point.decided rest ≡ last

-- and so on every shard
abbrev pub AllMeet : (TxnId → Txn) → (ShardId → List Served) → (ShardId → Values) → Values → List TxnId → List TxnId → List Packet → Type 0
AllMeet txn runs lasts values seen decided packets =
    (shard : ShardId) → (point : Point) × Meets txn (runs shard) (lasts shard) shard values seen decided point (on_shard shard packets)

answer-cut : (shard : ShardId) (txn : TxnId → Txn) (runs : ShardId → List Served) (id : TxnId) (body : Body) (values others : Values)
    → is_conclusory body ≡ false → BodySound txn runs id body → AgreeOn shard values others
    → answer_of (cut_body shard body) others ≡ shard_answer shard (txn id) values
answer-cut shard txn runs id (Independent ops) values others own sound agree =
    ap Ops (sym (answers-share shard ops values others agree)) ∙ ap (λ t. shard_answer shard t values) (sym sound)
answer-cut shard txn runs id (Prelim locks) values others own sound agree =
    ap (λ ls. Answer.Values (map (λ (lock : Lock). others lock.key) (filter (lock_on shard) ls))) sound.locks_are
    ∙ (ap Answer.Values (sym (reads-share shard sound.plan.settings sound.plan.keys values others agree))
    ∙ ap (λ t. shard_answer shard t values) (sym sound.is))
answer-cut shard txn runs id (Commit keys writes) values others own sound agree = cc
answer-cut shard txn runs id (Abort keys) values others own sound agree = cc

-- the parts of what a plan's names are
guards_locked : (plan : PlanValue) → CanRunPlan plan → list_all (λ guard. is_among_keys plan.keys guard.key) plan.guards ≡ true
guards_locked plan fits = (and_parts (list_all (λ guard. is_among_keys plan.keys guard.key) plan.guards) (list_all (λ setting. is_among_keys plan.keys setting.key) plan.settings) fits.names_locked).0

pub settings_locked : (plan : PlanValue) → CanRunPlan plan → list_all (λ setting. is_among_keys plan.keys setting.key) plan.settings ≡ true
settings_locked plan fits = (and_parts (list_all (λ guard. is_among_keys plan.keys guard.key) plan.guards) (list_all (λ setting. is_among_keys plan.keys setting.key) plan.settings) fits.names_locked).1

-- what a general transaction leaves on a shard, by its outcome and the writes of its first conclusory packet
general-left : (shard : ShardId) (outcome : Outcome) (plan : PlanValue) (values others : Values) (writes : List Write) → CanRunPlan plan → AgreeOn shard values others
    → (outcome ≡ Outcome.Committed → writes ≡ writes_from plan.settings values) → ((outcome ≡ Outcome.Committed → ⊥) → writes ≡ [])
    → AgreeOn shard (left_by_txn (General plan) outcome values) (written (filter (write_on shard) writes) others)
general-left shard Outcome.Done plan values others writes fits agree sets keeps = rw (keeps (λ e. absurd (cc))) agree
general-left shard Outcome.Committed plan values others writes fits agree sets keeps =
    rw (sets refl, settled-written plan.settings values fits.sets_once) (written-share shard (writes_from plan.settings values) values others agree)
general-left shard Outcome.Aborted plan values others writes fits agree sets keeps = rw (keeps (λ e. absurd (cc))) agree
general-left shard Outcome.Pending plan values others writes fits agree sets keeps = rw (keeps (λ e. absurd (cc))) agree

prelim-left : (shard : ShardId) (decided there : Bool) (later : Option Answer) (plan : PlanValue) (values others : Values) (writes shares : List Write) → CanRunPlan plan
    → AgreeOn shard values others → decided ≡ there → shares ≡ filter (write_on shard) writes
    → (outcome_from later ≡ Outcome.Committed → writes ≡ writes_from plan.settings values) → ((outcome_from later ≡ Outcome.Committed → ⊥) → writes ≡ [])
    → AgreeOn shard (left_by_txn (General plan) (cond decided Outcome.Aborted (outcome_from later)) values) (written (cond there [] shares) others)
prelim-left shard true true later plan values others writes shares fits agree same is sets keeps = agree
prelim-left shard true false later plan values others writes shares fits agree same is sets keeps = absurd (both_ways true same refl)
prelim-left shard false true later plan values others writes shares fits agree same is sets keeps = absurd (both_ways false refl same)
prelim-left shard false false later plan values others writes shares fits agree same is sets keeps =
    rw is (general-left shard (outcome_from later) plan values others writes fits agree sets keeps)

-- and on a shard that takes no part
general-off : (shard : ShardId) (outcome : Outcome) (plan : PlanValue) (values others : Values) → CanRunPlan plan → any_on plan.keys shard ≡ false
    → AgreeOn shard values others → AgreeOn shard (left_by_txn (General plan) outcome values) others
general-off shard Outcome.Done plan values others fits off agree = agree
general-off shard Outcome.Committed plan values others fits off agree =
    rw (settled-written plan.settings values fits.sets_once)
    (subst (λ (writes : List Write). AgreeOn shard (written (writes_from plan.settings values) values) (written writes others))
    (writes-off shard plan.settings plan.keys values (settings_locked plan fits) off)
    (written-share shard (writes_from plan.settings values) values others agree))
general-off shard Outcome.Aborted plan values others fits off agree = agree
general-off shard Outcome.Pending plan values others fits off agree = agree

left-off : (shard : ShardId) (txn : Txn) (outcome : Outcome) (values others : Values) → CanRun txn → takes_part shard txn ≡ false
    → AgreeOn shard values others → AgreeOn shard (left_by_txn txn outcome values) others
left-off shard (Whole ops) outcome values others fits off agree =
    subst (λ (some : List Op). AgreeOn shard (after_all ops values) (after_all some others)) (ops-off shard ops off) (after_all-share shard ops values others agree)
left-off shard (General plan) outcome values others fits off agree = general-off shard outcome plan values others fits off agree

-- the guards of each commit hold along a serial run
abbrev pub GuardsAlong : (TxnId → Txn) → Values → List Line → Type 0
GuardsAlong txn values [] = ⊤
GuardsAlong txn values (line ∷ lines) =
    (line.outcome ≡ Outcome.Committed → guards_hold (guards_of (txn line.id)) values ≡ true)
    × GuardsAlong txn (left_by_txn (txn line.id) line.outcome values) lines

module _ (txn : TxnId → Txn) (runs : ShardId → List Served) (lasts : ShardId → Values) where
  left-here : (shard : ShardId) (id : TxnId) (body : Body) (decided there : Bool) (later : Option Answer) (values others : Values) (writes shares : List Write) → is_conclusory body ≡ false
      → BodySound txn runs id body → CanRun (txn id) → AgreeOn shard values others → decided ≡ there → shares ≡ filter (write_on shard) writes
      → ((plan : PlanValue) → txn id ≡ General plan → CanRunPlan plan → outcome_from later ≡ Outcome.Committed → writes ≡ writes_from plan.settings values)
      → ((outcome_from later ≡ Outcome.Committed → ⊥) → writes ≡ [])
      → AgreeOn shard (left_by_txn (txn id) (outcome_of body decided later) values) (left_after (cut_body shard body) (cond there [] shares) others)
  left-here shard id (Independent ops) decided there later values others writes shares own sound fits agree same is sets keeps =
      subst (λ t. AgreeOn shard (left_by_txn t Outcome.Done values) (after_all (filter (op_on shard) ops) others)) (sym sound) (after_all-share shard ops values others agree)
  left-here shard id (Prelim locks) decided there later values others writes shares own sound fits agree same is sets keeps =
      let can_run = subst CanRun sound.is fits in
      subst (λ t. AgreeOn shard (left_by_txn t (cond decided Outcome.Aborted (outcome_from later)) values) (written (cond there [] shares) others)) (sym sound.is)
      (prelim-left shard decided there later sound.plan values others writes shares can_run agree same is (sets sound.plan sound.is can_run) keeps)
  left-here shard id (Commit keys chosen) decided there later values others writes shares own sound fits agree same is sets keeps = absurd (both_ways _ own refl)
  left-here shard id (Abort keys) decided there later values others writes shares own sound fits agree same is sets keeps = absurd (both_ways _ own refl)

  -- STEPS OF ALL SHARDS AT ONCE: a conclusory packet
  pub after-conclusory : (values : Values) (seen decided : List TxnId) (packet : Packet) (packets : List Packet) → Sound txn runs packet → is_conclusory packet.body ≡ true
      → AllMeet txn runs lasts values seen decided (packet ∷ packets) → AllMeet txn runs lasts values seen (packet.id ∷ decided) packets
  after-conclusory values seen decided packet packets sound concludes meet shard = by_test (names_shard shard packet) refl (meet shard).0 (meet shard).1
    where
      by_test : (test : Bool) → names_shard shard packet ≡ test → (point : Point)
          → Meets txn (runs shard) (lasts shard) shard values seen decided point (elim test [ true ↦ cut shard packet ∷ on_shard shard packets | false ↦ on_shard shard packets ])
          → (next : Point) × Meets txn (runs shard) (lasts shard) shard values seen (packet.id ∷ decided) next (on_shard shard packets)
      by_test true named point meets =
          let step = run-conclusory point.values point.seen point.decided (cut shard packet) (on_shard shard packets) (conclusory-cut shard packet.body ∙ concludes) in (
            record { values = point.values; seen = point.seen; decided = packet.id ∷ point.decided },
            record {
              agree = meets.agree;
              seen_is = meets.seen_is;
              decided_is = λ id part. ap (λ test. same_id id packet.id || test) (meets.decided_is id part);
              inside = λ served stands. meets.inside served (subst (λ (l : List Served). StandsIn served l) (sym step) stands);
              ends = sym (values-conclusory point.values point.seen point.decided (cut shard packet) (on_shard shard packets) (conclusory-cut shard packet.body ∙ concludes)) ∙ meets.ends;
            },
          )
      by_test false unnamed point meets = (
        point,
        record {
          agree = meets.agree;
          seen_is = meets.seen_is;
          decided_is = λ id part. ap (λ test. test || is_among id decided) (other_id txn runs shard id packet sound unnamed part) ∙ meets.decided_is id part;
          inside = meets.inside;
          ends = meets.ends;
        },
      )

  -- a packet of a transaction that came
  pub after-repeated : (values : Values) (seen decided : List TxnId) (packet : Packet) (packets : List Packet) → Sound txn runs packet → is_conclusory packet.body ≡ false
      → is_among packet.id seen ≡ true
      → AllMeet txn runs lasts values seen decided (packet ∷ packets) → AllMeet txn runs lasts values seen decided packets
  after-repeated values seen decided packet packets sound own again meet shard = by_test (names_shard shard packet) refl (meet shard).0 (meet shard).1
    where
      by_test : (test : Bool) → names_shard shard packet ≡ test → (point : Point)
          → Meets txn (runs shard) (lasts shard) shard values seen decided point (elim test [ true ↦ cut shard packet ∷ on_shard shard packets | false ↦ on_shard shard packets ])
          → (next : Point) × Meets txn (runs shard) (lasts shard) shard values seen decided next (on_shard shard packets)
      by_test true named point meets =
          let there = sym (meets.seen_is packet.id (sym (sound.shards shard) ∙ named)) ∙ again in
          let step = run-repeated point.values point.seen point.decided (cut shard packet) (on_shard shard packets) (conclusory-cut shard packet.body ∙ own) there in (
            point,
            record {
              agree = meets.agree;
              seen_is = meets.seen_is;
              decided_is = meets.decided_is;
              inside = λ served stands. meets.inside served (subst (λ (l : List Served). StandsIn served l) (sym step) stands);
              ends = sym (values-repeated point.values point.seen point.decided (cut shard packet) (on_shard shard packets) (conclusory-cut shard packet.body ∙ own) there) ∙ meets.ends;
            },
          )
      by_test false unnamed point meets = (point, meets)

  -- and a first one
  module _ (values : Values) (seen decided : List TxnId) (packet : Packet) (packets : List Packet) (sound : Sound txn runs packet) (sounds : Each (Sound txn runs) packets)
      (own : is_conclusory packet.body ≡ false) (new : is_among packet.id seen ≡ false) (meet : AllMeet txn runs lasts values seen decided (packet ∷ packets)) where
    -- a shard that takes part answers as the serial map says
    pub answered_there : (shard : ShardId) → takes_part shard (txn packet.id) ≡ true → StandsIn (answer_to packet.id (shard_answer shard (txn packet.id) values)) (runs shard)
    answered_there shard part = by_test (names_shard shard packet) refl (meet shard).0 (meet shard).1
      where
        by_test : (test : Bool) → names_shard shard packet ≡ test → (point : Point)
            → Meets txn (runs shard) (lasts shard) shard values seen decided point (elim test [ true ↦ cut shard packet ∷ on_shard shard packets | false ↦ on_shard shard packets ])
            → StandsIn (answer_to packet.id (shard_answer shard (txn packet.id) values)) (runs shard)
        by_test true named point meets =
            let step = run-acts point.values point.seen point.decided (cut shard packet) (on_shard shard packets) (conclusory-cut shard packet.body ∙ own) (sym (meets.seen_is packet.id part) ∙ new) in
            meets.inside (answer_to packet.id (shard_answer shard (txn packet.id) values))
            (subst (λ (l : List Served). StandsIn (answer_to packet.id (shard_answer shard (txn packet.id) values)) l) (sym step)
            (inl (ap (answer_to packet.id) (answer-cut shard txn runs packet.id packet.body values point.values own sound.body meets.agree))))
        by_test false unnamed point meets = absurd (both_ways _ unnamed (sound.shards shard ∙ part))

    module _ (once : (shard : ShardId) (some other : Answer) → StandsIn (answer_to packet.id some) (runs shard) → StandsIn (answer_to packet.id other) (runs shard) → some ≡ other) where
      -- values that all its shards answered are those of the serial map
      pub read_is : (plan : PlanValue) (read : List (Option ℕ)) → txn packet.id ≡ General plan → OneForEach plan.keys read
          → ((shard : ShardId) → takes_part shard (txn packet.id) ≡ true → StandsIn (answer_to packet.id (Answer.Values (share (is_on shard) plan.keys read))) (runs shard))
          → read ≡ map values plan.keys
      read_is plan read is each answered =
          shares_decide (Option ℕ) (λ key. key) plan.keys read (map values plan.keys) each (values-one_each plan.keys values)
          (λ shard on. same_share shard (ap (takes_part shard) is ∙ (ap (λ keys. any_on keys shard) (sym (map-id plan.keys)) ∙ on)))
        where
          same_share : (shard : ShardId) → takes_part shard (txn packet.id) ≡ true → share (is_on shard) plan.keys read ≡ share (is_on shard) plan.keys (map values plan.keys)
          same_share shard part =
              let both : Answer.Values (share (is_on shard) plan.keys read) ≡ Answer.Values (share (is_on shard) plan.keys (map values plan.keys)) =
              once shard _ _ (answered shard part) (answered_there shard part) ∙ ap (λ t. shard_answer shard t values) is in
              cc

      -- A COMMIT'S WRITES are the plan's over the serial map, and the guards hold there
      pub committed_here : (plan : PlanValue) → txn packet.id ≡ General plan → CanRunPlan plan → outcome_from (outcome_at packet.id packets) ≡ Outcome.Committed
          → (writes_to_come packet.id packets ≡ writes_from plan.settings values) × (guards_hold plan.guards values ≡ true)
      committed_here plan is fits outcome = by_commit (committed txn runs packet.id packets sounds (is_committed (outcome_at packet.id packets) outcome))
        where
          by_commit : CommitSound txn runs packet.id (writes_to_come packet.id packets)
              → (writes_to_come packet.id packets ≡ writes_from plan.settings values) × (guards_hold plan.guards values ≡ true)
          by_commit commit =
              let plans : General commit.plan ≡ General plan = sym commit.is ∙ is in
              let same : commit.plan ≡ plan = cc in
              let read = read_is commit.plan commit.values commit.is commit.each commit.answered in
              let fit = subst CanRunPlan (sym same) fits in
              let writes = commit.writes_are
              ∙ (ap (λ v. writes_from commit.plan.settings (value_in commit.plan.keys v)) read
              ∙ writes_from-map commit.plan.keys values commit.plan.settings (settings_locked commit.plan fit)) in
              let guards = sym (guards_hold-map commit.plan.keys values commit.plan.guards (guards_locked commit.plan fit))
              ∙ (ap (λ v. guards_hold commit.plan.guards (value_in commit.plan.keys v)) (sym read) ∙ commit.guards) in
              (writes ∙ ap (λ (p : PlanValue). writes_from p.settings values) same, ap (λ (p : PlanValue). guards_hold p.guards values) (sym same) ∙ guards)

      pub after-acts : AllMeet txn runs lasts (left_by_txn (txn packet.id) (first_line packet decided packets).outcome values) (packet.id ∷ seen) decided packets
      after-acts shard = by_test (names_shard shard packet) refl (meet shard).0 (meet shard).1
        where
          by_test : (test : Bool) → names_shard shard packet ≡ test → (point : Point)
              → Meets txn (runs shard) (lasts shard) shard values seen decided point (elim test [ true ↦ cut shard packet ∷ on_shard shard packets | false ↦ on_shard shard packets ])
              → (next : Point)
              × Meets txn (runs shard) (lasts shard) shard (left_by_txn (txn packet.id) (first_line packet decided packets).outcome values) (packet.id ∷ seen) decided next (on_shard shard packets)
          by_test true named point meets =
              let part = sym (sound.shards shard) ∙ named in
              let step = run-acts point.values point.seen point.decided (cut shard packet) (on_shard shard packets) (conclusory-cut shard packet.body ∙ own) (sym (meets.seen_is packet.id part) ∙ new) in (
                record {
                  values = left_after (cut_body shard packet.body) (writes_at packet.id point.decided (on_shard shard packets)) point.values;
                  seen = packet.id ∷ point.seen;
                  decided = point.decided;
                },
                record {
                  agree = left-here shard packet.id packet.body (is_among packet.id decided) (is_among packet.id point.decided) (outcome_at packet.id packets) values point.values
                      (writes_to_come packet.id packets) (writes_in packet.id (on_shard shard packets)) own sound.body sound.can_run meets.agree (meets.decided_is packet.id part)
                      (writes-on_shard txn runs shard packet.id packets sounds part) (λ plan is fits outcome. (committed_here plan is fits outcome).0) (uncommitted packet.id packets);
                  seen_is = λ id takes. ap (λ test. same_id id packet.id || test) (meets.seen_is id takes);
                  decided_is = meets.decided_is;
                  inside = λ served stands. meets.inside served (subst (λ (l : List Served). StandsIn served l) (sym step) (inr stands));
                  ends = sym (values-acts point.values point.seen point.decided (cut shard packet) (on_shard shard packets) (conclusory-cut shard packet.body ∙ own) (sym (meets.seen_is packet.id part) ∙ new)) ∙ meets.ends;
                },
              )
          by_test false unnamed point meets = (
            point,
            record {
              agree = left-off shard (txn packet.id) (first_line packet decided packets).outcome values point.values sound.can_run (sym (sound.shards shard) ∙ unnamed) meets.agree;
              seen_is = λ id takes. ap (λ test. test || is_among id seen) (other_id txn runs shard id packet sound unnamed takes) ∙ meets.seen_is id takes;
              decided_is = meets.decided_is;
              inside = meets.inside;
              ends = meets.ends;
            },
          )
