-- On each shard the packets of an order with these origins are a well-formed list for the lock table. The packets of
-- one id agree, since its transaction says what they are; and a Commit finds its preliminary holding, since the
-- values that it was made of were said somewhere in the list. Hence what a shard says is what its plain run answers.
-- Used by the rules, and for closed cuts.
use Rattle.std.proofs.Common.{◌≡◌, ℕ, Bool, true, false, cond, Option, List, [], ◌∷◌, ◌++◌, refl, ap, sym, ◌∙◌, subst, append_assoc, append-nil, ◌⊎◌, inl, inr}
use Rattle.std.proofs.lemmas.Bool.{and_parts, both_ways, or_cases, or_left, or_right}
use Rattle.std.specs.List.{filter, list_all}
use Rattle.eris_base.specs.declared.ids.Phase.{Phase}
use Rattle.eris_base.specs.declared.ids.ShardId.{ShardId}
use Rattle.eris_base.specs.declared.ids.TxnId.{TxnId}
use Rattle.eris_base.specs.Each.{Each}
use Rattle.eris_base.proofs.Each.{Each-weaker}
use Rattle.eris_txn.specs.declared.answer.Answer.{Answer}
use Rattle.eris_txn.specs.declared.answer.Answer.TheVariants.{Aborted}
use Rattle.eris_txn.specs.declared.body.Body.{Body}
use Rattle.eris_txn.specs.declared.body.Body.TheVariants.{Independent, Prelim, Commit, Abort}
use Rattle.eris_txn.specs.declared.key.Key.{Key}
use Rattle.eris_txn.specs.declared.lock.Lock.{Lock}
use Rattle.eris_txn.specs.declared.op.Op.{Op}
use Rattle.eris_txn.specs.declared.packet.Packet.{Packet}
use Rattle.eris_txn.specs.declared.plan.Setting.{Setting}
use Rattle.eris_txn.specs.declared.plan.Write.{Write}
use Rattle.eris_txn.specs.declared.txn.Txn.{Txn}
use Rattle.eris_txn.specs.declared.txn.Txn.TheVariants.{Whole, General}
use Rattle.eris_txn.specs.Keys.{same_key, Values}
use Rattle.eris_txn.specs.PlanFaults.{is_among, sets}
use Rattle.eris_txn.specs.PlanValues.{PlanValue}
use Rattle.eris_txn.specs.Plans.{locks_in, locks_of, mode_of, write_of, writes_from}
use Rattle.eris_txn.proofs.KeyLaws.{same_key-refl, same_key-true}
use Rattle.eris_locks.specs.declared.shard_packet.ShardPacket.{ShardPacket}
use Rattle.eris_locks.specs.Law.{HoldsOrDecided, IsPlain, IsRight, Said, plain_answers}
use Rattle.eris_locks.specs.Locks.{alters}
use Rattle.eris_locks.specs.LockTable.{run_dones, run_state}
use Rattle.eris_locks.specs.ShardRun.{Served}
use Rattle.eris_locks.specs.Shards.{cut, cut_body, is_on, names_shard, on_shard}
use Rattle.eris_locks.specs.States.{StoreState, empty, phase_of}
use Rattle.eris_locks.specs.WellFormed.{Agree, AgreeWith, FindsHolding, WellFormed, is_commit}
use Rattle.eris_law_lock.proofs.Ended.{state_after}
use Rattle.eris_law_lock.proofs.Final.{answers_right}
use Rattle.eris_law_lock.proofs.InPart.{said_right}
use Rattle.eris_law_lock.proofs.Lost.{said_finds}
use Rattle.eris_serial.specs.Evidence.{BodyOrigin, CommitEvidence, HasCommitEvidence, Origins, SaidOn}
use Rattle.eris_serial.specs.Shares.{share}
use Rattle.eris_serial.specs.Transactions.{takes_part, CanRun}
use Rattle.eris_serial.proofs.SaidByLogs.{on_shard-append}
use Rattle.eris_law_serial.proofs.AtShard.{lock_on, write_on}
use Rattle.eris_law_serial.proofs.OrderOrigins.{same_plan}
use Rattle.eris_law_serial.proofs.ShardByShard.{settings_locked}
use Rattle.eris_law_serial.proofs.Sound.{BodySound, CommitSound, Sound}

-- THE WRITES OF A PLAN are on keys that its locks have alone
alters-locks : (shard : ShardId) (settings : List Setting) (keys : List Key) (key : Key) → is_among keys key ≡ true → sets settings key ≡ true → is_on shard key ≡ true
    → alters key (filter (lock_on shard) (locks_in settings keys)) ≡ true
alters-locks shard settings [] key among set on = cc
alters-locks shard settings (other ∷ keys) key among set on =
    by_key (or_cases (same_key other key) (is_among keys key) among) (λ rest. alters-locks shard settings keys key rest set on)
  where
    added : (test : Bool) → alters key (filter (lock_on shard) (locks_in settings keys)) ≡ true
        → alters key (cond test (record { key = other; mode = mode_of settings other } ∷ filter (lock_on shard) (locks_in settings keys)) (filter (lock_on shard) (locks_in settings keys))) ≡ true
    added true rest = or_right _ _ rest
    added false rest = rest

    here : same_key other key ≡ true
        → alters key (cond (is_on shard other) (record { key = other; mode = mode_of settings other } ∷ filter (lock_on shard) (locks_in settings keys)) (filter (lock_on shard) (locks_in settings keys))) ≡ true
    here same =
        let is = same_key-true other key same in
        rw (ap (is_on shard) is ∙ on, ap (sets settings) is ∙ set, same) refl

    by_key : ((same_key other key ≡ true) ⊎ (is_among keys key ≡ true)) → (is_among keys key ≡ true → alters key (filter (lock_on shard) (locks_in settings keys)) ≡ true)
        → alters key (filter (lock_on shard) (locks_in settings (other ∷ keys))) ≡ true
    by_key (inl same) rest = here same
    by_key (inr there) rest = added (is_on shard other) (rest there)

abbrev WritesAlter : List Write → List Lock → Type 0
WritesAlter writes locks = Each (λ write. alters write.key locks ≡ true) writes

writes-alter : (shard : ShardId) (all settings : List Setting) (keys : List Key) (values : Values) → list_all (λ setting. is_among keys setting.key) settings ≡ true
    → ((key : Key) → sets settings key ≡ true → sets all key ≡ true)
    → WritesAlter (filter (write_on shard) (writes_from settings values)) (filter (lock_on shard) (locks_in all keys))
writes-alter shard all [] keys values within inside = tt
writes-alter shard all (setting ∷ settings) keys values within inside =
    by_test (is_on shard setting.key) refl (writes-alter shard all settings keys values parts.1 (λ key set. inside key (or_right _ _ set)))
  where
    parts : (is_among keys setting.key ≡ true) × (list_all (λ s. is_among keys s.key) settings ≡ true)
    parts = and_parts (is_among keys setting.key) (list_all (λ s. is_among keys s.key) settings) within

    by_test : (test : Bool) → is_on shard setting.key ≡ test → WritesAlter (filter (write_on shard) (writes_from settings values)) (filter (lock_on shard) (locks_in all keys))
        → WritesAlter (cond test (write_of setting values ∷ filter (write_on shard) (writes_from settings values)) (filter (write_on shard) (writes_from settings values))) (filter (lock_on shard) (locks_in all keys))
    by_test true on rest = (alters-locks shard all keys setting.key parts.0 (inside setting.key (or_left _ _ (same_key-refl setting.key))) on, rest)
    by_test false off rest = rest

-- WHAT A PACKET IS ON A SHARD, by its transaction
abbrev pub ShareOrigin : (TxnId → Txn) → ShardId → TxnId → Body → Type 0
ShareOrigin txn shard id (Independent ops) = (all : List Op) × (txn id ≡ Whole all)
ShareOrigin txn shard id (Prelim locks) = (plan : PlanValue) × (txn id ≡ General plan) × (locks ≡ filter (lock_on shard) (locks_of plan))
ShareOrigin txn shard id (Commit keys writes) = (plan : PlanValue) × (txn id ≡ General plan) × WritesAlter writes (filter (lock_on shard) (locks_of plan))
ShareOrigin txn shard id (Abort keys) = Unit {0}

not_both : (txn : Txn) (ops : List Op) (plan : PlanValue) → txn ≡ Whole ops → txn ≡ General plan → ⊥
not_both txn ops plan is is' = cc

plan_locks : (shard : ShardId) (txn : Txn) (some other : PlanValue) → txn ≡ General some → txn ≡ General other
    → filter (lock_on shard) (locks_of some) ≡ filter (lock_on shard) (locks_of other)
plan_locks shard txn some other is is' = ap (λ (plan : PlanValue). filter (lock_on shard) (locks_of plan)) (same_plan txn some other is is')

-- packets of one id agree
agree_of : (txn : TxnId → Txn) (shard : ShardId) (id : TxnId) (some other : Body) → ShareOrigin txn shard id some → ShareOrigin txn shard id other → Agree some other
agree_of txn shard id (Independent ops) (Independent others) of of' = tt
agree_of txn shard id (Independent ops) (Prelim locks) of of' = not_both (txn id) of.0 of'.0 of.1 of'.1
agree_of txn shard id (Independent ops) (Commit keys writes) of of' = tt
agree_of txn shard id (Independent ops) (Abort keys) of of' = tt
agree_of txn shard id (Prelim locks) (Independent ops) of of' = not_both (txn id) of'.0 of.0 of'.1 of.1
agree_of txn shard id (Prelim locks) (Prelim others) of of' = of.2 ∙ (plan_locks shard (txn id) of.0 of'.0 of.1 of'.1 ∙ sym of'.2)
agree_of txn shard id (Prelim locks) (Commit keys writes) of of' = subst (WritesAlter writes) (plan_locks shard (txn id) of'.0 of.0 of'.1 of.1 ∙ sym of.2) of'.2
agree_of txn shard id (Prelim locks) (Abort keys) of of' = tt
agree_of txn shard id (Commit keys writes) (Independent ops) of of' = tt
agree_of txn shard id (Commit keys writes) (Prelim locks) of of' = subst (WritesAlter writes) (plan_locks shard (txn id) of.0 of'.0 of.1 of'.1 ∙ sym of'.2) of.2
agree_of txn shard id (Commit keys writes) (Commit others chosen) of of' = tt
agree_of txn shard id (Commit keys writes) (Abort others) of of' = tt
agree_of txn shard id (Abort keys) other of of' = tt

abbrev OfShare : (TxnId → Txn) → ShardId → ShardPacket → Type 0
OfShare txn shard packet = ShareOrigin txn shard packet.id packet.body

all_agree : (txn : TxnId → Txn) (shard : ShardId) (packets : List ShardPacket) → Each (OfShare txn shard) packets → Each (λ packet. AgreeWith packet packets) packets
all_agree txn shard packets of =
    Each-weaker (OfShare txn shard) (λ packet. AgreeWith packet packets)
    (λ packet here. Each-weaker (OfShare txn shard) (λ other. packet.id ≡ other.id → Agree packet.body other.body)
    (λ other there same. agree_of txn shard other.id packet.body other.body (subst (λ (id : TxnId). ShareOrigin txn shard id packet.body) same here) there) packets of) packets of

commit-cut : (shard : ShardId) (body : Body) → is_commit (cut_body shard body) ≡ is_commit body
commit-cut shard (Independent ops) = refl
commit-cut shard (Prelim locks) = refl
commit-cut shard (Commit keys writes) = refl
commit-cut shard (Abort keys) = refl

module _ (txn : TxnId → Txn) (order : List Packet) (origins : Origins txn order) where
  -- what is known of a packet
  pub record Known (packet : Packet) : Type 0 where
    pub can_run : CanRun (txn packet.id)
    pub shards : (shard : ShardId) → names_shard shard packet ≡ takes_part shard (txn packet.id)
    pub body : BodyOrigin (txn packet.id) packet.body
    pub commit : HasCommitEvidence txn order packet.id packet.body

  all_parts : (packets : List Packet) → Each (λ packet. CanRun (txn packet.id)) packets → Each (λ packet. (shard : ShardId) → names_shard shard packet ≡ takes_part shard (txn packet.id)) packets
      → Each (λ packet. BodyOrigin (txn packet.id) packet.body) packets → Each (λ packet. HasCommitEvidence txn order packet.id packet.body) packets → Each Known packets
  all_parts [] can_run shards bodies commits = tt
  all_parts (packet ∷ packets) can_run shards bodies commits = (
    record { can_run = can_run.0; shards = shards.0; body = bodies.0; commit = commits.0 },
    all_parts packets can_run.1 shards.1 bodies.1 commits.1,
  )

  pub all_known : Each Known order
  all_known = all_parts order origins.can_run origins.shards origins.bodies origins.commits

  share_of : (shard : ShardId) (id : TxnId) (body : Body) → CanRun (txn id) → BodyOrigin (txn id) body → HasCommitEvidence txn order id body → ShareOrigin txn shard id (cut_body shard body)
  share_of shard id (Independent ops) can_run origin commit = (ops, origin)
  share_of shard id (Prelim locks) can_run origin commit = (origin.0, origin.1, ap (filter (lock_on shard)) origin.2)
  share_of shard id (Commit keys writes) can_run origin commit = (
    commit.read.plan,
    commit.read.is,
    subst (λ (some : List Write). WritesAlter (filter (write_on shard) some) (filter (lock_on shard) (locks_of commit.read.plan))) (sym commit.writes_are)
        (writes-alter shard commit.read.plan.settings commit.read.plan.settings commit.read.plan.keys _ (settings_locked commit.read.plan (subst CanRun commit.read.is can_run)) (λ key set. set)),
  )
  share_of shard id (Abort keys) can_run origin commit = tt

  shares_on : (shard : ShardId) (packets : List Packet) → Each Known packets → Each (OfShare txn shard) (on_shard shard packets)
  shares_on shard [] known = tt
  shares_on shard (packet ∷ packets) known = by_test (names_shard shard packet) (shares_on shard packets known.1)
    where
      by_test : (named : Bool) → Each (OfShare txn shard) (on_shard shard packets)
          → Each (OfShare txn shard) (elim named [ true ↦ cut shard packet ∷ on_shard shard packets | false ↦ on_shard shard packets ])
      by_test true rest = (share_of shard packet.id packet.body known.0.can_run known.0.body known.0.commit, rest)
      by_test false rest = rest

  -- A COMMIT FINDS ITS PRELIMINARY HOLDING, where its id isn't decided
  pub finds_there : (shard : ShardId) (front after : List Packet) (packet : Packet) → order ≡ front ++ packet ∷ after → Known packet → names_shard shard packet ≡ true → is_commit packet.body ≡ true
      → HoldsOrDecided (run_state empty (on_shard shard front)) packet.id
  finds_there shard front after packet split known named = by_body packet.body refl known.commit
    where
      there : on_shard shard order ≡ on_shard shard front ++ cut shard packet ∷ on_shard shard after
      there = ap (on_shard shard) split ∙ (on_shard-append shard front (packet ∷ after) ∙ ap (λ l. on_shard shard front ++ l) (first (names_shard shard packet) named))
        where
          first : (test : Bool) → test ≡ true → elim test as (λ b. List ShardPacket) [ true ↦ cut shard packet ∷ on_shard shard after | false ↦ on_shard shard after ] ≡ cut shard packet ∷ on_shard shard after
          first true is = refl
          first false is = cc

      by_body : (body : Body) → packet.body ≡ body → HasCommitEvidence txn order packet.id body → is_commit body ≡ true → HoldsOrDecided (run_state empty (on_shard shard front)) packet.id
      by_body (Independent ops) is commit commits = absurd (both_ways _ refl commits)
      by_body (Prelim locks) is commit commits = absurd (both_ways _ refl commits)
      by_body (Commit keys writes) is commit commits =
          let answer = Answer.Values (share (is_on shard) commit.read.plan.keys commit.values) in
          said_finds packet.id answer (on_shard shard front) (on_shard shard after) (cut shard packet) refl (ap (λ b. phase_of (cut_body shard b)) is) refl
          (subst (λ (list : List ShardPacket). Said packet.id Phase.Prelim answer (run_dones empty list)) there (commit.read.said shard (sym (known.shards shard) ∙ named)))
      by_body (Abort keys) is commit commits = absurd (both_ways _ refl commits)

  finds : (shard : ShardId) (front packets : List Packet) → order ≡ front ++ packets → Each Known packets → FindsHolding (run_state empty (on_shard shard front)) (on_shard shard packets)
  finds shard front [] split known = tt
  finds shard front (packet ∷ packets) split known = by_test (names_shard shard packet) refl
      (subst (λ (list : List ShardPacket). FindsHolding (run_state empty list) (on_shard shard packets)) (on_shard-append shard front (packet ∷ []))
      (finds shard (front ++ packet ∷ []) packets (split ∙ sym (append_assoc front (packet ∷ []) packets)) known.1))
    where
      by_test : (test : Bool) → names_shard shard packet ≡ test
          → FindsHolding (run_state empty (on_shard shard front ++ elim test [ true ↦ cut shard packet ∷ [] | false ↦ [] ])) (on_shard shard packets)
          → FindsHolding (run_state empty (on_shard shard front)) (elim test [ true ↦ cut shard packet ∷ on_shard shard packets | false ↦ on_shard shard packets ])
      by_test true named rest = (
        (λ commits undecided. finds_there shard front packets packet split known.0 named (sym (commit-cut shard packet.body) ∙ commits) undecided),
        subst (λ (state : StoreState). FindsHolding state (on_shard shard packets)) (state_after (on_shard shard front) (cut shard packet ∷ []) empty) rest,
      )
      by_test false unnamed rest = subst (λ (list : List ShardPacket). FindsHolding (run_state empty list) (on_shard shard packets)) (append-nil (on_shard shard front)) rest

  -- ON EACH SHARD THE ORDER IS WELL FORMED
  pub well_formed : (shard : ShardId) → WellFormed (on_shard shard order)
  well_formed shard = record {
    agree = all_agree txn shard (on_shard shard order) (shares_on shard order all_known);
    finds = finds shard [] order refl all_known;
  }

  -- AND WHAT A SHARD SAYS IS RIGHT
  pub right : (shard : ShardId) (id : TxnId) (phase : Phase) (answer : Answer) → SaidOn shard id phase answer order → IsRight (on_shard shard order) phase id answer
  right shard id phase answer said = said_right (on_shard shard order) id phase answer (run_dones empty (on_shard shard order)) (answers_right (on_shard shard order) (well_formed shard)) said

  pub right_values : (shard : ShardId) (id : TxnId) (values : List (Option ℕ)) → SaidOn shard id Phase.Prelim (Answer.Values values) order → IsPlain (on_shard shard order) id (Answer.Values values)
  right_values shard id values said = by_right (right shard id Phase.Prelim (Answer.Values values) said)
    where
      clash : Answer.Values values ≡ Aborted → ⊥
      clash is = cc

      by_right : IsRight (on_shard shard order) Phase.Prelim id (Answer.Values values) → IsPlain (on_shard shard order) id (Answer.Values values)
      by_right (inl read) = read.plain
      by_right (inr early) = absurd (clash early.is)

  -- the shards' plain runs over the order
  abbrev pub runs_of : ShardId → List Served
  runs_of shard = plain_answers (on_shard shard order)

  commit_sound : (id : TxnId) (writes : List Write) → CommitEvidence txn id writes order → CommitSound txn runs_of id writes
  commit_sound id writes commit = record {
    plan = commit.read.plan;
    is = commit.read.is;
    values = commit.values;
    each = commit.read.each;
    guards = commit.guards;
    writes_are = commit.writes_are;
    answered = λ shard part. right_values shard id _ (commit.read.said shard part);
  }

  body_sound : (id : TxnId) (body : Body) → BodyOrigin (txn id) body → HasCommitEvidence txn order id body → BodySound txn runs_of id body
  body_sound id (Independent ops) origin commit = origin
  body_sound id (Prelim locks) origin commit = record { plan = origin.0; is = origin.1; locks_are = origin.2 }
  body_sound id (Commit keys writes) origin commit = commit_sound id writes commit
  body_sound id (Abort keys) origin commit = tt

  -- EACH PACKET IS SOUND by the shards' plain runs
  pub all_sound : Each (Sound txn runs_of) order
  all_sound =
      Each-weaker Known (Sound txn runs_of)
      (λ packet known. record { shards = known.shards; can_run = known.can_run; body = body_sound packet.id packet.body known.body known.commit }) order all_known
