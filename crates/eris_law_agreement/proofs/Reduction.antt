-- EACH EPOCH OF A RUN IS A RUN OF THE MACHINE OF ONE EPOCH, moment by moment. So all that is shown of one epoch by
-- itself holds in each epoch of every run.
use Rattle.std.proofs.Common.{◌≡◌, ◌⊎◌, inl, inr, ℕ, zero, suc, ◌+◌, ◌<◌, ◌≤◌, List, [], ◌∷◌, ◌++◌, length, replicate, map, Some, refl, sym, ap, ◌∙◌, subst, arith}
use Rattle.std.specs.List.{range_with_len}
use Rattle.std.specs.Prelude.{slice_get}
use Rattle.eris_base.specs.declared.ids.Epoch.{Epoch}
use Rattle.eris_base.specs.declared.ids.Node.TheVariants.{Coordinator}
use Rattle.eris_base.specs.declared.ids.ReplicaId.{ReplicaId}
use Rattle.eris_base.specs.declared.ids.ShardId.{ShardId}
use Rattle.eris_base.specs.ConfigLimits.{ConfigValue}
use Rattle.eris_base.specs.Each.{Each}
use Rattle.eris_base.proofs.Each.{Each-right, Each-weaker}
use Rattle.eris_base.proofs.Numbers.{last_or}
use Rattle.eris_epoch.specs.Closing.{shard_log}
use Rattle.eris_msg.specs.declared.message.Message.{Message}
use Rattle.eris_codec.proofs.LastItems.{at_end}
use Rattle.eris_event.specs.declared.event.Event.{Event}
use Rattle.eris_sequencer.specs.declared.stamping.Stamping.{Stamping}
use Rattle.eris_sequencer.specs.Sequencers.{new_stamping, first_stampings}
use Rattle.eris_rules.specs.declared.replica_input.ReplicaInput.{ReplicaInput}
use Rattle.eris_rules.specs.Addressees.{replica_count}
use Rattle.eris_rules.specs.CoordStates.{first_coordinator, begun_epoch}
use Rattle.eris_rules.specs.EpochCoords.{epoch_coord_step, nudge_row}
use Rattle.eris_rules.specs.EpochMessages.{EpochMessage, EpochSend}
use Rattle.eris_rules.specs.EpochReplicas.{EpochInput, epoch_step}
use Rattle.eris_rules.specs.Outer.{inner_of}
use Rattle.eris_rules.specs.ReplicaStates.{EpochReplica, ReplicaState, first_state, begun, fresh}
use Rattle.eris_rules.specs.Replicas.{member}
use Rattle.eris_rules.specs.Worlds.{first_world, first_replicas, in_row, replica_at}
use Rattle.eris_law_epoch.specs.EpochWorlds.{EpochSystem, EpochWorld, EpochEvent, first_epoch_world, fresh_replicas, after_replica, after_coordinator, Nudges, happens, perhaps, moment}
use Rattle.eris_law_epoch.specs.Fine.{IsFineMessage, known_in}
use Rattle.eris_law_epoch.specs.Members.{In}
use Rattle.eris_law_epoch.proofs.FineWorlds.{all_fine}
use Rattle.eris_law_epoch.proofs.Frame.{first_fresh}
use Rattle.eris_law_epoch.proofs.Members.{OfMessage}
use Rattle.eris_law_epoch.proofs.StampList.{stamps}
use Rattle.eris_law_agreement.specs.Alone.{stamping_or, stamping_of, state_of, IsAlone, Follows}
use Rattle.eris_law_agreement.specs.ClosedBelow.{closed_below}
use Rattle.eris_law_agreement.specs.EpochRuns.{servers_at, system_of, IsEpochRun}
use Rattle.eris_law_agreement.specs.Servers.{Servers, servers_of}
use Rattle.eris_law_agreement.specs.WorldMoments.{moment_from}
use Rattle.eris_law_agreement.proofs.Cells.{state_of-some}
use Rattle.eris_law_agreement.proofs.EpochInvariants.{first_states, holds_at}
use Rattle.eris_law_agreement.proofs.FollowSteps.{SayTheirEpochs, by_input, by_notice, nudge_happens, inner_at, same_member, follow}
use Rattle.eris_law_agreement.proofs.Growth.{closed_kept}
use Rattle.eris_law_agreement.proofs.Moves.{me_at, Came, next_move}
use Rattle.eris_law_agreement.proofs.ReplicaLeaves.{Means}
use Rattle.eris_law_agreement.proofs.SaidIn.{SaidIn, fine_said}

-- ---- the moments of a longer list of the epoch's events
get-front : {X : Type 0} (xs ys : List X) (k : ℕ) → k < length xs → slice_get (xs ++ ys) k ≡ slice_get xs k
get-front [] ys k lt = absurd (omega arith)
get-front (x ∷ xs) ys zero lt = refl
get-front (x ∷ xs) ys (suc k) lt = get-front xs ys k (omega arith)

pub moment-front : (system : EpochSystem) (own more : List EpochEvent) (k : ℕ) → k ≤ length own → moment system (own ++ more) k ≡ moment system own k
unfolding moment
moment-front system own more zero le = refl
moment-front system own more (suc k) le = (λ i. perhaps system (moment-front system own more k (omega arith) i) (get-front own more k (omega arith) i))

moment-last : (system : EpochSystem) (own : List EpochEvent) (event : EpochEvent) → moment system (own ++ event ∷ []) (suc (length own)) ≡ happens system (moment system own (length own)) event
unfolding moment
moment-last system own event = (λ i. perhaps system (moment-front system own (event ∷ []) (length own) (omega arith) i) (at_end own event i))

moment-more : (system : EpochSystem) (own : List EpochEvent) (event : EpochEvent) (k : ℕ) → length own ≡ k → moment system (own ++ event ∷ []) (suc k) ≡ happens system (moment system own k) event
moment-more system own event k e = subst (λ n. moment system (own ++ event ∷ []) (suc n) ≡ happens system (moment system own n) event) e (moment-last system own event)

length-more : {X : Type 0} (xs : List X) (x : X) → length (xs ++ x ∷ []) ≡ suc (length xs)
length-more [] x = refl
length-more (y ∷ xs) x = ap suc (length-more xs x)

-- what an event of the epoch sends is said in the epoch
said_then : (system : EpochSystem) (own : List EpochEvent) (event : EpochEvent) (k : ℕ) (sends : List EpochSend) → length own ≡ k → (happens system (moment system own k) event).sent ≡ (moment system own k).sent ++ sends
    → Each (λ one. SaidIn system.epoch one.message) sends
said_then system own event k sends count e =
    let all = (all_fine system (own ++ event ∷ []) (suc k)).sent in
    let said : Each (λ (one : EpochSend). SaidIn system.epoch one.message) (moment system (own ++ event ∷ []) (suc k)).sent =
    Each-weaker (OfMessage (IsFineMessage system.epoch (known_in (moment system (own ++ event ∷ []) (suc k))))) (λ (one : EpochSend). SaidIn system.epoch one.message)
    (λ one fine. fine_said system.epoch (known_in (moment system (own ++ event ∷ []) (suc k))) one.message fine) (moment system (own ++ event ∷ []) (suc k)).sent all in
    Each-right (λ (one : EpochSend). SaidIn system.epoch one.message) (moment system own k).sent sends
    (subst (λ list. Each (λ (one : EpochSend). SaidIn system.epoch one.message) list) (ap (λ (w : EpochWorld). w.sent) (moment-more system own event k count) ∙ e) said)

-- ---- the start
get-there : {X Y : Type 0} (n r : ℕ) (x : X) (y z : Y) → slice_get (replicate n y) r ≡ Some z → (t : X) × (slice_get (replicate n x) r ≡ Some t)
get-there zero r x y z h = absurd (cc)
get-there (suc n) zero x y z h = (x, refl)
get-there (suc n) (suc r) x y z h = get-there n r x y z h

rows_there : {X Y : Type 0} (from many n s r : ℕ) (make : ℕ → X) (other : ℕ → Y) (z : Y) → in_row (slice_get (map (λ number. replicate n (other number)) (range_with_len from many)) s) r ≡ Some z
    → (t : X) × (in_row (slice_get (map (λ number. replicate n (make number)) (range_with_len from many)) s) r ≡ Some t)
rows_there from zero n s r make other z h = absurd (cc)
rows_there from (suc many) n zero r make other z h = get-there n r (make from) (other from) z h
rows_there from (suc many) n (suc s) r make other z h = rows_there (from + 1) many n s r make other z h

first_there : (system : EpochSystem) (shard : ShardId) (replica : ReplicaId) (state : ReplicaState) → replica_at (first_world system.config).replicas shard replica ≡ Some state
    → (inner : EpochReplica) × (replica_at (first_epoch_world system).replicas shard replica ≡ Some inner)
unfolding first_world first_replicas first_epoch_world fresh_replicas replica_at
first_there system shard replica state h =
    rows_there 0 system.config.shards (replica_count system.config) shard.0 replica.0 (λ number. fresh system.epoch (record { 0 = number })) (λ number. first_state (record { 0 = number })) state h

first_stamped : (config : ConfigValue) (epoch : Epoch) → new_stamping config epoch ≡ stamping_of config (first_stampings config) epoch
unfolding stamping_of first_stampings
first_stamped config epoch = sym (by_number epoch.0)
  where
    by_number : (n : ℕ) → stamping_or (new_stamping config (record { 0 = n })) (slice_get (new_stamping config (record { 0 = 0 }) ∷ []) n) ≡ new_stamping config (record { 0 = n })
    by_number zero = refl
    by_number (suc n) = refl

first_inner : (shard : ShardId) (epoch : Epoch) → (first_state shard).epoch ≡ epoch → (first_state shard).inner ≡ fresh epoch shard
unfolding first_state begun
first_inner shard epoch e = ap (λ x. fresh x shard) e

first_alone : (system : EpochSystem) → IsAlone system (servers_of (first_world system.config)) (first_epoch_world system)
unfolding first_world first_epoch_world first_coordinator begun_epoch
first_alone system = record {
  there = λ shard replica e. first_fresh system shard replica ∙ sym (ap (λ (x : ReplicaState). x.inner) (first_states system.config shard replica)
      ∙ first_inner shard system.epoch (ap (λ (x : ReplicaState). x.epoch) (sym (first_states system.config shard replica)) ∙ e));
  not_yet = λ shard replica lt. first_fresh system shard replica;
  found = first_there system;
  coordinator = λ e. refl;
  coordinator_not_yet = λ lt. refl;
  stamping = first_stamped system.config system.epoch;
  sent = λ node message inner i e. absurd i;
}

module _ (config : ConfigValue) (events : List Event) (last : ℕ) where
  abbrev at : ℕ → Servers
  at k = servers_at config events k

  abbrev system : Epoch → EpochSystem
  system epoch = system_of config events last epoch

  -- a replica in the epoch has its prior
  pub has_prior : (k : ℕ) → k ≤ last → (epoch : Epoch) (shard : ShardId) (replica : ReplicaId) → (state_of (at k).replicas shard replica).epoch ≡ epoch
      → (state_of (at k).replicas shard replica).prior ≡ (system epoch).prior shard
  has_prior k le epoch shard replica e =
      let hold = (holds_at config events k).replicas shard replica in
      let low : epoch.0 ≤ (at k).coordinator.current.0 = subst (λ (x : Epoch). x.0 ≤ (at k).coordinator.current.0) e hold.epoch in
      hold.prior ∙ ap (λ (x : Epoch). shard_log (closed_below x (at k).coordinator.closed) shard) e ∙ ap (λ closed. shard_log closed shard) (sym (closed_kept config events epoch k last le low))

  has_prior_at : (k : ℕ) → k ≤ last → (epoch : Epoch) (shard : ShardId) (replica : ReplicaId) (state : ReplicaState) → replica_at (at k).replicas shard replica ≡ Some state → state.epoch ≡ epoch
      → state.prior ≡ (system epoch).prior shard
  has_prior_at k le epoch shard replica state h e =
      let was = state_of-some (at k).replicas shard replica state h in
      ap (λ (x : ReplicaState). x.prior) (sym was) ∙ has_prior k le epoch shard replica (ap (λ (x : ReplicaState). x.epoch) was ∙ e)

  Run : ℕ → Epoch → Type 0
  Run k epoch = (own : List EpochEvent) × IsEpochRun config events last epoch k own

  -- what steps within epochs say at this moment is said in these epochs, since each epoch is fine by itself
  module _ (k : ℕ) (le : k ≤ last) (runs : (epoch : Epoch) → Run k epoch) where
    own : Epoch → List EpochEvent
    unfolding Run
    own epoch = (runs epoch).0

    own_run : (epoch : Epoch) → IsEpochRun config events last epoch k (own epoch)
    unfolding own Run
    own_run epoch = (runs epoch).1

    abbrev alone : Epoch → EpochWorld
    alone epoch = moment (system epoch) (own epoch) k

    is_alone : (epoch : Epoch) → IsAlone (system epoch) (at k) (alone epoch)
    is_alone epoch = (own_run epoch).alone k (omega arith)

    say_replica : (shard : ShardId) (replica : ReplicaId) (state : ReplicaState) (input : ReplicaInput) (inner : EpochInput) → replica_at (at k).replicas shard replica ≡ Some state
        → Came (at k).sent shard replica input → Means (me_at config shard replica) state.epoch input inner
        → Each (λ one. SaidIn state.epoch one.message) (epoch_step (member (me_at config shard replica) state) state.inner inner).sends
    unfolding after_replica
    say_replica shard replica state input inner h came means =
        let epoch : Epoch = state.epoch in
        let found = inner_at config epoch (system epoch).prior (at k) (alone epoch) (is_alone epoch) shard replica state h refl in
        let event = by_input config epoch (system epoch).prior (at k) (alone epoch) (is_alone epoch) shard replica state.inner input inner found came means in
        let same = same_member config epoch (system epoch).prior (at k) (alone epoch) (is_alone epoch) shard replica state (has_prior_at k le epoch shard replica state h refl) in
        said_then (system epoch) (own epoch) event.0 k _ (own_run epoch).count
        (ap (λ (w : EpochWorld). w.sent) event.1 ∙ ap (λ m. (alone epoch).sent ++ (epoch_step m state.inner inner).sends) (sym same))

    say_coordinator : (message : Message) (inner : EpochMessage) → In (record { to = Coordinator; message = message }) (at k).sent
        → inner_of message ≡ Some (record { epoch = (at k).coordinator.current; message = inner })
        → Each (λ one. SaidIn (at k).coordinator.current one.message) (epoch_coord_step config (at k).coordinator.inner inner).sends
    unfolding after_coordinator
    say_coordinator message inner i said =
        let epoch : Epoch = (at k).coordinator.current in
        let event = by_notice config epoch (system epoch).prior (at k) (alone epoch) (is_alone epoch) inner ((is_alone epoch).sent _ message inner i said) in
        said_then (system epoch) (own epoch) event.0 k _ (own_run epoch).count
        (ap (λ (w : EpochWorld). w.sent) event.1 ∙ ap (λ c. (alone epoch).sent ++ (epoch_coord_step config c inner).sends) ((is_alone epoch).coordinator refl))

    say_nudged : Each (λ one. SaidIn (at k).coordinator.current one.message) (nudge_row config (at k).coordinator.inner).sends
    unfolding after_coordinator
    say_nudged =
        let epoch : Epoch = (at k).coordinator.current in
        said_then (system epoch) (own epoch) Nudges k _ (own_run epoch).count
        (ap (λ (w : EpochWorld). w.sent) (nudge_happens config epoch (system epoch).prior (at k) (alone epoch) (is_alone epoch))
        ∙ ap (λ c. (alone epoch).sent ++ (nudge_row config c).sends) ((is_alone epoch).coordinator refl))

    say_sequencer : (epoch : Epoch) (stamping : Stamping) → slice_get (at k).stampings epoch.0 ≡ Some stamping → stamping.sequencer.epoch ≡ epoch
    unfolding stamping_of
    say_sequencer epoch stamping h =
        let same : (alone epoch).stamping ≡ stamping = (is_alone epoch).stamping ∙ ap (stamping_or (new_stamping config epoch)) h in
        ap (λ (s : Stamping). s.sequencer.epoch) (sym same) ∙ (stamps (system epoch) (own epoch) k).epoch

    say : SayTheirEpochs config (at k)
    say = record { replicas = say_replica; coordinator = say_coordinator; nudged = say_nudged; sequencers = say_sequencer }

    at_last : (n m : ℕ) → n ≤ m → (n < m) ⊎ (n ≡ m)
    at_last n m h = grind arith

    by_step : (epoch : Epoch) (event : EpochEvent) → moment (system epoch) (own epoch ++ event ∷ []) (suc k) ≡ happens (system epoch) (alone epoch) event
        → Follows (system epoch) (at k) (at (suc k)) (alone epoch) (happens (system epoch) (alone epoch) event) → (n : ℕ) → (n < k) ⊎ (n ≡ k)
        → Follows (system epoch) (at n) (at (suc n)) (moment (system epoch) (own epoch ++ event ∷ []) n) (moment (system epoch) (own epoch ++ event ∷ []) (suc n))
    by_step epoch event next follows n (inl lt) =
        let run = own_run epoch in
        let count = run.count in
        subst (λ w. Follows (system epoch) (at n) (at (suc n)) w (moment (system epoch) (own epoch ++ event ∷ []) (suc n))) (sym (moment-front (system epoch) (own epoch) (event ∷ []) n (omega arith)))
        (subst (λ w. Follows (system epoch) (at n) (at (suc n)) (moment (system epoch) (own epoch) n) w) (sym (moment-front (system epoch) (own epoch) (event ∷ []) (suc n) (omega arith))) (run.step n lt))
    by_step epoch event next follows n (inr e) =
        let count = (own_run epoch).count in
        subst (λ m. Follows (system epoch) (at m) (at (suc m)) (moment (system epoch) (own epoch ++ event ∷ []) m) (moment (system epoch) (own epoch ++ event ∷ []) (suc m))) (sym e)
        (subst (λ w. Follows (system epoch) (at k) (at (suc k)) w (moment (system epoch) (own epoch ++ event ∷ []) (suc k))) (sym (moment-front (system epoch) (own epoch) (event ∷ []) k (omega arith)))
        (subst (λ w. Follows (system epoch) (at k) (at (suc k)) (alone epoch) w) (sym next) follows))

    -- one event more
    longer : suc k ≤ last → (epoch : Epoch) → Run (suc k) epoch
    unfolding Run
    longer up epoch =
        let more = follow config epoch (system epoch).prior (at k) (alone epoch) (is_alone epoch) say (has_prior_at k le epoch) (at (suc k)) (next_move config events k) in
        let run = own_run epoch in
        let list : List EpochEvent = own epoch ++ more.0 ∷ [] in
        let next : moment (system epoch) list (suc k) ≡ happens (system epoch) (alone epoch) more.0 = moment-more (system epoch) (own epoch) more.0 k run.count in (
          list,
          record {
            count = length-more (own epoch) more.0 ∙ ap suc run.count;
            alone = λ n low. elim (last_or n k low) [
              | inl i ↦ subst (IsAlone (system epoch) (at n)) (sym (moment-front (system epoch) (own epoch) (more.0 ∷ []) n (omega (arith, run.count, i)))) (run.alone n i)
              | inr e ↦ subst (λ m. IsAlone (system epoch) (at m) (moment (system epoch) list m)) (sym e) (subst (IsAlone (system epoch) (at (suc k))) (sym next) more.1.is_alone)
            ];
            step = λ n low. elim (last_or n k (omega (arith, low))) [
              | inl i ↦ by_step epoch more.0 next more.1 n (at_last n k i)
              | inr e ↦ absurd (omega (arith, low, e))
            ];
          },
        )

  first_run : (epoch : Epoch) → Run 0 epoch
  unfolding Run moment moment_from
  first_run epoch = (
    [],
    record {
      count = refl;
      alone = λ n low. let e : 0 ≡ n = omega arith in subst (λ m. IsAlone (system epoch) (at m) (moment (system epoch) [] m)) e (first_alone (system epoch));
      step = λ n low. absurd (omega arith);
    },
  )

  -- THE REDUCTION
  runs_upto : (k : ℕ) → k ≤ last → (epoch : Epoch) → Run k epoch
  runs_upto zero le epoch = first_run epoch
  runs_upto (suc k) le epoch = longer k (omega arith) (runs_upto k (omega arith)) le epoch

  -- the events of the epoch, up to the last moment
  pub own_events : Epoch → List EpochEvent
  unfolding Run
  own_events epoch = (runs_upto last (omega arith) epoch).0

  pub is_epoch_run : (epoch : Epoch) → IsEpochRun config events last epoch last (own_events epoch)
  unfolding own_events Run
  is_epoch_run epoch = (runs_upto last (omega arith) epoch).1
