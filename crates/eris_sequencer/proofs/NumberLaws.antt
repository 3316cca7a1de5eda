-- Within an epoch the numbers of a shard rise from packet to packet, so a number of a shard names one packet.
use Rattle.std.proofs.Common.{◌≡◌, ◌<◌, ◌≤◌, ◌+◌, ℕ, zero, suc, Bool, true, false, ◌||◌, ◌==◌, cond, Option, Some, None, List, [], ◌∷◌, ◌++◌, length, get_or, refl, ap, sym, ◌∙◌, subst, arith, ◌⊎◌, inl, inr}
use Rattle.std.specs.Prelude.{slice_set, slice_get, find}
use Rattle.std.specs.Option.{option_map}
use Rattle.std.proofs.lemmas.Bool.{eqb-true, cases_order}
use Rattle.std.proofs.lemmas.List.{append_assoc, append-nil}
use Rattle.std.proofs.lemmas.Option.{slice_get_within, get_or_from_slice_get}
use Rattle.eris_base.specs.declared.config.Config.{Config}
use Rattle.eris_base.specs.declared.ids.ClientId.{ClientId}
use Rattle.eris_base.specs.declared.ids.Epoch.{Epoch}
use Rattle.eris_base.specs.declared.ids.ShardId.{ShardId}
use Rattle.eris_base.specs.declared.ids.TxnId.{TxnId}
use Rattle.eris_base.specs.Each.{Each, EachAfter}
use Rattle.eris_base.specs.Places.{number_in}
use Rattle.eris_base.proofs.Each.{Each-append, Each-weaker}
use Rattle.eris_txn.specs.declared.body.Body.{Body}
use Rattle.eris_txn.specs.declared.packet.Packet.{Packet}
use Rattle.eris_txn.specs.Bodies.{participants_of, has_shard}
use Rattle.eris_msg.specs.declared.message.Message.{Message}
use Rattle.eris_sequencer.specs.declared.stamping.Stamping.{Stamping}
use Rattle.eris_sequencer.specs.SequencerValues.{SequencerValue}
use Rattle.eris_sequencer.specs.Asks.{ask}
use Rattle.eris_sequencer.specs.Sequencers.{new_stamping, first_stampings, replace}
use Rattle.eris_sequencer.specs.StampingFacts.{AreStampings}
use Rattle.eris_sequencer.specs.Stamps.{counter_of, next_places, with_numbers, has_counters, next_stamp, next_packet, after_stamp, stamped_next, AreRaised}
use Rattle.eris_sequencer.proofs.AskLaws.{unchanged, IsStamped, ask-cases}
use Rattle.eris_sequencer.proofs.SequencerLaws.{has_counters-at, in_place-shards}
use Rattle.eris_sequencer.proofs.StampLaws.{AreRaised-next}

-- the packet has this number on the shard
abbrev pub HasNumber : Packet → ShardId → ℕ → Type 0
HasNumber packet shard number = number_in packet.stamp.places shard ≡ Some number

-- its numbers are counted: from 1 to the counter of the shard
pub record IsCounted (counters : List ℕ) (packet : Packet) : Type 0 where
  pub at : (shard : ShardId) (number : ℕ) → HasNumber packet shard number → (1 ≤ number) × (number ≤ counter_of counters shard)

-- its numbers are above those of an earlier packet
pub record IsAbove (packet earlier : Packet) : Type 0 where
  pub at : (shard : ShardId) (low high : ℕ) → HasNumber earlier shard low → HasNumber packet shard high → low < high

-- what the packets of one sequencer keep
pub record AreNumbered (stamping : Stamping) : Type 0 where
  pub counted : Each (IsCounted stamping.sequencer.counters) stamping.stamped
  pub rising : EachAfter (λ before packet. Each (IsAbove packet) before) [] stamping.stamped
  pub of_epoch : Each (λ packet. packet.stamp.epoch ≡ stamping.sequencer.epoch) stamping.stamped

-- ---- the numbers of the next packet
pub number_in-next : (counters : List ℕ) (shards : List ShardId) (shard : ShardId)
    → number_in (next_places counters shards) shard ≡ cond (has_shard shards shard) (Some (counter_of counters shard + 1)) None
unfolding next_places
number_in-next counters [] shard = refl
number_in-next counters (one ∷ shards) shard = by_test (one.0 == shard.0) refl (number_in-next counters shards shard)
  where
    rest : Option (ShardId × ℕ)
    rest = find (λ (place : ShardId × ℕ). place.0.0 == shard.0) (next_places counters shards)

    by_test : (b : Bool) → (one.0 == shard.0) ≡ b → option_map (λ (place : ShardId × ℕ). place.1) rest ≡ cond (has_shard shards shard) (Some (counter_of counters shard + 1)) None
        → option_map (λ (place : ShardId × ℕ). place.1) (cond b (Some (one, counter_of counters one + 1)) rest) ≡ cond (b || has_shard shards shard) (Some (counter_of counters shard + 1)) None
    by_test true e h = let same : one.0 ≡ shard.0 = eqb-true one.0 shard.0 e in ap (λ n. Some (counter_of counters (record { 0 = n }) + 1)) same
    by_test false e h = h

some_number : (b : Bool) (next number : ℕ) → cond b (Some next) None ≡ Some number → (b ≡ true) × (next ≡ number)
some_number true next number h = (refl, some_same h)
  where
    some_same : Some next ≡ Some number → next ≡ number
    some_same k = cc
some_number false next number h = cc

-- a number of the next packet is one above the counter, and its shard takes part
next-number : (sequencer : SequencerValue) (id : TxnId) (asker : ClientId) (body : Body) (shard : ShardId) (number : ℕ) → HasNumber (next_packet sequencer id asker body) shard number
    → (has_shard (participants_of body) shard ≡ true) × (counter_of sequencer.counters shard + 1 ≡ number)
unfolding next_packet next_stamp
next-number sequencer id asker body shard number h =
    some_number (has_shard (participants_of body) shard) (counter_of sequencer.counters shard + 1) number
    (sym (number_in-next sequencer.counters (participants_of body) shard) ∙ h)

-- counters never fall
rises : (before after : List ℕ) (shards : List ShardId) (shard : ShardId) → AreRaised before after shards → counter_of before shard ≤ counter_of after shard
rises before after shards shard raised = by_test (has_shard shards shard) (raised.at shard)
  where
    by_test : (b : Bool) → counter_of after shard ≡ cond b (counter_of before shard + 1) (counter_of before shard) → counter_of before shard ≤ counter_of after shard
    by_test true e = omega (arith, e)
    by_test false e = omega (arith, e)

-- an item at the end
EachAfter-more : {X : Type 0} (P : List X → X → Type 0) (before items : List X) (x : X) → EachAfter P before items → P (before ++ items) x → EachAfter P before (items ++ x ∷ [])
EachAfter-more P before [] x h k = (subst (λ xs. P xs x) (append-nil before) k, tt)
EachAfter-more P before (item ∷ items) x h k =
    (h.0, EachAfter-more P (before ++ item ∷ []) items x h.1 (subst (λ xs. P xs x) (sym (append_assoc before (item ∷ []) items)) k))

-- ---- kept by a stamping
pub AreNumbered-new : (config : Config) (epoch : Epoch) → AreNumbered (new_stamping config epoch)
unfolding new_stamping
AreNumbered-new config epoch = record { counted = tt; rising = tt; of_epoch = tt }

module _ (stamping : Stamping) (id : TxnId) (asker : ClientId) (body : Body) (counters : has_counters stamping.sequencer.counters (participants_of body) ≡ true) where
  abbrev more : Packet
  more = next_packet stamping.sequencer id asker body

  abbrev raised : List ℕ
  raised = with_numbers stamping.sequencer.counters (next_places stamping.sequencer.counters (participants_of body))

  are_raised : AreRaised stamping.sequencer.counters raised (participants_of body)
  are_raised = AreRaised-next stamping.sequencer.counters (participants_of body) counters

  still_counted : (packet : Packet) → IsCounted stamping.sequencer.counters packet → IsCounted raised packet
  still_counted packet counted =
      record { at = λ shard number h. let was = counted.at shard number h in (was.0, omega (arith, was.1, rises _ _ _ shard are_raised)) }

  more_counted : IsCounted raised more
  more_counted = record { at = λ shard number h. let next = next-number stamping.sequencer id asker body shard number h in counted shard number next.0 next.1 }
    where
      counted : (shard : ShardId) (number : ℕ) → has_shard (participants_of body) shard ≡ true → counter_of stamping.sequencer.counters shard + 1 ≡ number → (1 ≤ number) × (number ≤ counter_of raised shard)
      counted shard number named e =
          let is : counter_of raised shard ≡ counter_of stamping.sequencer.counters shard + 1 = are_raised.at shard ∙ ap (λ b. cond b (counter_of stamping.sequencer.counters shard + 1) (counter_of stamping.sequencer.counters shard)) named in
          (omega (arith, e), omega (arith, e, is))

  above : (earlier : Packet) → IsCounted stamping.sequencer.counters earlier → IsAbove more earlier
  above earlier counted =
      record {
        at = λ shard low high h k.
            let was = counted.at shard low h in
            let next = next-number stamping.sequencer id asker body shard high k in
            omega (arith, was.1, next.1);
      }

  pub AreNumbered-stamped : AreNumbered stamping → AreNumbered (stamped_next stamping id asker body)
  unfolding stamped_next after_stamp next_packet next_stamp
  AreNumbered-stamped numbered =
      record {
        counted = Each-append (IsCounted raised) stamping.stamped (more ∷ [])
            (Each-weaker (IsCounted stamping.sequencer.counters) (IsCounted raised) still_counted stamping.stamped numbered.counted) (more_counted, tt);
        rising = EachAfter-more (λ before packet. Each (IsAbove packet) before) [] stamping.stamped more numbered.rising
            (Each-weaker (IsCounted stamping.sequencer.counters) (IsAbove more) above stamping.stamped numbered.counted);
        of_epoch = Each-append (λ packet. packet.stamp.epoch ≡ stamping.sequencer.epoch) stamping.stamped (more ∷ []) numbered.of_epoch (refl, tt);
      }

-- ---- and by all calls
Each-set : {X : Type 0} (P : X → Type 0) (items : List X) (at : ℕ) (x : X) → Each P items → P x → Each P (slice_set items at x)
Each-set P [] at x h p = tt
Each-set P (item ∷ items) zero x h p = (p, h.1)
Each-set P (item ∷ items) (suc at) x h p = (h.0, Each-set P items at x h.1 p)

Each-get : {X : Type 0} (P : X → Type 0) (items : List X) (at : ℕ) (x : X) → Each P items → slice_get items at ≡ Some x → P x
Each-get P [] at x h e = cc
Each-get P (item ∷ items) zero x h e = subst P (some_same e) h.0
  where
    some_same : Some item ≡ Some x → item ≡ x
    some_same k = cc
Each-get P (item ∷ items) (suc at) x h e = Each-get P items at x h.1 e

pub numbered-first : (config : Config) → Each AreNumbered (first_stampings config)
unfolding first_stampings
numbered-first config = (AreNumbered-new config (record { 0 = 0 }), tt)

pub numbered-replaced : (config : Config) (stampings : List Stamping) → Each AreNumbered stampings → Each AreNumbered (replace config stampings)
unfolding replace
numbered-replaced config stampings numbered = Each-append AreNumbered stampings _ numbered (AreNumbered-new config (record { 0 = length stampings }), tt)

pub numbered-asked : (config : Config) (stampings : List Stamping) (epoch : Epoch) (message : Message) → AreStampings config stampings → Each AreNumbered stampings → Each AreNumbered (ask config stampings epoch message).stampings
numbered-asked config stampings epoch message facts numbered = by_cases (ask-cases config stampings epoch message)
  where
    by_cases : (ask config stampings epoch message ≡ unchanged stampings) ⊎ IsStamped config stampings epoch message (ask config stampings epoch message) → Each AreNumbered (ask config stampings epoch message).stampings
    by_cases (inl same) = subst (λ asked. Each AreNumbered asked.stampings) (sym same) numbered
    by_cases (inr stamped) =
        let within = slice_get_within stampings epoch.0 stamped.stamping stamped.found in
        let is = get_or_from_slice_get stampings epoch.0 stamped.stamping stamped.stamping stamped.found in
        let counters = has_counters-at config stampings (participants_of stamped.body) epoch.0 stamped.stamping facts.each (in_place-shards config stamped.asker stamped.id stamped.body stamped.in_place) within in
        let own = subst (λ one. has_counters one.sequencer.counters (participants_of stamped.body) ≡ true) is counters in
        subst (Each AreNumbered) (sym stamped.changes)
        (Each-set AreNumbered stampings epoch.0 _ numbered
        (AreNumbered-stamped stamped.stamping stamped.id stamped.asker stamped.body own (Each-get AreNumbered stampings epoch.0 stamped.stamping numbered stamped.found)))

-- ---- a number of a shard names one packet
-- a packet behind others is above each of them
above-earlier : (before packets : List Packet) → EachAfter (λ earlier packet. Each (IsAbove packet) earlier) before packets → (i : ℕ) (d earlier : Packet) → i < length packets
    → (j : ℕ) → slice_get before j ≡ Some earlier → IsAbove (get_or packets i d) earlier
above-earlier before [] h i d earlier lt j e = absurd (omega (arith, lt))
above-earlier before (packet ∷ packets) h zero d earlier lt j e = Each-get (IsAbove packet) before j earlier h.0 e
above-earlier before (packet ∷ packets) h (suc i) d earlier lt j e =
    above-earlier (before ++ packet ∷ []) packets h.1 i d earlier (omega (arith, lt)) j (kept before j e)
  where
    kept : (items : List Packet) (j : ℕ) → slice_get items j ≡ Some earlier → slice_get (items ++ packet ∷ []) j ≡ Some earlier
    kept [] j e = cc
    kept (item ∷ items) zero e = e
    kept (item ∷ items) (suc j) e = kept items j e

rising-above : (before packets : List Packet) → EachAfter (λ earlier packet. Each (IsAbove packet) earlier) before packets → (i j : ℕ) (d : Packet) → i < j → j < length packets
    → IsAbove (get_or packets j d) (get_or packets i d)
rising-above before [] h i j d lt below = absurd (omega (arith, below))
rising-above before (packet ∷ packets) h i zero d lt below = absurd (omega (arith, lt))
rising-above before (packet ∷ packets) h zero (suc j) d lt below =
    above-earlier (before ++ packet ∷ []) packets h.1 j d packet (omega (arith, below)) (length before) (last before)
  where
    last : (items : List Packet) → slice_get (items ++ packet ∷ []) (length items) ≡ Some packet
    last [] = refl
    last (item ∷ items) = last items
rising-above before (packet ∷ packets) h (suc i) (suc j) d lt below = rising-above (before ++ packet ∷ []) packets h.1 i j d (omega (arith, lt)) (omega (arith, below))

-- of two packets that a sequencer stamped, no number of a shard is given to both
pub number_names_one : (stamping : Stamping) → AreNumbered stamping → (i j : ℕ) (d : Packet) → i < length stamping.stamped → j < length stamping.stamped
    → (shard : ShardId) (number : ℕ) → HasNumber (get_or stamping.stamped i d) shard number → HasNumber (get_or stamping.stamped j d) shard number → i ≡ j
number_names_one stamping numbered i j d within also shard number h k = by_order (cases_order i j)
  where
    by_order : (i ≡ j) ⊎ ((i < j) ⊎ (j < i)) → i ≡ j
    by_order (inl same) = same
    by_order (inr (inl lt)) = let apart = (rising-above [] stamping.stamped numbered.rising i j d lt also).at shard number number h k in absurd (omega (arith, apart))
    by_order (inr (inr lt)) = let apart = (rising-above [] stamping.stamped numbered.rising j i d lt within).at shard number number k h in absurd (omega (arith, apart))
