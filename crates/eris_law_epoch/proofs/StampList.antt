-- The list of an epoch's sequencer at each moment: numbers 1, 2, 3, .. on each shard, each naming one packet.
use Rattle.std.proofs.Common.{◌≡◌, ◌⊎◌, inl, inr, ℕ, zero, suc, ◌+◌, ◌≤◌, ◌<◌, List, [], ◌∷◌, ◌++◌, map, replicate, Bool, true, false, ◌||◌, ◌==◌, nat_lt, Some, None, refl, sym, ap, ◌∙◌, subst, arith, cond}
use Rattle.std.specs.Prelude.{slice_index}
use Rattle.std.specs.List.{list_all}
use Rattle.std.proofs.lemmas.Bool.{and_parts, ltb-true, eqb-true, cases_lt}
use Rattle.std.proofs.lemmas.List.{length-replicate}
use Rattle.eris_base.specs.declared.ids.ClientId.{ClientId}
use Rattle.eris_base.specs.declared.ids.ShardId.{ShardId}
use Rattle.eris_base.specs.declared.ids.TxnId.{TxnId}
use Rattle.eris_base.specs.Places.{number_in}
use Rattle.eris_base.proofs.Each.{Each-append}
use Rattle.eris_txn.specs.declared.body.Body.{Body}
use Rattle.eris_txn.specs.declared.packet.Packet.{Packet}
use Rattle.eris_txn.specs.Bodies.{participants_of, has_shard}
use Rattle.eris_txn.proofs.BodyLaws.{participants-ascend}
use Rattle.eris_sequencer.specs.declared.stamping.Stamping.{Stamping}
use Rattle.eris_sequencer.specs.Sequencers.{new_stamping, are_shards_of, is_in_place}
use Rattle.eris_sequencer.specs.Stamps.{new_sequencer, counter_of, next_places, with_numbers, has_counters, next_stamp, next_packet, after_stamp, stamped_next, AreRaised}
use Rattle.eris_sequencer.proofs.SequencerLaws.{some_shard}
use Rattle.eris_sequencer.proofs.StampLaws.{AreRaised-next, next_places-stamp}
use Rattle.eris_sequencer.proofs.NumberLaws.{number_in-next}
use Rattle.eris_law_epoch.specs.EpochWorlds.{EpochSystem, EpochWorld, EpochEvent, first_epoch_world, after_stamping, after_replica, after_coordinator, moment}
use Rattle.eris_law_epoch.specs.Members.{In}
use Rattle.eris_law_epoch.specs.Stamped.{HasNumber, IsStampedIn, IsBelow, Rise, IsStampingOf}
use Rattle.eris_law_epoch.proofs.Members.{In-append, In-left, In-right}
use Rattle.eris_law_epoch.proofs.Moves.{Move, Rests, ReplicaMoves, CoordMoves, NudgeMoves, Stamps, moved}

record IsNext (counters : List ℕ) (shards : List ShardId) (shard : ShardId) (number : ℕ) : Type 0 where
  is : number ≡ counter_of counters shard + 1
  named : has_shard shards shard ≡ true

is_next : (counters : List ℕ) (shards : List ShardId) (shard : ShardId) (number : ℕ) → number_in (next_places counters shards) shard ≡ Some number → IsNext counters shards shard number
is_next counters shards shard number h = by_test (has_shard shards shard) refl (sym (number_in-next counters shards shard) ∙ h)
  where
    by_test : (b : Bool) → has_shard shards shard ≡ b → cond b (Some (counter_of counters shard + 1)) None ≡ Some number → IsNext counters shards shard number
    by_test true e k = record { is = (let same : counter_of counters shard + 1 ≡ number = cc in sym same); named = e }
    by_test false e k = absurd (cc)

shards-next : (counters : List ℕ) (shards : List ShardId) → map (λ (place : ShardId × ℕ). place.0) (next_places counters shards) ≡ shards
unfolding next_places
shards-next counters [] = refl
shards-next counters (one ∷ shards) = ap (λ more. one ∷ more) (shards-next counters shards)

named_known : (n : ℕ) (shards : List ShardId) (shard : ShardId) → list_all (λ one. nat_lt one.0 n) shards ≡ true → has_shard shards shard ≡ true → shard.0 < n
named_known n [] shard all h = absurd (cc)
named_known n (one ∷ shards) shard all h = by_test (one.0 == shard.0) refl h (and_parts _ _ all).0 (named_known n shards shard (and_parts _ _ all).1)
  where
    by_test : (b : Bool) → (one.0 == shard.0) ≡ b → (b || has_shard shards shard) ≡ true → nat_lt one.0 n ≡ true → (has_shard shards shard ≡ true → shard.0 < n) → shard.0 < n
    by_test true e k below rest = let same = eqb-true one.0 shard.0 e in let lt = ltb-true one.0 n below in omega arith
    by_test false e k below rest = rest k

Rise-more : (shard : ShardId) (packets : List Packet) (packet : Packet) → ((other : Packet) → In other packets → IsBelow shard other packet) → Rise shard packets → Rise shard (packets ++ packet ∷ [])
Rise-more shard [] packet below rise = (tt, tt)
Rise-more shard (one ∷ packets) packet below rise =
    (Each-append (IsBelow shard one) packets (packet ∷ []) rise.0 (below one (inl refl), tt), Rise-more shard packets packet (λ other i. below other (inr i)) rise.1)

pub zero_counter : (n i : ℕ) → slice_index (replicate n 0) i ≡ 0
zero_counter zero i = refl
zero_counter (suc n) zero = refl
zero_counter (suc n) (suc i) = zero_counter n i

stamping_first : (system : EpochSystem) → IsStampingOf system (new_stamping system.config system.epoch)
unfolding new_stamping new_sequencer counter_of
stamping_first system = record {
  epoch = refl;
  counters = length-replicate system.config.shards 0;
  each = λ packet i. absurd i;
  low = λ packet shard number i h. absurd i;
  high = λ packet shard number i h. absurd i;
  known = λ packet shard number i h. absurd i;
  onto = λ shard number low high. let none = zero_counter system.config.shards shard.0 in absurd (omega arith);
  one = λ some other shard number i j h k. absurd i;
  rise = λ shard. tt;
}

-- ---- one stamping
module _ (system : EpochSystem) (stamping : Stamping) (asker : ClientId) (id : TxnId) (body : Body) (fits : is_in_place system.config asker id body ≡ true) (facts : IsStampingOf system stamping) where
  abbrev shards : List ShardId
  shards = participants_of body

  abbrev before : List ℕ
  before = stamping.sequencer.counters

  abbrev after : List ℕ
  after = with_numbers before (next_places before shards)

  abbrev made : Packet
  made = next_packet stamping.sequencer id asker body

  of_config : are_shards_of system.config shards ≡ true
  unfolding is_in_place
  of_config = (and_parts _ _ (and_parts _ _ (and_parts _ _ fits).1).1).0

  all_known : list_all (λ one. nat_lt one.0 system.config.shards) shards ≡ true
  unfolding are_shards_of
  all_known = (and_parts _ _ of_config).1

  counted : has_counters before shards ≡ true
  unfolding has_counters
  counted = ap (λ n. list_all (λ (one : ShardId). nat_lt one.0 n) shards) facts.counters ∙ all_known

  raised : AreRaised before after shards
  raised = AreRaised-next before shards counted

  made-number : (shard : ShardId) (number : ℕ) → HasNumber made shard number → IsNext before shards shard number
  unfolding next_packet next_stamp
  made-number shard number h = is_next before shards shard number h

  made-is : IsStampedIn system.epoch made
  unfolding next_packet next_stamp
  made-is = record { epoch_is = facts.epoch; places = next_places-stamp before shards (some_shard system.config shards of_config) (participants-ascend body); names = shards-next before shards }

  raised_by : (shard : ShardId) (b : Bool) → has_shard shards shard ≡ b → counter_of after shard ≡ cond b (counter_of before shard + 1) (counter_of before shard)
  raised_by shard b e = raised.at shard ∙ ap (λ t. cond t (counter_of before shard + 1) (counter_of before shard)) e

  no_lower : (shard : ShardId) → counter_of before shard ≤ counter_of after shard
  no_lower shard = by_test (has_shard shards shard) refl
    where
      by_test : (b : Bool) → has_shard shards shard ≡ b → counter_of before shard ≤ counter_of after shard
      by_test true e = let k = raised_by shard true e in omega arith
      by_test false e = let k = raised_by shard false e in omega arith

  -- a packet is an old one, or the one made now
  by_time : (packet : Packet) → In packet (stamping.stamped ++ made ∷ []) → In packet stamping.stamped ⊎ (packet ≡ made)
  by_time packet i = elim (In-append packet stamping.stamped (made ∷ []) i) [ inl old ↦ inl old | inr new ↦ elim new [ inl e ↦ inr e | inr e ↦ absurd e ] ]

  of_made : (packet : Packet) (shard : ShardId) (number : ℕ) → packet ≡ made → HasNumber packet shard number → IsNext before shards shard number
  of_made packet shard number e h = made-number shard number (subst (λ p. HasNumber p shard number) e h)

  onto : (shard : ShardId) (number : ℕ) → 1 ≤ number → number ≤ counter_of after shard → (packet : Packet) × In packet (stamping.stamped ++ made ∷ []) × HasNumber packet shard number
  unfolding next_packet next_stamp
  onto shard number low high = elim (cases_lt (counter_of before shard) number) [
    | inr le ↦ (let old = facts.onto shard number low le in (old.0, In-left old.0 stamping.stamped _ old.1, old.2))
    | inl lt ↦ by_test (has_shard shards shard) refl lt
  ]
    where
      by_test : (b : Bool) → has_shard shards shard ≡ b → counter_of before shard < number → (packet : Packet) × In packet (stamping.stamped ++ made ∷ []) × HasNumber packet shard number
      by_test true e lt =
          let k = raised_by shard true e in
          let is : counter_of before shard + 1 ≡ number = omega arith in
          (made, In-right made stamping.stamped (made ∷ []) (inl refl), number_in-next before shards shard ∙ ap (λ b. cond b (Some (counter_of before shard + 1)) None) e ∙ ap Some is)
      by_test false e lt = let k = raised_by shard false e in absurd (omega arith)

  one_of : (some other : Packet) (shard : ShardId) (number : ℕ) → In some stamping.stamped ⊎ (some ≡ made) → In other stamping.stamped ⊎ (other ≡ made) → HasNumber some shard number → HasNumber other shard number → some ≡ other
  one_of some other shard number (inl i) (inl j) h k = facts.one some other shard number i j h k
  one_of some other shard number (inl i) (inr e) h k = let high = facts.high some shard number i h in let new = (of_made other shard number e k).is in absurd (omega arith)
  one_of some other shard number (inr e) (inl j) h k = let high = facts.high other shard number j k in let new = (of_made some shard number e h).is in absurd (omega arith)
  one_of some other shard number (inr e) (inr g) h k = e ∙ sym g

  stamping_next : IsStampingOf system (stamped_next stamping id asker body)
  unfolding stamped_next after_stamp
  stamping_next = record {
    epoch = facts.epoch;
    counters = raised.length ∙ facts.counters;
    each = λ packet i. elim (by_time packet i) [ inl old ↦ facts.each packet old | inr e ↦ subst (IsStampedIn system.epoch) (sym e) made-is ];
    low = λ packet shard number i h. elim (by_time packet i) [ inl old ↦ facts.low packet shard number old h | inr e ↦ (let new = (of_made packet shard number e h).is in omega arith) ];
    high = λ packet shard number i h. elim (by_time packet i) [
      | inl old ↦ (let le = facts.high packet shard number old h in let up = no_lower shard in omega arith)
      | inr e ↦ (let new = of_made packet shard number e h in let is = new.is in let up = raised_by shard true new.named in omega arith)
    ];
    known = λ packet shard number i h. elim (by_time packet i) [ inl old ↦ facts.known packet shard number old h | inr e ↦ named_known system.config.shards shards shard all_known (of_made packet shard number e h).named ];
    onto = onto;
    one = λ some other shard number i j h k. one_of some other shard number (by_time some i) (by_time other j) h k;
    rise = λ shard. Rise-more shard stamping.stamped made
        (λ other i m n h k. let le = facts.high other shard m i h in let is = (made-number shard n k).is in omega arith) (facts.rise shard);
  }

stamping_move : (system : EpochSystem) (world after : EpochWorld) → Move system world after → IsStampingOf system world.stamping → IsStampingOf system after.stamping
unfolding after_replica after_coordinator after_stamping
stamping_move system world _ Rests facts = facts
stamping_move system world _ (ReplicaMoves shard replica state input h came) facts = facts
stamping_move system world _ (CoordMoves message i) facts = facts
stamping_move system world _ NudgeMoves facts = facts
stamping_move system world _ (Stamps asker id body fits free) facts = stamping_next system world.stamping asker id body fits facts

-- THE STAMPS of every moment
pub stamps : (system : EpochSystem) (events : List EpochEvent) (k : ℕ) → IsStampingOf system (moment system events k).stamping
unfolding moment first_epoch_world
stamps system events zero = stamping_first system
stamps system events (suc k) = stamping_move system _ _ (moved system events k) (stamps system events k)
