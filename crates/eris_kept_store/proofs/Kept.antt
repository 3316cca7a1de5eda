-- A store that goes on from number to number stays the store after the log, and what is kept of it stays right
-- where the log does.
use Rattle.std.proofs.Common.{◌≡◌, ◌<◌, ◌≤◌, ◌+◌, ◌-◌, ℕ, zero, suc, Bool, true, false, cond, Option, Some, None, List, [], ◌∷◌, ◌++◌, refl, ap, sym, ◌∙◌, subst, arith, append_assoc, add-one}
use Rattle.std.proofs.lemmas.Bool.{and_parts, cond_both, ltb-true}
use Rattle.std.proofs.lemmas.List.{append-nil}
use Rattle.eris_base.specs.declared.ids.ShardId.{ShardId}
use Rattle.eris_txn.specs.declared.packet.Packet.{Packet}
use Rattle.eris_log.specs.Entries.{entry_of}
use Rattle.eris_log.specs.Held.{packet_at}
use Rattle.eris_log.specs.PartValues.{PartValue}
use Rattle.eris_locks.specs.declared.shard_packet.ShardPacket.{ShardPacket}
use Rattle.eris_locks.specs.LockTable.{run_state, step}
use Rattle.eris_locks.specs.Shards.{cut, names_shard, on_shard}
use Rattle.eris_locks.specs.States.{StoreState, empty}
use Rattle.eris_law_lock.proofs.Ended.{state_after}
use Rattle.eris_rules.specs.ReplicaAnswers.{is_open, open_packet, open_at, open_upto, log_upto, store_after}
use Rattle.eris_store.specs.Stores.{StoreValue, state_of}
use Rattle.eris_kept_store.specs.KeptStores.{KeptValue, IsAfter, IsKept, IfKept, IsBegun, AreSameBelow, number_of, is_kept_below, is_next}

-- ---- logs, one number further
on_shard-append : (shard : ShardId) (log more : List Packet) → on_shard shard (log ++ more) ≡ on_shard shard log ++ on_shard shard more
on_shard-append shard [] more = refl
on_shard-append shard (packet ∷ log) more = by_test (names_shard shard packet) (on_shard-append shard log more)
  where
    by_test : (t : Bool) → on_shard shard (log ++ more) ≡ on_shard shard log ++ on_shard shard more
        → elim t [ true ↦ cut shard packet ∷ on_shard shard (log ++ more) | false ↦ on_shard shard (log ++ more) ]
        ≡ elim t [ true ↦ cut shard packet ∷ on_shard shard log | false ↦ on_shard shard log ] ++ on_shard shard more
    by_test true more_is = ap (λ (rest : List ShardPacket). cut shard packet ∷ rest) more_is
    by_test false more_is = more_is

store_after-append : (shard : ShardId) (log more : List Packet) → store_after shard (log ++ more) ≡ run_state (store_after shard log) (on_shard shard more)
unfolding store_after
store_after-append shard log more =
    ap (λ (packets : List ShardPacket). run_state empty packets) (on_shard-append shard log more)
    ∙ state_after (on_shard shard log) (on_shard shard more) empty

open_more : (part : PartValue) (number : ℕ) → open_upto part (number + 1) ≡ open_upto part number ++ open_at part (number + 1)
unfolding open_upto
open_more part number = ap (λ (n : ℕ). open_upto part n) (add-one number)

log_more : (prior : List Packet) (part : PartValue) (number : ℕ) → log_upto prior part (number + 1) ≡ log_upto prior part number ++ open_at part (number + 1)
unfolding log_upto
log_more prior part number =
    ap (λ (packets : List Packet). prior ++ packets) (open_more part number)
    ∙ sym (append_assoc prior (open_upto part number) (open_at part (number + 1)))

log_none : (prior : List Packet) (part : PartValue) → log_upto prior part 0 ≡ prior
unfolding log_upto open_upto
log_none prior part = append-nil prior

-- ---- a store that goes on
pub goes_on : (shard : ShardId) (prior : List Packet) (part : PartValue) (number : ℕ) (old new : StoreValue) → IsAfter shard (log_upto prior part number) old
    → new.shard ≡ shard → new.spent ≡ false → state_of new ≡ run_state (state_of old) (on_shard shard (open_at part (number + 1)))
    → IsAfter shard (log_upto prior part (number + 1)) new
goes_on shard prior part number old new after of_shard unspent stepped = record {
  of_shard = of_shard;
  unspent = unspent;
  state = stepped
      ∙ ap (λ (state : StoreState). run_state state (on_shard shard (open_at part (number + 1)))) after.state
      ∙ sym (store_after-append shard (log_upto prior part number) (open_at part (number + 1)))
      ∙ ap (λ (log : List Packet). store_after shard log) (sym (log_more prior part number));
}

pub begun_right : (shard : ShardId) (prior : List Packet) (part : PartValue) (kept : Option KeptValue) (made : KeptValue)
    → IfKept shard prior part kept → IsBegun shard prior kept made → IsAfter shard (log_upto prior part made.number) made.store
begun_right shard prior part None made right begun =
    subst (λ (log : List Packet). IsAfter shard log made.store)
    (sym (ap (λ (number : ℕ). log_upto prior part number) begun.0 ∙ log_none prior part)) begun.1
begun_right shard prior part (Some kept) made right begun = subst (λ (one : KeptValue). IsKept shard prior part one) (sym begun) right

pub begun_number : (shard : ShardId) (prior : List Packet) (kept : Option KeptValue) (made : KeptValue) → IsBegun shard prior kept made → made.number ≡ number_of kept
begun_number shard prior None made begun = begun.0
begun_number shard prior (Some kept) made begun = ap (λ (one : KeptValue). one.number) begun

-- what is kept below a number has gone no further than to the number before it
pub upto_before : (kept : Option KeptValue) (number : ℕ) → is_kept_below kept number ≡ true → number_of kept ≤ number - 1
upto_before None number below = omega arith
upto_before (Some kept) number below = let lower : kept.number < number = ltb-true kept.number number below in omega arith

-- ---- the packet of the number itself
next_open : (part : PartValue) (number : ℕ) (packet : Packet) → packet_at part.held number ≡ Some packet → is_open (entry_of part number) ≡ true
    → open_at part number ≡ packet ∷ []
unfolding open_at
next_open part number packet held is =
    ap (λ (found : Option Packet). open_packet (is_open (entry_of part number)) found) held
    ∙ ap (λ (opened : Bool). open_packet opened (Some packet)) is

next_named : (shard : ShardId) (packet : Packet) → names_shard shard packet ≡ true → on_shard shard (packet ∷ []) ≡ cut shard packet ∷ []
next_named shard packet named = ap (λ (t : Bool). elim t [ true ↦ cut shard packet ∷ [] | false ↦ [] ]) named

pub kept_next : (shard : ShardId) (prior : List Packet) (part : PartValue) (number : ℕ) (packet : Packet) (old new : StoreValue)
    → IsAfter shard (log_upto prior part (number - 1)) old → packet_at part.held number ≡ Some packet
    → new.shard ≡ shard → new.spent ≡ false → state_of new ≡ (step (state_of old) (cut shard packet)).state
    → IfKept shard prior part (cond (is_next shard part number packet) (Some (record { store = new; number = number })) None)
kept_next shard prior part number packet old new after held of_shard unspent stepped =
    cond_both (is_next shard part number packet) (Some (record { store = new; number = number })) None (IfKept shard prior part)
    (λ next.
    let above = and_parts _ _ next in
    let opened = and_parts _ _ above.1 in
    let counts : 0 < number = ltb-true 0 number above.0 in
    let numbers : (number - 1) + 1 ≡ number = omega arith in
    let taken : on_shard shard (open_at part number) ≡ cut shard packet ∷ [] =
    ap (λ (packets : List Packet). on_shard shard packets) (next_open part number packet held opened.0) ∙ next_named shard packet opened.1 in
    let taken_on : on_shard shard (open_at part ((number - 1) + 1)) ≡ cut shard packet ∷ [] =
    ap (λ (n : ℕ). on_shard shard (open_at part n)) numbers ∙ taken in
    subst (λ (n : ℕ). IsAfter shard (log_upto prior part n) new) numbers
    (goes_on shard prior part (number - 1) old new after of_shard unspent
    (stepped ∙ sym (ap (λ (packets : List ShardPacket). run_state (state_of old) packets) taken_on))))
    (λ none. tt)

-- ---- another part
upto_same : (some other : PartValue) (upto : ℕ) → ((number : ℕ) → number ≤ upto → open_at other number ≡ open_at some number) → open_upto other upto ≡ open_upto some upto
unfolding open_upto
upto_same some other zero same = refl
upto_same some other (suc upto) same =
    ap (λ (packets : List Packet). packets ++ open_at other (upto + 1)) (upto_same some other upto (λ number within. same number (omega arith)))
    ∙ ap (λ (packets : List Packet). open_upto some upto ++ packets) (same (upto + 1) (omega arith))

kept_same : (shard : ShardId) (prior : List Packet) (some other : PartValue) (kept : KeptValue) (number : ℕ) → AreSameBelow number some other → kept.number < number
    → IsKept shard prior some kept → IsKept shard prior other kept
unfolding log_upto
kept_same shard prior some other kept number same below right =
    subst (λ (packets : List Packet). IsAfter shard (prior ++ packets) kept.store)
    (sym (upto_same some other kept.number (λ at within. same at (omega arith)))) right

pub stays_where : (shard : ShardId) (prior : List Packet) (some other : PartValue) (kept : Option KeptValue) (number : ℕ) → is_kept_below kept number ≡ true
    → AreSameBelow number some other → IfKept shard prior some kept → IfKept shard prior other kept
stays_where shard prior some other None number below same right = tt
stays_where shard prior some other (Some kept) number below same right =
    kept_same shard prior some other kept number same (ltb-true kept.number number below) right
