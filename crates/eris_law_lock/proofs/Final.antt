-- The law.
use Rattle.eris_base.specs.declared.ids.Phase.{Phase}
use Rattle.eris_base.specs.declared.ids.TxnId.{TxnId}
use Rattle.eris_law_lock.proofs.Act.{lawful_of}
use Rattle.eris_base.proofs.Each.{Each-left, Each-weaker, Each-with}
use Rattle.eris_law_lock.proofs.Early.{EarlyDone}
use Rattle.eris_law_lock.proofs.Ended.{early_answers}
use Rattle.eris_law_lock.proofs.Fit.{Good, holder_of, holding_in, is_holding, is_waiting, reached_at, waiting_in}
use Rattle.eris_law_lock.proofs.InTime.{in_time, plain_granted}
use Rattle.eris_law_lock.proofs.Log.{AllLawful, Complete, Entry, Holds, Lawful, Status, Void, Waits, current, effect, final, is_complete, is_void}
use Rattle.eris_law_lock.proofs.Release.{GoodDone}
use Rattle.eris_law_lock.proofs.Runs.{dones_of_prefix, law_from, plain}
use Rattle.eris_law_lock.proofs.Shape.{goes_well, kind_of, kinds_of}
use Rattle.eris_law_lock.proofs.Stuck.{none_waits, run_stuck}
use Rattle.eris_base.specs.Each.{Each}
use Rattle.eris_locks.specs.Law.{EndedEarly, IsRight, IsRightDone, Said, plain_end}
use Rattle.eris_locks.specs.LockTable.{run_dones, run_state}
use Rattle.eris_locks.specs.States.{empty}
use Rattle.eris_locks.specs.WellFormed.{WellFormed}
use Rattle.eris_locks.specs.declared.done.Done.{Done}
use Rattle.eris_locks.specs.declared.held.Held.{Held}
use Rattle.eris_locks.specs.declared.shard_packet.ShardPacket.{ShardPacket}
use Rattle.eris_txn.specs.Keys.{Values, no_values}
use Rattle.eris_txn.specs.declared.answer.Answer.{Answer}
use Rattle.eris_txn.specs.declared.answer.Answer.TheVariants.{Aborted}
use Rattle.eris_txn.specs.declared.key.Key.{Key}
use Rattle.std.proofs.Common.{List, None, Option, [], ap, cond, false, inl, inr, refl, subst, sym, true, ℕ, ◌++◌, ◌∙◌, ◌∷◌, ◌≡◌}
use Rattle.std.proofs.lemmas.Bool.{both_ways}
use Rattle.std.specs.List.{list_any}
use mathlib.Core.Path.{fun_ext}

pub answers_good : (packets : List ShardPacket) → WellFormed packets → Each (GoodDone (plain packets)) (run_dones empty packets)
answers_good packets well = (law_from packets (kind_of packets) (goes_well packets well)).good

done_right : (packets : List ShardPacket) (phase : Phase) (id : TxnId) (answer : Answer) → Good (plain packets) phase id answer
    → (phase ≡ Phase.Prelim → answer ≡ Aborted → EndedEarly packets id)
    → Said id phase answer (run_dones empty packets) → IsRight packets phase id answer
done_right packets Phase.Whole id answer h e said = h
done_right packets Phase.Prelim id answer (inl h) e said =
    inl (record { plain = h; in_time = in_time packets id answer (plain_granted packets id answer h) said })
done_right packets Phase.Prelim id answer (inr h) e said = inr (record { is = h.0; outcome = h.1; ended = e refl h.0 })
done_right packets Phase.Conclude id answer h e said = h

pub all_said : (dones : List Done) → Each (λ given. Said given.id given.phase given.answer dones) dones
all_said [] = tt
all_said (given ∷ dones) = (
  inl (refl, refl, refl),
  Each-weaker (λ other. Said other.id other.phase other.answer dones) (λ other. Said other.id other.phase other.answer (given ∷ dones)) (λ other h. inr h) dones (all_said dones),
)

-- EACH ANSWER IS RIGHT
pub answers_right : (packets : List ShardPacket) → WellFormed packets → Each (IsRightDone packets) (run_dones empty packets)
answers_right packets well =
    Each-with (λ given. Good (plain packets) given.phase given.id given.answer × EarlyDone (EndedEarly packets) (kind_of packets) given)
    (λ given. Said given.id given.phase given.answer (run_dones empty packets)) (IsRightDone packets)
    (λ given h said. done_right packets given.phase given.id given.answer h.0 h.1 said) (run_dones empty packets)
    (Each-with (GoodDone (plain packets)) (EarlyDone (EndedEarly packets) (kind_of packets)) (λ given. Good (plain packets) given.phase given.id given.answer × EarlyDone (EndedEarly packets) (kind_of packets) given)
    (λ given h e. (h, e)) (run_dones empty packets) (answers_good packets well) (early_answers packets (kind_of packets) (kinds_of packets well)))
    (all_said (run_dones empty packets))

one_closed : (entry : Entry) (status : Status) (key : Key) (value : Option ℕ) (holding : List Held) (waiters : List ShardPacket)
    → Lawful entry → entry.status ≡ status
    → list_any (λ h. true) (cond (is_holding status) (holder_of entry ∷ holding) holding) ≡ false
    → cond (is_waiting status) (entry.packet ∷ waiters) waiters ≡ []
    → (cond (is_complete status) (effect entry key value) value ≡ effect entry key value) × (list_any (λ h. true) holding ≡ false) × (waiters ≡ [])
one_closed entry Waits key value holding waiters l is h w = absurd (no w)
  where
    no : entry.packet ∷ waiters ≡ [] → ⊥
    no k = cc
one_closed entry Holds key value holding waiters l is h w = absurd (both_ways _ h refl)
one_closed entry Complete key value holding waiters l is h w = (refl, h, w)
one_closed entry Void key value holding waiters l is h w = (sym (l.void (ap is_void is) key value), h, w)

all_closed : (entries : List Entry) (key : Key) (value : Option ℕ) → AllLawful entries
    → list_any (λ h. true) (holding_in entries) ≡ false → waiting_in entries ≡ []
    → current key entries value ≡ final key entries value
all_closed [] key value l h w = refl
all_closed (entry ∷ entries) key value l h w =
    let r = one_closed entry entry.status key value (holding_in entries) (waiting_in entries) l.0 refl h w in
    ap (current key entries) r.0 ∙ all_closed entries key (effect entry key value) l.1 r.1 r.2

pub values_right : (packets : List ShardPacket) → WellFormed packets → (run_state empty packets).holding ≡ []
    → (run_state empty packets).values ≡ plain_end packets
values_right packets well h =
    let n = (law_from packets (kind_of packets) (goes_well packets well)).next in
    let fit = n.right.fit in
    let log = n.right.log in
    let s = run_state empty packets in
    let none : s.waiting ≡ [] = none_waits s (run_stuck packets empty tt) h in
    let held : list_any (λ k. true) (holding_in log) ≡ false = sym (fit.holding (λ k. true)) ∙ ap (list_any (λ (k : Held). true)) h in
    fun_ext (λ x. fit.values x ∙ (all_closed log x None (lawful_of (kind_of packets) [] s.recorded s.decided log fit.each) held (sym n.right.waiting ∙ none)
    ∙ (sym (reached_at log no_values x) ∙ ap (λ (values : Values). values x) (fit.reaches ∙ sym fit.ends))))

pub waiting_none : (packets : List ShardPacket) → (run_state empty packets).holding ≡ [] → (run_state empty packets).waiting ≡ []
waiting_none packets h = none_waits (run_state empty packets) (run_stuck packets empty tt) h

-- AND SO IS WHAT A STORE ANSWERED that ran only a beginning of the list
pub beginning_right : (packets rest : List ShardPacket) → WellFormed (packets ++ rest)
    → Each (IsRightDone (packets ++ rest)) (run_dones empty packets)
beginning_right packets rest well =
    Each-left (IsRightDone (packets ++ rest)) (run_dones empty packets) (run_dones (run_state empty packets) rest)
    (subst (λ (dones : List Done). Each (IsRightDone (packets ++ rest)) dones) (dones_of_prefix packets rest empty) (answers_right (packets ++ rest) well))
