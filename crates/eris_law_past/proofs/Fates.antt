-- The fate of an id: the outcome of its line, told by one walk over the packets. On each shard that takes part the walk
-- over the shard's packets tells the same; and over a beginning, where its preliminaries are concluded, the same as over
-- the whole.
use Rattle.std.proofs.Common.{◌≡◌, ◌⊎◌, inl, inr, Bool, true, false, ◌||◌, Option, Some, None, List, [], ◌∷◌, ◌++◌, refl, ap, sym, ◌∙◌}
use Rattle.std.proofs.lemmas.Bool.{both_ways, cases_Bool, cond-false, cond-true, or_from}
use Rattle.eris_base.specs.declared.ids.Phase.{Phase}
use Rattle.eris_base.specs.declared.ids.ShardId.{ShardId}
use Rattle.eris_base.specs.declared.ids.TxnId.{TxnId}
use Rattle.eris_base.specs.Each.{Each}
use Rattle.eris_base.specs.TxnIds.{is_among, same_id}
use Rattle.eris_base.proofs.TxnIdLaws.{same_id-from, same_id-true, same_id-turned}
use Rattle.eris_txn.specs.declared.answer.Answer.{Answer}
use Rattle.eris_txn.specs.declared.answer.Answer.TheVariants.{Ops, Values, Committed, Aborted}
use Rattle.eris_txn.specs.declared.body.Body.{Body}
use Rattle.eris_txn.specs.declared.body.Body.TheVariants.{Abort, Commit, Independent, Prelim}
use Rattle.eris_txn.specs.declared.packet.Packet.{Packet}
use Rattle.eris_txn.specs.declared.txn.Txn.{Txn}
use Rattle.eris_locks.specs.declared.shard_packet.ShardPacket.{ShardPacket}
use Rattle.eris_locks.specs.Law.{HasPacket}
use Rattle.eris_locks.specs.ShardRun.{Served, outcome_in as outcome_on}
use Rattle.eris_locks.specs.Shards.{cut, cut_body, names_shard, on_shard}
use Rattle.eris_locks.specs.States.{is_conclusory, is_prelim}
use Rattle.eris_audit.specs.declared.outcome.Outcome.{Outcome}
use Rattle.eris_audit.specs.Lines.{outcome_in}
use Rattle.eris_order.specs.Orders.{lines_from, outcome_at, outcome_from, outcome_of}
use Rattle.eris_serial.specs.Transactions.{takes_part}
use Rattle.eris_law_lock.proofs.Prelims.{prelim_phase}
use Rattle.eris_law_serial.proofs.LineSteps.{by_packet, first_line}
use Rattle.eris_law_serial.proofs.Sound.{Sound, conclusory-cut, other_id, outcome-on_shard}
use Rattle.eris_law_past.proofs.Beginnings.{behind_own, outcome_begins}
use Rattle.eris_law_past.proofs.Parted.{concluded_says}

-- at a packet: of another id, a conclusory one, or the first own one
abbrev pub fate_by : Bool → Bool → Option Outcome → Option Outcome → Option Outcome → Option Outcome
fate_by same concludes passed decided own = elim same [ true ↦ elim concludes [ true ↦ decided | false ↦ own ] | false ↦ passed ]

-- over the packets of an order, where the id was decided or not before
abbrev pub fate : TxnId → Bool → List Packet → Option Outcome
fate id decided [] = None
fate id decided (packet ∷ packets) =
    fate_by (same_id id packet.id) (is_conclusory packet.body) (fate id decided packets) (fate id true packets) (Some (outcome_of packet.body decided (outcome_at id packets)))

-- and over those of a shard
abbrev pub fate_on : TxnId → Bool → List ShardPacket → Option Outcome
fate_on id decided [] = None
fate_on id decided (packet ∷ packets) =
    fate_by (same_id id packet.id) (is_conclusory packet.body) (fate_on id decided packets) (fate_on id true packets) (Some (outcome_of packet.body decided (outcome_on id packets)))

passed_by : (same concludes : Bool) (passed decided own : Option Outcome) → same ≡ false → fate_by same concludes passed decided own ≡ passed
passed_by true concludes passed decided own is = absurd (both_ways _ is refl)
passed_by false concludes passed decided own is = refl

own_by : (same concludes : Bool) (passed decided own : Option Outcome) → same ≡ true → concludes ≡ false → fate_by same concludes passed decided own ≡ own
own_by true true passed decided own is e = absurd (both_ways _ e refl)
own_by true false passed decided own is e = refl
own_by false concludes passed decided own is e = absurd (both_ways _ refl is)

decided_by : (same concludes : Bool) (passed decided own : Option Outcome) → same ≡ true → concludes ≡ true → fate_by same concludes passed decided own ≡ decided
decided_by true true passed decided own is e = refl
decided_by true false passed decided own is e = absurd (both_ways _ refl e)
decided_by false concludes passed decided own is e = absurd (both_ways _ refl is)

-- ---- THE LINE of the id has that outcome
pub lines-fate : (id : TxnId) (packets : List Packet) (seen decided : List TxnId) → is_among id seen ≡ false
    → outcome_in (lines_from seen decided packets) id ≡ fate id (is_among id decided) packets
lines-fate id [] seen decided unseen = refl
lines-fate id (packet ∷ packets) seen decided unseen =
    by_packet (λ some. outcome_in some id ≡ fate id (is_among id decided) (packet ∷ packets)) seen decided packet packets
    (λ concludes. concluded concludes (cases_Bool (same_id id packet.id)) (lines-fate id packets seen (packet.id ∷ decided) unseen))
    (λ own again. lines-fate id packets seen decided unseen
    ∙ sym (passed_by (same_id id packet.id) (is_conclusory packet.body) (fate id (is_among id decided) packets) (fate id true packets) (Some (outcome_of packet.body (is_among id decided) (outcome_at id packets)))
    (unlike again (cases_Bool (same_id id packet.id)))))
    (λ own new. acted own (cases_Bool (same_id id packet.id)) (λ apart. lines-fate id packets (packet.id ∷ seen) decided (or_from _ _ apart unseen)))
  where
    unlike : is_among packet.id seen ≡ true → ((same_id id packet.id ≡ true) ⊎ (same_id id packet.id ≡ false)) → same_id id packet.id ≡ false
    unlike again (inl same) = absurd (both_ways _ unseen (ap (λ (one : TxnId). is_among one seen) (same_id-true id packet.id same) ∙ again))
    unlike again (inr apart) = apart

    concluded : is_conclusory packet.body ≡ true → ((same_id id packet.id ≡ true) ⊎ (same_id id packet.id ≡ false))
        → outcome_in (lines_from seen (packet.id ∷ decided) packets) id ≡ fate id (same_id id packet.id || is_among id decided) packets
        → outcome_in (lines_from seen (packet.id ∷ decided) packets) id ≡ fate id (is_among id decided) (packet ∷ packets)
    concluded concludes (inl same) rest =
        rest ∙ (ap (λ b. fate id (b || is_among id decided) packets) same ∙ sym (decided_by (same_id id packet.id) (is_conclusory packet.body) _ _ _ same concludes))
    concluded concludes (inr apart) rest =
        rest ∙ (ap (λ b. fate id (b || is_among id decided) packets) apart ∙ sym (passed_by (same_id id packet.id) (is_conclusory packet.body) _ _ _ apart))

    acted : is_conclusory packet.body ≡ false → ((same_id id packet.id ≡ true) ⊎ (same_id id packet.id ≡ false))
        → (same_id id packet.id ≡ false → outcome_in (lines_from (packet.id ∷ seen) decided packets) id ≡ fate id (is_among id decided) packets)
        → outcome_in (first_line packet decided packets ∷ lines_from (packet.id ∷ seen) decided packets) id ≡ fate id (is_among id decided) (packet ∷ packets)
    acted own (inl same) rest =
        cond-true (same_id packet.id id) _ _ (same_id-turned packet.id id ∙ same)
        ∙ (ap (λ (one : TxnId). Some (outcome_of packet.body (is_among one decided) (outcome_at one packets))) (sym (same_id-true id packet.id same))
        ∙ sym (own_by (same_id id packet.id) (is_conclusory packet.body) _ _ _ same own))
    acted own (inr apart) rest =
        cond-false (same_id packet.id id) _ _ (same_id-turned packet.id id ∙ apart)
        ∙ (rest apart ∙ sym (passed_by (same_id id packet.id) (is_conclusory packet.body) _ _ _ apart))

-- ---- ON EACH SHARD that takes part the fate is the same
outcome-cut : (shard : ShardId) (body : Body) (decided : Bool) (later : Option Answer) → outcome_of (cut_body shard body) decided later ≡ outcome_of body decided later
outcome-cut shard (Independent ops) decided later = refl
outcome-cut shard (Prelim locks) decided later = refl
outcome-cut shard (Commit keys writes) decided later = refl
outcome-cut shard (Abort keys) decided later = refl

module _ (txn : TxnId → Txn) (runs : ShardId → List Served) where
  pub fate-on_shard : (shard : ShardId) (id : TxnId) (packets : List Packet) (decided : Bool) → Each (Sound txn runs) packets → takes_part shard (txn id) ≡ true
      → fate_on id decided (on_shard shard packets) ≡ fate id decided packets
  fate-on_shard shard id [] decided sound part = refl
  fate-on_shard shard id (packet ∷ packets) decided sound part =
      by_test (names_shard shard packet) refl (fate-on_shard shard id packets decided sound.1 part) (fate-on_shard shard id packets true sound.1 part)
    where
      by_test : (named : Bool) → names_shard shard packet ≡ named → fate_on id decided (on_shard shard packets) ≡ fate id decided packets → fate_on id true (on_shard shard packets) ≡ fate id true packets
          → fate_on id decided (elim named [ true ↦ cut shard packet ∷ on_shard shard packets | false ↦ on_shard shard packets ])
          ≡ fate_by (same_id id packet.id) (is_conclusory packet.body) (fate id decided packets) (fate id true packets) (Some (outcome_of packet.body decided (outcome_at id packets)))
      by_test true named rest told =
          let own : outcome_of (cut_body shard packet.body) decided (outcome_on id (on_shard shard packets)) ≡ outcome_of packet.body decided (outcome_at id packets) =
          outcome-cut shard packet.body decided (outcome_on id (on_shard shard packets))
          ∙ ap (outcome_of packet.body decided) (outcome-on_shard txn runs shard id packets sound.1 part) in
          λ i. fate_by (same_id id packet.id) (conclusory-cut shard packet.body i) (rest i) (told i) (Some (own i))
      by_test false unnamed rest told =
          rest ∙ sym (passed_by (same_id id packet.id) (is_conclusory packet.body) _ _ _ (other_id txn runs shard id packet sound.0 unnamed part))

-- ---- OVER A BEGINNING
pending_from : (later : Option Answer) → outcome_from later ≡ Outcome.Pending → later ≡ None
pending_from None is = refl
pending_from (Some (Ops answers)) is = cc
pending_from (Some (Values values)) is = cc
pending_from (Some Committed) is = cc
pending_from (Some Aborted) is = cc

-- what became of a first packet, where its id was decided before or is concluded in the beginning
record Settles (mine yours : Outcome) : Type 0 where
  same : yours ≡ mine
  decided : mine ≡ Outcome.Pending → ⊥

not_pending : (mine : Outcome) → (mine ≡ Outcome.Done) ⊎ (mine ≡ Outcome.Aborted) → mine ≡ Outcome.Pending → ⊥
not_pending mine (inl is) e = let both = sym is ∙ e in absurd (cc)
not_pending mine (inr is) e = let both = sym is ∙ e in absurd (cc)

settles : (body : Body) (decided : Bool) (mine yours : Option Answer) → (is_prelim body ≡ true → (decided ≡ true) ⊎ ((yours ≡ mine) × (mine ≡ None → ⊥)))
    → Settles (outcome_of body decided mine) (outcome_of body decided yours)
settles (Independent ops) decided mine yours told = record { same = refl; decided = not_pending Outcome.Done (inl refl) }
settles (Prelim locks) true mine yours told = record { same = refl; decided = not_pending Outcome.Aborted (inr refl) }
settles (Prelim locks) false mine yours told = by_place (told refl)
  where
    by_place : ((false ≡ true) ⊎ ((yours ≡ mine) × (mine ≡ None → ⊥))) → Settles (outcome_from mine) (outcome_from yours)
    by_place (inl no_way) = absurd (both_ways _ refl no_way)
    by_place (inr is) = record { same = ap outcome_from is.0; decided = λ pending. is.1 (pending_from mine pending) }
settles (Commit keys writes) decided mine yours told = record { same = refl; decided = not_pending Outcome.Aborted (inr refl) }
settles (Abort keys) decided mine yours told = record { same = refl; decided = not_pending Outcome.Aborted (inr refl) }

pub record BeginsSo (id : TxnId) (decided : Bool) (outcome : Outcome) (packets rest : List ShardPacket) : Type 0 where
  pub stays : fate_on id decided (packets ++ rest) ≡ Some outcome
  pub ends : outcome ≡ Outcome.Pending → ⊥

-- the preliminaries of the id in a list were decided before it, or are concluded in it
abbrev pub Concludes : TxnId → Bool → List ShardPacket → Type 0
Concludes id decided packets = HasPacket id Phase.Prelim packets → (decided ≡ true) ⊎ HasPacket id Phase.Conclude packets

pub fate_begins : (id : TxnId) (outcome : Outcome) (packets rest : List ShardPacket) (decided : Bool) → Concludes id decided packets
    → fate_on id decided packets ≡ Some outcome → BeginsSo id decided outcome packets rest
fate_begins id outcome [] rest decided concludes is = absurd (let clash : None ≡ Some outcome = is in cc)
fate_begins id outcome (packet ∷ packets) rest decided concludes is =
    by_tests (cases_Bool (same_id id packet.id)) (cases_Bool (is_conclusory packet.body))
    (λ apart. fate_begins id outcome packets rest decided (passing apart)) (fate_begins id outcome packets rest true (λ has. inl refl))
  where
    passing : same_id id packet.id ≡ false → Concludes id decided packets
    passing apart has = by_place (concludes (inr has))
      where
        by_place : (decided ≡ true) ⊎ HasPacket id Phase.Conclude (packet ∷ packets) → (decided ≡ true) ⊎ HasPacket id Phase.Conclude packets
        by_place (inl before) = inl before
        by_place (inr (inl here)) = absurd (both_ways _ apart (same_id-from id packet.id (sym here.0)))
        by_place (inr (inr there)) = inr there

    told : same_id id packet.id ≡ true → is_conclusory packet.body ≡ false → is_prelim packet.body ≡ true
        → (decided ≡ true) ⊎ ((outcome_on id (packets ++ rest) ≡ outcome_on id packets) × (outcome_on id packets ≡ None → ⊥))
    told same own prelim = by_place (concludes (inl (sym (same_id-true id packet.id same), prelim_phase packet.body prelim)))
      where
        by_place : (decided ≡ true) ⊎ HasPacket id Phase.Conclude (packet ∷ packets) → (decided ≡ true) ⊎ ((outcome_on id (packets ++ rest) ≡ outcome_on id packets) × (outcome_on id packets ≡ None → ⊥))
        by_place (inl before) = inl before
        by_place (inr has) =
            let there = behind_own id packet packets own has in
            inr (outcome_begins id packets rest there, concluded_says id packets there)

    by_tests : ((same_id id packet.id ≡ true) ⊎ (same_id id packet.id ≡ false)) → ((is_conclusory packet.body ≡ true) ⊎ (is_conclusory packet.body ≡ false))
        → (same_id id packet.id ≡ false → fate_on id decided packets ≡ Some outcome → BeginsSo id decided outcome packets rest)
        → (fate_on id true packets ≡ Some outcome → BeginsSo id true outcome packets rest) → BeginsSo id decided outcome (packet ∷ packets) rest
    by_tests (inr apart) c passed ended =
        let later = passed apart (sym (passed_by (same_id id packet.id) (is_conclusory packet.body) _ _ _ apart) ∙ is) in
        record { stays = passed_by (same_id id packet.id) (is_conclusory packet.body) _ _ _ apart ∙ later.stays; ends = later.ends }
    by_tests (inl same) (inl concluded) passed ended =
        let later = ended (sym (decided_by (same_id id packet.id) (is_conclusory packet.body) _ _ _ same concluded) ∙ is) in
        record { stays = decided_by (same_id id packet.id) (is_conclusory packet.body) _ _ _ same concluded ∙ later.stays; ends = later.ends }
    by_tests (inl same) (inr own) passed ended =
        let here : Some (outcome_of packet.body decided (outcome_on id packets)) ≡ Some outcome = sym (own_by (same_id id packet.id) (is_conclusory packet.body) _ _ _ same own) ∙ is in
        let value : outcome_of packet.body decided (outcome_on id packets) ≡ outcome = cc in
        let settled = settles packet.body decided (outcome_on id packets) (outcome_on id (packets ++ rest)) (told same own) in
        record {
          stays = own_by (same_id id packet.id) (is_conclusory packet.body) _ _ _ same own ∙ ap (λ (o : Outcome). Some o) (settled.same ∙ value);
          ends = λ pending. settled.decided (value ∙ pending);
        }
