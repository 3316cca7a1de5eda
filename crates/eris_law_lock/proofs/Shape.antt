-- What a well-formed list gives at each of its steps.
use Rattle.eris_base.specs.declared.ids.ClientId.{ClientId}
use Rattle.eris_base.specs.declared.ids.Place.{Place}
use Rattle.eris_base.specs.declared.ids.TxnId.{TxnId}
use Rattle.eris_base.proofs.TxnIdLaws.{same_id-from, same_id-true}
use Rattle.eris_law_lock.proofs.Runs.{GoesWell, GoesWellHere, plain}
use Rattle.eris_base.specs.Each.{Each}
use Rattle.eris_locks.specs.LockTable.{step}
use Rattle.eris_locks.specs.Locks.{alters}
use Rattle.eris_locks.specs.ShardRun.{writes_by, writes_in}
use Rattle.eris_locks.specs.States.{StoreState, empty, holds, is_conclusory, is_prelim}
use Rattle.eris_base.specs.TxnIds.{same_id}
use Rattle.eris_locks.specs.WellFormed.{Agree, AgreeWith, FindsHolding, WellFormed, is_commit}
use Rattle.eris_locks.specs.declared.shard_packet.ShardPacket.{ShardPacket}
use Rattle.eris_txn.specs.declared.body.Body.{Body}
use Rattle.eris_txn.specs.declared.body.Body.TheVariants.{Abort, Commit, Independent, Prelim}
use Rattle.eris_txn.specs.declared.lock.Lock.{Lock}
use Rattle.eris_txn.specs.declared.plan.Write.{Write}
use Rattle.std.proofs.Common.{Bool, List, None, [], append_assoc, cond, false, inl, inr, not, refl, subst, sym, true, ◌&&◌, ◌++◌, ◌∙◌, ◌∷◌, ◌≡◌, ◌⊎◌}
use Rattle.std.proofs.lemmas.Bool.{and_parts, cases_Bool, cond-false, cond-true, not-true}

abbrev pub kind_of : List ShardPacket → TxnId → Bool
kind_of [] id = false
kind_of (packet ∷ packets) id =
    cond (same_id id packet.id && not (is_conclusory packet.body)) (is_prelim packet.body) (kind_of packets id)

agree_kind : (a body : Body) → is_conclusory a ≡ false → is_conclusory body ≡ false → Agree a body → is_prelim a ≡ is_prelim body
agree_kind (Independent ops) (Independent ops') p q h = refl
agree_kind (Independent ops) (Prelim ls) p q h = absurd h
agree_kind (Independent ops) (Commit keys ws) p q h = cc
agree_kind (Independent ops) (Abort keys) p q h = cc
agree_kind (Prelim ls) (Independent ops) p q h = absurd h
agree_kind (Prelim ls) (Prelim ms) p q h = refl
agree_kind (Prelim ls) (Commit keys ws) p q h = cc
agree_kind (Prelim ls) (Abort keys) p q h = cc
agree_kind (Commit keys ws) body p q h = cc
agree_kind (Abort keys) body p q h = cc

-- the kind of an id is that of each of its packets
kind_fits : (front : List ShardPacket) (packet : ShardPacket) (packets : List ShardPacket) → is_conclusory packet.body ≡ false
    → AgreeWith packet (front ++ packet ∷ packets) → kind_of (front ++ packet ∷ packets) packet.id ≡ is_prelim packet.body
kind_fits [] packet packets plain a = rw (same_id-from packet.id packet.id refl, plain) refl
kind_fits (other ∷ front) packet packets plain a =
    by_test (cases_Bool (same_id packet.id other.id && not (is_conclusory other.body))) (kind_fits front packet packets plain a.1)
  where
    by_test : (((same_id packet.id other.id && not (is_conclusory other.body)) ≡ true) ⊎ ((same_id packet.id other.id && not (is_conclusory other.body)) ≡ false))
        → kind_of (front ++ packet ∷ packets) packet.id ≡ is_prelim packet.body
        → cond (same_id packet.id other.id && not (is_conclusory other.body)) (is_prelim other.body) (kind_of (front ++ packet ∷ packets) packet.id) ≡ is_prelim packet.body
    by_test (inl t) ih =
        let parts = and_parts _ _ t in
        cond-true _ _ _ t ∙ sym (agree_kind packet.body other.body plain (not-true _ parts.1) (a.0 (same_id-true _ _ parts.0)))
    by_test (inr t) ih = cond-false _ _ _ t ∙ ih

within_head : (id : TxnId) (locks : List Lock) (other_id : TxnId) (other_body : Body) (later : List Write)
    → (id ≡ other_id → Agree (Prelim locks) other_body) → Each (λ write. alters write.key locks ≡ true) later
    → Each (λ write. alters write.key locks ≡ true) (writes_by other_body (same_id id other_id) later)
within_head id locks other_id (Independent ops) later a w = w
within_head id locks other_id (Prelim ms) later a w = w
within_head id locks other_id (Commit keys ws) later a w = by_test (cases_Bool (same_id id other_id))
  where
    by_test : ((same_id id other_id ≡ true) ⊎ (same_id id other_id ≡ false))
        → Each (λ write. alters write.key locks ≡ true) (cond (same_id id other_id) ws later)
    by_test (inl test) = rw test (a (same_id-true _ _ test))
    by_test (inr test) = rw test w
within_head id locks other_id (Abort keys) later a w = by_test (same_id id other_id)
  where
    by_test : (test : Bool) → Each (λ write. alters write.key locks ≡ true) (cond test [] later)
    by_test true = tt
    by_test false = w

all_writes_within : (at : Place) (asker : ClientId) (id : TxnId) (locks : List Lock) (packets : List ShardPacket)
    → AgreeWith (record { at = at; asker = asker; id = id; body = Prelim locks }) packets
    → Each (λ write. alters write.key locks ≡ true) (writes_in id packets)
all_writes_within at asker id locks [] a = tt
all_writes_within at asker id locks (other ∷ packets) a =
    within_head id locks other.id other.body (writes_in id packets) a.0 (all_writes_within at asker id locks packets a.1)

agree_right : (packet : ShardPacket) (front packets : List ShardPacket) → AgreeWith packet (front ++ packets)
    → AgreeWith packet packets
agree_right packet [] packets h = h
agree_right packet (other ∷ front) packets h = agree_right packet front packets h.1

here : (state : StoreState) (front : List ShardPacket) (at : Place) (asker : ClientId) (id : TxnId) (body : Body) (packets : List ShardPacket)
    → AgreeWith (record { at = at; asker = asker; id = id; body = body }) (front ++ record { at = at; asker = asker; id = id; body = body } ∷ packets)
    → (is_commit body ≡ true → state.decided id ≡ None → holds id state.holding ≡ true)
    → GoesWellHere (kind_of (front ++ record { at = at; asker = asker; id = id; body = body } ∷ packets)) state id packets body
here state front at asker id (Independent ops) packets a f =
    kind_fits front (record { at = at; asker = asker; id = id; body = Independent ops }) packets refl a
here state front at asker id (Prelim ls) packets a f = (
  kind_fits front (record { at = at; asker = asker; id = id; body = Prelim ls }) packets refl a,
  all_writes_within at asker id ls packets (agree_right (record { at = at; asker = asker; id = id; body = Prelim ls }) front (record { at = at; asker = asker; id = id; body = Prelim ls } ∷ packets) a).1,
)
here state front at asker id (Commit keys ws) packets a f = f refl
here state front at asker id (Abort keys) packets a f = tt

goes_well_from : (all front packets : List ShardPacket) (state : StoreState) → all ≡ front ++ packets
    → Each (λ each. AgreeWith each all) packets → FindsHolding state packets → GoesWell (kind_of all) state packets
goes_well_from all front [] state is a f = tt
goes_well_from all front (packet ∷ packets) state is a f = (
  subst (λ (list : List ShardPacket). GoesWellHere (kind_of list) state packet.id packets packet.body) (sym is) (here state front packet.at packet.asker packet.id packet.body packets (subst (λ (list : List ShardPacket). AgreeWith packet list) is a.0) f.0),
  goes_well_from all (front ++ packet ∷ []) packets (step state packet).state (is ∙ sym (append_assoc front (packet ∷ []) packets)) a.1 f.1,
)

pub goes_well : (packets : List ShardPacket) → WellFormed packets → GoesWell (kind_of packets) empty packets
goes_well packets h = goes_well_from packets [] packets empty refl h.agree h.finds

kinds_from : (all front packets : List ShardPacket) → all ≡ front ++ packets → Each (λ each. AgreeWith each all) packets
    → Each (λ packet. is_conclusory packet.body ≡ false → is_prelim packet.body ≡ kind_of all packet.id) packets
kinds_from all front [] is a = tt
kinds_from all front (packet ∷ packets) is a = (
  (λ plain. sym (subst (λ (list : List ShardPacket). kind_of list packet.id ≡ is_prelim packet.body) (sym is) (kind_fits front packet packets plain (subst (λ (list : List ShardPacket). AgreeWith packet list) is a.0)))),
  kinds_from all (front ++ packet ∷ []) packets (is ∙ sym (append_assoc front (packet ∷ []) packets)) a.1,
)

pub kinds_of : (packets : List ShardPacket) → WellFormed packets
    → Each (λ packet. is_conclusory packet.body ≡ false → is_prelim packet.body ≡ kind_of packets packet.id) packets
kinds_of packets h = kinds_from packets [] packets refl h.agree
