-- The stamping list of each epoch at a moment is how it begins at every later one: a sequencer only adds at its end.
use Rattle.std.proofs.Common.{◌≡◌, inl, inr, ℕ, ◌≤◌, List, [], ◌∷◌, ◌++◌, Some, refl, sym, ap, ◌∙◌, subst}
use Rattle.std.specs.Prelude.{slice_get, slice_set}
use Rattle.eris_base.specs.declared.ids.ClientId.{ClientId}
use Rattle.eris_base.specs.declared.ids.Epoch.{Epoch}
use Rattle.eris_base.specs.declared.ids.TxnId.{TxnId}
use Rattle.eris_base.specs.ConfigLimits.{ConfigValue}
use Rattle.eris_txn.specs.declared.body.Body.{Body}
use Rattle.eris_txn.specs.declared.packet.Packet.{Packet}
use Rattle.eris_event.specs.declared.event.Event.{Event}
use Rattle.eris_sequencer.specs.declared.stamping.Stamping.{Stamping}
use Rattle.eris_sequencer.specs.Sequencers.{new_stamping}
use Rattle.eris_sequencer.specs.Stamps.{next_packet, stamped_next}
use Rattle.eris_law_epoch.proofs.Frame.{get-set}
use Rattle.eris_law_agreement.specs.Alone.{stamping_or, stamping_of}
use Rattle.eris_law_agreement.specs.EpochRuns.{servers_at}
use Rattle.eris_law_agreement.specs.Servers.{Servers}
use Rattle.eris_law_agreement.proofs.EpochGrowth.{stamping-more}
use Rattle.eris_law_agreement.proofs.Growth.{over}
use Rattle.eris_law_agreement.proofs.Moves.{Move, Rests, ReplicaMoves, CoordinatorMoves, AsksAgain, Nudges, Stamps, Replaces, Asks, next_move}

-- the first list is how the second begins
pub record Begins (some all : List Packet) : Type 0 where
  pub more : List Packet
  pub is : all ≡ some ++ more

append-nil : (xs : List Packet) → xs ++ [] ≡ xs
append-nil [] = refl
append-nil (x ∷ xs) = ap (λ rest. x ∷ rest) (append-nil xs)

append-assoc : (xs ys zs : List Packet) → (xs ++ ys) ++ zs ≡ xs ++ (ys ++ zs)
append-assoc [] ys zs = refl
append-assoc (x ∷ xs) ys zs = ap (λ rest. x ∷ rest) (append-assoc xs ys zs)

pub Begins-refl : (xs : List Packet) → Begins xs xs
Begins-refl xs = record { more = []; is = sym (append-nil xs) }

pub Begins-trans : (xs ys zs : List Packet) → Begins xs ys → Begins ys zs → Begins xs zs
Begins-trans xs ys zs f g = record { more = f.more ++ g.more; is = g.is ∙ ap (λ list. list ++ g.more) f.is ∙ append-assoc xs f.more g.more }

module _ (config : ConfigValue) (now : Servers) where
  stamps_front : (at : Epoch) (stamping : Stamping) (asker : ClientId) (id : TxnId) (body : Body) → slice_get now.stampings at.0 ≡ Some stamping → (epoch : Epoch)
      → Begins (stamping_of config now.stampings epoch).stamped (stamping_of config (slice_set now.stampings at.0 (stamped_next stamping id asker body)) epoch).stamped
  unfolding stamping_of stamped_next
  stamps_front at stamping asker id body h epoch = elim (get-set now.stampings at.0 epoch.0 stamping (stamped_next stamping id asker body) h) [
    | inl e ↦
        let there : slice_get now.stampings epoch.0 ≡ Some stamping = ap (slice_get now.stampings) e.0 ∙ h in
        record {
          more = next_packet stamping.sequencer id asker body ∷ [];
          is = ap (λ found. (stamping_or (new_stamping config epoch) found).stamped) e.1
              ∙ ap (λ found. (stamping_or (new_stamping config epoch) found).stamped ++ next_packet stamping.sequencer id asker body ∷ []) (sym there);
        }
    | inr e ↦ subst (λ found. Begins (stamping_or (new_stamping config epoch) (slice_get now.stampings epoch.0)).stamped (stamping_or (new_stamping config epoch) found).stamped) (sym e) (Begins-refl _)
  ]

  front_move : (after : Servers) → Move config now after → (epoch : Epoch) → Begins (stamping_of config now.stampings epoch).stamped (stamping_of config after.stampings epoch).stamped
  front_move _ Rests epoch = Begins-refl _
  front_move _ (ReplicaMoves shard replica state input out found came leaf) epoch = Begins-refl _
  front_move _ (CoordinatorMoves message out i leaf) epoch = Begins-refl _
  front_move _ AsksAgain epoch = Begins-refl _
  front_move _ (Nudges thawed) epoch = Begins-refl _
  front_move _ (Stamps at stamping asker id body found fits free) epoch = stamps_front at stamping asker id body found epoch
  front_move _ Replaces epoch = subst (λ (s : Stamping). Begins (stamping_of config now.stampings epoch).stamped s.stamped) (sym (stamping-more config now epoch)) (Begins-refl _)
  front_move _ (Asks sends only) epoch = Begins-refl _

-- OVER ANY TWO MOMENTS
pub stamping_front : (config : ConfigValue) (events : List Event) (epoch : Epoch) (j k : ℕ) → j ≤ k
    → Begins (stamping_of config (servers_at config events j).stampings epoch).stamped (stamping_of config (servers_at config events k).stampings epoch).stamped
stamping_front config events epoch j k le =
    over (λ a b. Begins (stamping_of config (servers_at config events a).stampings epoch).stamped (stamping_of config (servers_at config events b).stampings epoch).stamped)
    (λ a. Begins-refl _) (λ a b up rest. Begins-trans _ _ _ rest (front_move config (servers_at config events b) _ (next_move config events b) epoch)) j k le
