-- The survivors among the packets of the epochs so far, and of one more. The loop that makes the order keeps them.
use Rattle.std.proofs.Common.{◌≡◌, ◌<◌, ℕ, ◌+◌, Bool, List, [], ◌∷◌, ◌++◌, length, get_or, take, refl, ap, sym, ◌∙◌, arith}
use Rattle.std.specs.Prelude.{slice_get}
use Rattle.std.specs.List.{filter, flat_map}
use Rattle.std.proofs.lemmas.Option.{slice_get-get_or}
use Rattle.std.proofs.lemmas.Grind.{flat_map-append}
use Rattle.std.proofs.lemmas.List.Elements.{filter-append}
use Rattle.std.proofs.lemmas.List.{append-nil, take_all, take_more}
use Rattle.eris_base.specs.declared.ids.Epoch.{Epoch}
use Rattle.eris_txn.specs.declared.packet.Packet.{Packet}
use Rattle.eris_sequencer.specs.declared.stamping.Stamping.{Stamping}
use Rattle.eris_sequencer.specs.Sequencers.{newest_of, packets_of, stamped_in}
use Rattle.eris_rules.specs.WorldOrders.{order, stamping_list, survives}
use Rattle.eris_rules.specs.Worlds.{WorldState}

stamping_list-more : (stampings : List Stamping) (i : ℕ) → i < length stampings → stamping_list (take (i + 1) stampings) ≡ stamping_list (take i stampings) ++ packets_of (slice_get stampings i)
unfolding stamping_list packets_of
stamping_list-more [] i lt = absurd (omega (arith, lt))
stamping_list-more (one ∷ stampings) i lt =
    ap (λ (l : List Stamping). flat_map (λ (s : Stamping). s.stamped) l) (take_more (one ∷ stampings) i one lt)
    ∙ flat_map-append (λ (s : Stamping). s.stamped) (take i (one ∷ stampings)) (get_or (one ∷ stampings) i one ∷ [])
    ∙ ap (λ (l : List Packet). flat_map (λ (s : Stamping). s.stamped) (take i (one ∷ stampings)) ++ l)
    (append-nil (get_or (one ∷ stampings) i one).stamped ∙ sym (ap packets_of (slice_get-get_or (one ∷ stampings) i one lt)))

-- the number of an epoch up to the newest is that of a sequencer
within : (stampings : List Stamping) (newest : Epoch) (i : ℕ) → newest ≡ newest_of stampings → 0 < length stampings → i < newest.0 + 1 → i < length stampings
unfolding newest_of
within stampings newest i e some lt = omega (arith, ap (λ (epoch : Epoch). epoch.0) e, some, lt)

pub no_epochs : (p : Packet → Bool) → [] ≡ filter p (stamping_list [])
unfolding stamping_list
no_epochs p = refl

pub epoch_more : (p : Packet → Bool) (stampings : List Stamping) (newest : Epoch) (i : ℕ) (epoch : Epoch) (packets next : List Packet) → newest ≡ newest_of stampings → 0 < length stampings → i < newest.0 + 1 → epoch.0 ≡ i
    → packets ≡ filter p (stamping_list (take i stampings)) → next ≡ packets ++ filter p (stamped_in stampings epoch)
    → next ≡ filter p (stamping_list (take (i + 1) stampings))
unfolding stamped_in
epoch_more p stampings newest i epoch packets next e some lt is so_far added =
    added
    ∙ ap (λ (l : List Packet). l ++ filter p (stamped_in stampings epoch)) so_far
    ∙ sym (filter-append p (stamping_list (take i stampings)) (stamped_in stampings epoch))
    ∙ ap (λ (n : ℕ). filter p (stamping_list (take i stampings) ++ packets_of (slice_get stampings n))) is
    ∙ ap (filter p) (sym (stamping_list-more stampings i (within stampings newest i e some lt)))

-- all epochs are those up to the newest
pub all_epochs : (p : Packet → Bool) (stampings : List Stamping) (newest : Epoch) → newest ≡ newest_of stampings → 0 < length stampings
    → filter p (stamping_list (take (newest.0 + 1) stampings)) ≡ filter p (stamping_list stampings)
unfolding newest_of
all_epochs p stampings newest e some =
    ap (λ (l : List Stamping). filter p (stamping_list l)) (take_all (newest.0 + 1) stampings (omega (arith, ap (λ (epoch : Epoch). epoch.0) e, some)))

pub is_order : (world : WorldState) → filter (survives world) (stamping_list world.stampings) ≡ order world
unfolding order
is_order world = refl
