-- Which packets a node hasn't delivered, from turn to turn.
use Rattle.std.proofs.Common.{◌≡◌, ◌||◌, ◌==◌, ◌∙◌, ℕ, Bool, true, false, not, cond, List, [], ◌∷◌, ◌++◌, Option, Some, refl, sym, ap, subst, eq-eqb}
use Rattle.std.specs.Prelude.{slice_get}
use Rattle.std.specs.List.{filter, list_any}
use Rattle.std.proofs.lemmas.Bool.{eqb-true}
use Rattle.std.proofs.lemmas.List.Elements.{filter-append}
use Rattle.std.proofs.lemmas.List.Folds.{list_any-append}
use Rattle.std.proofs.lemmas.Option.{same_Some}
use Rattle.eris_base.specs.Each.{Each}
use Rattle.eris_base.proofs.Booleans.{or_none}
use Rattle.eris_event.specs.declared.event.Event.{Event}
use Rattle.eris_journal.specs.Lists.{own}
use Rattle.eris_journal.specs.Parts.{Refused}
use Rattle.eris_journal.specs.declared.fetched.Fetched.{Fetched}
use Rattle.eris_msg.specs.declared.outgoing.Outgoing.{Outgoing}
use Rattle.eris_law_live.specs.FirstDeliveries.{IsOwnDelivery, delivers, is_delivered}
use Rattle.eris_law_live.specs.LiveBooks.{IsLiveBook, LiveEntries, all_events, all_sent}
use Rattle.eris_law_live.specs.LiveNodes.{number_of}
use Rattle.eris_law_live.specs.LiveSteps.{events_of}
use Rattle.eris_law_live.specs.declared.entry.LiveEntry.{LiveEntry}
use Rattle.eris_law_live.proofs.Owners.{book_owned}
use Rattle.eris_law_live.proofs.Replays.{book_sent}
use Rattle.eris_law_worker.specs.Undelivered.{undelivered_of}

-- one more fetched packet
pub one_undelivered : (fetched : List Fetched) (events : List Event) (packet : Fetched) → is_delivered events packet.number ≡ false
    → undelivered_of (fetched ++ packet ∷ []) events ≡ undelivered_of fetched events ++ packet ∷ []
one_undelivered fetched events packet new =
    filter-append (λ (p : Fetched). not (is_delivered events p.number)) fetched (packet ∷ [])
    ∙ ap (λ (test : Bool). undelivered_of fetched events ++ cond (not test) (packet ∷ []) []) new

-- one more event
two_tests : {X : Type 0} (first next both : X → Bool) (xs : List X) → ((x : X) → both x ≡ (first x || next x))
    → filter (λ x. not (both x)) xs ≡ filter (λ x. not (next x)) (filter (λ x. not (first x)) xs)
two_tests first next both [] same = refl
two_tests first next both (x ∷ xs) same =
    ap (λ (test : Bool). cond (not test) (x ∷ filter (λ y. not (both y)) xs) (filter (λ y. not (both y)) xs)) (same x)
    ∙ by_tests (first x) (next x) refl (two_tests first next both xs same)
  where
    by_tests : (one two : Bool) → next x ≡ two → filter (λ y. not (both y)) xs ≡ filter (λ y. not (next y)) (filter (λ y. not (first y)) xs)
        → cond (not (one || two)) (x ∷ filter (λ y. not (both y)) xs) (filter (λ y. not (both y)) xs)
        ≡ filter (λ y. not (next y)) (cond (not one) (x ∷ filter (λ y. not (first y)) xs) (filter (λ y. not (first y)) xs))
    by_tests true two is rest = rest
    by_tests false true is rest =
        rest ∙ sym (ap (λ (test : Bool). cond (not test) (x ∷ filter (λ y. not (next y)) (filter (λ y. not (first y)) xs)) (filter (λ y. not (next y)) (filter (λ y. not (first y)) xs))) is)
    by_tests false false is rest =
        ap (λ (l : List _). x ∷ l) rest
        ∙ sym (ap (λ (test : Bool). cond (not test) (x ∷ filter (λ y. not (next y)) (filter (λ y. not (first y)) xs)) (filter (λ y. not (next y)) (filter (λ y. not (first y)) xs))) is)

delivered-more : (events : List Event) (event : Event) (number : ℕ) → is_delivered (events ++ event ∷ []) number ≡ (is_delivered events number || delivers number event)
unfolding is_delivered
delivered-more events event number =
    list_any-append (delivers number) events (event ∷ []) ∙ ap (λ (test : Bool). list_any (delivers number) events || test) (or_none (delivers number event))

pub event_delivers : (fetched : List Fetched) (events : List Event) (event : Event)
    → undelivered_of fetched (events ++ event ∷ []) ≡ filter (λ packet. not (delivers packet.number event)) (undelivered_of fetched events)
event_delivers fetched events event =
    two_tests (λ (packet : Fetched). is_delivered events packet.number) (λ (packet : Fetched). delivers packet.number event) (λ (packet : Fetched). is_delivered (events ++ event ∷ []) packet.number)
    fetched (λ packet. delivered-more events event packet.number)

-- ---- only its own node delivers a packet
-- an event of another node doesn't
not_another : (sent : List Outgoing) (number node at : ℕ) (one : Outgoing) (event : Event) → slice_get sent number ≡ Some one → number_of one.to ≡ node → IsOwnDelivery sent at event
    → (at == node) ≡ false → delivers number event ≡ false
not_another sent number node at one (Event.Submit client ops) found to own apart = refl
not_another sent number node at one (Event.General client plan) found to own apart = refl
not_another sent number node at one (Event.Retry client again) found to own apart = refl
not_another sent number node at one (Event.Abort asker id) found to own apart = refl
not_another sent number node at one (Event.Deliver packet epoch) found to own apart = by_test (packet == number) refl
  where
    by_test : (test : Bool) → (packet == number) ≡ test → test ≡ false
    by_test false is = refl
    by_test true is =
        let same : own.0 ≡ one = same_Some own.0 one (sym own.1 ∙ ap (slice_get sent) (eqb-true packet number is) ∙ found) in
        let here : at ≡ node = sym own.2 ∙ ap (λ (o : Outgoing). number_of o.to) same ∙ to in
        sym (eq-eqb at node here) ∙ apart
not_another sent number node at one Event.Flow found to own apart = refl
not_another sent number node at one Event.Lose found to own apart = refl
not_another sent number node at one (Event.Probe shard replica) found to own apart = refl
not_another sent number node at one (Event.Suspect shard replica) found to own apart = refl
not_another sent number node at one (Event.Sync shard replica) found to own apart = refl
not_another sent number node at one (Event.Crash shard replica) found to own apart = refl
not_another sent number node at one Event.Nudge found to own apart = refl
not_another sent number node at one Event.Replace found to own apart = refl
not_another sent number node at one (Event.Noise noisy bytes) found to own apart = refl

own_are_all : (sent : List Outgoing) (entries : LiveEntries) (number node : ℕ) (one : Outgoing) → Each (λ x. IsOwnDelivery sent x.0 x.1.event) entries → slice_get sent number ≡ Some one → number_of one.to ≡ node
    → is_delivered (all_events entries) number ≡ is_delivered (events_of (own node entries)) number
unfolding is_delivered all_events
own_are_all sent [] number node one each found to = refl
own_are_all sent (x ∷ entries) number node one each found to = by_test (x.0 == node) refl (own_are_all sent entries number node one each.1 found to)
  where
    by_test : (test : Bool) → (x.0 == node) ≡ test → list_any (delivers number) (all_events entries) ≡ list_any (delivers number) (events_of (own node entries))
        → (delivers number x.1.event || list_any (delivers number) (all_events entries)) ≡ list_any (delivers number) (events_of (cond test (x.1 ∷ own node entries) (own node entries)))
    by_test true is rest = ap (λ (test : Bool). delivers number x.1.event || test) rest
    by_test false is rest = ap (λ (test : Bool). test || list_any (delivers number) (all_events entries)) (not_another sent number node x.0 one x.1.event found to each.0 is) ∙ rest

pub book_delivers : (entries : LiveEntries) (fetches : List (ℕ × Fetched)) (refused : Option (Refused LiveEntry)) (book : IsLiveBook entries fetches refused) (number : ℕ) (one : Outgoing)
    → slice_get (all_sent entries) number ≡ Some one → is_delivered (all_events entries) number ≡ is_delivered (events_of (own (number_of one.to) entries)) number
book_delivers entries fetches refused book number one found =
    own_are_all book.world.sent entries number (number_of one.to) one (book_owned entries fetches refused book)
    (subst (λ (sent : List Outgoing). slice_get sent number ≡ Some one) (sym (book_sent entries fetches refused book)) found) refl
