-- A legal book stays one: with an entry that was added, with one that a limit refused, and with a fetched packet.
use Rattle.std.proofs.Common.{◌≡◌, ◌≤◌, ◌+◌, ℕ, nat_lt, Bool, true, false, cond, List, [], ◌∷◌, ◌++◌, length, length-append, Option, Some, None, Result, Ok, Err, OnOk, refl, sym, ap, ◌∙◌, subst, slice_get, arith}
use Rattle.std.proofs.lemmas.Bool.{ltb-false}
use Rattle.std.proofs.lemmas.List.{map-append}
use Rattle.eris_event.specs.declared.refusal.Refusal.TheVariants as refusals
use Rattle.eris_msg.specs.declared.outgoing.Outgoing.{Outgoing}
use Rattle.eris_network.specs.Limits.{byte_limit, packet_limit}
use Rattle.eris_rules.specs.Refusals.{frame_sizes, limit_met}
use Rattle.eris_journal.specs.Lists.{own}
use Rattle.eris_journal.specs.Parts.{Refused, RefusesBy}
use Rattle.eris_journal.specs.declared.add_fault.AddFault.{AddFault}
use Rattle.eris_journal.specs.declared.fetched.Fetched.{Fetched}
use Rattle.eris_network.specs.declared.sent_counts.SentCounts.{SentCounts}
use Rattle.eris_law_live.specs.LiveBooks.{IsLiveBook, WasSent, all_sent, live_limit, refusal_of}
use Rattle.eris_law_live.specs.declared.entry.LiveEntry.{LiveEntry}
use Rattle.eris_law_live.proofs.Growing.{book_adds, book_begins, book_fetches, book_refuses}
use Rattle.eris_live_book.specs.declared.fetch.Fetch.{Fetch}
use Rattle.eris_live_book.specs.declared.place.Place.{Place}
use Rattle.eris_live_book.specs.declared.post.Post.{Post}
use Rattle.eris_live_book.specs.LiveBookValues.{IsKeptBook, IsLegal, IsRangedStep, LiveBookValue, entries_of, entry_of, fetches_of}
use Rattle.eris_live_book.specs.Places.{IsNextPlace, IsPacketAt, IsSpelledAt, sent_by}
use Rattle.eris_live_book.proofs.KeptLaws.{all_sent_posts, fetched_is, fetches_more, fetches_stay, frame_sizes-append, kept_posted, was_sent}

-- what contracts see
abbrev pub value_of : List Post → List Fetch → Option (Refused LiveEntry) → LiveBookValue
value_of posts fetched refused = record { entries = entries_of posts; fetches = fetches_of (sent_by posts) fetched; refused = refused }

pub new_is_legal : (posts : List Post) (fetched : List Fetch) → posts ≡ [] → fetched ≡ [] → IsLegal (value_of posts fetched None)
new_is_legal posts fetched none nothing =
    subst (λ (x : List Post × List Fetch). IsLegal (value_of x.0 x.1 None)) (λ i. (sym none i, sym nothing i)) book_begins

module _ (book : LiveBookValue) (node : ℕ) (entry : LiveEntry) (legal : IsLegal book) (free : book.refused ≡ None)
    (step : IsRangedStep node (own node book.entries) (own node book.fetches) entry) where
  clear : IsLiveBook book.entries book.fetches None
  clear = subst (λ (refused : Option (Refused LiveEntry)). IsLiveBook book.entries book.fetches refused) free legal

  pub added_is_legal : limit_met (all_sent book.entries ++ entry.sent) ≡ None → IsLegal (record book { entries = book.entries ++ (node, entry) ∷ [] })
  added_is_legal room =
      subst (λ (refused : Option (Refused LiveEntry)). IsLiveBook (book.entries ++ (node, entry) ∷ []) book.fetches refused) (sym free)
      (book_adds book.entries book.fetches node entry clear step.0 room)

  pub refused_is_legal : (fault : AddFault) → limit_met (all_sent book.entries ++ entry.sent) ≡ Some (refusal_of fault) → IsLegal (record book { refused = Some (node, (entry, fault)) })
  refused_is_legal fault met = book_refuses book.entries book.fetches node entry fault clear step.0 met

-- the value of the posts with one more
pub posted_value : (posts : List Post) (counts : SentCounts) (fetched : List Fetch) (places : List Place) (refused : Option (Refused LiveEntry)) (book : LiveBookValue) (post : Post)
    → IsKeptBook posts counts fetched places → value_of posts fetched refused ≡ book
    → value_of (posts ++ post ∷ []) fetched refused ≡ record book { entries = book.entries ++ entry_of post ∷ [] }
posted_value posts counts fetched places refused book post kept view =
    (λ i. record {
      entries = map-append entry_of posts (post ∷ []) i;
      fetches = fetches_stay posts post counts fetched places kept i;
      refused = refused;
    })
    ∙ ap (λ (value : LiveBookValue). let made : LiveBookValue = record value { entries = value.entries ++ entry_of post ∷ [] } in made) view

pub fetched_is_legal : (book : LiveBookValue) (x : ℕ × Fetched) → IsLegal book → WasSent (all_sent book.entries) x → IsLegal (record book { fetches = book.fetches ++ x ∷ [] })
fetched_is_legal book x legal was = book_fetches book.entries book.fetches book.refused x legal was

-- a book whose node fetched the packet at its next place
module _ (posts : List Post) (counts : SentCounts) (fetched : List Fetch) (places : List Place) (kept : IsKeptBook posts counts fetched places)
    (refused : Option (Refused LiveEntry)) (book : LiveBookValue) (view : value_of posts fetched refused ≡ book)
    (node : ℕ) (from place : Place) (at : slice_get places node ≡ Some from) (next : IsNextPlace posts node from place) (packet : IsPacketAt posts place)
    (bytes : List ℕ) (spelled : IsSpelledAt posts place bytes) (more : List Fetch) (is : more ≡ fetched ++ record { node = node; number = place.number } ∷ []) where
  abbrev handed : ℕ × Fetched
  handed = (node, record { number = place.number; message = bytes })

  pub fetched_value : fetches_of (sent_by posts) more ≡ book.fetches ++ handed ∷ []
  fetched_value =
      ap (fetches_of (sent_by posts)) is
      ∙ fetches_more posts counts fetched places kept node from place at next packet
      ∙ ap (λ (x : ℕ × Fetched). fetches_of (sent_by posts) fetched ++ x ∷ []) (fetched_is posts counts fetched places kept node from place at next packet bytes spelled)
      ∙ ap (λ (value : LiveBookValue). value.fetches ++ handed ∷ []) view

  pub fetched_legal : IsLegal book → IsLegal (value_of posts more refused)
  fetched_legal legal =
      let was : WasSent (all_sent book.entries) handed = subst (λ (value : LiveBookValue). WasSent (all_sent value.entries) handed) view (was_sent posts counts fetched places kept node from place at next packet bytes spelled) in
      subst (λ (value : LiveBookValue). IsLiveBook value.entries (fetches_of (sent_by posts) more) value.refused) (sym view)
      (subst (λ (fetches : List (ℕ × Fetched)). IsLiveBook book.entries fetches book.refused) (sym fetched_value) (fetched_is_legal book handed legal was))

-- ---- one more entry
room_of : (all : List Outgoing) → limit_met all ≡ None → (length all ≤ packet_limit) × (frame_sizes all ≤ byte_limit)
unfolding limit_met
room_of all none = by_tests (nat_lt 262144 (length all)) (nat_lt 67108864 (frame_sizes all)) refl refl none
  where
    by_tests : (many large : Bool) → nat_lt 262144 (length all) ≡ many → nat_lt 67108864 (frame_sizes all) ≡ large
        → cond many (Some refusals.Packets) (cond large (Some refusals.Bytes) None) ≡ None → (length all ≤ packet_limit) × (frame_sizes all ≤ byte_limit)
    by_tests true large e f h = absurd (cc)
    by_tests false true e f h = absurd (cc)
    by_tests false false e f h = (ltb-false 262144 (length all) e, ltb-false 67108864 (frame_sizes all) f)

module _ (posts : List Post) (counts : SentCounts) (fetched : List Fetch) (places : List Place) (kept : IsKeptBook posts counts fetched places)
    (refused : Option (Refused LiveEntry)) (book : LiveBookValue) (view : value_of posts fetched refused ≡ book)
    (node : ℕ) (entry : LiveEntry) (framed : List Outgoing) (is : framed ≡ entry.sent) where
  abbrev post : Post
  post = record { node = node; event = entry.event; sent = framed }

  posted_entry : ◌≡◌ {A = ℕ × LiveEntry} (entry_of post) (node, entry)
  posted_entry = λ i. (node, record { event = entry.event; sent = is i })

  pub posted_kept : limit_met (all_sent book.entries ++ entry.sent) ≡ None → (more : SentCounts) → more.packets ≡ counts.packets + length framed → more.bytes ≡ counts.bytes + frame_sizes framed
      → IsKeptBook (posts ++ post ∷ []) more fetched places
  posted_kept none more packets bytes =
      let same : all_sent book.entries ++ entry.sent ≡ sent_by posts ++ framed =
      ap (λ (value : LiveBookValue). all_sent value.entries ++ entry.sent) (sym view) ∙ ap (λ (all : List Outgoing). all ++ entry.sent) (all_sent_posts posts) ∙ ap (λ (l : List Outgoing). sent_by posts ++ l) (sym is) in
      let room = room_of (sent_by posts ++ framed) (subst (λ (all : List Outgoing). limit_met all ≡ None) same none) in
      let many = length-append (sent_by posts) framed in
      let size = frame_sizes-append (sent_by posts) framed in
      kept_posted posts counts fetched places kept post more packets bytes
      (omega (arith, packets, kept.counted.0, many, room.0)) (omega (arith, bytes, kept.counted.1, size, room.1))

  pub posted_entries : entries_of (posts ++ post ∷ []) ≡ book.entries ++ (node, entry) ∷ []
  posted_entries =
      ap (λ (value : LiveBookValue). value.entries) (posted_value posts counts fetched places refused book post kept view)
      ∙ ap (λ (x : ℕ × LiveEntry). book.entries ++ x ∷ []) posted_entry

  pub posted_fetches : fetches_of (sent_by (posts ++ post ∷ [])) fetched ≡ book.fetches
  posted_fetches = ap (λ (value : LiveBookValue). value.fetches) (posted_value posts counts fetched places refused book post kept view)

  pub posted_legal : IsLegal book → book.refused ≡ None → IsRangedStep node (own node book.entries) (own node book.fetches) entry → limit_met (all_sent book.entries ++ entry.sent) ≡ None
      → IsLegal (value_of (posts ++ post ∷ []) fetched refused)
  posted_legal legal free step room =
      subst IsLegal (sym (posted_value posts counts fetched places refused book post kept view))
      (subst (λ (x : ℕ × LiveEntry). IsLiveBook (book.entries ++ x ∷ []) book.fetches book.refused) (sym posted_entry) (added_is_legal book node entry legal free step room))

-- ---- what a limit says
-- what was sent, and an entry's sends
pub all_met : (posts : List Post) (fetched : List Fetch) (refused : Option (Refused LiveEntry)) (book : LiveBookValue) → value_of posts fetched refused ≡ book
    → (sends own_sends : List Outgoing) → sends ≡ own_sends → sent_by posts ++ sends ≡ all_sent book.entries ++ own_sends
all_met posts fetched refused book view sends own_sends same =
    ap (λ (all : List Outgoing). all ++ sends) (sym (all_sent_posts posts))
    ∙ ap (λ (value : LiveBookValue). all_sent value.entries ++ sends) view
    ∙ ap (λ (l : List Outgoing). all_sent book.entries ++ l) same

pub on_any : {T E P : Type 0} (answer : Result T E) → P → OnOk answer P
on_any (Ok done) holds = holds
on_any (Err fault) holds = tt

pub refused_err : (book after : LiveBookValue) (node : ℕ) (entry : LiveEntry) (fault : AddFault) → book.refused ≡ None → after ≡ record book { refused = Some (node, (entry, fault)) }
    → live_limit book.entries entry ≡ Some fault → (after.entries ≡ book.entries) × RefusesBy fault (live_limit book.entries entry) book.refused after.refused node entry
refused_err book after node entry fault free is met = (
  ap (λ (value : LiveBookValue). value.entries) is,
  subst (λ (before : Option (Refused LiveEntry)). RefusesBy fault (live_limit book.entries entry) before after.refused node entry) (sym free)
      (ap (λ (value : LiveBookValue). value.refused) is, met),
)
