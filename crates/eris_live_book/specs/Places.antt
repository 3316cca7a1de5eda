-- Places in a book's posts, and what is found from one on.
use Rattle.std.specs.Prelude.{◌≡◌, ◌≢◌, ◌<◌, ◌≤◌, ◌+◌, ℕ, Some, List, length, take, slice_get}
use Rattle.std.specs.List.{flat_map}
use Rattle.eris_msg.specs.declared.outgoing.Outgoing.{Outgoing}
use Rattle.eris_msg.specs.Spellings.{IsSpelling}
use Rattle.eris_law_live.specs.LiveNodes.{number_of}
use Rattle.eris_live_book.specs.declared.place.Place.{Place}
use Rattle.eris_live_book.specs.declared.post.Post.{Post}

-- what the posts sent, in order. A packet's number is its place there, from 0.
abbrev pub sent_by : List Post → List Outgoing
sent_by posts = flat_map (λ post. post.sent) posts

-- a place is one of its post's packets, or stands behind the last of them; or it is the end of the posts
pub record IsPlaceIn (posts : List Post) (place : Place) : Type 0 where
  pub within : place.post ≤ length posts
  pub reached : place.number ≡ length (sent_by (take place.post posts)) + place.offset
  pub inside : place.number ≤ length (sent_by (take (place.post + 1) posts))

-- a packet of the place's post stands there
abbrev pub IsPacketAt : List Post → Place → Type 0
IsPacketAt posts place = (place.post < length posts) × (place.number < length (sent_by (take (place.post + 1) posts)))

-- of the packets from one number on, and below the other, none goes to the node
abbrev pub NoneBetween : List Outgoing → ℕ → ℕ → ℕ → Type 0
NoneBetween sent node low high =
    (number : ℕ) (one : Outgoing) → low ≤ number → number < high → slice_get sent number ≡ Some one → number_of one.to ≢ node

-- the packet of the number goes to the node
abbrev pub IsPacketTo : List Outgoing → ℕ → ℕ → Type 0
IsPacketTo sent node number = (one : Outgoing) × (slice_get sent number ≡ Some one) × (number_of one.to ≡ node)

-- THE NEXT PLACE of a node's packet, from a place on; where there is no such packet, the end of the posts
pub record IsNextPlace (posts : List Post) (node : ℕ) (from : Place) (place : Place) : Type 0 where
  pub is_place : IsPlaceIn posts place
  pub onward : from.number ≤ place.number
  pub passed : NoneBetween (sent_by posts) node from.number place.number
  pub found : place.post < length posts → IsPacketAt posts place × IsPacketTo (sent_by posts) node place.number
  pub ends : length posts ≤ place.post → place.number ≡ length (sent_by posts)

-- the bytes are the spelling of the packet at the place
abbrev pub IsSpelledAt : List Post → Place → List ℕ → Type 0
IsSpelledAt posts place bytes = (one : Outgoing) → slice_get (sent_by posts) place.number ≡ Some one → IsSpelling one.message bytes
