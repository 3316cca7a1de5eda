-- Lines depend on which ids are there, and on nothing else of the lists; and one packet more is passed.
use Rattle.std.proofs.Common.{◌≡◌, ◌<◌, ◌+◌, ◌||◌, ℕ, Bool, true, false, Option, List, [], ◌∷◌, ◌++◌, append_assoc, drop, length, slice_index_or, subst, refl, ap, sym, ◌∙◌}
use Rattle.std.proofs.lemmas.List.{drop_more}
use Rattle.eris_base.specs.declared.ids.TxnId.{TxnId}
use Rattle.eris_base.specs.TxnIds.{same_id, is_among}
use Rattle.eris_txn.specs.declared.answer.Answer.{Answer}
use Rattle.eris_txn.specs.declared.body.Body.{Body}
use Rattle.eris_txn.specs.declared.body.Body.TheVariants.{Independent, Prelim, Commit, Abort}
use Rattle.eris_txn.specs.declared.packet.Packet.{Packet}
use Rattle.eris_locks.specs.ShardRun.{outcome_by}
use Rattle.eris_locks.specs.States.{is_conclusory}
use Rattle.eris_audit.specs.declared.order_line.OrderLine.{OrderLine}
use Rattle.eris_audit.specs.declared.outcome.Outcome.{Outcome}
use Rattle.eris_order.specs.Orders.{order_line, order_lines_from, outcome_at, outcome_from, outcome_of}
use Rattle.eris_order_lines.specs.LinesSoFar.{LinesSoFar}
use Rattle.eris_order_lines.specs.Noted.{outcome_by_first}

-- the same ids are there
abbrev pub AreSame : List TxnId → List TxnId → Type 0
AreSame some others = (id : TxnId) → is_among id some ≡ is_among id others

one_more : (id : TxnId) (some others : List TxnId) → AreSame some others → AreSame (id ∷ some) (id ∷ others)
one_more id some others same other = ap (λ t. same_id other id || t) (same other)

-- the lines of a packet and of those behind it: what they are where it is conclusory, where its id is seen, and else
abbrev pub choice : Bool → Bool → List OrderLine → List OrderLine → List OrderLine → List OrderLine
choice conclusory seen passed again line = elim conclusory [ true ↦ passed | false ↦ elim seen [ true ↦ again | false ↦ line ] ]

same_choice : (conclusory some other : Bool) (passed passed' again again' line line' : List OrderLine) → some ≡ other
    → passed ≡ passed' → again ≡ again' → line ≡ line' → choice conclusory some passed again line ≡ choice conclusory other passed' again' line'
same_choice true some other passed passed' again again' line line' s p a l = p
same_choice false true true passed passed' again again' line line' s p a l = a
same_choice false false false passed passed' again again' line line' s p a l = l
same_choice false true false passed passed' again again' line line' s p a l = cc
same_choice false false true passed passed' again again' line line' s p a l = cc

same_line : (packet : Packet) (rest : List Packet) (decided decided' : List TxnId) → AreSame decided decided'
    → order_line packet decided rest ≡ order_line packet decided' rest
same_line packet rest decided decided' same =
    ap (λ (t : Bool). record { id = packet.id; outcome = outcome_of packet.body t (outcome_at packet.id rest); stamp = packet.stamp }) (same packet.id)

pub same_lines : (rest : List Packet) (seen seen' decided decided' : List TxnId) → AreSame seen seen' → AreSame decided decided'
    → order_lines_from seen decided rest ≡ order_lines_from seen' decided' rest
same_lines [] seen seen' decided decided' s d = refl
same_lines (packet ∷ rest) seen seen' decided decided' s d =
    same_choice (is_conclusory packet.body) (is_among packet.id seen) (is_among packet.id seen')
    (order_lines_from seen (packet.id ∷ decided) rest) (order_lines_from seen' (packet.id ∷ decided') rest)
    (order_lines_from seen decided rest) (order_lines_from seen' decided' rest)
    (order_line packet decided rest ∷ order_lines_from (packet.id ∷ seen) decided rest)
    (order_line packet decided' rest ∷ order_lines_from (packet.id ∷ seen') decided' rest)
    (s packet.id)
    (same_lines rest seen seen' (packet.id ∷ decided) (packet.id ∷ decided') s (one_more packet.id decided decided' d))
    (same_lines rest seen seen' decided decided' s d)
    (ap (λ (line : OrderLine). line ∷ order_lines_from (packet.id ∷ seen) decided rest) (same_line packet rest decided decided' d)
    ∙ ap (λ (lines : List OrderLine). order_line packet decided' rest ∷ lines)
    (same_lines rest (packet.id ∷ seen) (packet.id ∷ seen') decided decided' (one_more packet.id seen seen' s) d))

-- a packet that is no conclusory one of the id says nothing of it
elsewhere : (body : Body) (later : Option Answer) → outcome_by body false later ≡ later
elsewhere (Independent operations) later = refl
elsewhere (Prelim locks) later = refl
elsewhere (Commit keys writes) later = refl
elsewhere (Abort keys) later = refl

no_word : (body : Body) (here : Bool) (later : Option Answer) → is_conclusory body ≡ false → outcome_by body here later ≡ later
no_word (Independent operations) here later none = refl
no_word (Prelim locks) here later none = refl
no_word (Commit keys writes) here later none = cc
no_word (Abort keys) here later none = cc

-- neither it nor those behind it
left_false : (t u : Bool) → (t || u) ≡ false → t ≡ false
left_false true u is = cc
left_false false u is = refl

right_false : (t u : Bool) → (t || u) ≡ false → u ≡ false
right_false true u is = cc
right_false false u is = is

-- a conclusory packet is passed
pub passed_conclusory : (packets later : List Packet) (packet : Packet) (seen old new : List TxnId) (made : List OrderLine)
    → is_conclusory packet.body ≡ true → AreSame new (packet.id ∷ old)
    → LinesSoFar packets (packet ∷ later) seen old made → LinesSoFar packets later seen new made
passed_conclusory packets later packet seen old new made is added before = record {
  lines =
      before.lines
      ∙ ap (λ (t : Bool). made ++ choice t (is_among packet.id seen) (order_lines_from seen (packet.id ∷ old) later) (order_lines_from seen old later) (order_line packet old later ∷ order_lines_from (packet.id ∷ seen) old later)) is
      ∙ ap (λ (lines : List OrderLine). made ++ lines) (same_lines later seen seen (packet.id ∷ old) new (λ id. refl) (λ id. sym (added id)));
  undecided = λ id apart.
      let none : (same_id id packet.id || is_among id old) ≡ false = sym (added id) ∙ apart in
      before.undecided id (right_false (same_id id packet.id) (is_among id old) none)
      ∙ ap (λ (t : Bool). outcome_by packet.body t (outcome_at id later)) (left_false (same_id id packet.id) (is_among id old) none)
      ∙ elsewhere packet.body (outcome_at id later);
}

-- a packet whose transaction came before is passed
pub passed_again : (packets later : List Packet) (packet : Packet) (seen decided : List TxnId) (made : List OrderLine)
    → is_conclusory packet.body ≡ false → is_among packet.id seen ≡ true
    → LinesSoFar packets (packet ∷ later) seen decided made → LinesSoFar packets later seen decided made
passed_again packets later packet seen decided made is there before = record {
  lines =
      before.lines
      ∙ ap (λ (t : Bool). made ++ choice t (is_among packet.id seen) (order_lines_from seen (packet.id ∷ decided) later) (order_lines_from seen decided later) (order_line packet decided later ∷ order_lines_from (packet.id ∷ seen) decided later)) is
      ∙ ap (λ (t : Bool). made ++ choice false t (order_lines_from seen (packet.id ∷ decided) later) (order_lines_from seen decided later) (order_line packet decided later ∷ order_lines_from (packet.id ∷ seen) decided later)) there;
  undecided = λ id apart. before.undecided id apart ∙ no_word packet.body (same_id id packet.id) (outcome_at id later) is;
}

-- what became of a transaction, by what the first conclusory packet of all says
same_outcome : (body : Body) (decided : Bool) (first : Outcome) (later : Option Answer) → (decided ≡ false → first ≡ outcome_from later)
    → outcome_by_first body decided first ≡ outcome_of body decided later
same_outcome (Independent operations) decided first later same = refl
same_outcome (Prelim locks) true first later same = refl
same_outcome (Prelim locks) false first later same = same refl
same_outcome (Commit keys writes) decided first later same = refl
same_outcome (Abort keys) decided first later same = refl

-- the first packet of a transaction is passed, with its line
pub passed_first : (packets later : List Packet) (packet : Packet) (seen new decided : List TxnId) (made : List OrderLine) (line : OrderLine) (first : Outcome)
    → is_conclusory packet.body ≡ false → is_among packet.id seen ≡ false → AreSame new (packet.id ∷ seen)
    → first ≡ outcome_from (outcome_at packet.id packets)
    → line ≡ record { id = packet.id; outcome = outcome_by_first packet.body (is_among packet.id decided) first; stamp = packet.stamp }
    → LinesSoFar packets (packet ∷ later) seen decided made → LinesSoFar packets later new decided (made ++ line ∷ [])
passed_first packets later packet seen new decided made line first is none added says here before = record {
  lines =
      before.lines
      ∙ ap (λ (t : Bool). made ++ choice t (is_among packet.id seen) (order_lines_from seen (packet.id ∷ decided) later) (order_lines_from seen decided later) (order_line packet decided later ∷ order_lines_from (packet.id ∷ seen) decided later)) is
      ∙ ap (λ (t : Bool). made ++ choice false t (order_lines_from seen (packet.id ∷ decided) later) (order_lines_from seen decided later) (order_line packet decided later ∷ order_lines_from (packet.id ∷ seen) decided later)) none
      ∙ ap (λ (it : OrderLine). made ++ it ∷ order_lines_from (packet.id ∷ seen) decided later) (sym line_is)
      ∙ ap (λ (lines : List OrderLine). made ++ line ∷ lines) (same_lines later (packet.id ∷ seen) new decided decided (λ id. sym (added id)) (λ id. refl))
      ∙ sym (append_assoc made (line ∷ []) (order_lines_from new decided later));
  undecided = after;
}
  where
    after : (id : TxnId) → is_among id decided ≡ false → outcome_at id packets ≡ outcome_at id later
    after id apart = before.undecided id apart ∙ no_word packet.body (same_id id packet.id) (outcome_at id later) is

    line_is : line ≡ order_line packet decided later
    line_is =
        here
        ∙ ap (λ (outcome : Outcome). record { id = packet.id; outcome = outcome; stamp = packet.stamp })
        (same_outcome packet.body (is_among packet.id decided) first (outcome_at packet.id later)
        (λ apart. says ∙ ap outcome_from (after packet.id apart)))

-- the packet at a place is the first of those that are still to come
pub still_to_come : (packets : List Packet) (at : ℕ) (packet : Packet) (seen decided : List TxnId) (made : List OrderLine) → at < length packets
    → packet ≡ slice_index_or packets at packet → LinesSoFar packets (drop at packets) seen decided made
    → LinesSoFar packets (packet ∷ drop (at + 1) packets) seen decided made
still_to_come packets at packet seen decided made few is so_far =
    subst (λ (rest : List Packet). LinesSoFar packets rest seen decided made)
    (drop_more packets at packet few ∙ ap (λ (one : Packet). one ∷ drop (at + 1) packets) (sym is)) so_far
