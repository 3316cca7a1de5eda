-- What follows an input adds to what its row sends; used by the step, which adds the one to the other.
use Rattle.std.proofs.Common.{◌≡◌, Bool, true, false, ◌&&◌, not, ◌+◌, cond, List, ◌++◌, refl, ap, sym, ◌∙◌, append_assoc}
use Rattle.std.proofs.lemmas.List.{append-nil}
use Rattle.eris_base.specs.StampPlaces.{is_number}
use Rattle.eris_log.specs.Entries.{length_of}
use Rattle.eris_msg.specs.declared.outgoing.Outgoing.{Outgoing}
use Rattle.eris_rules.specs.EpochMessages.{EpochSend}
use Rattle.eris_rules.specs.Outer.{outer_sends}
use Rattle.eris_rules.specs.ReplicaStates.{Member, EpochOut, quiet, is_normal}
use Rattle.eris_rules.specs.Speaking.{speaks_on, has_gap, asks_gap, asks_once, tail}
use Rattle.eris_rules.proofs.OuterLaws.{outer_sends-append}
use Rattle.eris_member.specs.MemberValues.{MemberValue, after, behind}

-- what is sent on top of what was sent before
abbrev on_top : List EpochSend → EpochOut → EpochOut
on_top sends out = record { state = out.state; sends = sends ++ out.sends }

pub speaks_on_top : (me : Member) (out : EpochOut) → speaks_on me out ≡ on_top out.sends (speaks_on me (quiet out.state))
unfolding speaks_on
speaks_on_top me out = refl

pub asks_once_top : (me : Member) (out : EpochOut) → asks_once me out ≡ on_top out.sends (asks_once me (quiet out.state))
unfolding asks_once asks_gap
asks_once_top me out = by_test (has_gap out.state.part && not (is_number out.state.asked (length_of out.state.part + 1)))
  where
    by_test : (b : Bool) → cond b (asks_gap me out) out ≡ on_top out.sends (cond b (asks_gap me (quiet out.state)) (quiet out.state))
    by_test true = refl
    by_test false = ap (λ (sends : List EpochSend). record { state = out.state; sends = sends }) (sym (append-nil out.sends))

-- asking on top of speaking
both_top : (me : Member) (out : EpochOut) → asks_once me (speaks_on me out) ≡ on_top out.sends (asks_once me (speaks_on me (quiet out.state)))
unfolding speaks_on
both_top me out =
    let spoken = speaks_on me (quiet out.state) in
    let asked = asks_once me (quiet spoken.state) in
    asks_once_top me (speaks_on me out)
    ∙ ap (λ (sends : List EpochSend). record { state = asked.state; sends = sends }) (append_assoc out.sends spoken.sends asked.sends)
    ∙ ap (λ (made : EpochOut). on_top out.sends made) (sym (asks_once_top me spoken))

pub tail_top : (me : Member) (out : EpochOut) → tail me out ≡ on_top out.sends (tail me (quiet out.state))
unfolding tail
tail_top me out = by_test (is_normal out.state.status)
  where
    by_test : (b : Bool) → cond b (asks_once me (speaks_on me out)) out ≡ on_top out.sends (cond b (asks_once me (speaks_on me (quiet out.state))) (quiet out.state))
    by_test true = both_top me out
    by_test false = ap (λ (sends : List EpochSend). record { state = out.state; sends = sends }) (sym (append-nil out.sends))

-- THE STEP: what follows the row is sent behind what the row sends
pub follows_row : (value : MemberValue) (out : EpochOut)
    → behind (outer_sends value.epoch out.sends) (record value { state = out.state }) (tail value.me (quiet out.state)) ≡ after value (tail value.me out)
follows_row value out =
    let last = tail value.me (quiet out.state) in
    ap (λ (sends : List Outgoing). (record value { state = last.state }, sends)) (sym (outer_sends-append value.epoch out.sends last.sends))
    ∙ ap (λ (made : EpochOut). after value made) (sym (tail_top value.me out))

-- what is asked is sent behind what was spoken
pub asks_behind : (before : List Outgoing) (value : MemberValue)
    → (let spoken = speaks_on value.me (quiet value.state) in
    behind (before ++ outer_sends value.epoch spoken.sends) (record value { state = spoken.state }) (asks_once value.me (quiet spoken.state)))
    ≡ behind before value (asks_once value.me (speaks_on value.me (quiet value.state)))
asks_behind before value =
    let spoken = speaks_on value.me (quiet value.state) in
    let asked = asks_once value.me (quiet spoken.state) in
    ap (λ (sends : List Outgoing). (record value { state = asked.state }, sends))
    (append_assoc before (outer_sends value.epoch spoken.sends) (outer_sends value.epoch asked.sends)
    ∙ ap (λ (sends : List Outgoing). before ++ sends) (sym (outer_sends-append value.epoch spoken.sends asked.sends)))
    ∙ ap (λ (made : EpochOut). behind before value made) (sym (asks_once_top value.me spoken))

pub ruleset following = (follows_row, asks_behind)

pub ruleset sent = (outer_sends-append)
