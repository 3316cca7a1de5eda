-- How a fault in keeping one message tells of all that are sent. Used where messages are kept one by one.
use Rattle.std.proofs.Common.{◌≡◌, ◌<◌, ◌≤◌, ℕ, zero, suc, ◌+◌, List, [], ◌∷◌, ◌++◌, length, take, get_or, ap, sym, ◌∙◌, arith}
use Rattle.std.proofs.lemmas.List.{append_assoc, take_more}
use Rattle.std.proofs.lemmas.List.Sums.{sum_by-take-le}
use Rattle.eris_in_place.specs.MessageRanges.{MessageFits, SendsFit}
use Rattle.eris_msg.specs.declared.outgoing.Outgoing.{Outgoing}
use Rattle.eris_rules.specs.Refusals.{frame_size, frame_sizes}
use Rattle.eris_network.specs.declared.send_fault.SendFault.{SendFault}
use Rattle.eris_network.specs.declared.send_fault.SendFault.TheVariants as faults
use Rattle.eris_network.specs.Limits.{IsTooLong, IsTooMuch, byte_limit}
use Rattle.eris_network.proofs.KeptLaws.{frame_sizes-more, frame_sizes-append}

pub too_much_one : (room : ℕ) (sent : List Outgoing) (one : Outgoing) (fault : SendFault) → room ≤ byte_limit → IsTooLong one.message fault → IsTooMuch room (sent ++ one ∷ []) fault
too_much_one room sent one faults.Packets small h = h
too_much_one room sent one faults.Bytes small h = omega (arith, small, h, frame_sizes-more sent one)
too_much_one room sent one faults.NoMemory small h = tt

front_smaller : (sends : List Outgoing) (i : ℕ) → frame_sizes (take i sends) ≤ frame_sizes sends
unfolding frame_sizes
front_smaller sends i = sum_by-take-le (λ one. frame_size one.message) sends i

pub too_much_all : (room : ℕ) (old sends : List Outgoing) (i : ℕ) (fault : SendFault) → IsTooMuch room (old ++ take i sends) fault → IsTooMuch room (old ++ sends) fault
too_much_all room old sends i faults.Packets h = h
too_much_all room old sends i faults.Bytes h =
    omega (arith, h, frame_sizes-append old (take i sends), frame_sizes-append old sends, front_smaller sends i)
too_much_all room old sends i faults.NoMemory h = tt

pub more_at : (old sends self : List Outgoing) (i : ℕ) (one : Outgoing) → self ≡ old ++ take i sends → i < length sends → one ≡ get_or sends i one
    → self ++ one ∷ [] ≡ old ++ take (i + 1) sends
more_at old sends self i one e lt is =
    ap (λ (s : List Outgoing). s ++ one ∷ []) e ∙ append_assoc old (take i sends) (one ∷ [])
    ∙ ap (λ (s : List Outgoing). old ++ s) (ap (λ (o : Outgoing). take i sends ++ o ∷ []) is ∙ sym (take_more sends i one lt))

pub fits_at : (sends : List Outgoing) → SendsFit sends → (i : ℕ) (d : Outgoing) → i < length sends → MessageFits (get_or sends i d).message
fits_at [] h i d lt = absurd (omega (arith, lt))
fits_at (one ∷ sends) h zero d lt = h.0
fits_at (one ∷ sends) h (suc i) d lt = fits_at sends h.1 i d (omega (arith, lt))
