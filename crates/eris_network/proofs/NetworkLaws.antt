-- A network has a number for each message that was sent. Used where messages are sent and where they wait no more.
use Rattle.std.proofs.Common.{◌≡◌, ◌==◌, ℕ, List, [], ◌++◌, length, not, false, ap, sym, ◌∙◌, arith}
use Rattle.std.specs.List.{filter, range_with_len}
use Rattle.std.proofs.lemmas.Bool.{eq-eqb, eqb-true, not-false, not_from_true}
use Rattle.std.proofs.lemmas.List.{length-append}
use Rattle.eris_msg.specs.declared.outgoing.Outgoing.{Outgoing}
use Rattle.eris_network.specs.Networks.{NetworkValue, network_of}
use Rattle.eris_network.specs.WaitingNumbers.{WaitingValue, with_more, without}

-- one that isn't spent has one for each
pub numbered : (sent : List Outgoing) (waiting : WaitingValue) (value : NetworkValue) → network_of sent waiting ≡ value → value.spent ≡ false → waiting.count ≡ length sent
numbered sent waiting value view unspent =
    eqb-true waiting.count (length sent) (not-false (waiting.count == length sent) (ap (λ (v : NetworkValue). v.spent) view ∙ unspent))

-- at its start
pub none_sent : (sent : List Outgoing) (waiting : WaitingValue) → sent ≡ [] → waiting ≡ record { count = 0; numbers = [] } → network_of sent waiting ≡ record { sent = []; waiting = []; spent = false }
none_sent sent waiting e f = ap (λ (z : List Outgoing). network_of z waiting) e ∙ ap (network_of []) f

-- where one waits no more
pub one_taken : (sent : List Outgoing) (waiting next : WaitingValue) (value : NetworkValue) (number : ℕ) → network_of sent waiting ≡ value → next ≡ without waiting number
    → network_of sent next ≡ record value { waiting = filter (λ other. not (other == number)) value.waiting }
one_taken sent waiting next value number view e =
    ap (network_of sent) e
    ∙ ap (λ (v : NetworkValue). let made : NetworkValue = record v { waiting = filter (λ other. not (other == number)) v.waiting } in made) view

-- where more were sent, as many more wait
pub more_sent : (sent now sends : List Outgoing) (waiting next : WaitingValue) (value : NetworkValue) → network_of sent waiting ≡ value → value.spent ≡ false
    → now ≡ sent ++ sends → next ≡ with_more waiting (length sends)
    → network_of now next ≡ record value { sent = value.sent ++ sends; waiting = value.waiting ++ range_with_len (length value.sent) (length sends) }
more_sent sent now sends waiting next value view unspent e f =
    let count : waiting.count ≡ length sent = numbered sent waiting value view unspent in
    let messages : now ≡ value.sent ++ sends = e ∙ ap (λ (v : NetworkValue). v.sent ++ sends) view in
    let numbers : next.numbers ≡ value.waiting ++ range_with_len (length value.sent) (length sends) =
    ap (λ (w : WaitingValue). w.numbers) f ∙ ap (λ (n : ℕ). waiting.numbers ++ range_with_len n (length sends)) count
    ∙ ap (λ (v : NetworkValue). v.waiting ++ range_with_len (length v.sent) (length sends)) view in
    let each : next.count ≡ length now = omega (arith, ap (λ (w : WaitingValue). w.count) f, count, ap length e, length-append sent sends) in
    let stays : not (next.count == length now) ≡ value.spent = not_from_true (next.count == length now) (eq-eqb next.count (length now) each) ∙ sym unspent in
    λ i. record { sent = messages i; waiting = numbers i; spent = stays i }
