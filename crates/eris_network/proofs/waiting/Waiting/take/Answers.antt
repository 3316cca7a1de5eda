use Rattle.std.proofs.Common.{◌≡◌, ◌<◌, ◌≤◌, ℕ, true, false, Some, length, ap, ◌∙◌, subst, arith}
use Rattle.std.specs.Prelude.{slice_get}
use Rattle.std.proofs.lemmas.List.{length-set}
use Rattle.eris_network.specs.WaitingNumbers.{WaitingValue, without}
use Rattle.eris_network.proofs.WaitingLaws.{value-taken, low_taken}
use Rattle.eris_network.proofs.waiting.Waiting.take.Goals as goal

pub returns : goal.returns
returns c =
    let known : c.args.number < length c.self.inside.waits.items = omega (arith, c.requires, ap (λ (value : WaitingValue). value.count) c.self.view_is) in
    value-taken c.self.inside.waits.items c.args.number known ∙ ap (λ value. without value c.args.number) c.self.view_is

pub next_waiting-self-inside-requires : goal.next_waiting-self-inside-requires
next_waiting-self-inside-requires c =
    omega (arith, c.self.invariant.within, ap length c.as_slice.ensures.value, length-set c.self.inside.waits.items c.args.number false)

pub invariant_of-self : goal.invariant_of-self
invariant_of-self c =
    let items = c.as_slice.ensures.value in
    let next = c.next_waiting-self-inside.result in
    let found = c.next_waiting-self-inside.ensures in
    low_taken c.self.inside.waits.items c.self.inside.low c.args.number next c.self.invariant
    (subst (λ waits. next ≤ length waits) items found.within)
    (subst (λ waits. (k : ℕ) → c.self.inside.low ≤ k → k < next → slice_get waits k ≡ Some false) items found.between)
    (subst (λ waits. next < length waits → slice_get waits next ≡ Some true) items found.at)
