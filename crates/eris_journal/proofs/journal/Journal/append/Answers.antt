use Rattle.std.proofs.Common.{◌≡◌, ap, sym, ◌∙◌}
use Rattle.eris_journal.specs.Seats.{seat_value}
use Rattle.eris_journal.specs.Turns.{noting, freed}
use Rattle.eris_journal.specs.Parts.{part_of}
use Rattle.eris_journal.proofs.Books.{Adds, add_gives}
use Rattle.eris_journal.proofs.Calls.{took, turn_is, step_before, add_keeps, add_adds, add_free, add_same, add_refused}
use Rattle.eris_journal.proofs.journal.Journal.append.Goals as goal

pub add-answer-requires-clause-step : goal.add-answer-requires-clause-step
add-answer-requires-clause-step g c =
    let l = g.L.Legal in
    let t = c.take-book.ensures.view in
    let m = c.seat.invariant in
    let node : t.0.node ≡ c.seat.inside.node = ap (λ me. (seat_value c.seat.inside.seat.table_id me.0).node) (sym t.1 ∙ m.1) ∙ m.2 in
    step_before l.legal l.entries l.fetches l.refused t.0 c.seat.inside.node c.take-book.result c.args.seat.now c.seat.inside.seat.table_id c.seat.inside.seat.me c.seat.view_is t.1 node t.3 l.is_step c.args.entry c.requires.step

pub give-requires-clause-held : goal.give-requires-clause-held
give-requires-clause-held g c =
    let l = g.L.Legal in
    let t = c.take-book.ensures.view in
    let m = c.seat.invariant in
    let node : t.0.node ≡ c.seat.inside.node = ap (λ me. (seat_value c.seat.inside.seat.table_id me.0).node) (sym t.1 ∙ m.1) ∙ m.2 in
    let b = c.add-answer.ensures in
    let adds : Adds c.add-answer.result c.seat.inside.node c.args.entry (l.limit c.take-book.result c.seat.inside.node c.args.entry) (l.entries c.take-book.result) (l.entries c.add-answer.new.self) (l.refused c.take-book.result) (l.refused c.add-answer.new.self) =
    record { added = b.added; free = b.free; err = b.err } in
    (noting t.0 c.take-book.result, c.take-book.result, t.2, add_gives l.legal l.entries l.fetches l.refused c.add-answer.result c.is_limit.result (noting t.0 c.take-book.result) c.seat.inside.node c.args.entry (l.limit c.take-book.result c.seat.inside.node c.args.entry) c.take-book.result c.add-answer.new.self c.is_limit.ensures node b.legal b.kept adds)

pub invariant_of-seat : goal.invariant_of-seat
invariant_of-seat g c =
    let l = g.L.Legal in
    let t = c.take-book.ensures.view in
    let m = c.seat.invariant in
    let node : t.0.node ≡ c.seat.inside.node = ap (λ me. (seat_value c.seat.inside.seat.table_id me.0).node) (sym t.1 ∙ m.1) ∙ m.2 in
    (freed (part_of l.entries l.fetches l.refused) c.is_limit.result (noting t.0 c.take-book.result) c.add-answer.new.self, c.give.ensures.view _ _ t.2, node)

pub returns-clause-turn : goal.returns-clause-turn
returns-clause-turn g c =
    let l = g.L.Legal in
    let t = c.take-book.ensures.view in
    let m = c.seat.invariant in
    let node : t.0.node ≡ c.seat.inside.node = ap (λ me. (seat_value c.seat.inside.seat.table_id me.0).node) (sym t.1 ∙ m.1) ∙ m.2 in
    let turn = took l.legal l.entries l.fetches l.refused c.args.self.now c.seat.inside.node c.is_limit.result c.take-book.result c.add-answer.new.self c.seat.inside.seat.table_id c.seat.inside.seat.me c.take-book.new.seat.me c.give.new.seat.me c.give.new.seat.table_id c.args.seat.now c.seat.view_is c.requires.own m t c.give.ensures.view (c.give.ensures.seat.0 ∙ c.take-book.ensures.seat.0) in
    turn_is l.legal l.entries l.fetches l.refused c.args.self.now c.seat.inside.node c.is_limit.result c.take-book.result c.add-answer.new.self _ _ turn

pub returns-clause-kept : goal.returns-clause-kept
returns-clause-kept g c =
    let l = g.L.Legal in
    let t = c.take-book.ensures.view in
    let m = c.seat.invariant in
    let node : t.0.node ≡ c.seat.inside.node = ap (λ me. (seat_value c.seat.inside.seat.table_id me.0).node) (sym t.1 ∙ m.1) ∙ m.2 in
    let b = c.add-answer.ensures in
    let turn = took l.legal l.entries l.fetches l.refused c.args.self.now c.seat.inside.node c.is_limit.result c.take-book.result c.add-answer.new.self c.seat.inside.seat.table_id c.seat.inside.seat.me c.take-book.new.seat.me c.give.new.seat.me c.give.new.seat.table_id c.args.seat.now c.seat.view_is c.requires.own m t c.give.ensures.view (c.give.ensures.seat.0 ∙ c.take-book.ensures.seat.0) in
    add_keeps l.legal l.entries l.fetches l.refused c.args.self.now c.seat.inside.node c.is_limit.result c.take-book.result c.add-answer.new.self _ _ turn b.kept

pub returns-clause-added : goal.returns-clause-added
returns-clause-added g c =
    let l = g.L.Legal in
    let t = c.take-book.ensures.view in
    let m = c.seat.invariant in
    let node : t.0.node ≡ c.seat.inside.node = ap (λ me. (seat_value c.seat.inside.seat.table_id me.0).node) (sym t.1 ∙ m.1) ∙ m.2 in
    let b = c.add-answer.ensures in
    let adds : Adds c.add-answer.result c.seat.inside.node c.args.entry (l.limit c.take-book.result c.seat.inside.node c.args.entry) (l.entries c.take-book.result) (l.entries c.add-answer.new.self) (l.refused c.take-book.result) (l.refused c.add-answer.new.self) =
    record { added = b.added; free = b.free; err = b.err } in
    let turn = took l.legal l.entries l.fetches l.refused c.args.self.now c.seat.inside.node c.is_limit.result c.take-book.result c.add-answer.new.self c.seat.inside.seat.table_id c.seat.inside.seat.me c.take-book.new.seat.me c.give.new.seat.me c.give.new.seat.table_id c.args.seat.now c.seat.view_is c.requires.own m t c.give.ensures.view (c.give.ensures.seat.0 ∙ c.take-book.ensures.seat.0) in
    add_adds l.legal l.entries l.fetches l.refused c.args.self.now c.seat.inside.node c.is_limit.result c.take-book.result c.add-answer.new.self _ _ turn c.args.entry l.limit c.add-answer.result c.is_limit.ensures adds

pub returns-clause-free : goal.returns-clause-free
returns-clause-free g c =
    let l = g.L.Legal in
    let t = c.take-book.ensures.view in
    let m = c.seat.invariant in
    let node : t.0.node ≡ c.seat.inside.node = ap (λ me. (seat_value c.seat.inside.seat.table_id me.0).node) (sym t.1 ∙ m.1) ∙ m.2 in
    let b = c.add-answer.ensures in
    let adds : Adds c.add-answer.result c.seat.inside.node c.args.entry (l.limit c.take-book.result c.seat.inside.node c.args.entry) (l.entries c.take-book.result) (l.entries c.add-answer.new.self) (l.refused c.take-book.result) (l.refused c.add-answer.new.self) =
    record { added = b.added; free = b.free; err = b.err } in
    let turn = took l.legal l.entries l.fetches l.refused c.args.self.now c.seat.inside.node c.is_limit.result c.take-book.result c.add-answer.new.self c.seat.inside.seat.table_id c.seat.inside.seat.me c.take-book.new.seat.me c.give.new.seat.me c.give.new.seat.table_id c.args.seat.now c.seat.view_is c.requires.own m t c.give.ensures.view (c.give.ensures.seat.0 ∙ c.take-book.ensures.seat.0) in
    add_free l.legal l.entries l.fetches l.refused c.args.self.now c.seat.inside.node c.is_limit.result c.take-book.result c.add-answer.new.self _ _ turn c.args.entry l.limit c.add-answer.result adds

pub returns-clause-same : goal.returns-clause-same
returns-clause-same g c =
    let l = g.L.Legal in
    let t = c.take-book.ensures.view in
    let m = c.seat.invariant in
    let node : t.0.node ≡ c.seat.inside.node = ap (λ me. (seat_value c.seat.inside.seat.table_id me.0).node) (sym t.1 ∙ m.1) ∙ m.2 in
    let b = c.add-answer.ensures in
    let adds : Adds c.add-answer.result c.seat.inside.node c.args.entry (l.limit c.take-book.result c.seat.inside.node c.args.entry) (l.entries c.take-book.result) (l.entries c.add-answer.new.self) (l.refused c.take-book.result) (l.refused c.add-answer.new.self) =
    record { added = b.added; free = b.free; err = b.err } in
    let turn = took l.legal l.entries l.fetches l.refused c.args.self.now c.seat.inside.node c.is_limit.result c.take-book.result c.add-answer.new.self c.seat.inside.seat.table_id c.seat.inside.seat.me c.take-book.new.seat.me c.give.new.seat.me c.give.new.seat.table_id c.args.seat.now c.seat.view_is c.requires.own m t c.give.ensures.view (c.give.ensures.seat.0 ∙ c.take-book.ensures.seat.0) in
    add_same l.legal l.entries l.fetches l.refused c.args.self.now c.seat.inside.node c.is_limit.result c.take-book.result c.add-answer.new.self _ _ turn c.args.entry l.limit c.add-answer.result adds

pub returns-clause-err : goal.returns-clause-err
returns-clause-err g c =
    let l = g.L.Legal in
    let t = c.take-book.ensures.view in
    let m = c.seat.invariant in
    let node : t.0.node ≡ c.seat.inside.node = ap (λ me. (seat_value c.seat.inside.seat.table_id me.0).node) (sym t.1 ∙ m.1) ∙ m.2 in
    let b = c.add-answer.ensures in
    let adds : Adds c.add-answer.result c.seat.inside.node c.args.entry (l.limit c.take-book.result c.seat.inside.node c.args.entry) (l.entries c.take-book.result) (l.entries c.add-answer.new.self) (l.refused c.take-book.result) (l.refused c.add-answer.new.self) =
    record { added = b.added; free = b.free; err = b.err } in
    let turn = took l.legal l.entries l.fetches l.refused c.args.self.now c.seat.inside.node c.is_limit.result c.take-book.result c.add-answer.new.self c.seat.inside.seat.table_id c.seat.inside.seat.me c.take-book.new.seat.me c.give.new.seat.me c.give.new.seat.table_id c.args.seat.now c.seat.view_is c.requires.own m t c.give.ensures.view (c.give.ensures.seat.0 ∙ c.take-book.ensures.seat.0) in
    add_refused l.legal l.entries l.fetches l.refused c.args.self.now c.seat.inside.node c.is_limit.result c.take-book.result c.add-answer.new.self _ _ turn c.args.entry l.limit c.add-answer.result c.is_limit.ensures adds
