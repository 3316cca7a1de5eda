use Rattle.std.proofs.Common.{◌≡◌, ap, sym, ◌∙◌, refl, false}
use Rattle.eris_journal.specs.Seats.{seat_value}
use Rattle.eris_journal.specs.Turns.{noting, freed}
use Rattle.eris_journal.specs.Parts.{part_of}
use Rattle.eris_journal.proofs.Books.{fetch_adds, fetch_gives}
use Rattle.eris_journal.proofs.Calls.{took, turn_is, fetch_keeps, fetch_says, fetch_stays}
use Rattle.eris_journal.proofs.journal.Journal.fetch.Goals as goal

pub give-requires-clause-held : goal.give-requires-clause-held
give-requires-clause-held g c =
    let l = g.L.Legal in
    let t = c.take-found.ensures.view in
    let m = c.seat.invariant in
    let b = c.fetch-answer.ensures in
    let node : t.0.node ≡ c.seat.inside.node = ap (λ me. (seat_value c.seat.inside.seat.table_id me.0).node) (sym t.1 ∙ m.1) ∙ m.2 in
    let adds = fetch_adds c.fetch-answer.result c.seat.inside.node (l.fetches c.take-found.result) (l.fetches c.fetch-answer.new.self) b.fetched b.err in
    (noting t.0 c.take-found.result, c.take-found.result, t.2, fetch_gives l.legal l.entries l.fetches l.refused c.fetch-answer.result (noting t.0 c.take-found.result) c.seat.inside.node c.take-found.result c.fetch-answer.new.self node b.legal b.kept adds)

pub invariant_of-seat : goal.invariant_of-seat
invariant_of-seat g c =
    let l = g.L.Legal in
    let t = c.take-found.ensures.view in
    let m = c.seat.invariant in
    let b = c.fetch-answer.ensures in
    let node : t.0.node ≡ c.seat.inside.node = ap (λ me. (seat_value c.seat.inside.seat.table_id me.0).node) (sym t.1 ∙ m.1) ∙ m.2 in
    (freed (part_of l.entries l.fetches l.refused) false (noting t.0 c.take-found.result) c.fetch-answer.new.self, c.give.ensures.view _ _ t.2, node)

pub returns-clause-turn : goal.returns-clause-turn
returns-clause-turn g c =
    let l = g.L.Legal in
    let t = c.take-found.ensures.view in
    let m = c.seat.invariant in
    let b = c.fetch-answer.ensures in
    let node : t.0.node ≡ c.seat.inside.node = ap (λ me. (seat_value c.seat.inside.seat.table_id me.0).node) (sym t.1 ∙ m.1) ∙ m.2 in
    let turn = took l.legal l.entries l.fetches l.refused c.args.self.now c.seat.inside.node false c.take-found.result c.fetch-answer.new.self c.seat.inside.seat.table_id c.seat.inside.seat.me c.take-found.new.seat.me c.give.new.seat.me c.give.new.seat.table_id c.args.seat.now c.seat.view_is c.requires.own m t c.give.ensures.view (c.give.ensures.seat.0 ∙ c.take-found.ensures.seat.0) in
    turn_is l.legal l.entries l.fetches l.refused c.args.self.now c.seat.inside.node false c.take-found.result c.fetch-answer.new.self _ _ turn

pub returns-clause-kept : goal.returns-clause-kept
returns-clause-kept g c =
    let l = g.L.Legal in
    let t = c.take-found.ensures.view in
    let m = c.seat.invariant in
    let b = c.fetch-answer.ensures in
    let node : t.0.node ≡ c.seat.inside.node = ap (λ me. (seat_value c.seat.inside.seat.table_id me.0).node) (sym t.1 ∙ m.1) ∙ m.2 in
    let turn = took l.legal l.entries l.fetches l.refused c.args.self.now c.seat.inside.node false c.take-found.result c.fetch-answer.new.self c.seat.inside.seat.table_id c.seat.inside.seat.me c.take-found.new.seat.me c.give.new.seat.me c.give.new.seat.table_id c.args.seat.now c.seat.view_is c.requires.own m t c.give.ensures.view (c.give.ensures.seat.0 ∙ c.take-found.ensures.seat.0) in
    fetch_keeps l.legal l.entries l.fetches l.refused c.args.self.now c.seat.inside.node false c.take-found.result c.fetch-answer.new.self _ _ turn b.kept refl

pub returns-clause-fetched : goal.returns-clause-fetched
returns-clause-fetched g c =
    let l = g.L.Legal in
    let t = c.take-found.ensures.view in
    let m = c.seat.invariant in
    let b = c.fetch-answer.ensures in
    let node : t.0.node ≡ c.seat.inside.node = ap (λ me. (seat_value c.seat.inside.seat.table_id me.0).node) (sym t.1 ∙ m.1) ∙ m.2 in
    let adds = fetch_adds c.fetch-answer.result c.seat.inside.node (l.fetches c.take-found.result) (l.fetches c.fetch-answer.new.self) b.fetched b.err in
    let turn = took l.legal l.entries l.fetches l.refused c.args.self.now c.seat.inside.node false c.take-found.result c.fetch-answer.new.self c.seat.inside.seat.table_id c.seat.inside.seat.me c.take-found.new.seat.me c.give.new.seat.me c.give.new.seat.table_id c.args.seat.now c.seat.view_is c.requires.own m t c.give.ensures.view (c.give.ensures.seat.0 ∙ c.take-found.ensures.seat.0) in
    fetch_says l.legal l.entries l.fetches l.refused c.args.self.now c.seat.inside.node false c.take-found.result c.fetch-answer.new.self _ _ turn b.kept l.sends c.fetch-answer.result b.pending b.bytes adds

pub returns-clause-err : goal.returns-clause-err
returns-clause-err g c =
    let l = g.L.Legal in
    let t = c.take-found.ensures.view in
    let m = c.seat.invariant in
    let b = c.fetch-answer.ensures in
    let node : t.0.node ≡ c.seat.inside.node = ap (λ me. (seat_value c.seat.inside.seat.table_id me.0).node) (sym t.1 ∙ m.1) ∙ m.2 in
    let adds = fetch_adds c.fetch-answer.result c.seat.inside.node (l.fetches c.take-found.result) (l.fetches c.fetch-answer.new.self) b.fetched b.err in
    let turn = took l.legal l.entries l.fetches l.refused c.args.self.now c.seat.inside.node false c.take-found.result c.fetch-answer.new.self c.seat.inside.seat.table_id c.seat.inside.seat.me c.take-found.new.seat.me c.give.new.seat.me c.give.new.seat.table_id c.args.seat.now c.seat.view_is c.requires.own m t c.give.ensures.view (c.give.ensures.seat.0 ∙ c.take-found.ensures.seat.0) in
    fetch_stays l.legal l.entries l.fetches l.refused c.args.self.now c.seat.inside.node false c.take-found.result c.fetch-answer.new.self _ _ turn c.fetch-answer.result adds
