use Rattle.std.proofs.Common.{ap}
use Rattle.eris_journal.proofs.Calls.{closed_book, closing, not_empty}
use Rattle.eris_journal.proofs.journal.Journal.close.Goals as goal

pub unreachable-requires : goal.unreachable-requires
unreachable-requires g c = let l = g.L.Legal in let h = c.hand.invariant in
    not_empty l.legal l.entries l.fetches l.refused _ _ _ _
    (closed_book l.legal l.entries l.fetches l.refused c.args.self _ _ _ _ _ h.0 _ _ _ _ _ c.hand.view_is (ap (λ j. j.start) c.self.view_is) c.requires.own c.requires.joined h.1 h.2 h.3 h.4 c.close_with-closed.ensures.values.2)
    c.take-book.ensures.value c.in_default.is

pub returns-clause-legal : goal.returns-clause-legal
returns-clause-legal g c = let l = g.L.Legal in let h = c.hand.invariant in
    (closing l.legal l.entries l.fetches l.refused c.args.self.start c.args.hand _ _ c.in-Some.book
    (closed_book l.legal l.entries l.fetches l.refused c.args.self _ _ _ _ _ h.0 _ _ _ _ _ c.hand.view_is (ap (λ j. j.start) c.self.view_is) c.requires.own c.requires.joined h.1 h.2 h.3 h.4 c.close_with-closed.ensures.values.2)
    c.take-book.ensures.value c.in-Some.is).is_legal

pub returns-clause-grows : goal.returns-clause-grows
returns-clause-grows g c = let l = g.L.Legal in let h = c.hand.invariant in
    (closing l.legal l.entries l.fetches l.refused c.args.self.start c.args.hand _ _ c.in-Some.book
    (closed_book l.legal l.entries l.fetches l.refused c.args.self _ _ _ _ _ h.0 _ _ _ _ _ c.hand.view_is (ap (λ j. j.start) c.self.view_is) c.requires.own c.requires.joined h.1 h.2 h.3 h.4 c.close_with-closed.ensures.values.2)
    c.take-book.ensures.value c.in-Some.is).grown

pub returns-clause-seats : goal.returns-clause-seats
returns-clause-seats g c = let l = g.L.Legal in let h = c.hand.invariant in
    (closing l.legal l.entries l.fetches l.refused c.args.self.start c.args.hand _ _ c.in-Some.book
    (closed_book l.legal l.entries l.fetches l.refused c.args.self _ _ _ _ _ h.0 _ _ _ _ _ c.hand.view_is (ap (λ j. j.start) c.self.view_is) c.requires.own c.requires.joined h.1 h.2 h.3 h.4 c.close_with-closed.ensures.values.2)
    c.take-book.ensures.value c.in-Some.is).seats

pub returns-clause-others : goal.returns-clause-others
returns-clause-others g c = let l = g.L.Legal in let h = c.hand.invariant in
    (closing l.legal l.entries l.fetches l.refused c.args.self.start c.args.hand _ _ c.in-Some.book
    (closed_book l.legal l.entries l.fetches l.refused c.args.self _ _ _ _ _ h.0 _ _ _ _ _ c.hand.view_is (ap (λ j. j.start) c.self.view_is) c.requires.own c.requires.joined h.1 h.2 h.3 h.4 c.close_with-closed.ensures.values.2)
    c.take-book.ensures.value c.in-Some.is).others

pub returns-clause-names : goal.returns-clause-names
returns-clause-names g c = let l = g.L.Legal in let h = c.hand.invariant in
    (closing l.legal l.entries l.fetches l.refused c.args.self.start c.args.hand _ _ c.in-Some.book
    (closed_book l.legal l.entries l.fetches l.refused c.args.self _ _ _ _ _ h.0 _ _ _ _ _ c.hand.view_is (ap (λ j. j.start) c.self.view_is) c.requires.own c.requires.joined h.1 h.2 h.3 h.4 c.close_with-closed.ensures.values.2)
    c.take-book.ensures.value c.in-Some.is).names

pub returns-clause-full : goal.returns-clause-full
returns-clause-full g c = let l = g.L.Legal in let h = c.hand.invariant in
    (closing l.legal l.entries l.fetches l.refused c.args.self.start c.args.hand _ _ c.in-Some.book
    (closed_book l.legal l.entries l.fetches l.refused c.args.self _ _ _ _ _ h.0 _ _ _ _ _ c.hand.view_is (ap (λ j. j.start) c.self.view_is) c.requires.own c.requires.joined h.1 h.2 h.3 h.4 c.close_with-closed.ensures.values.2)
    c.take-book.ensures.value c.in-Some.is).full

pub returns-clause-refused : goal.returns-clause-refused
returns-clause-refused g c = let l = g.L.Legal in let h = c.hand.invariant in
    (closing l.legal l.entries l.fetches l.refused c.args.self.start c.args.hand _ _ c.in-Some.book
    (closed_book l.legal l.entries l.fetches l.refused c.args.self _ _ _ _ _ h.0 _ _ _ _ _ c.hand.view_is (ap (λ j. j.start) c.self.view_is) c.requires.own c.requires.joined h.1 h.2 h.3 h.4 c.close_with-closed.ensures.values.2)
    c.take-book.ensures.value c.in-Some.is).refusal
