use Rattle.std.proofs.Common.{◌+◌, ℕ, List, sym, ap, ◌∙◌, subst}
use Rattle.eris_live_book.specs.declared.post.Post.{Post}
use Rattle.eris_live_book.specs.LiveBookValues.{IsKeptBook, IsLegal, entries_of, fetches_of}
use Rattle.eris_live_book.specs.Places.{sent_by}
use Rattle.eris_live_book.proofs.LegalLaws.{posted_entries, posted_fetches, posted_kept, posted_legal, value_of}
use Rattle.eris_network.specs.declared.sent_counts.SentCounts.{SentCounts}
use Rattle.eris_live_book.proofs.book.LiveBook.post.Goals as goal

pub invariant_of-self : goal.invariant_of-self
invariant_of-self c =
    let i = c.self.inside in
    let more : SentCounts = record { packets = i.counts.packets + c.len.result; bytes = i.counts.bytes + c.size.result } in
    subst (λ (posts : List Post). IsKeptBook posts more i.fetched i.places) (sym c.in-Ok.ensures.ok)
    (posted_kept i.posts i.counts i.fetched i.places c.self.invariant i.refused c.args.self.now c.self.view_is c.args.node c.args.entry c.args.sent c.requires.framed c.requires.room more
    (ap (λ (n : ℕ). i.counts.packets + n) c.len.ensures.exact) (ap (λ (n : ℕ). i.counts.bytes + n) c.size.ensures.exact))

pub returns-in-Ok-clause-legal : goal.returns-in-Ok-clause-legal
returns-in-Ok-clause-legal c =
    let i = c.self.inside in
    subst (λ (posts : List Post). IsLegal (value_of posts i.fetched i.refused)) (sym c.in-Ok.ensures.ok)
    (posted_legal i.posts i.counts i.fetched i.places c.self.invariant i.refused c.args.self.now c.self.view_is c.args.node c.args.entry c.args.sent c.requires.framed c.requires.legal c.requires.free c.requires.step c.requires.room)

pub returns-in-Ok-clause-kept : goal.returns-in-Ok-clause-kept
returns-in-Ok-clause-kept c =
    let i = c.self.inside in (
      ap (λ (posts : List Post). fetches_of (sent_by posts) i.fetched) c.in-Ok.ensures.ok ∙ posted_fetches i.posts i.counts i.fetched i.places c.self.invariant i.refused c.args.self.now c.self.view_is c.args.node c.args.entry c.args.sent c.requires.framed,
      ap (λ value. value.refused) c.self.view_is,
    )

pub returns-in-Ok-clause-added : goal.returns-in-Ok-clause-added
returns-in-Ok-clause-added c =
    let i = c.self.inside in
    ap entries_of c.in-Ok.ensures.ok ∙ posted_entries i.posts i.counts i.fetched i.places c.self.invariant i.refused c.args.self.now c.self.view_is c.args.node c.args.entry c.args.sent c.requires.framed
