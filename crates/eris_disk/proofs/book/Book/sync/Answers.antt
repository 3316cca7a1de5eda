use Rattle.std.proofs.Common.{sym, subst, ◌≤◌, ◌-◌, [], refl, ◌∙◌, ap, arith, vec_capacity}
use Rattle.eris_disk.specs.Histories.{DiskAct, done_by}
use Rattle.eris_disk.specs.DiskValues.{DiskValue}
use Rattle.eris_disk.proofs.Acts.{book_syncs, done_by-sync, value_after}
use Rattle.eris_disk.proofs.book.Book.sync.Goals as goal

pub invariant_of-self : goal.invariant_of-self
invariant_of-self c =
    let old = c.self.inside in
    let some : 1 ≤ old.spare = let P : DiskValue → Type 0 = λ v. 1 ≤ v.spare in subst P (sym c.self.view_is) c.requires in
    book_syncs old.first old.content.items old.written.items old.calls.items old.is_begun old.room old.spare (vec_capacity old.content)
    (vec_capacity old.written) (vec_capacity old.calls) c.args.is_ok c.push_reserved.new.self.items (old.spare - 1)
    (vec_capacity c.push_reserved.new.self) c.self.invariant some c.push_reserved.ensures.items refl (omega arith)

pub returns : goal.returns
returns c =
    let old = c.self.inside in
    value_after old.first (done_by old.calls.items old.written.items []) (done_by c.push_reserved.new.self.items old.written.items []) old.room old.spare
    (DiskAct.Synced c.args.is_ok) c.args.self.now
    (ap (λ l. done_by l old.written.items []) c.push_reserved.ensures.items ∙ done_by-sync old.calls.items old.written.items [] c.args.is_ok)
    c.self.view_is
