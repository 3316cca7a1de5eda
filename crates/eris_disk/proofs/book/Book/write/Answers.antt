use Rattle.std.proofs.Common.{sym, subst, ◌≡◌, ◌+◌, ◌-◌, ◌≤◌, [], ◌++◌, ◌∷◌, length, refl, ◌∙◌, ap, arith, rules, vec_capacity}
use Rattle.eris_disk.specs.declared.disk_call.DiskCall.TheVariants.{Write}
use Rattle.eris_disk.specs.Histories.{DiskAct, done_by, after_write}
use Rattle.eris_disk.specs.DiskValues.{DiskValue}
use Rattle.eris_disk.proofs.Acts.{book_writes, done_by-write, value_after}
use Rattle.eris_disk.proofs.book.Book.write.Goals as goal

pub invariant_of-self : goal.invariant_of-self
invariant_of-self c =
    let old = c.self.inside in
    let some : 1 ≤ old.spare = let P : DiskValue → Type 0 = λ v. 1 ≤ v.spare in subst P (sym c.self.view_is) c.requires.spare in
    let within : c.args.at + length c.args.bytes.now ≤ old.room = let P : DiskValue → Type 0 = λ v. c.args.at + length c.args.bytes.now ≤ v.room in subst P (sym c.self.view_is) c.requires.room in
    let content : c.put_if.new.content.items ≡ after_write old.content.items c.args.at c.args.bytes.now c.args.is_ok = search rules in
    let log : c.extend_from_slice.new.self.items ≡ old.written.items ++ c.args.bytes.now = search rules in
    book_writes old.first old.content.items old.written.items old.calls.items old.is_begun old.room old.spare (vec_capacity old.content)
    (vec_capacity old.written) (vec_capacity old.calls) c.args.at c.args.bytes.now c.args.is_ok c.put_if.new.content.items
    c.extend_from_slice.new.self.items c.push_reserved.new.self.items (old.spare - 1) (vec_capacity c.put_if.new.content)
    (vec_capacity c.extend_from_slice.new.self) (vec_capacity c.push_reserved.new.self) c.self.invariant some within content log
    c.push_reserved.ensures.items refl (omega arith) (omega arith) (omega arith)

pub returns : goal.returns
returns c =
    let old = c.self.inside in
    let log : c.extend_from_slice.new.self.items ≡ old.written.items ++ c.args.bytes.now = search rules in
    value_after old.first (done_by old.calls.items old.written.items [])
    (done_by c.push_reserved.new.self.items c.extend_from_slice.new.self.items []) old.room old.spare
    (DiskAct.Wrote c.args.at c.args.bytes.now c.args.is_ok) c.args.self.now
    (ap (λ l. done_by l c.extend_from_slice.new.self.items []) c.push_reserved.ensures.items
    ∙ ap (λ l. done_by (old.calls.items ++ Write c.args.at (length c.args.bytes.now) c.args.is_ok ∷ []) l []) log
    ∙ done_by-write old.calls.items old.written.items [] c.args.at c.args.bytes.now c.args.is_ok c.self.invariant.logged)
    c.self.view_is
