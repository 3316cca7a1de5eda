use Rattle.std.proofs.Common.{[], map, sym, ◌∙◌, ap}
use Rattle.std.specs.Prelude.{reverse}
use Rattle.eris_disk.specs.Histories.{told}
use Rattle.eris_disk.specs.DiskValues.{DiskValue}
use Rattle.eris_disk.proofs.Acts.{told_by}
use Rattle.eris_disk.proofs.book.Book.calls.Goals as goal

pub returns : goal.returns
returns c =
    c.as_slice.ensures.value ∙ sym (told_by c.self.inside.calls.items c.self.inside.written.items [] c.self.invariant.logged)
    ∙ ap (λ (v : DiskValue). reverse (map told v.acts)) c.self.view_is
