-- What was done to a disk since it was made, the newest first, and what follows of it.
use Rattle.std.specs.Prelude.{◌≡◌, ◌⊎◌, ⊤, ℕ, ◌+◌, ◌-◌, ◌^◌, ◌≤◌, if◌then◌else◌, Bool, true, false, List, [], ◌∷◌, ◌++◌, length, take, drop, replicate}
use Rattle.eris_disk.specs.declared.disk_call.DiskCall.{DiskCall}
use Rattle.eris_disk.specs.declared.disk_call.DiskCall.TheVariants.{Write, Sync}
use Rattle.eris_disk.specs.Disks.{overwritten, OrTorn}

-- a write of bytes at a place, or a sync, and whether it was answered Ok
pub data DiskAct : Type 0 where
  Wrote : (at : ℕ) (bytes : List ℕ) (is_ok : Bool) → DiskAct
  Synced : (is_ok : Bool) → DiskAct

-- the bytes, with as many of one kind behind them as there lack up to a length
abbrev pub widened : List ℕ → ℕ → ℕ → List ℕ
widened bytes size fill = bytes ++ replicate (size - length bytes) fill

-- the content after a write, which changes it only if it is Ok
abbrev pub after_write : List ℕ → ℕ → List ℕ → Bool → List ℕ
after_write content at bytes true = overwritten (widened content (at + length bytes) 0) at bytes
after_write content at bytes false = content

-- the content after all of it
abbrev pub content_after : List ℕ → List DiskAct → List ℕ
content_after first [] = first
content_after first (Wrote at bytes is_ok ∷ older) = after_write (content_after first older) at bytes is_ok
content_after first (Synced is_ok ∷ older) = content_after first older

-- what a crash may leave after all of it
abbrev pub may_leave_after : List ℕ → List DiskAct → List ℕ → Type 0
may_leave_after first [] = λ bytes. bytes ≡ first
may_leave_after first (Wrote at written is_ok ∷ older) = OrTorn (may_leave_after first older) at (length written)
may_leave_after first (Synced true ∷ older) = λ bytes. bytes ≡ content_after first older
may_leave_after first (Synced false ∷ older) = may_leave_after first older

-- what a crash may have left at some moment since so many acts were done
abbrev pub may_have_left_after : List ℕ → List DiskAct → ℕ → List ℕ → Type 0
may_have_left_after first [] time bytes = bytes ≡ first
may_have_left_after first (act ∷ older) time bytes =
    may_leave_after first (act ∷ older) bytes ⊎ ((time ≤ length older) × may_have_left_after first older time bytes)

-- the range filled with one byte, and what is added with it
abbrev pub filled : List ℕ → ℕ → ℕ → ℕ → List ℕ
filled bytes at count fill = overwritten (widened bytes (at + count) fill) at (replicate count fill)

-- the content of the last sync that was Ok, or the first, with the range of each later write filled with one byte
abbrev pub image_after : ℕ → List ℕ → List DiskAct → List ℕ
image_after fill first [] = first
image_after fill first (Wrote at bytes is_ok ∷ older) = filled (image_after fill first older) at (length bytes) fill
image_after fill first (Synced true ∷ older) = content_after first older
image_after fill first (Synced false ∷ older) = image_after fill first older

-- what an act is told as
abbrev pub told : DiskAct → DiskCall
told (Wrote at bytes is_ok) = Write at (length bytes) is_ok
told (Synced is_ok) = Sync is_ok

-- what the calls did, in order, which wrote these bytes one after another; before them this was done
abbrev pub done_by : List DiskCall → List ℕ → List DiskAct → List DiskAct
done_by [] written older = older
done_by (Write at count is_ok ∷ calls) written older = done_by calls (drop count written) (Wrote at (take count written) is_ok ∷ older)
done_by (Sync is_ok ∷ calls) written older = done_by calls written (Synced is_ok ∷ older)

-- how many bytes the calls wrote
abbrev pub written_by : List DiskCall → ℕ
written_by [] = 0
written_by (Write at count is_ok ∷ calls) = count + written_by calls
written_by (Sync is_ok ∷ calls) = written_by calls

-- the content after calls that wrote these bytes, one call after another
abbrev pub replayed : List ℕ → List DiskCall → List ℕ → List ℕ
replayed content [] written = content
replayed content (Write at count is_ok ∷ calls) written = replayed (after_write content at (take count written) is_ok) calls (drop count written)
replayed content (Sync is_ok ∷ calls) written = replayed content calls written

-- the content with the range of each write filled with one byte, one after another
abbrev pub filled_by : ℕ → List ℕ → List DiskCall → List ℕ
filled_by fill content [] = content
filled_by fill content (Write at count is_ok ∷ calls) = filled_by fill (filled content at count fill) calls
filled_by fill content (Sync is_ok ∷ calls) = filled_by fill content calls

-- whether the call is a sync that was Ok
abbrev pub is_synced : DiskCall → Bool
is_synced (Write at count is_ok) = false
is_synced (Sync is_ok) = is_ok

-- whether none of the calls is
abbrev pub none_synced : List DiskCall → Bool
none_synced [] = true
none_synced (call ∷ calls) = if is_synced call then false else none_synced calls

-- the range of a write is short enough for numbers of 64 bits
abbrev pub IsShort : DiskCall → Type 0
IsShort (Write at count is_ok) = at + count ≤ 2 ^ 40
IsShort (Sync is_ok) = ⊤

abbrev pub AreShort : List DiskCall → Type 0
AreShort [] = ⊤
AreShort (call ∷ calls) = IsShort call × AreShort calls

-- the calls end with a sync that was Ok, or there are none
abbrev pub EndsSynced : List DiskCall → Type 0
EndsSynced calls = (calls ≡ []) ⊎ ((front : List DiskCall) × (calls ≡ front ++ Sync true ∷ []))
