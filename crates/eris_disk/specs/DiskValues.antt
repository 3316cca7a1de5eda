-- What contracts see of the disks in memory.
use Rattle.std.specs.Prelude.{◌≡◌, ℕ, ◌+◌, ◌-◌, ◌*◌, ◌^◌, ◌≤◌, Bool, true, false, List, [], ◌∷◌, length}
use Rattle.eris_disk.specs.declared.disk_call.DiskCall.{DiskCall}
use Rattle.eris_disk.specs.Histories.{DiskAct, content_after, may_leave_after, may_have_left_after, done_by, written_by, AreShort}
use Rattle.eris_stream.specs.MemoryStreams.{CallsValue}

-- the content that a disk was made with, what was done to it since, the newest first, up to which length there is room, and for how
-- many calls there is memory
pub record DiskValue : Type 0 where
  pub first : List ℕ
  pub acts : List DiskAct
  pub room : ℕ
  pub spare : ℕ

abbrev pub content_of : DiskValue → List ℕ
content_of disk = content_after disk.first disk.acts

-- a disk that did one thing more, for which there was memory
abbrev pub after_act : DiskValue → DiskAct → DiskValue
after_act disk act = record disk { acts = act ∷ disk.acts; spare = disk.spare - 1 }

abbrev pub clock_of : DiskValue → ℕ
clock_of disk = length disk.acts

abbrev pub may_leave : DiskValue → List ℕ → Type 0
may_leave disk = may_leave_after disk.first disk.acts

abbrev pub may_have_left : DiskValue → ℕ → List ℕ → Type 0
may_have_left disk = may_have_left_after disk.first disk.acts

-- a disk in memory, and its calls, some of which are to fail
pub record MemDiskValue : Type 0 where
  pub disk : DiskValue
  pub calls : CallsValue

-- The content is copied before anything is done, all that was written stands in one list, and there is memory for the calls to come.
pub record IsBook (first content written : List ℕ) (calls : List DiskCall) (is_begun : Bool) (room spare content_room written_room calls_room : ℕ) : Type 0 where
  pub copied : is_begun ≡ true → content ≡ content_after first (done_by calls written [])
  pub unused : is_begun ≡ false → calls ≡ []
  pub unready : is_begun ≡ false → spare ≡ 0
  pub logged : written_by calls ≡ length written
  pub holds_content : room ≤ content_room
  pub holds_written : length written + spare * room ≤ written_room
  pub holds_calls : length calls + spare ≤ calls_room
  pub few : spare ≤ 4
  pub short : room ≤ 2 ^ 40
  pub short_calls : AreShort calls
