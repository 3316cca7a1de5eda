-- What a replica answers when it is asked about a place.
use Rattle.std.specs.Prelude.{ℕ, Bool, ◌||◌, Option, Some, None, if◌then◌else◌}
use Rattle.eris_base.specs.declared.ids.Place.{Place}
use Rattle.eris_log.specs.Entries.{holder_of}
use Rattle.eris_log.specs.PartValues.{PartValue}
use Rattle.eris_log.specs.Places.{contains_place}
use Rattle.eris_drop.specs.declared.request.RequestAnswer.{RequestAnswer}
use Rattle.eris_drop.specs.declared.request.RequestAnswer.TheVariants.{Has, Silent, Temp}

-- the place is dropped for good or found
unfoldable pub is_known : PartValue → Place → Bool
is_known part place = contains_place part.perm place || contains_place part.fnd place

-- the answer, where this is the number of the packet that has the place
unfoldable pub answer_by : PartValue → Place → Option ℕ → RequestAnswer
answer_by part place (Some number) = Has number
answer_by part place None = if is_known part place then Silent else Temp

-- the least held number whose packet has the place; else nothing where the place is found or dropped for
-- good; else the place is dropped for a time
unfoldable pub answer_request : PartValue → Place → RequestAnswer
answer_request part place = answer_by part place (holder_of part place)
