use Rattle.std.specs.Prelude.{ℕ, IsTrue, List}
use Rattle.eris_base.specs.declared.ids.Epoch.{Epoch}
use Rattle.eris_base.specs.declared.ids.Place.{Place}
use Rattle.eris_txn.specs.declared.packet.Packet.{Packet}
use Rattle.eris_log.specs.Held.{numbers_ascend, count_from_one}
use Rattle.eris_log.specs.PartValues.{PartValue}
use Rattle.eris_log.specs.Places.{places_ascend, are_of_epoch}

-- packets by strictly ascending numbers, from 1 on
pub record AreHeld (held : List (ℕ × Packet)) : Type 0 where
  pub ascend : IsTrue (numbers_ascend held)
  pub from_one : IsTrue (count_from_one held)

-- strictly ascending places of the epoch
pub record AreMarks (epoch : Epoch) (places : List Place) : Type 0 where
  pub ascend : IsTrue (places_ascend places)
  pub of_epoch : IsTrue (are_of_epoch epoch places)

-- the facts that a part keeps
pub record IsPart (part : PartValue) : Type 0 where
  pub held : AreHeld part.held
  pub temp : AreMarks part.epoch part.temp
  pub fnd : AreMarks part.epoch part.fnd
  pub perm : AreMarks part.epoch part.perm
