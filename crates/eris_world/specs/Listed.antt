-- What is kept while a world's order is made.
use Rattle.eris_packet_index.specs.FirstPlaces.{KnowsAll}
use Rattle.eris_rules.specs.Worlds.{WorldState}
use Rattle.eris_world.specs.declared.ordering.Index.{Index}

-- the indexes are of the world's closed and found packets
pub record IsOfWorld (index : Index) (world : WorldState) : Type 0 where
  pub of_closed : KnowsAll index.closed world.coordinator.closed
  pub of_found : KnowsAll index.found world.coordinator.inner.found
