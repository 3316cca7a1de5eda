use Rattle.std.proofs.Common.{◌≡◌, ◌-◌, []}
use Rattle.eris_codec.specs.Codecs.{read_items}
use Rattle.eris_codec.specs.Fields as f
use Rattle.eris_codec.proofs.Chain.{with_front}
use Rattle.eris_codec.proofs.read_fields.read_stamp_places.Given as goal

abbrev pub invariant-loop : goal.invariant-loop
invariant-loop l = with_front l.places (read_items f.stamp_place l.places (l.count - l.counter) l.input) ≡ read_items f.stamp_place [] l.count l.fn.input
