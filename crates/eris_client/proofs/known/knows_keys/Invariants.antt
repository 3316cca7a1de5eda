use Rattle.std.proofs.Common.{◌≡◌, length, true}
use Rattle.eris_base.specs.Each.{Each}
use Rattle.eris_codec.specs.Fields as f
use Rattle.eris_rules.specs.Known.{knows_keys}
use Rattle.eris_client.proofs.known.knows_keys.Given as goal

abbrev pub invariant-loop-rest : goal.invariant-loop-rest
invariant-loop-rest l = record {
  exact : knows_keys l.config l.rest ≡ knows_keys l.config l.fn.keys;
  fits : Each (λ key. f.key.fits key ≡ true) l.rest → Each (λ key. f.key.fits key ≡ true) l.fn.keys;
}

abbrev pub decreases-loop-rest : goal.decreases-loop-rest
decreases-loop-rest l = length l.rest
