use Rattle.std.proofs.Common.{◌≡◌, length, map, true}
use Rattle.eris_base.specs.Each.{Each}
use Rattle.eris_txn.specs.Operations.{key_of}
use Rattle.eris_codec.specs.Fields as f
use Rattle.eris_rules.specs.Known.{knows_keys}
use Rattle.eris_client.proofs.known.knows_ops.Given as goal

abbrev pub invariant-loop-rest : goal.invariant-loop-rest
invariant-loop-rest l = record {
  exact : knows_keys l.config (map key_of l.rest) ≡ knows_keys l.config (map key_of l.fn.ops);
  fits : Each (λ op. f.op.fits op ≡ true) l.rest → Each (λ op. f.op.fits op ≡ true) l.fn.ops;
}

abbrev pub decreases-loop-rest : goal.decreases-loop-rest
decreases-loop-rest l = length l.rest
