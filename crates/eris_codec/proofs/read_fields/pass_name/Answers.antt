use Rattle.std.proofs.Common.{take, sym, ◌∙◌}
use Rattle.std.proofs.lemmas.Result.{err_from_is_err_and}
use Rattle.eris_txn.specs.Names.{is_name_byte}
use Rattle.eris_codec.specs.declared.fault.DecodeReason.TheVariants.{Range}
use Rattle.eris_codec.specs.Codecs.{checked}
use Rattle.eris_codec.specs.Fields as f
use Rattle.eris_codec.proofs.Chain.{goes_on, ends}
use Rattle.eris_codec.proofs.NameBytes.{take_next, drop_next, within_next, all_next}
use Rattle.eris_codec.proofs.read_fields.pass_name.Goals as goal

pub loop-preserved : goal.loop-preserved
loop-preserved c =
    let i = c.loop.counter in
    let bytes = c.args.input.now in
    let byte = c.in_ok-read_name_byte.field-0 in
    let e = sym c.loop.invariant.place ∙ c.in_ok-read_name_byte.ensures.byte in
    record {
      place = drop_next bytes i byte _ e;
      within = within_next bytes i byte _ e;
      allowed = rw (take_next bytes i byte _ e) (all_next (take i bytes) byte c.loop.invariant.allowed c.in_ok-read_name_byte.ensures.allowed);
      gives = rw (take_next bytes i byte _ e) (goes_on (λ _. checked is_name_byte Range f.byte) _ c.args.count i _ byte _ _ c.loop-test.true c.in_ok-read_name_byte.ensures.gives c.loop.invariant.gives);
    }

pub returns-in_err-read_name_byte-clause-gives : goal.returns-in_err-read_name_byte-clause-gives
returns-in_err-read_name_byte-clause-gives c =
    let p = err_from_is_err_and c.from_residual.result c.from_residual.ensures.1 in
    rw (p.1, p.2) (ends (λ _. checked is_name_byte Range f.byte) c.in_err-read_name_byte.field-0.0 _ c.args.count c.loop.counter _ _ c.loop-test.true c.in_err-read_name_byte.ensures.gives c.loop.invariant.gives)
