use Rattle.std.proofs.Common.{string_bytes, bytes_eq, codes, ap, ◌∙◌, arith}
use Rattle.eris_cmd.proofs.Drills.{names_drill}
use Rattle.eris_cmd.proofs.command.drill_of.Goals as goal

pub returns-in-len2-clause-some : goal.returns-in-len2-clause-some
returns-in-len2-clause-some c = names_drill string_bytes _ _ _ _ _ _ (omega arith) c.word-item.is c.number-item.is
    (c.eq.ensures ∙ ap (λ bytes. bytes_eq bytes (codes "drill")) c.as_str.ensures.value) c.if-eq.true c.as_bytes.ensures.value c.number_of.ensures.some
