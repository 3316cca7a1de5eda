use Rattle.std.proofs.Common.{◌≡◌, ℕ, None, IfSome, List, string_bytes, subst, sym, arith}
use Rattle.eris_cmd.specs.Commands.{IsReader}
use Rattle.eris_cmd.specs.Named.{Names}
use Rattle.eris_cmd.proofs.Words.{alone}
use Rattle.eris_cmd.proofs.command.reader_of.Goals as goal

pub returns-in-len1-clause-some : goal.returns-in-len1-clause-some
returns-in-len1-clause-some c =
    subst (λ (all : List (List ℕ)). IfSome c.command_of.result (Names all)) (sym (alone string_bytes _ _ _ (omega arith) c.word-item.is c.as_str.ensures.value))
    c.command_of.ensures.some

pub returns-in-len1-clause-none : goal.returns-in-len1-clause-none
returns-in-len1-clause-none c =
    subst (λ (all : List (List ℕ)). c.command_of.result ≡ None → IsReader all → ⊥) (sym (alone string_bytes _ _ _ (omega arith) c.word-item.is c.as_str.ensures.value))
    c.command_of.ensures.none
