use Rattle.std.proofs.Common.{◌≡◌, ◌+◌, ◌-◌, ◌≤◌, length, take, not}
use Rattle.std.specs.List.{suffix_len}
use Rattle.eris_words.specs.Cuts.{is_space}
use Rattle.eris_migrate.proofs.spelling.last_word_at.Given as goal

abbrev pub invariant-loop-start : goal.invariant-loop-start
invariant-loop-start l = record {
  within : l.start ≤ length l.line;
  behind : suffix_len (λ byte. not (is_space byte)) l.line ≡ (length l.line - l.start) + suffix_len (λ byte. not (is_space byte)) (take l.start l.line);
}

abbrev pub decreases-loop-start : goal.decreases-loop-start
decreases-loop-start l = l.start
