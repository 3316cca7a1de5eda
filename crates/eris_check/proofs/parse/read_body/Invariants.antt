use Rattle.std.proofs.Common.{◌≡◌, ◌+◌, ◌<◌, length}
use Rattle.eris_check.specs.FullLines.{full_lines}
use Rattle.eris_check.specs.TextReading.{body_read}
use Rattle.eris_check.proofs.parse.read_body.Given as goal

abbrev pub invariant-loop-rest : goal.invariant-loop-rest
invariant-loop-rest l =
    (body_read l.line l.draft (full_lines l.rest) ≡ body_read l.fn.number l.fn.draft (full_lines l.fn.bytes))
    × (l.line + length l.rest < 4294967296)

abbrev pub decreases-loop-rest : goal.decreases-loop-rest
decreases-loop-rest l = length l.rest
