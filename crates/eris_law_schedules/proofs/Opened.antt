-- All definitions that a run of whole worlds computes with, beside those of one epoch.
use Rattle.std.specs.Prelude.{ℕ}
use Rattle.eris_law_agreement.specs.Alone as agreement_alone
use Rattle.eris_law_agreement.specs.WorldMoments as agreement_world_moments
use Rattle.eris_law_key.proofs.Opened.{all_definitions}
use Rattle.eris_rules.proofs.Opened as rules_opened

unfoldable pub of_agreement : ℕ
unfolding agreement_world_moments.moment_from agreement_alone.state_of
of_agreement = 0

unfoldable pub all_rules : ℕ
unfolding all_definitions rules_opened.all_rules of_agreement
all_rules = 0
