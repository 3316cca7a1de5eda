use Rattle.std.proofs.Common.{◌≡◌, ◌++◌, take}
use Rattle.std.specs.List.{flat_map}
use Rattle.eris_words.specs.PlanText.{setting_words}
use Rattle.eris_words.specs.Words.{spaced}
use Rattle.eris_words.proofs.plan_text.put_settings.Given as goal

abbrev pub invariant-loop-setting : goal.invariant-loop-setting
invariant-loop-setting l = l.out ≡ l.fn.out ++ spaced (flat_map setting_words (take l.setting-index l.settings))
