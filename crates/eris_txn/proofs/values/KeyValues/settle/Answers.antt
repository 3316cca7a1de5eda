use Rattle.std.proofs.Common.{◌≡◌, ℕ, suc, ◌+◌, ◌<◌, Some, List, ◌∷◌, length, drop, get_or, ap, sym, ◌∙◌, add-one, drop-cons}
use Rattle.eris_txn.specs.declared.plan.Setting.{Setting}
use Rattle.eris_txn.specs.Keys.{Values, with_value}
use Rattle.eris_txn.specs.KeyValues.{values_of}
use Rattle.eris_txn.specs.Plans.{set_by, settled}
use Rattle.eris_txn.proofs.values.KeyValues.settle.Goals as goal

-- the first of the settings that are left is made, and then the others
settled_next : (settings : List Setting) (i : ℕ) (setting : Setting) (values : Values) → i < length settings → setting ≡ get_or settings i setting
    → settled (drop i settings) values ≡ settled (drop (i + 1) settings) (with_value setting.key (Some (set_by setting.how (values setting.key))) values)
settled_next settings i setting values below is =
    ap (λ left. settled left values)
    (drop-cons settings i setting below ∙ ap (λ first. first ∷ drop (suc i) settings) (sym is) ∙ ap (λ n. setting ∷ drop n settings) (sym (add-one i)))

pub loop-setting-preserved : goal.loop-setting-preserved
loop-setting-preserved c =
    let settings = c.args.settings.now in
    let i = c.loop-setting.setting-index in
    ap (settled (drop (i + 1) settings)) c.in_ok-set.ensures.ok
    ∙ sym (settled_next settings i c.setting-item.result (values_of c.loop-setting.self) c.loop-setting-test.true c.setting-item.is)
    ∙ c.loop-setting.invariant
