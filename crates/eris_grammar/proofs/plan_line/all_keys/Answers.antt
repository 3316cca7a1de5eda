use Rattle.std.proofs.Common.{sym, ◌∙◌, arith}
use Rattle.std.proofs.lemmas.Result.{err_from_is_err_and}
use Rattle.eris_grammar.proofs.KeySteps.{key_goes_on, key_refused, key_shorter, keys_end, keys_stop}
use Rattle.eris_grammar.proofs.plan_line.all_keys.Goals.{then-loop-words-test+else-not-is_at, else-loop-words-test}
use Rattle.eris_grammar.proofs.plan_line.all_keys.Goals as goal

pub loop-words-smaller : goal.loop-words-smaller
loop-words-smaller c = key_shorter c.args.version c.loop-words.words _ _ c.in_ok-key_of-2.ensures.gives

pub loop-words-preserved : goal.loop-words-preserved
loop-words-preserved c = rw c.in_ok-push-2.ensures.ok (key_goes_on c.args.version _ c.loop-words.words _ _ _ (sym c.is_at_end.ensures ∙ grind arith)
    (sym c.is_at.ensures ∙ grind arith) c.in_ok-key_of-2.ensures.gives c.loop-words.invariant)

pub returns-in_err-key_of-2 : goal.returns-in_err-key_of-2
returns-in_err-key_of-2 c =
    let p = err_from_is_err_and c.from_residual-in_err-key_of-2.result c.from_residual-in_err-key_of-2.ensures.1 in
    rw (p.1, p.2) (key_refused c.args.version _ c.loop-words.words _ _ (sym c.is_at_end.ensures ∙ grind arith) (sym c.is_at.ensures ∙ grind arith)
    c.in_err-key_of-2.ensures.gives c.loop-words.invariant)

pub returns : goal.returns
returns c = elim c.loop-words-test.branch [
  | then-loop-words-test+else-not-is_at w ↦
      keys_stop c.args.version c.loop-words.keys c.loop-words.words _ (sym w.is_at.ensures ∙ grind arith) c.loop-words.invariant
  | else-loop-words-test w ↦ keys_end c.args.version c.loop-words.keys c.loop-words.words _ (grind arith) c.loop-words.invariant
]
