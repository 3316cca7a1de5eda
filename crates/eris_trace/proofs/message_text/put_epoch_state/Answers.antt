use Rattle.eris_trace.specs.MessageText.{epoch_state_words, state_words}
use Rattle.eris_trace.proofs.TextLemmas.{word_told}
use Rattle.eris_trace.proofs.message_text.put_epoch_state.Goals as goal

pub returns : goal.returns
unfolding epoch_state_words
returns c = word_told c.put_state.result _ _ _ _ (state_words c.args.replica c.args.epoch c.args.part.now) c.in_ok-put_word.ensures c.put_state.ensures
