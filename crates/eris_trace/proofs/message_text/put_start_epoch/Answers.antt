use Rattle.eris_trace.specs.MessageText.{start_epoch_words, start_words}
use Rattle.eris_trace.proofs.TextLemmas.{word_told}
use Rattle.eris_trace.proofs.message_text.put_start_epoch.Goals as goal

pub returns : goal.returns
unfolding start_epoch_words
returns c = word_told c.put_start.result _ _ _ _ (start_words c.args.epoch c.args.shard c.args.packets.now) c.in_ok-put_word.ensures c.put_start.ensures
