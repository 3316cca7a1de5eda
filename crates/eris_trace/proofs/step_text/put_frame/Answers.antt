use Rattle.std.proofs.Common.{codes}
use Rattle.eris_grammar.specs.Fields.{hex_word}
use Rattle.eris_trace.specs.ItemText.{frame_text}
use Rattle.eris_trace.proofs.TextLemmas.{parts_told}
use Rattle.eris_trace.proofs.step_text.put_frame.Goals as goal

pub returns : goal.returns
unfolding frame_text
returns c =
    parts_told c.push.result _ _ _ _ _ (codes "      ") (codes "frame ") (hex_word c.args.frame.now)
    c.in_ok-append.ensures.ok c.in_ok-append-2.ensures.ok c.in_ok-put_hex.ensures c.push.ensures.ok
