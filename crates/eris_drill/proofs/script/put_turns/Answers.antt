use Rattle.std.proofs.Common.{◌++◌, ap, sym, ◌∙◌, List}
use Rattle.std.proofs.lemmas.List.{append_assoc, append-nil}
use Rattle.eris_grammar.specs.declared.line.Line.{Line}
use Rattle.eris_drill.specs.Draws.{after_words, generator, turn_at, turn_from}
use Rattle.eris_drill.specs.DrillLines.{below, turn_lines}
use Rattle.eris_drill.proofs.Turns.{below_more}
use Rattle.eris_drill.proofs.Words.{next_words, no_words}
use Rattle.eris_drill.proofs.script.put_turns.Goals as goal

pub loop-turn-init : goal.loop-turn-init
unfolding below
loop-turn-init c = (sym (append-nil c.args.lines.now), c.generator-draws.ensures ∙ no_words (generator c.args.number))

pub put_turn-requires : goal.put_turn-requires
unfolding turn_at
put_turn-requires c = record { drawn = c.next_turn-drawn.ensures.drawn ∙ ap turn_from (c.loop-turn.invariant).1 }

pub loop-turn-preserved : goal.loop-turn-preserved
loop-turn-preserved c = (
  c.in_ok-put_turn.ensures
      ∙ ap (λ (lines : List Line). lines ++ turn_lines c.args.number c.loop-turn.turn) (c.loop-turn.invariant).0
      ∙ append_assoc c.args.lines.now _ _
      ∙ ap (λ (lines : List Line). c.args.lines.now ++ lines) (sym (below_more (turn_lines c.args.number) c.loop-turn.turn)),
  c.next_turn-drawn.ensures.left ∙ ap (after_words 5) (c.loop-turn.invariant).1 ∙ next_words c.loop-turn.turn (generator c.args.number),
)
