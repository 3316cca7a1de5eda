-- Small scripts, computed.
use Rattle.std.proofs.Common.{◌≡◌, Ok, Err, [], ◌∷◌, ◌++◌, codes, refl}
use Rattle.eris_base.specs.ConfigLimits.{ConfigValue}
use Rattle.eris_txn.specs.declared.op.Op.TheVariants as op
use Rattle.eris_event.specs.declared.event.Event.TheVariants as event
use Rattle.eris_words.specs.declared.reason.Reason.TheVariants as reason
use Rattle.eris_words.specs.Cuts.{cut_lines, words}
use Rattle.eris_grammar.specs.Fields.{client, count, dotted, key, number, two_numbers, two_words, txn, value}
use Rattle.eris_grammar.specs.FixedWords.{line_word, op_word}
use Rattle.eris_grammar.specs.Headers.{header_of}
use Rattle.eris_grammar.specs.LineForms.{abort_of, line_behind, line_of, said_by, submit_of}
use Rattle.eris_grammar.specs.OpForms.{all_ops, op as op_form, op_behind, ops_of}
use Rattle.eris_grammar.specs.Scripts.{events_from, script}

abbrev one_of_each : ConfigValue
one_of_each = record { shards = 1; f = 0; clients = 1 }

-- a put that is delivered to its answer
one_put : script (codes "eris 1 1 0 1" ++ 10 ∷ codes "submit 0 put 0/a 7" ++ 10 ∷ codes "flow 3" ++ 10 ∷ [])
    ≡ Ok (record {
      config = one_of_each;
      events = event.Submit (record { 0 = 0 }) (op.Put (record { shard = record { 0 = 0 }; name = codes "a" }) 7 ∷ [])
          ∷ event.Flow ∷ event.Flow ∷ event.Flow ∷ [];
    })
unfolding script cut_lines words header_of events_from line_of said_by line_word line_behind submit_of client number ops_of all_ops op_form op_word op_behind key value count
one_put = refl

-- CR LF, a comment, an empty line, and no LF at the end
skipped_lines : script (codes "eris 2 1 0 1" ++ 13 ∷ 10 ∷ codes "# flow" ++ 10 ∷ 13 ∷ 10 ∷ codes "nudge") ≡ Ok (record { config = one_of_each; events = event.Nudge ∷ [] })
unfolding script cut_lines words header_of events_from line_of said_by line_word line_behind
skipped_lines = refl

nothing : script [] ≡ Err (record { line = 1; reason = reason.Header })
unfolding script cut_lines
nothing = refl

-- each version has its own form of an abort
with_a_dot : script (codes "eris 2 1 0 2" ++ 10 ∷ codes "abort 1 0.1" ++ 10 ∷ codes "abort 1 0 1")
    ≡ Err (record { line = 3; reason = reason.Number })
unfolding script cut_lines words header_of events_from line_of said_by line_word line_behind abort_of client number count txn two_numbers two_words dotted
with_a_dot = refl
