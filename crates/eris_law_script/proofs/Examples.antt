-- What the law of undisturbed scripts asks can be met.
use Rattle.std.proofs.Common.{ℕ, List, [], ◌∷◌, ◌++◌, arith, codes, refl}
use Rattle.eris_base.specs.ConfigLimits.{ConfigValue}
use Rattle.eris_txn.specs.declared.key.Key.{Key}
use Rattle.eris_txn.specs.declared.op.Op.{Op}
use Rattle.eris_txn.specs.declared.op.Op.TheVariants.{Put}
use Rattle.eris_event.specs.declared.event.Event.{Event}
use Rattle.eris_grammar.specs.declared.line.Line.{Line}
use Rattle.eris_words.specs.Cuts.{cut_lines, words}
use Rattle.eris_grammar.specs.Fields.{client, count, key as key_form, number, value}
use Rattle.eris_grammar.specs.FixedWords.{line_word, op_word}
use Rattle.eris_grammar.specs.Headers.{header_of}
use Rattle.eris_grammar.specs.LineForms.{line_behind, line_of, said_by, submit_of}
use Rattle.eris_grammar.specs.OpForms.{all_ops, op as op_form, op_behind, ops_of}
use Rattle.eris_law_script.specs.UndisturbedScripts.{IsUndisturbedScript}

-- a system of so many shards, faults and clients, and words for what happens to it
abbrev system : ℕ → ℕ → ℕ → ConfigValue
system shards f clients = record { shards = shards; f = f; clients = clients }

-- a key of a shard whose name is one letter
abbrev key : ℕ → ℕ → Key
key number letter = record { shard = record { 0 = number }; name = letter ∷ [] }

abbrev a : Key
a = key 0 97

abbrev submit : ℕ → List Op → Event
submit owner ops = Event.Submit (record { 0 = owner }) ops

-- ---- what the law asks can be met
abbrev text : List ℕ
text = codes "eris 1 1 0 1" ++ 10 ∷ codes "submit 0 put 0/a 7" ++ 10 ∷ codes "flow 3" ++ 10 ∷ codes "# that is all" ++ 10 ∷ []

abbrev put_line : Line
put_line = Line.One (submit 0 (Put a 7 ∷ []))

-- a put with its deliveries, and a comment behind them
text_undisturbed : IsUndisturbedScript text
unfolding cut_lines words header_of line_of said_by line_word line_behind submit_of client number ops_of all_ops op_form op_word op_behind key_form value count
text_undisturbed = record {
  config = system 1 0 1;
  said = put_line ∷ Line.Flow 3 ∷ Line.Skip ∷ [];
  text = record {
    first = codes "eris 1 1 0 1";
    texts = codes "submit 0 put 0/a 7" ∷ codes "flow 3" ∷ codes "# that is all" ∷ [];
    version = 1;
    cut = refl;
    headed = refl;
    says = (refl, (refl, (refl, tt)));
  };
  undisturbed = record { front = put_line ∷ []; flows = 3; skipped = 1; are = refl; calm = refl; few = λ shard. omega arith; enough = omega arith };
}
