-- A line is refused for a reason of the grammar: each form of a line, part by part.
use Rattle.std.proofs.Common.{◌==◌, ℕ, ◌||◌, nat_lt, bytes_eq, codes, Option, Some, None, Result, Ok, Err, List, [], ◌∷◌, length}
use Rattle.eris_txn.specs.declared.key.Key.{Key}
use Rattle.eris_txn.specs.declared.op.Op.{Op}
use Rattle.eris_txn.specs.declared.plan.Guard.{Guard}
use Rattle.eris_txn.specs.declared.plan.PlanFault.{PlanFault}
use Rattle.eris_txn.specs.declared.plan.PlanFault.TheVariants as fault
use Rattle.eris_txn.specs.declared.plan.Setting.{Setting}
use Rattle.eris_txn.specs.PlanFaults.{plan_fault}
use Rattle.eris_txn.specs.PlanValues.{PlanValue}
use Rattle.eris_event.specs.declared.event.Event.{Event}
use Rattle.eris_event.specs.declared.event.Event.TheVariants as event
use Rattle.eris_event.specs.EventRanges.{most}
use Rattle.eris_words.specs.declared.reason.Reason.{Reason}
use Rattle.eris_words.specs.declared.reason.Reason.TheVariants as reason
use Rattle.eris_words.specs.Cuts.{is_skipped}
use Rattle.eris_words.specs.Forms.{Read, ◌>>=◌, ended, expect, more, pair, said, whole}
use Rattle.eris_grammar.specs.declared.line.Line.{Line}
use Rattle.eris_grammar.specs.declared.line.Line.TheVariants as line
use Rattle.eris_grammar.specs.Fields.{client, count, dotted, hex, key, number, read_key, replica, two_numbers, two_words, txn, value}
use Rattle.eris_grammar.specs.FixedWords.{all_clause_words, all_line_words, all_node_words, all_op_words, clause_word, clause_word_text, line_word, line_word_text, node_word, node_word_text, op_word, op_word_text}
use Rattle.eris_grammar.specs.Headers.{header_of}
use Rattle.eris_grammar.specs.LineForms.{abort_of, at_replica, deliver_of, epoch, epoch_of, general_of, line_behind, line_of, node_behind, node_form, noise_of, one, retry_of, said_by, submit_of}
use Rattle.eris_grammar.specs.OpForms.{all_ops, few_ops, op, op_behind, ops_of}
use Rattle.eris_grammar.specs.PlanForms.{all_clauses, all_keys, clause_behind, clause_form, guards_in, keys_of, plan_of, planned, settings_in, unless_fault}
use Rattle.eris_law_reasons.proofs.FormReasons.{IsByGrammar, ReadsByGrammar, arm_refused, bound, either, ended_refused, expect_refused, led_refused, more_refused, one_word_refused, pair_refused, said_refused, whole_refused}

-- ---- numbers, transactions, replicas, keys and bytes
number_refused : (limit : ℕ) → ReadsByGrammar (number limit)
unfolding number
number_refused limit words = one_word_refused reason.Number _ tt words

count_refused : ReadsByGrammar count
unfolding count
count_refused words = number_refused _ words

value_refused : ReadsByGrammar value
unfolding value
value_refused words = number_refused _ words

client_refused : ReadsByGrammar client
unfolding client
client_refused words = arm_refused _ (number 255) (number_refused 255) words

two_words_refused : (first second : ℕ) → ReadsByGrammar (two_words first second)
unfolding two_words
two_words_refused first second words = pair_refused (number first) (number second) (number_refused first) (number_refused second) words

dotted_refused : (first second : ℕ) → ReadsByGrammar (dotted first second)
unfolding dotted
dotted_refused first second words = one_word_refused reason.Number _ tt words

two_refused : (version first second : ℕ) → ReadsByGrammar (two_numbers version first second)
unfolding two_numbers
two_refused version first second words =
    either (version == 1) ((two_words first second).read words) ((dotted first second).read words) (two_words_refused first second words) (dotted_refused first second words)

txn_refused : (version : ℕ) → ReadsByGrammar (txn version)
unfolding txn
txn_refused version words = arm_refused _ (two_numbers version 255 _) (two_refused version 255 _) words

replica_refused : (version : ℕ) → ReadsByGrammar (replica version)
unfolding replica
replica_refused version words = arm_refused _ (two_numbers version 255 255) (two_refused version 255 255) words

key_refused : (version : ℕ) → ReadsByGrammar (key version)
unfolding key
key_refused version words = one_word_refused reason.Key _ tt words

hex_refused : ReadsByGrammar hex
unfolding hex
hex_refused words = one_word_refused reason.Hex _ tt words

key_and_value : (version : ℕ) → ReadsByGrammar (pair (key version) value)
key_and_value version = pair_refused (key version) value (key_refused version) value_refused

-- ---- operations
op_refused : (version : ℕ) → ReadsByGrammar (op version)
unfolding op op_word op_behind
op_refused version words =
    led_refused op_word_text all_op_words (op_behind version) (
      λ w. arm_refused _ (key version) (key_refused version) w,
      (
        λ w. arm_refused _ (pair (key version) value) (key_and_value version) w,
        (
          λ w. arm_refused _ (key version) (key_refused version) w,
          (
            λ w. arm_refused _ (pair (key version) value) (key_and_value version) w,
            (
              λ w. arm_refused _ (pair (key version) (pair value value)) (pair_refused (key version) (pair value value) (key_refused version) (pair_refused value value value_refused value_refused)) w,
              tt,
            ),
          ),
        ),
      ),
    )
    words

few_refused : (version : ℕ) (ops : List Op) → IsByGrammar (few_ops version ops)
few_refused version ops = either (nat_lt (most version) (length ops)) (Err reason.TooMany) (Ok ops) tt tt

ops_refused : (version : ℕ) (words : List (List ℕ)) → IsByGrammar (ops_of version words)
unfolding ops_of all_ops
ops_refused version words =
    bound (all_ops version words) (few_ops version)
    (bound ((op version).read words) (λ first. more (op version) first.1 >>= λ others. Ok (first.0 ∷ others)) (op_refused version words)
    (λ first. bound (more (op version) first.1) (λ others. Ok (first.0 ∷ others)) (more_refused (op version) (op_refused version) first.1) (λ others. tt)))
    (few_refused version)

-- ---- plans
clause_refused : (version : ℕ) → ReadsByGrammar (clause_form version)
unfolding clause_form clause_word clause_behind
clause_refused version words =
    led_refused clause_word_text all_clause_words (clause_behind version) (
      λ w. arm_refused _ (pair (key version) value) (key_and_value version) w,
      (
        λ w. arm_refused _ (pair (key version) value) (key_and_value version) w,
        (
          λ w. arm_refused _ (pair (key version) value) (key_and_value version) w,
          (
            λ w. arm_refused _ (pair (key version) value) (key_and_value version) w,
            tt,
          ),
        ),
      ),
    )
    words

keys_refused : (version : ℕ) (rest : List (List ℕ)) → IsByGrammar (keys_of version rest)
unfolding keys_of
keys_refused version [] = tt
keys_refused version (word ∷ rest) =
    let further : Read (List Key) = said (read_key version word) reason.Key >>= λ k. keys_of version rest >>= λ ks. Ok (k ∷ ks.0, ks.1) in
    let is_key : IsByGrammar further =
    bound (said (read_key version word) reason.Key) (λ k. keys_of version rest >>= λ ks. Ok (k ∷ ks.0, ks.1)) (said_refused (read_key version word) reason.Key tt)
    (λ k. bound (keys_of version rest) (λ ks. Ok (k ∷ ks.0, ks.1)) (keys_refused version rest) (λ ks. tt)) in
    either {A = List Key × List (List ℕ)} (bytes_eq word (codes ";")) (Ok ([], word ∷ rest)) further tt is_key

all_keys_refused : (version : ℕ) (words : List (List ℕ)) → IsByGrammar (all_keys version words)
unfolding all_keys
all_keys_refused version words =
    bound ((key version).read words) (λ first. keys_of version first.1 >>= λ others. Ok (first.0 ∷ others.0, others.1)) (key_refused version words)
    (λ first. bound (keys_of version first.1) (λ others. Ok (first.0 ∷ others.0, others.1)) (keys_refused version first.1) (λ others. tt))

clauses_refused : (version : ℕ) (words : List (List ℕ)) → IsByGrammar (all_clauses version words)
unfolding all_clauses
clauses_refused version words =
    bound (more (clause_form version) words) (λ clauses. Ok (guards_in clauses, settings_in clauses)) (more_refused (clause_form version) (clause_refused version) words) (λ clauses. tt)

fault_refused : (found : Option PlanFault) (plan : PlanValue) → IsByGrammar (unless_fault found plan)
fault_refused None plan = tt
fault_refused (Some fault.TooMany) plan = tt
fault_refused (Some fault.Empty) plan = tt
fault_refused (Some fault.RepeatedKey) plan = tt
fault_refused (Some fault.UnlockedKey) plan = tt

planned_refused : (version : ℕ) (keys : List Key) (guards : List Guard) (settings : List Setting) → IsByGrammar (planned version keys guards settings)
planned_refused version keys guards settings =
    let plan : PlanValue = record { keys = keys; guards = guards; settings = settings } in
    let found = plan_fault keys guards settings in
    either (nat_lt (most version) (length keys) || nat_lt (most version) (length guards)) (Err reason.TooMany) (unless_fault found plan) tt (fault_refused found plan)

plan_refused : (version : ℕ) (words : List (List ℕ)) → IsByGrammar (plan_of version words)
unfolding plan_of
plan_refused version words =
    bound (expect (codes "lock") words) _ (expect_refused (codes "lock") words)
    (λ behind. bound (all_keys version behind) _ (all_keys_refused version behind)
    (λ keys. bound (all_clauses version keys.1) _ (clauses_refused version keys.1)
    (λ rows. planned_refused version keys.0 rows.0 rows.1)))

-- ---- nodes and epochs
node_refused : (version : ℕ) → ReadsByGrammar (node_form version)
unfolding node_form node_word node_behind
node_refused version words =
    led_refused node_word_text all_node_words (node_behind version) (
      λ w. tt,
      (
        λ w. tt,
        (
          λ w. arm_refused _ (replica version) (replica_refused version) w,
          (
            λ w. arm_refused _ client client_refused w,
            tt,
          ),
        ),
      ),
    )
    words

epoch_refused : ReadsByGrammar epoch
unfolding epoch
epoch_refused words = arm_refused _ count count_refused words

some_epoch_refused : (words : List (List ℕ)) → IsByGrammar (epoch_of words)
some_epoch_refused [] = tt
some_epoch_refused (word ∷ words) = bound (whole epoch (word ∷ words)) _ (whole_refused epoch epoch_refused (word ∷ words)) (λ e. tt)

-- ---- lines
one_refused : (read : Result Event Reason) → IsByGrammar read → IsByGrammar (one read)
one_refused read here = bound read _ here (λ e. tt)

submit_refused : (version : ℕ) (words : List (List ℕ)) → IsByGrammar (submit_of version words)
unfolding submit_of
submit_refused version words =
    bound (client.read words) _ (client_refused words) (λ c. bound (ops_of version c.1) _ (ops_refused version c.1) (λ ops. tt))

general_refused : (version : ℕ) (words : List (List ℕ)) → IsByGrammar (general_of version words)
unfolding general_of
general_refused version words =
    bound (client.read words) _ (client_refused words) (λ c. bound (plan_of version c.1) _ (plan_refused version c.1) (λ plan. tt))

retry_refused : (version : ℕ) (words : List (List ℕ)) → IsByGrammar (retry_of version words)
unfolding retry_of
retry_refused version words = bound (whole (txn version) words) _ (whole_refused (txn version) (txn_refused version) words) (λ id. tt)

abort_refused : (version : ℕ) (words : List (List ℕ)) → IsByGrammar (abort_of version words)
unfolding abort_of
abort_refused version words =
    bound (whole (pair client (txn version)) words) _
    (whole_refused (pair client (txn version)) (pair_refused client (txn version) client_refused (txn_refused version)) words) (λ asked. tt)

deliver_refused : (words : List (List ℕ)) → IsByGrammar (deliver_of words)
unfolding deliver_of
deliver_refused words =
    bound (count.read words) _ (count_refused words) (λ packet. bound (epoch_of packet.1) _ (some_epoch_refused packet.1) (λ e. tt))

at_replica_refused : (made : _) (version : ℕ) (words : List (List ℕ)) → IsByGrammar (at_replica made version words)
at_replica_refused made version words = bound (whole (replica version) words) _ (whole_refused (replica version) (replica_refused version) words) (λ r. tt)

noise_refused : (version : ℕ) (words : List (List ℕ)) → IsByGrammar (noise_of version words)
unfolding noise_of
noise_refused version words =
    bound (whole (pair (node_form version) hex) words) _
    (whole_refused (pair (node_form version) hex) (pair_refused (node_form version) hex (node_refused version) hex_refused) words) (λ noise. tt)

times_refused : (made : ℕ → Line) (words : List (List ℕ)) → IsByGrammar (whole count words >>= λ n. Ok (made n))
times_refused made words = bound (whole count words) (λ n. Ok (made n)) (whole_refused count count_refused words) (λ n. tt)

said_by_refused : (version : ℕ) (words : List (List ℕ)) → IsByGrammar (said_by version words)
unfolding said_by line_word line_behind
said_by_refused version words =
    led_refused line_word_text all_line_words (line_behind version) (
      λ w. one_refused (submit_of version w) (submit_refused version w),
      (
        λ w. one_refused (general_of version w) (general_refused version w),
        (
          λ w. one_refused (retry_of version w) (retry_refused version w),
          (
            λ w. one_refused (abort_of version w) (abort_refused version w),
            (
              λ w. one_refused (deliver_of w) (deliver_refused w),
              (
                λ w. times_refused line.Flow w,
                (
                  λ w. times_refused line.Lose w,
                  (
                    λ w. one_refused (at_replica event.Probe version w) (at_replica_refused event.Probe version w),
                    (
                      λ w. one_refused (at_replica event.Suspect version w) (at_replica_refused event.Suspect version w),
                      (
                        λ w. one_refused (at_replica event.Sync version w) (at_replica_refused event.Sync version w),
                        (
                          λ w. one_refused (at_replica event.Crash version w) (at_replica_refused event.Crash version w),
                          (
                            λ w. one_refused (ended (event.Nudge, w)) (ended_refused (event.Nudge, w)),
                            (
                              λ w. one_refused (ended (event.Replace, w)) (ended_refused (event.Replace, w)),
                              (
                                λ w. one_refused (noise_of version w) (noise_refused version w),
                                tt,
                              ),
                            ),
                          ),
                        ),
                      ),
                    ),
                  ),
                ),
              ),
            ),
          ),
        ),
      ),
    )
    words

-- ---- A LINE BEHIND A HEADER
pub line_refused : (version : ℕ) (text : List ℕ) → IsByGrammar (line_of version text)
unfolding line_of
line_refused version text = either (is_skipped text) (Ok line.Skip) _ tt (said_by_refused version _)

-- ---- A HEADER
pub header_refused : (text : List ℕ) → IsByGrammar (header_of text)
unfolding header_of
header_refused text = said_refused _ reason.Header tt
