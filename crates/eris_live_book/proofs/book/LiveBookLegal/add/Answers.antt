use Rattle.std.proofs.Common.{rules, ◌≡◌, ◌++◌, List, None, Some, ap, subst}
use Rattle.eris_event.specs.declared.refusal.Refusal.TheVariants as refusals
use Rattle.eris_journal.specs.declared.add_fault.AddFault.TheVariants as causes
use Rattle.eris_msg.specs.declared.outgoing.Outgoing.{Outgoing}
use Rattle.eris_network.specs.Limits.{IsMetBy}
use Rattle.eris_network.specs.declared.send_fault.SendFault.TheVariants as faults
use Rattle.eris_rules.specs.Refusals.{limit_met}
use Rattle.eris_law_live.specs.LiveBooks.{all_sent, fault_of_limit}
use Rattle.eris_live_book.specs.Places.{sent_by}
use Rattle.eris_live_book.proofs.LegalLaws.{all_met, on_any, refused_err}
use Rattle.eris_live_book.proofs.book.LiveBookLegal.add.Goals as goal

pub post-requires-clause-room : goal.post-requires-clause-room
post-requires-clause-room c =
    let i = c.self.inside in
    let same = all_met i.posts i.fetched i.refused c.args.self.now c.self.view_is c.as_slice.result.now c.args.entry.sent c.as_slice.ensures in
    subst (λ (all : List Outgoing). limit_met all ≡ None) same (c.in-Ok.ensures.room (sent_by i.posts) c.self.invariant.counted)

pub refuse-requires-clause-met : goal.refuse-requires-clause-met
refuse-requires-clause-met c =
    let i = c.self.inside in
    let same = all_met i.posts i.fetched i.refused c.args.self.now c.self.view_is c.as_slice.result.now c.args.entry.sent c.as_slice.ensures in
    let told : IsMetBy (sent_by i.posts ++ c.as_slice.result.now) faults.Packets = subst (IsMetBy (sent_by i.posts ++ c.as_slice.result.now)) c.in-Err-Packets.field-0-is (c.in-Err-Packets.ensures.err (sent_by i.posts) c.self.invariant.counted) in
    let met : limit_met (all_sent c.args.self.now.entries ++ c.args.entry.sent) ≡ Some refusals.Packets = subst (λ (all : List Outgoing). limit_met all ≡ Some refusals.Packets) same told in
    met

pub refuse-requires-in-Err-Bytes-clause-met : goal.refuse-requires-in-Err-Bytes-clause-met
refuse-requires-in-Err-Bytes-clause-met c =
    let i = c.self.inside in
    let same = all_met i.posts i.fetched i.refused c.args.self.now c.self.view_is c.as_slice.result.now c.args.entry.sent c.as_slice.ensures in
    let told : IsMetBy (sent_by i.posts ++ c.as_slice.result.now) faults.Bytes = subst (IsMetBy (sent_by i.posts ++ c.as_slice.result.now)) c.in-Err-Bytes.field-0-is (c.in-Err-Bytes.ensures.err (sent_by i.posts) c.self.invariant.counted) in
    let met : limit_met (all_sent c.args.self.now.entries ++ c.args.entry.sent) ≡ Some refusals.Bytes = subst (λ (all : List Outgoing). limit_met all ≡ Some refusals.Bytes) same told in
    met

pub returns-in-Ok-clause-free : goal.returns-in-Ok-clause-free
returns-in-Ok-clause-free c =
    let i = c.self.inside in
    let same = all_met i.posts i.fetched i.refused c.args.self.now c.self.view_is c.as_slice.result.now c.args.entry.sent c.as_slice.ensures in
    let room : limit_met (all_sent c.args.self.now.entries ++ c.args.entry.sent) ≡ None = subst (λ (all : List Outgoing). limit_met all ≡ None) same (c.in-Ok.ensures.room (sent_by i.posts) c.self.invariant.counted) in
    let free : c.args.self.now.refused ≡ None = search rules in
    on_any c.post.result (free, ap fault_of_limit room)

pub returns-in-Err-Packets-clause-err : goal.returns-in-Err-Packets-clause-err
returns-in-Err-Packets-clause-err c =
    let i = c.self.inside in
    let same = all_met i.posts i.fetched i.refused c.args.self.now c.self.view_is c.as_slice.result.now c.args.entry.sent c.as_slice.ensures in
    let told : IsMetBy (sent_by i.posts ++ c.as_slice.result.now) faults.Packets = subst (IsMetBy (sent_by i.posts ++ c.as_slice.result.now)) c.in-Err-Packets.field-0-is (c.in-Err-Packets.ensures.err (sent_by i.posts) c.self.invariant.counted) in
    let met : limit_met (all_sent c.args.self.now.entries ++ c.args.entry.sent) ≡ Some refusals.Packets = subst (λ (all : List Outgoing). limit_met all ≡ Some refusals.Packets) same told in
    let free : c.args.self.now.refused ≡ None = search rules in
    refused_err c.args.self.now c.refuse.new.self c.args.node c.args.entry causes.Packets free c.refuse.ensures.kept (ap fault_of_limit met)

pub returns-in-Err-Bytes-clause-err : goal.returns-in-Err-Bytes-clause-err
returns-in-Err-Bytes-clause-err c =
    let i = c.self.inside in
    let same = all_met i.posts i.fetched i.refused c.args.self.now c.self.view_is c.as_slice.result.now c.args.entry.sent c.as_slice.ensures in
    let told : IsMetBy (sent_by i.posts ++ c.as_slice.result.now) faults.Bytes = subst (IsMetBy (sent_by i.posts ++ c.as_slice.result.now)) c.in-Err-Bytes.field-0-is (c.in-Err-Bytes.ensures.err (sent_by i.posts) c.self.invariant.counted) in
    let met : limit_met (all_sent c.args.self.now.entries ++ c.args.entry.sent) ≡ Some refusals.Bytes = subst (λ (all : List Outgoing). limit_met all ≡ Some refusals.Bytes) same told in
    let free : c.args.self.now.refused ≡ None = search rules in
    refused_err c.args.self.now c.refuse-in-Err-Bytes.new.self c.args.node c.args.entry causes.Bytes free c.refuse-in-Err-Bytes.ensures.kept (ap fault_of_limit met)
