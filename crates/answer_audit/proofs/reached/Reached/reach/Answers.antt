use Rattle.std.proofs.Common.{rules, arith, ◌≡◌, ◌<◌, ◌≤◌, ◌∙◌, length, get_or, sym, ap}
use Rattle.std.proofs.lemmas.List.{length-set}
use Rattle.push_history.specs.LawfulJournal.{sent_by}
use Rattle.told_table.specs.Tables.{lists_of}
use Rattle.answer_audit.proofs.Judging.{lists_long}
use Rattle.answer_audit.proofs.Placed.{sent_is}
use Rattle.answer_audit.proofs.Reaching.{front_whole, rest_more, there_more}
use Rattle.answer_audit.proofs.reached.Reached.reach.Goals as goal

pub loop-worker-preserved : goal.loop-worker-preserved
loop-worker-preserved g c =
    let inv = c.loop-worker.invariant in
    let w = c.loop-worker.worker in
    let lists = c.args.messages.now in
    let old = c.loop-worker.self.front.items in
    let new = c.reach_of.new.self.front.items in
    let inside : w < length old = search rules in
    let within : w < length lists = omega (arith, inside, inv.len, c.requires.workers) in
    let here : (get_or lists w c.index-messages-worker.result).items ≡ c.deref.result.now = search rules in
    let same : sent_by (lists_of lists) w ≡ c.deref.result.now = sent_is lists w c.index-messages-worker.result within ∙ here in
    let len : length (lists_of lists) ≡ length old = sym (lists_long lists) ∙ sym c.requires.workers ∙ sym inv.len in
    record {
      shape = c.reach_of.ensures.shape ∙ inv.shape;
      len = ap length c.reach_of.ensures.front ∙ length-set old w (get_or c.args.front.now w 0) ∙ inv.len;
      there = there_more old new c.args.front.now w c.reach_of.ensures.front inside inv.there;
      rest = rest_more old new c.args.self.now.front.items w (get_or c.args.front.now w 0) c.reach_of.ensures.front inv.rest;
      reached = (λ h. c.reach_of.ensures.reached (lists_of lists) len same (inv.reached h));
    }

pub returns-clause-front : goal.returns-clause-front
returns-clause-front g c =
    let inv = c.loop-worker.invariant in
    let end : length c.args.self.now.front.items ≤ c.loop-worker.worker = search rules in
    front_whole c.loop-worker.self.front.items c.args.front.now c.loop-worker.worker (inv.len ∙ c.requires.workers ∙ sym c.requires.len)
    (omega (arith, end, c.requires.workers, c.requires.len)) inv.there
