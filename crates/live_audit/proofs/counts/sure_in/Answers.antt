use Rattle.std.proofs.lemmas.List.{take_more}
use Rattle.std.proofs.Common.{rules, arith, if◌then◌else◌, to_z, of_z, w64, ◌<◌, length, ◌≡◌, ◌+◌, ◌++◌, ◌∷◌, ℤ, [], List, count_by, take, sym, ap, subst, ◌∙◌, refl}
use Rattle.hash_rows.specs.declared.shape.Push.{Push}
use Rattle.hash_rows.specs.declared.shape.Shape.{Shape}
use Rattle.push_history.specs.Front.{message_at}
use Rattle.push_history.specs.LiveHeavy.{notes_of}
use Rattle.push_history.specs.Shown.{told_cells}
use Rattle.push_history.proofs.MoreMessages.{cells_none}
use Rattle.told_table.specs.Tables.{IsTableOf}
use Rattle.live_audit.specs.Counted.{is_sure}
use Rattle.live_audit.proofs.Counting.{no_message, sure_more, sure_none}
use Rattle.live_audit.proofs.counts.sure_in.Goals as goal

pub loop-message-init : goal.loop-message-init
loop-message-init g c =
    let r = g.K.Kind.rules in
    let table = c.args.table.now in
    record {
      shape = refl;
      told = c.requires.zeros ∙ cells_none r table.shape;
      count = sure_none r table.shape (to_z w64 (of_z w64 c.args.least)) c.args.live.now;
      most = omega arith;
    }

pub loop-message-preserved : goal.loop-message-preserved
loop-message-preserved g c =
    let r = g.K.Kind.rules in
    let inv = c.loop-message.invariant in
    let i = c.loop-message.message-index in
    let messages = c.args.messages.now in
    let m = message_at messages i in
    let shape = c.args.table.now.shape in
    let table = c.tell.new.table in
    let lt : i < length messages = search rules in
    let all : take (i + 1) messages ≡ take i messages ++ m ∷ [] = take_more messages i no_message lt in
    let least = c.args.least in
    let back : to_z w64 (of_z w64 least) ≡ least = search rules in
    let was : c.loop-message.count ≡ count_by (is_sure least c.args.live.now) (notes_of r shape (take i messages)) = search rules in
    let one : c.one_sure-count.result ≡ (if is_sure least c.args.live.now (record { key = m.key; estimate = r.estimate table.shape table.cells m.key }) then 1 else 0) = search rules in
    let same : table.shape ≡ shape = c.tell.ensures.shape ∙ inv.shape in
    let told : IsTableOf r table (take i messages ++ m ∷ []) = c.tell.ensures.told (take i messages) inv.told in
    let said = ap (λ (cells : List ℤ). r.estimate table.shape cells m.key) told ∙ ap (λ (s : Shape). r.estimate s (told_cells r s (take i messages ++ m ∷ [])) m.key) same in
    record {
      shape = same;
      told = subst (λ (ms : List Push). IsTableOf r table ms) (sym all) told;
      count = sure_more r shape least c.args.live.now (take i messages) m c.loop-message.count c.one_sure-count.result (r.estimate table.shape table.cells m.key) was said one
          ∙ ap (λ (ms : List Push). count_by (is_sure least c.args.live.now) (notes_of r shape ms)) (sym all)
          ∙ ap (λ (z : ℤ). count_by (is_sure z c.args.live.now) (notes_of r shape (take (i + 1) messages))) (sym back);
      most = omega (arith, inv.most, c.one_sure-count.ensures.most);
    }
