use Rattle.live_state.specs.Fold.{layout_in}
use Rattle.std.proofs.Common.{◌≡◌, ◌∙◌, ap, arith, length, get_or, refl, subst, sym}
use Rattle.aggregate.proofs.Kept.{ends_len}
use Rattle.aggregate.specs.Takens.{ArePassesOf}
use Rattle.live_view.specs.Views.{WriterView}
use Rattle.thread_run.specs.Workers.{AreReady}
use Rattle.thread_setup.specs.Setups.{AreReaders}
use Rattle.thread_setup.proofs.Beginnings.{have_room}
use Rattle.thread_setup.proofs.setup.set_up.Goals as goal

pub new-aggregator-requires-clause-few : goal.new-aggregator-requires-clause-few
new-aggregator-requires-clause-few g c κs within =
    let hands = c.in_ok-hands.hands in
    let h = c.in_ok-hands.ensures in
    let len = ends_len hands.lanes.items hands.outs.items h.ends in
    omega (arith, len, h.lanes_len, c.requires.lawful.workers)

pub returns-clause-ready : goal.returns-clause-ready
returns-clause-ready g c =
    let o = c.args.options.now in
    let lanes = c.in_ok-hands.hands.lanes.items in
    let h = c.in_ok-hands.ensures in
    let writer = c.new-aggregator.result.writer in
    let e = c.new-aggregator.ensures in
    let pair = c.in_ok-writer.ensures in
    let parts = c.readers_of.result.items in
    let layout : writer.layout ≡ layout_in o = ap (λ (w : WriterView). w.layout) e.writer ∙ pair.layout in
    let readers : AreReaders o writer o.readers parts = subst (λ (w : WriterView). AreReaders o w o.readers parts) (sym e.writer) (c.readers_of.ensures.readers c.in_ok-writer.writer pair.views) in
    record {
      keys = c.in_ok-keys.ensures;
      lanes_len = h.lanes_len;
      capacity = h.capacity;
      workers_len = ap length c.into_items.ensures ∙ h.workers_len;
      ready = subst (λ ws. AreReady g.K.Kind.stands g.K.Kind.rules o c.args.packets.now lanes ws) (sym c.into_items.ensures) h.ready;
      shares = λ w p lt. ap (λ ws. (get_or ws w p).share) c.into_items.ensures ∙ h.shares w p lt;
      thresholds = λ w p lt. ap (λ ws. (get_or ws w p).sketch.threshold) c.into_items.ensures ∙ h.thresholds w p lt;
      ends = subst (ArePassesOf lanes) (sym e.outs) h.ends;
      layout = layout;
      begun = e.taken;
      fresh = (ap (λ (w : WriterView). w.published) e.writer ∙ pair.lists.0, e.none, refl);
      readers_len = c.readers_of.ensures.len;
      readers = readers;
      room = have_room o writer parts c.readers_of.ensures.len layout readers;
      spare = c.in_ok-spare.ensures;
    }
