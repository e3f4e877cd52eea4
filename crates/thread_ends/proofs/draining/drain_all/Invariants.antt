use Rattle.std.proofs.Common.{◌≡◌, ◌<◌, ℕ}
use Rattle.aggregate.specs.Takens.{taken_at}
use Rattle.thread_ends.specs.Ends.{HasAll, HaveOrder, KeepLists, KeepsPublished, both_sents, both_takens}
use Rattle.thread_ends.proofs.draining.drain_all.Given as goal

abbrev pub invariant-loop-place : goal.invariant-loop-place
invariant-loop-place g l = record {
  same : KeepsPublished l.fn.writer l.writer;
  kept : KeepLists l.fn.passes.items l.passes.items;
  order : HaveOrder l.passes.items;
  taken : HasAll g.K.Kind.rules l.fn.passes.items l.fn.writer → HasAll g.K.Kind.rules l.passes.items l.writer;
  drained : (k : ℕ) → k < l.place → taken_at (both_takens l.passes.items) k ≡ taken_at (both_sents l.passes.items) k;
}
