use Rattle.std.proofs.Common.{◌≡◌, ◌≢◌, ◌≤◌, length, map, take}
use Rattle.std.specs.Prelude.{All, AllPairs}
use Rattle.words.proofs.WatchedLists.{pieces}
use Rattle.words.proofs.watch.add_watched.Given as goal

abbrev pub invariant-loop-text : goal.invariant-loop-text
invariant-loop-text g l = record {
  count : length l.values.items ≡ length l.yielded;
  texts : map g.T.Watched.text_for l.values.items ≡ take (length l.yielded) (pieces l.list);
  have_texts : All g.T.Watched.has_text l.values.items;
  differ : AllPairs (λ a b. a ≢ b) l.values.items;
  most : length l.values.items ≤ 16;
  room : l.values.room ≡ 16;
}
