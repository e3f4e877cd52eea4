use Rattle.std.proofs.Common.{◌≡◌, ◌∙◌, length, arith}
use Rattle.heavy_keys.proofs.Counting.{count_once}
use Rattle.heavy_keys.proofs.distinct.distinct.Goals as goal

pub returns : goal.returns
returns c =
    let all : c.len.result ≡ length c.dedup.new.self.items = omega (arith, c.len.ensures, c.dedup.new.self.ok.0) in
    all ∙ count_once c.args.keys.now.items c.sort_unstable.new.self.items c.dedup.new.self.items c.sort_unstable.ensures.permutation c.dedup.ensures.filtered c.sort_unstable.ensures.sorted
