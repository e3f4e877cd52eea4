use Rattle.std.proofs.Common.{◌<◌, refl, arith}
use Rattle.std.proofs.lemmas.Result.{on_ok_weaker}
use Rattle.heavy_keys.specs.Buckets.{bucket_of}
use Rattle.heavy_keys.proofs.BucketLemmas.{buckets_more}
use Rattle.heavy_keys.proofs.buckets.Buckets.add.Goals as goal

pub returns : goal.returns
returns c =
    let below : bucket_of c.args.candidate.fingerprint < 32 = omega arith in
    on_ok_weaker c.push.result (λ put candidates h. buckets_more candidates c.args.candidate c.args.self.now.lists.items _ c.index_mut.result.now c.push.new.list below c.index_mut.ensures.value put refl h) c.push.ensures
