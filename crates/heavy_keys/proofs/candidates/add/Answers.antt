use Rattle.std.proofs.Common.{rules, ◌≡◌, ◌/◌, ◌++◌, ◌∷◌, [], List, OnOk, subst}
use Rattle.heavy_keys.specs.Buckets.{AreBuckets}
use Rattle.heavy_keys.specs.declared.candidates.Candidate.{Candidate}
use Rattle.heavy_keys.proofs.candidates.add.Goals as goal

pub returns : goal.returns
returns c =
    let same : c.in-Ok.place ≡ c.args.at = search rules in
    subst (λ n. OnOk c.add.result ((candidates : List Candidate) → AreBuckets candidates c.args.buckets.now.lists.items
    → AreBuckets (candidates ++ record { fingerprint = c.args.hash / 4294967296; place = n } ∷ []) c.add.new.self.lists.items)) same c.add.ensures
