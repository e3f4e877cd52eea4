use Rattle.std.proofs.Common.{◌≡◌, List, [], subst}
use Rattle.std.specs.Prelude.{All}
use Rattle.live_view.specs.Views.{ReaderView}
use Rattle.run_tests.proofs.Lasts.{all_last, all_front}
use Rattle.run_tests.proofs.views.next_view.Goals as goal

pub returns-in-Some-clause-own : goal.returns-in-Some-clause-own
returns-in-Some-clause-own c =
    let w = c.args.writer.now in
    let P : ReaderView → Type 0 = λ v. (v.book ≡ w.book) × (v.layout ≡ w.layout) × (v.known ≡ []) × (v.told ≡ []) in
    all_last P c.pop.new.self.items c.in-Some.view (subst (λ (l : List ReaderView). All P l) c.in-Some.ensures.some c.requires)

pub returns-in-Some-clause-rest : goal.returns-in-Some-clause-rest
returns-in-Some-clause-rest c =
    let w = c.args.writer.now in
    let P : ReaderView → Type 0 = λ v. (v.book ≡ w.book) × (v.layout ≡ w.layout) × (v.known ≡ []) × (v.told ≡ []) in
    all_front P c.pop.new.self.items c.in-Some.view (subst (λ (l : List ReaderView). All P l) c.in-Some.ensures.some c.requires)
