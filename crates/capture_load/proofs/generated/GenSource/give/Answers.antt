use Rattle.std.proofs.Common.{rules, ◌≡◌, ◌∙◌, sym, ap, ◌+◌, ◌++◌, List, ℕ, take, drop, arith, length}
use Rattle.capture_load.specs.Generated.{generated_from}
use Rattle.capture_load.proofs.Parts.{given_part, put_front}
use Rattle.capture_load.proofs.generated.GenSource.give.Goals as goal

pub returns-clause-given : goal.returns-clause-given
returns-clause-given c =
    let s = c.args.self.now in
    let n = c.min-count.result in
    let g = generated_from s.start s.next s.ahead in
    let whole : length s.part ≡ 58 = search rules in
    let front : take n c.put.new.into ≡ take n (drop s.at s.part) = put_front c.put.new.into s.part s.at n c.put.result (omega (arith, c.min-count.ensures, s.within, s.inside, whole)) c.put.ensures.end c.put.ensures.front in
    given_part s.part g s.at s.end n (omega (arith, c.min-count.ensures, s.within)) ∙ ap (λ (t : List ℕ). t ++ (drop (s.at + n) (take s.end s.part) ++ g)) (sym front)
