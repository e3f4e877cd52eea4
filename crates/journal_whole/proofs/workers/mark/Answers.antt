use Rattle.std.proofs.Common.{◌≡◌, ◌∙◌, ◌++◌, ◌-◌, ◌∷◌, [], List, Bool, length, map, sym, ap, subst, arith, length-append}
use Rattle.std.specs.Prelude.{All}
use Rattle.std.specs.List.{range_with_len}
use Rattle.hash_rows.specs.Marks.{marked}
use Rattle.journal_read.specs.Drafts.{in_last}
use Rattle.journal_whole.specs.Drafted.{IsClearFrom}
use Rattle.journal_whole.proofs.Rows.{all_front, all_last, all_more, length_run, run_clear, run_marked}
use Rattle.journal_whole.proofs.workers.mark.Goals as goal

pub push-requires : goal.push-requires
push-requires c = omega (arith, c.requires.room, c.pop.ensures.room, ap length c.in-Some.ensures.some, length-append c.pop.new.self.items (c.in-Some.bits ∷ []))

pub returns-in-Some-clause-len : goal.returns-in-Some-clause-len
returns-in-Some-clause-len c =
    let all : All (λ (bits : List Bool). length bits ≡ 134217728) (c.pop.new.self.items ++ c.in-Some.bits ∷ []) = subst (λ (rows : List (List Bool)). All (λ (bits : List Bool). length bits ≡ 134217728) rows) c.in-Some.ensures.some c.requires.len in
    let long : length c.in-Some.bits ≡ 134217728 = all_last (λ (bits : List Bool). length bits ≡ 134217728) c.pop.new.self.items c.in-Some.bits all in
    subst (λ (rows : List (List Bool)). All (λ (bits : List Bool). length bits ≡ 134217728) rows) (sym c.push.ensures.items)
    (all_more (λ (bits : List Bool). length bits ≡ 134217728) c.pop.new.self.items c.set_range.new.self
    (all_front (λ (bits : List Bool). length bits ≡ 134217728) c.pop.new.self.items c.in-Some.bits all)
    (ap length c.set_range.ensures ∙ length_run c.in-Some.bits c.args.start c.args.end c.requires.run.0 (omega (arith, long, c.requires.run.1)) ∙ long))

pub returns-in-Some-clause-clear : goal.returns-in-Some-clause-clear
returns-in-Some-clause-clear c =
    let all : All (λ (bits : List Bool). length bits ≡ 134217728) (c.pop.new.self.items ++ c.in-Some.bits ∷ []) = subst (λ (rows : List (List Bool)). All (λ (bits : List Bool). length bits ≡ 134217728) rows) c.in-Some.ensures.some c.requires.len in
    let long : length c.in-Some.bits ≡ 134217728 = all_last (λ (bits : List Bool). length bits ≡ 134217728) c.pop.new.self.items c.in-Some.bits all in
    subst (IsClearFrom c.args.end) (sym (c.push.ensures.items ∙ ap (λ (b : List Bool). c.pop.new.self.items ++ b ∷ []) c.set_range.ensures))
    (run_clear c.pop.new.self.items c.in-Some.bits c.args.start c.args.end c.requires.run.0 (omega (arith, long, c.requires.run.1)) (c.requires.clear c.pop.new.self.items c.in-Some.bits c.in-Some.ensures.some))

pub returns-in-Some-clause-marked : goal.returns-in-Some-clause-marked
returns-in-Some-clause-marked c =
    let all : All (λ (bits : List Bool). length bits ≡ 134217728) (c.pop.new.self.items ++ c.in-Some.bits ∷ []) = subst (λ (rows : List (List Bool)). All (λ (bits : List Bool). length bits ≡ 134217728) rows) c.in-Some.ensures.some c.requires.len in
    let long : length c.in-Some.bits ≡ 134217728 = all_last (λ (bits : List Bool). length bits ≡ 134217728) c.pop.new.self.items c.in-Some.bits all in
    ap (map marked) (c.push.ensures.items ∙ ap (λ (b : List Bool). c.pop.new.self.items ++ b ∷ []) c.set_range.ensures)
    ∙ run_marked c.pop.new.self.items c.in-Some.bits c.args.start c.args.end c.requires.run.0 (omega (arith, long, c.requires.run.1)) (c.requires.clear c.pop.new.self.items c.in-Some.bits c.in-Some.ensures.some)
    ∙ ap (λ (rows : List (List Bool)). in_last (map marked rows) (range_with_len c.args.start (c.args.end - c.args.start))) (sym c.in-Some.ensures.some)
