use Rattle.std.proofs.Common.{rules, ◌≡◌, ◌++◌}
use Rattle.std.specs.Prelude.{Some}
use Rattle.std.proofs.lemmas.Result.{IfOk-weaker}
use Rattle.flow_base.specs.LinesRead.{left_of}
use Rattle.flow_base.proofs.FlowLemmas.{behind-nil}
use Rattle.capture_load.proofs.load.load_capture.Goals as goal

pub returns-clause-bad : goal.returns-clause-bad
returns-clause-bad g c = λ bad is given rest told left.
    let front : left_of g.S.Source.left c.new-ahead.result ≡ Some (given ++ rest) = search (rules, told, behind-nil) in
    let behind : g.S.Source.left c.load_behind.new.source.source.now ≡ Some rest = search (rules, left) in
    c.load_behind.ensures.bad bad is given rest front behind

pub returns-clause-ng : goal.returns-clause-ng
returns-clause-ng g c = λ bad is given rest told left.
    let front : left_of g.S.Source.left c.new-ahead.result ≡ Some (given ++ rest) = search (rules, told, behind-nil) in
    let behind : g.S.Source.left c.load_behind.new.source.source.now ≡ Some rest = search (rules, left) in
    c.load_behind.ensures.ng bad is given rest front behind

pub returns-clause-fine : goal.returns-clause-fine
returns-clause-fine g c =
    IfOk-weaker c.load_behind.result _ _ (λ capture fine refusal given rest told left.
    let front : left_of g.S.Source.left c.new-ahead.result ≡ Some (given ++ rest) = search (rules, told, behind-nil) in
    let behind : g.S.Source.left c.load_behind.new.source.source.now ≡ Some rest = search (rules, left) in
    fine refusal given rest front behind) c.load_behind.ensures.fine
