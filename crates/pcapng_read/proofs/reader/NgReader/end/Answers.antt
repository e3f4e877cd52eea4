use Rattle.std.proofs.Common.{ℕ, sym, subst, Result}
use Rattle.pcapng_read.specs.Capture.{NgCaptureOf}
use Rattle.pcapng_read.specs.Takes.{outcome_of}
use Rattle.pcapng_read.specs.declared.bad.NgBad.{NgBad}
use Rattle.pcapng_read.proofs.Ends.{ends}
use Rattle.pcapng_read.proofs.reader.NgReader.end.Goals as goal

pub returns-in-Waits-clause-outcome : goal.returns-in-Waits-clause-outcome
returns-in-Waits-clause-outcome c = λ b fs stands.
    subst (λ (r : Result ℕ NgBad). NgCaptureOf c.args.self.now.limit b (outcome_of fs r)) (sym c.rest.ensures) (ends c.args.self.now b fs stands)

pub returns-in-Known-clause-outcome : goal.returns-in-Known-clause-outcome
returns-in-Known-clause-outcome c = λ b fs stands.
    subst (λ (r : Result ℕ NgBad). NgCaptureOf c.args.self.now.limit b (outcome_of fs r)) (sym c.rest-in-Known.ensures) (ends c.args.self.now b fs stands)
