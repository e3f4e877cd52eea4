use Rattle.bracket.proofs.Bracketed.{answer_below, answer_short, are_plain}
use Rattle.bracket.proofs.laws.answers_are_bracketed.Goals as goal

pub returns : goal.returns
returns c = record {
  below = λ T updates messages refused front h shape key. answer_below T updates messages refused front h.workers h.is_front h.pushes (are_plain updates h.amounts) shape key;
  short = λ T updates messages refused front h shape key some none. answer_short T updates messages refused front h.workers h.is_front h.pushes (are_plain updates h.amounts) shape key some none;
}
