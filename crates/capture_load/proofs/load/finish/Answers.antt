use Rattle.std.proofs.Common.{◌∙◌}
use Rattle.capture_load.proofs.Noted.{number_noted}
use Rattle.capture_load.proofs.load.finish.Goals as goal

pub returns-in-Ok-clause-ends : goal.returns-in-Ok-clause-ends
returns-in-Ok-clause-ends c = λ bytes frames loads. record {
  frames = frames;
  whole = c.in-Ok.ensures bytes frames loads.stands;
  packets = loads.keeps.packets;
  records = c.number.ensures ∙ number_noted _ frames loads.keeps;
  skipped = loads.keeps.skipped;
}
