use Rattle.std.proofs.Common.{◌∙◌, sym, ap}
use Rattle.push_history.specs.LiveHeavy.{is_among}
use Rattle.heavy_keys.specs.Noted.{HeavyTable}
use Rattle.heavy_keys.proofs.Tables.{found_at}
use Rattle.heavy_keys.proofs.heavy.Heavy.is_at.Goals as goal

pub returns-in-Some : goal.returns-in-Some
returns-in-Some c = λ same.
    sym (ap (λ (t : HeavyTable). is_among t.keys c.args.key.now) c.self.view_is)
    ∙ found_at c.self.inside.keys.entries c.args.place c.in-Some.known.now c.in-Some.field-0-1.now c.args.key.now c.in-Some.ensures.entry (sym c.same_key.ensures.test ∙ same)
