use Rattle.std.proofs.Common.{rules, ◌≡◌}
use Rattle.hash_rows.specs.Tables.{put_in}
use Rattle.told_table.proofs.Telling.{one_told}
use Rattle.told_table.proofs.told.tell.Goals as goal

pub returns-clause-told : goal.returns-clause-told
returns-clause-told g c = λ before told.
    let put : c.put.new.self ≡ put_in g.K.Kind.rules.join c.args.table.now c.args.message.now.cell c.args.message.now.amount = search rules in
    one_told g.K.Kind.rules before c.args.message.now c.args.table.now c.put.new.self put c.requires.fits.0 told
