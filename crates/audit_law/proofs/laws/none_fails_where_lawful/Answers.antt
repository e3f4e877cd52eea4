use Rattle.audit_law.proofs.JournalLaw.{lawful_where_none, none_where_lawful}
use Rattle.audit_law.proofs.laws.none_fails_where_lawful.Goals as goal

pub returns : goal.returns
returns c = λ packets o j form. ((λ none. lawful_where_none packets o j form (record { none = none })), λ lawful. (none_where_lawful packets o j form lawful).none)
