use Rattle.linear_meaning.proofs.CheckedFields.{checked_have_fields}
use Rattle.linear_meaning.proofs.laws.checked_programs_have_fields.Goals as goal

pub returns : goal.returns
returns c = record { fields = checked_have_fields }
