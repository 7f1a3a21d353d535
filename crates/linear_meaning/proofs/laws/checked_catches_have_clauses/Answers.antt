use Rattle.linear_meaning.proofs.Handled.{checked_clauses}
use Rattle.linear_meaning.proofs.laws.checked_catches_have_clauses.Goals as goal

pub returns : goal.returns
returns c = record { clauses = checked_clauses }
