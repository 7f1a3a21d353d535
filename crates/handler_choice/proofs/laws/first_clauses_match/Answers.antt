use Rattle.handler_choice.proofs.Searching.{first_clauses_match}
use Rattle.handler_choice.proofs.laws.first_clauses_match.Goals as goal

pub returns : goal.returns
returns c = first_clauses_match
