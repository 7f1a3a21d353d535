use Rattle.region_formed.proofs.Tokens.{tokens_same}
use Rattle.region_formed.proofs.laws.checked_regions_have_the_tokens.Goals as goal

pub returns : goal.returns
returns c = record { tokens = tokens_same }
