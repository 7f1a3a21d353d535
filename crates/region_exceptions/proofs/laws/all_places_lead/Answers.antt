use Rattle.region_exceptions.proofs.Leading.{all_places_lead}
use Rattle.region_exceptions.proofs.laws.all_places_lead.Goals as goal

pub returns : goal.returns
returns c = all_places_lead
