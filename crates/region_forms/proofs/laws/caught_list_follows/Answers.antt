use Rattle.region_forms.proofs.Counting.{thrown_new, enter_travelling, rethrow_newest, leave_newest, travelling_stays, given_back_last}
use Rattle.region_forms.proofs.laws.caught_list_follows.Goals as goal

pub returns : goal.returns
returns c = record {
  thrown = thrown_new;
  entered = enter_travelling;
  rethrown = rethrow_newest;
  left = leave_newest;
  kept = travelling_stays;
  given_back = given_back_last;
}
