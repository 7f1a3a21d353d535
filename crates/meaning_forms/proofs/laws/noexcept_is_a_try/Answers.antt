use Rattle.meaning_forms.proofs.Noexcept.{noexcept_is_a_try}
use Rattle.meaning_forms.proofs.laws.noexcept_is_a_try.Goals as goal

pub returns : goal.returns
returns c = noexcept_is_a_try
