-- What the cleanup of a foreign exception does.
use Rattle.std.specs.Prelude.{ℕ}
use Rattle.run_items.specs.declared.item.Item.TheVariants.{Clean}
use Rattle.meaning_forms.specs.World.{without_exception}
use Rattle.meaning_forms.specs.Outcome.{Action, change, emit, ◌>>◌}

-- a module's cleanup is called with the token of an exception, which is no longer live
abbrev pub clean_up : (exception guest token : ℕ) → Action (Unit {0})
clean_up e k t = do
  emit (Clean k t)
  change (λ w. without_exception w e)
