use Rattle.std.specs.Prelude.{option_map}
use Rattle.scope_world.specs.Program.{function_or_none}
use Rattle.scope_meaning.proofs.Called.{comes_to_end}
use Rattle.scope_meaning.proofs.calls.value_returned.Goals as goal

pub returns-in_default : goal.returns-in_default
returns-in_default c = λ w.
    comes_to_end c.args.is_main (function_or_none (option_map (λ x. x.now) c.args.function)).result c.args.flow w c.value_at_end.result c.in_default.not-Returns (c.value_at_end.ensures w)
