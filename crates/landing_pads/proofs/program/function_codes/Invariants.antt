use Rattle.std.proofs.Common.{◌≡◌, take, map}
use Rattle.linear_forms.specs.Unit.{function_code}
use Rattle.region_ir.specs.View.{function_of}
use Rattle.landing_pads.specs.View.{code_of}
use Rattle.landing_pads.proofs.program.function_codes.Given as goal

abbrev pub invariant-loop-function : goal.invariant-loop-function
invariant-loop-function l = map code_of l.codes.items ≡ map function_code (map function_of (take l.function-index l.functions))
