use Rattle.std.proofs.Common.{ap, ◌∙◌, map}
use Rattle.cxx_ast.specs.Declare.{at_the_start}
use Rattle.cxx_ast.specs.View.{declaration_of}
use Rattle.cxx_check.proofs.refused.program_found.Goals as goal

pub returns : goal.returns
returns c = c.all_found.ensures (c.in_ok-env.ensures ∙ ap (λ ds. at_the_start (map declaration_of ds)) c.as_slice.ensures.value)
