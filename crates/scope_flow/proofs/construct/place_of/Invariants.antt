use Rattle.std.proofs.Common.{◌≡◌, ◌+◌, length, map}
use Rattle.cxx_ast.specs.View.{function_of}
use Rattle.meaning_forms.specs.Construct.{place_from}
use Rattle.scope_flow.specs.Asked.{wanted_of}
use Rattle.scope_flow.proofs.construct.place_of.Given as goal

abbrev pub invariant-functions : goal.invariant-functions
invariant-functions l =
    (place_from 0 (wanted_of l.class l.wanted) (map function_of l.initial.rest) ≡ place_from l.place (wanted_of l.class l.wanted) (map function_of l.rest))
    × (l.place + length l.rest ≡ length l.initial.rest)

abbrev pub decreases-functions : goal.decreases-functions
decreases-functions l = length l.rest
