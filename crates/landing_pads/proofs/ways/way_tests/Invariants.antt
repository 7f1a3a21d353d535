use Rattle.std.proofs.Common.{◌≡◌, ◌++◌, drop, map}
use Rattle.linear_forms.specs.Emission.{way_tests}
use Rattle.landing_pads.specs.Given.{emitting_of, exits_of}
use Rattle.landing_pads.specs.View.{placed_of}
use Rattle.landing_pads.proofs.ways.way_tests.Given as goal

-- what is put so far, and the tests that are left
abbrev pub invariant-loop-region : goal.invariant-loop-region
invariant-loop-region l =
    map placed_of l.code.items ++ way_tests (emitting_of l.e) (exits_of l.exits) (drop l.region-index l.outs)
    ≡ map placed_of l.initial.code.items ++ way_tests (emitting_of l.e) (exits_of l.exits) l.outs
