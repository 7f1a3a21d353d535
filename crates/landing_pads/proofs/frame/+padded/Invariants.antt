use Rattle.std.proofs.Common.{◌≡◌, drop, map}
use Rattle.region_forms.specs.Form.{regions_from}
use Rattle.linear_forms.specs.Frame.{some_has_pad}
use Rattle.region_ir.specs.View.{region_of}
use Rattle.landing_pads.proofs.frame.+padded.Given as goal

abbrev pub invariant-some_has_pad-loop-region : goal.invariant-some_has_pad-loop-region
invariant-some_has_pad-loop-region l = some_has_pad (regions_from (map region_of (drop l.region-index l.regions))) ≡ some_has_pad (regions_from (map region_of l.regions))
