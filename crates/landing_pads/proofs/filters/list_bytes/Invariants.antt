use Rattle.std.proofs.Common.{◌≡◌, take}
use Rattle.std.specs.Prelude.{flat_map}
use Rattle.eh_bytes.specs.Spelling.{uleb_spelling}
use Rattle.landing_pads.proofs.filters.list_bytes.Given as goal

abbrev pub invariant-loop-index : goal.invariant-loop-index
invariant-loop-index l = l.spelled.items ≡ flat_map uleb_spelling (take l.index-index l.list)
