use Rattle.std.proofs.Common.{◌≡◌, length, nat_le, nat_lt}
use Rattle.std.specs.Prelude.{find, ◌&&◌}
use Rattle.table_forms.specs.Verdict.{site_at}
use Rattle.place_verdicts.proofs.site.site_at.Given as goal

abbrev pub invariant-sites : goal.invariant-sites
invariant-sites l = site_at l.table l.place ≡ find (λ s. nat_le s.start l.place && nat_lt l.place s.end) l.sites

abbrev pub decreases-sites : goal.decreases-sites
decreases-sites l = length l.sites
