use Rattle.std.proofs.Common.{◌≡◌, map, take}
use Rattle.landing_pads.specs.View.{site_of}
use Rattle.machine_forms.specs.Routine.{Routine, chains_of, listed_site}
use Rattle.rv64_emit.specs.Starts.{HasStarts}
use Rattle.rv64_emit.proofs.table.listed_sites.Given as goal

abbrev pub invariant-loop-site : goal.invariant-loop-site
invariant-loop-site l =
    (r : Routine) → HasStarts l.starts r → map (λ c. c.items) l.chains ≡ chains_of r.sites →
    l.listed.items ≡ map (listed_site r) (map site_of (take l.site-index l.sites))
