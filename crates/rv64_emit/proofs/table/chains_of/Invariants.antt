use Rattle.std.proofs.Common.{◌≡◌, drop, map}
use Rattle.landing_pads.specs.View.{site_of}
use Rattle.machine_forms.specs.Routine.{chains_behind, chains_of}
use Rattle.rv64_emit.proofs.table.chains_of.Given as goal

-- the chains so far, and those of what is left
abbrev pub invariant-loop-site : goal.invariant-loop-site
invariant-loop-site l = chains_behind (map (λ c. c.items) l.chains.items) (map site_of (drop l.site-index l.sites)) ≡ chains_of (map site_of l.sites)
