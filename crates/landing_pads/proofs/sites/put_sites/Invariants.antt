use Rattle.std.proofs.Common.{◌≡◌, ◌++◌, drop, map}
use Rattle.linear_forms.specs.Sites.{single_sites, sites_of}
use Rattle.landing_pads.specs.Joined.{joined_behind}
use Rattle.landing_pads.specs.View.{placed_of, site_of}
use Rattle.landing_pads.proofs.sites.put_sites.Given as goal

-- the sites so far, and those of what is left
abbrev pub invariant-loop-place : goal.invariant-loop-place
invariant-loop-place l =
    map site_of l.sites.items ++ joined_behind l.last (single_sites l.place (map placed_of (drop l.place l.code))) ≡ map site_of l.initial.sites.items ++ sites_of (map placed_of l.code)
