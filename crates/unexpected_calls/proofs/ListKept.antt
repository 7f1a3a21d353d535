-- What call_unexpected keeps names a list of a function of the unit.
use Rattle.std.proofs.Common.{◌≡◌, ℕ, ℤ, negsuc}
use Rattle.machine_simulation.specs.Plan.{Plan}
use Rattle.kept_selectors.specs.Selectors.{InSite}
use Rattle.kept_selectors.proofs.Ends.{open_lists_stand}
use Rattle.unexpected_calls.specs.ListKept.{ListKept, ListsAreKept}

kept_in : (p : Plan) (selector : ℤ) (owner j : ℕ) → selector ≡ negsuc j → InSite p.unit owner (negsuc j) → ListKept p selector owner
kept_in p selector owner j is h = record {
  number = j;
  list = is;
  known = h.known;
  filter = record { place = h.place; site = h.site; there = h.there; index = h.index; is = h.is };
}

pub lists_are_kept : ListsAreKept
lists_are_kept p k st w h named =
    let kept = h.kept in
    let it = open_lists_stand p.unit k st kept.selector kept.owner named h.rests.runs kept.selector_is kept.owner_is in
    kept_in p kept.selector kept.owner it.0 it.1 it.2
