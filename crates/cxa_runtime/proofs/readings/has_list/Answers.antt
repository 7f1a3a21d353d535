use Rattle.std.proofs.Common.{refl}
use Rattle.cxa_runtime.proofs.Listed.{sites_named}
use Rattle.cxa_runtime.proofs.readings.has_list.Goals as goal

pub sites-init : goal.sites-init
sites-init c = rw c.sites-sites.ensures (refl, sites_named c.args.table.now)
