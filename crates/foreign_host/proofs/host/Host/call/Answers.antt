use Rattle.std.proofs.Common.{◌≡◌, ◌<◌, ◌≤◌, length, get_or, rules}
use Rattle.eh_outer.specs.Module.{replied}
use Rattle.foreign_host.proofs.Changed.{map_changed, map_unchanged}
use Rattle.foreign_host.proofs.host.Host.call.Goals as goal

pub returns-in_default-clause-after : goal.returns-in_default-clause-after
returns-in_default-clause-after g c =
    let past : length c.args.self.now.modules.items ≤ c.args.k = search rules in
    map_unchanged _ _ _ replied past

pub returns-clause-after : goal.returns-clause-after
returns-clause-after g c =
    let low : c.args.k < length c.args.self.now.modules.items = search rules in
    let here : c.in-Some.guest.now ≡ get_or c.args.self.now.modules.items c.args.k c.in-Some.guest.now = search rules in
    map_changed _ _ _ _ _ replied low here c.call.ensures.rest
