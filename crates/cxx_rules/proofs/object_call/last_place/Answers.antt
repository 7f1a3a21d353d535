use Rattle.std.proofs.Common.{◌<◌, ap, ◌∙◌, length, arith}
use Rattle.cxx_rules.proofs.PathLaws.{last_at}
use Rattle.cxx_rules.proofs.object_call.last_place.Goals as goal

pub returns-in-len1-up : goal.returns-in-len1-up
returns-in-len1-up c =
    let some : 0 < length c.args.names.now = omega arith in
    ap (λ n. n.place) c.name-item.is ∙ last_at c.args.names.now c.name-item.result some
