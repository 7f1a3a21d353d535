use Rattle.std.proofs.Common.{rules, ◌≤◌, length, take, sym, ◌∙◌, ap}
use Rattle.std.proofs.lemmas.List.{take_all}
use Rattle.image_link.proofs.records.kept_name.Goals as goal

pub returns-in-None : goal.returns-in-None
returns-in-None c =
    let short : length c.as_bytes-name.result.now ≤ 255 = search rules in
    sym (take_all 255 c.as_bytes-name.result.now short) ∙ ap (take 255) c.as_bytes-name.ensures
