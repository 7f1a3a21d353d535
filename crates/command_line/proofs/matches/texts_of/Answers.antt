use Rattle.std.proofs.Common.{◌∙◌, Some, None, map, string_bytes, ap}
use Rattle.std.proofs.lemmas.Result.{IfOk-weaker}
use Rattle.clap.specs.Matches.{found_of}
use Rattle.command_line.proofs.Under.{under}
use Rattle.command_line.proofs.matches.texts_of.Goals as goal

pub returns-in-Some : goal.returns-in-Some
returns-in-Some c =
    let found = under (found_of c.args.matches.now) c.args.name.now (Some (map (λ v. v.now) c.in-Some.values.now)) c.in-Some.ensures in
    IfOk-weaker c.owned.result _ _ (λ texts e. e ∙ found) c.owned.ensures

pub returns-in-None : goal.returns-in-None
returns-in-None c =
    ap (λ xs. map string_bytes xs) c.new.ensures.items ∙ under (found_of c.args.matches.now) c.args.name.now None c.in-None.ensures
