use Rattle.std.proofs.Common.{rules, ◌≡◌, ◌+◌, ◌^◌, ap, sym, ◌∙◌}
use Rattle.table_dump.specs.Texts.{hex}
use Rattle.table_dump.proofs.Ends.{whole_space}
use Rattle.table_dump.proofs.text.end_of.Goals as goal

pub returns-in-None : goal.returns-in-None
returns-in-None c =
    let end : c.args.address + c.args.length ≡ 2 ^ 64 = search rules in
    let text = whole_space ∙ ap hex (sym end) in search (rules, text)
