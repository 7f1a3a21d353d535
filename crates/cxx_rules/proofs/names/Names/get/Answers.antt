use Rattle.std.proofs.Common.{ap, ◌∙◌, option_map, find, bytes_eq}
use Rattle.cxx_rules.specs.NamesOf.{thing_of}
use Rattle.cxx_rules.proofs.NameLaws.{entries_found}
use Rattle.cxx_rules.proofs.names.Names.get.Goals as goal

pub returns : goal.returns
returns c =
    ap (option_map thing_of) (c.copied.ensures ∙ c.get.ensures.value) ∙ entries_found c.args.text.now c.self.inside.map.entries
    ∙ ap (λ es. option_map (λ e. e.thing) (find (λ e. bytes_eq e.text c.args.text.now) es)) c.self.view_is
