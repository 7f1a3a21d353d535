use Rattle.std.proofs.Common.{◌∙◌, string_bytes, sym, rules}
use Rattle.std.proofs.lemmas.Iterator.{YieldsList-from_slice}
use Rattle.std.proofs.lemmas.Iterator.Search.{all_from_yields_List}
use Rattle.std.proofs.lemmas.List.Folds.{list_all-map}
use Rattle.std.specs.Prelude.{String}
use Rattle.std.specs.declared.alloc.Global.{Global}
use Rattle.command_line.specs.Command.{is_size}
use Rattle.command_line.proofs.operands.are_sizes.Goals as goal

pub returns : goal.returns
returns c =
    let names = c.args.texts.now in
    all_from_yields_List (λ (s : String Global). is_size (string_bytes s)) _ _ c.all.result c.all.ensures.ran (YieldsList-from_slice names c.iter.ensures.rest) (λ x b q k. search rules)
    ∙ sym (list_all-map is_size string_bytes names)
