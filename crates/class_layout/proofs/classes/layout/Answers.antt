use Rattle.std.proofs.Common.{◌≤◌, sym, ap, ◌∙◌, subst, map, length, arith}
use Rattle.std.proofs.lemmas.List.{drop_all}
use Rattle.cxx_ast.specs.View.{class_of}
use Rattle.region_forms.specs.Layout.{layouts_behind}
use Rattle.class_layout.specs.View.{class_layout_of}
use Rattle.class_layout.specs.StandApart.{StandApart}
use Rattle.class_layout.proofs.Apart.{stand_apart}
use Rattle.class_layout.proofs.classes.layout.Goals as goal

pub returns-clause-apart : goal.returns-clause-apart
returns-clause-apart c =
    let all = map class_of c.args.classes.now.items in
    let laid = map class_layout_of c.loop-class.laid.items in
    let items = c.as_slice-class-items.result.now in
    let over : length items ≤ c.loop-class.class-index = omega arith in
    let ended = ap (λ left. layouts_behind laid (map class_of left)) (drop_all c.loop-class.class-index items over) in
    subst (λ l. StandApart l all) (sym (sym ended ∙ c.loop-class.invariant.leads)) (stand_apart all c.requires)
