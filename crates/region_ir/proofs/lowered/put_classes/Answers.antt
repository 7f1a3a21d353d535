use Rattle.std.proofs.Common.{◌≡◌, ◌∙◌, ◌<◌, ◌+◌, ◌-◌, suc, ◌++◌, map, length, Some, refl, ap, subst, arith}
use Rattle.std.proofs.lemmas.Option.{slice_get_read}
use Rattle.std.specs.Prelude.{slice_get}
use Rattle.cxx_ast.specs.View.{checked_of}
use Rattle.class_layout.specs.View.{laid_out}
use Rattle.meaning_forms.specs.Class.{class_at}
use Rattle.region_forms.specs.LowerProgram.{functions_of_classes}
use Rattle.region_ir.specs.View.{function_of}
use Rattle.region_ir.proofs.Gathered.{class_done, class_found}
use Rattle.region_ir.proofs.lowered.put_classes.Goals as goal

pub put_class-requires : goal.put_class-requires
put_class-requires c =
    let p = c.args.source.numbering.now.program.now in
    let cs = c.args.classes.now in
    let i = c.loop-number.number in
    let class = c.index-classes-number.result in
    let within : i < length cs = omega (arith, c.loop-number-test.true) in
    let found : slice_get p.classes.items i ≡ Some class =
    subst (λ xs. slice_get xs i ≡ Some class) c.requires (slice_get_read cs (length cs) i class refl within c.index-classes-number.is) in
    let numbered : i ≡ c.in_ok-behind.field-0 = omega (arith, c.in_ok-behind.ensures) in
    class_found p i class found ∙ ap (class_at (checked_of p)) numbered

pub loop-number-preserved : goal.loop-number-preserved
loop-number-preserved c =
    let p = checked_of c.args.source.numbering.now.program.now in
    let l = laid_out c.args.source.layout.now in
    let n = length c.args.classes.now in
    let i = c.loop-number.number in
    let left : n - i ≡ suc (n - (i + 1)) = omega (arith, c.loop-number-test.true) in
    let numbered : c.in_ok-behind.field-0 ≡ i = omega (arith, c.in_ok-behind.ensures) in
    class_done p l i c.in_ok-behind.field-0 (n - i) (n - (i + 1)) (map function_of c.loop-number.functions.items) (map function_of c.put_class.new.functions.items)
    (map function_of c.args.functions.now.items ++ functions_of_classes p l 0 n) left numbered c.in_ok-put_class.ensures c.loop-number.invariant
