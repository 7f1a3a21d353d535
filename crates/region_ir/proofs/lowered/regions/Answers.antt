use Rattle.std.proofs.lemmas.Grind.{common_steps}
use Rattle.std.proofs.Common.{arith, ◌≡◌, true, sym, subst}
use Rattle.cxx_ast.specs.View.{checked_of}
use Rattle.class_layout.specs.View.{laid_out}
use Rattle.region_ir.specs.Shape.{all_shaped}
use Rattle.region_ir.proofs.ShapedFunctions.{regions_shaped}
use Rattle.region_ir.proofs.lowered.regions.Goals as goal

pub returns-clause-lowered : goal.returns-clause-lowered
returns-clause-lowered c = grind (arith, common_steps)

pub returns-clause-shape : goal.returns-clause-shape
returns-clause-shape c =
    let p = checked_of c.args.program.now in
    let l = laid_out c.args.layout.now in
    subst (λ r. all_shaped r ≡ true) (sym (returns-clause-lowered c)) (regions_shaped p l)
