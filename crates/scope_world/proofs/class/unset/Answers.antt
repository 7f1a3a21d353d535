use Rattle.std.proofs.Common.{◌≡◌, suc, arith, IfOk, length, map, subst}
use Rattle.std.proofs.lemmas.List.{length-map}
use Rattle.cxx_ast.specs.View.{checked_of, class_of}
use Rattle.meaning_forms.specs.Part.{unset_within}
use Rattle.scope_world.specs.Objects.{part_of, type_of}
use Rattle.scope_world.proofs.class.unset.Goals as goal

pub returns-in-Some : goal.returns-in-Some
returns-in-Some c =
    let all = c.args.program.now.classes.items in
    let most : c.in-Some.most ≡ suc (length (map class_of all)) = omega (arith, length-map all class_of) in
    subst (λ n. IfOk c.unset_within.result (λ a. part_of a ≡ unset_within n (checked_of c.args.program.now) (type_of c.args.ty))) most c.unset_within.ensures
