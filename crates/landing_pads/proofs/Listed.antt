-- Lists of arguments, each as it is meant.
use Rattle.std.proofs.Common.{◌≡◌, ◌∙◌, List, [], ◌∷◌, map, refl, ap, sym}
use Rattle.region_forms.specs.Form.{argument_then, arguments_from}
use Rattle.region_ir.specs.declared.value.Arg.{Arg}
use Rattle.region_ir.specs.View.{argument_of, arguments_of}

-- a list of arguments, each as it is meant
pub arguments_listed : (given : List Arg) → arguments_of given ≡ arguments_from (map argument_of given)
arguments_listed [] = refl
arguments_listed (a ∷ given) = ap (argument_then (argument_of a)) (arguments_listed given)

-- arguments that mean the same
pub same_arguments : (given other : List Arg) → map argument_of given ≡ map argument_of other → arguments_of given ≡ arguments_of other
same_arguments given other e = arguments_listed given ∙ (ap arguments_from e ∙ sym (arguments_listed other))
