-- Classes are laid out alike with the specifications that count.
use Rattle.std.proofs.Common.{◌≡◌, List, [], ◌∷◌, ◌++◌, refl}
use Rattle.cxx_ast.specs.declared.standard.Std.{Std}
use Rattle.cxx_ast.specs.Plain.{Class}
use Rattle.cxx_ast.specs.Settled.{Allowed, allowed_by, destructor_of, given, settle_classes}
use Rattle.region_forms.specs.Layout.{ClassLayout, class_layout, layouts_behind}

pub layouts_settled : (std : Std) (before : List Allowed) (laid : List ClassLayout) (cs : List Class) → layouts_behind laid (settle_classes std before cs) ≡ layouts_behind laid cs
layouts_settled std before laid [] = refl
layouts_settled std before laid (c ∷ cs) =
    layouts_settled std (before ++ allowed_by (destructor_of (given std before c) c.functions) ∷ []) (laid ++ class_layout laid c ∷ []) cs
