-- The functions of classes, one class after the other.
use Rattle.std.proofs.Common.{◌≡◌, ◌∙◌, ◌+◌, ℕ, suc, List, ◌++◌, Some, ap, sym, append_assoc}
use Rattle.std.proofs.lemmas.Option.{slice_get-map}
use Rattle.std.specs.Prelude.{slice_get, unwrap_or, option_map}
use Rattle.cxx_ast.specs.declared.declaration.ClassDecl.{ClassDecl}
use Rattle.cxx_ast.specs.declared.program.Checked.{Checked as CheckedValue}
use Rattle.cxx_ast.specs.Plain.{Checked}
use Rattle.cxx_ast.specs.View.{checked_of, class_of}
use Rattle.meaning_forms.specs.Class.{class_at, no_class}
use Rattle.region_forms.specs.Form.{RegionFunction}
use Rattle.region_forms.specs.Layout.{Layout}
use Rattle.region_forms.specs.LowerProgram.{functions_of_class, functions_of_classes}

-- the functions of the class that stood first among those that were left
pub class_done : (p : Checked) (l : Layout) (k j m n : ℕ) (old new all : List RegionFunction) → m ≡ suc n → j ≡ k → new ≡ old ++ functions_of_class p l j →
    old ++ functions_of_classes p l k m ≡ all → new ++ functions_of_classes p l (k + 1) n ≡ all
class_done p l k j m n old new all left same put before =
    let rest = functions_of_classes p l (k + 1) n in
    ap (λ xs. xs ++ rest) put ∙ (append_assoc old (functions_of_class p l j) rest ∙ (ap (λ x. old ++ (functions_of_class p l x ++ rest)) same
    ∙ (ap (λ x. old ++ functions_of_classes p l k x) (sym left) ∙ before)))

-- a class by its number
pub class_found : (p : CheckedValue) (k : ℕ) (c : ClassDecl) → slice_get p.classes.items k ≡ Some c → class_of c ≡ class_at (checked_of p) k
class_found p k c e = sym (ap (λ o. unwrap_or o no_class) (slice_get-map class_of p.classes.items k ∙ ap (option_map class_of) e))
