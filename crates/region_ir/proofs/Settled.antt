-- What does not speak of specifications holds alike of classes and functions with those that count.
use Rattle.std.proofs.Common.{◌≡◌, Bool, ◌&&◌, List, [], ◌∷◌, ◌++◌, Option, map, refl, ap, ◌∙◌}
use Rattle.cxx_ast.specs.declared.standard.Std.{Std}
use Rattle.cxx_ast.specs.Plain.{Specification, Function, Class}
use Rattle.cxx_ast.specs.Settled.{Allowed, allowed_by, destructor_of, given, settle_function, settle_class, settle_classes}
use Rattle.region_forms.specs.WellFormed.{every}

pub every_settled : (test : Function → Bool) → ((own : Option Specification) (f : Function) → test (settle_function own f) ≡ test f) → (own : Option Specification) (fs : List Function) →
    every test (map (settle_function own) fs) ≡ every test fs
every_settled test same own [] = refl
every_settled test same own (f ∷ fs) =
    ap (λ b. b && every test (map (settle_function own) fs)) (same own f) ∙ ap (λ b. test f && b) (every_settled test same own fs)

pub classes_settled : (test : Class → Bool) → ((own : Option Specification) (c : Class) → test (settle_class own c) ≡ test c) → (std : Std) (before : List Allowed) (cs : List Class) →
    every test (settle_classes std before cs) ≡ every test cs
classes_settled test same std before [] = refl
classes_settled test same std before (c ∷ cs) =
    let own = given std before c in
    let behind = before ++ allowed_by (destructor_of own c.functions) ∷ [] in
    ap (λ b. b && every test (settle_classes std behind cs)) (same own c) ∙ ap (λ b. test c && b) (classes_settled test same std behind cs)
