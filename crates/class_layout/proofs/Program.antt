-- The classes of a checked program fit.
use Rattle.std.proofs.Common.{not, List, [], ◌∷◌, ◌++◌, refl, sym, subst, arith}
use Rattle.cxx_ast.specs.declared.standard.Std.{Std}
use Rattle.cxx_ast.specs.Plain.{Class, Program}
use Rattle.cxx_ast.specs.Broken.{Valid, broken, has_main, declarations_found}
use Rattle.cxx_ast.specs.Checked.{checked, bad_exception, classes_of, resolve_declarations}
use Rattle.cxx_ast.specs.Settled.{Allowed, allowed_by, destructor_of, given, settle_classes}
use Rattle.cxx_ast.specs.Standards.{standard_found}
use Rattle.cxx_ast.specs.DeclaredNames.{once_only_found}
use Rattle.cxx_ast.specs.Finding.{breaks_if}
use Rattle.cxx_ast.specs.Rule.{no_main}
use Rattle.cxx_ast.specs.Declare.{at_the_start, definitions}
use Rattle.region_forms.specs.Layout.{ClassLayout, class_layout}
use Rattle.class_layout.specs.Fit.{Fit, FitBehind, CheckedClassesFit}
use Rattle.class_layout.proofs.Sound.{front_sound, nothing_refused}
use Rattle.class_layout.proofs.Declared.{declared_fit}

-- so do they with the specifications that count
settled_fit : (std : Std) (before : List Allowed) (laid : List ClassLayout) (cs : List Class) → FitBehind laid cs → FitBehind laid (settle_classes std before cs)
settled_fit std before laid [] h = tt
settled_fit std before laid (c ∷ cs) h = (
  record { before = h.0.before; small = h.0.small },
  settled_fit std (before ++ allowed_by (destructor_of (given std before c) c.functions) ∷ []) (laid ++ class_layout laid c ∷ []) cs h.1,
)

program_fits : (std : Std) (p : Program) → Valid std p → Fit (checked std p).classes
unfolding broken checked
program_fits std p valid =
    let walked = declarations_found (at_the_start p.declarations) p.declarations in
    let once = once_only_found p.declarations in
    let main = breaks_if (not (has_main p.declarations)) no_main p.length in
    let own = standard_found std p.declarations in
    let all = nothing_refused (definitions p.declarations) (walked ++ once ++ main ++ own) valid in
    let sound = front_sound walked once (front_sound (walked ++ once) main (front_sound (walked ++ once ++ main) own all)) in
    settled_fit std [] [] (bad_exception ∷ classes_of (resolve_declarations (at_the_start p.declarations) p.declarations)) (
      record { before = tt; small = omega arith },
      declared_fit p.declarations (at_the_start p.declarations) (class_layout [] bad_exception ∷ [])
          (record { sizes = refl; count = refl; known = tt; some = omega arith }) sound,
    )

pub classes_fit : CheckedClassesFit
classes_fit p h = subst (λ q. Fit q.classes) (sym h.resolved) (program_fits h.std h.program h.valid)
