-- Calls of implicit copy constructors: the object that is copied is named by a parameter that the source does not write.
use Rattle.std.proofs.Common.{◌≡◌, ℕ, pos, Bool, true, false, List, [], ◌∷◌, Some, refl, sym, ap, ◌∙◌, subst, arith, length}
use Rattle.cxx_ast.specs.declared.name.Bound.TheVariants.{Local, Class}
use Rattle.cxx_ast.specs.declared.name.Name.{Name}
use Rattle.cxx_ast.specs.declared.types.Param.{Param}
use Rattle.cxx_ast.specs.declared.types.Ty.TheVariants.{ObjectRef}
use Rattle.cxx_ast.specs.Plain.{Checked}
use Rattle.meaning_forms.specs.Call.{build_parts as source_build_parts, copy_part as source_copy_part, run_constructor}
use Rattle.meaning_forms.specs.Class.{class_type, class_at, class_named, parts_of}
use Rattle.meaning_forms.specs.Context.{Context as SourceContext}
use Rattle.meaning_forms.specs.Frame.{variable_in, with_arguments}
use Rattle.meaning_forms.specs.Outcome.{continued as source_continued, normal as source_normal, pure as source_pure, ◌>>=◌, ◌>>◌}
use Rattle.meaning_forms.specs.Running.{Argument, by_value, by_reference, constructor, implicit_copy}
use Rattle.meaning_forms.specs.World.{World as SourceWorld, Reference}
use Rattle.region_forms.specs.Form.{kinds_of}
use Rattle.region_forms.specs.Layout.{Layout}
use Rattle.region_forms.specs.World.{Word}
use Rattle.region_forms.specs.Numbering.{number_of}
use Rattle.region_forms.specs.LowerStatement.{nothing_more}
use Rattle.region_forms.specs.LowerProgram.{lowering, build_parts, copy_part, copied_type, implicit_copy_function}
use Rattle.region_simulation.specs.Places.{Places, Refers}
use Rattle.region_simulation.specs.Reach.{is_in_reach, KindsFit}
use Rattle.region_simulation.specs.Calls.{SameArguments, SameOwn}
use Rattle.region_simulation.proofs.Standard.{builtins_same}
use Rattle.region_statements.specs.Fueled.{fueled, fueled_call}
use Rattle.region_statements.specs.Functions.{AreDeclared, all_declared_to}
use Rattle.region_statements.specs.Calls.{regions_running}
use Rattle.region_statements.specs.Members.{CopyConstructorsRunAlike}
use Rattle.region_statements.proofs.Naming.{does_nothing}
use Rattle.region_statements.proofs.SlotKinds.{slots_fit}
use Rattle.region_statements.proofs.Functions.{same_for}
use Rattle.region_statements.proofs.Parts.{parts_build_alike}
use Rattle.region_statements.proofs.PartsBuilt.{copy_goes}
use Rattle.region_statements.proofs.Members.{member_call}

-- the parameter, as the first variable
abbrev copied : Checked → ℕ → Param
copied p k = record { ty = ObjectRef true (class_at p k).name; name = Some (record { text = []; place = 0; bound = Local 0 }) }

-- it is the one argument
record OneReference (given : List Argument) : Type 0 where
  reference : Reference
  is : given ≡ by_reference reference ∷ []

one_reference : (l : Layout) (p : Checked) (at : Places) (c : Bool) (n : Name) (given : List Argument) (words : List Word) → SameArguments l p at (ObjectRef c n ∷ []) given words → OneReference given
one_reference l p at c n [] words h = absurd h
one_reference l p at c n (a ∷ given) [] h = absurd h
one_reference l p at c n (by_value z ∷ given) (x ∷ words) h = absurd (cc h.0.0)
one_reference l p at c n (by_reference r ∷ []) (x ∷ []) h = record { reference = r; is = refl }
one_reference l p at c n (by_reference r ∷ []) (x ∷ y ∷ words) h = absurd h.1
one_reference l p at c n (by_reference r ∷ a ∷ given) (x ∷ words) h = absurd h.1

-- whatever the class is called
same_named : (l : Layout) (p : Checked) (at : Places) (m n : Name) (given : List Argument) (words : List Word) → class_named m ≡ class_named n
    → SameArguments l p at (ObjectRef true m ∷ []) given words → SameArguments l p at (ObjectRef true n ∷ []) given words
same_named l p at m n [] words e h = absurd h
same_named l p at m n (a ∷ given) [] e h = absurd h
same_named l p at m n (by_value z ∷ given) (x ∷ words) e h = absurd (cc h.0.0)
same_named l p at m n (by_reference r ∷ []) (x ∷ []) e ((is, a, refers, word), rest) = ((is, a, subst (λ k. Refers l p at r (class_type k) a) e refers, word), rest)
same_named l p at m n (by_reference r ∷ []) (x ∷ y ∷ words) e h = absurd h.1
same_named l p at m n (by_reference r ∷ a ∷ given) (x ∷ words) e h = absurd h.1

own_named : (l : Layout) (p : Checked) (at : Places) (k : ℕ) (this : Reference) (m n : Name) (given : List Argument) (words : List Word) → class_named m ≡ class_named n
    → SameOwn l p at k this (ObjectRef true m ∷ []) given words → SameOwn l p at k this (ObjectRef true n ∷ []) given words
own_named l p at k this m n given [] e h = absurd h
own_named l p at k this m n given (x ∷ words) e (a, refers, is, same) = (a, refers, is, same_named l p at m n given words e same)

own_given : (l : Layout) (p : Checked) (at : Places) (k : ℕ) (this : Reference) (c : Bool) (n : Name) (given : List Argument) (words : List Word)
    → SameOwn l p at k this (ObjectRef c n ∷ []) given words → OneReference given
own_given l p at k this c n given [] h = absurd h
own_given l p at k this c n given (x ∷ words) (a, refers, is, same) = one_reference l p at c n given words same

-- the source copies from its argument
same_run : (p : Checked) (limit fuel k : ℕ) (this : Reference) (given : List Argument) (c : SourceContext) (u : SourceWorld) → OneReference given
    → source_continued (with_arguments (copied p k ∷ []) given (record { this = this; variables = [] }) u)
    (λ v. source_build_parts (fueled p limit fuel) (source_copy_part (fueled p limit fuel) v.this (variable_in v.variables 0) c) v.this 0 (parts_of p k) c (source_pure source_normal) >>=
    (λ flow. source_pure (pos 0)))
    ≡ (run_constructor (fueled p limit fuel) k implicit_copy this given c >> source_pure (pos 0)) u
same_run p limit fuel k this given c u one =
    subst (λ ys. source_continued (with_arguments (copied p k ∷ []) ys (record { this = this; variables = [] }) u)
    (λ v. source_build_parts (fueled p limit fuel) (source_copy_part (fueled p limit fuel) v.this (variable_in v.variables 0) c) v.this 0 (parts_of p k) c (source_pure source_normal) >>=
    (λ flow. source_pure (pos 0)))
    ≡ (run_constructor (fueled p limit fuel) k implicit_copy this ys c >> source_pure (pos 0)) u) (sym one.is) refl

-- it is in reach
copied_in_reach : (p : Checked) (k : ℕ) (references : List Reference) → length references ≡ 1 → is_in_reach (all_declared_to (copied p k ∷ []) references []) 0 ≡ true
copied_in_reach p k [] e = absurd (omega (arith, e))
copied_in_reach p k (r ∷ references) e = refl

pub copy_constructors_run_alike : CopyConstructorsRunAlike
copy_constructors_run_alike p layout q limit fuel k apart same named there can alike at this given words n c w s stands passed =
    let types = copied_type (class_at p k) in
    let g = implicit_copy_function p layout k in
    let l = lowering p layout true types in
    let kinds = kinds_of g.slots in
    let fit : KindsFit l kinds = slots_fit p layout true types g.body in
    let call = fueled_call p limit fuel in
    let b = regions_running q limit fuel kinds in
    let r = fueled p limit fuel in
    let declares : AreDeclared l 0 (copied p k ∷ []) = (record { numbered = refl; there = omega arith; typed = refl }, tt) in
    let own = own_named layout p at k this (record { text = []; place = 0; bound = Class k }) (class_at p k).name given words (sym named) passed in
    let one = own_given layout p at k this true (class_at p k).name given words own in
    member_call p layout q limit fuel k apart same types g (build_parts l k (copy_part l k) 0 (parts_of p k) nothing_more 1) (copied p k ∷ []) false refl refl fit refl declares
    (number_of p (constructor k implicit_copy)) there
    (λ d v. source_build_parts r (source_copy_part r v.this (variable_in v.variables 0) d) v.this 0 (parts_of p k) d (source_pure source_normal))
    (λ d v references counted variables.
    parts_build_alike l k false call b v d (alike kinds fit).1 1 1 (omega arith) (source_copy_part r v.this (variable_in v.variables 0) d) (copy_part l k)
    (λ i t is.
    copy_goes l k call b v d fit apart (same_for p layout q limit fuel apart same kinds)
    (builtins_same l (Some k) call b v d fit ((alike kinds fit).0.terminates v d) ((alike kinds fit).0.modules v d)) refl
    (ap (λ xs. is_in_reach xs 0) variables ∙ copied_in_reach p k references counted) refl (ap class_type named) i t is (can i t is))
    (source_pure source_normal) nothing_more (λ e lt. does_nothing l (Some k) false b v d fit 1 0 e))
    at this given words n c w s stands own (run_constructor r k implicit_copy this given c >> source_pure (pos 0))
    (λ u. same_run p limit fuel k this given c u one)
