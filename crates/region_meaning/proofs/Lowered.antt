-- Each callee of a program has its number among the functions of its regions.
use Rattle.std.proofs.Common.{◌≡◌, ℕ, ◌+◌, Bool, true, false, ◌==◌, ◌∷◌, Option, Some, None, if◌then◌else◌, refl, ap, ◌∙◌, subst, arith, length}
use Rattle.std.proofs.lemmas.Bool.Decides.{nat_tests}
use Rattle.cxx_ast.specs.declared.declaration.FuncKind.{FuncKind}
use Rattle.cxx_ast.specs.declared.declaration.FuncKind.TheVariants.{Plain}
use Rattle.cxx_ast.specs.Plain.{Checked, Function}
use Rattle.meaning_forms.specs.Class.{function_at as source_function_at}
use Rattle.meaning_forms.specs.Construct.{destructor_place}
use Rattle.meaning_forms.specs.Running.{Callee, function, method, constructor, destructor, declared, implicit_default, implicit_copy}
use Rattle.region_forms.specs.Form.{in_order}
use Rattle.region_forms.specs.Layout.{Layout}
use Rattle.region_forms.specs.Numbering.{variables_of}
use Rattle.region_forms.specs.LowerProgram.{lowering, limited, body_of, last_result, result_for, with_body, declared_function}
use Rattle.region_ir.specs.AtNumber.{IsThere, destructor_function, called_function}
use Rattle.region_ir.proofs.AtNumber.{at_number}
use Rattle.region_simulation.specs.Calls.{IsCallable}
use Rattle.region_statements.specs.Main.{main_function}
use Rattle.region_statements.specs.Whole.{lowered_destructor, lowered_callee}
use Rattle.region_meaning.specs.Lowered.{ProgramsAreLowered}

there : (p : Checked) (callee : Callee) → IsCallable p callee → IsThere p callee
there p (function n) h = h
there p (method k i) h = (h.0, h.1)
there p (constructor k (declared i)) h = (h.0, h.1)
there p (constructor k implicit_default) h = h.0
there p (constructor k implicit_copy) h = h
there p (destructor k) h = h

main_lowered : (p : Checked) (layout : Layout) (f : Function) → f.kind ≡ Plain → declared_function p layout false true 0 f ≡ main_function p layout f
main_lowered p layout f plain =
    let l = lowering p layout false (variables_of f) in
    let none : 0 + length f.parameters ≡ length f.parameters = omega arith in
    ap (λ n. with_body layout false (variables_of f) n f.name.text (result_for l f.result) (in_order (limited l f.specification (body_of l f.kind 0 f) 1 ∷ last_result l true))) none ∙
    ap (λ (z : FuncKind). with_body layout false (variables_of f) (length f.parameters) f.name.text (result_for l f.result) (in_order (limited l f.specification (body_of l z 0 f) 1 ∷ last_result l true))) plain

module _ (p : Checked) (layout : Layout) (plain : (source_function_at p p.main).kind ≡ Plain) where
  function_lowered : (n : ℕ) → called_function p layout (function n) ≡ lowered_callee p layout (function n)
  function_lowered n = go (n == p.main) refl
    where
      go : (z : Bool) → (n == p.main) ≡ z → declared_function p layout false z 0 (source_function_at p n) ≡
          (if z then main_function p layout (source_function_at p n) else declared_function p layout false false 0 (source_function_at p n))
      go false e = refl
      go true e =
          let same : p.main ≡ n = grind (arith, nat_tests, e) in
          main_lowered p layout (source_function_at p n) (subst (λ m. (source_function_at p m).kind ≡ Plain) same plain)

  destructor_lowered : (k : ℕ) (o : Option ℕ) → destructor_function p layout k o ≡ lowered_destructor p layout k o
  destructor_lowered k None = refl
  destructor_lowered k (Some i) = refl

  lowered : (callee : Callee) → called_function p layout callee ≡ lowered_callee p layout callee
  lowered (function n) = function_lowered n
  lowered (method k i) = refl
  lowered (constructor k (declared i)) = refl
  lowered (constructor k implicit_default) = refl
  lowered (constructor k implicit_copy) = refl
  lowered (destructor k) = destructor_lowered k (destructor_place p k)

pub programs_are_lowered : ProgramsAreLowered
programs_are_lowered p layout plain = record {
  globals = refl;
  main = refl;
  numbered = λ callee can. at_number p layout callee (there p callee can) ∙ ap (λ f. Some f) (lowered p layout plain callee);
}
