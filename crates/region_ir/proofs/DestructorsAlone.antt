-- The grammar gives destructors no parameters.
use Rattle.std.proofs.Common.{◌≡◌, ◌∙◌, ◌+◌, ◌==◌, ℕ, true, List, [], ◌∷◌, Some, map, length, if◌then◌else◌, refl, sym, ap, subst}
use Rattle.std.specs.Cmp.Derive.{both_true}
use Rattle.cxx_ast.specs.declared.name.Bound.{Bound}
use Rattle.cxx_ast.specs.declared.name.Bound.TheVariants.{Method as MethodBound}
use Rattle.cxx_ast.specs.declared.declaration.FuncKind.{FuncKind}
use Rattle.cxx_ast.specs.declared.declaration.FuncKind.TheVariants.{Plain, Method, Constructor, Destructor}
use Rattle.cxx_ast.specs.declared.standard.Std.{Std}
use Rattle.cxx_ast.specs.Plain.{Function, Class, class_declaration, Program, Checked}
use Rattle.cxx_ast.specs.Environment.{Environment, Scope}
use Rattle.cxx_ast.specs.Grammatical.{Each, HasForm, IsFunction, IsMember, IsGrammatical}
use Rattle.cxx_ast.specs.Written.{Member, data_member, function_member, Written, written_class, written_global, written_function, data_members, functions, declared}
use Rattle.cxx_ast.specs.Resolve.{resolve_params, resolve_function}
use Rattle.cxx_ast.specs.Declare.{at_the_start, next_class, declare_behind, head_environment, head_scope, function_scope}
use Rattle.cxx_ast.specs.Checked.{bad_exception, resolve_methods, resolve_declarations, classes_of, checked, IsChecked}
use Rattle.meaning_forms.specs.Construct.{is_destructor}
use Rattle.region_forms.specs.WellFormed.{every}
use Rattle.region_ir.proofs.Settled.{every_settled, classes_settled}
use Rattle.region_ir.specs.Specials.{destructor_alone, destructors_alone}

function_alone : (head : Environment) (heads : Scope) (env : Environment) (sc : Scope) (b : Bound) (f : Function) → IsFunction f →
    destructor_alone (resolve_function head heads env sc b f) ≡ true
function_alone head heads env sc b f h = go f.kind h.form
  where
    go : (kind : FuncKind) → HasForm kind f → (if is_destructor kind then length (resolve_params head heads f.parameters) == 0 else true) ≡ true
    go Plain q = refl
    go Method q = refl
    go Constructor q = refl
    go Destructor q = ap (λ ps. length (resolve_params head heads ps) == 0) q.2

methods_alone : (env : Environment) (c : Class) (i : ℕ) (ms : List Member) → Each IsMember ms →
    every destructor_alone (resolve_methods env c i (functions ms)) ≡ true
methods_alone env c i [] h = refl
methods_alone env c i (data_member p ∷ ms) h = methods_alone env c i ms h.1
methods_alone env c i (function_member f ∷ ms) h =
    let env' = declare_behind env (class_declaration c) in
    both_true (function_alone (head_environment env c) (head_scope env f.name) env' (function_scope env' (Some (next_class env)) f.result)
    (MethodBound (next_class env) i) f h.0.0) (methods_alone env c (i + 1) ms h.1)

classes_alone : (env : Environment) (ws : List Written) → Each IsGrammatical ws →
    every destructors_alone (classes_of (resolve_declarations env (map declared ws))) ≡ true
classes_alone env [] h = refl
classes_alone env (written_class n is_public base ms ∷ ws) h =
    let c : Class = record { name = n; base = base; members = data_members ms; functions = functions ms } in
    both_true (methods_alone env c 0 ms h.0) (classes_alone (declare_behind env (class_declaration c)) ws h.1)
classes_alone env (written_global n s ∷ ws) h = classes_alone (declare_behind env (declared (written_global n s))) ws h.1
classes_alone env (written_function f ∷ ws) h = classes_alone (declare_behind env (declared (written_function f))) ws h.1

program_alone : (std : Std) (p : Program) (ws : List Written) → map declared ws ≡ p.declarations → Each IsGrammatical ws →
    every destructors_alone (checked std p).classes ≡ true
unfolding checked
program_alone std p ws e h =
    classes_settled destructors_alone (λ own c. every_settled destructor_alone (λ o f. refl) own c.functions) std []
    (bad_exception ∷ classes_of (resolve_declarations (at_the_start p.declarations) p.declarations)) ∙
    both_true refl (subst (λ ds. every destructors_alone (classes_of (resolve_declarations (at_the_start p.declarations) ds)) ≡ true) e
    (classes_alone (at_the_start p.declarations) ws h))

pub checked_alone : (p : Checked) → IsChecked p → every destructors_alone p.classes ≡ true
checked_alone p h =
    subst (λ q. every destructors_alone q.classes ≡ true) (sym h.resolved)
    (program_alone h.std h.program h.tree.written h.tree.declarations h.tree.grammatical)
