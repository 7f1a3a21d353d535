-- Declarations one by one, and the whole program.
use Rattle.std.proofs.Common.{◌≡◌, ℕ, List, [], ◌∷◌, ◌++◌, None, refl, ap, ◌∙◌, sym, not, option_map, if◌then◌else◌}
use Rattle.cxx_ast.specs.Plain.{Function, Declaration, function_declaration, Program}
use Rattle.cxx_ast.specs.Environment.{Environment}
use Rattle.cxx_ast.specs.Broken.{function_name_found, declaration_found, declarations_found, has_main, pairs, broken}
use Rattle.cxx_ast.specs.Declare.{declare_behind, body_environment, at_the_start, definitions}
use Rattle.cxx_ast.specs.DeclaredNames.{once_only_found}
use Rattle.cxx_ast.specs.Standards.{standard_found}
use Rattle.cxx_ast.specs.declared.standard.Std.{Std}
use Rattle.cxx_ast.specs.Finding.{Finding, breaks_if}
use Rattle.cxx_ast.specs.FunctionRules.{function_found}
use Rattle.cxx_ast.specs.Locals.{outermost}
use Rattle.cxx_ast.specs.Lookup.{entry_of}
use Rattle.cxx_ast.specs.Refused.{refused, first}
use Rattle.cxx_ast.specs.Rule.{no_main}
use Rattle.cxx_ast.specs.TypeNames.{signature}
use Rattle.cxx_check.specs.FunctionParts.{head_found, inside_found}
use Rattle.cxx_check.specs.RefusalOf.{pair_of}
use Rattle.cxx_check.specs.Whole.{declarations_behind}
use Rattle.cxx_rules.specs.declared.found.Found.{Found}
use Rattle.cxx_rules.specs.Summary.{both, seen, summary, broken_at, nothing_found}
use Rattle.cxx_rules.proofs.FoundLaws.{summary_append, summary_if, both_both, nothing_both}
use Rattle.cxx_rules.proofs.GivenLaws.{end_of, next_of}
use Rattle.cxx_check.proofs.ClassLaws.{function_parts}
use Rattle.cxx_check.proofs.KnownLaws.{seen_alike, declared_definitions}
use Rattle.cxx_check.proofs.OrderLaws.{least_first}

-- a function of no class
pub function_is : (env : Environment) (f : Function) (n h b r : Found) →
    (let s = signature env outermost f in n ≡ seen env (function_name_found env s (entry_of env f.name.text))) →
    h ≡ seen env (head_found env outermost f) → b ≡ seen env (inside_found env outermost (body_environment env f) None f) →
    r ≡ both (both n h) b → r ≡ seen env (declaration_found env (function_declaration f))
function_is env f n h b r e g i w =
    let N = function_name_found env (signature env outermost f) (entry_of env f.name.text) in
    let H = head_found env outermost f in
    let I = inside_found env outermost (body_environment env f) None f in
    let M = function_found env outermost (body_environment env f) None f in
    w ∙ ap (λ x. both (both x h) b) e ∙ ap (λ x. both (both (seen env N) x) b) g ∙ ap (both (both (seen env N) (seen env H))) i
    ∙ sym (both_both (seen env N) (seen env H) (seen env I))
    ∙ ap (both (seen env N)) (sym (function_parts env env outermost (body_environment env f) None f))
    ∙ sym (summary_append env.definitions N M)

so_far : (f : Found) (env : Environment) (ds : List Declaration) → declarations_behind f env ds ≡ both f (seen env (declarations_found env ds))
so_far f env [] = end_of env f
so_far f env (d ∷ ds) =
    so_far (both f (seen env (declaration_found env d))) (declare_behind env d) ds
    ∙ ap (both (both f (seen env (declaration_found env d)))) (seen_alike (declare_behind env d) env (declarations_found (declare_behind env d) ds) (declared_definitions env d))
    ∙ next_of env f (seen env (declaration_found env d)) (declaration_found env d) (declarations_found (declare_behind env d) ds) refl

pub declarations_behind_is : (env : Environment) (ds : List Declaration) → declarations_behind nothing_found env ds ≡ seen env (declarations_found env ds)
declarations_behind_is env ds = so_far nothing_found env ds ∙ nothing_both (seen env (declarations_found env ds))

first_of : (d : List (List ℕ)) (fs : List Finding) → option_map pair_of (summary d fs).least ≡ first (pairs d fs)
unfolding summary
first_of d fs = least_first d fs

-- the parts of a program
pub refused_by : (std : Std) (p : Program) (walked once main own r : Found) (start env : Environment) →
    start ≡ at_the_start p.declarations → env.definitions ≡ start.definitions → walked ≡ seen start (declarations_found start p.declarations) →
    once ≡ seen env (once_only_found p.declarations) → main ≡ (if not (has_main p.declarations) then broken_at no_main p.length else nothing_found) →
    own ≡ seen env (standard_found std p.declarations) → r ≡ both (both (both walked once) main) own → option_map pair_of r.least ≡ refused std p
unfolding broken
refused_by std p walked once main own r start env s e f g h k w =
    let ds = p.declarations in
    let S = at_the_start ds in
    let d = definitions ds in
    let D = declarations_found S ds in
    let O = once_only_found ds in
    let N = breaks_if (not (has_main ds)) no_main p.length in
    let Z = standard_found std ds in
    let known : env.definitions ≡ d = e ∙ ap (λ e. e.definitions) s in
    let walk = f ∙ ap (λ v. seen v (declarations_found v ds)) s in
    let all =
    w ∙ ap (λ x. both (both (both x once) main) own) walk ∙ ap (λ x. both (both (both (seen S D) x) main) own) (g ∙ ap (λ v. summary v O) known)
    ∙ ap (λ x. both (both (both (seen S D) (summary d O)) x) own) (h ∙ sym (summary_if d (not (has_main ds)) no_main p.length))
    ∙ ap (both (both (both (seen S D) (summary d O)) (summary d N))) (k ∙ ap (λ v. summary v Z) known)
    ∙ sym (summary_append d (D ++ O ++ N) Z ∙ ap (λ x. both x (summary d Z)) (summary_append d (D ++ O) N ∙ ap (λ x. both x (summary d N)) (summary_append d D O))) in
    ap (λ x. option_map pair_of x.least) all ∙ first_of d (D ++ O ++ N ++ Z)
