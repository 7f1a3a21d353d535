-- Calls and constructions in memory.
use Rattle.std.proofs.Common.{◌≡◌, ◌∙◌, ℕ, List, [], ◌∷◌, ◌++◌, map, refl, ap, subst}
use Rattle.cxx_ast.specs.declared.expression.Expr.{Expr}
use Rattle.cxx_ast.specs.declared.name.Name.{Name}
use Rattle.cxx_ast.specs.declared.types.Ty.{Ty}
use Rattle.cxx_ast.specs.Plain.{Expressions}
use Rattle.cxx_ast.specs.View.{expressions_of}
use Rattle.meaning_forms.specs.Running.{Constructor, constructor}
use Rattle.meaning_forms.specs.Expression.{constructor_types}
use Rattle.region_forms.specs.Form.{Arguments, Callee, Place, Region, argument_then, arguments_from, construct, op}
use Rattle.region_forms.specs.Numbering.{number_of}
use Rattle.region_forms.specs.LowerExpression.{Lowering, LoweredCall, constructed, constructor_chosen, lower_arguments, lower_construct}
use Rattle.region_ir.specs.declared.value.Arg.{Arg as ArgTree}
use Rattle.region_ir.specs.declared.value.Callee.{Callee as CalleeValue}
use Rattle.region_ir.specs.declared.region.Region.{Region as RegionTree}
use Rattle.region_ir.specs.Passed.{CallLowers, Passes, named_call}
use Rattle.region_ir.specs.View.{argument_of, arguments_of, callee_of, region_of}
use Rattle.region_ir.proofs.Behind.{put_behind}

-- a list of arguments, each as it is meant
pub arguments_listed : (given : List ArgTree) → arguments_of given ≡ arguments_from (map argument_of given)
arguments_listed [] = refl
arguments_listed (a ∷ given) = ap (argument_then (argument_of a)) (arguments_listed given)

-- what is made of a call in memory is made of the one that is lowered
pub called_so : (A : Type 0) (make : Callee → Arguments → A) (x : LoweredCall) (others : List Region) (now : List RegionTree) (callee : CalleeValue) (given : List ArgTree) →
    CallLowers x others now callee given → make (callee_of callee) (arguments_of given) ≡ make x.callee (arguments_from x.arguments)
called_so A make x others now callee given h =
    ap (λ f. make f (arguments_of given)) h.called ∙ ap (make x.callee) (arguments_listed given ∙ ap arguments_from h.passed)

-- a call by names and arguments that are the same
pub named_so : (l : Lowering) (t : ℕ) (names read : List Name) (es given : List Expr) (others : List Region) (now : List RegionTree) (callee : CalleeValue) (args : List ArgTree) →
    read ≡ names → given ≡ es → CallLowers (named_call l read (expressions_of given) t) others now callee args → CallLowers (named_call l names (expressions_of es) t) others now callee args
named_so l t names read es given others now callee args e f h =
    subst (λ ns. CallLowers (named_call l ns (expressions_of es) t) others now callee args) e
    (subst (λ xs. CallLowers (named_call l read (expressions_of xs) t) others now callee args) f h)

-- a construction behind its arguments
pub constructed_so : (l : Lowering) (k : ℕ) (es : Expressions) (p : Place) (t : ℕ) (which : Constructor) (types : List Ty) (n : ℕ) (others : List Region)
    (now : List RegionTree) (first given : List ArgTree) (made : RegionTree) → which ≡ constructor_chosen l k es → types ≡ constructor_types l.program k which →
    n ≡ number_of l.program (constructor k which) → first ≡ [] → Passes (lower_arguments l es types t) others now (map argument_of first) given →
    region_of made ≡ op (construct p n (arguments_of given)) → map region_of (now ++ made ∷ []) ≡ others ++ lower_construct l k es p t
constructed_so l k es p t which types n others now first given made chosen wanted numbered none h e =
    let x = lower_arguments l es types t in
    let passed : map argument_of given ≡ x.arguments = h.passed ∙ ap (λ xs. map argument_of xs ++ x.arguments) none in
    let operation : region_of made ≡ op (construct p n (arguments_from x.arguments)) =
    e ∙ ap (λ args. op (construct p n args)) (arguments_listed given ∙ ap arguments_from passed) in
    put_behind others x.before (op (construct p n (arguments_from x.arguments))) now made h.put operation ∙
    ap (λ rs. others ++ rs) (ap (λ m. constructed m p x) numbered ∙
    (ap (λ ts. constructed (number_of l.program (constructor k which)) p (lower_arguments l es ts t)) wanted ∙
    ap (λ w. constructed (number_of l.program (constructor k w)) p (lower_arguments l es (constructor_types l.program k w) t)) chosen))
