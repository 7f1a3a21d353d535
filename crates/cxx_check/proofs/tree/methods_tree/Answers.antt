use Rattle.std.proofs.Common.{◌<◌, ◌+◌, ap, ◌∙◌, sym, Some, ◌∷◌, ◌++◌, drop, map, length, arith}
use Rattle.std.proofs.lemmas.List.{drop_more, map_push, get_or-map, length-map}
use Rattle.cxx_ast.specs.declared.name.Bound.TheVariants.{Method}
use Rattle.cxx_ast.specs.Declare.{function_scope}
use Rattle.cxx_ast.specs.Resolve.{resolve_function}
use Rattle.cxx_ast.specs.View.{function_of}
use Rattle.cxx_check.specs.ClassParts.{member_scope}
use Rattle.cxx_check.specs.HeadingOf.{heading_of, method_heading}
use Rattle.cxx_check.specs.TreeParts.{methods_tree}
use Rattle.cxx_check.proofs.TreeLaws.{image_same, rebuilt_more, head_same}
use Rattle.cxx_check.proofs.tree.methods_tree.Goals as goal

pub loop-i-preserved : goal.loop-i-preserved
loop-i-preserved c head e =
    let i = c.loop-i.i in
    let hs = c.args.headings.now in
    let fs = c.args.funcs.now in
    let env = c.args.env.now in
    let k = c.args.class in
    let done = c.loop-i.rebuilt.items in
    let fn = c.index-funcs-i.result in
    let f = function_of fn in
    let within : i < length fs = omega arith in
    let as_many : i < length hs = omega (arith, c.requires) in
    let mapped : i < length (map function_of fs) = omega (arith, length-map fs function_of) in
    let same =
    image_same heading_of (method_heading head k) hs (map function_of fs) i c.index-headings-i.result f e as_many mapped c.index-headings-i.is
    (ap function_of c.index-funcs-i.is ∙ sym (get_or-map function_of fs i fn f within)) in
    let y = resolve_function head (member_scope k f.name) env (function_scope env (Some k) f.result) (Method k i) f in
    let next = drop_more fs i fn within ∙ ap (λ x. x ∷ drop (i + 1) fs) (sym c.index-funcs-i.is) in
    rebuilt_more function_of done c.put.new.others.items c.in_ok-method.method y (methods_tree head env k (i + 1) (map function_of (drop (i + 1) fs))) (methods_tree head env k 0 (map function_of fs))
    (ap (map function_of) c.in_ok-put.ensures ∙ map_push function_of done c.in_ok-method.method)
    (head_same (function_of c.in_ok-method.method) y (c.in_ok-method.ensures head same))
    (ap (λ xs. map function_of done ++ methods_tree head env k i (map function_of xs)) (sym next) ∙ c.loop-i.invariant head e)
