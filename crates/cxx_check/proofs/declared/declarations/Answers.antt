use Rattle.std.proofs.Common.{◌≤◌, ◌<◌, ◌+◌, ap, ◌∙◌, sym, ◌∷◌, drop, map, length, arith}
use Rattle.std.proofs.lemmas.List.{drop_all, drop_more}
use Rattle.cxx_ast.specs.Broken.{declaration_found}
use Rattle.cxx_ast.specs.View.{declaration_of}
use Rattle.cxx_check.specs.Whole.{declarations_behind}
use Rattle.cxx_rules.specs.Summary.{both, seen}
use Rattle.cxx_check.proofs.KnownLaws.{declared_definitions}
use Rattle.cxx_check.proofs.WholeLaws.{declarations_behind_is}
use Rattle.cxx_check.proofs.declared.declarations.Goals as goal

pub loop-d-preserved : goal.loop-d-preserved
loop-d-preserved c =
    let i = c.loop-d.d-index in
    let ds = c.args.decls.now in
    let old = c.loop-d.env in
    let within : i < length ds = omega arith in
    let next = drop_more ds i c.d-item.result within ∙ ap (λ x. x ∷ drop (i + 1) ds) (sym c.d-item.is) in
    let rest = map declaration_of (drop (i + 1) ds) in
    let d = declaration_of c.d-item.result in
    record {
      found =
          ap (λ f. declarations_behind f c.declaration.new.env rest) (c.and-found.ensures ∙ ap (both c.loop-d.found) c.in_ok-next.ensures.found)
          ∙ ap (λ e. declarations_behind (both c.loop-d.found (seen old (declaration_found old d))) e rest) c.in_ok-next.ensures.env
          ∙ ap (λ xs. declarations_behind c.loop-d.found old (map declaration_of xs)) (sym next)
          ∙ c.loop-d.invariant.found;
      definitions = ap (λ e. e.definitions) c.in_ok-next.ensures.env ∙ declared_definitions old d ∙ c.loop-d.invariant.definitions;
    }

pub returns-clause-found : goal.returns-clause-found
returns-clause-found c =
    let over : length c.args.decls.now ≤ c.loop-d.d-index = omega arith in
    sym (ap (λ ds. declarations_behind c.loop-d.found c.loop-d.env (map declaration_of ds)) (drop_all c.loop-d.d-index c.args.decls.now over))
    ∙ c.loop-d.invariant.found ∙ ap (λ f. declarations_behind f c.args.env.now (map declaration_of c.args.decls.now)) c.nothing-found.ensures
    ∙ declarations_behind_is c.args.env.now (map declaration_of c.args.decls.now)
