use Rattle.std.proofs.Common.{rules, ◌≡◌, ◌∷◌, List, subst}
use Rattle.eh_bytes.specs.Memory.{memory_of}
use Rattle.frame_read.specs.declared.listed.Fde.{Fde}
use Rattle.table_dump.specs.Seen.{AreFunctions}
use Rattle.table_dump.proofs.Functions.{first_function, function_turn}
use Rattle.table_dump.proofs.function.put_functions.Goals as goal

pub put_function-requires-clause-function : goal.put_function-requires-clause-function
put_function-requires-clause-function c =
    let m = memory_of c.args.memory.now in let l = c.args.frames.now in
    let kept = c.fdes.invariant.1 c.requires.0 c.requires.1 in
    let split : c.fdes.rest.now ≡ c.in-Some.fde.now ∷ c.in-Some.others.now = search rules in
    first_function m l c.in-Some.fde.now c.in-Some.others.now kept.0 (subst (λ (fs : List Fde). AreFunctions m l fs kept.0) split kept.1)

pub fdes-preserved : goal.fdes-preserved
fdes-preserved c = (
  c.put_function.ensures.folds,
  λ gs are.
      let m = memory_of c.args.memory.now in let l = c.args.frames.now in
      let kept = c.fdes.invariant.1 gs are in
      let split : c.fdes.rest.now ≡ c.in-Some.fde.now ∷ c.in-Some.others.now = search rules in
      function_turn m l c.in-Some.fde.now c.in-Some.others.now kept.0 _ c.fdes.out.items c.put_function.new.out.items
      (subst (λ (fs : List Fde). AreFunctions m l fs kept.0) split kept.1) kept.2 c.in_ok-put_function.ensures.function,
)
