use Rattle.std.proofs.Common.{rules, ◌≡◌, ◌++◌, ◌∷◌, List, subst}
use Rattle.std.specs.Prelude.{flat_map}
use Rattle.eh_bytes.specs.Memory.{memory_of}
use Rattle.elf_image.specs.Clean.{CleanImage}
use Rattle.frame_read.specs.declared.listed.Fde.{Fde}
use Rattle.table_dump.specs.Seen.{AreFunctions}
use Rattle.table_dump.proofs.Functions.{first_function}
use Rattle.image_doubts.specs.Doubts.{function_doubts}
use Rattle.image_doubts.proofs.Turned.{one_on}
use Rattle.image_doubts.proofs.function.put_functions.Goals as goal

pub put_function-requires-clause-function : goal.put_function-requires-clause-function
put_function-requires-clause-function c =
    let m = memory_of c.args.image.now.elf.segments in let l = c.args.image.now.frames in
    let kept = c.fdes.invariant c.requires.functions.0 c.requires.functions.1 in
    let split : c.fdes.rest.now ≡ c.in-Some.fde.now ∷ c.in-Some.others.now = search rules in
    first_function m l c.in-Some.fde.now c.in-Some.others.now kept.0 (subst (λ (fs : List Fde). AreFunctions m l fs kept.0) split kept.1)

pub fdes-preserved : goal.fdes-preserved
fdes-preserved c = λ gs are.
    let m = memory_of c.args.image.now.elf.segments in let l = c.args.image.now.frames in
    let kept = c.fdes.invariant gs are in
    let split : c.fdes.rest.now ≡ c.in-Some.fde.now ∷ c.in-Some.others.now = search rules in
    one_on c.args.image.now m l c.in-Some.fde.now c.in-Some.others.now kept.0 (λ (i : CleanImage). c.args.out.now.items ++ flat_map (function_doubts m i.functions) gs) c.fdes.out.items c.put_function.new.out.items
    (subst (λ (fs : List Fde). AreFunctions m l fs kept.0) split kept.1) kept.2 c.in_ok-put_function.ensures
