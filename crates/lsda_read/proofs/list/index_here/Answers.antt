use Rattle.std.proofs.Common.{◌≡◌, ◌==◌, false, Some, None, Ok, if◌then◌else◌, ap, ◌∙◌, arith}
use Rattle.std.proofs.lemmas.Bool.Decides.{nat_tests}
use Rattle.eh_bytes.specs.Memory.{part_of}
use Rattle.lsda_read.specs.Left.{indices_left, index_read, and_indices}
use Rattle.lsda_read.proofs.Steps.{index_first}
use Rattle.lsda_read.proofs.list.index_here.Goals as goal

pub returns-in-Err-clause-gives : goal.returns-in-Err-clause-gives
returns-in-Err-clause-gives c = λ n.
    let s = part_of c.args.segment.now in
    index_first s c.args.first n c.args.place ∙ ap (λ r. and_indices (index_read r) (indices_left s c.args.first n)) c.in-Err.ensures.reads

pub returns-then-index-eq0-clause-gives : goal.returns-then-index-eq0-clause-gives
returns-then-index-eq0-clause-gives c = λ n.
    let s = part_of c.args.segment.now in
    index_first s c.args.first n c.args.place ∙ ap (λ r. and_indices (index_read r) (indices_left s c.args.first n)) c.in-Ok.ensures.reads ∙
    ap (λ k. and_indices (index_read (Ok (k, c.in-Ok.next))) (indices_left s c.args.first n)) c.if-index-eq0.true

pub returns-else-index-eq0-clause-gives : goal.returns-else-index-eq0-clause-gives
returns-else-index-eq0-clause-gives c = λ n.
    let s = part_of c.args.segment.now in
    let some : (c.in-Ok.index == 0) ≡ false = grind (arith, nat_tests, c.if-index-eq0.false) in
    index_first s c.args.first n c.args.place ∙ ap (λ r. and_indices (index_read r) (indices_left s c.args.first n)) c.in-Ok.ensures.reads ∙
    ap (λ b. and_indices (if b then None else Some (c.in-Ok.index, c.in-Ok.next)) (indices_left s c.args.first n)) some
