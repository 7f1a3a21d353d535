use Rattle.std.proofs.Common.{◌≡◌, ℕ, List, length, arith, subst, sym}
use Rattle.std.proofs.lemmas.Bool.Decides.{nat_tests}
use Rattle.eh_bytes.specs.Memory.{memory_of}
use Rattle.lsda_read.specs.Demands.{AreCode, IsRising}
use Rattle.lsda_read.proofs.Coded.{code_both, drop_rises}
use Rattle.lsda_read.proofs.Path.{nothing}
use Rattle.lsda_read.proofs.demands.are_code.Goals as goal

pub pads-init : goal.pads-init
pads-init c = λ rising. (rising, λ code. code)

pub pads-preserved : goal.pads-preserved
pads-preserved c = λ rising.
    let m = memory_of c.args.memory.now in let k = c.count_code-count.result in
    let was = c.pads.invariant rising in
    let P : List ℕ → Type 0 = λ xs. IsRising xs × (AreCode m c.args.start xs → AreCode m c.args.start c.args.pads.now) in
    subst P (sym c.split_at.ensures.back) (
      drop_rises k c.pads.rest.now was.0,
      λ back. was.1 (code_both m c.args.start k c.pads.rest.now (c.count_code-count.ensures.code was.0) back),
    )

pub returns : goal.returns
returns c = λ rising is.
    let none : length c.pads.rest.now ≡ 0 = grind (arith, nat_tests, c.is_empty.ensures, c.pads-test.false) in
    let P : List ℕ → Type 0 = λ xs. AreCode (memory_of c.args.memory.now) c.args.start xs in
    (c.pads.invariant rising).1 (subst P (sym (nothing c.pads.rest.now none)) tt)
