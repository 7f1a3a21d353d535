use Rattle.std.proofs.Common.{rules, ◌≡◌, ◌∙◌, ◌≤◌, ◌<◌, ◌+◌, length, subst, sym, ap, arith}
use Rattle.cxx_ast.specs.View.{checked_of}
use Rattle.region_ir.specs.Numbered.{numbers_in}
use Rattle.region_ir.proofs.Table.{NumberedTo, one_numbered, all_numbered}
use Rattle.region_ir.proofs.numbering.Numbering.new.Goals as goal

pub loop-class-preserved : goal.loop-class-preserved
loop-class-preserved c =
    let p = c.args.program.now in
    let table = c.loop-class.classes.items in
    let counted : length p.classes.items ≡ c.len.result = search (rules, c.len.ensures) in
    let inside : c.loop-class.class < length p.classes.items = omega (arith, c.loop-class-test.true, c.in_ok-count.ensures, counted) in
    subst (λ xs. NumberedTo (checked_of p) xs c.in_ok-first-2.first (c.loop-class.class + 1)) (sym c.in_ok-push.ensures.items)
    (one_numbered p table c.loop-class.first c.in_ok-first-2.first c.loop-class.class c.in_ok-numbers.numbers c.loop-class.invariant
    c.in_ok-numbers.ensures c.in_ok-first-2.ensures inside)

pub invariant_of-result : goal.invariant_of-result
invariant_of-result c =
    let p = c.args.program.now in
    let counted : length p.classes.items ≡ c.len.result = search (rules, c.len.ensures) in
    let same : c.in_ok-count.count ≡ c.loop-class.class = omega (arith, c.loop-class-test.false, c.loop-class.auto.class-end) in
    let over : length p.classes.items ≤ c.loop-class.class = omega (arith, same, c.in_ok-count.ensures, counted) in
    record {
      exact = all_numbered p c.loop-class.classes.items c.loop-class.first c.loop-class.class c.in_ok-beyond.beyond c.loop-class.invariant over
          (c.in_ok-beyond.ensures ∙ ap (numbers_in (checked_of p)) same);
    }
