use Rattle.std.proofs.Common.{◌≡◌, ◌-◌, suc, ◌++◌, ◌∷◌, [], ap, sym, ◌∙◌, arith}
use Rattle.eh_bytes.specs.Memory.{part_of}
use Rattle.table_forms.specs.Seen.{fault_of}
use Rattle.frame_read.specs.SeenHeader.{row_rest}
use Rattle.frame_read.proofs.Rows.{row_cut, row_more, row_none}
use Rattle.frame_read.proofs.header.rows_of.Goals as goal

pub returns-in-Err : goal.returns-in-Err
returns-in-Err c =
    let s = part_of c.args.segment.now in let xs = c.rows.rows.items in let start = c.args.start in let p = c.rows.place in
    let some : c.rows.left ≡ suc (c.rows.left - 1) = omega (arith, c.rows-test.true) in
    c.rows.invariant.1 ∙ ap (λ n. row_rest s start xs n p) some ∙ row_cut s start xs (c.rows.left - 1) p (fault_of c.in-Err.e) c.in-Err.ensures.reads

pub rows-preserved : goal.rows-preserved
rows-preserved c =
    let s = part_of c.args.segment.now in let xs = c.rows.rows.items in let start = c.args.start in let p = c.rows.place in
    let some : c.rows.left ≡ suc (c.rows.left - 1) = omega (arith, c.rows-test.true) in (
      c.in-Ok.ensures.inside,
      c.rows.invariant.1 ∙ ap (λ n. row_rest s start xs n p) some ∙ row_more s start xs (c.rows.left - 1) p c.in-Ok.row c.in-Ok.ensures.reads ∙
          ap (λ q. row_rest s start (xs ++ c.in-Ok.row ∷ []) (c.rows.left - 1) q) (sym c.in-Ok.ensures.next) ∙
          ap (λ ys. row_rest s start ys (c.rows.left - 1) c.in-Ok.next) (sym c.in_ok-push-in-Ok.ensures.items),
    )

pub returns : goal.returns
returns c =
    let s = part_of c.args.segment.now in let xs = c.rows.rows.items in
    let none : c.rows.left ≡ 0 = omega (arith, c.rows-test.false) in
    c.rows.invariant.1 ∙ ap (λ n. row_rest s c.args.start xs n c.rows.place) none ∙ row_none s c.args.start xs c.rows.place
