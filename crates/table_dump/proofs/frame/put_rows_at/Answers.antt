use Rattle.std.proofs.Common.{rules, ◌≡◌, ◌++◌, ◌∷◌, List, ℕ, sym, subst}
use Rattle.table_forms.specs.declared.found.Row.{Row}
use Rattle.frame_read.specs.RowWalk.{HoldsUntil, IsWalk}
use Rattle.table_dump.specs.Rows.{rows_text}
use Rattle.table_dump.proofs.Locations.{Printed, none_printed, row_turn}
use Rattle.table_dump.proofs.frame.put_rows_at.Goals as goal

pub locations-init : goal.locations-init
locations-init c = λ f are.
    subst (λ (ls : List ℕ). Printed f (c.args.out.now.items ++ rows_text f) c.args.out.now.items c.args.rows.walk ls) (sym c.as_slice-rest.ensures.value) (none_printed f c.args.out.now.items c.args.rows are)

pub goes_to-requires : goal.goes_to-requires
goes_to-requires c =
    let f = c.requires.0 in
    let pc = c.in-Some.pc.now in let others = c.in-Some.others.now in
    let split : c.locations.rest.now ≡ pc ∷ others = search rules in
    let p = subst (λ (ls : List ℕ). Printed f (c.args.out.now.items ++ rows_text f) c.locations.out.items c.locations.walk ls) split (c.locations.invariant f c.requires.1) in
    (f, p.from, p.walk, p.rising.0)

pub locations-preserved : goal.locations-preserved
locations-preserved c = λ f are.
    let all = c.args.out.now.items ++ rows_text f in
    let pc = c.in-Some.pc.now in let others = c.in-Some.others.now in
    let split : c.locations.rest.now ≡ pc ∷ others = search rules in
    let p = subst (λ (ls : List ℕ). Printed f all c.locations.out.items c.locations.walk ls) split (c.locations.invariant f are) in
    row_turn f all c.locations.out.items c.put_row.new.out.items c.locations.walk c.goes_to.new.self pc others c.row.result c.goes_to.result p c.in_ok-put_row.ensures
    (λ now is before. subst (λ (r : Row). IsWalk c.goes_to.new.self f pc × HoldsUntil f pc r c.goes_to.result) (sym c.row.ensures) (c.goes_to.ensures f now is before))
