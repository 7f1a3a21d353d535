use Rattle.std.proofs.Common.{◌≡◌, Ok, Some, ap, sym, subst, ◌∙◌}
use Rattle.std.specs.Prelude.{option_map}
use Rattle.eh_bytes.specs.Memory.{Memory, memory_of}
use Rattle.table_forms.specs.declared.found.Row.{Row}
use Rattle.table_forms.specs.Fde.{is_in, fde_for, row_at}
use Rattle.table_forms.specs.Frames as forms
use Rattle.frame_read.specs.declared.listed.Fde as shown
use Rattle.frame_read.specs.Listed.{fde_listed}
use Rattle.frame_read.specs.ReadsFrames.{ReadsFrames}
use Rattle.frame_read.proofs.Members.{find_in, in_contains}
use Rattle.frame_walk.specs.Outward.{tables_of, with_row}
use Rattle.frame_walk.proofs.Tables.{tables_same, none_there, one_there}
use Rattle.frame_walk.proofs.outward.row_for.Goals as goal

pub row_at-requires-clause-read : goal.row_at-requires-clause-read
row_at-requires-clause-read c =
    let same : tables_of c.args.machine.now ≡ memory_of c.tables.result.now = tables_same c.args.machine.now c.tables.result.now c.tables.ensures in
    (c.requires.0, subst (λ (m : Memory). ReadsFrames (Ok c.args.frames.now) (forms.frames m c.requires.0)) same c.requires.1)

pub returns-in-None : goal.returns-in-None
returns-in-None c = λ header read reads lists.
    let none = none_there (fde_for read.fdes c.place-place.result) (c.in-None.ensures.frame (tables_of c.args.machine.now) header read reads lists) in
    sym (ap (λ p. option_map (with_row c.args.frame.now) (fde_for read.fdes p)) (sym c.place-place.ensures) ∙ ap (option_map (with_row c.args.frame.now)) none)

pub returns-in-Some : goal.returns-in-Some
returns-in-Some c = λ header read reads lists.
    let m = c.args.machine.now in let fr = c.args.frame.now in let place = c.place-place.result in
    let same : tables_of m ≡ memory_of c.tables.result.now = tables_same c.args.machine.now c.tables.result.now c.tables.ensures in
    let there = one_there (fde_for read.fdes place) c.in-Some.fde (c.in-Some.ensures.frame (tables_of m) header read reads lists) in
    let f = there.0 in
    let stands = find_in (λ g. is_in g.region place) read.fdes f there.1 in
    let row = c.row_at.ensures f (record {
      header = header;
      read = read;
      reads = subst (λ (t : Memory). forms.frames t header ≡ Ok read) same reads;
      lists = lists;
      stands = in_contains read.fdes f stands.0;
      listed = there.2;
      inside = stands.1;
    }) in
    ap (λ (g : shown.Fde). Some (g, c.row_at.result)) there.2 ∙ ap (λ (r : Row). Some (fde_listed f, r)) row ∙
    ap (λ p. Some (fde_listed f, row_at f p)) c.place-place.ensures ∙
    sym (ap (λ p. option_map (with_row fr) (fde_for read.fdes p)) (sym c.place-place.ensures) ∙ ap (option_map (with_row fr)) there.1)
