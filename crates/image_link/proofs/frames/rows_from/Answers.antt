use Rattle.std.proofs.Common.{rules, ◌≡◌, ◌+◌, ◌<◌, ◌^◌, true, ◌∷◌, ◌++◌, length, map, sym, ◌∙◌, ap, subst}
use Rattle.std.specs.Int.{w32, to_le_bytes}
use Rattle.eh_bytes.specs.Listed.{listed_frame}
use Rattle.eh_write.specs.WrittenFrames.{fdes_bytes}
use Rattle.image_forms.specs.Tables.{rows_from}
use Rattle.image_link.proofs.Entries.{turned}
use Rattle.image_link.proofs.frames.rows_from.Goals as goal

pub split_at-requires : goal.split_at-requires
split_at-requires c =
    let f = listed_frame c.in-Some.fde.now in
    let fs = map listed_frame c.in-Some.others.now in
    let shape : c.fdes.rest.now ≡ c.in-Some.fde.now ∷ c.in-Some.others.now = search rules in
    let now = ap (map listed_frame) shape in
    (turned c.args.cie c.args.place c.fdes.place_at c.entry_size-size.result (map listed_frame c.args.fdes.now) fs f c.fdes.rows.items c.fdes.left.now
    (c.fdes.invariant.0 ∙ ap (λ xs. c.fdes.rows.items ++ rows_from c.args.cie c.fdes.place_at xs) now)
    (c.fdes.invariant.1 ∙ ap (λ xs. fdes_bytes true c.args.cie c.fdes.place_at xs ++ to_le_bytes w32 0) now)
    c.fdes.invariant.2 c.entry_size-size.ensures).inside

pub fdes-preserved : goal.fdes-preserved
fdes-preserved c =
    let f = listed_frame c.in-Some.fde.now in
    let fs = map listed_frame c.in-Some.others.now in
    let shape : c.fdes.rest.now ≡ c.in-Some.fde.now ∷ c.in-Some.others.now = search rules in
    let now = ap (map listed_frame) shape in
    let turn = turned c.args.cie c.args.place c.fdes.place_at c.entry_size-size.result (map listed_frame c.args.fdes.now) fs f c.fdes.rows.items c.fdes.left.now
    (c.fdes.invariant.0 ∙ ap (λ xs. c.fdes.rows.items ++ rows_from c.args.cie c.fdes.place_at xs) now)
    (c.fdes.invariant.1 ∙ ap (λ xs. fdes_bytes true c.args.cie c.fdes.place_at xs ++ to_le_bytes w32 0) now)
    c.fdes.invariant.2 c.entry_size-size.ensures in
    let at : c.in_ok-place_at.place_at ≡ c.fdes.place_at + c.entry_size-size.result = search rules in
    let rows = turn.rows_then ∙ (ap (λ items. items ++ rows_from c.args.cie (c.fdes.place_at + c.entry_size-size.result) fs) (sym c.in_ok-push.ensures.items)
    ∙ ap (λ n. c.push.new.self.items ++ rows_from c.args.cie n fs) (sym at)) in (
      rows,
      c.split_at.ensures.back ∙ (turn.behind ∙ ap (λ n. fdes_bytes true c.args.cie n fs ++ to_le_bytes w32 0) (sym at)),
      subst (λ bytes. length bytes < 2 ^ 32) (sym c.split_at.ensures.back) turn.few,
    )
