use Rattle.std.proofs.Common.{rules, ◌≡◌, ◌+◌, ◌++◌, true, length, map, drop, sym, ◌∙◌, ap, arith}
use Rattle.std.specs.Int.{w32, to_le_bytes}
use Rattle.eh_bytes.specs.Listed.{listed_frame}
use Rattle.eh_write.specs.WrittenFrames.{fdes_bytes, frames_bytes}
use Rattle.image_forms.specs.Tables.{with_tables}
use Rattle.image_link.proofs.Bounds.{frames_length}
use Rattle.image_link.proofs.Entries.{entries_behind}
use Rattle.image_link.proofs.frames.frames_at.Goals as goal

pub split_at-requires : goal.split_at-requires
split_at-requires c =
    let frames = map listed_frame c.args.frames.now.fdes.items in
    let bytes : c.as_slice.result.now ≡ frames_bytes (with_tables frames) c.args.address = search rules in
    omega (arith, ap length bytes, frames_length frames c.args.address)

pub rows_from-requires-clause-bytes : goal.rows_from-requires-clause-bytes
rows_from-requires-clause-bytes c =
    let frames = map listed_frame c.args.frames.now.fdes.items in
    let bytes : c.as_slice.result.now ≡ frames_bytes (with_tables frames) c.args.address = search rules in
    let first : c.in_ok-first.first ≡ c.args.address + 24 = search rules in
    let listed : map listed_frame c.as_slice-2.result.now ≡ frames = ap (map listed_frame) c.as_slice-2.ensures.value in
    c.split_at.ensures.back ∙ (ap (drop 24) bytes ∙ (entries_behind frames c.args.address
    ∙ (ap (λ n. fdes_bytes true c.args.address n frames ++ to_le_bytes w32 0) (sym first)
    ∙ ap (λ fs. fdes_bytes true c.args.address c.in_ok-first.first fs ++ to_le_bytes w32 0) (sym listed))))
