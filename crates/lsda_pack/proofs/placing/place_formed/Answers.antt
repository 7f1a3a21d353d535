use Rattle.std.proofs.Common.{◌+◌, ap, sym, map, ◌∙◌}
use Rattle.eh_bytes.specs.Memory.{memory_of, part_of}
use Rattle.lsda_pack.specs.Ends.{stop_of}
use Rattle.lsda_pack.specs.Reaches.{extent_taken}
use Rattle.lsda_pack.proofs.MayPackIs.{packed_by, end_by}
use Rattle.lsda_pack.proofs.PlacingTurns.{taken_at}
use Rattle.lsda_pack.proofs.WordsNamed.{words_are}
use Rattle.lsda_pack.proofs.placing.place_formed.Goals as goal

pub returns : goal.returns
returns c h is types =
    let m = memory_of c.args.memory.now in
    let part = part_of c.args.segment.now in
    let t = c.args.table.now in
    let bytes = c.as_slice-bytes.result.now in
    let indices = c.as_slice-types.result.now in
    let lists = c.as_slice-lists.result.now in
    let keys = c.in_ok-numbers.numbers.types.items in
    let stop = c.table_end.result in
    let same_bytes = c.as_slice-bytes.ensures.value in
    let same_lists = c.as_slice-lists.ensures.value ∙ c.in_ok-numbers.ensures.lists in
    let same_types = c.as_slice-types.ensures.value ∙ c.in_ok-numbers.ensures.types in
    let ends = c.table_end.ensures.end ∙ ap (λ ls. stop_of bytes c.args.at.actions_at c.args.at.base t.sites keys ls) (sym c.as_slice-lists.ensures.value) in
    let whole = c.requires.whole in
    record {
      taken = c.taken_from.ensures ∙
          ap (λ e. taken_at c.args.at.first (part.address + e) c.args.at.place c.args.at.file_end)
          (end_by part c.args.at.region h t c.args.at.actions_at c.args.at.base bytes keys lists stop same_bytes c.in_ok-numbers.ensures.types same_lists ends is whole);
      words = c.in_ok-words.ensures h.types types is.stands ∙ ap (map extent_taken) (words_are m part h.types t indices whole same_types);
      packed = c.in_ok-packed.ensures ∙
          packed_by c.args.at.first c.args.at.region c.args.at.place c.args.at.file_end part c.args.shape.now h t c.args.at.actions_at c.args.at.base
          bytes keys lists stop same_bytes c.in_ok-numbers.ensures.types same_lists ends is whole;
    }
