use Rattle.std.proofs.Common.{rules, ◌≡◌, ◌+◌, ◌-◌, ◌%◌, ◌++◌, length, map, ◌∙◌, ap}
use Rattle.std.specs.Prelude.{replicate}
use Rattle.eh_bytes.specs.Listed.{listed_function, listed_frame, listed_unit}
use Rattle.machine_forms.specs.Emitted.{emitted_stubs}
use Rattle.image_forms.specs.Records.{names_bytes}
use Rattle.image_link.proofs.Lists.{lists_stand}
use Rattle.image_link.proofs.Whole.{Puts, begins, put_whole, constants_whole}
use Rattle.image_link.proofs.image.constants_of.Goals as goal

pub returns : goal.returns
returns c =
    let u = listed_unit c.args.unit.now in
    let laid = c.requires.laid in
    let named = c.put_names.new.out.items in
    let count : c.len-size.result ≡ length named = search rules in
    let stubs : map listed_function c.as_slice-2.result.now ≡ emitted_stubs.functions
    = ap (map listed_function) c.as_slice-2.ensures.value ∙ ap (λ s. s.functions) c.requires.stubs in
    let own : map listed_function c.as_slice-3.result.now ≡ u.functions = ap (map listed_function) c.as_slice-3.ensures.value in
    let puts : Puts u named c.fill.new.out.items c.put_tables.new.out.items c.put_tables-2.new.out.items
    (map listed_frame c.put_tables.new.fdes.items) (map listed_frame c.put_tables-2.new.fdes.items)
    = record {
      names = c.in_ok-put_names.ensures ∙ (ap (λ b. b ++ names_bytes c.as_slice.result.now) c.new-bytes.ensures.items ∙ ap names_bytes c.as_slice.ensures.value);
      fill = c.in_ok-fill.ensures ∙ ap (λ n. named ++ replicate ((4 - n % 4) % 4) 0) count;
      stubs = rw (laid.code, laid.names, stubs) at c.in_ok-put_tables.ensures.bytes;
      stub_frames = rw (laid.code, laid.names, stubs, c.new-fdes.ensures.items) at c.in_ok-put_tables.ensures.frames;
      own = rw (laid.code, laid.unit, laid.names, own) at c.in_ok-put_tables-2.ensures.bytes;
      own_frames = rw (laid.code, laid.unit, laid.names, own) at c.in_ok-put_tables-2.ensures.frames;
    } in
    let put = put_whole u named c.fill.new.out.items c.put_tables.new.out.items c.put_tables-2.new.out.items
    (map listed_frame c.put_tables.new.fdes.items) (map listed_frame c.put_tables-2.new.fdes.items) puts in
    let second = c.put_tables-2.new.out.items in
    let after = map listed_frame c.put_tables-2.new.fdes.items in
    let whole = constants_whole u second after c.put_frames.new.out.items c.in_ok-header.header put
    (rw laid.names at c.in_ok-header.ensures.header) (rw laid.names at c.in_ok-header.ensures.bytes) in
    record {
      tables_place = c.in_ok-tables.ensures ∙ ap (λ a. a + length c.fill.new.out.items) laid.names ∙ (begins u named c.fill.new.out.items c.put_tables.new.out.items second (map listed_frame c.put_tables.new.fdes.items) after puts).start;
      frames_place = c.in_ok-frames.ensures ∙ ap (λ a. a + length second) laid.names ∙ put.end;
      place = whole.0;
      content = whole.1;
      stand = lists_stand u named c.fill.new.out.items c.put_tables.new.out.items second (map listed_frame c.put_tables.new.fdes.items) after c.in_ok-header.header puts whole.0
          (rw (laid.code, laid.names, stubs) at c.in_ok-put_tables.ensures.stand)
          (rw (laid.code, laid.unit, laid.names, own) at c.in_ok-put_tables-2.ensures.stand)
          (rw laid.names at c.in_ok-header.ensures.frames) (rw laid.names at c.in_ok-header.ensures.heads);
    }
