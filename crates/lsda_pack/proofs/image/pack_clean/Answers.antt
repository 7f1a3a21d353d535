use Rattle.std.proofs.Common.{◌∙◌, ap, sym, subst, length, []}
use Rattle.std.specs.Prelude.{option_map}
use Rattle.eh_bytes.specs.Memory.{memory_of}
use Rattle.table_forms.specs.Fault.{least}
use Rattle.table_forms.specs.Seen.{fault_of}
use Rattle.elf_image.specs.Programs.{loaded}
use Rattle.lsda_pack.specs.Counted.{packing_seen}
use Rattle.lsda_pack.specs.Placed.{tables_placed}
use Rattle.lsda_pack.specs.Placings.{AreFunctions}
use Rattle.lsda_pack.specs.SharedFile.{file_faults}
use Rattle.lsda_pack.proofs.CleanParts.{clean_parts}
use Rattle.lsda_pack.proofs.Counts.{counts_are, have_room}
use Rattle.lsda_pack.proofs.ImagePacked.{file_shared, table_shared, all_packed, functions_seen, placings_seen, shared_seen}
use Rattle.lsda_pack.proofs.image.pack_clean.Goals as goal

pub returns-in-Some : goal.returns-in-Some
returns-in-Some c =
    let file = c.args.bytes.now in
    let loads = c.as_slice-2.ensures.value ∙ c.in_ok-loads.ensures.loaded ∙ ap loaded (c.as_slice.ensures.value ∙ c.in_ok-headers.ensures.headers) in
    let first = sym (ap (option_map fault_of) c.in-Some.is) ∙ c.in_ok-refusal.ensures ∙ ap (λ hs. least (file_faults [] hs)) loads in
    file_shared file c.requires.0 c.into.result (fault_of c.in-Some.refusal) c.requires.1 first c.into.ensures

pub place_all-requires : goal.place_all-requires
place_all-requires c =
    let i = c.requires.0 in
    let image = c.args.image.now in
    (i.functions, subst (λ fs. AreFunctions (memory_of image.elf.segments) fs i.functions) (sym c.as_slice-4.ensures.value) (functions_seen c.args.bytes.now image i c.requires.1 c.requires.2))

pub returns-in-Some-2 : goal.returns-in-Some-2
returns-in-Some-2 c =
    let file = c.args.bytes.now in
    let image = c.args.image.now in
    let i = c.requires.0 in
    let headers = c.in_ok-headers.ensures.headers in
    let loads = c.in_ok-loads.ensures.loaded ∙ ap loaded (c.as_slice.ensures.value ∙ headers) in
    let apart = sym (ap (option_map fault_of) c.in_default.is) ∙ c.in_ok-refusal.ensures ∙ ap (λ hs. least (file_faults [] hs)) (c.as_slice-2.ensures.value ∙ loads) in
    let are = placings_seen file image i c.as_slice-3.result.now c.as_slice-4.result.now c.in_ok-placings.placings.items c.as_slice-placings.result.now c.requires.1 c.requires.2
    (c.as_slice-3.ensures.value ∙ loads) c.as_slice-4.ensures.value c.as_slice-placings.ensures.value c.in_ok-placings.ensures in
    let shared = shared_seen file image i c.as_slice-placings.result.now c.as_slice-5.result.now (option_map fault_of c.in_ok-refusal-2.field-0) c.requires.1 c.requires.2 are
    (c.as_slice-5.ensures.value ∙ headers) c.in_ok-refusal-2.ensures in
    table_shared file i c.into-in-Some-2.result (fault_of c.in-Some-2.refusal) c.requires.1 apart (sym (ap (option_map fault_of) c.in-Some-2.is) ∙ shared) c.into-in-Some-2.ensures

pub packed_file-requires : goal.packed_file-requires
packed_file-requires c =
    let file = c.args.bytes.now in
    let image = c.args.image.now in
    let i = c.requires.0 in
    let loads = c.in_ok-loads.ensures.loaded ∙ ap loaded (c.as_slice.ensures.value ∙ c.in_ok-headers.ensures.headers) in
    let are = placings_seen file image i c.as_slice-3.result.now c.as_slice-4.result.now c.in_ok-placings.placings.items c.as_slice-placings.result.now c.requires.1 c.requires.2
    (c.as_slice-3.ensures.value ∙ loads) c.as_slice-4.ensures.value c.as_slice-placings.ensures.value c.in_ok-placings.ensures in
    have_room (memory_of image.elf.segments) (length file) c.as_slice-placings.result.now (tables_placed file i) are (clean_parts file i c.requires.1).fits

pub returns : goal.returns
returns c =
    let file = c.args.bytes.now in
    let image = c.args.image.now in
    let i = c.requires.0 in
    let headers = c.in_ok-headers.ensures.headers in
    let loads = c.in_ok-loads.ensures.loaded ∙ ap loaded (c.as_slice.ensures.value ∙ headers) in
    let apart = sym (ap (option_map fault_of) c.in_default.is) ∙ c.in_ok-refusal.ensures ∙ ap (λ hs. least (file_faults [] hs)) (c.as_slice-2.ensures.value ∙ loads) in
    let are = placings_seen file image i c.as_slice-3.result.now c.as_slice-4.result.now c.in_ok-placings.placings.items c.as_slice-placings.result.now c.requires.1 c.requires.2
    (c.as_slice-3.ensures.value ∙ loads) c.as_slice-4.ensures.value c.as_slice-placings.ensures.value c.in_ok-placings.ensures in
    let shared = shared_seen file image i c.as_slice-placings.result.now c.as_slice-5.result.now (option_map fault_of c.in_ok-refusal-2.field-0) c.requires.1 c.requires.2 are
    (c.as_slice-5.ensures.value ∙ headers) c.in_ok-refusal-2.ensures in
    let alone = sym (ap (option_map fault_of) c.in_default-2.is) ∙ shared in
    let counted = c.in_ok-packed_file.ensures ∙ counts_are (memory_of image.elf.segments) file c.as_slice-placings.result.now (tables_placed file i) are in
    all_packed file i (packing_seen c.in_ok-packed_file.field-0) c.requires.1 apart alone counted
