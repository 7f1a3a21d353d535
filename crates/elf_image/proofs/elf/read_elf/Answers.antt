use Rattle.std.proofs.Common.{rules, ◌≡◌, ◌++◌, [], subst, sym, length}
use Rattle.std.specs.Prelude.{None, Some}
use Rattle.table_forms.specs.Fault.{least}
use Rattle.table_forms.specs.Seen.{fault_of}
use Rattle.elf_image.specs.Header.{header_faults}
use Rattle.elf_image.specs.Programs.{headers_of, loaded}
use Rattle.elf_image.specs.Loads.{AreSound}
use Rattle.elf_image.specs.Elf.{segment_faults, faults_to_run, image_of}
use Rattle.elf_image.specs.Reads.{image_seen}
use Rattle.elf_image.proofs.Whole.{reports_header, reports_segments, gives_image, image_sound}
use Rattle.elf_image.proofs.elf.read_elf.Goals as goal

pub returns-in-Some : goal.returns-in-Some
returns-in-Some c = reports_header c.args.bytes.now c.args.run (fault_of c.in-Some.refusal) c.into.result c.in-Some.ensures c.into.ensures

pub returns-in-Some-all_refusal : goal.returns-in-Some-all_refusal
returns-in-Some-all_refusal c =
    let file = c.args.bytes.now in
    let whole : None ≡ least (header_faults file) = search rules in
    let read : Some (fault_of c.in-Some-all_refusal.refusal) ≡ least (segment_faults file (headers_of file) ++ faults_to_run c.args.run file (headers_of file)) = search rules in
    reports_segments file c.args.run (fault_of c.in-Some-all_refusal.refusal) c.into-in-Some-all_refusal.result whole read c.into-in-Some-all_refusal.ensures

pub image_of-requires-clause-sound : goal.image_of-requires-clause-sound
image_of-requires-clause-sound c =
    let file = c.args.bytes.now in
    let none : None ≡ least (segment_faults file (headers_of file) ++ faults_to_run c.args.run file (headers_of file)) = search rules in
    let these : c.as_slice-in-None-2.result.now ≡ loaded (headers_of file) = search rules in
    subst (AreSound (length file) 0 []) (sym these) (image_sound file c.args.run none)

pub returns : goal.returns
returns c =
    let file = c.args.bytes.now in
    let whole : None ≡ least (header_faults file) = search rules in
    let none : None ≡ least (segment_faults file (headers_of file) ++ faults_to_run c.args.run file (headers_of file)) = search rules in
    let is : image_seen c.in_ok-image_of-in-None.field-0 ≡ image_of file (headers_of file) = search rules in
    gives_image file c.args.run (image_seen c.in_ok-image_of-in-None.field-0) whole none is
