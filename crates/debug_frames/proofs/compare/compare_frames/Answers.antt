use Rattle.std.proofs.Common.{rules, ◌≡◌, Ok, Err, sym, subst, ap}
use Rattle.table_forms.specs.Frames.{frames}
use Rattle.elf_image.specs.Elf.{Image}
use Rattle.debug_frames.specs.DebugParts.{debug_frames}
use Rattle.debug_frames.specs.ReadsDebug.{ReadsDebug}
use Rattle.debug_frames.specs.SeenAgreement.{agreement_seen}
use Rattle.debug_frames.proofs.Compared.{image_reported, section_reported, debug_reported, compares}
use Rattle.debug_frames.proofs.compare.compare_frames.Goals as goal

pub returns-in_err-image : goal.returns-in_err-image
returns-in_err-image c = search (rules, image_reported)

pub returns-in_err-offset : goal.returns-in_err-offset
returns-in_err-offset c =
    let (image, is, seen) = c.in_ok-image.ensures in
    let told = section_reported c.args.bytes.now image c.in_err-offset.field-0.0 is c.in_err-offset.ensures.section in
    search (rules, told)

pub returns-in_err-debug : goal.returns-in_err-debug
returns-in_err-debug c =
    let (image, is, seen) = c.in_ok-image.ensures in
    let offset = c.in_ok-offset.offset in let e = c.in_err-debug.field-0.0 in
    let read = subst (λ bytes. ReadsDebug (Err e) (debug_frames bytes offset)) c.bytes_at-section.ensures c.in_err-debug.ensures in
    let told = debug_reported c.args.bytes.now image (offset, c.in_ok-offset.size) e is c.in_ok-offset.ensures.section read in
    search (rules, told)

pub returns : goal.returns
returns c =
    let (image, is, seen) = c.in_ok-image.ensures in
    let offset = c.in_ok-offset.offset in let debug = c.in_ok-debug.debug in
    let memory = ap (λ (i : Image). i.memory) seen.image in
    let read = subst (λ bytes. debug_frames bytes offset ≡ Ok debug) c.bytes_at-section.ensures c.in_ok-debug.ensures in
    compares c.args.bytes.now image (offset, c.in_ok-offset.size) debug c.in_ok-image.image.frames (agreement_seen c.in_ok-agree.field-0) is c.in_ok-offset.ensures.section read seen.frames_read
    (λ header frame_list reads lists. c.in_ok-agree.ensures header frame_list (subst (λ m. frames m header ≡ Ok frame_list) (sym memory) reads) lists)
