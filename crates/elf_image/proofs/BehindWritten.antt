-- What an image that is written names stands behind its header.
use Rattle.std.proofs.Common.{◌≡◌, ◌+◌, ◌<◌, ◌≤◌, ◌^◌, ℕ, [], ◌∷◌, ◌++◌, length, ap, sym, subst, ◌∙◌, arith}
use Rattle.std.specs.Prelude.{Option, Some, unwrap_or, flat_map}
use Rattle.std.specs.Int.{w64}
use Rattle.std.specs.List.{AllByRecursion}
use Rattle.eh_bytes.specs.Memory.{Memory}
use Rattle.elf_image.specs.declared.program.ProgramHeader.{ProgramHeader}
use Rattle.elf_image.specs.Numbers.{field}
use Rattle.elf_image.specs.Programs.{headers_of, loaded, runtime_header}
use Rattle.elf_image.specs.Laid.{Contents, padding, place_for, loads_from, behind_headers, headers_for}
use Rattle.elf_image.specs.Written.{program_bytes, record_bytes, image_bytes}
use Rattle.elf_image.specs.CanWrite.{NumbersFit, CanWriteImage}
use Rattle.elf_image.specs.Behind.{StandBehind}
use Rattle.elf_image.proofs.HeaderWritten.{offset_read}
use Rattle.elf_image.proofs.ImageHeaders.{loads_of, record_of, segments_of, begins, headers_are, loads_found, record_found}

loads_behind : (place from : ℕ) (memory : Memory) → 64 ≤ from → AllByRecursion (λ h. 64 ≤ h.offset) (loads_from place from memory)
loads_behind place from [] above = tt
loads_behind place from (part ∷ memory) above =
    let later : 64 ≤ place_for from part.address = omega (arith, above) in
    (later, loads_behind (place + 56) (place_for from part.address + length part.bytes) memory (omega (arith, later)))

some_same : (h k : ProgramHeader) → Some h ≡ Some k → h ≡ k
some_same h k e = cc

pub stand_behind : (c : Contents) → NumbersFit c → CanWriteImage c → length (image_bytes c) < 2 ^ 64 → StandBehind (image_bytes c)
stand_behind c fit can short =
    let file = image_bytes c in
    let hs = headers_for c in
    let are = headers_are c fit can short in
    let read : field w64 file 32 ≡ 64 = ap (λ o. unwrap_or o 0) (offset_read file c.entry (length hs) (flat_map program_bytes hs ++ (record_bytes c.runtime ++ segments_of c)) (begins c fit can)) in
    let loads : loaded (headers_of file) ≡ loads_of c = ap loaded are ∙ loads_found c in
    let found : runtime_header (headers_of file) ≡ Some (record_of c) = ap runtime_header are ∙ record_found c in
    record {
      headers = omega (arith, read);
      segments = subst (AllByRecursion (λ h. 64 ≤ h.offset)) (sym loads) (loads_behind 64 (behind_headers (length c.memory + 2) + 24) c.memory (omega arith));
      runtime = λ h is. subst (λ (k : ProgramHeader). 64 ≤ k.offset) (some_same (record_of c) h (sym found ∙ is)) (omega arith);
    }
