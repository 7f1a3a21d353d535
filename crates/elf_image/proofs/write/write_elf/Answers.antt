use Rattle.std.proofs.Common.{rules, ◌≡◌, ◌<◌, ◌^◌, length, subst}
use Rattle.elf_image.specs.Written.{image_bytes}
use Rattle.elf_image.specs.CanWrite.{NumbersFit}
use Rattle.elf_image.specs.Stands.{contents_of}
use Rattle.elf_image.proofs.ImageWritten.{IsSpread, spread_of, writes_image, writes_to_run}
use Rattle.elf_image.proofs.BehindWritten.{stand_behind}
use Rattle.elf_image.proofs.write.write_elf.Goals as goal

fit : (c : goal.In_ok-put_segments) → NumbersFit (contents_of c.args.parts.now)
fit c = search rules

spread : (c : goal.In_ok-put_segments) → IsSpread (contents_of c.args.parts.now).memory
spread c = let segments = c.args.parts.now.segments in spread_of segments.parts.items segments.apart segments.in_range

short : (c : goal.In_ok-put_segments) → length (image_bytes (contents_of c.args.parts.now)) < 2 ^ 64
unfolding image_bytes
short c =
    let whole : c.put_segments.new.out.items ≡ image_bytes (contents_of c.args.parts.now) = search rules in
    let small : length c.put_segments.new.out.items < 2 ^ 64 = search rules in
    subst (λ bytes. length bytes < 2 ^ 64) whole small

pub returns-clause-stands : goal.returns-clause-stands
returns-clause-stands c = writes_image (contents_of c.args.parts.now) (fit c) (spread c) (short c)

pub returns-clause-runs : goal.returns-clause-runs
returns-clause-runs c = writes_to_run (contents_of c.args.parts.now) (fit c) (spread c) (short c)

pub returns-clause-behind : goal.returns-clause-behind
returns-clause-behind c can = stand_behind (contents_of c.args.parts.now) (fit c) can (short c)
