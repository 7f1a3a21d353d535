use Rattle.std.proofs.Common.{ap, sym, ◌∙◌}
use Rattle.elf_image.specs.Elf.{Image}
use Rattle.personality.specs.Seen.{thrown_of}
use Rattle.place_verdicts.specs.Types.{thrown_asked}
use Rattle.place_verdicts.specs.Image.{IsRead}
use Rattle.place_verdicts.proofs.at.at_image.Goals as goal

pub returns : goal.returns
returns c =
    let read = c.in-Ok.ensures in
    let is : IsRead c.in-Ok.image read.0 = record { file = c.args.bytes.now; cleans = read.1; seen = read.2 } in
    let same = read.2.image in (
      read.0,
      read.1,
      thrown_of c.in-Some.thrown,
      ap (λ (i : Image). thrown_asked i.memory c.args.asked) (sym same) ∙ sym c.in-Some.ensures,
      c.in-Ok-text_of.ensures read.0 is,
    )
