-- Where the code of an image ends.
use Rattle.std.proofs.Common.{arith, length-append}
use Rattle.machine_forms.specs.Emitted.{emitted_stubs}
use Rattle.image_link.proofs.Bounds.{types_length}
use Rattle.image_link.proofs.Images.{stub_words}
use Rattle.checked_units.specs.Images.{CodeIsLow}

pub code_is_low : CodeIsLow
code_is_low u can = omega (arith, can.room, can.source, types_length u.types, length-append emitted_stubs.code u.code, stub_words)
