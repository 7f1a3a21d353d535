use Rattle.std.proofs.Common.{◌≡◌, map, drop}
use Rattle.std.specs.Prelude.{string_bytes}
use Rattle.command_line.specs.Address.{address_of}
use Rattle.command_line.specs.Script.{all_some}
use Rattle.command_line.proofs.Lists.{with_front}
use Rattle.command_line.proofs.address.places_of.Given as goal

-- the places so far and those of the texts that are left are those of all
abbrev pub invariant-loop-text : goal.invariant-loop-text
invariant-loop-text l =
    with_front l.places.items (all_some address_of (map string_bytes (drop l.text-index l.texts))) ≡ all_some address_of (map string_bytes l.texts)
