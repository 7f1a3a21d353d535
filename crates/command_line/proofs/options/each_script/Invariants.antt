use Rattle.std.proofs.Common.{◌≡◌, length, map, drop}
use Rattle.std.specs.Prelude.{string_bytes}
use Rattle.command_line.specs.Script.{all_some, script_of}
use Rattle.command_line.proofs.Lists.{with_front}
use Rattle.command_line.proofs.options.each_script.Given as goal

-- the scripts so far and those of the texts that are left are those of all, and each text so far gave one
abbrev pub invariant-loop-text : goal.invariant-loop-text
invariant-loop-text l =
    (with_front (map (λ runs. runs.items) l.scripts.items) (all_some script_of (map string_bytes (drop l.text-index l.texts))) ≡ all_some script_of (map string_bytes l.texts))
    × (length l.scripts.items ≡ l.text-index)
