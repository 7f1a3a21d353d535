use Rattle.std.proofs.Common.{◌≡◌, map, take}
use Rattle.clap.specs.Simple.{app_of}
use Rattle.command_line.specs.Matches.{app_with, rule_of_setting}
use Rattle.command_line.proofs.matches.app_of_options.Given as goal

abbrev pub invariant-loop-setting : goal.invariant-loop-setting
invariant-loop-setting l = app_of l.app ≡ app_with (map rule_of_setting (take l.setting-index l.settings))
