use Rattle.std.proofs.Common.{◌∙◌, sym, ap, ap₂, map, take, List}
use Rattle.std.proofs.lemmas.List.{map_more}
use Rattle.clap.specs.Simple.{App, with_rule}
use Rattle.clap.specs.Walk.{Rule, rule_of}
use Rattle.command_line.specs.Matches.{app_with, option_rule, rule_of_setting}
use Rattle.command_line.proofs.matches.app_of_options.Goals as goal

pub loop-setting-preserved : goal.loop-setting-preserved
loop-setting-preserved c =
    let settings = c.args.settings.now in
    let i = c.loop-setting.setting-index in
    let rule_is = c.option_arg.ensures.rule ∙ ap₂ option_rule c.name.ensures c.value_count.ensures in
    let so_far = map rule_of_setting (take i settings) in
    c.in_ok-app.ensures.shape c.option_arg.ensures.local
    ∙ (ap (λ (a : App). with_rule a (rule_of c.option_arg.result)) c.loop-setting.invariant
    ∙ (ap (λ (r : Rule). with_rule (app_with so_far) r) rule_is
    ∙ sym (ap (λ (rs : List Rule). app_with rs) (map_more rule_of_setting settings i _ c.loop-setting-test.true))))
