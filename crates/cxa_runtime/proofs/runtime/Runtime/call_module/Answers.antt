use Rattle.std.proofs.Common.{◌∙◌, ap, map, refl, ℕ, ◌%◌, ◌^◌, slice_get}
use Rattle.cxa_runtime.specs.declared.effect.Effect.TheVariants.{Goes}
use Rattle.cxa_runtime.specs.Kept.{Kept, image_of, replies_of, world_of}
use Rattle.cxa_runtime.specs.Foreign.{asked}
use Rattle.cxa_runtime.proofs.Modules.{module_missing, module_replied}
use Rattle.cxa_runtime.proofs.runtime.Runtime.call_module.Goals as goal

pub returns-in-Err-clause-made : goal.returns-in-Err-clause-made
returns-in-Err-clause-made g c = (
  0,
  λ t input.
      let old = c.args.self.now in
      let before = map g.M.Module.view c.args.host.now.modules.items in
      let after = map g.M.Module.view c.call.new.self.modules.items in
      let w = world_of old input (replies_of before) in
      let image = image_of t.read.fdes old in
      ap (λ (k : Kept). (Goes, world_of k input (replies_of after))) c.give.ensures
      ∙ module_missing image 0 before after (c.argument.result % 2 ^ 32) w refl (c.in-Err.ensures {u = tt}).reply c.call.ensures.after
      ∙ ap (λ (a : ℕ). asked image 0 w (a % 2 ^ 32) (slice_get (replies_of before) (a % 2 ^ 32))) c.argument.ensures,
)

pub returns-in-Ok-clause-made : goal.returns-in-Ok-clause-made
returns-in-Ok-clause-made g c =
    let made = c.follow.ensures.made in (
      made.0,
      λ t input.
          let old = c.args.self.now in
          let before = map g.M.Module.view c.args.host.now.modules.items in
          let after = map g.M.Module.view c.call.new.self.modules.items in
          let w = world_of old input (replies_of before) in
          let image = image_of t.read.fdes old in
          made.1 t input (replies_of after)
          ∙ module_replied image made.0 before after (c.argument.result % 2 ^ 32) c.in-Ok.reply w refl (c.in-Ok.ensures {u = tt}).reply c.call.ensures.after
          ∙ ap (λ (a : ℕ). asked image made.0 w (a % 2 ^ 32) (slice_get (replies_of before) (a % 2 ^ 32))) c.argument.ensures,
    )
