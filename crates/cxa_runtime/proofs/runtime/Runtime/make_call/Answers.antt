use Rattle.std.proofs.Common.{◌∙◌, sym, ap, map}
use Rattle.cxa_runtime.specs.Kept.{image_of, replies_of, world_of}
use Rattle.cxa_runtime.specs.Call.{numbered}
use Rattle.cxa_runtime.specs.Run.{called}
use Rattle.cxa_runtime.proofs.Stepping.{effect_none, effect_some}
use Rattle.cxa_runtime.proofs.runtime.Runtime.make_call.Goals as goal

pub returns-in-None-clause-turn : goal.returns-in-None-clause-turn
returns-in-None-clause-turn g c = (
  0,
  λ t.
      let old = c.args.self.now in
      let input = c.args.input.now in
      let left = replies_of (map g.M.Module.view c.args.host.now.modules.items) in
      let none = sym (ap numbered c.argument.ensures) ∙ sym c.numbered.ensures ∙ c.in-None.is in
      c.finish.ensures.turn input left ∙ ap (called c.args.place) (effect_none _ (image_of t.read.fdes old) 0 (world_of old input left) none),
)

pub returns-in-Some-clause-turn : goal.returns-in-Some-clause-turn
returns-in-Some-clause-turn g c =
    let made = c.call-effect.ensures.made in (
      made.0,
      λ t.
          let old = c.args.self.now in
          let input = c.args.input.now in
          let left = replies_of (map g.M.Module.view c.args.host.now.modules.items) in
          let after = replies_of (map g.M.Module.view c.call-effect.new.host.modules.items) in
          let some = sym (ap numbered c.argument.ensures) ∙ sym c.numbered.ensures ∙ c.in-Some.is in
          c.finish-in-Some.ensures.turn input after
          ∙ ap (called c.args.place) (made.1 t ∙ effect_some _ (image_of t.read.fdes old) made.0 (world_of old input left) c.in-Some.call some),
    )
