use Rattle.std.proofs.Common.{◌∙◌, sym, ap, Some, Option, [], ◌∷◌, ◌++◌, map}
use Rattle.run_items.specs.declared.item.Item.TheVariants as items
use Rattle.caught_stack.specs.declared.ended.Ended.{Ended}
use Rattle.cxa_runtime.specs.declared.effect.Effect.TheVariants.{Goes}
use Rattle.cxa_runtime.specs.Kept.{Kept, world_of}
use Rattle.cxa_runtime.specs.World.{World}
use Rattle.cxa_runtime.specs.Catch.{leaves, told}
use Rattle.cxa_runtime.specs.Turns.{after_cleanups}
use Rattle.cxa_runtime.proofs.Modules.{told_cleanups}
use Rattle.cxa_runtime.proofs.runtime.Runtime.end_object.Goals as goal

pub returns-in-Last-clause-made : goal.returns-in-Last-clause-made
returns-in-Last-clause-made g c = λ input replies.
    let o = c.args.object.now in
    let w = world_of c.args.self.now input replies in
    let stands = c.show.ensures ∙ ap (λ (k : Kept). record k { shown = k.shown ++ items.Leave o.header.number ∷ [] }) c.leave.ensures.rest in
    ap (λ (x : World). (Goes, x)) (c.tell.ensures.told input replies)
    ∙ ap (λ (k : Kept). (Goes, told o o.header.kind (world_of k input replies))) stands
    ∙ ap (λ (r : Option Ended). leaves o w (r, c.leave.new.self.exceptions)) (sym (c.in-Some.is ∙ ap Some c.in-Last.is))
    ∙ ap (leaves o w) c.leave.ensures.left

pub returns-in-Last-clause-modules : goal.returns-in-Last-clause-modules
returns-in-Last-clause-modules g c =
    let o = c.args.object.now in
    let ms = map g.M.Module.view c.args.host.now.modules.items in
    let stands = c.show.ensures ∙ ap (λ (k : Kept). record k { shown = k.shown ++ items.Leave o.header.number ∷ [] }) c.leave.ensures.rest in
    let shown = ap (λ (k : Kept). k.shown) stands ∙ ap (λ s. s ++ items.Leave o.header.number ∷ []) c.requires.fresh.silent in
    c.tell.ensures.modules
    ∙ sym (ap (λ (x : World). after_cleanups x.shown ms) (c.tell.ensures.told [] []) ∙ told_cleanups o o.header.kind (world_of c.show.new.self [] []) ms o.header.number shown)
