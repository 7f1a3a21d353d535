use Rattle.std.proofs.Common.{◌≡◌, ◌∙◌, sym, ap, subst, List, [], map, true}
use Rattle.eh_outer.specs.Module.{ModuleView}
use Rattle.cxa_runtime.specs.World.{Outcome}
use Rattle.cxa_runtime.specs.Call.{is_alone}
use Rattle.cxa_runtime.specs.Kept.{image_of, replies_of, world_of}
use Rattle.cxa_runtime.specs.Turns.{apart_from_replies}
use Rattle.cxa_runtime.proofs.Quiet.{EndsQuiet, quiet_alone, quiet_module, quiet_read_byte, cleaned_replies, used_apart, alone_else}
use Rattle.cxa_runtime.proofs.runtime.Runtime.call.Goals as goal

pub returns-in-ReadByte-clause-modules : goal.returns-in-ReadByte-clause-modules
returns-in-ReadByte-clause-modules g c = λ t.
    let ms = map g.M.Module.view c.args.host.now.modules.items in
    let w = world_of c.args.self.now c.args.input.now [] in
    let quiet = subst (λ (o : Outcome). EndsQuiet o) (sym (c.read_byte.ensures.made [])) (quiet_read_byte w c.requires.silent) in
    ap apart_from_replies (sym (quiet ms))

pub returns-in-EndCatch-clause-made : goal.returns-in-EndCatch-clause-made
returns-in-EndCatch-clause-made g c = (
  0,
  λ t. rw c.in-EndCatch.is (
      let ms = map g.M.Module.view c.args.host.now.modules.items in
      let new = c.end_catch.new.self in
      let input = c.args.input.now in
      ap (λ (x : List ModuleView). (c.end_catch.result, world_of new input (replies_of x))) c.end_catch.ensures.modules
      ∙ ap (λ r. (c.end_catch.result, world_of new input r)) (cleaned_replies new.shown ms)
      ∙ c.end_catch.ensures.made input (replies_of ms)),
)

pub returns-in-Module-clause-modules : goal.returns-in-Module-clause-modules
returns-in-Module-clause-modules g c = λ t.
    let ms = map g.M.Module.view c.args.host.now.modules.items in
    let old = c.args.self.now in
    let made = c.call_module.ensures.made in
    let modules = c.call_module.ensures.modules in
    let quiet = subst (λ (o : Outcome). EndsQuiet o) (sym (made.1 t [])) (quiet_module (image_of t.read.fdes old) made.0 (world_of old [] (replies_of ms)) c.requires.silent) in
    ap apart_from_replies modules.1 ∙ used_apart ms modules.0 ∙ ap apart_from_replies (sym (quiet ms))

pub returns-in_default : goal.returns-in_default
returns-in_default g c =
    let ms = map g.M.Module.view c.args.host.now.modules.items in
    let old = c.args.self.now in
    let alone : is_alone c.args.call ≡ true = alone_else c.args.call c.in_default.not-ReadByte c.in_default.not-EndCatch c.in_default.not-Module in
    let made = c.call_alone.ensures.made alone in
    record {
      made = (made.0, λ t. made.1 t c.args.input.now (replies_of ms));
      stays = c.call_alone.ensures.stays;
      modules = λ t.
          let quiet = subst (λ (o : Outcome). EndsQuiet o) (sym (made.1 t [] [])) (quiet_alone c.args.call (image_of t.read.fdes old) made.0 (world_of old [] []) alone c.requires.silent) in
          ap apart_from_replies (sym (quiet ms));
    }
