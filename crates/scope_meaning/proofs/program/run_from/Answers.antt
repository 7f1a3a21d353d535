use Rattle.std.proofs.Common.{◌∙◌, map, ap, refl, sym}
use Rattle.cxx_ast.specs.View.{checked_of}
use Rattle.scope_world.specs.Objects.{part_of}
use Rattle.scope_world.specs.Seen.{live_of}
use Rattle.scope_meaning.specs.Modules.{cleaned_by, kept_of, rests_of}
use Rattle.scope_meaning.proofs.Ran.{first_so, ran_so, untouched}
use Rattle.scope_meaning.proofs.program.run_from.Goals as goal

pub returns : goal.returns
returns g c = λ objects.
    let p = checked_of c.args.program.now in
    let view = g.M.Module.view in
    let before = map view c.args.modules.items in
    let left = c.call-outcome.new.w in
    let after = map view left.outside.host.modules.items in
    let end = c.end_of-end.result in
    let hosted = ap (λ v. rests_of (map view v.items)) c.new-2.ensures in
    let first = first_so p (map part_of c.args.objects.items) c.args.input.items c.new-3.result.items (map live_of c.new.result.items) (rests_of (map view c.new-2.result.modules.items)) before c.args.turns objects c.new-3.ensures.items (ap (map live_of) c.new.ensures.items) hosted in
    let kept = left.outside.kept ∙ ap (λ views. map kept_of (cleaned_by left.outside.items.items views)) (sym c.requires) in
    let w = untouched (map part_of c.args.objects.items) c.args.input.items c.new-3.result.items (map live_of c.new.result.items) (rests_of (map view c.new-2.result.modules.items)) c.args.turns in
    let called = rw c.whole.ensures at c.call-outcome.ensures in
    rw c.into_parts-deepest.ensures (ran_so p c.args.input.items before after c.args.turns w _ c.call-outcome.result end first called c.end_of-end.ensures.known c.end_of-end.ensures.end refl kept)
