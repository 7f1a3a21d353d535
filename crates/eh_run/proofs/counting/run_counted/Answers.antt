use Rattle.std.proofs.Common.{◌≡◌, ◌∙◌, sym, ap, subst, map, arith}
use Rattle.std.specs.Prelude.{count_by}
use Rattle.run_items.specs.Line.{is_written}
use Rattle.cxa_runtime.specs.Items.{items_of}
use Rattle.eh_run.specs.Counts.{is_make}
use Rattle.eh_run.specs.Program.{Program}
use Rattle.eh_run.proofs.Tallied.{Counting, counting_first, counting_next, counting_ends, counting_stops}
use Rattle.eh_run.proofs.counting.run_counted.Goals as goal

pub loop-count-init : goal.loop-count-init
loop-count-init g c =
    let modules = map g.M.Module.view c.args.host.now.modules.items in
    let runtime = c.loaded.inside.runtime in
    subst (λ (p : Program). Counting p c.args.input.now modules 0 runtime modules 0 0) c.loaded.view_is (counting_first runtime c.loaded.inside.frame_header c.args.input.now modules c.loaded.invariant)

pub returns-in-Ended : goal.returns-in-Ended
returns-in-Ended g c =
    let t = c.in-Ended.ensures in
    let shown : c.take_step-turn.new.self.shown ≡ items_of c.items-first.result.0 c.items-first.result.1 = c.items-first.ensures in
    let lines : c.lines_among-lines.result ≡ count_by is_written c.take_step-turn.new.self.shown = c.lines_among-lines.ensures.value ∙ ap (count_by is_written) (sym shown) in
    let makes : c.makes_among-makes.result ≡ count_by is_make c.take_step-turn.new.self.shown = c.makes_among-makes.ensures.value ∙ ap (count_by is_make) (sym shown) in
    counting_ends c.args.loaded c.args.input.now (map g.M.Module.view c.args.host.now.modules.items) c.loop-count.count c.args.max c.loop-count.runtime c.take_step-turn.new.self (map g.M.Module.view c.loop-count.host.modules.items) (map g.M.Module.view c.take_step-turn.new.host.modules.items) c.loop-count.lines c.loop-count.makes c.lines_among-lines.result c.makes_among-makes.result c.steps_at.result c.in-Ended.end c.loop-count.invariant c.loop-count-test.true
    (record { step = t.step; stays = t.stays; lines_are = lines; makes_are = makes; few_lines = c.lines_among-lines.ensures.few; few_makes = c.makes_among-makes.ensures.few }) c.steps_at.ensures.steps

pub loop-count-preserved : goal.loop-count-preserved
loop-count-preserved g c =
    let t = c.in-On.ensures in
    let shown : c.take_step-turn.new.self.shown ≡ items_of c.items-first.result.0 c.items-first.result.1 = c.items-first.ensures in
    let lines : c.lines_among-lines.result ≡ count_by is_written c.take_step-turn.new.self.shown = c.lines_among-lines.ensures.value ∙ ap (count_by is_written) (sym shown) in
    let makes : c.makes_among-makes.result ≡ count_by is_make c.take_step-turn.new.self.shown = c.makes_among-makes.ensures.value ∙ ap (count_by is_make) (sym shown) in
    counting_next c.args.loaded c.args.input.now (map g.M.Module.view c.args.host.now.modules.items) c.loop-count.count c.loop-count.runtime c.take_step-turn.new.self (map g.M.Module.view c.loop-count.host.modules.items) (map g.M.Module.view c.take_step-turn.new.host.modules.items) c.loop-count.lines c.loop-count.makes c.lines_among-lines.result c.makes_among-makes.result c.loop-count.invariant
    (record { step = t.step; stays = t.stays; lines_are = lines; makes_are = makes; few_lines = c.lines_among-lines.ensures.few; few_makes = c.makes_among-makes.ensures.few })

pub returns : goal.returns
returns g c =
    let all : c.loop-count.count ≡ c.args.max = omega arith in
    counting_stops c.args.loaded c.args.input.now (map g.M.Module.view c.args.host.now.modules.items) c.loop-count.count c.args.max c.loop-count.runtime (map g.M.Module.view c.loop-count.host.modules.items) c.loop-count.lines c.loop-count.makes c.loop-count.invariant all
