-- Calls by fuel, and the meaning of a whole program.
use Rattle.std.proofs.Common.{◌≡◌, ℕ, zero, suc, ℤ, List, [], sym, ap, ◌∙◌, subst, arith}
use Rattle.cxx_ast.specs.Plain.{Checked}
use Rattle.eh_outer.specs.declared.module.Reply.{Reply}
use Rattle.run_items.specs.declared.item.Item.{Item}
use Rattle.meaning_forms.specs.Context.{Context as SourceContext, no_context, with_travelling}
use Rattle.meaning_forms.specs.Expression.{types_of}
use Rattle.meaning_forms.specs.Meaning.{Meaning, MainOutcome, returned, stopped_by, end_of, after_main as source_after_main, first_world as source_first_world, program_meaning}
use Rattle.meaning_forms.specs.Outcome.{Result as SourceResult, done as source_done, stopped as source_stopped, thrown, cancelled, ended, undefined, out_of_turns, deep}
use Rattle.meaning_forms.specs.Running.{function}
use Rattle.meaning_forms.specs.World.{World as SourceWorld, nowhere}
use Rattle.region_forms.specs.Layout.{Layout}
use Rattle.region_forms.specs.Outcome.{State, Result, done}
use Rattle.region_forms.specs.Meaning.{after_main, first_world, no_frame}
use Rattle.linear_simulation.specs.Watched.{watched_call as call_with}
use Rattle.region_simulation.specs.Places.{Places}
use Rattle.region_simulation.specs.Alike.{SameSeen, Alike}
use Rattle.region_simulation.specs.First.{first_places}
use Rattle.region_simulation.specs.Calls.{SameArguments}
use Rattle.region_simulation.proofs.First.{first_stands}
use Rattle.region_statements.specs.Programs.{CallsDoAlike, MeansTheSame, ProgramsMeanTheSame}
use Rattle.region_statements.proofs.Fueled.{fuel_lasts}
use Rattle.region_statements.proofs.Looping.{seen}
use Rattle.region_statements.proofs.Returning.{SameValue}

pub calls_do_alike : CallsDoAlike
calls_do_alike p layout q limit step zero at callee this given words k c w s there stands passed = tt
calls_do_alike p layout q limit step (suc fuel) at callee this given words k c w s there stands passed =
    step fuel (calls_do_alike p layout q limit step fuel) callee there at this given words k c w s stands passed

-- what is seen at the end
abbrev seen_as : MainOutcome → List Item → ℕ → List (List Reply) → Meaning
seen_as m items deepest replies = record { items = items; end = end_of m; deepest = deepest; main = m; replies = replies }

module _ (l : Layout) (p : Checked) (at : Places) (c : SourceContext) (w : SourceWorld) (s : State) where
  ends_same : (m : MainOutcome) (w2 : SourceWorld) (s2 : State) → SameSeen w2 s2
      → seen_as m s2.world.items s2.world.deepest s2.world.replies ≡ seen_as m w2.items w2.deepest w2.replies
  ends_same m w2 s2 h =
      ap (λ z. seen_as m z s2.world.deepest s2.world.replies) h.items ∙ ap (λ z. seen_as m w2.items z s2.world.replies) h.deepest ∙
      ap (λ z. seen_as m w2.items w2.deepest z) h.replies

  means_same : (x : SourceResult ℤ) (y : Result ℤ) → Alike l p at 0 c w s SameValue x y → MeansTheSame (source_after_main x) (after_main y)
  means_same (source_done v w2) y (u, s2, e, (h, same)) =
      ap after_main e ∙ ap (λ z. after_main (done z s2)) (sym same) ∙ ends_same (returned v) w2 s2 (seen l p h.places c w2 s2 h.stands)
  means_same (source_stopped (thrown e) w2) y (s2, is, h) =
      ap after_main is ∙ ends_same (stopped_by (thrown e)) w2 s2 (seen l p h.places (with_travelling e c) w2 s2 h.stands)
  means_same (source_stopped (cancelled n) w2) y (s2, is, h) = ap after_main is ∙ ends_same (stopped_by (cancelled n)) w2 s2 (seen l p h.places c w2 s2 h.stands)
  means_same (source_stopped undefined w2) y h = tt
  means_same (source_stopped (ended x) w2) y (s2, is, h) = ap after_main is ∙ ends_same (stopped_by (ended x)) w2 s2 h
  means_same (source_stopped out_of_turns w2) y (s2, is, h) = ap after_main is ∙ ends_same (stopped_by out_of_turns) w2 s2 h
  means_same (source_stopped deep w2) y (s2, is, h) = ap after_main is ∙ ends_same (stopped_by deep) w2 s2 h

pub programs_mean_the_same : ProgramsMeanTheSame
programs_mean_the_same p layout q input replies turns limit globals main none same =
    let w = source_first_world p input replies turns in
    let s : State = record { frame = no_frame; world = first_world p.globals input replies; turns = turns } in
    subst (λ m. MeansTheSame (program_meaning p input replies turns limit) (after_main (call_with q limit (suc turns) m [] (record { guards = []; depth = 0 })
    (record { frame = no_frame; world = first_world q.globals input replies; turns = turns })))) (sym main)
    (subst (λ g. MeansTheSame (program_meaning p input replies turns limit) (after_main (call_with q limit (suc turns) p.main [] (record { guards = []; depth = 0 })
    (record { frame = no_frame; world = first_world g input replies; turns = turns })))) (sym globals)
    (subst (λ r. MeansTheSame (source_after_main r) (after_main (call_with q limit (suc turns) p.main [] (record { guards = []; depth = 0 }) s)))
    (fuel_lasts p limit (suc turns) (function p.main) nowhere [] no_context w (omega arith))
    (means_same layout p (first_places p) no_context w s _ _
    (same (first_places p) nowhere [] [] 0 no_context w s (first_stands layout p input replies turns)
    (subst (λ ps. SameArguments layout p (first_places p) (types_of ps) [] []) (sym none) tt)))))
