-- The regions of a program, watched, mean what it means where that is defined.
use Rattle.std.proofs.Common.{◌≡◌, ◌⊎◌, inl, inr, ℕ, List, refl, sym, ap, ◌∙◌}
use Rattle.cxx_ast.specs.Checked.{IsChecked}
use Rattle.cxx_ast.specs.Plain.{Checked}
use Rattle.eh_outer.specs.declared.module.Reply.{Reply}
use Rattle.meaning_forms.specs.Meaning.{Meaning, MainOutcome, returned, stopped_by, program_meaning}
use Rattle.meaning_forms.specs.Outcome.{thrown, cancelled, ended, undefined, out_of_turns, deep}
use Rattle.region_forms.specs.Laws.{CaughtListFollows}
use Rattle.region_forms.specs.Layout.{layout_of}
use Rattle.region_forms.specs.LowerProgram.{regions_of}
use Rattle.region_forms.specs.Meaning.{regions_meaning}
use Rattle.linear_simulation.specs.ProgramRuns.{WatchedIsMeant}
use Rattle.linear_simulation.specs.Watched.{watched_meaning}
use Rattle.region_statements.specs.Programs.{MeansTheSameBy}
use Rattle.region_meaning.proofs.Sources.{checked_programs_mean_the_same}
use Rattle.linear_meaning.specs.Regions.{CheckedRegionsBreakNothing}

same_where_defined : (m other : Meaning) (x : MainOutcome) → MeansTheSameBy x m other → (x ≡ stopped_by undefined → ⊥) → other ≡ m
same_where_defined m other (returned v) h defined = h
same_where_defined m other (stopped_by (thrown e)) h defined = h
same_where_defined m other (stopped_by (cancelled n)) h defined = h
same_where_defined m other (stopped_by (ended e)) h defined = h
same_where_defined m other (stopped_by undefined) h defined = absurd (defined refl)
same_where_defined m other (stopped_by out_of_turns) h defined = h
same_where_defined m other (stopped_by deep) h defined = h

pub watched_means : CaughtListFollows → (p : Checked) → IsChecked p → (input : List ℕ) (replies : List (List Reply)) (turns limit : ℕ)
    → ((program_meaning p input replies turns limit).main ≡ stopped_by undefined → ⊥)
    → watched_meaning (regions_of p (layout_of p)) input replies turns limit ≡ program_meaning p input replies turns limit
watched_means laws p is_checked input replies turns limit defined =
    let m = program_meaning p input replies turns limit in
    same_where_defined m (watched_meaning (regions_of p (layout_of p)) input replies turns limit) m.main (checked_programs_mean_the_same laws p is_checked input replies turns limit) defined

pub regions_break_nothing : CaughtListFollows → WatchedIsMeant → CheckedRegionsBreakNothing
regions_break_nothing laws meant p is_checked input replies turns limit = record {
  watched = λ defined. watched_means laws p is_checked input replies turns limit defined;
  meant = λ defined shallow. go (watched_means laws p is_checked input replies turns limit defined) shallow (meant (regions_of p (layout_of p)) limit input replies turns);
}
  where
    go : watched_meaning (regions_of p (layout_of p)) input replies turns limit ≡ program_meaning p input replies turns limit
        → ((program_meaning p input replies turns limit).main ≡ stopped_by deep → ⊥)
        → ((watched_meaning (regions_of p (layout_of p)) input replies turns limit ≡ regions_meaning (regions_of p (layout_of p)) input replies turns limit) ⊎
        ((watched_meaning (regions_of p (layout_of p)) input replies turns limit).main ≡ stopped_by deep))
        → regions_meaning (regions_of p (layout_of p)) input replies turns limit ≡ program_meaning p input replies turns limit
    go same shallow (inl e) = sym e ∙ same
    go same shallow (inr e) = absurd (shallow (ap (λ (m : Meaning). m.main) (sym same) ∙ e))
