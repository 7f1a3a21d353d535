-- A run tells the program's meaning, and what it leaves of the modules.
use Rattle.std.proofs.Common.{◌≡◌, ◌∙◌, ℕ, ℤ, List, [], ◌∷◌, map, Option, Some, None, refl, ap, sym, subst, Ok, Err, Result as CodeResult}
use Rattle.std.specs.Prelude.{IfSome}
use Rattle.cxx_ast.specs.Plain.{Checked}
use Rattle.eh_outer.specs.declared.module.Reply.{Reply}
use Rattle.eh_outer.specs.Module.{ModuleView}
use Rattle.run_items.specs.declared.item.Item.{Item}
use Rattle.meaning_forms.specs.declared.ending.MeanEnd.{MeanEnd}
use Rattle.meaning_forms.specs.Part.{Part}
use Rattle.meaning_forms.specs.World.{World, Live, nowhere}
use Rattle.meaning_forms.specs.Context.{no_context}
use Rattle.meaning_forms.specs.Outcome.{Result, thrown, cancelled, ended, exit, aborted, undefined, out_of_turns, deep}
use Rattle.meaning_forms.specs.Running.{function}
use Rattle.meaning_forms.specs.Meaning.{MainOutcome, returned, stopped_by, after_main, first_world, global_object, meaning_of, program_meaning}
use Rattle.scope_world.specs.declared.object.Part.{Part as CodePart, Cell}
use Rattle.scope_world.specs.declared.outcome.Halt.{Halt}
use Rattle.scope_world.specs.declared.outcome.Halt.TheVariants.{Thrown, Cancelled, Exited, Aborted, Undefined, OutOfTurns, Deep, NoMemory}
use Rattle.scope_world.specs.Gives.{Gives, IsKnown}
use Rattle.scope_world.specs.Objects.{part_of}
use Rattle.scope_flow.specs.Always.{full_call}
use Rattle.scope_meaning.specs.Mean.{Ends, IsRun, meant}
use Rattle.scope_meaning.specs.Modules.{cleaned_by, kept_of, rests_of}

-- main's call with the fuel that it needs
main_called : (p : Checked) (input : List ℕ) (replies : List (List Reply)) (turns : ℕ)
    → after_main (full_call p (function p.main) nowhere [] no_context (first_world p input replies turns)) ≡ program_meaning p input replies turns 128
unfolding full_call
main_called p input replies turns = refl

-- what main's outcome and world tell
told : (before after : List ModuleView) (m : Result ℤ) (s : MainOutcome) (v : World) (e : MeanEnd) → after_main m ≡ meaning_of s v → e ≡ (after_main m).end → rests_of after ≡ v.replies → map kept_of after ≡ map kept_of (cleaned_by v.items before)
    → Ends (after_main m) before after e v.items v.deepest
told before after m s v e is end replies kept = record {
  items_are = ap (λ x. x.items) (sym is);
  end_is = end;
  deepest_is = ap (λ x. x.deepest) (sym is);
  replies = replies ∙ ap (λ x. x.replies) (sym is);
  kept = kept;
}

ends : (before after : List ModuleView) (m : Result ℤ) (outcome : CodeResult ℤ Halt) (v : World) (e : MeanEnd) → Gives m outcome v → IsKnown outcome → e ≡ (after_main m).end → rests_of after ≡ v.replies → map kept_of after ≡ map kept_of (cleaned_by v.items before)
    → Ends (after_main m) before after e v.items v.deepest
ends before after m (Ok n) v e g known end replies kept = told before after m (returned n) v e (ap after_main g) end replies kept
ends before after m (Err (Thrown n)) v e g known end replies kept = told before after m (stopped_by (thrown n)) v e (ap after_main g) end replies kept
ends before after m (Err (Cancelled n)) v e g known end replies kept = told before after m (stopped_by (cancelled n)) v e (ap after_main g) end replies kept
ends before after m (Err (Exited n)) v e g known end replies kept = told before after m (stopped_by (ended (exit n))) v e (ap after_main g) end replies kept
ends before after m (Err Aborted) v e g known end replies kept = told before after m (stopped_by (ended aborted)) v e (ap after_main g) end replies kept
ends before after m (Err Undefined) v e g known end replies kept = told before after m (stopped_by undefined) v e (ap after_main g) end replies kept
ends before after m (Err OutOfTurns) v e g known end replies kept = told before after m (stopped_by out_of_turns) v e (ap after_main g) end replies kept
ends before after m (Err Deep) v e g known end replies kept = told before after m (stopped_by deep) v e (ap after_main g) end replies kept
ends before after m (Err NoMemory) v e g known end replies kept = absurd known

by_end : (before after : List ModuleView) (m : Result ℤ) (outcome : CodeResult ℤ Halt) (v : World) (end : Option MeanEnd) → Gives m outcome v → IfSome end (λ e. IsKnown outcome) → IfSome end (λ e. e ≡ (after_main m).end)
    → rests_of after ≡ v.replies → map kept_of after ≡ map kept_of (cleaned_by v.items before) → IsRun (after_main m) before after end v.items v.deepest
by_end before after m outcome v None g known end replies kept = tt
by_end before after m outcome v (Some e) g known end replies kept = ends before after m outcome v e g known end replies kept

-- a run, from the world that it begins with, main's call and the end that is made of it
pub ran_so : (p : Checked) (input : List ℕ) (before after : List ModuleView) (turns : ℕ) (w v : World) (outcome : CodeResult ℤ Halt) (end : Option MeanEnd)
    → w ≡ first_world p input (rests_of before) turns → Gives (full_call p (function p.main) nowhere [] no_context w) outcome v
    → IfSome end (λ e. IsKnown outcome) → ((m : Result ℤ) (u : World) → Gives m outcome u → IfSome end (λ e. e ≡ (after_main m).end)) → rests_of after ≡ v.replies → map kept_of after ≡ map kept_of (cleaned_by v.items before)
    → IsRun (meant p input before turns) before after end v.items v.deepest
ran_so p input before after turns w v outcome end first g known told replies kept =
    let at = subst (λ x. Gives (full_call p (function p.main) nowhere [] no_context x) outcome v) first g in
    let m : Result ℤ = full_call p (function p.main) nowhere [] no_context (first_world p input (rests_of before) turns) in
    subst (λ x. IsRun x before after end v.items v.deepest) (main_called p input (rests_of before) turns)
    (by_end before after m outcome v end at known (told m v at) replies kept)

-- a world in which nothing was done yet
abbrev pub untouched : List Part → List ℕ → List Item → List Live → List (List Reply) → ℕ → World
untouched objects input items live replies turns = record {
  objects = objects;
  input = input;
  items = items;
  live = live;
  last_number = 0;
  replies = replies;
  installed = record { terminate_handler = None; unexpected_handler = None };
  turns = turns;
  open_calls = 0;
  deepest = 0;
}

-- the world that a run begins with
pub first_so : (p : Checked) (objects : List Part) (input : List ℕ) (items : List Item) (live : List Live) (replies : List (List Reply)) (before : List ModuleView) (turns : ℕ)
    → objects ≡ map global_object p.globals → items ≡ [] → live ≡ [] → replies ≡ rests_of before → untouched objects input items live replies turns ≡ first_world p input (rests_of before) turns
first_so p objects input items live replies before turns o i l r = rw (o, i, l, r) refl

-- the objects of the globals hold their first values
pub globals_so : (values : List ℤ) (objects : List CodePart) → objects ≡ map (λ v. Cell (Some v)) values → map part_of objects ≡ map global_object values
globals_so values objects e = rw e (each values)
  where
    each : (values : List ℤ) → map part_of (map (λ v. Cell (Some v)) values) ≡ map global_object values
    each [] = refl
    each (v ∷ values) = ap (λ rest. global_object v ∷ rest) (each values)
