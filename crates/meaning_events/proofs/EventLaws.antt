-- The events of every meaning.
use Rattle.std.proofs.Common.{ℕ, suc, ◌<◌, ◌≤◌, ◌⊎◌, inl, inr, ℤ, [], refl, sym, subst, arith}
use Rattle.cxx_ast.specs.Plain.{Checked}
use Rattle.meaning_forms.specs.World.{nowhere}
use Rattle.meaning_forms.specs.Context.{no_context}
use Rattle.meaning_forms.specs.Outcome.{Result, done, stopped, thrown, cancelled, ended, undefined, out_of_turns, deep}
use Rattle.meaning_forms.specs.Running.{function}
use Rattle.meaning_forms.specs.Call.{call_with, running}
use Rattle.meaning_forms.specs.Meaning.{first_world, after_main}
use Rattle.meaning_events.specs.Events.{AreSettled}
use Rattle.meaning_events.specs.Fates.{Story, story, fate, IsOver, Tells}
use Rattle.meaning_events.specs.Settles.{Nobody, IsOwn, Settled, Settles}
use Rattle.meaning_events.specs.Laws.{EventsAreRight, EventLaws}
use Rattle.meaning_events.specs.Terminates.{AllBuildsSettle}
use Rattle.meaning_events.proofs.Live.{foreign_none}
use Rattle.meaning_events.proofs.Sparing.{none_is_over, before_or_since}
use Rattle.meaning_events.proofs.SettlingCalls.{calls_settle}
use Rattle.meaning_events.proofs.SettlingSpecifications.{bad_settles}
use Rattle.meaning_events.proofs.SettlingTrees.{operand_thrown_settles}

-- before the call of main nothing is told
abbrev beginning : Story
beginning = record { last = 0; live = []; items = [] }

begins : Tells [] beginning
begins = record { allowed = λ i x is. absurd (cc is); unused = λ e lt. refl; whole = λ e there. absurd (cc there); handlers = λ e. refl; tokens = λ k t. refl }

-- behind main each exception is over
all_over : (s : Story) → Settled [] Nobody beginning s Nobody → (e : ℕ) → IsOver (fate s e)
all_over s h e = go (before_or_since e 0)
  where
    by : Nobody e ⊎ IsOver (fate s e) → IsOver (fate s e)
    by (inl nobody) = absurd nobody
    by (inr over) = over

    first : e ≤ 0 → IsOwn Nobody beginning e → ⊥
    first le (inl nobody) = nobody
    first le (inr lt) = omega (arith, le, lt)

    go : (e ≤ 0) ⊎ (0 < e) → IsOver (fate s e)
    go (inl le) = subst IsOver (sym (h.spares.spared e (first le))) none_is_over
    go (inr lt) = by (h.spares.over e (inr lt))

all_settled : (s : Story) → Settled [] Nobody beginning s Nobody → AreSettled s.items
all_settled s h = record {
  left = λ e. (let x = h.tells.handlers e in omega (arith, x));
  freed = λ e. (all_over s h e).freed;
  cleaned = λ k t. (let x = h.tells.tokens k t in let none = foreign_none k t s.live (λ e. (all_over s h e).gone) in omega (arith, x, none));
}

main_right : (p : Checked) (x : Result ℤ) → Settles p [] [] Nobody beginning x → EventsAreRight (after_main x)
main_right p (done v w) h = record { allowed = h.tells.allowed; settled = λ out. all_settled (story w) h }
main_right p (stopped (thrown e) w) h = record { allowed = h.0.tells.allowed; settled = λ out. absurd (cc out) }
main_right p (stopped (cancelled n) w) h = record { allowed = h.tells.allowed; settled = λ out. all_settled (story w) h }
main_right p (stopped undefined w) h = record { allowed = h; settled = λ out. absurd (cc out) }
main_right p (stopped (ended x) w) h = record { allowed = h; settled = λ out. absurd (cc out) }
main_right p (stopped out_of_turns w) h = record { allowed = h; settled = λ out. absurd (cc out) }
main_right p (stopped deep w) h = record { allowed = h; settled = λ out. absurd (cc out) }

pub event_laws : EventLaws
event_laws p input replies turns limit =
    main_right p (call_with p limit (suc turns) (function p.main) nowhere [] no_context (first_world p input replies turns))
    (calls_settle p limit (suc turns) (function p.main) nowhere [] no_context (first_world p input replies turns) begins)

pub all_builds_settle : AllBuildsSettle
all_builds_settle p limit fuel c = record {
  operands = λ f x. (operand_thrown_settles (running p limit fuel) f x c (calls_settle p limit fuel)).at;
  bad_exceptions = bad_settles (running p limit fuel) (calls_settle p limit fuel) c;
}
