-- Terminate comes before any cleanup.
use Rattle.std.proofs.Common.{◌≡◌, ℕ, ◌+◌, Bool, true, false, [], Option, Some, None, refl, ap, ◌∙◌, subst, arith}
use Rattle.std.specs.Prelude.{◌∷◌, ◌++◌, if◌then◌else◌}
use Rattle.run_items.specs.declared.item.Item.TheVariants.{Make, Enter}
use Rattle.meaning_forms.specs.Class.{ObjectType, some_of}
use Rattle.meaning_forms.specs.Part.{part_type}
use Rattle.meaning_forms.specs.World.{World, native, nowhere, exception_at, object_at, Installed, building}
use Rattle.meaning_forms.specs.Context.{Context, barrier, handling, guarded_by}
use Rattle.meaning_forms.specs.Running.{Running, function}
use Rattle.meaning_forms.specs.Outcome.{Stop, thrown, cancelled, ended, aborted, undefined, out_of_turns, deep, Action, Result, done, stopped, stop, continued, ◌>>=◌, ◌>>◌}
use Rattle.meaning_forms.specs.Terminate.{after_terminate_handler, run_terminate_handler, terminate_with, terminate, terminate_because, enter_and_terminate, after_barrier}
use Rattle.meaning_forms.specs.Scope.{after_scope, after_part}
use Rattle.meaning_forms.specs.Throw.{new_exception, after_building, keep, raise_exception, throw_new, rethrow_newest}
use Rattle.meaning_forms.specs.Call.{running}
use Rattle.meaning_forms.specs.Handler.{after_handler, after_destructor}
use Rattle.meaning_forms.specs.Specification.{is_bad_exception, new_bad_exception, after_unexpected, after_extent}
use Rattle.meaning_forms.specs.Statement.{after_try}
use Rattle.meaning_events.specs.Fates.{story, fate, Tells}
use Rattle.meaning_events.specs.Settles.{Nobody, Settles, SettlesIn}
use Rattle.meaning_events.specs.Terminates.{is_final, IsFinal, IsDoomed, entered_next, begun, built, EntersNext, EnterIsTold, PassesOut, TerminateLaw, FinalLaw}
use Rattle.meaning_events.proofs.Live.{exception_put_there}
use Rattle.meaning_events.proofs.Telling.{newly, tells_make, made_fate}
use Rattle.meaning_events.proofs.Going.{terminate_with_goes}
use Rattle.meaning_events.proofs.GoingCalls.{calls_go_on}
use Rattle.meaning_events.proofs.Settling.{not_since}

raised_next : {A : Type 0} (r : Running) (c : Context) (w : World) (e o : ℕ) (t : ObjectType) (kept : Installed) → IsDoomed r c w e t o kept
    → raise_exception {A = A} r e c w ≡ entered_next r kept e c w
raised_next {A = A} r c w e o t kept h =
    ap (λ b. (if b then terminate_because {A = A} r e c else stop {A = A} (thrown e)) w) h.doomed ∙
    (ap (λ b. (if b then stop {A = A} (ended aborted) else enter_and_terminate {A = A} r e (exception_at w e) c) w) h.quiet ∙
    ap (λ x. enter_and_terminate {A = A} r e x c w) h.native)

-- what is built is native
built_native : (r : Running) (c : Context) (build : Action ℕ) (w w2 : World) (o : ℕ) → SettlesIn r.program c build → Tells c.handled (story w) → build (begun w) ≡ done o w2
    → exception_at (built (w.last_number + 1) o w2) (w.last_number + 1) ≡ native (part_type (object_at w2 o)) o w2.installed
built_native r c build w w2 o settles tells is =
    let e = w.last_number + 1 in
    let s = story w in
    let s1 = newly building (Make (w.last_number + 1)) (story w) in
    let g = subst (Settles r.program c.handled c.guards Nobody s1) is (settles (begun w) (tells_make c.handled s tells)) in
    let same : fate (story w2) e ≡ fate s1 e = g.spares.spared e (not_since s1 e (omega arith)) in
    exception_put_there w2.live e (native (part_type (object_at w2 o)) o w2.installed) (ap (λ f. f.live) (same ∙ made_fate c.handled s tells))

enters_next : (A : Type 0) → EntersNext A
enters_next A = record {
  raised = raised_next;
  thrown = λ r c build w w2 o settles tells few is doomed quiet.
      ap (λ b. (if b then terminate {A = A} r c else (new_exception building Make >>= (λ e. (λ w. after_building e (build w)) >>= (λ o. keep e o >> raise_exception {A = A} r e c)))) w) few ∙
      (ap (λ x. continued {B = A} (after_building (w.last_number + 1) x) (λ o. keep (w.last_number + 1) o >> raise_exception {A = A} r (w.last_number + 1) c)) is ∙
      raised_next {A = A} r c (built (w.last_number + 1) o w2) (w.last_number + 1) o (part_type (object_at w2 o)) w2.installed
      (record { doomed = doomed; quiet = quiet; native = built_native r c build w w2 o settles tells is }));
  again = λ r c w e o es t kept newest rests h.
      ap (λ hs. rethrow_newest {A = A} r hs c w) newest ∙ (ap (λ b. (if b then terminate {A = A} r c else raise_exception {A = A} r e c) w) rests ∙ raised_next {A = A} r c w e o t kept h);
  passed = λ r types first c w f o t kept allowed h.
      ap (λ b. (if b then raise_exception {A = A} r f c else
      if some_of is_bad_exception types then throw_new {A = A} r c (new_bad_exception r c) else terminate_with {A = A} r first.terminate_handler c) w) allowed ∙
      raised_next {A = A} r c w f o t kept h;
}

enter_is_told : (A : Type 0) → EnterIsTold A
enter_is_told A p limit fuel kept e c w =
    (terminate_with_goes A (running p limit fuel) kept.terminate_handler (handling e c) (calls_go_on p limit fuel)).at (record w { items = w.items ++ Enter e ∷ [] })

pub doomed_exceptions_are_entered : TerminateLaw
doomed_exceptions_are_entered = (enters_next _, enters_next _, enter_is_told _, enter_is_told _)

handler_ends : {A : Type 0} (B : Type 0) (x : Result A) → IsFinal {A = B} (after_terminate_handler x)
handler_ends B (done a w) = refl
handler_ends B (stopped (thrown e) w) = refl
handler_ends B (stopped (cancelled n) w) = refl
handler_ends B (stopped (ended e) w) = refl
handler_ends B (stopped undefined w) = refl
handler_ends B (stopped out_of_turns w) = refl
handler_ends B (stopped deep w) = refl

terminate_ends : (A : Type 0) (r : Running) (handler : Option ℕ) (c : Context) (w : World) → IsFinal (terminate_with {A = A} r handler c w)
terminate_ends A r handler c w = go c.ending handler
  where
    run : (h : Option ℕ) → IsFinal (run_terminate_handler {A = A} r h c w)
    run None = refl
    run (Some f) = handler_ends A (r.call (function f) nowhere [] (guarded_by barrier (record c { ending = true })) w)

    go : (z : Bool) (h : Option ℕ) → IsFinal {A = A} ((if z then stop (ended aborted) else run_terminate_handler r h c) w)
    go true h = refl
    go false h = run h

-- by the kind of stop
each_final : (P : Stop → Type 0) → ((e : _) → P (ended e)) → P undefined → P out_of_turns → P deep → (s : Stop) → is_final s ≡ true → P s
each_final P a b d e (thrown n) h = absurd (cc h)
each_final P a b d e (cancelled n) h = absurd (cc h)
each_final P a b d e (ended x) h = a x
each_final P a b d e undefined h = b
each_final P a b d e out_of_turns h = d
each_final P a b d e deep h = e

passes_out : (A : Type 0) → PassesOut A
passes_out A = record {
  ends = terminate_ends A;
  scopes = λ r c destruction s w h. each_final (λ s. (after_scope {A = A} r c destruction (stopped s w) ≡ stopped s w) × (after_part {A = A} r c destruction (stopped s w) ≡ stopped s w))
      (λ x. (refl, refl)) (refl, refl) (refl, refl) (refl, refl) s h;
  handlers = λ r e c s w h. each_final (λ s. after_handler {A = A} r e c (stopped s w) ≡ stopped s w) (λ x. refl) refl refl refl s h;
  objects = λ e s w h. each_final (λ s. (after_building {A = A} e (stopped s w) ≡ stopped s w) × (after_destructor e (stopped s w) ≡ stopped s w))
      (λ x. (refl, refl)) (refl, refl) (refl, refl) (refl, refl) s h;
  barriers = λ r c s w h. each_final (λ s. after_barrier {A = A} r c (stopped s w) ≡ stopped s w) (λ x. refl) refl refl refl s h;
  tries = λ caught s w h. each_final (λ s. after_try caught (stopped s w) ≡ stopped s w) (λ x. refl) refl refl refl s h;
  specifications = λ r types kept c s w h. each_final (λ s. (after_extent {A = A} r types c (stopped s w) ≡ stopped s w) × (after_unexpected {A = A} r types kept c (stopped s w) ≡ stopped s w))
      (λ x. (refl, refl)) (refl, refl) (refl, refl) (refl, refl) s h;
}

pub terminate_passes_out : FinalLaw
terminate_passes_out = (passes_out _, passes_out _, passes_out _, passes_out _)
