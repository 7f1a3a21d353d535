-- Actions that settle what they make, one after the other and in scopes, specifications and try blocks.
use Rattle.std.proofs.Common.{◌≡◌, ℕ, zero, suc, ℤ, Bool, true, false, ◌∷◌, Option, Some, refl, sym, ap, ◌∙◌, subst}
use Rattle.std.specs.Prelude.{find, cond, if◌then◌else◌}
use Rattle.cxx_ast.specs.Plain.{Checked, Handlers, Specification}
use Rattle.run_items.specs.declared.item.Item.TheVariants.{Line}
use Rattle.meaning_forms.specs.Class.{ObjectType, some_of, contains}
use Rattle.meaning_forms.specs.Part.{Part}
use Rattle.meaning_forms.specs.World.{World, Reference, type_at, written}
use Rattle.meaning_forms.specs.Context.{Context, try_block, guarded_by}
use Rattle.meaning_forms.specs.Guard.{matches, stops, dooms, is_doomed}
use Rattle.meaning_forms.specs.Outcome.{Action, Result, done, stopped, thrown, cancelled, ended, undefined, out_of_turns, deep, End, Flow, pure, stop, world, ◌>>=◌, change, emit, new_object, read, write}
use Rattle.meaning_forms.specs.Running.{Running}
use Rattle.meaning_forms.specs.Terminate.{terminate}
use Rattle.meaning_forms.specs.Throw.{throw_new, rethrow}
use Rattle.meaning_forms.specs.Scope.{scope, until_complete}
use Rattle.meaning_forms.specs.Construct.{destroy}
use Rattle.meaning_forms.specs.Statement.{spend, spend_turn, after_try, caught}
use Rattle.meaning_forms.specs.Frame.{Frame}
use Rattle.meaning_forms.specs.Handler.{clauses_of}
use Rattle.meaning_forms.specs.Specification.{under_specification}
use Rattle.meaning_events.specs.Fates.{Story, story, fate, IsWhole, Tells}
use Rattle.meaning_events.specs.Settles.{Nobody, Unless, Settled, Settles, SettlesIn, CallsSettle}
use Rattle.meaning_events.proofs.Telling.{tells_line, tacit_same, told}
use Rattle.meaning_events.proofs.Sparing.{spares_none, spares_same}
use Rattle.meaning_events.proofs.Settling.{settled_same, settles_then, inside_settles, ends_settle, terminates}
use Rattle.meaning_events.proofs.SettlingScopes.{scope_settles, part_settles}
use Rattle.meaning_events.proofs.SettlingThrows.{throw_settles, rethrow_settles as rethrow_settles_at}
use Rattle.meaning_events.proofs.SettlingHandlers.{read_settles as read_settles_at}
use Rattle.meaning_events.proofs.Leaving.{destroy_settles}
use Rattle.meaning_events.proofs.SettlingSpecifications.{caught_on, specified_settles}

-- an action settles what it makes
pub record SettlesAct (p : Checked) (c : Context) (A : Type 0) (act : Action A) : Type 0 where
  pub at : SettlesIn p c act

pub bind_settles : {p : Checked} {c : Context} {A B : Type 0} (first : Action A) (next : A → Action B) → SettlesAct p c A first → ((a : A) → SettlesAct p c B (next a))
    → SettlesAct p c B (first >>= next)
bind_settles {p} {c} first next h k = record { at = λ w tells. settles_then p c.handled c.guards Nobody (story w) (first w) next (h.at w tells) (λ a w2 more. (k a).at w2 more) }

pub if_settles : {p : Checked} {c : Context} {A : Type 0} (b : Bool) (x y : Action A) → SettlesAct p c A x → SettlesAct p c A y → SettlesAct p c A (if b then x else y)
if_settles true x y h k = h
if_settles false x y h k = k

pub pure_settles : {p : Checked} {c : Context} (A : Type 0) (a : A) → SettlesAct p c A (pure a)
pure_settles {p} {c} A a = record { at = λ w tells. settled_same c.handled (story w) tells }

pub world_settles : {p : Checked} {c : Context} → SettlesAct p c World world
world_settles {p} {c} = record { at = λ w tells. settled_same c.handled (story w) tells }

pub change_settles : {p : Checked} {c : Context} (f : World → World) → ((w : World) → story (f w) ≡ story w) → SettlesAct p c (Unit {0}) (change f)
change_settles {p} {c} f same = record { at = λ w tells. subst (λ s. Settled c.handled Nobody (story w) s Nobody) (sym (same w)) (settled_same c.handled (story w) tells) }

pub line_settles : {p : Checked} {c : Context} (z : ℤ) → SettlesAct p c (Unit {0}) (emit (Line z))
line_settles {p} {c} z = record {
  at = λ w tells. record {
    tells = tells_line c.handled (story w) z tells;
    spares = spares_same (story w) (story w) (told (Line z) (story w)) refl (tacit_same (Line z) (story w) (λ n. (refl, refl, refl, refl))) (spares_none c.handled (story w) tells);
  };
}

pub write_settles : {p : Checked} {c : Context} (x : Reference) (v : ℤ) → SettlesAct p c (Unit {0}) (write x v)
write_settles x v = change_settles (λ w. written w x v) (λ w. refl)

pub new_object_settles : {p : Checked} {c : Context} (a : Part) → SettlesAct p c ℕ (new_object a)
new_object_settles {p} {c} a = record { at = λ w tells. settled_same c.handled (story w) tells }

pub read_settles : {p : Checked} {c : Context} (x : Reference) → SettlesAct p c ℤ (read x)
read_settles {p} {c} x = record { at = λ w tells. inside_settles p c.handled c.guards Nobody (story w) (read x w) (read_settles_at c.handled x w tells) }

pub stop_undefined : {p : Checked} {c : Context} (A : Type 0) → SettlesAct p c A (stop undefined)
stop_undefined A = record { at = λ w tells. tells.allowed }

pub stop_ended : {p : Checked} {c : Context} (A : Type 0) (x : End) → SettlesAct p c A (stop (ended x))
stop_ended A x = record { at = λ w tells. tells.allowed }

pub stop_cancelled : {p : Checked} {c : Context} (A : Type 0) (v : ℤ) → SettlesAct p c A (stop (cancelled v))
stop_cancelled {p} {c} A v = record { at = λ w tells. settled_same c.handled (story w) tells }

pub stop_turns : {p : Checked} {c : Context} (A : Type 0) → SettlesAct p c A (stop out_of_turns)
stop_turns A = record { at = λ w tells. tells.allowed }

pub stop_deep : {p : Checked} {c : Context} (A : Type 0) → SettlesAct p c A (stop deep)
stop_deep A = record { at = λ w tells. tells.allowed }

pub terminated_settles : (A : Type 0) (r : Running) (c : Context) → CallsSettle r → SettlesAct r.program c A (terminate r c)
terminated_settles A r c h = record { at = λ w tells. ends_settle r.program c.handled c.guards Nobody (story w) (terminate r c w) (terminates r h A c w tells) }

pub turn_settles : {p : Checked} {c : Context} → SettlesAct p c (Unit {0}) spend_turn
turn_settles {p} {c} = record { at = λ w tells. go w.turns w tells }
  where
    go : (m : ℕ) (w : World) → Tells c.handled (story w) → Settles p c.handled c.guards Nobody (story w) (spend m w)
    go zero w tells = tells.allowed
    go (suc m) w tells = settled_same c.handled (story w) tells

pub destroy_in : (r : Running) (t : ObjectType) (x : Reference) (c : Context) → CallsSettle r → SettlesAct r.program c (Unit {0}) (destroy r t x c)
destroy_in r t x c h = record { at = destroy_settles r h t x c }

pub scope_in : {A : Type 0} (r : Running) → CallsSettle r → (c : Context) (destruction : Context → Action (Unit {0})) (act : Action A)
    → ((d : Context) → SettlesAct r.program d (Unit {0}) (destruction d)) → SettlesAct r.program c A act → SettlesAct r.program c A (scope r c destruction act)
scope_in r h c destruction act k g = record { at = λ w tells. scope_settles r h c destruction (λ d. (k d).at) Nobody (story w) (act w) (g.at w tells) }

pub complete_in : {A : Type 0} (r : Running) → CallsSettle r → (c : Context) (destruction : Context → Action (Unit {0})) (act : Action A)
    → ((d : Context) → SettlesAct r.program d (Unit {0}) (destruction d)) → SettlesAct r.program c A act → SettlesAct r.program c A (until_complete r c destruction act)
complete_in r h c destruction act k g = record { at = λ w tells. part_settles r h c destruction (λ d. (k d).at) Nobody (story w) (act w) (g.at w tells) }

pub rethrow_in : (A : Type 0) (r : Running) (c : Context) → CallsSettle r → SettlesAct r.program c A (rethrow r c)
rethrow_in A r c h = record { at = rethrow_settles_at r h c A }

pub throw_in : (A : Type 0) (r : Running) (c : Context) (build : Action ℕ) → CallsSettle r → SettlesAct r.program c ℕ build → SettlesAct r.program c A (throw_new r c build)
throw_in A r c build h k = record { at = throw_settles r h c A build k.at }

pub specified_in : {A : Type 0} (r : Running) → CallsSettle r → (o : Option Specification) (act : Context → Action A) (c : Context) → ((d : Context) → SettlesAct r.program d A (act d))
    → SettlesAct r.program c A (under_specification r o act c)
specified_in r h o act c k = record { at = specified_settles r h o act (λ d. (k d).at) c }

-- what handlers do with an exception that came out, of which no clause that was tried before matches
abbrev pub CaughtSettles : Running → Handlers → Frame → Context → ℕ → Type 0
CaughtSettles r hs f c e =
    (w : World) → Tells c.handled (story w) → IsWhole (fate (story w) e)
    → (some_of (matches r.program (type_at w e)) (clauses_of hs) ≡ false → is_doomed r.program c.guards (type_at w e) ≡ false)
    → Settles r.program c.handled c.guards (Unless (contains c.handled e) e) (story w) (caught r hs f c e w)

pub tried_settles : (r : Running) (c : Context) (w : World) (own : ℕ → Type 0) (z : Bool) (this others : Action Flow) → Settles r.program c.handled c.guards own (story w) (this w)
    → (z ≡ false → Settles r.program c.handled c.guards own (story w) (others w)) → Settles r.program c.handled c.guards own (story w) ((if z then this else others) w)
tried_settles r c w own true this others h k = h
tried_settles r c w own false this others h k = k refl

pub try_settles : (r : Running) (hs : Handlers) (f : Frame) (c : Context) (act : Action Flow) → ((e : ℕ) → CaughtSettles r hs f c e)
    → SettlesAct r.program (guarded_by (try_block (clauses_of hs)) c) Flow act → SettlesAct r.program c Flow (λ w. after_try (caught r hs f c) (act w))
try_settles r hs f c act catches k = record { at = λ w tells. go (story w) tells (act w) (k.at w tells) }
  where
    go : (s : Story) → Tells c.handled s → (x : Result Flow) → Settles r.program c.handled (try_block (clauses_of hs) ∷ c.guards) Nobody s x
        → Settles r.program c.handled c.guards Nobody s (after_try (caught r hs f c) x)
    go s tells (done u w2) h = h
    go s tells (stopped (thrown e) w2) h =
        caught_on r.program c.handled c.guards s (story w2) e (caught r hs f c e w2) tells h.0.spares h.1.known
        (catches e w2 h.0.tells h.1.whole
        (λ none. ap (λ z. dooms (type_at w2 e) (cond z (Some (try_block (clauses_of hs))) (find (stops r.program (type_at w2 e)) c.guards))) (sym none) ∙ h.1.safe))
    go s tells (stopped (cancelled v) w2) h = h
    go s tells (stopped undefined w2) h = h
    go s tells (stopped (ended x) w2) h = h
    go s tells (stopped out_of_turns w2) h = h
    go s tells (stopped deep w2) h = h
