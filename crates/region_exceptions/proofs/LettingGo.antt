-- Handlers are left alike.
use Rattle.std.proofs.lemmas.Bool.Decides.{nat_tests}
use Rattle.std.proofs.Common.{◌≡◌, ℕ, ◌+◌, ◌<◌, ◌⊎◌, inl, inr, Bool, true, false, [], ◌∷◌, ◌++◌, refl, sym, ap, ◌∙◌, subst, arith, length, Some}
use Rattle.std.specs.Prelude.{◌==◌, ◌||◌, not, if◌then◌else◌}
use Rattle.run_items.specs.declared.item.Item.TheVariants.{Leave}
use Rattle.meaning_forms.specs.Class.{contains}
use Rattle.meaning_forms.specs.World.{World as SourceWorld, exception_at as source_exception_at}
use Rattle.meaning_forms.specs.Context.{Context as SourceContext, barrier, guarded_by, handling, with_travelling}
use Rattle.meaning_forms.specs.Outcome.{Result as SourceResult, done as source_done, stopped as source_stopped, thrown, cancelled, ended, undefined, out_of_turns, deep, pure as source_pure}
use Rattle.meaning_forms.specs.Running.{Running as SourceRunning}
use Rattle.meaning_forms.specs.Handler.{give_back as source_give_back, goes_on, let_go, after_handler}
use Rattle.region_forms.specs.Caught.{left_of, gives_back, caught_of, only_front}
use Rattle.region_forms.specs.Laws.{CaughtListFollows}
use Rattle.region_forms.specs.Layout.{Layout}
use Rattle.region_forms.specs.LowerExpression.{result_slot}
use Rattle.region_forms.specs.World.{World, exception_at, of_exception}
use Rattle.region_forms.specs.Effect.{left, newest_of}
use Rattle.region_forms.specs.Outcome.{State, Context, Result, pure, Action, change, ◌>>◌, only_if}
use Rattle.region_forms.specs.Ending.{Running, after_scope, give_back, leave_newest}
use Rattle.region_forms.specs.Meaning.{outwards}
use Rattle.linear_simulation.specs.Watched.{kept_on, not_its_own, watched_leave, watched as region}
use Rattle.region_simulation.specs.Places.{Places, Stood}
use Rattle.region_simulation.specs.Stands.{world_of, Stands, context_of}
use Rattle.region_simulation.specs.Alike.{Follows, Alike}
use Rattle.region_simulation.specs.Flows.{FlowAgrees}
use Rattle.region_simulation.proofs.Following.{Agreement, follows_now}
use Rattle.region_simulation.proofs.Flowing.{alike_after, outwards_agrees}
use Rattle.region_exceptions.specs.Fares.{CallsFare, Fares}
use Rattle.region_exceptions.proofs.Faring.{faring_calls_are_barred, orderly_as, orderly_sound}
use Rattle.region_exceptions.proofs.FaringScopes.{contains_first}
use Rattle.region_exceptions.proofs.FaringThrows.{not_number, other_number}
use Rattle.region_exceptions.proofs.FaringHandlers.{let_go_fares}
use Rattle.region_exceptions.proofs.Keeping.{IsOther, kept_alike, own_alike, scope_keeps}
use Rattle.region_exceptions.specs.Same.{RunAlike}
use Rattle.region_exceptions.specs.Barred.{NotThrown, CallsAreBarred}
use Rattle.region_exceptions.specs.Scopes.{Any}
use Rattle.region_exceptions.specs.Handlers.{EmptyDestructor, HandlersEndAlike}
use Rattle.region_exceptions.proofs.Caught.{newest_is}
use Rattle.region_exceptions.proofs.Standing.{sound_left, all_old, stands_on, stands_guarded, follows_changed}
use Rattle.region_exceptions.proofs.Raises.{exception_same}
use Rattle.region_exceptions.proofs.Giving.{gives_back_alike, giving_barred}
use Rattle.region_exceptions.proofs.Scopes.{IsSteady, flows_steady, thrown_out, cancelled_out, done_out}
use Rattle.region_exceptions.specs.Left.{CanBeLeft}
use Rattle.region_exceptions.proofs.Since.{follows_older, alike_older, alike_since}
use Rattle.region_exceptions.proofs.Asked.{leavable}

module _ (l : Layout) (a : SourceRunning) (b : Running) (same : RunAlike l a b) (empty : EmptyDestructor l a b) (laws : CaughtListFollows) where
  -- the newest handler is left, and its exception is given back or kept
  module _ (at : Places) (m : ℕ) (c : SourceContext) (w0 w : SourceWorld) (s : State) (e : ℕ) (stands : Stands l a.program at (handling e c) w s)
      (can : CanBeLeft (contains c.handled e) e at w0 w) where
    abbrev ctx : Context
    ctx = context_of w.open_calls c

    abbrev after_leaving : SourceWorld
    after_leaving = record w { items = w.items ++ Leave e ∷ [] }

    abbrev state_after : State
    state_after = record s { world = left s.world }

    newest : newest_of s.world.caught ≡ e
    newest = ap (λ y. newest_of y.caught) stands.world ∙ newest_is e c.travelling c.handled

    left_stands : Stands l a.program at c after_leaving state_after
    left_stands =
        let world = world_of a.program c after_leaving s.world.memory s.world.calls in
        stands_on l a.program at (handling e c) c w after_leaving s (left s.world)
        (ap left stands.world ∙
        ap {A = ℕ} {B = World} (λ n. record world { items = w.items ++ Leave n ∷ []; caught = left_of (caught_of c.travelling (e ∷ c.handled)) }) (newest_is e c.travelling c.handled) ∙
        ap {B = World} (λ xs. record world { caught = xs }) (laws.left e c.travelling c.handled))
        refl refl (omega arith) (sound_left e c stands.sound) stands.handlers (all_old w.live) stands

    left_can : CanBeLeft (contains c.handled e) e at w0 after_leaving
    left_can = record { objects = can.objects; open_calls = can.open_calls; new = can.new }

    given : contains c.travelling e ≡ false → contains c.handled e ≡ false → IsOther e (let_go a e false c w)
        → Alike l a.program at m c w0 state_after Any (source_give_back a e (source_exception_at w e) c after_leaving)
        (give_back b (newest_of s.world.caught) (exception_at s.world (newest_of s.world.caught)) ctx state_after)
    given rests unhandled other =
        subst (λ n. Alike l a.program at m c w0 state_after Any (source_give_back a e (source_exception_at w e) c after_leaving) (give_back b n (exception_at s.world n) ctx state_after)) (sym newest)
        (subst (λ x. Alike l a.program at m c w0 state_after Any (source_give_back a e (source_exception_at w e) c after_leaving) (give_back b e x ctx state_after))
        (sym (exception_same l a.program at (handling e c) w s stands e))
        (gives_back_alike l a b same empty at m c w0 after_leaving state_after left_stands e rests unhandled left_can (source_exception_at w e) refl other))

    -- an exception that is not kept neither travels nor is handled
    gone : (kept : Bool) → gives_back (caught_of c.travelling (e ∷ c.handled)) ≡ not kept → kept ≡ false → (contains c.travelling e ≡ false) × (contains c.handled e ≡ false)
    gone kept is none = go (contains c.travelling e) refl
      where
        given_back : true ≡ gives_back (caught_of c.travelling (e ∷ c.handled))
        given_back = sym (is ∙ ap not none)

        never : true ≡ false → ⊥
        never e = cc e

        unhandled : (z : Bool) → true ≡ not z → z ≡ false
        unhandled true e = absurd (never e)
        unhandled false e = refl

        go : (z : Bool) → contains c.travelling e ≡ z → (contains c.travelling e ≡ false) × (contains c.handled e ≡ false)
        go true there = absurd (never (given_back ∙ laws.kept e c.travelling c.handled there))
        go false rests = (rests, unhandled (contains c.handled e) (given_back ∙ laws.given_back e c.travelling c.handled rests stands.sound.together.0))

    let_go_alike : (kept : Bool) → gives_back (caught_of c.travelling (e ∷ c.handled)) ≡ not kept → IsOther e (let_go a e kept c w)
        → Alike l a.program at m c w0 s Any (let_go a e kept c w) (leave_newest b ctx s)
    let_go_alike kept is other =
        subst (λ q. Alike l a.program at m c w0 s Any (let_go a e kept c w) (only_if q leaves s)) (sym (leavable l a.program at c w s e stands))
        (alike_since l a.program Any at m c c w0 s after_leaving state_after
        (follows_older l a.program at m w0 w s c after_leaving state_after can.objects can.open_calls (follows_changed l a.program at m c w after_leaving s (left s.world) refl refl refl left_stands))
        (let_go a e kept c w) (leaves s)
        (subst (λ z. Alike l a.program at m c w0 state_after Any (let_go a e kept c w)
        ((if z then give_back b (newest_of s.world.caught) (exception_at s.world (newest_of s.world.caught)) ctx else pure tt) state_after))
        (sym (ap (λ y. gives_back y.caught) stands.world ∙ is)) (go kept other (gone kept is))))
      where
        leaves : Action (Unit {0})
        leaves =
            change left >> (if gives_back s.world.caught then give_back b (newest_of s.world.caught) (exception_at s.world (newest_of s.world.caught)) ctx else pure tt)

        go : (z : Bool) → IsOther e (let_go a e z c w) → (z ≡ false → (contains c.travelling e ≡ false) × (contains c.handled e ≡ false))
            → Alike l a.program at m c w0 state_after Any ((if z then source_pure tt else source_give_back a e (source_exception_at w e) c) after_leaving)
            ((if not z then give_back b (newest_of s.world.caught) (exception_at s.world (newest_of s.world.caught)) ctx else pure tt) state_after)
        go true other none =
            (tt, state_after, refl, (follows_older l a.program at m w0 after_leaving state_after c after_leaving state_after can.objects can.open_calls (follows_now l a.program at m c after_leaving state_after left_stands), tt))
        go false other none = given (none refl).0 (none refl).1 other

    other_out : contains c.handled e ≡ false → (x : SourceResult (Unit {0})) → Fares a.program w.last_number c w x → IsOther e x
    other_out unhandled (source_done u w2) h = tt
    other_out unhandled (source_stopped (thrown f) w2) h = go h.1.known
      where
        flip : (m n : ℕ) → (m == n) ≡ false → (n == m) ≡ false
        flip m n h = grind (arith, nat_tests, h)

        go : (contains c.handled f ≡ true) ⊎ (w.last_number < f) → (f == e) ≡ false
        go (inl there) = flip e f (other_number e f c.handled there unhandled)
        go (inr new) = (let made = stands.sound.handled e (contains_first e c.handled) in not_number e f (omega (arith, made, new)))
    other_out unhandled (source_stopped (cancelled n) w2) h = tt
    other_out unhandled (source_stopped undefined w2) h = tt
    other_out unhandled (source_stopped (ended n) w2) h = tt
    other_out unhandled (source_stopped out_of_turns w2) h = tt
    other_out unhandled (source_stopped deep w2) h = tt

    -- so the exception does not come out of its own destructor
    lets_go : CallsFare a → (kept : Bool) → gives_back (caught_of c.travelling (e ∷ c.handled)) ≡ not kept
        → Alike l a.program at m c w0 s Any (let_go a e kept c w) (watched_leave b (context_of w0.open_calls c) s)
    lets_go fare kept is =
        subst (λ q. Alike l a.program at m c w0 s Any (let_go a e kept c w) (watched_leave b (context_of q c) s)) can.open_calls
        (subst (λ n. Alike l a.program at m c w0 s Any (let_go a e kept c w) (not_its_own n (leave_newest b ctx s))) (sym newest)
        (own_alike l a.program at w0 s Any m c e (let_go a e kept c w) (leave_newest b ctx s) (let_go_alike kept is (other kept (gone kept is))) (other kept (gone kept is))))
      where
        other : (z : Bool) → (z ≡ false → (contains c.travelling e ≡ false) × (contains c.handled e ≡ false)) → IsOther e (let_go a e z c w)
        other true none = tt
        other false none =
            other_out (none refl).1 (let_go a e false c w)
            (let_go_fares a fare w.last_number c w (omega arith) (orderly_sound c w (sound_left e c stands.sound)) e (stands.sound.handled e (contains_first e c.handled)) false none)

  -- behind a barrier no exception comes out
  leaving_barred : CallsAreBarred a → (at : Places) (c : SourceContext) (w : SourceWorld) (s : State) (e : ℕ) (kept : Bool) → Stands l a.program at (handling e c) w s
      → NotThrown (let_go a e kept (guarded_by barrier c) w)
  leaving_barred bar at c w s e true stands = tt
  leaving_barred bar at c w s e false stands =
      giving_barred a bar e (source_exception_at w e) c (record w { items = w.items ++ Leave e ∷ [] }) (sound_left e c stands.sound)

  -- however what is done in a handler comes out
  module _ (fare : CallsFare a) {A B : Type 0} (agree : Agreement A B) (n : ℕ) (steady : IsSteady agree n) (at : Places) (k : ℕ) (c : SourceContext) (w : SourceWorld) (s : State) (e : ℕ)
      (front : only_front e c.handled ≡ true) (rests : contains c.travelling e ≡ false)
      (new : contains c.handled e ≡ false → (o : ℕ) (x : Stood) → o < length w.objects → at o ≡ Some x → x.base ≡ of_exception e → ⊥) where
    can_be_left : (d : SourceContext) (w2 : SourceWorld) (s2 : State) (g : Follows l a.program at k w s d w2 s2) → CanBeLeft (contains c.handled e) e g.places w w2
    can_be_left d w2 s2 g = record {
      objects = g.objects;
      open_calls = g.open_calls;
      new = λ none o x lt is base. new none o x lt (sym (g.stay o lt) ∙ is) base;
    }

    last : gives_back (caught_of c.travelling (e ∷ c.handled)) ≡ not (contains c.handled e)
    last = laws.given_back e c.travelling c.handled rests front

    -- it is kept where it travels again
    kept_or_last : (f : ℕ) → gives_back (caught_of (f ∷ c.travelling) (e ∷ c.handled)) ≡ not (f == e || contains c.handled e)
    kept_or_last f = go (f == e) refl
      where
        go : (z : Bool) → (f == e) ≡ z → gives_back (caught_of (f ∷ c.travelling) (e ∷ c.handled)) ≡ not (z || contains c.handled e)
        go true is = laws.kept e (f ∷ c.travelling) c.handled (ap (λ z. z || contains c.travelling e) is)
        go false is = laws.given_back e (f ∷ c.travelling) c.handled (ap (λ z. z || contains c.travelling e) is ∙ rests) front

    abbrev cleanup : Context → State → Result (Unit {0})
    cleanup = watched_leave b

    pub handler_ends : (x : SourceResult A) (y : Result B) → Alike l a.program at k (handling e c) w s agree x y
        → Alike l a.program at k c w s agree (after_handler a e c x) (after_scope b (context_of w.open_calls c) cleanup y)
    handler_ends (source_done u w2) y h =
        done_out l a b same agree at k c w s (let_go a e (contains c.handled e)) cleanup n steady (handling e c) u w2 y h
        (λ s2 g. lets_go g.places (k + n) c w w2 s2 e g.stands (can_be_left (handling e c) w2 s2 g) fare (contains c.handled e) last)
    handler_ends (source_stopped (thrown f) w2) y h =
        let kept = f == e || contains c.handled e in
        thrown_out l a b same agree at k c w s (let_go a e kept) cleanup (handling e c) f w2 y h
        (λ s2 g.
        let d = with_travelling f c in
        let standing = stands_guarded l a.program g.places barrier (with_travelling f (handling e c)) w2 s2 g.stands in
        let can = can_be_left (with_travelling f (handling e c)) w2 s2 g in
        (leaving_barred (faring_calls_are_barred a fare) g.places d w2 s2 e kept g.stands, lets_go g.places k (guarded_by barrier d) w w2 s2 e standing can fare kept (kept_or_last f)))
        (after_scope b (context_of w.open_calls c) cleanup) (λ t. refl)
    handler_ends (source_stopped (cancelled x) w2) y h =
        let kept = contains c.handled e in
        cancelled_out l a b same agree at k c w s (let_go a e kept) cleanup (handling e c) x w2 y h
        (λ s2 g.
        let standing = stands_guarded l a.program g.places barrier (handling e c) w2 s2 g.stands in
        let can = can_be_left (handling e c) w2 s2 g in
        (leaving_barred (faring_calls_are_barred a fare) g.places c w2 s2 e kept g.stands, lets_go g.places k (guarded_by barrier c) w w2 s2 e standing can fare kept last))
        (after_scope b (context_of w.open_calls c) cleanup) (λ t. refl)
    handler_ends (source_stopped undefined w2) y h = tt
    handler_ends (source_stopped (ended x) w2) y (s2, is, h) = (s2, ap (after_scope b (context_of w.open_calls c) cleanup) is, h)
    handler_ends (source_stopped out_of_turns w2) y (s2, is, h) = (s2, ap (after_scope b (context_of w.open_calls c) cleanup) is, h)
    handler_ends (source_stopped deep w2) y (s2, is, h) = (s2, ap (after_scope b (context_of w.open_calls c) cleanup) is, h)

    -- the type of an exception that travels is kept
    leaving_fares : (x : SourceResult A) (y : Result B) → Alike l a.program at k (handling e c) w s agree x y → (f : ℕ) (w2 : SourceWorld) → x ≡ source_stopped (thrown f) w2
        → (let d = guarded_by barrier (with_travelling f c) in Fares a.program 0 d w2 (let_go a e (goes_on e c x) d w2))
    leaving_fares x y h f w2 is =
        let (s2, same, g) = subst (λ r. Alike l a.program at k (handling e c) w s agree r y) is h in
        let d = guarded_by barrier (with_travelling f c) in
        let sound2 = sound_left e (with_travelling f c) g.stands.sound in
        let_go_fares a fare 0 d w2 (omega arith) (orderly_as (with_travelling f c) w2 (barrier ∷ c.guards) c.ending (orderly_sound (with_travelling f c) w2 sound2)) e
        (g.stands.sound.handled e (contains_first e c.handled)) (goes_on e c x) (λ none. unkept (f == e) refl (sym (ap (goes_on e c) is) ∙ none))
      where
        unkept : (z : Bool) → (f == e) ≡ z → (z || contains c.handled e) ≡ false → (contains (f ∷ c.travelling) e ≡ false) × (contains c.handled e ≡ false)
        unkept true same h = absurd (cc h)
        unkept false other h = (ap (λ z. z || contains c.travelling e) other ∙ rests, h)

    -- so it comes out alike, watched
    pub handler_watched : (x : SourceResult A) (y : Result B) → Alike l a.program at k (handling e c) w s agree x y
        → Alike l a.program at k c w s agree (after_handler a e c x) (kept_on y (after_scope b (context_of w.open_calls c) cleanup y))
    handler_watched x y h =
        kept_alike l a.program at w s agree k c agree k (handling e c) x y (after_handler a e c x) (after_scope b (context_of w.open_calls c) cleanup y) h (handler_ends x y h)
        (scope_keeps a c (let_go a e (goes_on e c x)) x (leaving_fares x y h))

pub handlers_end_alike : CaughtListFollows → HandlersEndAlike
handlers_end_alike laws l gives i d lt a b same fare empty at k c w0 w s e stands rests can act body h =
    let ctx = context_of w.open_calls c in
    let agree = FlowAgrees l gives i (d + 1) in
    let x = act (handling e c) w in
    let y = region b body ctx s in
    alike_after l.layout a.program agree (FlowAgrees l gives i d) at k c w0 s (after_handler a e c x)
    (kept_on y (after_scope b ctx (watched_leave b) y)) outwards (outwards_agrees l gives i d lt)
    (subst (λ n. Alike l.layout a.program at k c w0 s agree (after_handler a e c x) (kept_on y (after_scope b (context_of n c) (watched_leave b) y))) (sym can.open_calls)
    (handler_watched l.layout a b same empty laws fare agree (result_slot l + 1) (flows_steady l gives i (d + 1)) at k c w0 s e stands.sound.together.0 rests can.new x y
    (alike_older l.layout a.program agree at k (handling e c) w0 w s x y can.objects can.open_calls h)))
