-- An operation of a compiled function keeps what the open calls keep.
use Rattle.std.proofs.Common.{◌≡◌, ◌⊎◌, inl, inr, ℕ, ◌+◌, ℤ, pos, Bool, true, false, ◌==◌, List, [], ◌∷◌, length, Option, Some, None, refl, sym, ap, ◌∙◌, subst, if◌then◌else◌, arith}
use Rattle.std.specs.Prelude.{◌||◌}
use Rattle.meaning_forms.specs.Arithmetic.{is_zero, int_equal}
use Rattle.run_items.specs.declared.item.Item.TheVariants.{Free}
use Rattle.region_forms.specs.Form.{address_slot, help_slot, Place, through, Value, Op, evaluate, store, bind, call, construct, destroy, make, throw, rethrow, enter, leave}
use Rattle.region_forms.specs.Lives.{is_being_built}
use Rattle.region_forms.specs.World.{Address, Word, nothing, number_word, address_word, flying, unwinding, address_in, exception_in_slot, with_item, without_exception, Frame, World, type_at}
use Rattle.region_forms.specs.Evaluation.{value_in, address_of}
use Rattle.region_forms.specs.Effect.{calls, if_some, freed, result_in, effect}
use Rattle.linear_forms.specs.Linear.{LinearOp, plain, label, jump, jump_zero, pad, jump_filter, free, resume, unexpected, return}
use Rattle.linear_forms.specs.Stub.{Function, compiled, call_unexpected, linear}
use Rattle.linear_forms.specs.Activation.{Code, Activation, compiled_op, on, at, stub_frame, kinds}
use Rattle.linear_forms.specs.Operation.{performed, jumped, jumped_zero, holds_number, resumed, act}
use Rattle.exceptions_in_flight.specs.Targets.{AimsAt}
use Rattle.flight_homes.specs.Homes.{is_one_of}
use Rattle.flight_homes.specs.Keeps.{Carrying, Carried, compiled_carried}
use Rattle.flight_homes.proofs.Kept.{NotLeave}
use Rattle.flight_homes.specs.Lives.{WorldKnown}
use Rattle.flight_homes.specs.Whole.{IsWhole, BindsWhole}
use Rattle.flight_homes.specs.WholeCalls.{CallsWhole}
use Rattle.linear_invariant.specs.Handled.{WorldKeeps}
use Rattle.linear_invariant.specs.Calls.{IsOther, Marks, OnItsWay, WordGoes, FlightGoes, WaitsAt, CallKeeps, CallsKeep}
use Rattle.linear_invariant.specs.Code.{StepsTo, carries_on, CodeCarries, CodeFits}
use Rattle.linear_invariant.specs.Stands.{NewMarked}
use Rattle.linear_invariant.proofs.Worlds.{But, more_steps, changes_then, quiet_changes, quiet_keeps, unhandled_building, building_waits, without_changes, without_keeps}
use Rattle.linear_invariant.proofs.Calls.{calls_kept, others_spared, building_held, waits_now}
use Rattle.linear_invariant.proofs.Tops.{called, is_pad, WordForgets, nothing_forgets, number_forgets, Goes, either, next_goes, top_goes, not_carried, off_path, moves}
use Rattle.linear_invariant.proofs.Raising.{resumed_goes, force_goes}
use Rattle.linear_invariant.proofs.Effects.{calls_go, leaves_go, Fine, op_does}
use Rattle.linear_invariant.proofs.Given.{quiet}
use Rattle.linear_invariant.proofs.Returns.{helps_whole, returned_goes}

module _ (marks : Marks) (code : Code) (k : Carrying) (fits : CodeFits marks.known code k) (m n p : ℕ) (x : Frame) (fs : List Activation) (w : World)
    (own : CallKeeps code k marks None (called (compiled n) p x) fs w) (rest : CallsKeep code k marks (Some (compiled n)) fs w) (world : WorldKeeps m w) (lives : WorldKnown marks.known w)
    (whole : IsWhole (code.kinds_at n) x) (others : CallsWhole code fs) (news : NewMarked marks code (record { top = called (compiled n) p x; frames = fs; world = w })) where
  abbrev f : Function
  f = compiled n

  abbrev top : Activation
  top = called (compiled n) p x

  abbrev c : CodeCarries code k
  c = fits.carries

  more : WorldKeeps (m + 1) w
  more = more_steps m (m + 1) w (omega arith) world

  module _ (o : LinearOp) (there : code.op_at n p ≡ Some o) where
    -- control moves on to a place
    moves_to : is_pad o ≡ false → (q : ℕ) → StepsTo code n p o q →
        (k.carries n p ≡ true → k.carries n q ≡ true → (z : ℤ) → x.slots (k.selector n) ≡ number_word z → is_one_of z (k.left n q) ≡ is_one_of z (k.left n p)) →
        Goes marks code k (m + 1) (at (compiled n) q x fs w)
    moves_to other q s left =
        top_goes marks code k (m + 1) (compiled n) q x fs w own.forgets (moves marks code k c n p o there other q s x fs w left own.carries) tt tt rest more

    -- off the path of what is carried
    leaves_path : is_pad o ≡ false → carries_on o ≡ false → (q : ℕ) → StepsTo code n p o q → Goes marks code k (m + 1) (at (compiled n) q x fs w)
    leaves_path other none q s =
        top_goes marks code k (m + 1) (compiled n) q x fs w own.forgets (not_carried marks code k (called (compiled n) q x) fs w (k.carries n q) _ (off_path marks code k c n p o there other q s none))
        tt tt rest more

  -- an operation of its own
  module _ (o : Op) (there : code.op_at n p ≡ Some (plain o)) where
    waits : (d : ℕ) → WaitsAt code (compiled d) (called (compiled n) p x)
    waits d = record { op = linear (plain o); there = ap compiled_op there; made = refl }

    abbrev calm_behind : carries_on (plain o) ≡ false → (y : Frame) (v : World) → FlightGoes marks code (called (compiled n) (p + 1) y) fs (compiled_carried k n (called (compiled n) (p + 1) y)) v
    calm_behind none y v = not_carried marks code k (called (compiled n) (p + 1) y) fs v (k.carries n (p + 1))
        (record { word = y.slots (k.object n); home = k.home n (p + 1); number = y.slots (k.selector n); left = k.left n (p + 1) })
        (off_path marks code k c n p (plain o) there refl (p + 1) (inl (refl, refl)) none)

    apart_goes : (none : carries_on (plain o) ≡ false) → NotLeave o → Fine code (compiled n) o →
        Goes marks code k (m + 1) (act code (plain o) (called (compiled n) p x) fs w)
    apart_goes none other fine =
        op_does marks code k c m (compiled n) p x fs w own rest world lives (helps_whole code (compiled n) x whole) (calm_behind none) (λ y. tt) (λ y. refl) (effect (kinds code (compiled n)) o x w)
        (λ e v d i target_there. news.raised o e v d (ap compiled_op there) i target_there) (λ z v i. news.cancelled o z v (ap compiled_op there) i) waits o other fine (fits.starts n p o there) refl

  -- what is bound to a slot for help is what another has
  bind_fine : (s : ℕ) (q : Place) → BindsWhole (code.kinds_at n) (bind s q) → code.kinds_at n s ≡ help_slot → (h : ℕ) × (code.kinds_at n h ≡ help_slot) × (q ≡ record { root = through h; offset = 0 })
  bind_fine s q (inl reference) help = let never : address_slot ≡ help_slot = sym reference ∙ help in absurd (cc never)
  bind_fine s q (inr b) help = b

  destroys : (q : Place) (d : ℕ) → code.op_at n p ≡ Some (plain (destroy q d)) → (o : Option Address) →
      Goes marks code k (m + 1) (performed code (if_some o (λ a. calls None d (address_word a ∷ []))) (called (compiled n) p x) fs w)
  destroys q d there None = tt
  destroys q d there (Some a) =
      calls_go marks code k c m (compiled n) p x fs w own rest world lives (helps_whole code (compiled n) x whole) (waits (destroy q d) there) d (address_word a ∷ []) (fits.starts n p (destroy q d) there a)

  op_goes : (o : Op) → code.op_at n p ≡ Some (plain o) → Goes marks code k (m + 1) (act code (plain o) (called (compiled n) p x) fs w)
  op_goes (evaluate v) there = apart_goes (evaluate v) there refl tt tt
  op_goes (store q v) there = apart_goes (store q v) there refl tt tt
  op_goes (bind s q) there = apart_goes (bind s q) there refl tt (bind_fine s q (fits.whole.binds n p (bind s q) there))
  op_goes (call b args) there = apart_goes (call b args) there refl tt tt
  op_goes (construct q d args) there = apart_goes (construct q d args) there refl tt tt
  op_goes (destroy q d) there = destroys q d there (address_of (code.kinds_at n) x q)
  op_goes (make s) there = apart_goes (make s) there refl tt tt
  op_goes (throw s t d) there = apart_goes (throw s t d) there refl tt tt
  op_goes rethrow there = apart_goes rethrow there refl tt tt
  op_goes (enter s) there = apart_goes (enter s) there refl tt (c.helps n p (plain (enter s)) there)
  op_goes leave there = leaves_go marks code k c m (compiled n) p x fs w own rest world lives (helps_whole code (compiled n) x whole) (record { op = linear (plain leave); there = ap compiled_op there; made = refl })

  zero_goes : (v : Value) (l : ℕ) → code.op_at n p ≡ Some (jump_zero v l) → (o : Option ℤ) → Goes marks code k (m + 1) (jumped_zero code o l (called (compiled n) p x) fs w)
  zero_goes v l there None = tt
  zero_goes v l there (Some z) =
      either marks code k (m + 1) (is_zero z) (jumped code l (called (compiled n) p x) fs w) (on (called (compiled n) p x) x fs w)
      (leaves_path (jump_zero v l) there refl refl (code.label_at n l) (inr (l, refl, refl))) (leaves_path (jump_zero v l) there refl refl (p + 1) (inl (refl, refl)))

  -- a filter is tested
  filter_goes : (s l : ℕ) (z : ℤ) → code.op_at n p ≡ Some (jump_filter s z l) → Goes marks code k (m + 1) (act code (jump_filter s z l) (called (compiled n) p x) fs w)
  filter_goes s l z there = go (holds_number (x.slots s) z) refl
    where
      tested : k.carries n p ≡ true → (u : ℤ) → x.slots (k.selector n) ≡ number_word u → int_equal u z ≡ holds_number (x.slots s) z
      tested here u number = ap (λ y. holds_number y z) (sym (ap x.slots (c.tests n p s l z there here).0 ∙ number))

      go : (b : Bool) → holds_number (x.slots s) z ≡ b → Goes marks code k (m + 1) (if b then jumped code l (called (compiled n) p x) fs w else on (called (compiled n) p x) x fs w)
      go true e =
          moves_to (jump_filter s z l) there refl (code.label_at n l) (inr (l, refl, refl))
          (λ here next u number.
          ap (is_one_of u) (c.taken n p s l z there here next) ∙ ap (λ b. b || false) (tested here u number ∙ e) ∙
          sym (ap (is_one_of u) (c.tests n p s l z there here).1 ∙ ap (λ b. b || is_one_of u (k.left n (p + 1))) (tested here u number ∙ e)))
      go false e =
          moves_to (jump_filter s z l) there refl (p + 1) (inl (refl, refl))
          (λ here next u number.
          sym (ap (is_one_of u) (c.tests n p s l z there here).1 ∙ ap (λ b. b || is_one_of u (k.left n (p + 1))) (tested here u number ∙ e)))

  -- an object is given back
  free_goes : (s : ℕ) → code.op_at n p ≡ Some (free s) → is_being_built w (exception_in_slot x s) ≡ true → Goes marks code k (m + 1) (on (called (compiled n) p x) x fs (freed (exception_in_slot x s) w))
  free_goes s there built =
      let e = exception_in_slot x s in
      let v = with_item (Free e) w in
      let u = without_exception e v in
      let q = quiet w v refl refl refl refl refl in
      let held = building_held code k marks w None (called (compiled n) p x ∷ fs) (own, rest) e built (building_waits w e built) in
      let change = changes_then (But e) w v u (quiet_changes (But e) w v q) (without_changes e v) in
      let kept = calls_kept code k marks (But e) w u change None (called (compiled n) p x ∷ fs) (others_spared k e None (called (compiled n) p x ∷ fs) held) (own, rest) in
      let none = unhandled_building w e w.caught (building_waits w e built) world.built in
      top_goes marks code k (m + 1) (compiled n) (p + 1) x fs u own.forgets
      (moves marks code k c n p (free s) there refl (p + 1) (inl (refl, refl)) x fs u
      (λ here next z number. ap (is_one_of z) (c.others n p (free s) there here refl (λ a l y i. cc i))) kept.0.carries)
      tt tt kept.1 (without_keeps e v (m + 1) none (quiet_keeps (m + 1) w v q more))

  -- what was caught goes on outwards
  abbrev carried_word : Carried
  carried_word = record { word = x.slots (k.object n); home = k.home n p; number = x.slots (k.selector n); left = k.left n p }

  pub carried_here : (b : Bool) → b ≡ true → FlightGoes marks code (called (compiled n) p x) fs (if b then Some carried_word else None) w → WordGoes marks code (called (compiled n) p x) fs carried_word (x.slots (k.object n)) w
  carried_here true e h = h
  carried_here false e h = absurd (cc e)

  module _ (s : ℕ) (there : code.op_at n p ≡ Some (resume s)) where
    pub flight_there : WordGoes marks code (called (compiled n) p x) fs carried_word (x.slots (k.object n)) w
    flight_there = carried_here (k.carries n p) (c.resumes n p s there).0 own.carries

    pub aims_there : (e d : ℕ) → OnItsWay code (called (compiled n) p x) fs carried_word e d w → AimsAt code (type_at w e) d (called (compiled n) p x ∷ fs)
    aims_there e d h = by h.goes
      where
        by : ((is_one_of h.selector (k.left n p) ≡ true) × (d ≡ length fs)) ⊎ (IsOther h.selector (k.left n p) × AimsAt code (type_at w e) d (called (compiled n) (k.home n p) x ∷ fs)) → AimsAt code (type_at w e) d (called (compiled n) p x ∷ fs)
        by (inl i) = let never : false ≡ true = sym (ap (is_one_of h.selector) (c.ends n p s there).1) ∙ i.0 in absurd (cc never)
        by (inr i) = subst (λ q. AimsAt code (type_at w e) d (called (compiled n) q x ∷ fs)) (c.ends n p s there).0 i.1

    word_goes_on : (word : Word) → x.slots (k.object n) ≡ word → WordGoes marks code (called (compiled n) p x) fs carried_word word w → Goes marks code k (m + 1) (resumed code word (called (compiled n) p x) fs w)
    word_goes_on (flying e d) i h =
        resumed_goes marks code k c (m + 1) e d (called (compiled n) p x) fs w (aims_there e d h.0) own rest more h.0.can h.0.again refl (own.forgets (k.object n) e (c.object n) (ap address_in i)) h.1
    word_goes_on (unwinding z) i h = force_goes marks code k c (m + 1) w more z h.1 (called (compiled n) p x) fs own rest
    word_goes_on nothing i h = absurd h
    word_goes_on (number_word z) i h = absurd h
    word_goes_on (address_word a) i h = absurd h

    resume_goes : Goes marks code k (m + 1) (resumed code (x.slots s) (called (compiled n) p x) fs w)
    resume_goes =
        subst (λ o. Goes marks code k (m + 1) (resumed code (x.slots o) (called (compiled n) p x) fs w)) (sym (c.resumes n p s there).1)
        (word_goes_on (x.slots (k.object n)) refl flight_there)

  -- what a specification stopped is passed to the runtime
  passes_goes : (o s : ℕ) → code.op_at n p ≡ Some (unexpected o s) → Goes marks code k (m + 1) (act code (unexpected o s) (called (compiled n) p x) fs w)
  passes_goes o s there =
      top_goes marks code k (m + 1) call_unexpected 0 (stub_frame (x.slots o) (x.slots s) (number_word (pos n))) (called (compiled n) p x ∷ fs) w
      (λ t e help i. one_of (t == 0) (t == 1) (t == 2) e i) tt tt tt (waits_now code k marks call_unexpected (called (compiled n) p x) fs w (record { op = linear (unexpected o s); there = ap compiled_op there; made = (o, s, refl) }) own, rest) more
    where
      slots : (k.carries n p ≡ true) × (o ≡ k.object n) × (s ≡ k.selector n)
      slots = c.passes n p o s there

      own_word : (t : ℕ) → code.kinds_at n t ≡ help_slot → WordForgets marks code k call_unexpected (called (compiled n) p x ∷ fs) (x.slots t)
      own_word t help e i = (refl, refl, own.forgets t e help i)

      one_of : (a b d : Bool) → WordForgets marks code k call_unexpected (called (compiled n) p x ∷ fs) (if a then x.slots o else if b then x.slots s else if d then number_word (pos n) else nothing)
      one_of true b d = own_word o (ap (code.kinds_at n) slots.1 ∙ c.object n)
      one_of false true d = own_word s (ap (code.kinds_at n) slots.2 ∙ c.selector n)
      one_of false false true = number_forgets marks code k call_unexpected (called (compiled n) p x ∷ fs) (pos n)
      one_of false false false = nothing_forgets marks code k call_unexpected (called (compiled n) p x ∷ fs)

  pub act_goes : (o : LinearOp) → code.op_at n p ≡ Some o → Goes marks code k (m + 1) (act code o (called (compiled n) p x) fs w)
  act_goes (plain o) there = op_goes o there
  act_goes (label l) there =
      moves_to (label l) there refl (p + 1) (inl (refl, refl)) (λ here next z number. ap (is_one_of z) (c.others n p (label l) there here refl (λ a b y i. cc i)))
  act_goes (jump l) there = leaves_path (jump l) there refl refl (code.label_at n l) (inr (l, refl, refl))
  act_goes (jump_zero v l) there = zero_goes v l there (value_in (code.kinds_at n) x w v)
  act_goes (pad o s) there = tt
  act_goes (jump_filter s z l) there = filter_goes s l z there
  act_goes (free s) there = next_goes marks code k (m + 1) (is_being_built w (exception_in_slot x s)) w (on (called (compiled n) p x) x fs (freed (exception_in_slot x s) w)) (λ built. free_goes s there built)
  act_goes (resume s) there = resume_goes s there
  act_goes (unexpected o s) there = passes_goes o s there
  act_goes (return result) there = returned_goes marks code k c m w world lives (compiled n) refl refl (result_in result x w (code.kinds_at n)) fs rest others
