-- What each open call has left: what its function weighs at most, less the rank of its place, and less the operation at which it waits.
use Rattle.std.proofs.Common.{◌≡◌, ℤ, ℕ, ◌+◌, ◌-◌, ◌*◌, ◌≤◌, ◌==◌, Bool, true, false, List, [], ◌∷◌, length, Option, Some, None, refl, if◌then◌else◌, arith, ap, ◌∙◌}
use Rattle.std.specs.Prelude.{pos, zero, suc, is_some}
use Rattle.meaning_forms.specs.Outcome.{aborted}
use Rattle.region_forms.specs.World.{Word, nothing, flying, unwinding, Frame, World, type_at}
use Rattle.linear_forms.specs.Linear.{plain, label, jump, jump_zero, pad, jump_filter, free, resume, unexpected, return}
use Rattle.linear_forms.specs.Tables.{Cover, bare, unpadded, padded}
use Rattle.linear_forms.specs.Verdict.{Verdict, target, no_way, clean, nothing_here, pad_verdict, has_cleanup}
use Rattle.linear_forms.specs.Stub.{Function, terminating, call_unexpected, CodeOp, linear, runtime, destroy_held, call_held, terminating_rows, stub_cover}
use Rattle.linear_forms.specs.Activation.{Code, Activation, State, Next, goes_to, finishes, fault, fetch, look, sense, by_program, at, stub_frame, function_word, terminated}
use Rattle.linear_forms.specs.Unwinding.{pad_entered, unwound_by, unwound_at}
use Rattle.linear_forms.specs.Forced.{forced_by, forced_at}
use Rattle.cost_turns.specs.Weights.{is_own, rows_weight, whole, weight_of, pad_weight}
use Rattle.cost_turns.specs.Runs.{in_front}
use Rattle.cost_turns.specs.Turns.{flag, is_terminating, begins_terminate}
use Rattle.cost_turns.proofs.Pace.{NoJump, cap, Paced}

-- nothing below terminate runs again
abbrev pub beneath : Bool → ℕ → ℕ
beneath true n = 0
beneath false n = n

abbrev pub Unless : Bool → Type 0 → Type 0
Unless true X = Unit {0}
Unless false X = X

-- An open call waits at an operation that calls. Only the runtime's own function for that is called where an exception is passed on for good.
abbrev pub WaitsAt : Function → Option CodeOp → Type 0
WaitsAt f (Some (linear (plain o))) = Unit {0}
WaitsAt f (Some (linear (unexpected o s))) = f ≡ call_unexpected
WaitsAt f (Some (runtime (destroy_held s o))) = Unit {0}
WaitsAt f (Some (runtime (call_held s))) = Unit {0}
WaitsAt f o = ⊥

module _ (code : Code) (weigh : Bool → CodeOp → ℕ) (longest : ℕ) (rank : Function → ℕ → ℕ) (pace : Paced code weigh longest rank) (ending : rows_weight (weigh true) terminating_rows ≤ longest) where
  abbrev pub waiting_left : Activation → ℕ
  waiting_left a = cap weigh longest a.function - (rank a.function a.place + weight_of (whole weigh (is_own a.function)) (fetch code a.function a.place))

  abbrev pub below_left : List Activation → ℕ
  below_left [] = 0
  below_left (a ∷ fs) = waiting_left a + beneath (is_terminating a.function) (below_left fs)

  -- what all open calls have left where a call of a function runs at a place
  abbrev pub left_at : Function → ℕ → List Activation → ℕ
  left_at f p fs = cap weigh longest f - rank f p + beneath (is_terminating f) (below_left fs)

  abbrev pub left : State → ℕ
  left st = left_at st.top.function st.top.place st.frames

  abbrev pub Linked : Function → List Activation → Type 0
  Linked f [] = Unit {0}
  Linked f (a ∷ fs) = Unless (is_terminating f) (WaitsAt f (fetch code a.function a.place) × Linked a.function fs)

  -- what comes next has no more left, unless terminate begins
  abbrev pub Comes : ℕ → Next → Type 0
  Comes n (finishes e w) = Unit {0}
  Comes n (goes_to next) = (left next ≤ n + longest * flag (begins_terminate next)) × Linked next.top.function next.frames

  pub at_comes : (n : ℕ) (f : Function) (p : ℕ) (x : Frame) (fs : List Activation) (w : World) → left_at f p fs ≤ n → Linked f fs → Comes n (at f p x fs w)
  at_comes n f p x fs w small linked = (omega (arith, small), linked)

  -- what the landing pad weighs that stands in front of a place
  abbrev pub pad_at : Function → ℕ → ℕ
  pad_at f p = pad_weight (weigh (is_own f)) (in_front code f p)

  -- and so it is with the landing pad that was entered
  abbrev pub Reached : ℕ → Next → Type 0
  Reached n (finishes e w) = Unit {0}
  Reached n (goes_to next) = (pad_at next.top.function next.top.place + left next ≤ n + longest * flag (begins_terminate next)) × Linked next.top.function next.frames

  free_below : (fs : List Activation) → Linked terminating fs
  free_below [] = tt
  free_below (a ∷ fs) = tt

  pub terminated_reached : (n : ℕ) (h : Option ℕ) (fs : List Activation) (w : World) → Reached n (terminated h fs w)
  terminated_reached n h fs w = go w.ending
    where
      here : left_at terminating 0 fs ≤ n + longest * 1
      here = omega (arith, ending)

      go : (b : Bool) → Reached n (if b then finishes (by_program aborted) w else at terminating 0 (stub_frame (function_word h) nothing nothing) fs (record w { ending = is_some h }))
      go true = tt
      go false = (omega (arith, here), free_below fs)

  -- a pad that has no lower rank is entered
  pub pad_reached : (n : ℕ) (f : Function) (q b : ℕ) (x : Word) (z : ℤ) (frame : Frame) (fs : List Activation) (w : World) → b ≤ rank f q → cap weigh longest f - b + beneath (is_terminating f) (below_left fs) ≤ n →
      Linked f fs → Reached n (pad_entered (fetch code f q) x z f q frame fs w)
  pad_reached n f q b x z frame fs w le room linked = go (fetch code f q) refl
    where
      behind_pad : in_front code f (q + 1) ≡ fetch code f q
      behind_pad = let count : q + 1 ≡ suc q = omega arith in ap (in_front code f) count

      at_pad : (o s : ℕ) → fetch code f q ≡ Some (linear (pad o s)) → pad_at f (q + 1) + left_at f (q + 1) fs ≤ n
      at_pad o s e =
          let up = pace.next f q (linear (pad o s)) e refl in
          let own : pad_at f (q + 1) ≡ weigh (is_own f) (linear (pad o s)) = ap (pad_weight (weigh (is_own f))) (behind_pad ∙ e) in
          let inside = pace.inside f q (linear (pad o s)) e in
          omega (arith, up, own, le, room, inside)

      go : (o : Option CodeOp) → fetch code f q ≡ o → Reached n (pad_entered o x z f q frame fs w)
      go None e = tt
      go (Some (linear (pad o s))) e = let enough = at_pad o s e in (omega (arith, enough), linked)
      go (Some (linear (plain o))) e = tt
      go (Some (linear (label l))) e = tt
      go (Some (linear (jump l))) e = tt
      go (Some (linear (jump_zero v l))) e = tt
      go (Some (linear (jump_filter s m l))) e = tt
      go (Some (linear (free s))) e = tt
      go (Some (linear (resume s))) e = tt
      go (Some (linear (unexpected o s))) e = tt
      go (Some (linear (return r))) e = tt
      go (Some (runtime o)) e = tt

  -- nothing comes out of terminate
  pub terminate_bare : (p : ℕ) → stub_cover terminating p ≡ bare
  terminate_bare zero = refl
  terminate_bare (suc zero) = refl
  terminate_bare (suc (suc p)) = refl

  -- an unwind of a call from a place with an operation, where what is left below suffices for the calls that wait
  module _ (n : ℕ) (f : Function) (p : ℕ) (o : CodeOp) (fs : List Activation) (there : fetch code f p ≡ Some o) (no_jump : NoJump o)
      (room : cap weigh longest f - (rank f p + whole weigh (is_own f) o) + beneath (is_terminating f) (below_left fs) ≤ n) (linked : Linked f fs) where
    pad_below : (q : ℕ) (chain : List ℤ) (x : Word) (z : ℤ) (frame : Frame) (w : World) → look code f p ≡ padded q chain → Reached n (pad_entered (fetch code f q) x z f q frame fs w)
    pad_below q chain x z frame w covered = pad_reached n f q (rank f p + whole weigh (is_own f) o) x z frame fs w (pace.pads f p q chain o there covered no_jump) room linked

    pub unwound_reached : (t e : ℕ) (x : Frame) (w : World) (rest : Next) → Reached n rest → Reached n (unwound_at code (look code f p) t e f x fs w rest)
    unwound_reached t e x w rest h = by (look code f p) refl
      where
        chosen : (q : ℕ) (chain : List ℤ) → look code f p ≡ padded q chain → (v : Verdict) → Reached n (unwound_by code v q t e f x fs w rest)
        chosen q chain covered (target z) = go (length fs == t)
          where
            go : (b : Bool) → Reached n (if b then pad_entered (fetch code f q) (flying e t) z f q x fs w else finishes fault w)
            go true = pad_below q chain (flying e t) z x w covered
            go false = tt
        chosen q chain covered no_way = terminated_reached n w.installed.terminate_handler (record { function = f; place = 0; frame = x } ∷ fs) w
        chosen q chain covered clean = pad_below q chain (flying e t) (pos 0) x w covered
        chosen q chain covered nothing_here = h

        by : (c : Cover) → look code f p ≡ c → Reached n (unwound_at code c t e f x fs w rest)
        by bare covered = terminated_reached n w.installed.terminate_handler (record { function = f; place = 0; frame = x } ∷ fs) w
        by unpadded covered = h
        by (padded q chain) covered = chosen q chain covered (pad_verdict code.rows (sense code f) chain (type_at w e))

    pub forced_reached : (z : ℤ) (x : Frame) (w : World) (rest : Next) → Reached n rest → Reached n (forced_at code (look code f p) z f x fs w rest)
    forced_reached z x w rest h = by (look code f p) refl
      where
        chosen : (q : ℕ) (chain : List ℤ) → look code f p ≡ padded q chain → (b : Bool) → Reached n (forced_by code b q z f x fs w rest)
        chosen q chain covered true = pad_below q chain (unwinding z) (pos 0) x w covered
        chosen q chain covered false = h

        by : (c : Cover) → look code f p ≡ c → Reached n (forced_at code c z f x fs w rest)
        by bare covered = terminated_reached n w.installed.terminate_handler (record { function = f; place = 0; frame = x } ∷ fs) w
        by unpadded covered = h
        by (padded q chain) covered = chosen q chain covered (has_cleanup (sense code f) chain)
