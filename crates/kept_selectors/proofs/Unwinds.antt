-- An unwind keeps what open calls have in the slots for numbers, and a pad that it comes to gets one of its filters.
use Rattle.std.proofs.Common.{◌≡◌, ◌⊎◌, inl, inr, ℕ, zero, suc, ◌+◌, ℤ, pos, Bool, true, false, ◌==◌, List, [], ◌∷◌, length, Option, Some, None, is_some, refl, sym, ap, ◌∙◌, subst, if◌then◌else◌}
use Rattle.std.specs.Prelude.{slice_get}
use Rattle.meaning_forms.specs.Outcome.{aborted}
use Rattle.region_forms.specs.Form.{TypeRow}
use Rattle.region_forms.specs.Guard.{matches, allows}
use Rattle.region_forms.specs.World.{Word, nothing, number_word, flying, unwinding, Frame, World, Exception, building, native, foreign, with_slot, exception_at, type_at}
use Rattle.region_forms.specs.Effect.{entered_doomed, flies}
use Rattle.linear_forms.specs.Linear.{LinearOp, plain, label, jump, jump_zero, pad, jump_filter, free, resume, unexpected, return}
use Rattle.linear_forms.specs.Tables.{Cover, bare, unpadded, padded, Sense, cleanup, clause, list_of, no_sense}
use Rattle.linear_forms.specs.Verdict.{Verdict, target, no_way, clean, nothing_here, or_clean, judged, verdict, pad_verdict, has_cleanup}
use Rattle.linear_forms.specs.Stub.{Function, compiled, end_catch, terminating, call_unexpected, CodeOp, linear, runtime, StubRow, call_unexpected_rows, stub_op}
use Rattle.linear_forms.specs.Activation.{Code, Activation, Next, goes_to, finishes, by_program, fault, next_if, compiled_op, fetch, look, sense, at, stub_frame, function_word, terminated}
use Rattle.linear_forms.specs.Search.{found}
use Rattle.linear_forms.specs.Unwinding.{pad_entered, unwound_by, unwound_at, unwound_above, unwind, doomed_by, raised_to, raise}
use Rattle.linear_forms.specs.Forced.{forced_by, forced_at, forced_above, force}
use Rattle.flight_homes.specs.Keeps.{Carrying}
use Rattle.linear_invariant.specs.Code.{CodeCarries}
use Rattle.kept_selectors.specs.Stopping.{CodeStops}
use Rattle.kept_selectors.specs.Selectors.{IsChained, HasList, FrameNamed, SelectorsNamed}
use Rattle.kept_selectors.proofs.Frames.{lands}

-- what stops an exception is one of the filters
pub record IsAmong (z : ℤ) (chain : List ℤ) : Type 0 where
  pub index : ℕ
  pub is : slice_get chain index ≡ Some z

module _ (rows : List TypeRow) (senses : ℤ → Sense) (t : Option ℕ) where
  farther : (z n : ℤ) (chain : List ℤ) → IsAmong z chain → IsAmong z (n ∷ chain)
  farther z n chain h = record { index = suc h.index; is = h.is }

  nearest : (z n : ℤ) (chain : List ℤ) → target n ≡ target z → IsAmong z (n ∷ chain)
  nearest z n chain e = record { index = 0; is = cc e }

  one_among : (z n : ℤ) (chain : List ℤ) (rest : Verdict) → (rest ≡ target z → IsAmong z chain) → (t : Option ℕ) (s : Sense) → judged rows t n s rest ≡ target z → IsAmong z (n ∷ chain)
  one_among z n chain rest h t cleanup e = farther z n chain (h (by rest e))
    where
      by : (v : Verdict) → or_clean v ≡ target z → v ≡ target z
      by (target m) e = e
      by no_way e = absurd (cc e)
      by clean e = absurd (cc e)
      by nothing_here e = absurd (cc e)
  one_among z n chain rest h t (clause u) e = by (matches rows t u) e
    where
      by : (b : Bool) → (if b then target n else rest) ≡ target z → IsAmong z (n ∷ chain)
      by true e = nearest z n chain e
      by false e = farther z n chain (h e)
  one_among z n chain rest h None (list_of types) e = absurd (cc e)
  one_among z n chain rest h (Some u) (list_of types) e = by (allows rows types (Some u)) e
    where
      by : (b : Bool) → (if b then rest else target n) ≡ target z → IsAmong z (n ∷ chain)
      by true e = farther z n chain (h e)
      by false e = nearest z n chain e
  one_among z n chain rest h t no_sense e = farther z n chain (h e)

  verdict_among : (z : ℤ) (chain : List ℤ) → verdict rows senses chain t ≡ target z → IsAmong z chain
  verdict_among z [] e = absurd (cc e)
  verdict_among z (n ∷ chain) e = one_among z n chain (verdict rows senses chain t) (verdict_among z chain) t (senses n) e

  pub pad_among : (z : ℤ) (chain : List ℤ) → pad_verdict rows senses chain t ≡ target z → IsAmong z chain
  pad_among z [] e = absurd (cc e)
  pad_among z (n ∷ chain) e = verdict_among z (n ∷ chain) e

-- the pads of call_unexpected have slots 4 and 5
abbrev RowPad : Option CodeOp → Type 0
RowPad None = Unit {0}
RowPad (Some (runtime o)) = Unit {0}
RowPad (Some (linear (pad o s))) = (4 ≡ o) × (5 ≡ s)
RowPad (Some (linear o)) = Unit {0}

abbrev RowPads : List StubRow → Type 0
RowPads [] = Unit {0}
RowPads (x ∷ xs) = RowPad (Some x.op) × RowPads xs

row_pad : (rows : List StubRow) → RowPads rows → (p : ℕ) → RowPad (elim (slice_get rows p) [ None ↦ None | Some x ↦ Some x.op ])
row_pad [] h p = tt
row_pad (x ∷ xs) h zero = h.0
row_pad (x ∷ xs) h (suc p) = row_pad xs h.1 p

own_pads : RowPads call_unexpected_rows
own_pads = (tt, (tt, (tt, ((refl, refl), (tt, (tt, (tt, (tt, (tt, (tt, (tt, (tt, (tt, (tt, ((refl, refl), (tt, (tt, (tt, tt))))))))))))))))))

own_pad : (p o s : ℕ) → stub_op call_unexpected p ≡ Some (linear (pad o s)) → (4 ≡ o) × (5 ≡ s)
own_pad p o s e = subst RowPad e (row_pad call_unexpected_rows own_pads p)

compiled_pad : (x : Option LinearOp) (o s : ℕ) → compiled_op x ≡ Some (linear (pad o s)) → x ≡ Some (pad o s)
compiled_pad None o s e = absurd (cc e)
compiled_pad (Some y) o s e = let same : y ≡ pad o s = cc e in ap (λ z. Some z) same

module _ (code : Code) (k : Carrying) (c : CodeCarries code k) (t : CodeStops code) where
  -- the calls of what comes next
  abbrev pub Named : Next → Type 0
  Named (finishes e w) = Unit {0}
  Named (goes_to st) = SelectorsNamed code k (st.top ∷ st.frames)

  pub either : (b : Bool) (x y : Next) → Named x → Named y → Named (if b then x else y)
  either true x y h i = h
  either false x y h i = i

  pub next_named : (b : Bool) (w : World) (x : Next) → Named x → Named (next_if b w x)
  next_named true w x h = h
  next_named false w x h = tt

  -- a call that nothing may come out of stands at its first place
  pub first_named : (f : Function) (p : ℕ) (x : Frame) → FrameNamed code k f p x → FrameNamed code k f 0 x
  first_named (compiled n) p x h = λ carries. let never : false ≡ true = sym (c.first n) ∙ carries in absurd (cc never)
  first_named end_catch p x h = tt
  first_named terminating p x h = tt
  first_named call_unexpected p x h = h

  pub terminated_named : (h : Option ℕ) (fs : List Activation) (w : World) → SelectorsNamed code k fs → Named (terminated h fs w)
  terminated_named h fs w i =
      either w.ending (finishes (by_program aborted) w) (at terminating 0 (stub_frame (function_word h) nothing nothing) fs (record w { ending = is_some h })) tt (tt, i)

  pad_named : (o : Option CodeOp) (word : Word) (z : ℤ) (f : Function) (q : ℕ) (x : Frame) (fs : List Activation) (w : World) →
      ((a b : ℕ) → o ≡ Some (linear (pad a b)) → Named (at f (q + 1) (with_slot b (number_word z) (with_slot a word x)) fs w)) → Named (pad_entered o word z f q x fs w)
  pad_named None word z f q x fs w h = tt
  pad_named (Some (runtime o)) word z f q x fs w h = tt
  pad_named (Some (linear (plain o))) word z f q x fs w h = tt
  pad_named (Some (linear (label l))) word z f q x fs w h = tt
  pad_named (Some (linear (jump l))) word z f q x fs w h = tt
  pad_named (Some (linear (jump_zero v l))) word z f q x fs w h = tt
  pad_named (Some (linear (pad a b))) word z f q x fs w h = h a b refl
  pad_named (Some (linear (jump_filter s n l))) word z f q x fs w h = tt
  pad_named (Some (linear (free s))) word z f q x fs w h = tt
  pad_named (Some (linear (resume s))) word z f q x fs w h = tt
  pad_named (Some (linear (unexpected a b))) word z f q x fs w h = tt
  pad_named (Some (linear (return r))) word z f q x fs w h = tt

  -- the number that a pad may get
  abbrev Number : Function → ℤ → Type 0
  Number (compiled n) z = (z ≡ pos 0) ⊎ IsChained code n z
  Number f z = Unit {0}

  pads_named : (f : Function) (p q : ℕ) (x : Frame) (word : Word) (z : ℤ) (fs : List Activation) (w : World) → Number f z → FrameNamed code k f p x → SelectorsNamed code k fs → Named (pad_entered (fetch code f q) word z f q x fs w)
  pads_named (compiled n) p q x word z fs w number h i =
      pad_named (compiled_op (code.op_at n q)) word z (compiled n) q x fs w (λ a b e. (lands code k c t n q a b word z x (compiled_pad (code.op_at n q) a b e) number, i))
  pads_named end_catch p q x word z fs w number h i = pad_named (stub_op end_catch q) word z end_catch q x fs w (λ a b e. (tt, i))
  pads_named terminating p q x word z fs w number h i = pad_named (stub_op terminating q) word z terminating q x fs w (λ a b e. (tt, i))
  pads_named call_unexpected p q x word z fs w number h i =
      pad_named (stub_op call_unexpected q) word z call_unexpected q x fs w (λ a b e. (by a b (own_pad q a b e), i))
    where
      here : HasList code (with_slot 5 (number_word z) (with_slot 4 word x))
      here = record { owner = h.owner; owner_is = h.owner_is; list = h.list; list_is = h.list_is; chained = h.chained }

      by : (a b : ℕ) → (4 ≡ a) × (5 ≡ b) → HasList code (with_slot b (number_word z) (with_slot a word x))
      by a b e = subst (λ b. HasList code (with_slot b (number_word z) (with_slot a word x))) e.1 (subst (λ a. HasList code (with_slot 5 (number_word z) (with_slot a word x))) e.0 here)

  module _ (f : Function) (p : ℕ) (x : Frame) (fs : List Activation) (w : World) (h : FrameNamed code k f p x) (i : SelectorsNamed code k fs) (rest : Next) (others : Named rest) where
    ends_here : Named (terminated w.installed.terminate_handler (record { function = f; place = 0; frame = x } ∷ fs) w)
    ends_here = terminated_named w.installed.terminate_handler (record { function = f; place = 0; frame = x } ∷ fs) w (first_named f p x h, i)

    none : (f : Function) → Number f (pos 0)
    none (compiled n) = inl refl
    none end_catch = tt
    none terminating = tt
    none call_unexpected = tt

    stopping : (f : Function) (q : ℕ) (chain : List ℤ) (u : Option ℕ) (z : ℤ) → look code f p ≡ padded q chain → pad_verdict code.rows (sense code f) chain u ≡ target z → Number f z
    stopping (compiled n) q chain u z covers e =
        let among = pad_among code.rows (code.sense_at n) u z chain e in inr (record { place = p; pad = q; chain = chain; covers = covers; index = among.index; is = among.is })
    stopping end_catch q chain u z covers e = tt
    stopping terminating q chain u z covers e = tt
    stopping call_unexpected q chain u z covers e = tt

    verdict_named : (q d e : ℕ) (v : Verdict) → ((z : ℤ) → v ≡ target z → Number f z) → Named (unwound_by code v q d e f x fs w rest)
    verdict_named q d e (target z) number =
        either (length fs == d) (pad_entered (fetch code f q) (flying e d) z f q x fs w) (finishes fault w) (pads_named f p q x (flying e d) z fs w (number z refl) h i) tt
    verdict_named q d e no_way number = ends_here
    verdict_named q d e clean number = pads_named f p q x (flying e d) (pos 0) fs w (none f) h i
    verdict_named q d e nothing_here number = others

    unwound_named : (cv : Cover) (d e : ℕ) → look code f p ≡ cv → Named (unwound_at code cv d e f x fs w rest)
    unwound_named bare d e covers = ends_here
    unwound_named unpadded d e covers = others
    unwound_named (padded q chain) d e covers = verdict_named q d e (pad_verdict code.rows (sense code f) chain (type_at w e)) (λ z j. stopping f q chain (type_at w e) z covers j)

    cleanup_named : (b : Bool) (q : ℕ) (z : ℤ) → Named (forced_by code b q z f x fs w rest)
    cleanup_named true q z = pads_named f p q x (unwinding z) (pos 0) fs w (none f) h i
    cleanup_named false q z = others

    forced_named : (cv : Cover) (z : ℤ) → Named (forced_at code cv z f x fs w rest)
    forced_named bare z = ends_here
    forced_named unpadded z = others
    forced_named (padded q chain) z = cleanup_named (has_cleanup (sense code f) chain) q z

  above_named : (d e : ℕ) (fs : List Activation) (w : World) → SelectorsNamed code k fs → Named (unwound_above code d e fs w)
  above_named d e [] w h = tt
  above_named d e (a ∷ fs) w h = unwound_named a.function a.place a.frame fs w h.0 h.1 (unwound_above code d e fs w) (above_named d e fs w h.1) (look code a.function a.place) d e refl

  forced_above_named : (z : ℤ) (fs : List Activation) (w : World) → SelectorsNamed code k fs → Named (forced_above code z fs w)
  forced_above_named z [] w h = tt
  forced_above_named z (a ∷ fs) w h = forced_named a.function a.place a.frame fs w h.0 h.1 (forced_above code z fs w) (forced_above_named z fs w h.1) (look code a.function a.place) z

  module _ (a : Activation) (fs : List Activation) (h : SelectorsNamed code k (a ∷ fs)) where
    pub unwind_named : (d e : ℕ) (w : World) → Named (unwind code (look code a.function a.place) d e a.function a.frame fs w)
    unwind_named d e w = unwound_named a.function a.place a.frame fs w h.0 h.1 (unwound_above code d e fs w) (above_named d e fs w h.1) (look code a.function a.place) d e refl

    pub force_named : (z : ℤ) (w : World) → Named (force code (look code a.function a.place) z a.function a.frame fs w)
    force_named z w = forced_named a.function a.place a.frame fs w h.0 h.1 (forced_above code z fs w) (forced_above_named z fs w h.1) (look code a.function a.place) z

    doomed_named : (e : ℕ) (x : Exception) (w : World) → Named (doomed_by e x (a ∷ fs) w)
    doomed_named e building w = terminated_named w.installed.terminate_handler (a ∷ fs) w h
    doomed_named e (native u d handlers) w = terminated_named handlers.terminate_handler (a ∷ fs) (entered_doomed e w) h
    doomed_named e (foreign j u) w = terminated_named w.installed.terminate_handler (a ∷ fs) w h

    pub raise_named : (e : ℕ) (w : World) → Named (raise code e a fs w)
    raise_named e w = go (found code a.function (look code a.function a.place) (type_at w e) fs)
      where
        go : (o : Option ℕ) → Named (raised_to o e (a ∷ fs) w (λ d. unwind code (look code a.function a.place) d e a.function a.frame fs (flies e w)))
        go None = either w.ending (finishes (by_program aborted) w) (doomed_by e (exception_at w e) (a ∷ fs) w) tt (doomed_named e (exception_at w e) w)
        go (Some d) = unwind_named d e (flies e w)
