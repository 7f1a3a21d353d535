-- The pad that control comes to next, where a raise goes on towards its target.
use Rattle.std.proofs.Common.{◌≡◌, ◌∙◌, refl, ap, sym, arith, ℕ, ◌+◌, ◌<◌, ◌≤◌, ◌==◌, ℤ, pos, negsuc, Bool, true, false, List, [], ◌∷◌, ◌++◌, length, inl, inr, if◌then◌else◌}
use Rattle.std.specs.Prelude.{◌⊎◌, ◌||◌, Some}
use Rattle.std.proofs.lemmas.Bool.Decides.{nat_tests}
use Rattle.table_forms.specs.declared.found.Verdict.TheVariants as abi_verdicts
use Rattle.table_forms.specs.Fde.{Fde}
use Rattle.table_forms.specs.Verdict.{Thrown}
use Rattle.rv64_isa.specs.State.{State}
use Rattle.frame_walk.specs.declared.frame.Frame.{Frame}
use Rattle.raise_core.specs.declared.goal.Goal.TheVariants as goals
use Rattle.raise_core.specs.Asked.{verdict_of}
use Rattle.raise_core.specs.First.{stops, first_in, is_with_cfa, is_at}
use Rattle.region_forms.specs.World.{flying, World, type_at}
use Rattle.linear_forms.specs.Tables.{Cover, bare, unpadded, padded}
use Rattle.linear_forms.specs.Verdict.{Verdict, target, no_way, clean, nothing_here}
use Rattle.linear_forms.specs.Stub.{Function}
use Rattle.linear_forms.specs.Activation.{Code, Activation, Next, finishes, fault, fetch}
use Rattle.linear_forms.specs.Unwinding.{pad_entered, terminated_in, unwound_by, unwound_at, unwound_above}
use Rattle.raise_simulation.specs.OpenCalls.{CallsStand, outward, frames_of}
use Rattle.raise_simulation.specs.Tables.{said}
use Rattle.raise_simulation.specs.Verdicts.{in_words, told_of, judged_by, cover_of}
use Rattle.raise_simulation.specs.Opens.{Open, activations, calls, TablesAgree, cfa_with}
use Rattle.raise_simulation.specs.Raises.{IsTerminated}
use Rattle.raise_simulation.proofs.Outward.{IsFrame, outward_frame}
use Rattle.raise_simulation.proofs.Asking.{verdict_is, target_is, stops_here, passes_here}
use Rattle.raise_simulation.proofs.Searching.{waiting_length, farther, nearest}
use Rattle.raise_simulation.proofs.Landing.{Comes, comes_here, comes_behind}

inside : (many : ℕ) (inner : List Open) (stopping : Open) (outer : List Open) → length outer + many < length (inner ++ stopping ∷ outer) + many
inside many [] stopping outer = omega arith
inside many (x ∷ xs) stopping outer = let more = inside many xs stopping outer in omega (arith, more)

-- the target lies above the first of some calls
above_first : (s : State) (fdes : List Fde) (ip sp many : ℕ) (inner : List Open) (stopping : Open) (outer : List Open) → CallsStand s fdes ip sp (calls (inner ++ stopping ∷ outer)) →
    sp < cfa_with (length outer + many) many sp (inner ++ stopping ∷ outer)
above_first s fdes ip sp many [] stopping outer stand =
    let some = stand.0.some in
    let is = nearest (length outer + many) many sp stopping outer refl in
    omega (arith, some, is)
above_first s fdes ip sp many (o ∷ inner) stopping outer stand =
    let some = stand.0.some in
    let rest : List Open = inner ++ stopping ∷ outer in
    let more = above_first s fdes o.call.back (sp + o.call.size) many inner stopping outer stand.1 in
    let is = farther (length outer + many) many sp o rest (inside many inner stopping outer) in
    omega (arith, some, is, more)

is_target_frame : (s : State) (fdes : List Fde) (f : Frame) (sp cfa : ℕ) (o : Open) → IsFrame f sp → CallsStand s fdes f.pc sp (o.call ∷ []) → (b : Bool) → (sp + o.call.size == cfa) ≡ b → is_at fdes cfa f ≡ b
is_target_frame s fdes f sp cfa o h stand b is = ap (is_with_cfa cfa) (target_is s fdes f sp o.call h stand.0) ∙ is

module _ (code : Code) (at : Function → ℕ → ℕ) (fdes : List Fde) (thrown : Thrown) (s : State) (tail : List Activation) (rest : List Frame) (e cfa : ℕ) (w : World) where
  -- a frame that is entered for a cleanup is not the target
  abbrev pub IsBefore : Frame → Verdict → Type 0
  IsBefore g v = v ≡ clean → is_at fdes cfa g ≡ false

  -- the phase stops at a frame out of which nothing may come
  pub record Barred (next : Next) (f : Frame) (sp : ℕ) (opens : List Open) : Type 0 where
    pub terminated : IsTerminated w opens tail next
    pub frame : Frame
    pub first : first_in s fdes thrown (goals.UpTo cfa) (frames_of f sp (calls opens) ++ rest) ≡ Some frame
    pub says : verdict_of s fdes thrown frame ≡ abi_verdicts.Terminate

  abbrev pub Resumed : ℕ → Next → Frame → ℕ → List Open → Type 0
  Resumed d next f sp opens =
      Comes code at fdes thrown s tail rest (goals.UpTo cfa) IsBefore (flying e d) w next f sp opens ⊎ Barred next f sp opens ⊎ (next ≡ finishes fault w)

  barred_here : (next : Next) (f : Frame) (sp : ℕ) (o : Open) (os : List Open) → verdict_of s fdes thrown f ≡ abi_verdicts.Terminate →
      next ≡ terminated_in o.activation.function o.activation.frame (activations os ++ tail) w → (b : Bool) → is_at fdes cfa f ≡ b → Barred next f sp (o ∷ os)
  barred_here next f sp o os says is b there = record {
    terminated = record { inner = []; barring = o.activation; outer = activations os ++ tail; split = refl; terminates = is };
    frame = f;
    first = stops_here s fdes thrown (goals.UpTo cfa) f (frames_of (outward f sp o.call) (sp + o.call.size) (calls os) ++ rest) abi_verdicts.Terminate says (by b there);
    says = says;
  }
    where
      by : (b : Bool) → is_at fdes cfa f ≡ b → (is_at fdes cfa f || true) ≡ true
      by true is = ap (λ x. x || true) is
      by false is = ap (λ x. x || true) is

  behind : (d : ℕ) (next : Next) (f : Frame) (sp : ℕ) (o : Open) (os : List Open) → length o.call.saved ≤ 10 → verdict_of s fdes thrown f ≡ abi_verdicts.Nothing → is_at fdes cfa f ≡ false →
      Resumed d next (outward f sp o.call) (sp + o.call.size) os → Resumed d next f sp (o ∷ os)
  behind d next f sp o os few says other (inl comes) =
      inl (comes_behind code at fdes thrown s tail rest (goals.UpTo cfa) IsBefore (flying e d) w next f sp o os abi_verdicts.Nothing few says (ap (λ b. b || false) other) comes)
  behind d next f sp o os few says other (inr (inl barred)) =
      let t = barred.terminated in
      inr (inl (record {
        terminated = record { inner = o.activation ∷ t.inner; barring = t.barring; outer = t.outer; split = ap (λ l. o.activation ∷ l) t.split; terminates = t.terminates };
        frame = barred.frame;
        first = passes_here s fdes thrown (goals.UpTo cfa) f (frames_of (outward f sp o.call) (sp + o.call.size) (calls os) ++ rest) abi_verdicts.Nothing says (ap (λ b. b || false) other) ∙ barred.first;
        says = barred.says;
      }))
  behind d next f sp o os few says other (inr (inr lost)) = inr (inr lost)

  stops_target : (f : Frame) (pad : ℕ) (n : ℤ) → is_at fdes cfa f ≡ true → stops fdes (goals.UpTo cfa) f (in_words pad (target n)) ≡ true
  stops_target f pad (pos n) is = ap (λ b. b || false) is
  stops_target f pad (negsuc n) is = ap (λ b. b || false) is

  not_clean : (f : Frame) (n : ℤ) → IsBefore f (target n)
  not_clean f n same = absurd (cc same)

  -- a call that is passed before the target
  past : (d : ℕ) (f : Frame) (sp : ℕ) (o : Open) (os : List Open) → IsFrame f sp → CallsStand s fdes f.pc sp (o.call ∷ []) →
      said s fdes thrown f.pc ≡ told_of (at o.activation.function) (cover_of code o.activation) (judged_by code o.activation (type_at w e)) → is_at fdes cfa f ≡ false → d < length os + length tail →
      Resumed d (unwound_above code d e (activations os ++ tail) w) (outward f sp o.call) (sp + o.call.size) os → Resumed d (unwound_above code d e (activations (o ∷ os) ++ tail) w) f sp (o ∷ os)
  past d f sp o os h stand agree other out next = by (cover_of code a) refl
    where
      a : Activation
      a = o.activation

      fs : List Activation
      fs = activations os ++ tail

      v_is : (c : Cover) → cover_of code a ≡ c → verdict_of s fdes thrown f ≡ told_of (at a.function) c (judged_by code a (type_at w e))
      v_is c is = verdict_is s fdes thrown f h.plain ∙ agree ∙ ap (λ x. told_of (at a.function) x (judged_by code a (type_at w e))) is

      by_verdict : (p : ℕ) (chain : List ℤ) (v : Verdict) → cover_of code a ≡ padded p chain → verdict_of s fdes thrown f ≡ in_words (at a.function p) v →
          Resumed d (unwound_by code v p d e a.function a.frame (activations os ++ tail) w (unwound_above code d e (activations os ++ tail) w)) f sp (o ∷ os)
      by_verdict p chain (target n) covers says =
          let depth = waiting_length os tail in
          let less : (length (activations os ++ tail) == d) ≡ false = grind (arith, nat_tests, depth, out) in
          inr (inr (ap (λ b. if b then pad_entered (fetch code a.function p) (flying e d) n a.function p a.frame (activations os ++ tail) w else finishes fault w) less))
      by_verdict p chain no_way covers says = inr (inl (barred_here _ f sp o os says refl false other))
      by_verdict p chain clean covers says =
          inl (comes_here code at fdes thrown s tail rest (goals.UpTo cfa) IsBefore (flying e d) w _ f sp o os p chain clean (pos 0) h covers says refl (ap (λ b. b || true) other) (λ same. other) refl)
      by_verdict p chain nothing_here covers says = behind d _ f sp o os stand.0.few says other next

      by : (c : Cover) → cover_of code a ≡ c → Resumed d (unwound_at code c d e a.function a.frame (activations os ++ tail) w (unwound_above code d e (activations os ++ tail) w)) f sp (o ∷ os)
      by bare is = inr (inl (barred_here _ f sp o os (v_is bare is) refl false other))
      by unpadded is = behind d _ f sp o os stand.0.few (v_is unpadded is) other next
      by (padded p chain) is = by_verdict p chain (judged_by code a (type_at w e) chain) is (v_is (padded p chain) is)

  pub resumes : (inner : List Open) (stopping : Open) (outer : List Open) (p : ℕ) (chain : List ℤ) (n : ℤ) → cover_of code stopping.activation ≡ padded p chain → judged_by code stopping.activation (type_at w e) chain ≡ target n →
      (f : Frame) (sp : ℕ) → IsFrame f sp → CallsStand s fdes f.pc sp (calls (inner ++ stopping ∷ outer)) → TablesAgree code at (λ a. judged_by code a (type_at w e)) (said s fdes thrown) f.pc (inner ++ stopping ∷ outer) →
      cfa ≡ cfa_with (length outer + length tail) (length tail) sp (inner ++ stopping ∷ outer) →
      Resumed (length outer + length tail) (unwound_above code (length outer + length tail) e (activations (inner ++ stopping ∷ outer) ++ tail) w) f sp (inner ++ stopping ∷ outer)
  resumes [] o outer p chain n covers stopped f sp h stand agree to =
      inl (comes_here code at fdes thrown s tail rest (goals.UpTo cfa) IsBefore (flying e d) w _ f sp o outer p chain (target n) n h covers says refl
      (stops_target f (at a.function p) n there) (not_clean f n) goes)
    where
      d : ℕ
      d = length outer + length tail

      a : Activation
      a = o.activation

      says : verdict_of s fdes thrown f ≡ in_words (at a.function p) (target n)
      says = verdict_is s fdes thrown f h.plain ∙ agree.0 ∙ ap (λ x. told_of (at a.function) x (judged_by code a (type_at w e))) covers ∙ ap (in_words (at a.function p)) stopped

      there : is_at fdes cfa f ≡ true
      there = let is : sp + o.call.size ≡ cfa = sym (to ∙ nearest (length outer + length tail) (length tail) sp o outer refl) in
          is_target_frame s fdes f sp cfa o h (stand.0, tt) true (grind (arith, nat_tests, is))

      goes : unwound_above code d e (a ∷ (activations outer ++ tail)) w ≡ pad_entered (fetch code a.function p) (flying e d) n a.function p a.frame (activations outer ++ tail) w
      goes =
          let depth = waiting_length outer tail in
          let same : (length (activations outer ++ tail) == d) ≡ true = grind (arith, nat_tests, depth) in
          ap (λ c. unwound_at code c d e a.function a.frame (activations outer ++ tail) w (unwound_above code d e (activations outer ++ tail) w)) covers
          ∙ ap (λ v. unwound_by code v p d e a.function a.frame (activations outer ++ tail) w (unwound_above code d e (activations outer ++ tail) w)) stopped
          ∙ ap (λ b. if b then pad_entered (fetch code a.function p) (flying e d) n a.function p a.frame (activations outer ++ tail) w else finishes fault w) same
  resumes (o ∷ inner) stopping outer p chain n covers stopped f sp h stand agree to =
      let os : List Open = inner ++ stopping ∷ outer in
      let d : ℕ = length outer + length tail in
      let out = farther d (length tail) sp o os (inside (length tail) inner stopping outer) in
      let more = above_first s fdes o.call.back (sp + o.call.size) (length tail) inner stopping outer stand.1 in
      let other : (sp + o.call.size == cfa) ≡ false = grind (arith, nat_tests, to, out, more) in
      past d f sp o os h (stand.0, tt) agree.0 (is_target_frame s fdes f sp cfa o h (stand.0, tt) false other) (inside (length tail) inner stopping outer)
      (resumes inner stopping outer p chain n covers stopped (outward f sp o.call) (sp + o.call.size) (outward_frame s fdes f.pc f sp o.call stand.0) stand.1 agree.1 (to ∙ out))
