-- The second phase: an exception is raised, and the frames up to its target are unwound (Itanium C++ ABI: Exception Handling, level I, "Throwing an Exception").
use Rattle.std.specs.Prelude.{ℕ, ◌+◌, ℤ, pos, ◌==◌, List, [], ◌∷◌, length, Option, Some, None, if◌then◌else◌}
use Rattle.meaning_forms.specs.Outcome.{aborted}
use Rattle.region_forms.specs.World.{Word, number_word, flying, Frame, World, Exception, native, with_slot, exception_at, type_at}
use Rattle.region_forms.specs.Effect.{entered_doomed, flies}
use Rattle.linear_forms.specs.Linear.{pad}
use Rattle.linear_forms.specs.Tables.{Cover, bare, unpadded, padded}
use Rattle.linear_forms.specs.Verdict.{Verdict, target, no_way, clean, nothing_here, pad_verdict}
use Rattle.linear_forms.specs.Stub.{Function, CodeOp, linear}
use Rattle.linear_forms.specs.Activation.{Code, Activation, Next, finishes, by_program, fault, fetch, look, sense, at, terminated}
use Rattle.linear_forms.specs.Search.{found}

-- a pad is entered: its first operation says which slots get the object and the selector
abbrev pub pad_entered : Option CodeOp → Word → ℤ → Function → ℕ → Frame → List Activation → World → Next
pad_entered (Some (linear (pad o s))) x n f p frame fs w = at f (p + 1) (with_slot s (number_word n) (with_slot o x frame)) fs w
pad_entered _ x n f p frame fs w = finishes fault w

-- Nothing may come out of a place of this call. Terminate never comes back, so the place does not matter, but the call is still open.
abbrev pub terminated_in : Function → Frame → List Activation → World → Next
terminated_in f x fs w = terminated w.installed.terminate_handler (record { function = f; place = 0; frame = x } ∷ fs) w

-- a pad is entered for a cleanup, and for a handler or a specification at the target alone
abbrev pub unwound_by : Code → Verdict → (pad target exception : ℕ) → Function → Frame → List Activation → World → Next → Next
unwound_by code (target n) p t e f x fs w rest =
    if length fs == t then pad_entered (fetch code f p) (flying e t) n f p x fs w else finishes fault w
unwound_by code no_way p t e f x fs w rest = terminated_in f x fs w
unwound_by code clean p t e f x fs w rest = pad_entered (fetch code f p) (flying e t) (pos 0) f p x fs w
unwound_by code nothing_here p t e f x fs w rest = rest

-- one call is unwound from a cover in it, where `rest` unwinds those that wait
abbrev pub unwound_at : Code → Cover → (target exception : ℕ) → Function → Frame → List Activation → World → Next → Next
unwound_at code bare t e f x fs w rest = terminated_in f x fs w
unwound_at code unpadded t e f x fs w rest = rest
unwound_at code (padded p chain) t e f x fs w rest =
    unwound_by code (pad_verdict code.rows (sense code f) chain (type_at w e)) p t e f x fs w rest

-- calls that wait are unwound
abbrev pub unwound_above : Code → (target exception : ℕ) → List Activation → World → Next
unwound_above code t e [] w = finishes fault w
unwound_above code t e (a ∷ fs) w =
    unwound_at code (look code a.function a.place) t e a.function a.frame fs w (unwound_above code t e fs w)

-- an exception goes on towards its target, from a cover in the call that runs
abbrev pub unwind : Code → Cover → (target exception : ℕ) → Function → Frame → List Activation → World → Next
unwind code cover t e f x fs w = unwound_at code cover t e f x fs w (unwound_above code t e fs w)

-- a native exception that is doomed is entered, and the handler kept with it is used; a foreign one is not entered
abbrev pub doomed_by : ℕ → Exception → List Activation → World → Next
doomed_by e (native t d handlers) fs w = terminated handlers.terminate_handler fs (entered_doomed e w)
doomed_by e _ fs w = terminated w.installed.terminate_handler fs w

-- a doomed exception calls terminate before any pad is entered; while that is running, nothing is entered
abbrev pub doomed : ℕ → List Activation → World → Next
doomed e fs w = if w.ending then finishes (by_program aborted) w else doomed_by e (exception_at w e) fs w

-- an exception with a target, or without one
abbrev pub raised_to : Option ℕ → ℕ → List Activation → World → (ℕ → Next) → Next
raised_to None e fs w go = doomed e fs w
raised_to (Some t) e fs w go = go t

-- an exception is raised in a call: first the search, then the unwind
abbrev pub raise : Code → ℕ → Activation → List Activation → World → Next
raise code e a fs w =
    raised_to (found code a.function (look code a.function a.place) (type_at w e) fs) e (a ∷ fs) w
    (λ t. unwind code (look code a.function a.place) t e a.function a.frame fs (flies e w))
