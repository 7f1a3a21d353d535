-- What the machine does at one operation that only the runtime makes (ISO/IEC 14882:2003, 15.5; Itanium C++ ABI: Exception Handling, section 2.5.3).
use Rattle.std.specs.Prelude.{ℕ, ◌+◌, ℤ, pos, Bool, false, ◌==◌, ◌&&◌, max, List, [], ◌∷◌, Option, Some, None, if◌then◌else◌}
use Rattle.run_items.specs.declared.item.Item.TheVariants.{Destroy}
use Rattle.meaning_forms.specs.Class.{contains}
use Rattle.meaning_forms.specs.Outcome.{aborted}
use Rattle.region_forms.specs.Form.{TypeRow}
use Rattle.region_forms.specs.Caught.{gives_back}
use Rattle.region_forms.specs.World.{Word, number_word, address_word, World, Exception, building, native, foreign, object_address, with_slot, address_in, exception_of, exception_in_slot, with_item, exception_at, type_at}
use Rattle.region_forms.specs.Lives.{is_native, may_enter, may_leave}
use Rattle.region_forms.specs.Guard.{allows}
use Rattle.region_forms.specs.Effect.{entered, left, newest_of, cleaned_up}
use Rattle.region_forms.specs.Ending.{bad_row}
use Rattle.region_forms.specs.Unexpected.{kept_with}
use Rattle.linear_forms.specs.Tables.{Sense, list_of, no_sense}
use Rattle.linear_forms.specs.Stub.{StubOp, leave_newest, destroy_held, call_held, begin_unexpected, check_unexpected, construct_bad, terminate_for, abort}
use Rattle.linear_forms.specs.Activation.{Code, Activation, Next, finishes, by_program, next_if, at, on, depth_of, enters_function, function_word, terminated}

-- The exception that was left is given back: it is destroyed next, or cleaned up at once if it is foreign. One that is being built is in
-- no caught list.
abbrev pub given_back : Exception → ℕ → (object destructor place : ℕ) → Activation → List Activation → World → Next
given_back (native t d handlers) e o s l a fs w =
    on a (with_slot s (function_word d) (with_slot o (address_word (object_address e)) a.frame)) fs (with_item (Destroy e) w)
given_back (foreign k t) e o s l a fs w = at a.function l a.frame fs (cleaned_up e k t w)
given_back building e o s l a fs w = at a.function l a.frame fs w

-- the newest handler is left, and its exception is given back unless it goes on
abbrev pub newest_left : (object destructor place : ℕ) → Activation → List Activation → World → Next
newest_left o s l a fs w =
    next_if (may_leave w w.caught) w
    (if gives_back w.caught then given_back (exception_at w (newest_of w.caught)) (newest_of w.caught) o s l a fs (left w)
    else at a.function l a.frame fs (left w))

-- the type of `std::bad_exception`
abbrev pub is_bad : Option ℕ → Bool
is_bad None = false
is_bad (Some t) = t == bad_row

-- a constructor or destructor that does nothing is called, and comes back
abbrev pub empty_call : List Activation → World → World
empty_call fs w = record w { deepest = max w.deepest (depth_of fs + 1) }

-- a handler whose number a slot holds is called, if it holds one
abbrev pub called_held : Code → Word → Activation → List Activation → World → Next
called_held code (number_word (pos n)) a fs w = enters_function code n [] (a ∷ fs) w
called_held code _ a fs w = on a a.frame fs w

-- the destructor of an exception whose number a slot holds is called, if it holds one; that of a bad_exception does nothing
abbrev pub destroyed : Code → Word → Word → Activation → List Activation → World → Next
destroyed code (number_word (pos n)) object a fs w = enters_function code n (object ∷ []) (a ∷ fs) w
destroyed code _ object a fs w = on a a.frame fs (if is_bad (type_at w (exception_of (address_in object))) then empty_call fs w else w)

-- what the check of a list answers for an exception of a type: it is allowed, `std::bad_exception` is listed, or neither
abbrev pub checked : List TypeRow → Sense → Option ℕ → ℤ
checked rows (list_of types) t = if allows rows types t then pos 0 else if contains types bad_row then pos 1 else pos 2
checked rows _ t = pos 2

-- what a filter in a slot means by the tables of the function in a slot
abbrev pub sense_held : Code → Word → Word → Sense
sense_held code (number_word (pos n)) (number_word i) = code.sense_at n i
sense_held code _ _ = no_sense

-- one operation of the runtime's own
abbrev pub act_stub : Code → StubOp → Activation → List Activation → World → Next
act_stub code (leave_newest o s l) a fs w = newest_left o s l a fs w
act_stub code (destroy_held s o) a fs w = destroyed code (a.frame.slots s) (a.frame.slots o) a fs w
act_stub code (call_held s) a fs w = called_held code (a.frame.slots s) a fs w
act_stub code (begin_unexpected o s) a fs w =
    let e = exception_in_slot a.frame o in
    next_if (is_native (exception_at w e) && may_enter w e) w
    (on a (with_slot s (function_word (kept_with (exception_at w e)).unexpected_handler) a.frame) fs (entered e w))
act_stub code (check_unexpected s f o x) a fs w =
    let answer = checked code.rows (sense_held code (a.frame.slots f) (a.frame.slots s)) (type_at w (exception_in_slot a.frame o)) in
    on a (with_slot x (number_word answer) a.frame) fs w
act_stub code construct_bad a fs w = on a a.frame fs (empty_call fs w)
act_stub code (terminate_for o) a fs w =
    terminated (kept_with (exception_at w (exception_in_slot a.frame o))).terminate_handler (a ∷ fs) w
act_stub code abort a fs w = finishes (by_program aborted) w
