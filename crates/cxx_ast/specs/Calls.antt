-- Calls (ISO/IEC 14882:2003, 5.2.2, 9.3.2), and those of built-in functions (18.6; `write_int`, `read_byte`, `exit`, `__module`, `__cancel`:
-- profile).
use Rattle.std.specs.Prelude.{ℕ, Bool, not, ◌&&◌, ◌==◌, List, [], ◌∷◌, ◌++◌, length, bytes_eq, codes, Option, Some, None, if◌then◌else◌}
use Rattle.cxx_ast.specs.declared.name.Name.{Name}
use Rattle.cxx_ast.specs.declared.name.Builtin.{Builtin}
use Rattle.cxx_ast.specs.declared.name.Builtin.TheVariants.{WriteInt, ReadByte, Exit, Module, Cancel, Terminate, SetTerminate, SetUnexpected, Uncaught}
use Rattle.cxx_ast.specs.Environment.{Kind, int_kind, truth_kind, void_kind, class_kind, no_kind, same_kind, Signature, Environment, Scope, Meaning, unknown, a_method, a_function, a_class, a_builtin}
use Rattle.cxx_ast.specs.Lookup.{look, member_meaning}
use Rattle.cxx_ast.specs.Rule.{unknown_name, type_mismatch, arity, const_write, main_use, handler_form}
use Rattle.cxx_ast.specs.Finding.{Finding, breaks, uses, is_sound, breaks_if}
use Rattle.cxx_ast.specs.Lvalue.{Reached, reached, first_place, last_place}
use Rattle.cxx_ast.specs.Reference.{Judgement, int_found, arguments_found, all_found}
use Rattle.cxx_ast.specs.Construct.{construction_found}

-- a call's type, and what is broken in it
pub record Valued : Type 0 where
  pub kind : Kind
  pub found : List Finding

-- a call that breaks a rule itself
abbrev pub broken_call : List Finding → List Judgement → Valued
broken_call found given = record { kind = no_kind; found = found ++ all_found given }

-- a type, where no rule is broken
abbrev pub if_sound : Kind → List Finding → Valued
if_sound kind found = record { kind = if is_sound found then kind else no_kind; found = found }

-- the call of a function
abbrev pub call_valued : Environment → Signature → ℕ → List Judgement → Valued
call_valued env s place given =
    if length given == length s.parameters then if_sound s.result (arguments_found env s.parameters given)
    else broken_call (breaks arity place ∷ []) given

-- each expression is an int
abbrev pub ints_found : List Judgement → List Finding
ints_found [] = []
ints_found (a ∷ more) = int_found a ++ ints_found more

-- the name of a function without parameters and value is needed, and not that of `main`
abbrev pub handler_meant : ℕ → Meaning → List Finding
handler_meant place unknown = breaks unknown_name place ∷ []
handler_meant place (a_function s) =
    uses s.name ∷ breaks_if (bytes_eq s.name.text (codes "main")) main_use place
    ++ breaks_if (not (same_kind s.result void_kind && length s.parameters == 0)) handler_form place
handler_meant place _ = breaks handler_form place ∷ []

-- the argument of set_terminate or set_unexpected, by the names that it is
abbrev pub handler_named : Environment → Scope → Judgement → List Name → List Finding
handler_named env sc a (n ∷ []) = handler_meant a.place (look env sc n)
handler_named env sc a _ = breaks handler_form a.place ∷ a.found

-- the arguments of set_terminate or set_unexpected
abbrev pub handler_found : Environment → Scope → ℕ → List Judgement → List Finding
handler_found env sc place (a ∷ []) = elim a.target [ Some t ↦ handler_named env sc a t.names | None ↦ breaks handler_form a.place ∷ a.found ]
handler_found env sc place _ = breaks arity place ∷ []

-- how many ints a built-in function takes
abbrev pub builtin_ints : Builtin → ℕ
builtin_ints WriteInt = 1
builtin_ints Exit = 1
builtin_ints Module = 2
builtin_ints Cancel = 1
builtin_ints _ = 0

-- what a built-in function gives
abbrev pub builtin_kind : Builtin → Kind
builtin_kind ReadByte = int_kind
builtin_kind Module = int_kind
builtin_kind Uncaught = truth_kind
builtin_kind _ = void_kind

-- a built-in function that takes ints
abbrev pub ints_valued : Builtin → ℕ → List Judgement → Valued
ints_valued b place given =
    if length given == builtin_ints b then if_sound (builtin_kind b) (ints_found given) else broken_call (breaks arity place ∷ []) given

-- the call of a built-in function
abbrev pub builtin_valued : Environment → Scope → Builtin → ℕ → List Judgement → Valued
builtin_valued env sc SetTerminate place given = if_sound void_kind (handler_found env sc place given)
builtin_valued env sc SetUnexpected place given = if_sound void_kind (handler_found env sc place given)
builtin_valued env sc b place given = ints_valued b place given

-- a construction, which may stand only as the whole operand of throw (profile; else `type_mismatch` stands at the first place)
abbrev pub construction_valued : Environment → Bool → ℕ → ℕ → ℕ → List Judgement → Valued
construction_valued env thrown k first place given =
    if thrown then if_sound (class_kind k) (construction_found env k given place place) else broken_call (breaks type_mismatch first ∷ []) given

-- the call of what a name means
abbrev pub meant_valued : Environment → Scope → Bool → Name → List Judgement → Meaning → Valued
meant_valued env sc thrown n given unknown = broken_call (breaks unknown_name n.place ∷ []) given
meant_valued env sc thrown n given (a_method k i s) = call_valued env s n.place given
meant_valued env sc thrown n given (a_function s) =
    let v = if bytes_eq n.text (codes "main") then broken_call (breaks main_use n.place ∷ []) given else call_valued env s n.place given in
    record { kind = v.kind; found = uses s.name ∷ v.found }
meant_valued env sc thrown n given (a_class k) = construction_valued env thrown k n.place n.place given
meant_valued env sc thrown n given (a_builtin b) = builtin_valued env sc b n.place given
meant_valued env sc thrown n given _ = broken_call (breaks type_mismatch n.place ∷ []) given

-- the call of a member of class k, on an object that is const or not
abbrev pub member_valued : Environment → Bool → ℕ → Name → List Judgement → Meaning → Valued
member_valued env through_const first n given unknown = broken_call (breaks unknown_name n.place ∷ []) given
member_valued env through_const first n given (a_method k i s) =
    let v = call_valued env s n.place given in
    record { kind = if through_const then no_kind else v.kind; found = v.found ++ breaks_if through_const const_write first }
member_valued env through_const first n given _ = broken_call (breaks type_mismatch n.place ∷ []) given

-- the names before the last
abbrev pub receiver : List Name → List Name
receiver [] = []
receiver (n ∷ []) = []
receiver (n ∷ m ∷ names) = n ∷ receiver (m ∷ names)

-- the last of some names
abbrev pub last_name : Name → List Name → Name
last_name n [] = n
last_name n (m ∷ names) = last_name m names

-- a call on the object that names reach
abbrev pub on_object_valued : Environment → List Name → Name → List Judgement → Reached → Kind → Valued
on_object_valued env names n given r no_kind = broken_call r.found given
on_object_valued env names n given r (class_kind k) = member_valued env r.is_const (first_place names) n given (member_meaning env k n.text)
on_object_valued env names n given r _ = broken_call (breaks type_mismatch (last_place (receiver names)) ∷ []) given

-- a call by its names; it may be the whole operand of throw
abbrev pub names_valued : Environment → Scope → Bool → List Name → List Judgement → Valued
names_valued env sc thrown [] given = broken_call [] given
names_valued env sc thrown (n ∷ []) given = meant_valued env sc thrown n given (look env sc n)
names_valued env sc thrown (n ∷ m ∷ names) given =
    let r = reached env sc (receiver (n ∷ m ∷ names)) in
    on_object_valued env (n ∷ m ∷ names) (last_name m names) given r r.kind

-- the functions of `std` (18.6.2.3, 18.6.3.2, 18.6.3.3, 18.6.4)
abbrev pub std_builtin : List ℕ → Option Builtin
std_builtin text =
    if bytes_eq text (codes "terminate") then Some Terminate
    else if bytes_eq text (codes "uncaught_exception") then Some Uncaught
    else if bytes_eq text (codes "set_terminate") then Some SetTerminate
    else if bytes_eq text (codes "set_unexpected") then Some SetUnexpected
    else None

-- a call of `std::` something, where `std` stands at a place
abbrev pub std_valued : Environment → Scope → Bool → ℕ → Name → List Judgement → Valued
std_valued env sc thrown place n given =
    if bytes_eq n.text (codes "bad_exception") then construction_valued env thrown 0 place n.place given
    else elim (std_builtin n.text) [
      | None ↦ broken_call (breaks unknown_name n.place ∷ []) given
      | Some b ↦ builtin_valued env sc b n.place given
    ]
