-- Why a table is refused, and which of several refusals answers.
use Rattle.std.specs.Prelude.{ℕ, ◌+◌, ◌==◌, ◌&&◌, ◌||◌, nat_lt, nat_le, Bool, List, [], ◌∷◌, take, Option, Some, None, Result, Ok, Err, if◌then◌else◌}
use Rattle.eh_bytes.specs.declared.error.ByteError.{ByteError}
use Rattle.eh_bytes.specs.declared.error.ByteError.TheVariants as causes
use Rattle.eh_bytes.specs.Memory.{Part}
use Rattle.eh_bytes.specs.Field.{Field, at}
use Rattle.table_forms.specs.declared.reason.Reason.{Reason}
use Rattle.table_forms.specs.declared.reason.Reason.TheVariants.{TableTruncated, LebRange, Encoding, FrameTruncated}
use Rattle.table_forms.specs.Numbered.{number_of}

-- a reason, a place in the file, and two locations where they differ, else 0
pub record Fault : Type 0 where
  pub reason : Reason
  pub place : ℕ
  pub location : ℕ
  pub other : ℕ

abbrev pub fault : Reason → ℕ → Fault
fault reason place = record { reason = reason; place = place; location = 0; other = 0 }

-- the first of two refusals stands at an earlier place, or at the same with a number that is not greater
unfoldable pub is_before : Fault → Fault → Bool
is_before f g = nat_lt f.place g.place || (f.place == g.place && nat_le (number_of f.reason) (number_of g.reason))

-- the one that answers, of one and perhaps another
abbrev pub lesser : Fault → Option Fault → Option Fault
lesser f None = Some f
lesser f (Some g) = if is_before f g then Some f else Some g

-- the one that answers of all: the least place, then the least number
unfoldable pub least : List Fault → Option Fault
least [] = None
least (f ∷ fs) = lesser f (least fs)

-- the one that answers of two lists
abbrev pub joined : Option Fault → Option Fault → Option Fault
joined None g = g
joined (Some f) g = lesser f g

-- what is read where nothing is refused
abbrev pub answer : {A : Type 0} → Option Fault → A → Result A Fault
answer None a = Ok a
answer (Some f) a = Err f

-- a value, or the refusal that ends the reading
infixl 10 ◌>>=◌
abbrev pub ◌>>=◌ : {A B : Type 0} → Result A Fault → (A → Result B Fault) → Result B Fault
(Ok x) >>= f = f x
(Err e) >>= f = Err e

-- a condition, or the refusal for this reason at this place
abbrev pub demand : Bool → Reason → ℕ → Result Bool Fault
demand holds reason place = if holds then Ok holds else Err (fault reason place)

-- the refusals of a list of conditions
abbrev pub unless : Bool → Reason → ℕ → List Fault
unless holds reason place = if holds then [] else fault reason place ∷ []

abbrev pub refusal_of : {A : Type 0} → Result A Fault → List Fault
refusal_of (Ok x) = []
refusal_of (Err f) = f ∷ []

-- why a table of sites is refused at a field
abbrev pub table_reason : ByteError → Reason
table_reason causes.Truncated = TableTruncated
table_reason causes.LebRange = LebRange
table_reason causes.Encoding = Encoding

-- why the frames are refused at a field
abbrev pub frame_reason : ByteError → Reason
frame_reason causes.Truncated = FrameTruncated
frame_reason causes.LebRange = LebRange
frame_reason causes.Encoding = Encoding

-- what was read, or the refusal at this place, whose reason is the cause's
abbrev pub with_reason : {A : Type 0} → (ByteError → Reason) → ℕ → Result A ByteError → Result A Fault
with_reason reason place (Ok x) = Ok x
with_reason reason place (Err cause) = Err (fault (reason cause) place)

-- a field at a place of a part, where the bytes end at a stop and a refusal stands at the field
abbrev pub field_of : {A : Type 0} → (ByteError → Reason) → Field A → Part → ℕ → ℕ → Result (A × ℕ) Fault
field_of reason field part stop p = with_reason reason (part.file_at + p) (at field (take stop part.bytes) p)
