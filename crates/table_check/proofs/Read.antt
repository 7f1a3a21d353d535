-- What holds of all that is read, by what holds of its steps.
use Rattle.std.proofs.Common.{◌≡◌, Bool, true, false, ℕ, Ok, Err, Result, refl, subst}
use Rattle.std.specs.Prelude.{Option, Some, None}
use Rattle.std.specs.Bool.{⊤}
use Rattle.table_forms.specs.declared.reason.Reason.{Reason}
use Rattle.table_forms.specs.Fault.{Fault, ◌>>=◌, demand, answer}

-- if it is read at all
unfoldable pub IfRead : {A : Type 0} → (A → Type 0) → Result A Fault → Type 0
IfRead P (Ok x) = P x
IfRead P (Err f) = ⊤

pub bind : {A B : Type 0} (P : B → Type 0) (r : Result A Fault) (k : A → Result B Fault) → ((x : A) → r ≡ Ok x → IfRead P (k x)) → IfRead P (r >>= k)
unfolding IfRead
bind P (Ok x) k step = step x refl
bind P (Err f) k step = tt

pub read_at : {A : Type 0} (P : A → Type 0) (r : Result A Fault) (x : A) → r ≡ Ok x → IfRead P r → P x
unfolding IfRead
read_at P r x e all = subst (IfRead P) e all

-- a demand that is met
pub met : (b : Bool) (reason : Reason) (p : ℕ) (x : Bool) → demand b reason p ≡ Ok x → b ≡ true
met true reason p x e = refl
met false reason p x e = absurd cc

pub if_read : {A : Type 0} (P : A → Type 0) (r : Result A Fault) → ((x : A) → r ≡ Ok x → P x) → IfRead P r
unfolding IfRead
if_read P (Ok x) all = all x refl
if_read P (Err f) all = tt

pub unread : {A : Type 0} (P : A → Type 0) (f : Fault) → IfRead P (Err f)
unfolding IfRead
unread P f = tt

pub answered : {A : Type 0} (P : A → Type 0) (o : Option Fault) (x : A) → P x → IfRead P (answer o x)
unfolding IfRead
answered P None x all = all
answered P (Some f) x all = tt
