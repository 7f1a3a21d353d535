-- What is known of the files that were read, or not.
use Rattle.std.proofs.Common.{◌≡◌, ◌≤◌, ℕ, List, length, Option, Some, None, IfSome, inl, inr, subst, arith}
use Rattle.std.specs.Prelude.{◌<◌, IsSomeAnd}
use Rattle.std.specs.FinMap.{get, insert}
use Rattle.eh_outer.specs.Store.{Files, StoreView, Refuses}
use Rattle.eh_outer.specs.declared.store.RefusalKind.{RefusalKind}
use Rattle.eh_commands.specs.declared.status.Status.{Status}
use Rattle.eh_commands.specs.declared.status.Status.TheVariants.{Done, Usage, SourceRefused, ImageRefused, ScheduleRefused, ReadFault, TooLong, WriteFault, NoMemory, Aborted, Budget, Stack, MachineFault, Undefined, Differs}
use Rattle.eh_commands.specs.File.{Asked, ToldInput, ToldBoth, Unread, UnreadInput, UnreadEither, IsFile, IsInput, input_limit}

told_input : (i : Option (List ℕ)) (store : StoreView) (input : List ℕ) (P : List ℕ → Type 0) → IsInput store i input → P input → ToldInput store i P
told_input None store input P e holds = subst P e holds
told_input (Some name) store input P is holds = (input, is, holds)

-- what holds of the file and the input that were read
pub told_both : (limit : ℕ) (a : Asked) (store : StoreView) (file input : List ℕ) (P : List ℕ → List ℕ → Type 0) → IsFile limit store a.source file → IsInput store a.input input → P file input →
    ToldBoth limit a store P
told_both limit a store file input P file_is input_is holds =
    (file, file_is, told_input a.input store input (P file) input_is holds)

-- the store between two readings tells the files of before
pub input_since : (i : Option (List ℕ)) (old mid : StoreView) (input : List ℕ) → mid.files ≡ old.files → IsInput mid i input → IsInput old i input
input_since None old mid input same is = is
input_since (Some name) old mid input same is = (is.0, subst (λ f. IfSome f (λ files. get files name ≡ Some input)) same is.1)

-- and what it refuses behind them, it refuses since before
pub refused_since : (kind : RefusalKind) (name : List ℕ) (old mid new : StoreView) → old.faults ≤ mid.faults → Refuses mid new kind name → Refuses old new kind name
refused_since kind name old mid new later why = record { rose = (let rose = why.rose in omega (arith, later, rose)); last = why.last }

-- what is stored then is stored since before
pub stored_since : (name bytes : List ℕ) (before mid after : Option Files) → mid ≡ before → IfSome mid (λ files. after ≡ Some (insert files name bytes)) →
    IfSome before (λ files. after ≡ Some (insert files name bytes))
stored_since name bytes before mid after same h = subst (λ f. IfSome f (λ files. after ≡ Some (insert files name bytes))) same h

pub unread_since : (limit : ℕ) (name : List ℕ) (old mid new : StoreView) → old.faults ≤ mid.faults → mid.files ≡ old.files → (status : Status) → Unread limit name mid new status → Unread limit name old new status
unread_since limit name old mid new later same ReadFault why = refused_since _ name old mid new later why
unread_since limit name old mid new later same TooLong (n, above, why, long) =
    (n, above, refused_since _ name old mid new later why, subst (λ f. IfSome f (λ files. IsSomeAnd (get files name) (λ file. limit < length file))) same long)
unread_since limit name old mid new later same NoMemory why = tt
unread_since limit name old mid new later same Done why = absurd why
unread_since limit name old mid new later same Usage why = absurd why
unread_since limit name old mid new later same (SourceRefused number place) why = absurd why
unread_since limit name old mid new later same (ImageRefused number place location other) why = absurd why
unread_since limit name old mid new later same WriteFault why = absurd why
unread_since limit name old mid new later same Aborted why = absurd why
unread_since limit name old mid new later same Budget why = absurd why
unread_since limit name old mid new later same Stack why = absurd why
unread_since limit name old mid new later same (MachineFault kind place) why = absurd why
unread_since limit name old mid new later same (ScheduleRefused number place) why = absurd why
unread_since limit name old mid new later same Undefined why = absurd why
unread_since limit name old mid new later same Differs why = absurd why

input_unread_since : (i : Option (List ℕ)) (old mid new : StoreView) → old.faults ≤ mid.faults → mid.files ≡ old.files → (status : Status) → UnreadInput i mid new status → UnreadInput i old new status
input_unread_since None old mid new later same status why = why
input_unread_since (Some name) old mid new later same status why = unread_since input_limit name old mid new later same status why

-- the file was read, and its input was not
pub input_unread : (limit : ℕ) (a : Asked) (file : List ℕ) (old mid new : StoreView) → IsFile limit old a.source file → old.faults ≤ mid.faults → mid.files ≡ old.files →
    (status : Status) → UnreadInput a.input mid new status → UnreadEither limit a old new status
input_unread limit a file old mid new is later same status why =
    inr ((file, is, tt), input_unread_since a.input old mid new later same status why)

-- a file that is not read has one of three statuses
pub unread_one : (P : Status → Type 0) → P ReadFault → P TooLong → P NoMemory → (limit : ℕ) (name : List ℕ) (old new : StoreView) (status : Status) → Unread limit name old new status → P status
unread_one P fault long memory limit name old new ReadFault why = fault
unread_one P fault long memory limit name old new TooLong why = long
unread_one P fault long memory limit name old new NoMemory why = memory
unread_one P fault long memory limit name old new Done why = absurd why
unread_one P fault long memory limit name old new Usage why = absurd why
unread_one P fault long memory limit name old new (SourceRefused number place) why = absurd why
unread_one P fault long memory limit name old new (ImageRefused number place location other) why = absurd why
unread_one P fault long memory limit name old new WriteFault why = absurd why
unread_one P fault long memory limit name old new Aborted why = absurd why
unread_one P fault long memory limit name old new Budget why = absurd why
unread_one P fault long memory limit name old new Stack why = absurd why
unread_one P fault long memory limit name old new (MachineFault kind place) why = absurd why
unread_one P fault long memory limit name old new (ScheduleRefused number place) why = absurd why
unread_one P fault long memory limit name old new Undefined why = absurd why
unread_one P fault long memory limit name old new Differs why = absurd why

unread_input : (P : Status → Type 0) → P ReadFault → P TooLong → P NoMemory → (i : Option (List ℕ)) (old new : StoreView) (status : Status) → UnreadInput i old new status → P status
unread_input P fault long memory None old new status why = absurd why
unread_input P fault long memory (Some name) old new status why = unread_one P fault long memory input_limit name old new status why

-- so has one of which the file or its input is not read
pub unread_either : (limit : ℕ) (a : Asked) (old new : StoreView) (P : Status → Type 0) → (UnreadEither limit a old new ReadFault → P ReadFault) → (UnreadEither limit a old new TooLong → P TooLong) → P NoMemory →
    (status : Status) → UnreadEither limit a old new status → P status
unread_either limit a old new P fault long memory status (inl why) =
    unread_one (λ s. UnreadEither limit a old new s → P s) fault long (λ either. memory) limit a.source old new status why (inl why)
unread_either limit a old new P fault long memory status (inr (told, why)) =
    unread_input (λ s. UnreadEither limit a old new s → P s) fault long (λ either. memory) a.input old new status why (inr (told, why))
