-- What a module can answer: an int of 32 bits, or a token of 32 bits.
use Rattle.std.specs.Prelude.{◌≡◌, ◌&&◌, ◌<◌, ◌-◌, ◌^◌, ℕ, zero, suc, ℤ, pos, negsuc, Bool, true, List, [], ◌∷◌, ◌++◌, drop, replicate, int_le}
use Rattle.std.specs.List.{AllByRecursion, AllByRecursion-prop}
use Rattle.std.specs.Coded.{coded_bool, le_prop}
use denote.Struct.Props.{≡_prop}
use Rattle.eh_outer.specs.declared.module.Reply.{Reply}
use Rattle.eh_outer.specs.declared.module.Reply.TheVariants.{Value, Raise}
use Rattle.eh_outer.specs.Replies.{repeated, replies_of}

-- at least -2^31, and below 2^31
abbrev pub is_int : ℤ → Bool
is_int z = int_le (negsuc (2 ^ 31 - 1)) z && int_le z (pos (2 ^ 31 - 1))

-- an int that a call returns, or a token that it raises
abbrev pub ReplyIsInt : Reply → Type 0
ReplyIsInt (Value z) = is_int z ≡ true
ReplyIsInt (Raise token) = token < 2 ^ 32

-- each of the replies is one that a call can give
abbrev pub RepliesAreInts : List Reply → Type 0
RepliesAreInts replies = AllByRecursion ReplyIsInt replies

-- each of the runs repeats a reply that a call can give
abbrev pub RunsAreInts : List (Reply × ℕ) → Type 0
RunsAreInts runs = AllByRecursion (λ run. ReplyIsInt run.0) runs

-- ---- each has at most one proof

pub ReplyIsInt-prop : (r : Reply) → IsProp (ReplyIsInt r)
ReplyIsInt-prop (Value z) = ≡_prop coded_bool _ _
ReplyIsInt-prop (Raise token) = le_prop

pub RepliesAreInts-prop : (replies : List Reply) → IsProp (RepliesAreInts replies)
RepliesAreInts-prop replies = AllByRecursion-prop ReplyIsInt ReplyIsInt-prop replies

pub RunsAreInts-prop : (runs : List (Reply × ℕ)) → IsProp (RunsAreInts runs)
RunsAreInts-prop runs = AllByRecursion-prop (λ run. ReplyIsInt run.0) (λ run. ReplyIsInt-prop run.0) runs

-- ---- what is left of them

pub all_dropped : {A : Type 0} (P : A → Type 0) (n : ℕ) (xs : List A) → AllByRecursion P xs → AllByRecursion P (drop n xs)
all_dropped P zero xs h = h
all_dropped P (suc n) [] h = h
all_dropped P (suc n) (x ∷ xs) h = all_dropped P n xs h.1

all_joined : {A : Type 0} (P : A → Type 0) (xs ys : List A) → AllByRecursion P xs → AllByRecursion P ys → AllByRecursion P (xs ++ ys)
all_joined P [] ys h k = k
all_joined P (x ∷ xs) ys h k = (h.0, all_joined P xs ys h.1 k)

all_repeated : {A : Type 0} (P : A → Type 0) (n : ℕ) (x : A) → P x → AllByRecursion P (replicate n x)
all_repeated P zero x h = tt
all_repeated P (suc n) x h = (h, all_repeated P n x h)

runs_reply : (runs : List (Reply × ℕ)) → RunsAreInts runs → RepliesAreInts (replies_of runs)
runs_reply [] h = tt
runs_reply (run ∷ runs) h = all_joined ReplyIsInt (repeated run) (replies_of runs) (all_repeated ReplyIsInt run.1 run.0 h.0) (runs_reply runs h.1)

-- the rest of a run, and the runs behind it
pub runs_left : (left : ℕ) (reply : Reply) (begun : ℕ) (runs : List (Reply × ℕ)) → ReplyIsInt reply → RunsAreInts runs → RepliesAreInts (replicate left reply ++ replies_of (drop begun runs))
runs_left left reply begun runs h k =
    all_joined ReplyIsInt (replicate left reply) (replies_of (drop begun runs)) (all_repeated ReplyIsInt left reply h) (runs_reply (drop begun runs) (all_dropped (λ run. ReplyIsInt run.0) begun runs k))
