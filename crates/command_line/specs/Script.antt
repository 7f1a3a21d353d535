-- What a module replies, in words.
use Rattle.std.specs.Prelude.{ℕ, ◌==◌, ◌-◌, nat_le, List, [], ◌∷◌, sum_by, Option, Some, None, option_map, if◌then◌else◌}
use Rattle.std.specs.List.{slice_split}
use Rattle.std.specs.Option.{option_and_then}
use Rattle.eh_outer.specs.declared.module.Reply.{Reply}
use Rattle.eh_outer.specs.declared.module.Reply.TheVariants.{Value, Raise}
use Rattle.plain_text.specs.Decimal.{count_up_to, int_of, number_of}
use Rattle.command_line.specs.Parted.{parted}

-- a reply: `v` and an int, or `r` and the token that is raised
abbrev pub reply_of : List ℕ → Option Reply
reply_of [] = None
reply_of (b ∷ bs) =
    if b == 118 then option_map (λ i. Value i) (int_of bs)
    else if b == 114 then option_map (λ t. Raise t) (number_of 0xffffffff bs)
    else None

-- how many times a reply is given, by what stands behind its `*`
abbrev pub count_of : Option (List ℕ) → Option ℕ
count_of None = Some 1
count_of (Some text) = count_up_to 1000000 text

-- both, where both are there
abbrev pub both : {A B : Type 0} → Option A → Option B → Option (A × B)
both (Some a) (Some b) = Some (a, b)
both _ _ = None

-- a reply, and how many times it is given, as `r7*3`
unfoldable pub run_of : List ℕ → Option (Reply × ℕ)
run_of item = let parts = parted 42 item in both (reply_of parts.0) (count_of parts.1)

-- each of a list, where none is missing
abbrev pub all_some : {A B : Type 0} → (A → Option B) → List A → Option (List B)
all_some read [] = Some []
all_some read (a ∷ rest) = option_map (λ p. p.0 ∷ p.1) (both (read a) (all_some read rest))

-- the runs, where they give at most so many replies
abbrev pub few : ℕ → List (Reply × ℕ) → Option (List (Reply × ℕ))
few most runs = if nat_le (sum_by (λ run. run.1) runs) most then Some runs else None

-- the replies of a script, each so many times: items that are joined by `,`
unfoldable pub script_of : List ℕ → Option (List (Reply × ℕ))
script_of text = option_and_then (few 1000000) (all_some run_of (slice_split (λ b. b == 44) text))

-- the runs that items give, where these are at most `left` replies
abbrev pub within : ℕ → Reply × ℕ → (ℕ → Option (List (Reply × ℕ))) → Option (List (Reply × ℕ))
within left run next = if nat_le run.1 left then option_map (λ runs. run ∷ runs) (next (left - run.1)) else None

abbrev pub run_within : ℕ → Option (Reply × ℕ) → (ℕ → Option (List (Reply × ℕ))) → Option (List (Reply × ℕ))
run_within left None next = None
run_within left (Some run) next = within left run next

unfoldable pub runs_within : ℕ → List (List ℕ) → Option (List (Reply × ℕ))
runs_within left [] = Some []
runs_within left (item ∷ items) = run_within left (run_of item) (λ rest. runs_within rest items)
