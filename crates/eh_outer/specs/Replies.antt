-- The replies that a module in memory is made with.
use Rattle.std.specs.Prelude.{ℕ, Bool, true, false, List, flat_map, replicate, count_by, sum_by, cond, min}
use Rattle.eh_outer.specs.declared.module.Reply.{Reply}
use Rattle.eh_outer.specs.declared.module.Reply.TheVariants.{Value, Raise}

-- a reply raises an exception
abbrev pub raises : Reply → Bool
raises (Value v) = false
raises (Raise token) = true

-- how many of the replies raise
abbrev pub raise_count : List Reply → ℕ
raise_count replies = count_by raises replies

-- a reply, so many times
abbrev pub repeated : Reply × ℕ → List Reply
repeated run = replicate run.1 run.0

-- the replies of runs, in order
abbrev pub replies_of : List (Reply × ℕ) → List Reply
replies_of runs = flat_map repeated runs

-- how many tokens a run of replies can raise
abbrev pub raised_by : Reply × ℕ → ℕ
raised_by run = cond (raises run.0) run.1 0

-- how many tokens the runs can raise, at most so many
abbrev pub room_up_to : ℕ → List (Reply × ℕ) → ℕ
room_up_to most runs = min (sum_by raised_by runs) most

-- how many tokens runs of replies keep: as many as they can raise, at most 1,000,000
abbrev pub room_of : List (Reply × ℕ) → ℕ
room_of runs = room_up_to 1000000 runs

-- the tokens that a module keeps, in order, and how many it can keep
pub record TokensView : Type 0 where
  pub kept : List ℕ
  pub room : ℕ
